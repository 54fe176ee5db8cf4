-- The receipts in the order of a run, one by one.
use Rattle.std.proofs.lemmas.Grind.{common_steps}
use Rattle.std.proofs.Common.{rules, ℕ, ◌≡◌, ◌<◌, ◌≤◌, ◌+◌, ◌⊎◌, inl, inr, Option, Some, None, List, [], ◌∷◌, ◌++◌}
use Rattle.std.proofs.Common.{length}
use Rattle.std.proofs.Common.{get_or, take, sym, ◌∙◌, arith}
use Rattle.std.specs.Prelude.{MatchOption}
use Rattle.std.proofs.lemmas.Bool.{cases_lt}
use Rattle.std.proofs.lemmas.List.{get_or_default, map_push, take-map, take_more}
use Rattle.log_audit.specs.Matching.{LoggedReceipt}
use Rattle.log_audit.specs.Replays.{IsLowest, IsLowestOf, IsPlain, IsPlainAt, ops_in}
use Rattle.log_audit.specs.declared.replay.Wrong.{Wrong}

pub ops_in-more : (all : List LoggedReceipt) (i : ℕ) (one : LoggedReceipt)
    → i < length all → one ≡ get_or all i one → ops_in (take (i + 1) all) ≡ ops_in (take i all) ++ one.receipt.op ∷ []
ops_in-more all i one lt is = grind (arith, common_steps, map_push, take_more)

pub take-ops_in : (all : List LoggedReceipt) (i : ℕ) → take i (ops_in all) ≡ ops_in (take i all)
take-ops_in all i = take-map (λ (one : LoggedReceipt). one.receipt.op) i all

abbrev pub wrong_of : LoggedReceipt → Wrong
wrong_of one = record { number = one.number; session = one.session; index = one.index }

-- the item at a place
item_at : (all : List LoggedReceipt) (i : ℕ) (one otherwise : LoggedReceipt)
    → i < length all → one ≡ get_or all i one → get_or all i otherwise ≡ one
item_at all i one otherwise lt is = sym (get_or_default all i one otherwise lt) ∙ sym is

plain_at : (all : List LoggedReceipt) (i at : ℕ) (one otherwise : LoggedReceipt)
    → i < length all → one ≡ get_or all i one → IsPlain (take i all) one → i ≡ at → IsPlainAt all at otherwise
plain_at all i at one otherwise lt is plain same = grind (arith, common_steps, item_at)

pub right_more : (all : List LoggedReceipt) (i : ℕ) (one : LoggedReceipt) (lowest : Option Wrong)
    → i < length all → one ≡ get_or all i one → IsPlain (take i all) one
    → IsLowestOf all i lowest → IsLowestOf all (i + 1) lowest
right_more all i one None lt is plain so_far = grind (arith, common_steps, cases_lt, plain_at)
right_more all i one (Some wrong) lt is plain so_far = search (rules, cases_lt, plain_at)

now_lowest : (all : List LoggedReceipt) (i : ℕ) (one : LoggedReceipt)
    → i < length all → one ≡ get_or all i one → (IsPlain (take i all) one → ⊥)
    → ((other : ℕ) (otherwise : LoggedReceipt)
    → other < i → (get_or all other otherwise).number < one.number → IsPlainAt all other otherwise)
    → IsLowest all (i + 1) (wrong_of one)
now_lowest all i one lt is wrong lower = grind (arith, common_steps, cases_lt, item_at)

pub wrong_more : (all : List LoggedReceipt) (i : ℕ) (one : LoggedReceipt) (lowest next : Option Wrong)
    → i < length all → one ≡ get_or all i one → (IsPlain (take i all) one → ⊥)
    → MatchOption lowest (next ≡ Some (wrong_of one)) (λ wrong. ((wrong.number ≤ one.number) × (next ≡ Some wrong))
    ⊎ ((one.number < wrong.number) × (next ≡ Some (wrong_of one))))
    → IsLowestOf all i lowest → IsLowestOf all (i + 1) next
wrong_more all i one None next lt is wrong then_next so_far = grind (arith, common_steps, now_lowest)
wrong_more all i one (Some held) next lt is wrong (inl (low, same)) so_far = search (rules, cases_lt, item_at)
wrong_more all i one (Some held) next lt is wrong (inr (low, same)) so_far = search (rules, now_lowest)
