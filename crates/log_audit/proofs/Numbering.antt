-- Receipts in the order of a run, of which each stands after as many changes as its place says.
use Rattle.std.proofs.lemmas.Grind.{common_steps}
use Rattle.std.proofs.Common.{ℕ, zero, suc, ◌≡◌, ◌<◌, ◌≤◌, ◌+◌, ◌*◌, inl, inr, Bool, true, false, cond, List, [], ◌∷◌}
use Rattle.std.proofs.Common.{◌++◌, length, get_or, take, All, Any, refl, sym, ap, subst, ◌∙◌, arith}
use Rattle.std.proofs.Math.ListN.{get_or-append}
use Rattle.std.proofs.lemmas.Bool.{cases_lt, cases_eq}
use Rattle.std.proofs.lemmas.List.{get_or_push, get_or-take, get_or_default, length-append, length-take-le, map_push}
use Rattle.std.proofs.lemmas.List.Quantifiers.{Any-push}
use Rattle.std.proofs.lemmas.List.Sums.{sum_by_push}
use Rattle.op_book.specs.Receipts.{Precedes, key_of}
use Rattle.log_audit.specs.Matching.{IsFirstMissing, IsReceived, LoggedReceipt}
use Rattle.op_book.specs.Operations.{PlainReceipt, changes_in, is_change}
use Rattle.log_audit.specs.Replays.{AreNumbered, AreRising, ops_in}
use Rattle.op_book.proofs.EntryLaws.{EachAfter-push}

abbrev pub one_if : Bool → ℕ
one_if b = cond b 1 0

-- a receipt's key by what it is of
pub key_by : (r : PlainReceipt) (b : Bool) → is_change r.op ≡ b → key_of r ≡ 2 * r.at + one_if b
key_by r true is = ap (λ b. cond b (2 * r.at + 1) (2 * r.at)) is
key_by r false is = let e : key_of r ≡ 2 * r.at = ap (λ b. cond b (2 * r.at + 1) (2 * r.at)) is in omega (arith, e)

one_if-le : (b : Bool) → one_if b ≤ 1
one_if-le true = omega arith
one_if-le false = omega arith

-- places don't fall along a run, and rise after a change
pub Precedes-le : (a b : PlainReceipt) → Precedes a b → a.at + one_if (is_change a.op) ≤ b.at
Precedes-le a b (inl less) = grind (arith, common_steps, key_by, one_if-le)
Precedes-le a b (inr (same, report)) = grind (arith, common_steps, key_by, one_if-le)

-- the first receipts: so many changes, whose places are all below that number, and each number below it is one
pub record IsCounted (seen : List LoggedReceipt) (done : ℕ) : Type 0 where
  pub count : done ≡ changes_in (ops_in seen)
  pub numbered : AreNumbered seen
  pub received : (place : ℕ) → place < done → IsReceived seen place
  pub below : All (λ one. is_change one.receipt.op ≡ true → one.receipt.at < done) seen

pub IsCounted-empty : IsCounted [] 0
IsCounted-empty = grind (arith, common_steps)

pub changes-push : (seen : List LoggedReceipt) (one : LoggedReceipt)
    → changes_in (ops_in (seen ++ one ∷ [])) ≡ changes_in (ops_in seen) + one_if (is_change one.receipt.op)
changes-push seen one = grind (arith, common_steps, map_push, sum_by_push)

pub any_more : {X : Type 0} (P : X → Type 0) (xs : List X) (last : X) → Any P xs → Any P (xs ++ last ∷ [])
any_more P xs last (k, x, inside, there, has) =
    (k, x, omega (arith, length-append xs (last ∷ []), inside), get_or-append xs (last ∷ []) x k inside ∙ there, has)

pub IsCounted-push : (seen : List LoggedReceipt) (done : ℕ) (one : LoggedReceipt) → IsCounted seen done
    → one.receipt.at ≡ done → IsCounted (seen ++ one ∷ []) (done + one_if (is_change one.receipt.op))
IsCounted-push seen done one is place = record {
  count = ap (λ n. n + one_if (is_change one.receipt.op)) is.count ∙ sym (changes-push seen one);
  numbered = EachAfter-push
      (λ before last. last.receipt.at ≡ changes_in (ops_in before)) seen one is.numbered (place ∙ is.count);
  received = received (is_change one.receipt.op) refl;
  below = below;
}
  where
    received : (b : Bool) → is_change one.receipt.op ≡ b
        → (other : ℕ) → other < done + one_if (is_change one.receipt.op) → IsReceived (seen ++ one ∷ []) other
    received true change other lt =
        let more : one_if (is_change one.receipt.op) ≡ 1 = ap one_if change in
        elim (cases_lt other done) [
          | inl before ↦ any_more (λ (r : LoggedReceipt). (is_change r.receipt.op ≡ true) × (r.receipt.at ≡ other))
              seen one (is.received other before)
          | inr now ↦ Any-push (λ (r : LoggedReceipt). (is_change r.receipt.op ≡ true) × (r.receipt.at ≡ other))
              seen one (change, omega (arith, more, lt, now, place))
        ]
    received false report other lt =
        let more : one_if (is_change one.receipt.op) ≡ 0 = ap one_if report in
        any_more (λ (r : LoggedReceipt). (is_change r.receipt.op ≡ true) × (r.receipt.at ≡ other)) seen one
        (is.received other (omega (arith, more, lt)))

    below : All (λ (r : LoggedReceipt). is_change r.receipt.op ≡ true
        → r.receipt.at < done + one_if (is_change one.receipt.op)) (seen ++ one ∷ [])
    below k d lt = grind (arith, common_steps, cases_lt, get_or-append, get_or_push, length-append, is.below k d, place)

-- no receipt stands before the changes that were seen
pub at_least : (all : List LoggedReceipt) (i done : ℕ) (one : LoggedReceipt)
    → AreRising all → i < length all → one ≡ get_or all i one → IsCounted (take i all) done → done ≤ one.receipt.at
at_least all i zero one rising lt is counted = omega arith
at_least all i (suc place) one rising lt is counted =
    let (k, x, inside, there, (change, at)) = counted.received place (omega arith) in
    let k_lt : k < i = omega (arith, length-take-le i all (omega arith), inside) in
    let item : get_or all k x ≡ x = sym (get_or-take i all k x k_lt) ∙ there in
    let last : get_or all i x ≡ one = sym (get_or_default all i one x lt) ∙ sym is in
    let order = Precedes-le x.receipt one.receipt (subst (λ (r : LoggedReceipt). Precedes x.receipt r.receipt) last
    (subst (λ (r : LoggedReceipt). Precedes r.receipt (get_or all i x).receipt) item (rising k i x k_lt lt))) in
    let more : one_if (is_change x.receipt.op) ≡ 1 = ap one_if change in
    omega (arith, order, more, at)

any_whole : {X : Type 0} (P : X → Type 0) (xs : List X) (i : ℕ) → i ≤ length xs → Any P (take i xs) → Any P xs
any_whole P xs i le (k, x, inside, there, has) = grind (arith, common_steps, get_or-take, length-take-le)

-- a receipt beyond the changes that were seen: the next change is missing
pub missing_before : (all : List LoggedReceipt) (i done count : ℕ) (one : LoggedReceipt)
    → AreRising all → All (λ (one : LoggedReceipt). one.receipt.at ≤ count) all
    → i < length all
    → one ≡ get_or all i one → IsCounted (take i all) done → done < one.receipt.at → IsFirstMissing count all done
missing_before all i done count one rising within lt is counted beyond = record {
  within = omega (arith, beyond, subst (λ (r : LoggedReceipt). r.receipt.at ≤ count) (sym is) (within i one lt));
  earlier = λ other before. any_whole (λ (r : LoggedReceipt). (is_change r.receipt.op ≡ true) × (r.receipt.at ≡ other))
      all i (omega (arith, lt)) (counted.received other before);
  missing = missing;
}
  where
    missing : IsReceived all done → ⊥
    missing (k, x, inside, there, (change, at)) =
        elim (cases_lt k i) [
          | inl before ↦
              let item : get_or (take i all) k x ≡ x = get_or-take i all k x before ∙ there in
              let low = subst (λ (r : LoggedReceipt). is_change r.receipt.op ≡ true → r.receipt.at < done) item
              (counted.below k x (omega (arith, length-take-le i all (omega (arith, lt)), before))) change in
              omega (arith, low, at)
          | inr after ↦ elim (cases_eq k i) [
            | inl same ↦
                let item : one ≡ x = is ∙ get_or_default all i one x lt ∙ ap (λ n. get_or all n x) (sym same) ∙ there in
                let place = ap (λ (r : LoggedReceipt). r.receipt.at) item in
                omega (arith, place, at, beyond)
            | inr other ↦
                let first : get_or all i x ≡ one = sym (get_or_default all i one x lt) ∙ sym is in
                let order = Precedes-le one.receipt x.receipt (subst (λ (r : LoggedReceipt). Precedes one.receipt
                r.receipt) there (subst (λ (r : LoggedReceipt). Precedes r.receipt (get_or all k x).receipt) first
                (rising i k x (omega (arith, after, other)) inside))) in
                omega (arith, order, at, beyond)
          ]
        ]

-- all receipts were seen, and there are fewer changes
pub missing_at_end : (all : List LoggedReceipt) (done count : ℕ)
    → IsCounted all done → done < count → IsFirstMissing count all done
missing_at_end all done count counted fewer = record {
  within = fewer;
  earlier = counted.received;
  missing = λ found. gone found;
}
  where
    gone : IsReceived all done → ⊥
    gone (k, x, inside, there, (change, at)) = grind (arith, common_steps, counted.below k x inside)
