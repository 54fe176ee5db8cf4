-- What the order of a run says of receipts that are known and in order in their logs.
use Rattle.std.proofs.lemmas.Grind.{common_steps}
use Rattle.std.proofs.Common.{ℕ, ◌≡◌, ◌<◌, ◌≤◌, ◌⊎◌, inl, inr, true, false, List, length, get_or, All, AllPairs}
use Rattle.std.proofs.Common.{sym, arith}
use Rattle.std.specs.Prelude.{IsPermutation, IsSorted}
use Rattle.std.specs.Cmp.{nat_cmp_is}
use Rattle.std.specs.Ordering.{is_lt, nat_cmp}
use Rattle.std.specs.declared.cmp.Ordering.TheVariants.{Less, Equal}
use Rattle.std.proofs.lemmas.Bool.{cases_lt, cases_eq, false≢true}
use Rattle.std.proofs.lemmas.List.{get_or_default}
use Rattle.std.proofs.lemmas.List.Sorted.{All-permutation, ranks_by, sorted_far}
use Rattle.op_book.specs.Books.{JournalState}
use Rattle.op_book.specs.declared.entry.SessionLog.{SessionLog}
use Rattle.op_book.specs.Receipts.{Precedes, key_of}
use Rattle.log_audit.specs.Matching.{HasOneLogEach, IsInOrder, IsKnown, LoggedReceipt, logged, run_cmp}
use Rattle.op_book.specs.Operations.{is_change}
use Rattle.log_audit.specs.Replays.{AreRising}
use Rattle.log_audit.proofs.Following.{known_change}
use Rattle.log_audit.proofs.Numbering.{key_by, one_if}
use Rattle.log_audit.proofs.Rising.{EachTwo, EachTwo-permutation, InSomeOrder, in_own_order, in_some_order}
use Rattle.log_audit.proofs.Sorting.{run_cmp-total}

below : (x y : ℕ) → x < y → nat_cmp x y ≡ Less
below x y lt = sym (nat_cmp_is x y Less lt)

level : (x y : ℕ) → x ≡ y → nat_cmp x y ≡ Equal
level x y same = sym (nat_cmp_is x y Equal same)

abbrev StandsBefore : LoggedReceipt → LoggedReceipt → Type 0
StandsBefore a b = (key_of a.receipt < key_of b.receipt)
    ⊎ ((key_of a.receipt ≡ key_of b.receipt)
    × ((a.session < b.session) ⊎ ((a.session ≡ b.session) × (a.index ≤ b.index))))

-- of two receipts the one that isn't above stands before the other
not_above : (a b : LoggedReceipt) → is_lt (run_cmp b a) ≡ false → StandsBefore a b
not_above a b no_less = grind (arith, common_steps, cases_lt, cases_eq, false≢true, below, level)

stands_before : (all : List LoggedReceipt) → IsSorted run_cmp all
    → (i j : ℕ) (d : LoggedReceipt) → i < j → j < length all → StandsBefore (get_or all i d) (get_or all j d)
stands_before all sorted i j d lt j_lt =
    not_above (get_or all i d) (get_or all j d)
    (sorted_far (λ (a : LoggedReceipt) (b : LoggedReceipt). is_lt (run_cmp a b))
    (ranks_by run_cmp-total (λ (one : LoggedReceipt). one)) all sorted i j d (omega (arith, lt)) j_lt)

-- the receipts of one log, in any order
pub some_order : (logs : List SessionLog) (ordered : List LoggedReceipt) → HasOneLogEach logs
    → All IsInOrder (logged logs) → IsPermutation (logged logs) ordered → EachTwo InSomeOrder ordered
some_order logs ordered one_each in_order perm =
    EachTwo-permutation InSomeOrder
    (logged logs) ordered perm (in_some_order (logged logs) (in_own_order 0 logs one_each in_order))

-- two changes of a journal at one place are of one session
same_session : (journal : JournalState) (a b : LoggedReceipt) → IsKnown journal a → IsKnown journal b → is_change
    a.receipt.op ≡ true → is_change b.receipt.op ≡ true → a.receipt.at ≡ b.receipt.at → a.session ≡ b.session
same_session journal a b known other change also place = grind (arith, common_steps, get_or_default, known_change)

-- two changes have other places
two_changes : (journal : JournalState) (a b : LoggedReceipt) → IsKnown journal a
    → IsKnown journal b → InSomeOrder a b → key_of a.receipt ≡ key_of b.receipt → is_change b.receipt.op ≡ true → ⊥
two_changes journal a b known other some keys change =
    grind (arith, common_steps, key_by, one_if, same_session)

precedes : (journal : JournalState) (a b : LoggedReceipt)
    → IsKnown journal a → IsKnown journal b → InSomeOrder a b → StandsBefore a b → Precedes a.receipt b.receipt
precedes journal a b known other some (inl less) = inl less
precedes journal a b known other some (inr (same, rest)) = grind (arith, common_steps, two_changes)

pub rising : (journal : JournalState) (logs : List SessionLog) (ordered : List LoggedReceipt)
    → HasOneLogEach logs → All (IsKnown journal) (logged logs) → All IsInOrder (logged logs)
    → IsPermutation (logged logs) ordered → IsSorted run_cmp ordered → AreRising ordered
rising journal logs ordered one_each known in_order perm sorted i j d lt j_lt =
    let all = All-permutation (IsKnown journal) (logged logs) ordered perm known in
    let some = some_order logs ordered one_each in_order perm in
    precedes journal (get_or ordered i d) (get_or ordered j d) (all i d (omega (arith, lt, j_lt))) (all j d j_lt)
    (some i j d (omega (arith, lt, j_lt)) j_lt (λ same. omega (arith, same, lt)))
    (stands_before ordered sorted i j d lt j_lt)

own : (a b : LoggedReceipt) → InSomeOrder a b → StandsBefore a b → a.session ≡ b.session → a.index < b.index
own a b some before session = grind (arith, common_steps)

pub own_order : (logs : List SessionLog) (ordered : List LoggedReceipt)
    → HasOneLogEach logs → All IsInOrder (logged logs) → IsPermutation (logged logs) ordered → IsSorted run_cmp ordered
    → AllPairs (λ (a : LoggedReceipt) (b : LoggedReceipt). a.session ≡ b.session → a.index < b.index) ordered
own_order logs ordered one_each in_order perm sorted i j d lt j_lt =
    own (get_or ordered i d) (get_or ordered j d)
    (some_order logs ordered one_each in_order perm i j d
    (omega (arith, lt, j_lt)) j_lt (λ same. omega (arith, same, lt))) (stands_before ordered sorted i j d lt j_lt)
