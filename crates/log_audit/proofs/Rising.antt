-- Receipts in the order of a run: each may stand after all before it, and each log keeps its order.
use Rattle.std.proofs.lemmas.Grind.{common_steps}
use Rattle.std.proofs.Common.{ℕ, suc, ◌≡◌, ◌≢◌, ◌<◌, ◌≤◌, ◌+◌, ◌⊎◌, inl, inr, Option, Some, None, List, [], ◌∷◌, ◌++◌}
use Rattle.std.proofs.Common.{length, get_or, All, AllPairs, refl, sym, ap, subst, ◌∙◌, arith}
use Rattle.std.proofs.Math.ListN.{get_or-append}
use Rattle.std.specs.Prelude.{IsPermutation}
use Rattle.std.specs.List.{swap}
use Rattle.std.proofs.lemmas.Bool.{cases_lt, cases_eq}
use Rattle.std.proofs.lemmas.List.{length-append}
use Rattle.std.proofs.lemmas.List.Edits.{length-swap, swapped_from_swap}
use Rattle.std.proofs.lemmas.List.Elements.{All-append, All-cons, All-tail, All-weaker}
use Rattle.std.proofs.lemmas.List.Kept.{AllPairs-cons}
use Rattle.std.proofs.lemmas.List.Sorted.{IsPermutation-keeps}
use Rattle.flame_report.proofs.Pairs.{AllPairs-append}
use Rattle.op_book.specs.declared.entry.SessionLog.{SessionLog}
use Rattle.op_book.specs.Receipts.{Precedes}
use Rattle.log_audit.specs.Matching.{HasOneLogEach, IsInOrder, LoggedReceipt, logged_after, logged_from}
use Rattle.op_book.specs.Operations.{PlainReceipt}

pub Precedes-trans : (a b c : PlainReceipt) → Precedes a b → Precedes b c → Precedes a c
Precedes-trans a b c (inl x) (inl y) = inl (omega (arith, x, y))
Precedes-trans a b c (inl x) (inr y) = let e = y.0 in inl (omega (arith, x, e))
Precedes-trans a b c (inr x) (inl y) = let e = x.0 in inl (omega (arith, e, y))
Precedes-trans a b c (inr x) (inr y) = inr (x.0 ∙ y.0, y.1)

-- a receipt stands before another of its log
abbrev pub IsBefore : LoggedReceipt → LoggedReceipt → Type 0
IsBefore a b = (a.index < b.index) × Precedes a.receipt b.receipt

abbrev pub InOwnOrder : LoggedReceipt → LoggedReceipt → Type 0
InOwnOrder a b = a.session ≡ b.session → IsBefore a b

-- ---- one log

abbrev IsBehind : ℕ → ℕ → PlainReceipt → LoggedReceipt → Type 0
IsBehind session index earlier one = (one.session ≡ session) × (index ≤ one.index) × Precedes earlier one.receipt

after : (number session index : ℕ) (earlier : PlainReceipt) (receipts : List PlainReceipt)
    → All IsInOrder (logged_from number session index (Some earlier) receipts)
    → All (IsBehind session index earlier) (logged_from number session index (Some earlier) receipts)
after number session index earlier [] each = λ k d lt. absurd (omega (arith, lt))
after number session index earlier (receipt ∷ later) each =
    let one : LoggedReceipt =
    record { number = number; session = session; index = index; earlier = Some earlier; receipt = receipt } in
    let rest = logged_from (number + 1) session (index + 1) (Some receipt) later in
    let first : Precedes earlier receipt = each 0 one (omega arith) in
    All-cons (IsBehind session index earlier) one rest (refl, omega arith, first)
    (All-weaker (IsBehind session (index + 1) receipt) (IsBehind session index earlier)
    (λ x is. let low = is.1 in (is.0, omega (arith, low), Precedes-trans earlier receipt x.receipt first is.2)) rest
    (after (number + 1) session (index + 1) receipt later (All-tail IsInOrder one rest each)))

in_log : (number session index : ℕ) (earlier : Option PlainReceipt) (receipts : List PlainReceipt)
    → All IsInOrder (logged_from number session index earlier receipts)
    → AllPairs InOwnOrder (logged_from number session index earlier receipts)
in_log number session index earlier [] each = λ i j d lt inside. absurd (omega (arith, inside))
in_log number session index earlier (receipt ∷ later) each =
    let one : LoggedReceipt =
    record { number = number; session = session; index = index; earlier = earlier; receipt = receipt } in
    let rest = logged_from (number + 1) session (index + 1) (Some receipt) later in
    let tail = All-tail IsInOrder one rest each in
    AllPairs-cons InOwnOrder one rest
    (All-weaker (IsBehind session (index + 1) receipt) (InOwnOrder one)
    (λ x is. λ same. let low = is.1 in (omega (arith, low), is.2)) rest
    (after (number + 1) session (index + 1) receipt later tail))
    (in_log (number + 1) session (index + 1) (Some receipt) later tail)

-- ---- all logs

of_session : (number session index : ℕ) (earlier : Option PlainReceipt) (receipts : List PlainReceipt)
    → All (λ (one : LoggedReceipt). one.session ≡ session) (logged_from number session index earlier receipts)
of_session number session index earlier [] = λ k d lt. absurd (omega (arith, lt))
of_session number session index earlier (receipt ∷ later) =
    grind (arith, common_steps, All-cons, of_session (number + 1) session (index + 1) (Some receipt) later)

of_others : (number session : ℕ) (logs : List SessionLog) → All (λ (log : SessionLog). session ≢ log.session) logs
    → All (λ (one : LoggedReceipt). session ≢ one.session) (logged_after number logs)
of_others number session [] apart = λ k d lt. absurd (omega (arith, lt))
of_others number session (log ∷ logs) apart =
    All-append (λ (one : LoggedReceipt). session ≢ one.session)
    (logged_from number log.session 0 None log.receipts) (logged_after (number + length log.receipts) logs)
    (All-weaker (λ (one : LoggedReceipt). one.session ≡ log.session) (λ (one : LoggedReceipt). session ≢ one.session)
    (λ one is same. apart 0 log (omega arith) (same ∙ is))
    (logged_from number log.session 0 None log.receipts) (of_session number log.session 0 None log.receipts))
    (of_others
    (number + length log.receipts) session logs (All-tail (λ (l : SessionLog). session ≢ l.session) log logs apart))

front_all : {X : Type 0} (P : X → Type 0) (xs ys : List X) → All P (xs ++ ys) → All P xs
front_all P xs ys all k d lt = subst P (get_or-append xs ys d k lt) (all k d (omega (arith, length-append xs ys, lt)))

back_all : {X : Type 0} (P : X → Type 0) (xs ys : List X) → All P (xs ++ ys) → All P ys
back_all P [] ys all = all
back_all P (x ∷ xs) ys all = back_all P xs ys (All-tail P x (xs ++ ys) all)

pub in_own_order : (number : ℕ) (logs : List SessionLog)
    → HasOneLogEach logs → All IsInOrder (logged_after number logs) → AllPairs InOwnOrder (logged_after number logs)
in_own_order number [] one each = λ i j d lt inside. absurd (omega (arith, inside))
in_own_order number (log ∷ logs) one each =
    let here = logged_from number log.session 0 None log.receipts in
    let rest = logged_after (number + length log.receipts) logs in
    let apart = of_others
    (number + length log.receipts) log.session logs (λ k d lt. one 0 (suc k) d (omega arith) (omega (arith, lt))) in
    AllPairs-append InOwnOrder here rest
    (in_log number log.session 0 None log.receipts (front_all IsInOrder here rest each))
    (in_own_order (number + length log.receipts) logs (λ i j d lt inside. one
    (suc i) (suc j) d (omega (arith, lt)) (omega (arith, inside))) (back_all IsInOrder here rest each))
    (All-weaker (λ (x : LoggedReceipt). x.session ≡ log.session) (λ (x : LoggedReceipt). All (InOwnOrder x) rest)
    (λ x is. All-weaker (λ (y : LoggedReceipt). log.session ≢ y.session)
    (InOwnOrder x) (λ y other same. absurd (other (sym is ∙ same))) rest apart)
    here (of_session number log.session 0 None log.receipts))

-- ---- another order

abbrev pub EachTwo : {X : Type 0} → (X → X → Type 0) → List X → Type 0
EachTwo {X} R xs = (i j : ℕ) (d : X) → i < length xs → j < length xs → i ≢ j → R (get_or xs i d) (get_or xs j d)

-- where an item stood before two changed places
record Moved {X : Type 0} (xs ys : List X) (a b i : ℕ) (d : X) : Type 0 where
  from : ℕ
  within : from < length xs
  item : get_or ys i d ≡ get_or xs from d
  by : ((i ≡ a) × (from ≡ b)) ⊎ (((i ≡ b) × (from ≡ a)) ⊎ ((i ≢ a) × (i ≢ b) × (from ≡ i)))

moved : {X : Type 0} (xs : List X) (a b i : ℕ) (d : X)
    → a < length xs → b < length xs → i < length xs → Moved xs (swap xs a b) a b i d
moved xs a b i d a_lt b_lt lt =
    let swapped = swapped_from_swap xs (swap xs a b) a b d a_lt b_lt refl in
    elim (cases_eq i a) [
      | inl first ↦ record {
        from = b;
        within = b_lt;
        item = ap (λ n. get_or (swap xs a b) n d) first
            ∙ swapped.0;
        by = inl (first, refl);
      }
      | inr other ↦ elim (cases_eq i b) [
        | inl second ↦ record {
          from = a;
          within = a_lt;
          item = ap (λ n. get_or (swap xs a b) n d) second
              ∙ swapped.1;
          by = inr (inl (second, refl));
        }
        | inr neither ↦ record {
          from =
              i;
          within = lt;
          item = swapped.2 i other neither;
          by = inr (inr (other, neither, refl));
        }
      ]
    ]

apart : (a b i j p q : ℕ) → i ≢ j → ((i ≡ a) × (p ≡ b)) ⊎ (((i ≡ b) × (p ≡ a)) ⊎ ((i ≢ a) × (i ≢ b) × (p ≡ i)))
    → ((j ≡ a) × (q ≡ b)) ⊎ (((j ≡ b) × (q ≡ a)) ⊎ ((j ≢ a) × (j ≢ b) × (q ≡ j))) → p ≢ q
apart a b i j p q other x y same = grind (arith, common_steps)

swap_two : {X : Type 0} (R : X → X → Type 0) (xs : List X) (a b : ℕ)
    → a < length xs → b < length xs → EachTwo R xs → EachTwo R (swap xs a b)
swap_two R xs a b a_lt b_lt two i j d i_lt j_lt other =
    let size = length-swap xs a b in
    let x = moved xs a b i d a_lt b_lt (omega (arith, size, i_lt)) in
    let y = moved xs a b j d a_lt b_lt (omega (arith, size, j_lt)) in
    rw (x.item, y.item) (two x.from y.from d x.within y.within (apart a b i j x.from y.from other x.by y.by))

pub EachTwo-permutation : {X : Type 0} (R : X → X → Type 0) (xs ys : List X)
    → IsPermutation xs ys → EachTwo R xs → EachTwo R ys
EachTwo-permutation R xs ys perm two =
    IsPermutation-keeps xs (EachTwo R) two (λ l i j i_lt j_lt each. swap_two R l i j i_lt j_lt each) ys perm

-- of two receipts of one log one stands before the other
abbrev pub InSomeOrder : LoggedReceipt → LoggedReceipt → Type 0
InSomeOrder a b = a.session ≡ b.session → IsBefore a b ⊎ IsBefore b a

pub in_some_order : (all : List LoggedReceipt) → AllPairs InOwnOrder all → EachTwo InSomeOrder all
in_some_order all pairs i j d i_lt j_lt other same =
    elim (cases_lt i j) [
      | inl below ↦ inl (pairs i j d below j_lt same)
      | inr above ↦ inr (pairs j i d (omega (arith, above, other)) i_lt (sym same))
    ]
