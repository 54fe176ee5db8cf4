-- Loops that look for the first item without a property.
use Rattle.std.proofs.lemmas.Grind.{common_steps}
use Rattle.std.proofs.Common.{arith, ℕ, ◌≡◌, ◌≢◌, ◌<◌, ◌≤◌, ◌+◌, true, false, List, ◌∷◌, ◌++◌, length, take, drop}
use Rattle.std.proofs.Common.{get_or, All}
use Rattle.std.proofs.Common.{Any, AllPairs, refl, sym, ap, subst, ◌∙◌}
use Rattle.std.specs.Prelude.{◌==◌}
use Rattle.std.specs.List.{list_any}
use Rattle.std.proofs.lemmas.Bool.{eqb-true, eq-eqb, false≢true}
use Rattle.std.proofs.lemmas.List.{take_all, take_more, drop_more, take-append-drop, get_or_default}
use Rattle.std.proofs.lemmas.List.Folds.{Any-from_list_any, list_any-from_Any}
use Rattle.std.proofs.lemmas.List.Quantifiers.{all_pairs_push}
use Rattle.op_book.specs.declared.entry.SessionLog.{SessionLog}
use Rattle.log_audit.specs.Matching.{HasOneLogEach, IsFirstWithout, IsSecondLog, LoggedReceipt}

pub split_at : {X : Type 0} (xs : List X) (i : ℕ) (d : X)
    → i < length xs → xs ≡ take i xs ++ get_or xs i d ∷ drop (i + 1) xs
split_at xs i d h = sym (take-append-drop i xs) ∙ ap (λ r. take i xs ++ r) (drop_more xs i d h)

pub passed_all : {X : Type 0} (P : X → Type 0) (xs : List X) (n : ℕ) → length xs ≤ n → All P (take n xs) → All P xs
passed_all P xs n h a = subst (λ ys. All P ys) (take_all n xs h) a

pub pairs_more : {X : Type 0} (R : X → X → Type 0) (xs : List X) (i : ℕ) (d : X)
    → i < length xs → AllPairs R (take i xs) → All (λ x. R x (get_or xs i d)) (take i xs) → AllPairs R (take (i + 1) xs)
pairs_more R xs i d h a b =
    subst (λ ys. AllPairs R ys) (sym (take_more xs i d h)) (all_pairs_push R (take i xs) (get_or xs i d) a b)

pub pairs_all : {X : Type 0} (R : X → X → Type 0) (xs : List X) (n : ℕ)
    → length xs ≤ n → AllPairs R (take n xs) → AllPairs R xs
pairs_all R xs n h a = subst (λ ys. AllPairs R ys) (take_all n xs h) a

pub first_without : (Has : LoggedReceipt → Type 0) (all : List LoggedReceipt)
    (i : ℕ) (one : LoggedReceipt) (session index : ℕ) → i < length all → one ≡ get_or all i one
    → All Has (take i all)
    → (Has one → ⊥) → session ≡ one.session → index ≡ one.index → IsFirstWithout Has all session index
first_without Has all i one session index h is each without session_is index_is = record {
  before = take i all;
  one = one;
  after = drop (i + 1) all;
  split = split_at all i one h ∙ ap (λ x. take i all ++ x ∷ drop (i + 1) all) (sym is);
  each = each;
  without = without;
  session_is = session_is;
  index_is = index_is;
}

-- whether a log so far is of a session
pub has_session : (logs : List SessionLog) (session : ℕ) → list_any (λ (log : SessionLog). log.session == session) logs
    ≡ true → Any (λ (log : SessionLog). log.session ≡ session) logs
has_session logs session e =
    let (k, log, inside, there, same) = Any-from_list_any (λ (log : SessionLog). log.session == session) logs e in
    (k, log, inside, there, eqb-true log.session session same)

pub has_no_session : (logs : List SessionLog) (session : ℕ) → list_any
    (λ (log : SessionLog). log.session == session) logs ≡ false → All (λ (log : SessionLog). log.session ≢ session) logs
has_no_session logs session e k d lt same =
    grind (arith, common_steps, eq-eqb, false≢true, get_or_default, list_any-from_Any)

pub second_log : (logs : List SessionLog) (i : ℕ) (log : SessionLog)
    → i < length logs → log ≡ get_or logs i log → HasOneLogEach (take i logs)
    → Any (λ (earlier : SessionLog). earlier.session ≡ log.session) (take i logs) → IsSecondLog logs log.session
second_log logs i log h is each again = record {
  before = take i logs;
  log = log;
  after = drop (i + 1) logs;
  split = split_at logs i log h ∙ ap (λ x. take i logs ++ x ∷ drop (i + 1) logs) (sym is);
  one_each = each;
  again = again;
  session_is = refl;
}
