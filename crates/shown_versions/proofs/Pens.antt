-- The pens of a history.
use Rattle.std.proofs.Common.{◌≡◌, ◌≢◌, ℕ, zero, suc, ◌<◌, List, [], ◌∷◌, ◌++◌, All, length, true, refl, ap, sym, ◌∙◌}
use Rattle.std.proofs.Common.{subst, arith}
use Rattle.std.proofs.lemmas.List.Elements.{All-cons, All-head, All-nil, All-tail}
use mathlib.Core.List.{IsPrefix}
use Rattle.std.specs.Prelude.{slice_set}
use Rattle.logbook.specs.Pages.{Cell, cell}
use Rattle.op_book.specs.Operations.{PlainEntry}
use Rattle.shown_versions.specs.declared.history_rule.Line.{Line}
use Rattle.shown_versions.specs.declared.history_rule.Line.TheVariants as line
use Rattle.shown_versions.specs.Histories.{entries_of, next_pen, pen_named, used_pens, word_of}

pub set_same : (cs : List Cell) (k : ℕ) (c : Cell) → k < length cs → cell (slice_set cs k c) k ≡ c
set_same [] k c h = absurd (omega arith)
set_same (x ∷ xs) zero c h = refl
set_same (x ∷ xs) (suc k) c h = set_same xs k c (omega arith)

pub set_other : (cs : List Cell) (k j : ℕ) (c : Cell) → j ≢ k → cell (slice_set cs k c) j ≡ cell cs j
set_other [] k j c n = refl
set_other (x ∷ xs) zero zero c n = absurd (n refl)
set_other (x ∷ xs) zero (suc j) c n = refl
set_other (x ∷ xs) (suc k) zero c n = refl
set_other (x ∷ xs) (suc k) (suc j) c n = set_other xs k j c (λ e. n (ap suc e))

pub set_again : (cs : List Cell) (k : ℕ) → slice_set cs k (cell cs k) ≡ cs
set_again [] k = refl
set_again (x ∷ xs) zero = refl
set_again (x ∷ xs) (suc k) = ap (λ l. x ∷ l) (set_again xs k)

pub at_more : (cs more : List Cell) (k : ℕ) → k < length cs → cell (cs ++ more) k ≡ cell cs k
at_more [] more k h = absurd (omega arith)
at_more (x ∷ xs) more zero h = refl
at_more (x ∷ xs) more (suc k) h = at_more xs more k (omega arith)

pub home_within : (cs : List Cell) (k : ℕ) → (cell cs k).1 ≡ true → k < length cs
home_within [] k h = absurd cc
home_within (x ∷ xs) zero h = omega arith
home_within (x ∷ xs) (suc k) h = let r = home_within xs k h in omega arith

-- whoever has the next pen of a beginning, which isn't used up, has seen the whole list
pub whole_by : (H : ℕ → Type 0) (seen log : List Line) → IsPrefix seen log → 0 < length seen
    → All H (used_pens log) → (H (next_pen seen) → ⊥) → seen ≡ log
whole_by H [] log p some used not = absurd (omega arith)
whole_by H (m ∷ seen) [] p some used not = absurd (cc (p.1))
whole_by H (m ∷ []) (n ∷ []) p some used not = cc (p.1)
whole_by H (m ∷ []) (n ∷ n2 ∷ log) p some used not =
    let same : n ≡ m = cc (p.1) in absurd (not (subst (λ (x : Line). H (pen_named x)) same (All-head H (pen_named n)
    (used_pens (n2 ∷ log)) used)))
whole_by H (m ∷ m2 ∷ seen) (n ∷ []) p some used not = absurd (cc (p.1))
whole_by H (m ∷ m2 ∷ seen) (n ∷ n2 ∷ log) p some used not =
    let rest = whole_by H (m2 ∷ seen) (n2 ∷ log) (p.0, cc (p.1)) (omega arith)
    (All-tail H (pen_named n) (used_pens (n2 ∷ log)) used) not in cc (p.1, rest)

pub all_more : (P Q : ℕ → Type 0) (ks : List ℕ) → ((k : ℕ) → P k → Q k) → All P ks → All Q ks
all_more P Q [] f all = All-nil Q
all_more P Q (k ∷ ks) f all =
    All-cons Q k ks (f k (All-head P k ks all)) (all_more P Q ks f (All-tail P k ks all))

-- a change uses up the next pen
pub used_with : (H : ℕ → Type 0) (log : List Line) (step : Line) → 0 < length log
    → All H (used_pens log) → H (next_pen log) → All H (used_pens (log ++ step ∷ []))
used_with H [] step some used next = absurd (omega arith)
used_with H (m ∷ []) step some used next = All-cons H (pen_named m) [] next (All-nil H)
used_with H (m ∷ n ∷ log) step some used next =
    let rest = used_pens (n ∷ log) in
    All-cons H (pen_named m) (used_pens (n ∷ log ++ step ∷ [])) (All-head H (pen_named m) rest used)
    (used_with H (n ∷ log) step (omega arith) (All-tail H (pen_named m) rest used) next)

pub next_with : (log : List Line) (step : Line) → next_pen (log ++ step ∷ []) ≡ pen_named step
next_with [] step = refl
next_with (m ∷ []) step = refl
next_with (m ∷ n ∷ log) step = next_with (n ∷ log) step

pub word_with : (log : List Line) (step : Line) → 0 < length log → word_of (log ++ step ∷ []) ≡ word_of log
word_with [] step some = absurd (omega arith)
word_with (m ∷ log) step some = refl

pub entries_with : (log : List Line) (entry : PlainEntry) (pen : ℕ)
    → entries_of (log ++ line.Adds entry pen ∷ []) ≡ entries_of log ++ entry ∷ []
entries_with [] entry pen = refl
entries_with (line.Begins k ∷ log) entry pen = entries_with log entry pen
entries_with (line.Adds e k ∷ log) entry pen = ap (λ l. e ∷ l) (entries_with log entry pen)

pub entries_prefix : (xs ys : List Line) → IsPrefix xs ys → IsPrefix (entries_of xs) (entries_of ys)
entries_prefix [] ys p = (entries_of ys, refl)
entries_prefix (x ∷ xs) [] p = absurd (cc (p.1))
entries_prefix (line.Begins k ∷ xs) (y ∷ ys) p =
    let rest = entries_prefix xs ys (p.0, cc (p.1)) in
    let same : y ≡ line.Begins k = cc (p.1) in
    (rest.0, rest.1 ∙ ap (λ (m : Line). entries_of (m ∷ ys)) (sym same))
entries_prefix (line.Adds e k ∷ xs) (y ∷ ys) p =
    let rest = entries_prefix xs ys (p.0, cc (p.1)) in
    let same : y ≡ line.Adds e k = cc (p.1) in
    (rest.0, ap (λ l. e ∷ l) rest.1 ∙ ap (λ (m : Line). entries_of (m ∷ ys)) (sym same))
