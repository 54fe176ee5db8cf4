-- Below a rectangle that takes no column there is none that does.
use Rattle.std.proofs.Common.{ℕ, ◌≡◌, ◌<◌, ◌≤◌, ◌+◌, List, [], ◌∷◌, ◌++◌, length, take, drop, get_or, refl, ap, arith}
use Rattle.std.proofs.Common.{zero, suc, false, All, Bool, filter, map}
use Rattle.std.proofs.lemmas.Bool.{false_from_ne_true, both_ways, le-ltb}
use Rattle.std.proofs.lemmas.List.{take-take, take-append-drop}
use Rattle.profile_rows.specs.declared.weighted_stacks.WeightedStack.{WeightedStack}
use Rattle.profile_rows.specs.Layout.{is_shown, last_name, rectangle_at}
use Rattle.profile_rows.specs.Paths.{prefixes}
use Rattle.flame_report.specs.Sharing.{shown_of, span_of}
use Rattle.flame_report.specs.declared.layout.Span.{Span}
use Rattle.flame_report.proofs.Prefixes.{drop-prefixes}
use Rattle.std.proofs.lemmas.List.Elements.{All-head, All-tail, All-map}
use Rattle.flame_report.proofs.Spans.{parents_are_shown}

filter_none : {X : Type 0} (test : X → Bool) (xs : List X) → All (λ x. test x ≡ false) xs → filter test xs ≡ []
filter_none test [] none = refl
filter_none test (x ∷ xs) none =
    rw (All-head (λ x. test x ≡ false) x xs none) (filter_none test xs (All-tail (λ x. test x ≡ false) x xs none))

-- a path below one that takes no column takes none
longer_hidden : (columns : ℕ) (rows : List WeightedStack) (stack : List (List ℕ)) (n k : ℕ)
    → n ≤ k → is_shown (rectangle_at columns rows (take n stack)) ≡ false
    → is_shown (rectangle_at columns rows (take k stack)) ≡ false
longer_hidden columns rows stack n k le hidden =
    let front : take n stack ++ drop n (take k stack) ≡ take k stack =
    rw (← take-take n k stack le) (take-append-drop n (take k stack)) in
    false_from_ne_true _ (λ shown. both_ways _ hidden
    (parents_are_shown columns rows (take n stack) (drop n (take k stack)) (rw front shown)))

-- so none is drawn below a span that takes no column
pub nothing_left : (columns : ℕ) (rows : List WeightedStack) (stack : List (List ℕ)) (n : ℕ) (span : Span)
    → span ≡ span_of (rectangle_at columns rows (take n stack)) → span.right ≤ span.left
    → shown_of columns rows (drop n (prefixes stack)) ≡ []
nothing_left columns rows stack n span is narrow =
    let hidden : is_shown (rectangle_at columns rows (take n stack)) ≡ false =
    le-ltb _ _ (omega (arith, ap (λ (s : Span). s.left) is, ap (λ (s : Span). s.right) is)) in
    filter_none is_shown (map (rectangle_at columns rows) (drop n (prefixes stack)))
    (All-map (λ r. is_shown r ≡ false) (rectangle_at columns rows) (drop n (prefixes stack)) (λ j d high.
    rw ((drop-prefixes stack n j d high).1) (longer_hidden columns rows stack n (n + j) (omega arith) hidden)))

-- what the path of a stack's first names is called
pub last_name-take : (names : List (List ℕ)) (k : ℕ) (d : List ℕ)
    → k < length names → last_name (take (suc k) names) ≡ get_or names k d
last_name-take [] k d lt = absurd (omega arith)
last_name-take (name ∷ names) zero d lt = refl
last_name-take (name ∷ []) (suc k) d lt = absurd (omega arith)
last_name-take (name ∷ next ∷ names) (suc k) d lt = last_name-take (next ∷ names) k d (omega arith)
