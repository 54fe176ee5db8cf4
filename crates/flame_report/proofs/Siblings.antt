-- The children of a path stand side by side from its left edge, in the order of their names, and its own weight lies
-- right of them.
use Rattle.std.proofs.lemmas.Grind.{common_steps}
use Rattle.std.proofs.Common.{◌≡◌, ℕ, ◌+◌, ◌≤◌, Bool, true, false, ◌&&◌, ◌||◌, List, [], ◌∷◌, ◌++◌, length, drop, refl}
use Rattle.std.proofs.Common.{sym, ◌∙◌, arith}
use Rattle.std.specs.declared.cmp.Ordering.TheVariants.{Less}
use Rattle.std.proofs.lemmas.Bool.{cases_eq}
use Rattle.profile_rows.specs.declared.weighted_stacks.WeightedStack.{WeightedStack}
use Rattle.profile_rows.specs.Names.{name_cmp}
use Rattle.profile_rows.specs.Paths.{path_start, path_weight}
use Rattle.profile_rows.specs.Rows.{is_same_stack, weight_of, weight_where}
use Rattle.flame_report.proofs.PathOrder.{Path, begins, is_left, is_left_of_end, left-append, end-append, prefix-append}
use Rattle.flame_report.proofs.PathOrder.{name_itself, names_total, not_left_under, same_name, same-stack, turned}
use Rattle.flame_report.proofs.RowSums.{span_end, weight_where-cons, weight_where-either, weight_where-le}

-- A stack by how it stands to a path: whether it lies left of the path, whether it begins with it, and what it has
-- after it. None of the children that are meant here has it.
abbrev NoneHas : (List ℕ → Type 0) → Bool → Path → Type 0
NoneHas Meant here rest = (n : List ℕ) → Meant n → (here && begins (n ∷ []) rest) ≡ false

-- two tests give one weight where they agree on each stack that none of these children has, if these weigh nothing
weight_where-agree : (Meant : List ℕ → Type 0) (path : Path) (test other : Path → Bool) (rows : List WeightedStack)
    → ((n : List ℕ) → Meant n → path_weight rows (path ++ n ∷ []) ≡ 0)
    → ((s : Path) → NoneHas Meant (begins path s) (drop (length path) s) → test s ≡ other s)
    → weight_where test rows ≡ weight_where other rows
weight_where-agree Meant path test other [] none agree = refl
weight_where-agree Meant path test other (row ∷ rows) none agree =
    grind (
      arith,
      common_steps,
      cases_eq,
      begins,
      prefix-append,
      weight_where-cons,
      weight_where-agree Meant path test other rows,
    )

-- ---- two children

row_next : (here : Bool) (rest : Path) (a b : List ℕ) → name_cmp a b ≡ Less
    → NoneHas (λ n. (name_cmp a n ≡ Less) × (name_cmp n b ≡ Less)) here rest
    → (here && is_left (b ∷ []) rest) ≡ (here && is_left_of_end (a ∷ []) rest)
row_next here [] a b less none = refl
row_next here (f ∷ rest) a b less none =
    let own = none f in grind (arith, names_total, same_name, turned, name_itself)

pub siblings-next : (rows : List WeightedStack) (path : Path) (a b : List ℕ) → name_cmp a b ≡ Less
    → ((n : List ℕ) → name_cmp a n ≡ Less → name_cmp n b ≡ Less → path_weight rows (path ++ n ∷ []) ≡ 0)
    → path_start rows (path ++ b ∷ []) ≡ path_start rows (path ++ a ∷ []) + path_weight rows (path ++ a ∷ [])
siblings-next rows path a b less none =
    weight_where-agree (λ n. (name_cmp a n ≡ Less) × (name_cmp n b ≡ Less)) path (is_left (path ++ b ∷ []))
    (is_left_of_end (path ++ a ∷ [])) rows (λ n between. none n between.0 between.1) (λ s absent.
    rw (left-append path (b ∷ []) s, end-append path (a ∷ []) s, row_next (begins path s) _ a b less absent) refl)
    ∙ span_end rows (path ++ a ∷ [])

row_order : (rest : Path) (a b : List ℕ)
    → name_cmp a b ≡ Less → is_left_of_end (a ∷ []) rest ≡ true → is_left (b ∷ []) rest ≡ true
row_order [] a b less first = first
row_order (f ∷ rest) a b less first = grind (arith, names_total, same_name, turned)

pub siblings-order : (rows : List WeightedStack) (path : Path) (a b : List ℕ) → name_cmp a b ≡ Less
    → path_start rows (path ++ a ∷ []) + path_weight rows (path ++ a ∷ []) ≤ path_start rows (path ++ b ∷ [])
siblings-order rows path a b less =
    let below = weight_where-le (is_left_of_end (path ++ a ∷ [])) (is_left (path ++ b ∷ [])) rows
    (λ s first. grind (arith, left-append, end-append, row_order (drop (length path) s) a b less)) in
    omega (arith, below, span_end rows (path ++ a ∷ []))

-- ---- the first child

row_first : (here : Bool) (rest : Path) (a : List ℕ)
    → NoneHas (λ n. name_cmp n a ≡ Less) here rest → (here && is_left (a ∷ []) rest) ≡ false
row_first here [] a none = grind arith
row_first here (f ∷ rest) a none = let own = none f in grind (arith, name_itself)

pub siblings-first : (rows : List WeightedStack) (path : Path) (a : List ℕ)
    → ((n : List ℕ) → name_cmp n a ≡ Less → path_weight rows (path ++ n ∷ []) ≡ 0)
    → path_start rows (path ++ a ∷ []) ≡ path_start rows path
siblings-first rows path a none =
    weight_where-agree (λ n. name_cmp n a ≡ Less) path (is_left (path ++ a ∷ [])) (is_left path) rows none
    (λ s absent. grind (arith, left-append, row_first (begins path s) (drop (length path) s) a absent))

-- ---- the last child, and none

row_last : (here : Bool) (rest : Path) (a : List ℕ) → NoneHas (λ n. name_cmp a n ≡ Less) here rest
    → ((here && is_left_of_end (a ∷ []) rest) || (here && is_same_stack [] rest)) ≡ here
row_last here [] a none = grind arith
row_last here (f ∷ rest) a none = let own = none f in grind (arith, turned, name_itself)

-- what has a name more isn't the path
child_apart : (rest : Path) (a : List ℕ) → is_left_of_end (a ∷ []) rest ≡ true → is_same_stack [] rest ≡ false
child_apart [] a there = cc
child_apart (f ∷ rest) a there = refl

pub own_weight-last : (rows : List WeightedStack) (path : Path) (a : List ℕ)
    → ((n : List ℕ) → name_cmp a n ≡ Less → path_weight rows (path ++ n ∷ []) ≡ 0)
    → path_start rows (path ++ a ∷ []) + path_weight rows (path ++ a ∷ []) + weight_of rows path
    ≡ path_start rows path + path_weight rows path
own_weight-last rows path a none =
    let both = weight_where-either (is_left_of_end (path ++ a ∷ [])) (is_same_stack path) rows (λ s there.
    grind (arith, end-append, same-stack, not_left_under, child_apart (drop (length path) s) a)) in
    let same = weight_where-agree (λ n. name_cmp a n ≡ Less) path
    (λ s. is_left_of_end (path ++ a ∷ []) s || is_same_stack path s) (is_left_of_end path) rows none (λ s absent.
    grind (arith, end-append, same-stack, row_last (begins path s) (drop (length path) s) a absent)) in
    omega (arith, both, same, span_end rows path, span_end rows (path ++ a ∷ []))

row_alone : (here : Bool) (rest : Path) → ((n : List ℕ) → (here && begins (n ∷ []) rest) ≡ false)
    → here ≡ (here && is_same_stack [] rest)
row_alone here [] none = grind arith
row_alone here (f ∷ rest) none = let own = none f in grind (arith, name_itself)

pub own_weight-alone : (rows : List WeightedStack) (path : Path)
    → ((n : List ℕ) → path_weight rows (path ++ n ∷ []) ≡ 0) → path_weight rows path ≡ weight_of rows path
own_weight-alone rows path none =
    weight_where-agree (λ n. n ≡ n) path (begins path) (is_same_stack path) rows (λ n same. none n)
    (λ s absent. row_alone (begins path s) (drop (length path) s) (λ n. absent n refl) ∙ sym (same-stack path s))
