-- Sums of weights over rows in order.
use Rattle.std.proofs.lemmas.Grind.{common_steps}
use Rattle.std.proofs.Common.{ℕ, ◌≡◌, ◌<◌, ◌≤◌, ◌+◌, ◌-◌, List, [], ◌∷◌, length, take, get_or, Bool, true, false, ◌||◌}
use Rattle.std.proofs.Common.{not, cond, refl, sym, ap, ◌∙◌, arith, zero, suc}
use Rattle.std.specs.declared.cmp.Ordering.TheVariants.{Less}
use Rattle.std.proofs.lemmas.List.Sums.{sum_by-cons, sum_by_more, sum_by-take-le}
use Rattle.std.proofs.lemmas.Bool.{cases_eq, false_from_ne_true}
use Rattle.profile_rows.specs.Merging.{no_row}
use Rattle.std.proofs.lemmas.List.{get_or_default, length-take-le}
use Rattle.profile_rows.specs.declared.weighted_stacks.WeightedStack.{WeightedStack}
use Rattle.profile_rows.specs.Rows.{stack_cmp, weight_where, weight_if, total_of}
use Rattle.profile_rows.specs.Paths.{path_weight, path_start}
use Rattle.std.specs.Ordering.{is_gt}
use Rattle.std.proofs.lemmas.Cmp.{tied_itself}
use Rattle.profile_rows.proofs.RowLaws.{stack_cmp_total, weight_where-le-total}
use Rattle.profile_rows.specs.Aggregate.{IsAscending}
use Rattle.call_tree.specs.State.{stack_at}
use Rattle.flame_report.specs.Sharing.{shared_paths, known_at, held_weight}
use Rattle.flame_report.proofs.PathOrder as order
use Rattle.flame_report.proofs.PathOrder.{Path, begins, is_left, is_left_of_end}

-- ---- sums over all rows

pub weight_where-cons : (test : Path → Bool) (row : WeightedStack) (rows : List WeightedStack)
    → weight_where test (row ∷ rows) ≡ cond (test row.stack) row.weight 0 + weight_where test rows
weight_where-cons test row rows = sum_by-cons (weight_if test) row rows

pub weight_where-le : (test other : Path → Bool) (rows : List WeightedStack)
    → ((s : Path) → test s ≡ true → other s ≡ true) → weight_where test rows ≤ weight_where other rows
weight_where-le test other [] f = omega arith
weight_where-le test other (row ∷ rows) f =
    let here = f row.stack in grind (arith, weight_where-cons, weight_where-le test other rows f)

-- two tests that no stack passes both
pub weight_where-either : (test other : Path → Bool) (rows : List WeightedStack)
    → ((s : Path) → test s ≡ true → other s ≡ false)
    → weight_where (λ s. test s || other s) rows ≡ weight_where test rows + weight_where other rows
weight_where-either test other [] apart = refl
weight_where-either test other (row ∷ rows) apart =
    grind (arith, common_steps, weight_where-cons, weight_where-either test other rows apart)

pub weight_where-not : (test : Path → Bool) (rows : List WeightedStack)
    → weight_where (λ s. not (test s)) rows + weight_where test rows ≡ total_of rows
weight_where-not test [] = refl
weight_where-not test (row ∷ rows) =
    grind (arith, common_steps, sum_by-cons, weight_where-cons, weight_where-not test rows)

-- what lies left of the end of a path
pub span_end : (rows : List WeightedStack) (path : Path)
    → weight_where (is_left_of_end path) rows ≡ path_start rows path + path_weight rows path
span_end rows path =
    weight_where-either (is_left path) (begins path) rows (λ s left. grind (arith, order.not_left_under))

-- ---- sums over the rows up to one

pub stack_at-get : (rows : List WeightedStack) (k : ℕ) (d : WeightedStack)
    → k < length rows → stack_at rows k ≡ (get_or rows k d).stack
stack_at-get rows k d h = sym (ap (λ (row : WeightedStack). row.stack) (get_or_default rows k d no_row h))

-- the rows from one on add nothing where no stack of them passes
pub weight_where-front : (test : Path → Bool) (rows : List WeightedStack) (n : ℕ)
    → ((k : ℕ) → n ≤ k → k < length rows → test (stack_at rows k) ≡ false)
    → weight_where test (take n rows) ≡ weight_where test rows
weight_where-front test [] zero none = refl
weight_where-front test [] (suc n) none = refl
weight_where-front test (row ∷ rows) zero none =
    let here : test row.stack ≡ false = none 0 (omega arith) (omega arith) in
    let rest = weight_where-front test rows 0 (λ k low high. none (suc k) (omega arith) (omega arith)) in
    grind (arith, weight_where-cons, rest)
weight_where-front test (row ∷ rows) (suc n) none =
    let rest = weight_where-front test rows n (λ k low high. none (suc k) (omega arith) (omega arith)) in
    grind (arith, weight_where-cons, rest)

pub weight_where-same : (test other : Path → Bool) (rows : List WeightedStack) (n : ℕ)
    → ((k : ℕ) → k < n → test (stack_at rows k) ≡ other (stack_at rows k))
    → weight_where test (take n rows) ≡ weight_where other (take n rows)
weight_where-same test other rows zero alike = refl
weight_where-same test other [] (suc n) alike = refl
weight_where-same test other (row ∷ rows) (suc n) alike =
    let here : test row.stack ≡ other row.stack = alike 0 (omega arith) in
    let rest = weight_where-same test other rows n (λ k low. alike (suc k) (omega arith)) in
    grind (arith, weight_where-cons, rest)

weight_where-none : (rows : List WeightedStack) → weight_where (λ s. false) rows ≡ 0
weight_where-none [] = refl
weight_where-none (row ∷ rows) = grind (arith, weight_where-cons, weight_where-none rows)

pub weight_where-take-le : (test : Path → Bool) (rows : List WeightedStack) (n : ℕ)
    → weight_where test (take n rows) ≤ total_of rows
weight_where-take-le test rows n = grind (arith, sum_by-take-le, weight_where-le-total)

-- one more row, and one that passes
pub weight_where-next : (test : Path → Bool) (rows : List WeightedStack) (i : ℕ) (d : WeightedStack) → i < length rows
    → weight_where test (take (i + 1) rows)
    ≡ weight_where test (take i rows) + cond (test (stack_at rows i)) (get_or rows i d).weight 0
weight_where-next test rows i d h = grind (arith, sum_by_more, stack_at-get)

pub weight_where-more : (test : Path → Bool) (rows : List WeightedStack) (i : ℕ) (d : WeightedStack)
    → i < length rows → test (stack_at rows i) ≡ true
    → weight_where test (take (i + 1) rows) ≡ weight_where test (take i rows) + (get_or rows i d).weight
weight_where-more test rows i d h passes = grind (arith, sum_by_more, stack_at-get)

-- ---- rows in order

pub in_order : (rows : List WeightedStack) (i j : ℕ)
    → IsAscending rows → i < j → j < length rows → stack_cmp (stack_at rows i) (stack_at rows j) ≡ Less
in_order rows i j up h inside =
    let d : WeightedStack = record { stack = []; weight = 0 } in
    rw (stack_at-get rows i d (omega arith), stack_at-get rows j d inside) (up i j d h inside)

-- a row is not above one that comes after it
pub not_after : (rows : List WeightedStack) (i j : ℕ)
    → IsAscending rows → i ≤ j → j < length rows → is_gt (stack_cmp (stack_at rows i) (stack_at rows j)) ≡ false
not_after rows i j up le inside = grind (arith, common_steps, cases_eq, tied_itself, stack_cmp_total, in_order)

-- the rows between two of a path are of it too
between : (rows : List WeightedStack) (path : Path) (i j k : ℕ)
    → IsAscending rows → i ≤ j → j ≤ k → k < length rows → begins path (stack_at rows i) ≡ true
    → begins path (stack_at rows k) ≡ true → begins path (stack_at rows j) ≡ true
between rows path i j k up low high inside first last =
    order.prefix_between path (stack_at rows i) (stack_at rows j) (stack_at rows k) first
    (not_after rows i j up low (omega arith)) (not_after rows j k up high inside) last

-- what begins a row and one before it is shared by the row and its neighbour
known_if_before : (rows : List WeightedStack) (path : Path) (k i : ℕ) → IsAscending rows → k < i → i < length rows
    → begins path (stack_at rows k) ≡ true → begins path (stack_at rows i) ≡ true → length path < known_at rows i
known_if_before rows path k zero up below inside there own = absurd (omega arith)
known_if_before rows path k (suc i) up below inside there own =
    let before = between rows path k i (suc i) up (omega arith) (omega arith) inside there own in
    omega (arith, order.shared_prefix path (stack_at rows i) (stack_at rows (suc i)) before own)

-- the first row of a group
pub group_first : (rows : List WeightedStack) (path : Path) (i : ℕ) (d : WeightedStack)
    → i < length rows → begins path (stack_at rows i) ≡ true
    → ((k : ℕ) → k < i → begins path (stack_at rows k) ≡ false)
    → weight_where (begins path) (take (i + 1) rows) ≡ (get_or rows i d).weight
group_first rows path i d h here none =
    let before = weight_where-same (begins path) (λ s. false) rows i none in
    let more = weight_where-more (begins path) rows i d h here in
    grind (arith, weight_where-none (take i rows))

one_less : (k : ℕ) → suc k - 1 ≡ k
one_less k = omega arith

-- the row after one of a group is of the group where it shares enough
pub group_next : (rows : List WeightedStack) (path : Path) (k : ℕ) → 0 < k → begins path (stack_at rows (k - 1)) ≡ true
    → length path < known_at rows k → begins path (stack_at rows k) ≡ true
group_next rows path zero some before h = absurd (omega arith)
group_next rows path (suc k) some before h =
    sym (order.prefix_shared path (stack_at rows k) (stack_at rows (suc k)) (omega arith)) ∙ rw (one_less k) at before

-- and where it shares too little, the rows from it on add nothing
pub group_whole : (rows : List WeightedStack) (path : Path) (k : ℕ)
    → IsAscending rows → 0 < k → k < length rows → begins path (stack_at rows (k - 1)) ≡ true
    → known_at rows k ≤ length path → weight_where (begins path) (take k rows) ≡ path_weight rows path
group_whole rows path k up some h here short =
    weight_where-front (begins path) rows k (λ j low high. false_from_ne_true _ (λ there.
    let next = between rows path (k - 1) k j up (omega arith) low high here there in
    absurd (omega (arith, known_if_before rows path (k - 1) k up (omega arith) h here next))))

pub known_at-back : (rows : List WeightedStack) (k : ℕ)
    → 0 < k → shared_paths (stack_at rows (k - 1)) (stack_at rows k) ≡ known_at rows k
known_at-back rows zero h = absurd (omega arith)
known_at-back rows (suc k) h = rw (one_less k) refl

-- no row before begins with a new path
pub new_path-first : (rows : List WeightedStack) (i d : ℕ)
    → IsAscending rows → i < length rows → known_at rows i ≤ d → d ≤ length (stack_at rows i)
    → (k : ℕ) → k < i → begins (take d (stack_at rows i)) (stack_at rows k) ≡ false
new_path-first rows i d up inside h deep k below = false_from_ne_true _ (λ there.
    let known = known_if_before rows (take d (stack_at rows i)) k i up below inside there
    (order.take_begins_with d (stack_at rows i)) in
    absurd (omega (arith, known, length-take-le d (stack_at rows i) deep)))

-- every new path of a row has the same rows among its parts
pub held_weight-new : (rows : List WeightedStack) (i d : ℕ) → IsAscending rows → i < length rows
    → known_at rows i ≤ d + 1 → held_weight rows i (take d (stack_at rows i)) ≡ held_weight rows i (stack_at rows i)
held_weight-new rows i d up inside h =
    weight_where-same (λ s. begins s (take d (stack_at rows i))) (λ s. begins s (stack_at rows i)) rows i
    (λ k below. order.prefix_of_take (stack_at rows k) (stack_at rows i) d (λ part. omega (
      arith,
      known_if_before rows (stack_at rows k) k i up below inside (order.prefix_itself (stack_at rows k)) part,
    )))

-- a path of a row that begins no row before starts where they end, but for those that are parts of the path
path_start-first : (rows : List WeightedStack) (path : Path) (i : ℕ) → IsAscending rows → i < length rows
    → begins path (stack_at rows i) ≡ true → ((k : ℕ) → k < i → begins path (stack_at rows k) ≡ false)
    → path_start rows path + held_weight rows i path ≡ total_of (take i rows)
path_start-first rows path i up inside own first =
    let left = weight_where-same (is_left path) (λ s. not (begins s path)) rows i (λ k below.
    order.left_or_prefix path (stack_at rows k) (stack_at rows i) own (in_order rows k i up below inside)
    (first k below)) in
    let right = weight_where-front (is_left path) rows i (λ k low high.
    order.not_left_after path (stack_at rows i) (stack_at rows k) own (not_after rows i k up low high)) in
    omega (arith, left, right, weight_where-not (λ s. begins s path) (take i rows))

-- a path that comes first with a row starts where the rows before end, and lies within the total
pub path_at : (rows : List WeightedStack) (at depth start : ℕ)
    → IsAscending rows → at < length rows → known_at rows at ≤ depth → depth ≤ length (stack_at rows at)
    → start + held_weight rows at (stack_at rows at) ≡ total_of (take at rows)
    → (start ≡ path_start rows (take depth (stack_at rows at)))
    × (start + path_weight rows (take depth (stack_at rows at)) ≤ total_of rows)
path_at rows at depth start up h new deep from =
    let first = path_start-first rows (take depth (stack_at rows at)) at up h
    (order.take_begins_with depth (stack_at rows at)) (new_path-first rows at depth up h new deep) in
    let within = weight_where-le-total (is_left_of_end (take depth (stack_at rows at))) rows in
    let same = held_weight-new rows at depth up h (omega arith) in
    (omega (arith, first), omega (arith, first, within, span_end rows (take depth (stack_at rows at))))
