-- The pass over the nodes, from the last to the first, that adds up the sums of all names.
use Rattle.std.proofs.lemmas.Grind.{common_steps}
use Rattle.std.proofs.Common.{rules, ◌≡◌, ℕ, zero, suc, ◌+◌, ◌<◌, ◌≤◌, ◌^◌, Bool, true, false, cond, not, ◌&&◌, ◌||◌}
use Rattle.std.proofs.Common.{nat_eq}
use Rattle.std.proofs.Common.{List, [], ◌∷◌, length, take, get_or, refl, sym, ap, ◌∙◌, arith, sum_by}
use Rattle.std.proofs.Common.{⊎_elim}
use Rattle.std.proofs.Math.ListN.{set, replicate}
use Rattle.std.proofs.Math.Seq.{take-set-lt}
use Rattle.std.proofs.lemmas.List.{take_all, get_or-set_same, get_or-set_other, get_or-replicate, get_or-take}
use Rattle.std.proofs.lemmas.List.{length-replicate, length-set, length-take-le}
use Rattle.std.proofs.lemmas.List.Sums.{sum_by-cons, sum_by_more, sum_by-le-sum_by, get_or-le-sum_by}
use Rattle.std.proofs.lemmas.Bool.{cases_eq, eqb-true, eq-eqb, ne_eqb}
use Rattle.profile_rows.specs.declared.weighted_stacks.WeightedStack.{WeightedStack}
use Rattle.profile_rows.specs.Names.{is_same_name}
use Rattle.profile_rows.specs.Rows.{has_name, ends_with_name, total_of, weight_if, weight_where, flat_weight_of}
use Rattle.profile_rows.specs.Rows.{cumulative_weight_of}
use Rattle.profile_rows.proofs.RowLaws.{ends_with_name-push}
use Rattle.profile_rows.proofs.SameNames.{same_from_is_same_name, is_same_name-self}
use Rattle.profile_rows.specs.Merging.{no_row, row_at, with_added_at}
use Rattle.call_tree.specs.declared.node.Node.{Node}
use Rattle.call_tree.specs.declared.tree.reading.Sums.{Sums}
use Rattle.call_tree.specs.State.{name_at, stack_at}
use Rattle.call_tree.specs.Shape.{no_node, node_rows, at, IsTree}
use Rattle.call_tree.specs.Totals.{AreSums, IsAddable, below_with, no_sums, sums_in, sums_with}
use Rattle.call_tree.proofs.Crediting.{total_of-credited, weight_where-credited}
use Rattle.call_tree.proofs.Shapes.{row_at-node_rows, stack_at-child, stack_at-root, length-node_rows}
use Rattle.call_tree.proofs.Paths.{has_name-next, same_bool}

abbrev pub own_if : ℕ → Node → ℕ
own_if number node = cond (nat_eq number node.name) node.own 0

-- each row with what was added below it
abbrev pub rows_below : List WeightedStack → List ℕ → List WeightedStack
rows_below [] below = []
rows_below (row ∷ rows) [] = row ∷ rows
rows_below (row ∷ rows) (more ∷ below) =
    (record { stack = row.stack; weight = row.weight + more }) ∷ rows_below rows below

abbrev pub with_below : List (List ℕ) → List Node → List ℕ → List WeightedStack
with_below names nodes below = rows_below (node_rows names nodes) below

-- the sums of the nodes from a slot on, whose weights are added to their parents; the root's own weight is no name's
pub record AreSumsFrom
    (names : List (List ℕ)) (nodes : List Node) (sums : List Sums) (below : List ℕ) (left : ℕ) : Type 0 where
  pub size : length sums ≡ length names
  pub wide : length below ≡ length nodes
  pub some : 0 < left
  pub within : left ≤ length nodes
  pub flat : (n : ℕ)
      → n < length names → (sums_in sums n).flat + sum_by (own_if n) (take left nodes) ≡ sum_by (own_if n) nodes
  pub cum : (n : ℕ) → n < length names
      → (sums_in sums n).cum + weight_where (has_name (name_at names n)) (take left (with_below names nodes below))
      ≡ cumulative_weight_of (node_rows names nodes) (name_at names n)
  pub whole : total_of (take left (with_below names nodes below)) ≡ total_of (node_rows names nodes)

same_number : (names : List (List ℕ)) (n m : ℕ) → n < length names → m < length names
    → ((i j : ℕ) → i < length names → j < length names → name_at names i ≡ name_at names j → i ≡ j)
    → is_same_name (name_at names n) (name_at names m) ≡ nat_eq n m
same_number names n m hn hm unlike =
    grind (arith, common_steps, eqb-true, eq-eqb, same_from_is_same_name, is_same_name-self, same_bool)

sum_both : (f : WeightedStack → ℕ) (g : Node → ℕ) (rows : List WeightedStack) (nodes : List Node)
    → length rows ≡ length nodes
    → ((k : ℕ) → k < length nodes → f (row_at rows k) ≡ g (at nodes k)) → sum_by f rows ≡ sum_by g nodes
sum_both f g [] [] e h = refl
sum_both f g [] (n ∷ ns) e h = absurd (omega arith)
sum_both f g (r ∷ rs) [] e h = absurd (omega arith)
sum_both f g (r ∷ rs) (n ∷ ns) e h =
    let rest = sum_both f g rs ns (omega arith) (λ k lt. h (suc k) (omega arith)) in
    let here = h 0 (omega arith) in
    omega (arith, rest, here, sum_by-cons f r rs, sum_by-cons g n ns)

sum_below_root : (f : WeightedStack → ℕ) (g : Node → ℕ) (rows : List WeightedStack) (nodes : List Node)
    → length rows ≡ length nodes → 0 < length nodes → f (row_at rows 0) ≡ 0
    → ((k : ℕ) → 0 < k → k < length nodes → f (row_at rows k) ≡ g (at nodes k))
    → sum_by f rows + g (at nodes 0) ≡ sum_by g nodes
sum_below_root f g [] [] e pos z h = absurd (omega arith)
sum_below_root f g [] (n ∷ ns) e pos z h = absurd (omega arith)
sum_below_root f g (r ∷ rs) [] e pos z h = absurd (omega arith)
sum_below_root f g (r ∷ rs) (n ∷ ns) e pos z h =
    let rest = sum_both f g rs ns (omega arith) (λ k lt. h (suc k) (omega arith) (omega arith)) in
    omega (arith, rest, z, sum_by-cons f r rs, sum_by-cons g n ns)

-- ---- rows with what was added below them

length-rows_below : (rows : List WeightedStack) (below : List ℕ) → length (rows_below rows below) ≡ length rows
length-rows_below [] below = refl
length-rows_below (row ∷ rows) [] = refl
length-rows_below (row ∷ rows) (more ∷ below) = ap (λ k. suc k) (length-rows_below rows below)

at-rows_below : (rows : List WeightedStack) (below : List ℕ) (k : ℕ) → length below ≡ length rows → k < length rows
    → row_at (rows_below rows below) k
    ≡ record { stack = stack_at rows k; weight = (row_at rows k).weight + get_or below k 0 }
at-rows_below [] below k size lt = absurd (omega arith)
at-rows_below (row ∷ rows) [] k size lt = absurd (omega arith)
at-rows_below (row ∷ rows) (more ∷ below) zero size lt = refl
at-rows_below (row ∷ rows) (more ∷ below) (suc k) size lt = at-rows_below rows below k (omega arith) (omega arith)

rows_below-set : (rows : List WeightedStack) (below : List ℕ) (k more : ℕ)
    → length below ≡ length rows → k < length rows
    → rows_below rows (set below k (get_or below k 0 + more)) ≡ with_added_at (rows_below rows below) k more
rows_below-set [] below k more size lt = absurd (omega arith)
rows_below-set (row ∷ rows) [] k more size lt = absurd (omega arith)
rows_below-set (row ∷ rows) (first ∷ below) zero more size lt = grind (arith, common_steps)
rows_below-set (row ∷ rows) (first ∷ below) (suc k) more size lt =
    grind (arith, common_steps, rows_below-set rows below k more (omega arith) (omega arith))

rows_below-none : (rows : List WeightedStack) (count : ℕ) → rows_below rows (replicate count 0) ≡ rows
rows_below-none [] count = refl
rows_below-none (row ∷ rows) zero = refl
rows_below-none (row ∷ rows) (suc count) = grind (arith, common_steps, rows_below-none rows count)

-- whether the parent's stack has a name (q), or the node is called so (e): then it counts for the name (c) where the
-- parent's has it not
split_of_bools : (q e c : Bool) (w : ℕ) → (e ≡ true → c ≡ not q) → cond (q || e) w 0 ≡ cond (c && e) w 0 + cond q w 0
split_of_bools true true c w own = let is : c ≡ false = own refl in let none : w ≡ 0 + w = omega arith in none
    ∙ ap (λ b. cond (b && true) w 0 + w) (sym is)
split_of_bools true false true w own = omega arith
split_of_bools true false false w own = omega arith
split_of_bools false true c w own = let is : c ≡ true = own refl in let none : w ≡ w + 0 = omega arith in none
    ∙ ap (λ b. cond (b && true) w 0 + 0) (sym is)
split_of_bools false false true w own = omega arith
split_of_bools false false false w own = omega arith

and_true : (b : Bool) (x : ℕ) → cond (b && true) x 0 ≡ cond b x 0
and_true true x = refl
and_true false x = refl

and_false : (b : Bool) (x : ℕ) → cond (b && false) x 0 ≡ 0
and_false true x = refl
and_false false x = refl

module _ (names : List (List ℕ)) (nodes : List Node) (tree : IsTree names nodes) where
  own_is : (k : ℕ) → (row_at (node_rows names nodes) k).weight ≡ (at nodes k).own
  own_is k = ap (λ row. row.weight) (row_at-node_rows names nodes k)

  total_of-own : total_of (node_rows names nodes) ≡ sum_by (λ node. node.own) nodes
  total_of-own = sum_both (λ (row : WeightedStack). row.weight)
      (λ node. node.own) (node_rows names nodes) nodes (length-node_rows names nodes) (λ k lt. own_is k)

  flat_is : (n : ℕ) → n < length names
      → flat_weight_of (node_rows names nodes) (name_at names n) + own_if n (at nodes 0) ≡ sum_by (own_if n) nodes
  flat_is n lt = sum_below_root (weight_if (ends_with_name (name_at names n)))
      (own_if n) (node_rows names nodes) nodes (length-node_rows names nodes) tree.rooted
      (ap (λ stack. cond (ends_with_name (name_at names n) stack) (row_at (node_rows names nodes) 0).weight 0)
      (stack_at-root names nodes))
      (λ k pos h. let low = tree.links k pos h in
      (λ i. cond ((ap (ends_with_name (name_at names n)) (stack_at-child names nodes k pos h low.0)
      ∙ ends_with_name-push (name_at names n) (stack_at (node_rows names nodes) (at nodes k).parent) (name_at names
      (at nodes k).name) ∙ same_number names n (at nodes k).name lt low.1 tree.own.unlike) i) (own_is k i) 0))

  part_le : (b : Bool) (x : ℕ) → cond b x 0 ≤ x
  part_le true x = omega arith
  part_le false x = omega arith

  -- ---- before the pass

  pub AreSumsFrom-start : (sums : List Sums) (below : List ℕ)
      → sums ≡ replicate (length names) no_sums → below ≡ replicate (length nodes) 0
      → AreSumsFrom names nodes sums below (length nodes)
  AreSumsFrom-start sums below sums_are below_is =
      let rows : with_below names nodes below ≡ node_rows names nodes = ap (rows_below (node_rows names nodes)) below_is
      ∙ rows_below-none (node_rows names nodes) (length nodes) in
      let all : take (length nodes) (with_below names nodes below) ≡ node_rows names nodes =
      ap (take (length nodes)) rows
      ∙ take_all (length nodes) (node_rows names nodes) (omega (arith, length-node_rows names nodes)) in
      record {
        size = ap length sums_are ∙ length-replicate (length names) no_sums;
        wide = ap length below_is ∙ length-replicate (length nodes) 0;
        some = tree.rooted;
        within = omega arith;
        flat = λ n lt. let none = ap (λ s. (sums_in s n).flat) sums_are
            ∙ ap (λ (s : Sums). s.flat) (get_or-replicate (length names) n no_sums no_sums lt) in
            let whole =
            ap (sum_by (own_if n)) (take_all (length nodes) nodes (omega arith)) in omega (arith, none, whole);
        cum = λ n lt. let none = ap (λ s. (sums_in s n).cum) sums_are
            ∙ ap (λ (s : Sums). s.cum) (get_or-replicate (length names) n no_sums no_sums lt) in
            let whole = ap (weight_where (has_name (name_at names n))) all in omega (arith, none, whole);
        whole = ap total_of all;
      }

  -- ---- a node, from which the pass has come to its front

  module _ (sums : List Sums)
      (below : List ℕ) (k : ℕ) (so_far : AreSumsFrom names nodes sums below (k + 1)) (pos : 0 < k) where
    abbrev node : Node
    node = at nodes k

    abbrev weight : ℕ
    weight = node.own + get_or below k 0

    abbrev rows : List WeightedStack
    rows = with_below names nodes below

    lt : k < length nodes
    lt = omega (arith, so_far.within)

    links : (node.parent < k) × (node.name < length names)
    links = tree.links k pos lt

    wide : length below ≡ length (node_rows names nodes)
    wide = so_far.wide ∙ sym (length-node_rows names nodes)

    rows_lt : k < length rows
    rows_lt = omega (arith, lt, length-rows_below (node_rows names nodes) below, length-node_rows names nodes)

    row_is : (j : ℕ) → j ≤ k → row_at rows j
        ≡ record { stack = stack_at (node_rows names nodes) j; weight = (at nodes j).own + get_or below j 0 }
    row_is j le = grind (arith, common_steps, length-node_rows, wide, at-rows_below, own_is, lt, wide)

    -- what a test counts up to this node, and before it
    with_last : (test : List (List ℕ) → Bool) → weight_where test (take (k + 1) rows)
        ≡ weight_where test (take k rows) + cond (test (stack_at (node_rows names nodes) k)) weight 0
    with_last test = sum_by_more (weight_if test) rows k no_row rows_lt
        ∙ ap (λ row. weight_where test (take k rows) + weight_if test row) (row_is k (omega arith))

    whole_is : total_of (node_rows names nodes) ≡ total_of (take k rows) + weight
    whole_is = sym so_far.whole ∙ sum_by_more (λ (row : WeightedStack). row.weight) rows k no_row rows_lt
        ∙ ap (λ (row : WeightedStack). total_of (take k rows) + row.weight) (row_is k (omega arith))

    parent_row : row_at (take k rows) node.parent ≡ record {
      stack =
          stack_at (node_rows names nodes) node.parent;
      weight = (at nodes node.parent).own + get_or below node.parent 0;
    }
    parent_row = get_or-take k rows node.parent no_row links.0 ∙ row_is node.parent (omega (arith, links.0))

    length-before : length (take k rows) ≡ k
    length-before = length-take-le k rows (omega (arith, rows_lt))

    parent_fits : get_or below node.parent 0 + weight < 2 ^ 63
    parent_fits = grind (arith, common_steps, get_or-le-sum_by, links, whole_is, parent_row, length-before)

    flat_fits : (sums_in sums node.name).flat + node.own < 2 ^ 63
    flat_fits =
        let f = so_far.flat node.name links.1 in
        let more = sum_by_more (own_if node.name) nodes k no_node lt in
        let here : own_if node.name node ≡ node.own = ap (λ b. cond b node.own 0) (eq-eqb node.name node.name refl) in
        let le = sum_by-le-sum_by (own_if node.name)
        (λ (node : Node). node.own) nodes (λ other. part_le (nat_eq node.name other.name) other.own) in
        omega (arith, f, more, here, le, total_of-own, tree.own.fits)

    -- the stack of the node has a name where its parent's has it, or it is the node's
    has_is : (name : List ℕ) → has_name name (stack_at (node_rows names nodes) k)
        ≡ (has_name name (stack_at (node_rows names nodes) node.parent) || is_same_name name (name_at names node.name))
    has_is name = ap (has_name name) (stack_at-child names nodes k pos lt links.0) ∙ has_name-next name _ _

    counted : (name : List ℕ) → cond (has_name name (stack_at (node_rows names nodes) k)) weight 0
        ≡ cond (node.counts && is_same_name name (name_at names node.name)) weight 0 + cond
        (has_name name (stack_at (node_rows names nodes) node.parent)) weight 0
    counted name = search (rules, same_from_is_same_name, split_of_bools, lt, has_is)

    cum_fits : node.counts ≡ true → (sums_in sums node.name).cum + weight < 2 ^ 63
    cum_fits counts =
        let name = name_at names node.name in
        let c = so_far.cum node.name links.1 in
        let last = with_last (has_name name) in
        let here : cond (node.counts && is_same_name name name) weight 0 ≡ weight =
        λ i. cond (counts i && is_same_name-self name i) weight 0 in
        let le = sum_by-le-sum_by (weight_if (has_name name)) (λ (row : WeightedStack). row.weight)
        (node_rows names nodes) (λ row. part_le (has_name name row.stack) row.weight) in
        omega (arith, c, last, counted name, here, le, tree.own.fits)

    -- ---- the node's weight added to its parent's, and to the sums of its name

    next_rows : take k (with_below names nodes (set below node.parent (get_or below node.parent 0 + weight)))
        ≡ with_added_at (take k rows) node.parent weight
    next_rows = grind (arith, set, take-set-lt, get_or-take, length-node_rows, wide, rows_below-set, lt, links, wide)

    next_where : (test : List (List ℕ) → Bool) → weight_where test (with_added_at (take k rows) node.parent weight)
        ≡ weight_where test (take k rows) + cond (test (stack_at (node_rows names nodes) node.parent)) weight 0
    next_where test = grind (arith, common_steps, weight_where-credited, links, parent_row, length-before)

    -- so the node can be added
    pub addable : IsAddable sums below node k
    addable = record {
      within = omega (arith, lt, so_far.wide);
      parent = omega (arith, links.0, lt, so_far.wide);
      name = omega (arith, links.1, so_far.size);
      whole = omega (arith, whole_is, tree.own.fits);
      held = parent_fits;
      flat = flat_fits;
      cum = cum_fits;
    }

    pub AreSumsFrom-next : AreSumsFrom names nodes (sums_with sums below node k) (below_with below node k) k
    AreSumsFrom-next =
        let flat : ℕ = (sums_in sums node.name).flat + node.own in
        let cum : ℕ = (sums_in sums node.name).cum + cond node.counts weight 0 in
        let sum : Sums = record { flat = flat; cum = cum } in
        let here : sums_in (set sums node.name sum) node.name ≡ sum =
        get_or-set_same sums node.name sum no_sums (omega (arith, links.1, so_far.size)) in
        let same : nat_eq node.name node.name ≡ true = eq-eqb node.name node.name refl in
        let rows_are = next_rows in
        record {
          size = length-set sums node.name sum ∙ so_far.size;
          wide = length-set below node.parent (get_or below node.parent 0 + weight) ∙ so_far.wide;
          some = pos;
          within = omega (arith, lt);
          flat = λ n n_lt.
              let last = sum_by_more (own_if n) nodes k no_node lt in
              let old = so_far.flat n n_lt in
              ⊎_elim
              (λ e.
              let now = ap (λ m. (sums_in (set sums node.name sum) m).flat) e ∙ ap (λ s. s.flat) here in
              let was = ap (λ m. (sums_in sums m).flat) e in
              let own : own_if n node ≡ node.own =
              ap (λ b. cond b node.own 0) (ap (λ m. nat_eq m node.name) e ∙ same) in
              omega (arith, last, old, now, was, own))
              (λ ne.
              let now = ap (λ s. s.flat) (get_or-set_other sums node.name n sum no_sums ne) in
              let own : own_if n node ≡ 0 = ap (λ b. cond b node.own 0) (ne_eqb n node.name ne) in
              omega (arith, last, old, now, own))
              (cases_eq n node.name);
          cum = λ n n_lt.
              let name = name_at names n in
              let last = with_last (has_name name) in
              let old = so_far.cum n n_lt in
              let rest = ap (weight_where (has_name name)) rows_are ∙ next_where (has_name name) in
              let number = same_number names n node.name n_lt links.1 tree.own.unlike in
              let split = counted name ∙ ap (λ b. cond (node.counts && b) weight 0 + cond
              (has_name name (stack_at (node_rows names nodes) node.parent)) weight 0) number in
              ⊎_elim
              (λ e.
              let now = ap (λ m. (sums_in (set sums node.name sum) m).cum) e ∙ ap (λ s. s.cum) here in
              let was = ap (λ m. (sums_in sums m).cum) e in
              let own : cond (node.counts && nat_eq n node.name) weight 0 ≡ cond node.counts weight 0 = ap (λ b. cond
              (node.counts && b) weight 0) (ap (λ m. nat_eq m node.name) e ∙ same) ∙ and_true node.counts weight in
              omega (arith, last, old, rest, split, now, was, own))
              (λ ne.
              let now = ap (λ s. s.cum) (get_or-set_other sums node.name n sum no_sums ne) in
              let own : cond (node.counts && nat_eq n node.name) weight 0 ≡ 0 =
              ap (λ b. cond (node.counts && b) weight 0) (ne_eqb n node.name ne) ∙ and_false node.counts weight in
              omega (arith, last, old, rest, split, now, own))
              (cases_eq n node.name);
          whole = ap total_of rows_are ∙ total_of-credited
              (take k rows) node.parent weight (omega (arith, links.0, length-before)) ∙ sym whole_is;
        }

  -- ---- the end of the pass: the root alone is left

  pub AreSumsFrom-end : (sums : List Sums) (below : List ℕ) (left : ℕ)
      → left ≤ 1 → AreSumsFrom names nodes sums below left
      → AreSums (record { names = names; nodes = node_rows names nodes }) sums
  AreSumsFrom-end sums below left le so_far =
      let one : left ≡ 0 + 1 = omega (arith, le, so_far.some) in
      let rows = with_below names nodes below in
      let rows_lt : 0 < length rows =
      omega (arith, tree.rooted, length-rows_below (node_rows names nodes) below, length-node_rows names nodes) in
      record {
        size = so_far.size;
        flat = λ n lt.
            let f = so_far.flat n lt in
            let root = ap (λ k. sum_by (own_if n) (take k nodes)) one
            ∙ sum_by_more (own_if n) nodes 0 no_node tree.rooted in
            let all = flat_is n lt in
            omega (arith, f, root, all);
        cum = λ n lt.
            let c = so_far.cum n lt in
            let root = ap (λ k. weight_where (has_name (name_at names n)) (take k rows)) one
            ∙ sum_by_more (weight_if (has_name (name_at names n))) rows 0 no_row rows_lt in
            let stack : stack_at rows 0 ≡ [] = ap (λ row. row.stack)
            (at-rows_below (node_rows names nodes) below 0 (so_far.wide ∙ sym (length-node_rows names nodes))
            (omega (arith, tree.rooted, length-node_rows names nodes))) ∙ stack_at-root names nodes in
            let none = ap (λ s. cond (has_name (name_at names n) s) (row_at rows 0).weight 0) stack in
            omega (arith, c, root, none);
      }
