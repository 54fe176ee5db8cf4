-- One weight more at one node.
use Rattle.std.proofs.lemmas.Grind.{common_steps}
use Rattle.std.proofs.Common.{◌≡◌, ℕ, ◌+◌, ◌<◌, ◌^◌, List, length, sym, ap, ◌∙◌, subst, arith}
use Rattle.std.proofs.Math.ListN.{set}
use Rattle.std.proofs.lemmas.List.{get_or-set_same, get_or-set_other, length-set}
use Rattle.std.proofs.lemmas.List.Sums.{get_or-le-sum_by}
use Rattle.std.proofs.lemmas.Bool.{cases_eq}
use Rattle.profile_rows.specs.declared.weighted_stacks.WeightedStack.{WeightedStack}
use Rattle.profile_rows.specs.Rows.{total_of}
use Rattle.profile_rows.specs.Merging.{no_row, row_at, with_added_at}
use Rattle.call_tree.specs.declared.node.Node.{Node}
use Rattle.call_tree.specs.State.{HasOwnStacks, stack_at}
use Rattle.call_tree.specs.Shape.{node_rows, at, IsTree}
use Rattle.call_tree.specs.Nodes.{with_weight, without_weight}
use Rattle.call_tree.proofs.Crediting.{stack_at-credited, total_of-credited}
use Rattle.call_tree.proofs.Shapes.{node_rows-set, row_at-node_rows, length-node_rows}

abbrev heavier : Node → ℕ → Node
heavier node weight = with_weight node (node.own + weight)

module _ (names : List (List ℕ)) (old : List Node) (start w : ℕ) (tree : IsTree names old) (lt : start < length old)
    (fits : total_of (node_rows names old) + w < 2 ^ 63) where
  abbrev done : List Node
  done = set old start (heavier (at old start) w)

  length-done : length done ≡ length old
  length-done = length-set old start _

  rows_lt : start < length (node_rows names old)
  rows_lt = omega (arith, length-node_rows names old, lt)

  rows_done : node_rows names done ≡ with_added_at (node_rows names old) start w
  rows_done = grind (arith, common_steps, set, node_rows-set, row_at-node_rows)

  framed : (k : ℕ) → without_weight (at done k) ≡ without_weight (at old k)
  framed k = grind (arith, common_steps, get_or-set_same, get_or-set_other, cases_eq)

  whole_done : total_of (node_rows names done) ≡ total_of (node_rows names old) + w
  whole_done = ap total_of rows_done ∙ total_of-credited (node_rows names old) start w rows_lt

  stack_done : (k : ℕ) → stack_at (node_rows names done) k ≡ stack_at (node_rows names old) k
  stack_done k = ap (λ rows. stack_at rows k) rows_done ∙ stack_at-credited (node_rows names old) start w k rows_lt

  own_done : HasOwnStacks (record { names = names; nodes = node_rows names done })
  own_done =
      let size = length-node_rows names done ∙ length-done ∙ sym (length-node_rows names old) in
      record {
        apart = λ i j hi hj e. tree.own.apart i j (omega (arith, hi, size)) (omega (arith, hj, size))
            (sym (stack_done i) ∙ e ∙ stack_done j);
        unlike = tree.own.unlike;
        deep = λ k hk. omega (arith, ap length (stack_done k), tree.own.deep k (omega (arith, hk, size)));
        fits = omega (arith, whole_done, fits);
      }

  IsTree-done : IsTree names done
  IsTree-done = grind (arith, common_steps, length-done, framed, stack_done, own_done)

-- ---- the same, as the code reads and writes

pub record IsDone (names : List (List ℕ)) (old last : List Node) (start w : ℕ) : Type 0 where
  pub tree : IsTree names last
  pub rows : node_rows names last ≡ with_added_at (node_rows names old) start w

pub finished : (names : List (List ℕ)) (old last : List Node) (start w own : ℕ)
    → IsTree names old → start < length old
    → total_of (node_rows names old) + w < 2 ^ 63
    → own ≡ (at old start).own → last ≡ set old start (with_weight (at old start) (own + w))
    → IsDone names old last start w
finished names old last start w own tree lt fits read wrote =
    let last_is : last ≡ done names old start w tree lt fits =
    wrote ∙ ap (λ n. set old start (with_weight (at old start) (n + w))) read in
    subst (λ ns. IsDone names old ns start w) (sym last_is)
    (record { tree = IsTree-done names old start w tree lt fits; rows = rows_done names old start w tree lt fits })

pub weight_fits : (names : List (List ℕ)) (old : List Node) (start w own : ℕ) → start < length old
    → total_of (node_rows names old) + w < 2 ^ 63 → own ≡ (at old start).own → own + w < 2 ^ 63
weight_fits names old start w own lt fits read =
    let row : (row_at (node_rows names old) start).weight ≡ (at old start).own =
    ap (λ row. row.weight) (row_at-node_rows names old start) in
    let part = get_or-le-sum_by (λ (row : WeightedStack). row.weight)
    (node_rows names old) start no_row (omega (arith, length-node_rows names old, lt)) in
    omega (arith, read, row, part, fits)
