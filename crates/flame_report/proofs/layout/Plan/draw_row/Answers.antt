-- A path more of the row: its rectangle is drawn, or none that is left is.
use Rattle.std.proofs.lemmas.Grind.{common_steps}
use Rattle.std.proofs.Common.{[], refl, map, take, ap, sym, ◌∙◌, arith, ℕ, List, ◌≡◌, ◌≤◌, length, drop, true, ◌+◌, ◌∷◌}
use Rattle.std.proofs.lemmas.List.{append-nil, drop_more, length-take-le}
use Rattle.std.proofs.lemmas.Bool.{lt-ltb}
use Rattle.profile_rows.specs.Layout.{rectangle_at, is_shown}
use Rattle.flame_report.specs.Answers.{rect_of}
use Rattle.call_tree.specs.State.{stack_at}
use Rattle.flame_report.specs.Sharing.{known_at, span_of, shown_of}
use Rattle.flame_report.specs.declared.layout.Shape.{Shape}
use Rattle.flame_report.proofs.Held.{known-le}
use Rattle.flame_report.proofs.Narrow.{nothing_left}
use Rattle.flame_report.proofs.Prefixes.{get_or-prefixes, length-prefixes}
use Rattle.flame_report.proofs.RowSums.{stack_at-get}
use Rattle.profile_rows.specs.declared.weighted_stacks.WeightedStack.{WeightedStack}
use Rattle.profile_rows.specs.Paths.{prefixes}
use Rattle.flame_report.proofs.layout.Plan.draw_row.Goals as goal

-- the path that comes next is drawn where it is wide enough
drawn-yes : (columns : ℕ) (rows : List WeightedStack) (stack : List (List ℕ)) (d : ℕ)
    → d ≤ length stack → is_shown (rectangle_at columns rows (take d stack)) ≡ true
    → map rect_of (shown_of columns rows (drop d (prefixes stack))) ≡ rect_of
    (rectangle_at columns rows (take d stack)) ∷ map rect_of (shown_of columns rows (drop (d + 1) (prefixes stack)))
drawn-yes columns rows stack d deep wide =
    let more = drop_more (prefixes stack) d [] (omega (arith, length-prefixes stack)) in
    rw (more, get_or-prefixes stack d [] deep, wide) refl

pub span_at-shortest-requires-clause-depth : goal.span_at-shortest-requires-clause-depth
span_at-shortest-requires-clause-depth c = grind (arith, common_steps, known-le)

pub returns-then-shortest : goal.returns-then-shortest
returns-then-shortest c =
    let rows = c.args.self.now.rows.now in
    let columns = c.args.self.now.columns in
    let stack = stack_at c.args.self.now.rows.now c.args.at in
    let is = c.span_at-shortest.ensures
    ∙ ap (λ (shape : Shape). span_of (rectangle_at columns rows (take shape.known stack))) c.shape-known.ensures in
    rw (nothing_left columns rows stack (known_at rows c.args.at) c.span_at-shortest.result is (omega arith))
    (sym (append-nil c.args.drawing.now.rects.items))

pub loop-depth-init : goal.loop-depth-init
loop-depth-init c = grind (arith, common_steps, known-le)

pub returns-then-span : goal.returns-then-span
returns-then-span c = grind (arith, common_steps, append-nil, nothing_left, stack_at-get)

pub loop-depth-preserved : goal.loop-depth-preserved
loop-depth-preserved c =
    grind (arith, common_steps, length-take-le, lt-ltb, stack_at-get, drawn-yes)

pub returns : goal.returns
returns c = grind (arith, common_steps, append-nil, length-prefixes, stack_at-get)
