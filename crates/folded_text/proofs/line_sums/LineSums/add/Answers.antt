-- Each line is a row more, or empty, or has a fault.
use Rattle.std.proofs.lemmas.Grind.{common_steps}
use Rattle.std.proofs.Common.{◌≡◌, ◌∷◌, ◌+◌, ◌-◌, ℕ, List, drop, take, length, arith, sym}
use Rattle.std.specs.Str.Lines.{lines}
use Rattle.std.proofs.lemmas.Bool.{eqb-true}
use Rattle.profile_rows.proofs.Cleaning.{filled}
use Rattle.folded_text.proofs.AddingLines.{AreAddedTo-begin, AreAddedTo-row, AreAddedTo-skip}
use Rattle.folded_text.proofs.line_sums.LineSums.add.Goals.{then-not-is_empty+in_default, else-not-is_empty}
use Rattle.folded_text.proofs.line_sums.LineSums.add.Goals as goal

pub loop-len-init : goal.loop-len-init
loop-len-init c = (omega arith, omega arith, AreAddedTo-begin c.args.text.now c.args.self.now)

first : (text line : List ℕ) (at size : ℕ)
    → lines (take (length text - at) (drop at text)) ≡ line ∷ lines (drop size (take (length text - at) (drop at text)))
    → lines (drop at text) ≡ line ∷ lines (drop (at + size) text)
first text line at size is = grind (arith, common_steps)

pub loop-len-preserved : goal.loop-len-preserved
loop-len-preserved c =
    let (inside, numbered, so_far) = c.loop-len.invariant in
    let next = first c.args.text.now _ c.loop-len.len _ c.first_line-size.ensures.lines_are in (
      grind (arith, common_steps),
      omega (arith, numbered, c.first_line-size.ensures.some),
      elim c.if-not-is_empty.branch [
        | then-not-is_empty+in_default w ↦
            let (row, this, adds) = w.in_default.ensures.added in
            rw w.self-is
            (AreAddedTo-row _ _ _ _ _ _ _ so_far next _ row (filled _ (sym w.if-not-is_empty.ensures)) this adds)
        | else-not-is_empty w ↦ rw w.self-is (AreAddedTo-skip _ _ _ _ _ _ _ so_far next
            (eqb-true _ 0 (sym w.if-not-is_empty.ensures)))
      ],
    )
