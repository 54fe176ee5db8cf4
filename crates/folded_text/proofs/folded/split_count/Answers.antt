-- A line's last space, and whether a count follows it.
use Rattle.std.proofs.lemmas.Grind.{common_steps}
use Rattle.std.proofs.Common.{arith, rules}
use Rattle.std.specs.Prelude.{IsTrue}
use Rattle.std.proofs.lemmas.Bool.{eqb-true, eq-eqb}
use Rattle.std.proofs.lemmas.Str.{IsCharBoundary-after_ascii}
use Rattle.folded_text.proofs.Counts.{HasCount-space, HasCount-digits, last_cut}
use Rattle.folded_text.proofs.folded.split_count.Goals as goal

pub returns-in_err-at : goal.returns-in_err-at
returns-in_err-at c =
    rw c.from_residual.ensures
    (λ stack digits. HasCount-space c.args.line.now stack digits (λ k lt e. grind (arith, common_steps, eq-eqb)))

pub range_from-digits-requires : goal.range_from-digits-requires
range_from-digits-requires c = grind (arith, common_steps, eqb-true, IsCharBoundary-after_ascii)

-- the line, cut at the last space that was found
pub returns-then-is_numeral : goal.returns-then-is_numeral
returns-then-is_numeral c =
    record { parts = grind (arith, common_steps, eqb-true, eq-eqb, last_cut); numeral = grind (arith, common_steps) }

pub returns-else-is_numeral : goal.returns-else-is_numeral
returns-else-is_numeral c = λ stack digits has.
    let line = c.args.line.now in
    let at = c.in_ok-at.at in
    let cut = last_cut line at (grind (arith, common_steps)) (grind (arith, common_steps, eqb-true))
    (λ k low high e. grind (arith, common_steps, eq-eqb)) in
    let same = HasCount-digits line _ _ stack digits cut.0 cut.1 has in
    let yes : IsTrue c.is_numeral.result = c.is_numeral.ensures.1 (grind (arith, common_steps)) in
    let no = c.if-is_numeral.false in
    search rules
