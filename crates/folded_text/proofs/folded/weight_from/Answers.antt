-- Each digit makes the weight ten times as much and one digit more, and the rest of them never makes it less.
use Rattle.std.proofs.lemmas.Grind.{common_steps}
use Rattle.std.proofs.Common.{◌+◌, arith}
use Rattle.std.proofs.lemmas.Str.Parse.{digit_at}
use Rattle.std.proofs.lemmas.Str.Parse.{digits_value-take-le}
use Rattle.folded_text.proofs.Counts.{digits_value-next}
use Rattle.folded_text.proofs.folded.weight_from.Goals as goal

pub overflow_sub-byte : goal.overflow_sub-byte
overflow_sub-byte c = grind (arith, common_steps, digit_at)

pub returns-then-weight : goal.returns-then-weight
returns-then-weight c =
    let digits = c.args.digits.now in
    let at = c.loop-byte.byte-index in
    let next = digits_value-next digits at c.requires (grind (arith, common_steps)) in
    let first = digits_value-take-le 10 digits (at + 1) (omega arith) in
    grind (arith, common_steps, next, first)

pub loop-byte-preserved : goal.loop-byte-preserved
loop-byte-preserved c = grind (arith, common_steps, digits_value-next)
