-- A text without empty frames has as many bytes as its frames and the semicolons between them.
use Rattle.std.proofs.lemmas.Grind.{common_steps}
use Rattle.std.proofs.Common.{arith, eqb-true}
use Rattle.ordered_rows.proofs.SpelledRows.{IsJoined-measured, frames-within}
use Rattle.folded_text.proofs.text_rows.is_joined.Goals as goal

pub overflow_add-result : goal.overflow_add-result
overflow_add-result c =
    let most = frames-within c.args.text.now in omega (arith, most, c.requires.depth, c.requires.bytes)

pub returns-else-is_empty : goal.returns-else-is_empty
returns-else-is_empty c = grind (arith, common_steps, IsJoined-measured, eqb-true)
