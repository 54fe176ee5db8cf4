-- Rows in another order are the same rows.
use Rattle.std.proofs.lemmas.Grind.{common_steps}
use Rattle.std.proofs.Common.{arith}
use Rattle.std.proofs.lemmas.List.Sorted.{All-permutation}
use Rattle.profile_rows.specs.StackTexts.{TextState}
use Rattle.ordered_rows.specs.SpelledRows.{IsStackText}
use Rattle.ordered_rows.proofs.SpelledRows.{spelled-moved}
use Rattle.folded_text.proofs.merged.sorted_stacks.Goals as goal

pub stacks_of_texts-requires-clause-spelled : goal.stacks_of_texts-requires-clause-spelled
stacks_of_texts-requires-clause-spelled c =
    rw c.as_slice.ensures.value (All-permutation (λ (row : TextState). IsStackText row.text) _ _
    c.sort_by.ensures.permutation c.requires.spelled)

pub stacks_of_texts-requires-clause-fits : goal.stacks_of_texts-requires-clause-fits
stacks_of_texts-requires-clause-fits c = grind (arith, common_steps, spelled-moved)

pub returns : goal.returns
returns c = grind (arith, common_steps, spelled-moved)
