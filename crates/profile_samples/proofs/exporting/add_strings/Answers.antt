-- The next name is added.
use Rattle.std.proofs.lemmas.Grind.{common_steps}
use Rattle.std.proofs.Common.{arith, take}
use Rattle.std.proofs.lemmas.List.{length-map, take_all}
use Rattle.name_counts.proofs.TextNumbers.{next_text, next_with, with_texts-append}
use Rattle.profile_samples.proofs.exporting.add_strings.Goals as goal

pub loop-name-preserved : goal.loop-name-preserved
loop-name-preserved c =
    next_with _ c.loop-name.table.texts _ (take
    c.loop-name.name-index c.args.names.now.texts) _ _ c.in_ok-add-2.ensures.texts c.loop-name.invariant
    (next_text c.texts-name-items.result.now
    c.args.names.now.texts c.loop-name.name-index c.texts-name-items.ensures c.loop-name-test.true)

pub returns : goal.returns
returns c = grind (arith, common_steps, length-map, take_all, with_texts-append)
