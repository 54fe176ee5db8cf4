-- What is kept weighs no more than all rows together.
use Rattle.std.proofs.lemmas.Grind.{common_steps}
use Rattle.std.proofs.Common.{arith}
use Rattle.std.specs.Option.{option_copied}
use Rattle.std.proofs.lemmas.List.Elements.{All-filter}
use Rattle.profile_rows.specs.StackTexts.{TextState}
use Rattle.ordered_rows.specs.StackOrder.{IsJoined}
use Rattle.ordered_rows.specs.SpelledRows.{IsStackText}
use Rattle.ordered_rows.proofs.SpelledRows.{kept-le, spelled-kept}
use Rattle.ordered_rows.proofs.text_stacks.TextStacks.keep.Goals as goal

pub total_of_texts-self-inside-requires : goal.total_of_texts-self-inside-requires
total_of_texts-self-inside-requires c =
    let most = kept-le (option_copied c.args.focus) (option_copied c.args.ignored) c.self.inside.rows.items in
    grind (arith, common_steps, most)

pub invariant_of-self : goal.invariant_of-self
invariant_of-self c =
    let most = kept-le (option_copied c.args.focus) (option_copied c.args.ignored) c.self.inside.rows.items in
    let fit = All-filter _ (λ (row : TextState). IsStackText row.text × IsJoined row.text) _ c.self.invariant.0 in
    (rw c.keep_rows.ensures fit, grind (arith, common_steps), grind (arith, common_steps, most))

pub returns : goal.returns
returns c =
    let kept = spelled-kept (option_copied c.args.focus) (option_copied c.args.ignored) c.self.inside.rows.items in
    grind (arith, common_steps, kept)
