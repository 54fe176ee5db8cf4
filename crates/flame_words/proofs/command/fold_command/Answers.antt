-- The options in their turn.
use Rattle.flame_words.proofs.command.fold_command.Goals as goal

pub returns : goal.returns
returns c = c.with_report_options.ensures _ c.named-command.ensures
