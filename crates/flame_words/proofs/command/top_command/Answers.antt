-- The options in their turn.
use Rattle.flame_words.proofs.command.top_command.Goals as goal

pub returns : goal.returns
returns c = c.with_default.ensures _
    (c.with_default-command.ensures _
    (c.with_report_options-command.ensures _ c.named-command.ensures))
