-- The options in their turn.
use Rattle.flame_words.proofs.command.live_command.Goals as goal

pub returns : goal.returns
returns c = c.with_default.ensures _
    (c.with_flag-command-2.ensures _
    (c.with_flag-command.ensures _
    (c.with_source-command.ensures _ c.named-command.ensures)))
