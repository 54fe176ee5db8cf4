-- Each subcommand in its turn.
use Rattle.flame_words.proofs.command.command.Goals as goal

pub returns : goal.returns
returns c = c.with_subcommand.ensures _ _
    (c.with_subcommand-command-4.ensures _ _
    (c.with_subcommand-command-3.ensures _ _
    (c.with_subcommand-command-2.ensures _ _
    (c.with_subcommand-command.ensures _ _ c.bare_command.ensures c.top_command.ensures)
    c.flame_graph_command.ensures)
    c.fold_command.ensures)
    c.proto_command.ensures)
    c.live_command.ensures
