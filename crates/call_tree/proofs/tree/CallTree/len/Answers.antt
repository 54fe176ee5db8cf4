use Rattle.std.proofs.Common.{◌∙◌}
use Rattle.call_tree.proofs.Trees.{length-seen}
use Rattle.call_tree.proofs.tree.CallTree.len.Goals as goal

pub returns : goal.returns
returns c = c.len.ensures ∙ length-seen c.self.inside.names c.self.inside.nodes c.args.self.now 0 c.self.view_is
