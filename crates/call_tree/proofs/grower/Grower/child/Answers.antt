use Rattle.std.proofs.Common.{sym, subst}
use Rattle.call_tree.specs.State.{TreeState, IsChild, plain_at}
use Rattle.call_tree.proofs.grower.Grower.child.Goals as goal

pub returns-in-Some-clause-child : goal.returns-in-Some-clause-child
returns-in-Some-clause-child c =
    let found = c.self.invariant.1.right c.args.parent c.args.name c.in-Some.child.now (sym c.in-Some.ensures.value) in
    let now = subst (λ (t : TreeState). IsChild (plain_at t 0) c.args.parent c.args.name c.in-Some.child.now)
    c.self.view_is found in
    record { within = now.child_lt; stack = now.stack }
