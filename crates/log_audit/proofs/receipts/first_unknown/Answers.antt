use Rattle.std.proofs.lemmas.Grind.{common_steps}
use Rattle.std.proofs.Common.{arith}
use Rattle.std.proofs.lemmas.Bool.{both_ways}
use Rattle.std.proofs.lemmas.List.Elements.{All-more}
use Rattle.log_audit.specs.Matching.{IsKnown}
use Rattle.log_audit.proofs.Passing.{first_without, passed_all}
use Rattle.log_audit.proofs.receipts.first_unknown.Goals as goal

pub returns-then-not-is_known : goal.returns-then-not-is_known
returns-then-not-is_known c = grind (arith, common_steps, both_ways, first_without)

pub loop-one-preserved : goal.loop-one-preserved
loop-one-preserved c = All-more (IsKnown c.args.journal.now)
    c.args.all.now c.loop-one.one-index c.one-item.result c.loop-one-test.true c.loop-one.invariant
    (rw (← c.one-item.is) (c.is_known.ensures.0 c.if-not-is_known.false))

pub returns : goal.returns
returns c = passed_all
    (IsKnown c.args.journal.now) c.args.all.now c.loop-one.one-index c.loop-one-test.false c.loop-one.invariant
