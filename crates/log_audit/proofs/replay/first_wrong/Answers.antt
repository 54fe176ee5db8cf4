use Rattle.std.proofs.Common.{◌+◌, Option, take, sym, subst, arith}
use Rattle.std.proofs.lemmas.Grind.{common_steps}
use Rattle.std.proofs.lemmas.Bool.{both_ways}
use Rattle.log_audit.specs.Matching.{LoggedReceipt}
use Rattle.log_audit.specs.Replays.{IsLowestOf, IsPlain}
use Rattle.log_audit.specs.declared.replay.Wrong.{Wrong}
use Rattle.log_audit.proofs.Replaying.{right_more, wrong_more}
use Rattle.log_audit.proofs.replay.first_wrong.Goals as goal
use Rattle.log_audit.proofs.replay.first_wrong.Goals.{then-not-right, else-not-right}

pub loop-at-init : goal.loop-at-init
loop-at-init c = (
  c.in_ok-followed.ensures c.args.ordered.now,
  λ at otherwise lt. absurd (omega (arith, lt)),
)

pub loop-at-preserved : goal.loop-at-preserved
loop-at-preserved c =
    let all = c.args.ordered.now in
    let at = c.loop-at.at in
    let one = c.index-ordered-at.result in
    let is = c.index-ordered-at.is in
    let right = c.in_ok-same.ensures.right one in (
      grind (arith, common_steps),
      elim c.if-not-right.branch [
        | then-not-right w ↦ subst (λ (o : Option Wrong). IsLowestOf all (at + 1) o) (sym w.lowest-is)
            (wrong_more all at one c.loop-at.lowest w.lower-lowest.result c.loop-at-test.true is
            (λ plain. both_ways c.in_ok-same.right w.if-not-right.true
            (right.1 (subst (λ (x : LoggedReceipt). IsPlain (take at all) x) is plain)))
            w.lower-lowest.ensures c.loop-at.invariant.1)
        | else-not-right w ↦ subst (λ (o : Option Wrong). IsLowestOf all (at + 1) o) (sym w.lowest-is)
            (right_more all at one c.loop-at.lowest c.loop-at-test.true is
            (subst (λ (x : LoggedReceipt). IsPlain (take at all) x) (sym is) (right.0 w.if-not-right.false))
            c.loop-at.invariant.1)
      ],
    )
