-- The lists before stand where they stood, and the new one after them.
use Rattle.std.proofs.lemmas.Grind.{common_steps}
use Rattle.std.proofs.Common.{arith, length, max}
use Rattle.std.proofs.lemmas.List.{map-append}
use Rattle.profile_samples.proofs.FrameLists.{lists_grown, lists_kept, lists_more}
use Rattle.profile_samples.proofs.frame_lists.FrameLists.push.Goals as goal

pub invariant_of-self : goal.invariant_of-self
invariant_of-self c = lists_kept c.self.inside.deepest c.self.inside.numbers.items c.append.new.all.items
    c.append.ensures.kept c.self.inside.spans.items c.self.invariant

pub invariant_of-self-in_err-push : goal.invariant_of-self-in_err-push
invariant_of-self-in_err-push c =
    rw c.in_err-push.ensures.items (lists_kept c.self.inside.deepest c.self.inside.numbers.items
    c.append.new.all.items c.append.ensures.kept c.self.inside.spans.items c.self.invariant)

pub invariant_of-self-2 : goal.invariant_of-self-2
invariant_of-self-2 c = rw (c.in_ok-push.ensures.items, c.max-self-inside.ensures)
    (lists_more c.self.inside.deepest (max c.self.inside.deepest (length c.args.list.now)) c.self.inside.numbers.items
    c.append.new.all.items c.append.ensures.kept c.self.inside.spans.items c.in_ok-span.span c.args.list.now
    c.self.invariant c.in_ok-span.ensures.within c.in_ok-span.ensures.items (omega arith) (omega arith))

pub returns : goal.returns
returns c =
    let kept = lists_grown c.self.inside.numbers.items c.append.new.all.items c.append.ensures.kept
    c.self.inside.spans.items c.self.invariant.0 in
    grind (arith, common_steps, map-append, kept)
