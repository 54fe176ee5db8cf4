-- The next number is marked, where it isn't yet.
use Rattle.std.proofs.Common.{◌≡◌, ◌+◌, ◌<◌, ℕ, ap, sym, ◌∙◌, get_or, length, subst, take}
use Rattle.std.proofs.lemmas.List.{get_or_default, take_more}
use Rattle.std.specs.declared.vec.Vec.{Vec}
use Rattle.profile_samples.proofs.FrameNumbers.{IsOnceSoFar, once-push, once-same}
use Rattle.profile_samples.proofs.frame_lists.each_once.Goals as goal
use Rattle.profile_samples.proofs.frame_lists.each_once.Goals.{then-index-mark+in_ok-push, else-index-mark}

pub loop-number-preserved : goal.loop-number-preserved
loop-number-preserved c =
    let numbers = c.args.numbers.now in
    let at = c.loop-number.number-index in
    let number = get_or numbers at 0 in
    let marks = c.loop-number.marks.items in
    let so_far = c.loop-number.invariant in
    let next = take_more numbers at 0 c.loop-number-test.true in
    let lt : number < length marks =
    subst (λ n. number < n) (sym so_far.count_is) (c.requires.inside at 0 c.loop-number-test.true) in
    let read : c.index.result.now ≡ get_or marks number 0 = c.index.ensures
    ∙ get_or_default marks number c.index.result.now 0 lt in
    let all : IsOnceSoFar (take (at + 1) numbers) (length c.args.marks.now.items) c.args.mark
    c.if-index-mark.marks.items c.if-index-mark.once.items = elim c.if-index-mark.branch [
      | then-index-mark+in_ok-push w ↦
          rw (
            ap (λ (m : Vec ℕ _). m.items) w.marks-is,
            ap (λ (m : Vec ℕ _). m.items) w.once-is ∙ w.in_ok-push.ensures.items,
          )
          (once-push (take at numbers) (take (at + 1) numbers) (length c.args.marks.now.items) c.args.mark
          number marks c.loop-number.once.items so_far next lt (λ same. w.if-index-mark.true (read ∙ same)))
      | else-index-mark w ↦
          rw (ap (λ (m : Vec ℕ _). m.items) w.marks-is, ap (λ (m : Vec ℕ _). m.items) w.once-is)
          (once-same (take at numbers) (take (at + 1) numbers) (length c.args.marks.now.items)
          c.args.mark number marks c.loop-number.once.items so_far next (sym read ∙ w.if-index-mark.false))
    ] in
    all
