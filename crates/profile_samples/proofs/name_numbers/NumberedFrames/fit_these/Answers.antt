-- The next location's frames take room, where there is any.
use Rattle.std.proofs.Common.{Some, get_or, arith}
use Rattle.std.proofs.lemmas.Bool.{false≢true}
use Rattle.profile_samples.proofs.FrameNumbers.{found_numbers, room_short}
use Rattle.profile_samples.proofs.name_numbers.NumberedFrames.fit_these.Goals as goal

pub returns-then-depth-room : goal.returns-then-depth-room
returns-then-depth-room c =
    let id = get_or c.args.ids.now c.loop-id.id-index 0 in
    let this = found_numbers c.args.self.now id (Some c.in-Some.frames.now) c.in-Some.ensures in
    let deep = room_short c.args.self.now c.args.ids.now c.loop-id.id-index
    c.loop-id.room c.in-Some.frames.now c.loop-id-test.true this c.if-depth-room.true c.loop-id.invariant in
    ((λ h. absurd (false≢true h)), (λ h. absurd (omega (arith, deep, h))))
