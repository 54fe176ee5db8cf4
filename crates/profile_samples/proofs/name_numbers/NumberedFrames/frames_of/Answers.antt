-- The location that the id names.
use Rattle.std.proofs.Common.{ℕ, List, Some, None, sym, ◌∙◌, ap}
use Rattle.std.specs.Option.{option_map}
use denote.Ref.{Bor}
use Rattle.profile_samples.proofs.FrameNumbers.{numbers_at}
use Rattle.profile_samples.proofs.name_numbers.NumberedFrames.frames_of.Goals as goal

pub returns-in_err-find : goal.returns-in_err-find
returns-in_err-find c =
    ap (option_map (λ (numbers : Bor (List ℕ)). numbers.now)) c.from_residual.ensures
    ∙ sym (numbers_at c.args.self.now _ _ _ _ c.args.id None
    (rw c.self.view_is at c.self.invariant) c.in_err-find.ensures)

pub returns : goal.returns
returns c =
    c.get.ensures
    ∙ sym (numbers_at c.args.self.now _ _ _ _ c.args.id (Some c.in_ok-find.field-0)
    (rw c.self.view_is at c.self.invariant) c.in_ok-find.ensures)
