-- The location that the id names, each of its numbers once.
use Rattle.std.proofs.Common.{ℕ, List, Some, None, sym, ◌∙◌, ap}
use Rattle.std.specs.Prelude.{slice_get}
use Rattle.std.specs.Option.{option_map}
use Rattle.std.proofs.lemmas.Option.{slice_get-map}
use denote.Ref.{Bor}
use Rattle.profile_samples.specs.NameNumbers.{once_of}
use Rattle.profile_samples.proofs.FrameNumbers.{numbers_at}
use Rattle.profile_samples.proofs.name_numbers.NumberedFrames.names_of.Goals as goal

pub returns-in_err-find : goal.returns-in_err-find
returns-in_err-find c =
    let this = rw c.self.view_is at c.self.invariant in
    ap (option_map (λ (names : Bor (List ℕ)). names.now)) c.from_residual.ensures
    ∙ ap (option_map once_of)
    (sym (numbers_at c.args.self.now _ _ _ _ c.args.id None this c.in_err-find.ensures))

pub returns : goal.returns
returns c =
    let this = rw c.self.view_is at c.self.invariant in
    let at = c.in_ok-find.field-0 in
    c.get.ensures
    ∙ ap (λ lists. slice_get lists at) this.once_are ∙ slice_get-map once_of c.self.inside.frames at
    ∙ ap (option_map once_of)
    (sym (numbers_at c.args.self.now _ _ _ _ c.args.id (Some at) this c.in_ok-find.ensures))
