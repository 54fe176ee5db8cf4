-- Each string was compared once.
use Rattle.std.proofs.Common.{◌∙◌}
use Rattle.profile_samples.proofs.EqualStrings.{position_of_equal}
use Rattle.profile_samples.proofs.sampling.type_named.Goals as goal

pub returns-in-Ok : goal.returns-in-Ok
returns-in-Ok c =
    rw (
      c.type_by_strings.ensures,
      c.as_slice.ensures.value ∙ c.in-Ok.ensures,
      ← c.as_slice-strings.ensures,
      ← c.as_slice-kinds.ensures,
    ) (position_of_equal c.as_slice-strings.result.now c.args.text.now c.as_slice-kinds.result.now)
