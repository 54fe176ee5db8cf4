-- The samples have their lists where one more comes.
use Rattle.std.proofs.Common.{[], ◌∷◌, ◌∙◌, ap}
use Rattle.basics.proofs.Growing.{grows_not}
use Rattle.pprof_profile.proofs.SampleLists.{samples_grown}
use Rattle.pprof_profile.proofs.samples.SampleLists.take_list.Goals as goal

pub returns-clause-kept : goal.returns-clause-kept
returns-clause-kept c =
    samples_grown _ _ _ _ _ _ (_ ∷ [], c.in_ok-number.ensures.1) (grows_not _) (grows_not _) _ c.self.invariant
    ∙ ap (λ lists. lists.samples) c.self.view_is
