-- The samples before stand where they stood, and the new one after them.
use Rattle.std.proofs.lemmas.Grind.{common_steps}
use Rattle.std.proofs.Common.{arith}
use Rattle.std.proofs.lemmas.List.{map-append}
use Rattle.std.proofs.lemmas.List.Elements.{All-push}
use Rattle.std.proofs.lemmas.Result.{err_from_is_err_and}
use Rattle.pprof_profile.specs.SampleLists.{AreWithin}
use Rattle.pprof_profile.proofs.SampleLists.{all_within_grown, samples_grown}
use Rattle.basics.proofs.Growing.{grows_not}
use Rattle.pprof_profile.proofs.samples.SampleLists.push.Goals as goal

pub returns-in_err-list : goal.returns-in_err-list
returns-in_err-list c =
    rw (err_from_is_err_and c.from_residual.result c.from_residual.ensures.1).1
    (grind (arith, common_steps, samples_grown, grows_not))

pub returns-in_err-values : goal.returns-in_err-values
returns-in_err-values c =
    rw (err_from_is_err_and c.from_residual-in_err-values.result c.from_residual-in_err-values.ensures.1).1
    (grind (arith, samples_grown, grows_not))

pub returns-in_err-labels : goal.returns-in_err-labels
returns-in_err-labels c =
    rw (err_from_is_err_and c.from_residual-in_err-labels.result c.from_residual-in_err-labels.ensures.1).1
    (grind (arith, common_steps, samples_grown))

pub invariant_of-self-in_err-push : goal.invariant_of-self-in_err-push
invariant_of-self-in_err-push c = grind (arith, common_steps, all_within_grown)

pub returns-in_err-push : goal.returns-in_err-push
returns-in_err-push c = grind (arith, samples_grown)

pub invariant_of-self-2 : goal.invariant_of-self-2
invariant_of-self-2 c =
    rw c.in_ok-push.ensures.items
    (All-push (AreWithin c.number_after.new.self c.append.new.all.items c.append-2.new.all.items)
    c.self.inside.spans.items _
    (all_within_grown _ _ _ _ _ _ c.number_after.ensures.kept c.append.ensures.kept c.append-2.ensures.kept _
    c.self.invariant)
    (record {
      list_is = c.in_ok-list.ensures.list.0;
      values_are = c.in_ok-values.ensures.within;
      labels_are = c.in_ok-labels.ensures.within;
    }))

pub returns : goal.returns
returns c = grind (arith, common_steps, map-append, samples_grown)
