-- The name is put in, where there is one.
use Rattle.std.proofs.lemmas.Grind.{common_steps}
use Rattle.std.proofs.Common.{Some, ap, arith, ◌∙◌}
use Rattle.profile_samples.proofs.FrameNumbers.{number_put}
use Rattle.profile_samples.proofs.string_names.number_with.Goals as goal

pub returns-in_ok-insert_full-in-Some : goal.returns-in_ok-insert_full-in-Some
returns-in_ok-insert_full-in-Some c =
    let done = c.in_ok-insert_full-in-Some.ensures in
    record {
      names = grind (arith, common_steps);
      number = λ more.
          rw (done.keys, c.in-Some.is) (ap Some (done.index ∙ number_put c.args.names.now.keys more c.in-Some.name));
    }
