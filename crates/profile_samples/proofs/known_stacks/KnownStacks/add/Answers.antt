-- A text that is missing comes at the end.
use Rattle.std.proofs.Common.{arith}
use Rattle.std.proofs.lemmas.Result.{on_ok_weaker}
use Rattle.name_counts.proofs.TextNumbers.{none_at_end}
use Rattle.profile_samples.proofs.known_stacks.KnownStacks.add.Goals as goal

pub returns : goal.returns
returns c =
    on_ok_weaker c.add.result (λ added. (
      rw (none_at_end c.args.self.now.texts.texts c.args.text.now (omega (arith, c.requires))) at added,
      c.in_ok-push.ensures,
    )) c.add.ensures.texts
