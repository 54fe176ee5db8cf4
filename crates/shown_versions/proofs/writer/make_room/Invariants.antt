use Rattle.std.proofs.Common.{◌≡◌}
use Rattle.shown_versions.proofs.writer.make_room.Given as goal

abbrev pub invariant-loop : goal.invariant-loop
invariant-loop l = l.writer.desk ≡ l.initial.writer.desk
