use Rattle.std.proofs.Common.{rules}
use Rattle.pprof_profile.specs.Messages.{value_type_form}
use Rattle.pprof_profile.proofs.Forms.{none_takes}
use Rattle.pprof_profile.proofs.tables.ValueTypeMessage.take.Goals as goal

pub returns-in-1 : goal.returns-in-1
returns-in-1 c = rw c.in-1.is (search rules)

pub returns-in-2 : goal.returns-in-2
returns-in-2 c = rw c.in-2.is (search rules)

pub returns-in_default : goal.returns-in_default
returns-in_default c =
    record { done = none_takes value_type_form.rows c.args.field.number _ _ (search rules); fault = tt }
