use Rattle.std.proofs.Common.{rules}
use Rattle.pprof_profile.specs.Messages.{label_form}
use Rattle.pprof_profile.proofs.Forms.{none_takes}
use Rattle.pprof_profile.proofs.tables.LabelMessage.take.Goals as goal

pub returns-in-1 : goal.returns-in-1
returns-in-1 c = rw c.in-1.is (search rules)

pub returns-in-2 : goal.returns-in-2
returns-in-2 c = rw c.in-2.is (search rules)

pub returns-in-3 : goal.returns-in-3
returns-in-3 c = rw c.in-3.is (search rules)

pub returns-in-4 : goal.returns-in-4
returns-in-4 c = rw c.in-4.is (search rules)

pub returns-in_default : goal.returns-in_default
returns-in_default c =
    record { done = none_takes label_form.rows c.args.field.number _ _ (search rules); fault = tt }
