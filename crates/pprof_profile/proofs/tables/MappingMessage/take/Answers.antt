use Rattle.std.proofs.Common.{rules}
use Rattle.pprof_profile.specs.Messages.{mapping_form}
use Rattle.pprof_profile.proofs.Forms.{none_takes}
use Rattle.pprof_profile.proofs.tables.MappingMessage.take.Goals as goal

pub returns-in-1 : goal.returns-in-1
returns-in-1 c = rw c.in-1.is (search rules)

pub returns-in-2 : goal.returns-in-2
returns-in-2 c = rw c.in-2.is (search rules)

pub returns-in-3 : goal.returns-in-3
returns-in-3 c = rw c.in-3.is (search rules)

pub returns-in-4 : goal.returns-in-4
returns-in-4 c = rw c.in-4.is (search rules)

pub returns-in-5 : goal.returns-in-5
returns-in-5 c = rw c.in-5.is (search rules)

pub returns-in-6 : goal.returns-in-6
returns-in-6 c = rw c.in-6.is (search rules)

pub returns-in-7 : goal.returns-in-7
returns-in-7 c = rw c.in-7.is (search rules)

pub returns-in-8 : goal.returns-in-8
returns-in-8 c = rw c.in-8.is (search rules)

pub returns-in-9 : goal.returns-in-9
returns-in-9 c = rw c.in-9.is (search rules)

pub returns-in-10 : goal.returns-in-10
returns-in-10 c = rw c.in-10.is (search rules)

pub returns-in_default : goal.returns-in_default
returns-in_default c =
    record { done = none_takes mapping_form.rows c.args.field.number _ _ (search rules); fault = tt }
