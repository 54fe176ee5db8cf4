use Rattle.pprof_wire.specs.Fields.{field_of}
use Rattle.pprof_profile.specs.Forms.{table_of}
use Rattle.pprof_profile.proofs.Gathering.{read_more}
use Rattle.pprof_profile.proofs.reading.take_fields.Goals as goal

pub loop-read-preserved : goal.loop-read-preserved
loop-read-preserved g c =
    let next = rw c.in-Ok.is at c.in-Some.ensures.read.field in
    read_more (table_of g.M.Message.form) c.args.message.now c.loop-read.message
    c.take.new.self c.args.fields.now.bytes c.loop-read.fields.bytes next.spelling c.next_field.new.self.bytes
    (field_of c.in-Ok.field) c.loop-read.invariant next.after.parts next.spelled c.in_ok-take-in-Ok.ensures.done
