use Rattle.std.proofs.Common.{subst, sym}
use Rattle.flame_program.specs.Requests.{IsInputFault}
use Rattle.flame_program.specs.Program.{EndsByFault}
use Rattle.flame_program.specs.declared.outcomes.ToolFault.{ToolFault}
use Rattle.flame_program.proofs.Endings.{ends_by_input_fault, ends_by_read_fault}
use Rattle.flame_program.proofs.program.respond.Goals as goal

pub returns-in-Err : goal.returns-in-Err
returns-in-Err g c words asked =
    subst (λ (fault : ToolFault). EndsByFault words c.args.limit (g.R.Read.remaining c.args.reader.now)
    (g.R.Read.remaining c.read_input.new.reader)
    (g.W.Write.contents c.args.writer.now) (g.W.Write.contents c.args.writer.now) fault)
    (sym c.read_fault.ensures)
    (ends_by_read_fault words c.args.limit _ _ _ c.in-Err.fault (c.args.request, asked) c.in-Err.ensures)

pub returns-in-Err-answer : goal.returns-in-Err-answer
returns-in-Err-answer g c words asked = ends_by_input_fault
    words c.args.limit _ _ _ c.args.request c.in-Ok.input.items c.in-Err-answer.fault asked c.in-Ok.ensures
    (subst (λ input. IsInputFault c.args.request input c.in-Err-answer.fault)
    c.as_slice.ensures.value c.in-Err-answer.ensures)
