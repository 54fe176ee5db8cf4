use Rattle.std.proofs.Common.{arith}
use Rattle.std.proofs.lemmas.Grind.{common_steps}
use Rattle.std.proofs.lemmas.Result.{err_from_is_err_and}
use Rattle.pprof_wire.proofs.FieldLaws.{number_fault, value_fault, field_read}
use Rattle.pprof_wire.proofs.fields.first_field.Goals as goal

pub returns-in_err-number : goal.returns-in_err-number
returns-in_err-number c = grind (arith, common_steps, err_from_is_err_and, number_fault)

pub returns-in_err-value : goal.returns-in_err-value
returns-in_err-value c =
    let p = err_from_is_err_and c.from_residual-in_err-value.result c.from_residual-in_err-value.ensures.1 in
    rw (p.1, p.2) (value_fault _ c.args.bytes.now c.in_ok-tag.tag_len c.in_ok-tag.tag
    c.in_ok-number.number c.bytes_from.result.now c.in_ok-tag.ensures.spelled c.in_ok-number.ensures.number.0
    c.in_ok-number.ensures.number.1 c.bytes_from.ensures.value c.in_err-value.ensures)

pub returns : goal.returns
returns c = grind (arith, common_steps, field_read)
