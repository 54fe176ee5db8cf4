-- A change that a session asks for, as an operation.
use Rattle.std.specs.Arc.{arc_value}
use Rattle.op_book.specs.Operations.{PlainOp, add, reset}
use Rattle.op_book.specs.declared.book.changing.Change.{Change}
use Rattle.op_book.specs.declared.book.changing.Change.TheVariants as change

abbrev pub change_op : Change → PlainOp
change_op (change.Add batch) = add (arc_value batch.now)
change_op change.Reset = reset
