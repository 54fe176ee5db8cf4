-- The change was prepared for this book.
use Rattle.std.proofs.lemmas.Grind.{common_steps}
use Rattle.std.proofs.Common.{arith}
use Rattle.op_book.proofs.EntryLaws.{profile_at-le}
use Rattle.op_book.proofs.book.Book.settle.Goals as goal

pub append-requires-clause-light : goal.append-requires-clause-light
append-requires-clause-light c = grind (arith, common_steps, profile_at-le)
