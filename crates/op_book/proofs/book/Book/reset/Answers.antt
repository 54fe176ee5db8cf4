-- A reset is never too heavy.
use Rattle.std.proofs.lemmas.Grind.{common_steps}
use Rattle.std.proofs.Common.{◌≢◌, ℕ, arith}
use Rattle.op_book.specs.Books.{BookState, IsFirstBookFault}
use Rattle.op_book.specs.Operations.{reset}
use Rattle.op_book.specs.declared.fault.BookFault.{BookFault}
use Rattle.op_book.specs.declared.fault.BookFault.TheVariants.{Heavy}
use Rattle.op_book.proofs.book.Book.reset.Goals as goal

light_reset : (book : BookState) (session turn : ℕ)
    → (fault : BookFault) → IsFirstBookFault book session turn reset fault → (value held : ℕ) → fault ≢ Heavy value held
light_reset book session turn fault first value held is = grind (arith, common_steps)

pub returns-clause-light : goal.returns-clause-light
returns-clause-light c = grind (arith, common_steps, light_reset)
