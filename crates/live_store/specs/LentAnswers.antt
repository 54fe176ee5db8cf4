-- What a session is once the answer that it lent is let go.
use Rattle.std.specs.Prelude.{◌≡◌, ◌++◌, ◌∷◌, [], Result, IfOk, OnErr, ⊤}
use Rattle.std.specs.Borrow.{Bor, Fml, MutBor, RattleType, follows_so}
use mathlib.Core.List.{IsPrefix}
use mathlib.Core.Option.{none}
use mir.Syntax.{named}
use Rattle.shown_versions.specs.declared.name.StoreName as store
use Rattle.flame_report.specs.declared.answer.Answer.{Answer}
use Rattle.op_book.specs.Books.{receipt_after}
use Rattle.op_book.specs.Operations.{PlainOp, answered}
use Rattle.op_book.specs.declared.fault.BookFault.{BookFault}
use Rattle.live_store.specs.Stores.{SessionState}
use Rattle.live_store.specs.contracts.session.Session.{the_row}

-- the log of a session that asked ends with the receipt of its question, which is the plain answer after all changes
-- that the session then knows of; a session that was refused is as it was
abbrev pub HasAsked : SessionState → PlainOp → Result (Bor Answer) BookFault → SessionState → Type 0
HasAsked before question result after = (after.number ≡ before.number)
    × IfOk result (λ (answer : Bor Answer). (after.log ≡ before.log ++ receipt_after after.seen question ∷ [])
    × ((receipt_after after.seen question).reply ≡ answered answer.now)
    × IsPrefix before.seen after.seen)
    × OnErr result ((after.log ≡ before.log) × (after.seen ≡ before.seen))

module _ (N : RattleType) (name : store.Ghosts N.Denot) where
  -- a session of a store, as the logic holds it
  abbrev pub session_row : RattleType
  session_row = the_row (record { mir = named 1; lft = [] }) N name

  -- once what it lent is let go, the session is so
  abbrev pub ends_so : MutBor SessionState → (SessionState → Type 0) → Fml
  ends_so session so = follows_so session_row session_row session.ghost_name none (λ _ _. ⊤) so
