-- The next tree is the aggregate of what then counts.
use Rattle.std.proofs.lemmas.Grind.{common_steps}
use Rattle.std.proofs.Common.{◌≡◌, sym, subst, arith}
use Rattle.std.specs.Arc.{arc_value}
use Rattle.profile_rows.specs.Values.{BatchState}
use Rattle.op_book.specs.Books.{BookState, HasSpaceFor, IsBook, IsTreeAfter}
use Rattle.op_book.specs.Changes.{change_op}
use Rattle.op_book.specs.declared.book.changing.Change.{Change}
use Rattle.op_book.specs.Operations.{add, reset}
use Rattle.op_book.proofs.EntryLaws.{KeepLimit-whole, profile_after-reset}
use Rattle.op_book.proofs.Readiness.{IsTreeAfter-added}
use Rattle.op_book.proofs.book.Book.plan.Goals as goal

-- a reset adds nothing
space_for_reset : (book : BookState) → IsBook book → HasSpaceFor book reset
space_for_reset book kept = record {
  width = tt;
  fits = λ value. let light = KeepLimit-whole book.entries kept.journal.light value in omega (arith, light);
}

pub returns-in_ok-plan-in-Add-clause-planned : goal.returns-in_ok-plan-in-Add-clause-planned
returns-in_ok-plan-in-Add-clause-planned c =
    let batch = c.deref-in-Add.result.now in
    let next = c.in_ok-plan-in-Add.field-0.next in
    let same : batch ≡ arc_value c.in-Add.batch.now = c.deref-in-Add.ensures in
    let after : IsTreeAfter c.args.self.now (add batch) next =
    subst (λ (book : BookState). IsTreeAfter book (add batch) next) c.self.view_is
    (IsTreeAfter-added _ next batch c.self.invariant.0 c.self.invariant.1
    c.aggregate_of_more_rows.ensures c.in_ok-plan-in-Add.ensures.planned.1) in
    let added = subst (λ (change : Change). IsTreeAfter c.args.self.now (change_op change) next) (sym c.in-Add.is)
    (subst (λ (b : BatchState). IsTreeAfter c.args.self.now (add b) next) same after) in
    record { before_is = grind (arith, common_steps); next = added; space = grind (arith, common_steps) }

pub returns-in_ok-plan_reset-in-Reset-clause-planned : goal.returns-in_ok-plan_reset-in-Reset-clause-planned
returns-in_ok-plan_reset-in-Reset-clause-planned c = grind (arith, common_steps, space_for_reset, profile_after-reset)

pub returns-in_err-plan_reset-in-Reset-clause-planned : goal.returns-in_err-plan_reset-in-Reset-clause-planned
returns-in_err-plan_reset-in-Reset-clause-planned c = grind (arith, common_steps, space_for_reset)
