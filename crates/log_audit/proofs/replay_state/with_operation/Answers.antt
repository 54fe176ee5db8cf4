-- The tree after one operation more.
use Rattle.std.proofs.lemmas.Grind.{common_steps}
use Rattle.std.proofs.Common.{rules, ◌≡◌, ◌<◌, ◌^◌, ◌++◌, ◌∷◌, [], true, refl, sym, ap, subst, ◌∙◌, arith}
use Rattle.std.proofs.lemmas.List.{append-nil}
use Rattle.profile_rows.specs.Rows.{total_of}
use Rattle.profile_rows.specs.Values.{rows_at}
use Rattle.call_tree.specs.State.{total_in, weights_of}
use Rattle.op_book.specs.Operations.{FitsWidth, PlainOp, add, plain_op, profile_after}
use Rattle.op_book.proofs.EntryLaws.{profile_after-push, profile_after-reset, profile_at-push, total_at-push}
use Rattle.log_audit.proofs.replay_state.with_operation.Goals as goal

pub with_batch-requires : goal.with_batch-requires
with_batch-requires c =
    let operations = c.requires.light.0 in
    let batch = c.deref.result.now in
    let op : plain_op c.args.op.now ≡ add batch = ap plain_op c.in-Add.is ∙ ap add (sym c.deref.ensures) in
    record {
      width = subst (FitsWidth c.args.grower.width) op c.requires.fits;
      fits = λ value.
          let light : total_of (rows_at value (profile_after (operations ++ add batch ∷ []))) < 2 ^ 63 =
          subst (λ (o : PlainOp). total_of (rows_at value (profile_after (operations ++ o ∷ []))) < 2 ^ 63) op
          (c.requires.light.2 value) in
          let held : total_in (weights_of c.args.grower value) ≡ total_of (rows_at value (profile_after operations)) =
          ap total_in (c.requires.light.1 value) ∙ c.sums_are_those_of_the_aggregate.ensures.rows
          (λ stack. true) (rows_at value (profile_after operations)) in
          let whole = total_at-push value operations (add batch) refl in
          omega (arith, light, held, whole);
    }

pub returns-in-Add-clause-tree : goal.returns-in-Add-clause-tree
returns-in-Add-clause-tree c = search (rules, profile_at-push)

pub returns-in-Reset-clause-tree : goal.returns-in-Reset-clause-tree
returns-in-Reset-clause-tree c = search (rules, profile_after-reset)

pub returns-in-Ask-clause-tree : goal.returns-in-Ask-clause-tree
returns-in-Ask-clause-tree c = grind (arith, common_steps, append-nil, profile_after-push)
