-- Sorted texts are in the order of their stacks.
use Rattle.std.proofs.lemmas.Grind.{common_steps}
use Rattle.std.proofs.Common.{arith, rules, ◌≡◌, ap}
use Rattle.std.specs.Prelude.{IsSorted}
use Rattle.std.specs.Ordering.{is_lt}
use Rattle.std.proofs.lemmas.List.Sorted.{All-permutation, answers_always, ranks_by}
use Rattle.profile_rows.specs.StackTexts.{TextState}
use Rattle.ordered_rows.specs.StackOrder.{IsJoined}
use Rattle.ordered_rows.specs.SpelledRows.{IsStackText, by_text}
use Rattle.ordered_rows.proofs.StackOrder.{stack_text_cmp_total}
use Rattle.ordered_rows.proofs.SpelledRows.{spelled-moved, spelled-sorted}
use Rattle.ordered_rows.proofs.text_stacks.TextStacks.sorted.Goals as goal

pub invariant_of-result : goal.invariant_of-result
invariant_of-result c =
    let given = c.args.rows.items in
    let moved = c.sort_by.ensures.permutation in (
      All-permutation (λ (row : TextState). IsStackText row.text × IsJoined row.text) given
          c.sort_by.new.self.items moved (λ k d lt. (c.requires.spelled k d lt, c.requires.texts.joined k d lt)),
      grind (arith, common_steps, (spelled-moved given c.sort_by.new.self.items moved).1),
      grind (arith, common_steps),
    )

pub returns : goal.returns
returns c =
    let sorted : IsSorted by_text c.sort_by.new.self.items =
    c.in_ok-sort_by.ensures.sorted (λ (a : TextState) (b : TextState). is_lt (by_text a b))
    (ranks_by stack_text_cmp_total (λ (row : TextState). row.text))
    (answers_always _ _ _ (λ f a r q k. let e : r ≡ by_text a.0.now a.1.0.now = search rules in ap is_lt e)) in
    grind (arith, common_steps, spelled-sorted)
