-- The texts are those of the tree's weights.
use Rattle.std.proofs.Common.{List, sym, subst}
use Rattle.profile_rows.specs.StackTexts.{AreStackTexts}
use Rattle.profile_rows.specs.declared.stack_texts.StackText.{StackText}
use Rattle.call_tree.specs.State.{weights_of}
use Rattle.library_steps.proofs.stacks.folded_by_texts.Goals as goal

pub of_texts-requires : goal.of_texts-requires
of_texts-requires c =
    let weights = weights_of c.args.tree.now c.args.value in (
      weights,
      subst
          (λ (texts : List StackText). AreStackTexts weights texts)
          (sym c.as_slice.ensures.value) c.in_ok-texts.ensures,
    )
