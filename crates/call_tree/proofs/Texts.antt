-- The nodes of weight above 0 as texts.
use Rattle.std.proofs.lemmas.Grind.{common_steps}
use Rattle.std.proofs.Common.{◌≡◌, ℕ, ◌+◌, ◌<◌, ◌≤◌, true, List, [], ◌∷◌, ◌++◌, All, AllPairs, length, filter, get_or}
use Rattle.std.proofs.Common.{map, take}
use Rattle.std.proofs.Common.{string_bytes, refl, sym, ap, ◌∙◌, subst, arith}
use Rattle.std.specs.Prelude.{◌≢◌}
use Rattle.std.specs.List.{join_with_byte}
use Rattle.std.proofs.lemmas.List.{get_or_default, map-append}
use Rattle.std.proofs.lemmas.Bool.{ltb-true}
use Rattle.std.proofs.lemmas.List.Elements.{All-filter, All-push, filter_passes}
use Rattle.std.proofs.lemmas.List.Kept.{AllPairs-filter}
use Rattle.profile_rows.specs.declared.stack_texts.StackText.{StackText}
use Rattle.profile_rows.specs.declared.weighted_stacks.WeightedStack.{WeightedStack}
use Rattle.profile_rows.specs.Aggregate.{AreWeighty, aggregate_of}
use Rattle.profile_rows.specs.Names.{IsName}
use Rattle.profile_rows.specs.StackTexts.{AreStackTexts, joined_row, plain_text}
use Rattle.profile_rows.specs.Merging.{no_row, row_at}
use Rattle.call_tree.specs.State.{PlainTree, IsState, has_weight, stack_at}
use Rattle.profile_rows.proofs.EntryLaws.{weight_where-same}
use Rattle.call_tree.proofs.Weighty.{aggregate_of-weighty, weighted, weightless}

-- the texts of rows whose stacks are of names
pub record AreSpelled (rows : List WeightedStack) (texts : List StackText) : Type 0 where
  pub spelled : map plain_text texts ≡ map joined_row rows
  pub named : All (λ (row : WeightedStack). All IsName row.stack) rows

AreSpelled-push : (rows : List WeightedStack) (before next : List StackText) (row : WeightedStack) (text : StackText)
    → AreSpelled rows before
    → plain_text text ≡ joined_row row
    → All IsName row.stack → next ≡ before ++ text ∷ [] → AreSpelled (rows ++ row ∷ []) next
AreSpelled-push rows before next row text so_far text_is named next_is = record {
  spelled = ap (map plain_text) next_is
      ∙ map-append plain_text before (text ∷ []) ∙ ap (λ ts. ts ++ plain_text text ∷ []) so_far.spelled
      ∙ ap (λ t. map joined_row rows ++ t ∷ []) text_is ∙ sym (map-append joined_row rows (row ∷ []));
  named = All-push (λ (row : WeightedStack). All IsName row.stack) rows row so_far.named named;
}

-- ---- the loop's step

module _ (nodes : List WeightedStack) (before next : List StackText)
    (k weight : ℕ) (lt : k < length nodes) (weight_is : weight ≡ (row_at nodes k).weight)
    (so_far : AreSpelled (filter has_weight (take k nodes)) before) where
  pub text_more : 0 < weight → (text : StackText) → text.weight ≡ weight → string_bytes text.text
      ≡ join_with_byte 59 (stack_at nodes k) → All IsName (stack_at nodes k) → next ≡ before ++ text ∷ []
      → AreSpelled (filter has_weight (take (k + 1) nodes)) next
  text_more some text same text_is named next_is =
      let rows = filter has_weight (take k nodes) in
      let row : WeightedStack = record { stack = stack_at nodes k; weight = weight } in
      subst (λ rows. AreSpelled rows next)
      (weighted nodes rows (rows ++ row ∷ []) k weight lt weight_is refl some (stack_at nodes k) refl refl)
      (AreSpelled-push rows before next row text so_far
      (λ i. record { text = text_is i; weight = same i }) named next_is)

  pub text_less : weight ≡ 0 → next ≡ before → AreSpelled (filter has_weight (take (k + 1) nodes)) next
  text_less none next_is = grind (arith, common_steps, weightless)

-- ---- the whole

apart_nodes : (tree : PlainTree) → IsState tree → AllPairs (λ (a b : WeightedStack). a.stack ≢ b.stack) tree.nodes
apart_nodes tree is i j d before lt same = grind (arith, get_or_default)

weighty_rows : (rows : List WeightedStack) → AreWeighty (filter has_weight rows)
weighty_rows rows k d lt =
    ltb-true 0 (get_or (filter has_weight rows) k d).weight (filter_passes has_weight rows k d lt)

pub AreStackTexts-nodes : (tree : PlainTree) (texts : List StackText)
    → IsState tree → AreSpelled (filter has_weight tree.nodes) texts → AreStackTexts (aggregate_of tree.nodes) texts
AreStackTexts-nodes tree texts is all = record {
  rows = filter has_weight tree.nodes;
  spelled = all.spelled;
  whole = aggregate_of-weighty tree.nodes;
  weighty = weighty_rows tree.nodes;
  apart = AllPairs-filter (λ (a b : WeightedStack). a.stack ≢ b.stack) has_weight tree.nodes (apart_nodes tree is);
  named = all.named;
  deep = All-filter has_weight (λ (row : WeightedStack). length row.stack ≤ 65535) tree.nodes (λ k d lt.
      let here = ap (λ (row : WeightedStack). row.stack) (get_or_default tree.nodes k d no_row lt) in
      let deep = is.own.deep k lt in
      omega (arith, deep, ap length here));
  fits =
      let total = weight_where-same (λ stack. true) (filter has_weight tree.nodes) tree.nodes
      (aggregate_of-weighty tree.nodes) in
      omega (arith, total, is.own.fits);
}
