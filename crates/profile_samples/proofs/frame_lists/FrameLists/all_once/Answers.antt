-- The numbers of the next list, each once.
use Rattle.std.proofs.Common.{◌≡◌, ◌<◌, ◌++◌, ◌∷◌, [], List, ℕ, ap, sym, ◌∙◌, get_or, length, map, take, arith, subst}
use Rattle.std.proofs.lemmas.List.{get_or-map, length-map, map_more}
use Rattle.basics.specs.declared.spans.Span.{Span}
use Rattle.basics.specs.Spans.{items_at}
use Rattle.profile_samples.specs.NameNumbers.{once_of}
use Rattle.profile_samples.proofs.frame_lists.FrameLists.all_once.Goals as goal

-- the list that stands there, and that one does
here : (lists : List (List ℕ)) (numbers list : List ℕ) (spans : List Span) (at : ℕ) (span : Span)
    → map (items_at numbers) spans ≡ lists → at < length spans → list ≡ items_at numbers (get_or spans at span)
    → (get_or lists at [] ≡ list) × (at < length lists)
here lists numbers list spans at span shown lt is =
    let many = length-map spans (items_at numbers) in (
      ap (λ all. get_or all at []) (sym shown) ∙ get_or-map (items_at numbers) spans at span [] lt ∙ sym is,
      subst (λ all. at < length all) shown (omega (arith, many, lt)),
    )

pub each_once-requires-clause-inside : goal.each_once-requires-clause-inside
each_once-requires-clause-inside c = λ k d below.
    let this = here c.args.self.now c.self.inside.numbers.items c.of-list.result.now c.self.inside.spans.items
    c.loop-at.at _ c.self.view_is (rw c.deref-span-items.ensures.value at c.loop-at-test.true)
    (rw (c.deref-span-items.ensures.value, c.as_slice.ensures.value) at c.of-list.ensures) in
    let low = rw this.0 at (c.requires.inside c.loop-at.at [] this.1) in
    let inside = low k d below in
    let marks = c.loop-at.invariant.1 in
    let count = c.in_ok-marks.ensures.len in
    omega (arith, inside, marks, count)

pub loop-at-preserved : goal.loop-at-preserved
loop-at-preserved c =
    let lists = c.args.self.now in
    let at = c.loop-at.at in
    let this = here lists c.self.inside.numbers.items c.of-list.result.now c.self.inside.spans.items
    at _ c.self.view_is (rw c.deref-span-items.ensures.value at c.loop-at-test.true)
    (rw (c.deref-span-items.ensures.value, c.as_slice.ensures.value) at c.of-list.ensures) in (
      c.in_ok-push.ensures ∙ ap (λ names. names ++ c.as_slice-in-loop-at.result.now ∷ []) c.loop-at.invariant.0
          ∙ ap (λ names. map once_of (take at lists) ++ names ∷ []) (c.as_slice-in-loop-at.ensures.value
          ∙ c.in_ok-each_once.ensures.once ∙ ap once_of (sym this.0)) ∙ sym (map_more once_of lists at [] this.1),
      c.in_ok-each_once.ensures.count ∙ c.loop-at.invariant.1,
      c.in_ok-each_once.ensures.marked,
    )
