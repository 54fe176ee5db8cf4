-- The list of the next sample is one of the first, or is looked at.
use Rattle.std.proofs.lemmas.Grind.{common_steps}
use Rattle.std.proofs.Common.{ℕ, List, Bool, Some, ◌≡◌, ◌<◌, ◌+◌, ◌∙◌, ap, arith, false, get_or, length, slice_get, sym}
use Rattle.std.proofs.Common.{take, true}
use Rattle.std.specs.List.{list_all}
use Rattle.std.proofs.lemmas.Option.{slice_get-get_or}
use Rattle.pprof_profile.specs.declared.messages.Sample.{Sample}
use Rattle.pprof_profile.specs.KnownIds.{knows}
use Rattle.pprof_profile.specs.LocationLists.{list_at}
use Rattle.pprof_profile.specs.Messages.{no_sample}
use Rattle.pprof_profile.specs.Valid.{names_locations}
use Rattle.pprof_profile.proofs.Places.{all_at, not_all_at}
use Rattle.pprof_profile.proofs.validity.locations_are_known.Goals as goal
use Rattle.pprof_profile.proofs.validity.locations_are_known.Goals.{else-number-first}
use Rattle.pprof_profile.proofs.validity.locations_are_known.Goals.{then-number-first+else-not-each_is_known+then-number-first-2}
use Rattle.pprof_profile.proofs.validity.locations_are_known.Goals.{then-number-first+else-not-each_is_known+else-number-first-2}

module _ (known : ℕ → Bool) (samples : List Sample) (list : List ℕ) (index : ℕ) (lt : index < length samples)
    (own : (sample : Sample) → slice_get samples index ≡ Some sample → sample.location_ids ≡ list) where
  here : slice_get samples index ≡ Some (get_or samples index no_sample)
  here = slice_get-get_or samples index no_sample lt

  known_here : names_locations known (take index samples) ≡ true → list_all known list ≡ true
      → names_locations known (take (index + 1) samples) ≡ true
  known_here before all =
      all_at (λ sample. list_all known sample.location_ids) samples index _ here before
      (ap (list_all known) (own _ here) ∙ all)

  unknown_here : list_all known list ≡ false → names_locations known samples ≡ false
  unknown_here one =
      not_all_at (λ sample. list_all known sample.location_ids) samples index _ here
      (ap (list_all known) (own _ here) ∙ one)

-- one list more
one_more : (known : ℕ → Bool) (lists : List (List ℕ)) (first : ℕ)
    → ((number : ℕ) → number < first → list_all known (list_at lists number) ≡ true)
    → list_all known (list_at lists first) ≡ true
    → (number : ℕ) → number < first + 1 → list_all known (list_at lists number) ≡ true
one_more known lists first before here number lt = grind (arith, common_steps, before number)

pub overflow_add-first : goal.overflow_add-first
overflow_add-first c =
    let fits = c.number_at-number.type_inv in let is = c.if-number-first-2.true in omega (arith, fits, is)

pub returns-then-not-each_is_known : goal.returns-then-not-each_is_known
returns-then-not-each_is_known c =
    let test = c.loop-index-test.true in
    let count = c.len-index-end.ensures in
    sym (unknown_here (knows c.args.known.now) c.args.samples.now.samples _ c.loop-index.index
    (omega (arith, test, count)) c.number_at-number.ensures.list
    (ap (list_all (knows c.args.known.now)) (sym c.list.ensures) ∙ sym c.each_is_known.ensures
    ∙ c.if-not-each_is_known.true))

pub loop-index-preserved : goal.loop-index-preserved
loop-index-preserved c =
    let test = c.loop-index-test.true in
    let count = c.len-index-end.ensures in
    let next = known_here (knows c.args.known.now) c.args.samples.now.samples _ c.loop-index.index
    (omega (arith, test, count)) c.number_at-number.ensures.list c.loop-index.invariant.0 in
    elim c.if-number-first.branch [
      | then-number-first+else-not-each_is_known+then-number-first-2 w ↦
          let known = ap (list_all (knows c.args.known.now)) (sym w.list.ensures) ∙ sym w.each_is_known.ensures
          ∙ w.if-not-each_is_known.false in (
            next known,
            rw w.first-is (one_more (knows c.args.known.now) c.args.samples.now.lists c.loop-index.first
                c.loop-index.invariant.1 (rw w.if-number-first-2.true at known)),
          )
      | then-number-first+else-not-each_is_known+else-number-first-2 w ↦
          let known = ap (list_all (knows c.args.known.now)) (sym w.list.ensures) ∙ sym w.each_is_known.ensures
          ∙ w.if-not-each_is_known.false in
          (next known, rw w.first-is c.loop-index.invariant.1)
      | else-number-first w ↦
          let before = w.if-number-first.false in (
            next (c.loop-index.invariant.1 c.number_at-number.result (omega (arith, before))),
            rw w.first-is c.loop-index.invariant.1,
          )
    ]
