-- A profile has one first fault of its samples, `NoMemory` aside.
use Rattle.std.proofs.lemmas.Grind.{common_steps, same_number_lists}
use Rattle.std.proofs.Common.{◌≡◌, ◌≢◌, ◌⊎◌, ℕ, ◌+◌, ◌<◌, ◌≤◌, List, ◌∷◌, ◌++◌, length, refl, sym, ap, ◌∙◌, inl, inr}
use Rattle.std.proofs.Common.{subst, arith}
use Rattle.std.specs.Prelude.{Result, Ok, Err, MatchResult, slice_get}
use Rattle.pprof_profile.specs.declared.messages.Draft.{Draft}
use Rattle.pprof_profile.specs.declared.messages.Sample.{Sample}
use Rattle.profile_rows.specs.declared.weighted_stacks.WeightedStack.{WeightedStack}
use Rattle.profile_rows.specs.Values.{AreTotals, BatchState, single_batch}
use Rattle.folded_text.proofs.Cuts.{cuts}
use Rattle.profile_samples.specs.declared.sampling.BatchFault.{BatchFault}
use Rattle.profile_samples.specs.declared.sampling.BatchFault.TheVariants.{Negative, Depth, Heavy}
use Rattle.profile_samples.specs.declared.sampling.BatchFault.TheVariants.{NoMemory}
use Rattle.profile_samples.specs.declared.sampling.ValueChoice.{ValueChoice}
use Rattle.profile_samples.specs.Batches.{AreStacksOf, Gives, GivesBatch, GivesOfStacks, IsBatchOf, IsFirstSamplesFault}
use Rattle.profile_samples.specs.Batches.{StandsAtSample}
use Rattle.profile_samples.specs.Samples.{HasWeights, IsSampleFault, sample_stack_of}
use Rattle.profile_samples.proofs.SampleBatches.{AreStacksOf-same, IsBatchOf-same, IsFirstSamplesFault-batch, IsTooWide}
use Rattle.profile_samples.proofs.SampleBatches.{as_named, faultless_among}
use Rattle.profile_samples.proofs.SampleBatches.{memory_or_named, none_some, rows_of_choice}
use Rattle.profile_samples.proofs.SampleRows.{AreRowsOfSamples-same, not_below, same_count, same_first}

-- ---- a sample has one fault

-- so many values from the first that is taken on are these weights
abbrev AreWeights : ℕ → List ℕ → Sample → List ℕ → Type 0
AreWeights first totals sample weights = HasWeights first (length totals) sample.values weights

-- no weights, or weights and a stack that is too deep, or weights and a stack that isn't
as_kind : (draft : Draft) (first : ℕ) (totals : List ℕ) (number : ℕ) (sample : Sample) (fault : BatchFault)
    → fault ≢ NoMemory → IsSampleFault draft first totals number sample fault
    → ((fault ≡ Negative number) × ((weights : List ℕ) → AreWeights first totals sample weights → ⊥))
    ⊎ (((fault ≡ Depth number) × (weights : List ℕ) × AreWeights first totals sample weights
    × (65535 < length (sample_stack_of draft sample.location_ids)))
    ⊎ ((fault ≡ Heavy number) × (weights : List ℕ) × AreWeights first totals sample weights
    × (length (sample_stack_of draft sample.location_ids) ≤ 65535)))
as_kind draft first totals number sample (Negative at) named (value, lt, (is, below, e)) =
    inl (ap Negative is, λ weights are. not_below (slice_get sample.values (first + value)) _ below (are value lt) e)
as_kind draft first totals number sample (Depth at) named (is, weights, are, deep) =
    inr (inl (ap Depth is, weights, are, deep))
as_kind draft first totals number sample (Heavy at) named (is, row, own, value, lt, heavy) =
    inr (inr (ap Heavy is, row.weights, own.values, subst (λ s. length s ≤ 65535) own.stack own.depth))
as_kind draft first totals number sample NoMemory named h = absurd (named refl)
as_kind draft first totals number sample fault named h = absurd h

one_sample_fault : (draft : Draft) (first : ℕ) (totals : List ℕ) (number : ℕ) (sample : Sample)
    (fault other : BatchFault) → fault ≢ NoMemory → other ≢ NoMemory
    → IsSampleFault draft first totals number sample fault
    → IsSampleFault draft first totals number sample other → fault ≡ other
one_sample_fault draft first totals number sample fault other named known ha hb =
    elim (as_kind draft first totals number sample fault named ha) [
      | inl (is, none) ↦ elim (as_kind draft first totals number sample other known hb) [
        | inl (same, nothing) ↦ is ∙ sym same
        | inr (inl (same, weights, are, deep)) ↦ absurd (none weights are)
        | inr (inr (same, weights, are, low)) ↦ absurd (none weights are)
      ]
      | inr (inl (is, weights, are, deep)) ↦ elim (as_kind draft first totals number sample other known hb) [
        | inl (same, none) ↦ absurd (none weights are)
        | inr (inl (same, more, these, deeper)) ↦ is ∙ sym same
        | inr (inr (same, more, these, low)) ↦ absurd (omega (arith, deep, low))
      ]
      | inr (inr (is, weights, are, low)) ↦ elim (as_kind draft first totals number sample other known hb) [
        | inl (same, none) ↦ absurd (none weights are)
        | inr (inl (same, more, these, deep)) ↦ absurd (omega (arith, deep, low))
        | inr (inr (same, more, these, lower)) ↦ is ∙ sym same
      ]
    ]

-- ---- the first sample with a fault

-- where one index lies before another, the fault there is `NoMemory`
earlier_fault : (most : ℕ) (draft : Draft) (choice : ValueChoice) (fault other : BatchFault)
    (a : StandsAtSample most draft choice fault) (b : StandsAtSample most draft choice other) (rest : List Sample)
    → b.before ≡ a.before ++ a.sample ∷ rest → fault ≡ NoMemory
earlier_fault most draft choice fault other a b rest within =
    grind (arith, common_steps, faultless_among, rows_of_choice)

one_standing : (most : ℕ) (draft : Draft) (choice : ValueChoice) (fault other : BatchFault) → fault ≢ NoMemory
    → other ≢ NoMemory → StandsAtSample most draft choice fault → StandsAtSample most draft choice other
    → fault ≡ other
one_standing most draft choice fault other named known a b =
    elim (cuts a.before a.sample a.after b.before b.sample b.after (sym a.cut ∙ b.cut)) [
      | inl same ↦
          let index = same_first draft choice b.first a.first b.batch.width a.batch.width b.is_chosen a.is_chosen in
          let count = same_count draft choice b.first a.first b.batch.width a.batch.width b.is_chosen a.is_chosen in
          let own = rw (← same.0) at (rows_of_choice draft choice b.first b.batch.width a.first a.batch.width
          b.before b.batch.rows b.is_chosen a.is_chosen b.rows_samples) in
          let rows =
          AreRowsOfSamples-same draft a.first a.batch.width a.before b.batch.rows a.batch.rows own a.rows_samples in
          let batch : b.batch ≡ a.batch = λ i. record { width = count i; rows = rows i } in
          let totals = totals_same a.batch b.totals a.totals (rw batch at b.are_totals) a.are_totals in
          let here = rw (index, totals, ← same.0, ← same.1) at b.there in
          one_sample_fault draft a.first a.totals (length a.before) a.sample fault other named known a.there here
      | inr (inl within) ↦ absurd (known (earlier_fault most draft choice other fault b a within.0 within.1))
      | inr (inr within) ↦ absurd (named (earlier_fault most draft choice fault other a b within.0 within.1))
    ]
  where
    totals_same : (batch : BatchState) (one other : List ℕ) → AreTotals batch one → AreTotals batch other → one ≡ other
    totals_same batch one other a b =
        same_number_lists one other (a.width ∙ sym b.width) (λ value lt. a.each value ∙ sym (b.each value))

-- ---- the first fault of a profile

too_wide : (most : ℕ) (draft : Draft) (choice : ValueChoice) (fault other : BatchFault)
    → IsTooWide most draft choice fault → StandsAtSample most draft choice other → ⊥
too_wide most draft choice fault other (count, first, is, chosen, many) b = grind (arith, common_steps, same_count)

pub IsFirstSamplesFault-same : (most : ℕ) (draft : Draft) (choice : ValueChoice) (fault other : BatchFault)
    → fault ≢ NoMemory → other ≢ NoMemory → IsFirstSamplesFault most draft choice fault
    → IsFirstSamplesFault most draft choice other → fault ≡ other
IsFirstSamplesFault-same most draft choice fault other named known ha hb =
    grind (arith, common_steps, same_count, one_standing, none_some, as_named, too_wide)

-- ---- what is answered where there is a first fault

other_fault : (most : ℕ) (draft : Draft) (choice : ValueChoice) (fault first : BatchFault)
    → IsFirstSamplesFault most draft choice fault → first ≢ NoMemory → IsFirstSamplesFault most draft choice first
    → (fault ≡ NoMemory) ⊎ (fault ≡ first)
other_fault most draft choice fault first read some there =
    grind (arith, common_steps, IsFirstSamplesFault-same, memory_or_named)

-- what is read decides what else is answered
gives : {T B : Type 0} (most : ℕ) (draft : Draft) (choice : ValueChoice) (Is : T → Type 0) (Given : B → Type 0)
    (Fits : B → T → Type 0)
    → ((given : B) → Given given → (batch : BatchState) × (batch.width ≤ most) × IsBatchOf draft choice batch)
    → ((made : T) → Is made → (given : B) × Given given × Fits given made)
    → ((one other : B) → Given one → Given other → one ≡ other)
    → (result : Result T BatchFault) → MatchResult result Is (λ fault. IsFirstSamplesFault most draft choice fault)
    → Gives most draft choice Is Given Fits result
gives {B = B} most draft choice Is Given Fits batch_of own same (Ok made) read =
    let (given, this, fits) = own made read in
    let (batch, few, is) = batch_of given this in
    record {
      read = read;
      accepted = λ other there. subst (λ (b : B). Fits b made) (same given other this there) fits;
      every_fault = λ first some there. some (IsFirstSamplesFault-batch most draft choice batch first few is there);
    }
gives most draft choice Is Given Fits batch_of own same (Err fault) read = record {
  read = read;
  accepted = λ given there. let (batch, few, is) = batch_of given there in
      IsFirstSamplesFault-batch most draft choice batch fault few is read;
  every_fault = λ first some there. other_fault most draft choice fault first read some there;
}

pub gives_batch : (draft : Draft) (choice : ValueChoice) (result : Result BatchState BatchFault)
    → MatchResult result (IsBatchOf draft choice) (λ fault. IsFirstSamplesFault 4 draft choice fault)
    → GivesBatch draft choice result
gives_batch draft choice =
    gives 4 draft choice (IsBatchOf draft choice) (IsBatchOf draft choice) (λ batch made. made ≡ batch)
    (λ batch this. (batch, this.is_batch.few, this)) (λ batch this. (batch, this, refl)) (IsBatchOf-same draft choice)

pub gives_of_stacks : {T : Type 0} (draft : Draft) (choice : ValueChoice) (Is : T → Type 0)
    (Fits : List WeightedStack → T → Type 0)
    → ((made : T) → Is made → (rows : List WeightedStack) × AreStacksOf draft choice rows × Fits rows made)
    → (result : Result T BatchFault) → MatchResult result Is (λ fault. IsFirstSamplesFault 1 draft choice fault)
    → GivesOfStacks draft choice Is Fits result
gives_of_stacks draft choice Is Fits own =
    gives 1 draft choice Is (AreStacksOf draft choice) Fits (λ rows this. (single_batch rows, omega arith, this)) own
    (AreStacksOf-same draft choice)
