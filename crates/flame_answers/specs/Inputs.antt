-- What a request reads of an input, and what refuses the input.
use Rattle.std.specs.Prelude.{ℕ, ◌≡◌, ◌≢◌, ◌⊎◌, ⊤, Bool, true, false, List, Option, Some, None}
use Rattle.pprof_profile.specs.declared.faults.ProfileFault.{ProfileFault}
use Rattle.pprof_profile.specs.declared.faults.ProfileFault.TheVariants as profile
use Rattle.pprof_profile.specs.declared.messages.Draft.{Draft}
use Rattle.pprof_profile.specs.Profiles.{IsProfile, IsProfileFault}
use Rattle.profile_rows.specs.declared.weighted_stacks.WeightedStack.{WeightedStack}
use Rattle.profile_rows.specs.Values.{BatchState}
use Rattle.folded_text.specs.declared.folded.FoldedFault.{FoldedFault}
use Rattle.folded_text.specs.declared.folded.FoldedFault.TheVariants as folded
use Rattle.folded_text.specs.FoldedText.{IsFirstFault, IsFoldedBatch, IsFoldedText}
use Rattle.profile_samples.specs.declared.sampling.BatchFault.{BatchFault}
use Rattle.profile_samples.specs.declared.sampling.BatchFault.TheVariants as batch
use Rattle.profile_samples.specs.declared.sampling.ValueChoice.{ValueChoice}
use Rattle.profile_samples.specs.declared.sampling.ValueChoice.TheVariants.{All, Default, Named}
use Rattle.profile_samples.specs.Batches.{AreStacksOf, IsBatchOf, IsFirstBatchFault, IsFirstStacksFault}
use Rattle.flame_words.specs.declared.request.Format.{Format}
use Rattle.flame_words.specs.declared.request.Format.TheVariants.{Folded, Pprof}
use Rattle.flame_answers.specs.declared.faults.InputFault.{InputFault}
use Rattle.flame_answers.specs.declared.faults.InputFault.TheVariants as refused
use Rattle.flame_answers.specs.declared.faults.AnswerFault.{AnswerFault}
use Rattle.flame_answers.specs.declared.faults.AnswerFault.TheVariants as answer

-- ---- what is wanted of an input

-- A report wants rows of one value, and `live` a batch: of all values where all are asked for, else of one too. The
-- value is the one that the option `--value` names, or the default.
pub data Wanted : Type 0 where
  for_report : Option (List ℕ) → Wanted
  for_store : Bool → Option (List ℕ) → Wanted

abbrev pub Got : Wanted → Type 0
Got (for_report value) = List WeightedStack
Got (for_store all value) = BatchState

-- the choice of a value that the option `--value` makes
abbrev pub IsChoice : Option (List ℕ) → ValueChoice → Type 0
IsChoice None Default = ⊤
IsChoice None (Named text) = ⊥
IsChoice (Some value) Default = ⊥
IsChoice (Some value) (Named text) = text.now ≡ value
IsChoice value All = ⊥

abbrev pub IsChoiceOfAll : ValueChoice → Type 0
IsChoiceOfAll Default = ⊥
IsChoiceOfAll (Named text) = ⊥
IsChoiceOfAll All = ⊤

-- the choice that is wanted of a profile's values
abbrev pub IsChosen : Wanted → ValueChoice → Type 0
IsChosen (for_report value) choice = IsChoice value choice
IsChosen (for_store false value) choice = IsChoice value choice
IsChosen (for_store true value) choice = IsChoiceOfAll choice

-- folded text has it; it has one value
abbrev pub IsSpelled : (wanted : Wanted) → List ℕ → Got wanted → Type 0
IsSpelled (for_report value) input got = IsFoldedText input got
IsSpelled (for_store all value) input got = IsFoldedBatch input got

-- a profile's samples have it
abbrev pub IsSampled : (wanted : Wanted) → Draft → ValueChoice → Got wanted → Type 0
IsSampled (for_report value) draft choice got = AreStacksOf draft choice got
IsSampled (for_store all value) draft choice got = IsBatchOf draft choice got

-- the samples of the profile that bytes are have it
pub record IsOfProfile (wanted : Wanted) (input : List ℕ) (got : Got wanted) : Type 0 where
  pub draft : Draft
  pub profile : IsProfile input draft
  pub choice : ValueChoice
  pub chosen : IsChosen wanted choice
  pub sampled : IsSampled wanted draft choice got

-- an input of a format has it
abbrev pub IsIn : Format → (wanted : Wanted) → List ℕ → Got wanted → Type 0
IsIn Folded wanted input got = IsSpelled wanted input got
IsIn Pprof wanted input got = IsOfProfile wanted input got

-- ---- what refuses it

-- the first fault of a profile's samples
abbrev pub IsFirstOfSamples : Wanted → Draft → ValueChoice → BatchFault → Type 0
IsFirstOfSamples (for_report value) draft choice fault = IsFirstStacksFault draft choice fault
IsFirstOfSamples (for_store all value) draft choice fault = IsFirstBatchFault draft choice fault

-- why the samples of the profile that bytes are don't have it
pub record HasSampleFault (wanted : Wanted) (input : List ℕ) (fault : BatchFault) : Type 0 where
  pub draft : Draft
  pub profile : IsProfile input draft
  pub choice : ValueChoice
  pub chosen : IsChosen wanted choice
  pub first : IsFirstOfSamples wanted draft choice fault

-- the first fault of an input of a format
abbrev pub IsFaultIn : Format → Wanted → List ℕ → InputFault → Type 0
IsFaultIn Folded wanted input (refused.Folded fault) = IsFirstFault input fault × (fault ≢ folded.NoMemory)
IsFaultIn Folded wanted input (refused.Profile fault) = ⊥
IsFaultIn Folded wanted input (refused.Batch fault) = ⊥
IsFaultIn Pprof wanted input (refused.Folded fault) = ⊥
IsFaultIn Pprof wanted input (refused.Profile fault) = IsProfileFault input fault × (fault ≢ profile.NoMemory)
IsFaultIn Pprof wanted input (refused.Batch fault) = HasSampleFault wanted input fault × (fault ≢ batch.NoMemory)

-- an input of a format that has what is wanted, and one that hasn't
abbrev pub HasSome : Format → Wanted → List ℕ → Type 0
HasSome format wanted input = (got : Got wanted) × IsIn format wanted input got

abbrev pub HasNone : Format → Wanted → List ℕ → Type 0
HasNone format wanted input = (got : Got wanted) → IsIn format wanted input got → ⊥

-- What keeps an input from an answer: its first fault, where it hasn't what is wanted; or `NoMemory`, which claims
-- nothing of the input.
abbrev pub IsRefusedIn : Format → Wanted → List ℕ → AnswerFault → Type 0
IsRefusedIn format wanted input (answer.Input fault) =
    IsFaultIn format wanted input fault × HasNone format wanted input
IsRefusedIn format wanted input answer.NoMemory = ⊤

-- A fault told as one of another type: `NoMemory` stays `NoMemory`, and every other fault is told as it is.
-- Then the faults of what is read, told as those of an answer.
abbrev pub IsToldAs : {F T : Type 0} → F → T → (F → T) → F → T → Type 0
IsToldAs no_memory told_no_memory tell fault told =
    ((fault ≡ no_memory) × (told ≡ told_no_memory)) ⊎ ((fault ≢ no_memory) × (told ≡ tell fault))

abbrev pub IsToldOfText : FoldedFault → AnswerFault → Type 0
IsToldOfText = IsToldAs folded.NoMemory answer.NoMemory (λ fault. answer.Input (refused.Folded fault))

abbrev pub IsToldOfProfile : ProfileFault → AnswerFault → Type 0
IsToldOfProfile = IsToldAs profile.NoMemory answer.NoMemory (λ fault. answer.Input (refused.Profile fault))

abbrev pub IsToldOfSamples : BatchFault → AnswerFault → Type 0
IsToldOfSamples = IsToldAs batch.NoMemory answer.NoMemory (λ fault. answer.Input (refused.Batch fault))
