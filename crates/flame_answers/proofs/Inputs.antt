-- What faults of an input say, and the text of answers.
use Rattle.std.proofs.Common.{◌≡◌, ◌≢◌, ℕ, true, false, List, refl, sym, ap, ◌∙◌, subst, inl, inr}
use Rattle.std.specs.Prelude.{Option, Some, None, Result, Ok, Err, MatchResult}
use denote.Ref.{Bor}
use Rattle.pprof_profile.specs.declared.faults.ProfileFault.{ProfileFault}
use Rattle.pprof_profile.specs.declared.faults.ProfileFault.TheVariants as profile
use Rattle.pprof_profile.specs.declared.messages.Draft.{Draft}
use Rattle.pprof_profile.specs.Profiles.{IsProfile, IsProfileFault}
use Rattle.profile_rows.specs.declared.weighted_stacks.WeightedStack.{WeightedStack}
use Rattle.folded_text.specs.declared.folded.FoldedFault.{FoldedFault}
use Rattle.folded_text.specs.declared.folded.FoldedFault.TheVariants as folded
use Rattle.folded_text.specs.FoldedText.{IsFirstFault, IsWorkFault}
use Rattle.profile_samples.specs.declared.sampling.BatchFault.{BatchFault}
use Rattle.profile_samples.specs.declared.sampling.BatchFault.TheVariants as batch
use Rattle.profile_samples.specs.declared.sampling.ValueChoice.{ValueChoice}
use Rattle.profile_samples.specs.declared.sampling.ValueChoice.TheVariants.{All, Default, Named}
use Rattle.profile_rows.specs.Values.{BatchState, single_batch}
use Rattle.profile_samples.specs.Batches.{IsBatchOf}
use Rattle.profile_samples.specs.Samples.{chosen_types_of, one_from, type_named}
use Rattle.flame_report.specs.Answers.{answer_by, kept_by}
use Rattle.flame_report.specs.declared.query.Kind.{Kind}
use Rattle.flame_report.specs.declared.query.Query.{Query}
use Rattle.flame_words.specs.declared.request.Format.{Format}
use Rattle.flame_words.specs.declared.request.Format.TheVariants.{Folded, Pprof}
use Rattle.flame_words.specs.declared.request.Source.{Source}
use Rattle.flame_answers.specs.declared.faults.AnswerFault.{AnswerFault}
use Rattle.flame_answers.specs.Answers.{IsAnswerOfAll, IsReport, answer_text}
use Rattle.flame_answers.specs.Inputs.{Got, IsChoice, IsChoiceOfAll, IsChosen, IsFirstOfSamples, IsIn, IsRefusedIn}
use Rattle.flame_answers.specs.Inputs.{IsSampled, IsSpelled, IsToldOfProfile, IsToldOfSamples, IsToldOfText, Wanted}
use Rattle.flame_answers.specs.Inputs.Wanted.{for_report, for_store}

-- ---- answers

-- a query that keeps every row is answered by all of them
IsReport-of_all : (source : Source) (query : Query) (format : Format) (kind : Kind) (input text : List ℕ)
    → source.format ≡ format → query.kind ≡ kind → ((rows : List WeightedStack) → kept_by query rows ≡ rows)
    → IsAnswerOfAll format source.value input kind text → IsReport source.format source.value query input text
IsReport-of_all source query format kind input text same asked keeps (all, spelled, whole) = record {
  rows = all;
  spelled = subst (λ f. IsIn f (for_report source.value) input all) (sym same) spelled;
  whole = whole ∙ ap (λ k. answer_text (answer_by k all)) (sym asked)
      ∙ ap (λ kept. answer_text (answer_by query.kind kept)) (sym (keeps all));
}

pub answered-of_all : {T : Type 0} (bytes : T → List ℕ) (source : Source) (query : Query) (format : Format)
    (kind : Kind) (input : List ℕ) (outcome : Result T AnswerFault) → source.format ≡ format → query.kind ≡ kind
    → ((rows : List WeightedStack) → kept_by query rows ≡ rows)
    → MatchResult outcome (λ text. IsAnswerOfAll format source.value input kind (bytes text))
    (λ fault. IsRefusedIn format (for_report source.value) input fault)
    → MatchResult outcome (λ text. IsReport source.format source.value query input (bytes text))
    (λ fault. IsRefusedIn source.format (for_report source.value) input fault)
answered-of_all bytes source query format kind input (Ok text) same asked keeps answered =
    IsReport-of_all source query format kind input (bytes text) same asked keeps answered
answered-of_all bytes source query format kind input (Err fault) same asked keeps answered =
    subst (λ f. IsRefusedIn f (for_report source.value) input fault) (sym same) answered

-- ---- folded text

pub text_refused : (wanted : Wanted) (input : List ℕ) (fault : FoldedFault) (told : AnswerFault)
    → IsFirstFault input fault → ((got : Got wanted) → IsSpelled wanted input got → fault ≡ folded.NoMemory)
    → IsToldOfText fault told → IsRefusedIn Folded wanted input told
text_refused wanted input fault told first none (inl memory) =
    subst (λ (t : AnswerFault). IsRefusedIn Folded wanted input t) (sym memory.1) tt
text_refused wanted input fault told first none (inr other) =
    subst (λ (t : AnswerFault). IsRefusedIn Folded wanted input t) (sym other.1)
    ((first, other.0), λ got this. other.0 (none got this))

-- what work on a text's rows ends without a result by
pub work_refused : (wanted : Wanted) (input : List ℕ) (fault : FoldedFault) (told : AnswerFault)
    → IsWorkFault input fault → ((got : Got wanted) → IsSpelled wanted input got → fault ≡ folded.NoMemory)
    → IsToldOfText fault told → IsRefusedIn Folded wanted input told
work_refused wanted input fault told (inl first) none as_told = text_refused wanted input fault told first none as_told
work_refused wanted input fault told (inr late) none (inl memory) =
    subst (λ (t : AnswerFault). IsRefusedIn Folded wanted input t) (sym memory.1) tt
work_refused wanted input fault told (inr late) none (inr other) = absurd (other.0 late.0)

-- ---- profiles

pub bytes_refused : (wanted : Wanted) (input : List ℕ) (fault : ProfileFault) (told : AnswerFault)
    → (fault ≢ profile.NoMemory → IsProfileFault input fault)
    → ((draft : Draft) → IsProfile input draft → fault ≡ profile.NoMemory)
    → IsToldOfProfile fault told → IsRefusedIn Pprof wanted input told
bytes_refused wanted input fault told first drafts (inl memory) =
    subst (λ (t : AnswerFault). IsRefusedIn Pprof wanted input t) (sym memory.1) tt
bytes_refused wanted input fault told first drafts (inr other) =
    subst (λ (t : AnswerFault). IsRefusedIn Pprof wanted input t) (sym other.1)
    ((first other.0, other.0), λ got this. other.0 (drafts this.draft this.profile))

-- ---- samples

-- a choice is by its text alone
same_choice : {A : Type 0} (f : ValueChoice → A)
    → ((text also : Bor (List ℕ)) → text.now ≡ also.now → f (Named text) ≡ f (Named also))
    → (value : Option (List ℕ)) (one other : ValueChoice) → IsChoice value one → IsChoice value other → f one ≡ f other
same_choice f named None Default Default a b = refl
same_choice f named None Default (Named text) a b = absurd b
same_choice f named None Default All a b = absurd b
same_choice f named None (Named text) other a b = absurd a
same_choice f named None All other a b = absurd a
same_choice f named (Some value) Default other a b = absurd a
same_choice f named (Some value) All other a b = absurd a
same_choice f named (Some value) (Named text) Default a b = absurd b
same_choice f named (Some value) (Named text) All a b = absurd b
same_choice f named (Some value) (Named text) (Named also) a b = named text also (a ∙ sym b)

same_all : {A : Type 0} (f : ValueChoice → A) (one other : ValueChoice) → IsChoiceOfAll one → IsChoiceOfAll other
    → f one ≡ f other
same_all f Default other a b = absurd a
same_all f (Named text) other a b = absurd a
same_all f All Default a b = absurd b
same_all f All (Named text) a b = absurd b
same_all f All All a b = refl

-- what is wanted of a profile's values decides which are taken
same_types : (wanted : Wanted) (draft : Draft) (one other : ValueChoice) → IsChosen wanted one → IsChosen wanted other
    → chosen_types_of draft other ≡ chosen_types_of draft one
same_types (for_report value) draft one other a b =
    same_choice (chosen_types_of draft) (λ text also e. ap (λ t. one_from (type_named draft t)) e) value other one b a
same_types (for_store false value) draft one other a b =
    same_choice (chosen_types_of draft) (λ text also e. ap (λ t. one_from (type_named draft t)) e) value other one b a
same_types (for_store true value) draft one other a b = same_all (chosen_types_of draft) other one b a

same_batch : (draft : Draft) (one other : ValueChoice) (batch : BatchState)
    → chosen_types_of draft other ≡ chosen_types_of draft one → IsBatchOf draft one batch → IsBatchOf draft other batch
same_batch draft one other batch same this = record {
  first = this.first;
  is_chosen = same ∙ this.is_chosen;
  rows_samples = this.rows_samples;
  is_batch = this.is_batch;
}

same_sampled : (wanted : Wanted) (draft : Draft) (one other : ValueChoice) (got : Got wanted)
    → IsChosen wanted one → IsChosen wanted other → IsSampled wanted draft one got → IsSampled wanted draft other got
same_sampled (for_report value) draft one other got a b =
    same_batch draft one other (single_batch got) (same_types (for_report value) draft one other a b)
same_sampled (for_store all value) draft one other got a b =
    same_batch draft one other got (same_types (for_store all value) draft one other a b)

pub samples_refused : (wanted : Wanted) (input : List ℕ) (draft : Draft) (choice : ValueChoice) (fault : BatchFault)
    (told : AnswerFault) → IsProfile input draft → ((other : Draft) → IsProfile input other → draft ≡ other)
    → IsChosen wanted choice → IsFirstOfSamples wanted draft choice fault
    → ((got : Got wanted) → IsSampled wanted draft choice got → fault ≡ batch.NoMemory)
    → IsToldOfSamples fault told → IsRefusedIn Pprof wanted input told
samples_refused wanted input draft choice fault told is only chosen first none (inl memory) =
    subst (λ (t : AnswerFault). IsRefusedIn Pprof wanted input t) (sym memory.1) tt
samples_refused wanted input draft choice fault told is only chosen first none (inr other) =
    subst (λ (t : AnswerFault). IsRefusedIn Pprof wanted input t) (sym other.1) (
      (record { draft = draft; profile = is; choice = choice; chosen = chosen; first = first }, other.0),
      λ got this. other.0 (none got (same_sampled wanted draft this.choice choice got this.chosen chosen
          (subst (λ d. IsSampled wanted d this.choice got) (sym (only this.draft this.profile)) this.sampled))),
    )
