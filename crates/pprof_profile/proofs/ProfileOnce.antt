-- Bytes are one profile, or no profile for one reason.
use Rattle.std.proofs.Common.{◌≡◌, ◌≢◌, ℕ, ◌⊎◌, inl, inr, List, refl, sym, ap, ◌∙◌, Result, Ok, Err, Some, None}
use Rattle.std.specs.Prelude.{MatchResult}
use Rattle.pprof_profile.specs.declared.faults.ProfileFault.{ProfileFault}
use Rattle.pprof_profile.specs.declared.faults.ProfileFault.TheVariants.{NoMemory}
use Rattle.pprof_profile.specs.declared.messages.Draft.{Draft}
use Rattle.pprof_profile.specs.Forms.{table_of}
use Rattle.pprof_profile.specs.Reading.{Reads}
use Rattle.pprof_profile.specs.Messages.{no_draft, draft_form}
use Rattle.pprof_profile.specs.Valid.{validity_fault}
use Rattle.pprof_profile.specs.Profiles.{SpellsDraft, IsDecoded, IsProfile, IsReadingFault, IsProfileFault}
use Rattle.pprof_profile.proofs.Once.{Once, fault_once, ok_once, ok_or_fault, reads_once}
use Rattle.pprof_profile.proofs.Forms.{form_once}
use Rattle.pprof_profile.proofs.LawfulForms.{draft_lawful}

draft_once : (bytes : List ℕ) → Once (Reads (table_of draft_form) no_draft bytes)
draft_once bytes = reads_once (table_of draft_form) (form_once draft_form draft_lawful) no_draft bytes

pub draft_spelled_once : (bytes : List ℕ) (a b : Draft) → SpellsDraft bytes a → SpellsDraft bytes b → a ≡ b
draft_spelled_once bytes = ok_once (Reads (table_of draft_form) no_draft bytes) (draft_once bytes)

spelled_no_fault : (bytes : List ℕ) (a : Draft) (f : ProfileFault) → SpellsDraft bytes a → IsReadingFault bytes f → ⊥
spelled_no_fault bytes a f left right =
    ok_or_fault (Reads (table_of draft_form) no_draft bytes) (draft_once bytes) a f left right.first

reading_fault_once : (bytes : List ℕ) (f g : ProfileFault) → IsReadingFault bytes f → IsReadingFault bytes g → f ≡ g
reading_fault_once bytes f g left right =
    fault_once (Reads (table_of draft_form) no_draft bytes) (draft_once bytes) f g left.first right.first

pub profile_no_fault : (bytes : List ℕ) (a : Draft) (f : ProfileFault) → IsProfile bytes a → IsProfileFault bytes f → ⊥
profile_no_fault bytes a f left (inl gzip) = left.plain gzip.0
profile_no_fault bytes a f left (inr (inl wrong)) = spelled_no_fault bytes a f left.spelled wrong
profile_no_fault bytes a f left (inr (inr broken)) =
    let same = draft_spelled_once bytes a broken.draft left.spelled broken.spelled in
    let both : None ≡ Some f = sym left.valid ∙ ap validity_fault same ∙ broken.first in absurd cc

pub profile_fault_once : (bytes : List ℕ) (f g : ProfileFault) → IsProfileFault bytes f → IsProfileFault bytes g → f ≡ g
profile_fault_once bytes f g (inl gzip) (inl other) = gzip.1 ∙ sym other.1
profile_fault_once bytes f g (inl gzip) (inr (inl wrong)) = absurd (wrong.plain gzip.0)
profile_fault_once bytes f g (inl gzip) (inr (inr broken)) = absurd (broken.plain gzip.0)
profile_fault_once bytes f g (inr (inl wrong)) (inl gzip) = absurd (wrong.plain gzip.0)
profile_fault_once bytes f g (inr (inr broken)) (inl gzip) = absurd (broken.plain gzip.0)
profile_fault_once bytes f g (inr (inl wrong)) (inr (inl other)) = reading_fault_once bytes f g wrong other
profile_fault_once bytes f g (inr (inl wrong)) (inr (inr broken)) =
    absurd (spelled_no_fault bytes broken.draft f broken.spelled wrong)
profile_fault_once bytes f g (inr (inr broken)) (inr (inl wrong)) =
    absurd (spelled_no_fault bytes broken.draft g broken.spelled wrong)
profile_fault_once bytes f g (inr (inr broken)) (inr (inr other)) =
    let same = draft_spelled_once bytes broken.draft other.draft broken.spelled other.spelled in
    let both : Some f ≡ Some g = sym broken.first ∙ ap validity_fault same ∙ other.first in cc both

memory_or_not : (fault : ProfileFault) → (fault ≡ NoMemory) ⊎ (fault ≢ NoMemory)
memory_or_not NoMemory = inl refl
memory_or_not fault = inr (λ same. absurd cc)

pub decoded : (bytes : List ℕ) (result : Result Draft ProfileFault)
    → MatchResult result (IsProfile bytes) (λ fault. fault ≢ NoMemory → IsProfileFault bytes fault)
    → IsDecoded bytes result
decoded bytes (Ok read) is = record {
  read = is;
  fault = tt;
  every_profile = λ draft profile. draft_spelled_once bytes read draft is.spelled profile.spelled;
  every_fault = λ first faulty. profile_no_fault bytes read first is faulty;
}
decoded bytes (Err fault) wrong = record {
  read = tt;
  fault = wrong;
  every_profile = λ draft profile. elim (memory_or_not fault) [
    | inl memory ↦ memory
    | inr other ↦ absurd (profile_no_fault bytes draft fault profile (wrong other))
  ];
  every_fault = λ first faulty. elim (memory_or_not fault) [
    | inl memory ↦ inl memory
    | inr other ↦ inr (profile_fault_once bytes fault first (wrong other) faulty)
  ];
}
