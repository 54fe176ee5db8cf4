-- The bytes of a profile.
use Rattle.std.specs.Prelude.{◌≡◌, ◌≢◌, ℕ, ◌⊎◌, List, ◌∷◌, Some, IfErr, IfOk, MatchResult, Result}
use Rattle.pprof_profile.specs.declared.faults.ProfileFault.{ProfileFault}
use Rattle.pprof_profile.specs.declared.faults.ProfileFault.TheVariants.{Gzip, NoMemory}
use Rattle.pprof_profile.specs.declared.messages.Draft.{Draft}
use Rattle.pprof_profile.specs.Reading.{Spells, IsFirstFieldFault}
use Rattle.pprof_profile.specs.Forms.{table_of}
use Rattle.pprof_profile.specs.Messages.{no_draft, draft_form}
use Rattle.pprof_profile.specs.Valid.{IsValidDraft, validity_fault}

-- The bytes begin as those of gzip (RFC 1952, section 2.3.1).
abbrev pub BeginsAsGzip : List ℕ → Type 0
BeginsAsGzip bytes = (rest : List ℕ) × (bytes ≡ 31 ∷ 139 ∷ rest)

-- The bytes spell the draft as a message, whether it is valid or not.
abbrev pub SpellsDraft : List ℕ → Draft → Type 0
SpellsDraft bytes draft = Spells (table_of draft_form) no_draft bytes draft

-- The bytes spell a valid draft.
pub record IsProfile (bytes : List ℕ) (draft : Draft) : Type 0 where
  pub plain : ¬ BeginsAsGzip bytes
  pub spelled : SpellsDraft bytes draft
  pub valid : IsValidDraft draft

-- Why the bytes spell no draft: the first fault in reading order.
pub record IsReadingFault (bytes : List ℕ) (fault : ProfileFault) : Type 0 where
  pub plain : ¬ BeginsAsGzip bytes
  pub first : IsFirstFieldFault (table_of draft_form) no_draft bytes fault

-- The bytes spell a draft, and this is the first rule that it breaks.
pub record SpellsInvalid (bytes : List ℕ) (fault : ProfileFault) : Type 0 where
  pub plain : ¬ BeginsAsGzip bytes
  pub draft : Draft
  pub spelled : SpellsDraft bytes draft
  pub first : validity_fault draft ≡ Some fault

-- Why the bytes are no profile.
abbrev pub IsProfileFault : List ℕ → ProfileFault → Type 0
IsProfileFault bytes fault =
    (BeginsAsGzip bytes × (fault ≡ Gzip)) ⊎ (IsReadingFault bytes fault ⊎ SpellsInvalid bytes fault)

-- What is answered for the bytes: the profile that they are or, unless memory runs out, why they are none.
pub record IsDecoded (bytes : List ℕ) (result : Result Draft ProfileFault) : Type 0 where
  pub read : IfOk result (λ profile. IsProfile bytes profile)
  pub fault : IfErr result (λ fault. fault ≢ NoMemory → IsProfileFault bytes fault)
  pub every_profile : (draft : Draft) → IsProfile bytes draft
      → MatchResult result (λ profile. profile ≡ draft) (λ fault. fault ≡ NoMemory)
  pub every_fault : (first : ProfileFault) → IsProfileFault bytes first
      → MatchResult result (λ profile. ⊥) (λ fault. (fault ≡ NoMemory) ⊎ (fault ≡ first))
