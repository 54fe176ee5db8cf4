-- Distinct texts in the order in which they came.
use Rattle.std.specs.Prelude.{ℕ, ◌+◌, List, [], ◌∷◌, ◌++◌, if◌then◌else◌, map, slice_index_or}
use Rattle.std.specs.List.{list_any}
use Rattle.std.specs.Str.{bytes_eq}
use denote.Ref.{Bor}
use Rattle.profile_rows.specs.declared.hashing.Hashing.{Hashing}

-- the number of a text; where it is missing, how many texts there are
abbrev pub number_in : List (List ℕ) → List ℕ → ℕ
number_in [] text = 0
number_in (first ∷ texts) text = if bytes_eq text first then 0 else number_in texts text + 1

-- the texts of these numbers
abbrev pub names_at : List (List ℕ) → List ℕ → List (List ℕ)
names_at texts numbers = map (λ number. slice_index_or texts number []) numbers

-- what stands past the end of texts that are lent
abbrev pub no_text : Bor (List ℕ)
no_text = record { ref_ptr = (0, 0); now = [] }

-- the text of a number, of texts that are lent
abbrev pub lent_at : List (Bor (List ℕ)) → ℕ → List ℕ
lent_at texts number = (slice_index_or texts number no_text).now

-- a text that is there isn't added again
abbrev pub with_text : List (List ℕ) → List ℕ → List (List ℕ)
with_text texts text = if list_any (bytes_eq text) texts then texts else texts ++ text ∷ []

-- texts added in their order
abbrev pub with_texts : List (List ℕ) → List (List ℕ) → List (List ℕ)
with_texts texts [] = texts
with_texts texts (text ∷ more) = with_texts (with_text texts text) more

-- texts by number, and how they are hashed
pub record NumberedTexts : Type 0 where
  pub texts : List (List ℕ)
  pub hashing : Hashing
