-- Lists of location ids, each with the packed bytes that spell it.
use Rattle.std.specs.Prelude.{ℕ, ◌≡◌, ◌<◌, IfOk, List, MatchOption, None, Option, Result, Some, [], length}
use Rattle.std.specs.Prelude.{slice_index_or, ⊤}
use Rattle.basics.specs.Spans.{Grows, IsWithin, items_at}
use Rattle.std.specs.declared.alloc.AllocError.{AllocError}
use Rattle.pprof_profile.specs.Forms.{unsigned_of}
use Rattle.pprof_profile.specs.Reading.{IsUnpacked}
use Rattle.pprof_profile.specs.declared.location_lists.ListSpans.{ListSpans}

-- the ids of a list
abbrev pub ids_of : List ℕ → ListSpans → List ℕ
ids_of ids spans = items_at ids spans.ids

-- the list of a number
abbrev pub list_at : List (List ℕ) → ℕ → List ℕ
list_at lists number = slice_index_or lists number []

-- the bytes of a packed field are these ids
abbrev pub IsSpelling : List ℕ → List ℕ → Type 0
IsSpelling bytes ids = IsUnpacked unsigned_of [] bytes ids

-- a list and its spelling stand there, where it has one
pub record IsSpelledList (ids bytes : List ℕ) (spans : ListSpans) : Type 0 where
  pub ids_are : IsWithin ids spans.ids
  pub bytes_are : IsWithin bytes spans.spelling
  pub spelled : 0 < length (items_at bytes spans.spelling)
      → IsSpelling (items_at bytes spans.spelling) (ids_of ids spans)

-- there is a list of this number, where there is a number
abbrev pub IsListed : Option ℕ → List (List ℕ) → Type 0
IsListed number lists = MatchOption number ⊤ (λ at. at < length lists)

-- the ids of the list that others begin with, where they do
abbrev pub begun_ids : List (List ℕ) → Option ℕ → List ℕ
begun_ids lists None = []
begun_ids lists (Some number) = list_at lists number

-- The lists have grown, if at all, and the number is that of a list of these ids.
pub record HasNumber (old new : List (List ℕ)) (ids : List ℕ) (result : Result ℕ AllocError) : Type 0 where
  pub kept : Grows old new
  pub list : IfOk result (λ number. (number < length new) × (list_at new number ≡ ids))
