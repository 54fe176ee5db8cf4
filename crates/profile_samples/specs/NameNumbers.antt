-- The names of a profile's frames by numbers: equal names have one number.
use Rattle.std.specs.Prelude.{ℕ, ℤ, pos, negsuc, ◌≡◌, ◌<◌, ◌≤◌, All, false, Option, Some, None, List, [], ◌∷◌, ◌++◌}
use Rattle.std.specs.Prelude.{length, map, not, is_some, slice_index_or, true, Bool, if◌then◌else◌, eqb, ◌||◌, ◌+◌}
use Rattle.std.specs.List.{list_any}
use Rattle.std.specs.Option.{option_map, option_or}
use Rattle.pprof_profile.specs.declared.messages.Draft.{Draft}
use Rattle.pprof_profile.specs.declared.messages.Function.{Function}
use Rattle.pprof_profile.specs.declared.messages.Location.{Location}
use Rattle.pprof_profile.specs.declared.messages.Line.{Line}
use Rattle.pprof_profile.specs.Valid.{function_ids, has_double, location_ids}
use Rattle.profile_rows.specs.Names.{IsName, cleaned_name_of}
use Rattle.profile_samples.specs.Samples.{address_name, function_name, item_with, location_frames}
use Rattle.profile_samples.specs.Samples.{named_by}
use Rattle.name_counts.specs.Tallies.{has_number}
use Rattle.name_counts.specs.TextTables.{number_in, with_texts}

-- ---- numbers of names

-- those that are there, in order
abbrev pub given : List (Option (List ℕ)) → List (List ℕ)
given [] = []
given (None ∷ names) = given names
given (Some name ∷ names) = name ∷ given names

-- an index below 0 is that of nothing
abbrev pub index_in : ℤ → Option ℕ
index_in (pos index) = Some index
index_in (negsuc index) = None

-- whether an index is this one
abbrev pub is_at : Option ℕ → ℕ → Bool
is_at (Some index) at = eqb index at
is_at None at = false

-- whether the string at this index names a function
abbrev pub is_name_of : Function → ℕ → Bool
is_name_of function at = is_at (index_in function.name) at || is_at (index_in function.system_name) at

-- whether it names some of these functions
abbrev pub names_function : List Function → ℕ → Bool
names_function functions at = list_any (λ function. is_name_of function at) functions

-- the names of strings from this index on, where they name functions
abbrev pub string_names_from : List Function → ℕ → List (List ℕ) → List (Option (List ℕ))
string_names_from functions at [] = []
string_names_from functions at (string ∷ strings) =
    (if names_function functions at then cleaned_name_of string else None)
    ∷ string_names_from functions (at + 1) strings

-- the names of a profile's strings, where they name functions
abbrev pub string_names : Draft → List (Option (List ℕ))
string_names draft = string_names_from draft.functions 0 draft.strings

-- whether a line is called as its location's address: its function is unknown or has no name
abbrev pub lacks_name : Draft → Line → Bool
lacks_name draft line =
    not (is_some (named_by draft.strings (item_with (λ function. function.id) line.function_id draft.functions)))

-- whether some frame of a location of these lines is called as its address
abbrev pub needs_address : Draft → List Line → Bool
needs_address draft [] = true
needs_address draft (line ∷ lines) = list_any (lacks_name draft) (line ∷ lines)

-- the name of a location's address, where a frame needs it
abbrev pub address_of : Draft → Location → Option (List ℕ)
address_of draft location =
    if needs_address draft location.lines then Some (address_name location.address) else None

-- the names of the addresses of a profile's locations, where frames need them
abbrev pub address_names : Draft → List (Option (List ℕ))
address_names draft = map (address_of draft) draft.locations

-- every name that a frame of the profile can have, each once
abbrev pub frame_names : Draft → List (List ℕ)
frame_names draft = with_texts (with_texts [] (given (string_names draft))) (given (address_names draft))

-- a name's number is where it stands among them
abbrev pub name_number : Draft → List ℕ → ℕ
name_number draft name = number_in (frame_names draft) name

-- the number of the name of each string, where it has one
abbrev pub string_numbers : Draft → List (Option ℕ)
string_numbers draft = map (option_map (name_number draft)) (string_names draft)

-- the number at an index of strings; where there is no string it has none
abbrev pub number_at : List (Option ℕ) → ℤ → Option ℕ
number_at numbers (pos index) = slice_index_or numbers index None
number_at numbers (negsuc index) = None

-- the number of the name of a function, by those of strings
abbrev pub number_by : List (Option ℕ) → Function → Option ℕ
number_by numbers function = option_or (number_at numbers function.name) (number_at numbers function.system_name)

-- the numbers of the names of the profile's functions, whose ids differ
pub record AreFunctionNumbers (draft : Draft) (ids : List ℕ) (numbers : List (Option ℕ)) : Type 0 where
  pub ids_are : ids ≡ function_ids draft
  pub single : has_double ids ≡ false
  pub numbers_are : numbers
      ≡ map (λ function. option_map (name_number draft) (function_name draft.strings function)) draft.functions

-- ---- the frames of locations

-- the numbers of the names of a location's frames, leaf first
abbrev pub numbers_of : Draft → Location → List ℕ
numbers_of draft location = map (name_number draft) (location_frames draft location)

-- a number that is there isn't added again
abbrev pub with_number : List ℕ → ℕ → List ℕ
with_number numbers number = if has_number number numbers then numbers else numbers ++ number ∷ []

-- numbers added in their order
abbrev pub with_numbers : List ℕ → List ℕ → List ℕ
with_numbers numbers [] = numbers
with_numbers numbers (number ∷ more) = with_numbers (with_number numbers number) more

-- numbers, each once
abbrev pub once_of : List ℕ → List ℕ
once_of numbers = with_numbers [] numbers

-- the numbers of the names of the frames of the location that an id names
abbrev pub numbers_of_id : Draft → ℕ → Option (List ℕ)
numbers_of_id draft id = option_map (numbers_of draft) (item_with (λ location. location.id) id draft.locations)

-- the frames of the profile's locations by numbers, and what they number
pub record AreFrameNumbers (draft : Draft) (ids : List ℕ) (frames once names : List (List ℕ)) : Type 0 where
  pub ids_are : ids ≡ location_ids draft
  pub single : has_double ids ≡ false
  pub frames_are : frames ≡ map (numbers_of draft) draft.locations
  pub once_are : once ≡ map once_of frames
  pub names_are : names ≡ frame_names draft
  pub each : All IsName (frame_names draft)

-- ---- how they are found

-- for each of so many strings whether it names a function
pub record AreMarks (functions : List Function) (many : ℕ) (marks : List Bool) : Type 0 where
  pub count : length marks ≡ many
  pub marked : (at : ℕ) → at < many → slice_index_or marks at false ≡ names_function functions at

-- a name was added where it was missing, and has the number, which more names leave
pub record IsNumbered (name : Option (List ℕ)) (old new : List (List ℕ)) (found : Option ℕ) : Type 0 where
  pub names : new ≡ with_texts old (given (name ∷ []))
  pub number : (more : List (List ℕ)) → found ≡ option_map (number_in (with_texts new more)) name

-- the names that the strings give, which those of addresses complete, and the numbers of the strings
pub record AreStringNumbers (draft : Draft) (texts : List (List ℕ)) (found : List (Option ℕ)) : Type 0 where
  pub names : with_texts texts (given (address_names draft)) ≡ frame_names draft
  pub each : All IsName texts
  pub numbers : found ≡ string_numbers draft

-- the names of all frames, and the numbers of each location's
pub record AreNumbered (draft : Draft) (texts : List (List ℕ)) (found : List (List ℕ)) : Type 0 where
  pub names : texts ≡ frame_names draft
  pub each : All IsName texts
  pub frames : found ≡ map (numbers_of draft) draft.locations

-- the numbers each once, and the marks of so many numbers: none is above this one
pub record AreFoundOnce (numbers : List ℕ) (many mark : ℕ) (marks found : List ℕ) : Type 0 where
  pub once : found ≡ once_of numbers
  pub count : length marks ≡ many
  pub marked : All (λ before. before ≤ mark) marks
