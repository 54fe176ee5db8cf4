-- Which of a profile's strings are a text, so that a string that many sample types name is compared once.
use Rattle.std.specs.Prelude.{ℕ, ℤ, pos, negsuc, Bool, List, [], map, slice_index_or}
use Rattle.std.specs.Str.{bytes_eq}

-- for each string whether it is the text
abbrev pub equal_strings : List (List ℕ) → List ℕ → List Bool
equal_strings strings text = map (λ string. bytes_eq string text) strings

-- whether the string at an index is the text, by what is known of each; a string that is missing is empty
abbrev pub equal_at : List Bool → List ℕ → ℤ → Bool
equal_at equal text (pos index) = slice_index_or equal index (bytes_eq [] text)
equal_at equal text (negsuc index) = bytes_eq [] text
