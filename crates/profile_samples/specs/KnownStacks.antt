-- Stacks whose frames' names have numbers, by their texts.
use Rattle.std.specs.Prelude.{ℕ, ◌≡◌, ◌<◌, ◌^◌, true, All, List, [], ◌∷◌, map, reverse}
use Rattle.std.specs.List.{AllByRecursion, list_any}
use Rattle.std.specs.Str.{bytes_eq}
use Rattle.name_counts.specs.TextTables.{number_in, with_texts}
use Rattle.ordered_rows.specs.StackFrames.{frames_of}
use Rattle.folded_text.specs.FoldedText.{IsRowAfter}
use Rattle.profile_samples.specs.Export.{id_in}
use Rattle.profile_samples.specs.declared.folded_export.SampledRows.{SampledRows}
use Rattle.profile_samples.specs.declared.known_stacks.KnownStacks.{KnownStacks}

-- the frames of a stack text are among the names, and have these numbers
pub record IsKnownStack (names : List (List ℕ)) (text numbers : List ℕ) : Type 0 where
  pub there : AllByRecursion (λ frame. list_any (bytes_eq frame) names ≡ true) (frames_of text)
  pub numbered : numbers ≡ map (number_in names) (frames_of text)
  pub fits : All (λ number. number < 2 ^ 63) numbers

-- each of these texts has its list
abbrev pub AreListed : List (List ℕ) → List (List ℕ) → List (List ℕ) → Type 0
AreListed names [] lists = lists ≡ []
AreListed names (text ∷ texts) [] = ⊥
AreListed names (text ∷ texts) (list ∷ lists) = IsKnownStack names text list × AreListed names texts lists

abbrev pub AreKnownStacks : List (List ℕ) → KnownStacks → Type 0
AreKnownStacks names known = AreListed names known.texts.texts known.lists

-- the line's row can follow the others; its frames were added to the names, and have these ids
pub record HasRead (line stack : List ℕ) (weight : ℕ) (before after : SampledRows) : Type 0 where
  pub row : IsRowAfter before.total line (record { stack = frames_of stack; weight = weight })
  pub names : after.row.texts ≡ with_texts before.row.texts (frames_of stack)
  pub ids_are : after.ids.items ≡ reverse (map (id_in after.row.texts) (frames_of stack))
  pub samples : after.samples ≡ before.samples
  pub total : after.total ≡ before.total
