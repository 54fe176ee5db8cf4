-- The frames of a row by the numbers of their names.
use Rattle.std.specs.Prelude.{ℕ, ◌≡◌, ◌<◌, ◌+◌, ◌^◌, ◌++◌, ◌∷◌, List, [], length, slice_index_or, take}
use Rattle.profile_rows.specs.declared.hashing.Hashing.{Hashing}
use Rattle.name_counts.specs.TextTables.{number_in, with_text, with_texts}

-- names by number, the frames of a row, and how names are hashed
pub record NumberedFrames : Type 0 where
  pub texts : List (List ℕ)
  pub frames : List (List ℕ)
  pub hashing : Hashing

-- a number is that of its text
pub record IsNumberOfText (texts : List (List ℕ)) (number : ℕ) : Type 0 where
  pub inside : number < length texts
  pub own : number_in texts (slice_index_or texts number []) ≡ number
  pub fits : number < 2 ^ 63

-- a row's frame at a depth, after those that it had up to there
pub record HasFrameAt (depth : ℕ) (frame : List ℕ) (before after : NumberedFrames) : Type 0 where
  pub names : after.texts ≡ with_text before.texts frame
  pub inside : depth < length after.frames
  pub fits : depth < 2 ^ 63
  pub frames : take (depth + 1) after.frames ≡ take depth before.frames ++ frame ∷ []

-- a row's frames in the place of those before
pub record HasReplaced (stack : List (List ℕ)) (before after : NumberedFrames) : Type 0 where
  pub names : after.texts ≡ with_texts before.texts stack
  pub frames : after.frames ≡ stack

-- these are the first of those frames
abbrev pub IsBeginning : List (List ℕ) → List (List ℕ) → Type 0
IsBeginning first frames = (count : ℕ) × (first ≡ take count frames)
