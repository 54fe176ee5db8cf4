-- The frames of stack texts: names joined by semicolons, as FlameGraph's scripts write them.
use Rattle.std.specs.Prelude.{ℕ, ◌≡◌, ◌==◌, All, List, [], ◌∷◌, filter, length, not}
use Rattle.std.specs.List.{slice_split}
use Rattle.profile_rows.specs.Names.{IsName}

-- the frames of a stack text: the pieces between its semicolons, without the empty ones
abbrev pub frames_of : List ℕ → List (List ℕ)
frames_of text = filter (λ piece. not (length piece == 0)) (slice_split (λ byte. byte == 59) text)

-- a piece between semicolons as frames: one, and none where it is empty
abbrev pub frame_in : List ℕ → List (List ℕ)
frame_in piece = filter (λ piece. not (length piece == 0)) (piece ∷ [])

-- the frames of a stack text, each of which can be a name
pub record AreFrames (text : List ℕ) (frames : List (List ℕ)) : Type 0 where
  pub texts : frames ≡ frames_of text
  pub names : All IsName frames
