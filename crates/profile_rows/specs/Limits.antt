-- How much a row can have.
use Rattle.std.specs.Prelude.{ℕ}

-- the most frames of a stack
abbrev pub most_frames : ℕ
most_frames = 65535

-- the most values of a row
abbrev pub most_values : ℕ
most_values = 4
