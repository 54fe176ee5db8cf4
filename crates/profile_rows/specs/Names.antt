-- What a frame is called. Texts are lists of bytes here.
use Rattle.std.specs.Prelude.{ℕ, ◌≢◌, ◌<◌, List, [], ◌∷◌, All, Bool, ◌==◌, length, map, Option, Some, None}
use Rattle.std.specs.Prelude.{if◌then◌else◌}
use Rattle.std.specs.declared.cmp.Ordering.{Ordering}
use Rattle.std.specs.Ordering.{nat_cmp}
use Rattle.std.specs.Str.{IsUtf8}
use Rattle.std.specs.Cmp.Lexicographic.{slice_cmp, pointwise}

-- A frame's name, as a line of folded stacks can hold it (FlameGraph, the header comment of flamegraph.pl: frames are
-- separated by semicolons, and a stack takes one line): UTF-8 text, not empty, without a semicolon and without a line
-- feed.
pub record IsName (text : List ℕ) : Type 0 where
  pub utf8 : IsUtf8 text
  pub not_empty : 0 < length text
  pub no_separator : All (λ byte. byte ≢ 59) text
  pub no_line_feed : All (λ byte. byte ≢ 10) text

-- names are ordered by their bytes
abbrev pub name_cmp : List ℕ → List ℕ → Ordering
name_cmp = slice_cmp nat_cmp

-- whether two names have the same bytes
abbrev pub is_same_name : List ℕ → List ℕ → Bool
is_same_name = pointwise ◌==◌

-- A byte of a profile's text in a name: a semicolon becomes a colon, and a line feed a space.
abbrev pub cleaned_byte : ℕ → ℕ
cleaned_byte byte = if byte == 59 then 58 else (if byte == 10 then 32 else byte)

-- the name of a profile's text, which is none where the text is empty
abbrev pub cleaned_name_of : List ℕ → Option (List ℕ)
cleaned_name_of [] = None
cleaned_name_of (byte ∷ bytes) = Some (map cleaned_byte (byte ∷ bytes))
