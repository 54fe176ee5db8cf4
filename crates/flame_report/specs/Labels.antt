-- What a rectangle is called.
use Rattle.std.specs.Prelude.{ℕ, List, [], Option, Some, None}

abbrev pub text_of : Option (List ℕ) → List ℕ
text_of None = []
text_of (Some name) = name
