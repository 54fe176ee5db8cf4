-- Names by their texts.
use Rattle.std.specs.Prelude.{ℕ, ◌≡◌, List, IfSome}
use Rattle.std.specs.HashMap as hash
use Rattle.std.specs.HashMap.{HashMap}
use Rattle.std.specs.Str.{bytes_eq}
use denote.Ref.{Bor}
use Rattle.profile_rows.specs.declared.hashing.Hashing.{Hashing}

-- what is kept at a text is the name of that text
abbrev pub AreKept : HashMap (Bor (List ℕ)) (List ℕ) Hashing → Type 0
AreKept names = (text : List ℕ)
    → IfSome (hash.get_by (λ (key : Bor (List ℕ)). bytes_eq text key.now) names) (λ name. name ≡ text)
