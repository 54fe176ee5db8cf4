-- Where hashes begin.
use Rattle.std.specs.Prelude.{ℕ, fold}
use Rattle.std.specs.Hash as fed
use Rattle.std.specs.Hash.FoldHasher as folding
use Rattle.std.specs.declared.hash.FoldHasher.{FoldHasher}

-- after a key, as if each hashed text had it in front
abbrev pub start_of_key : ℕ → FoldHasher
start_of_key key = fold folding.write folding.initial (fed.u64 key)
