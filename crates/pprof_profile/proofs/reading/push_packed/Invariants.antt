use Rattle.std.proofs.Common.{◌≡◌, ◌++◌, List, ℕ, length}
use Rattle.pprof_profile.specs.Reading.{IsUnpacked}
use Rattle.pprof_profile.proofs.reading.push_packed.Given as goal

-- the numbers before the rest are appended
pub record IsUnpackedSoFar {A : Type 0}
    (from : ℕ → A) (old : List A) (bytes : List ℕ) (new : List A) (rest : List ℕ) : Type 0 where
  pub front : List ℕ
  pub parts : bytes ≡ front ++ rest
  pub unpacked : IsUnpacked from old front new

abbrev pub invariant-loop-read : goal.invariant-loop-read
invariant-loop-read g l = IsUnpackedSoFar g.N.Number.of l.fn.items l.bytes l.items l.numbers

abbrev pub decreases-loop-read : goal.decreases-loop-read
decreases-loop-read g l = length l.numbers
