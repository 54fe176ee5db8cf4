-- Laws of the shortest spelling of a number.
use Rattle.std.proofs.Common.{◌≡◌, ℕ, zero, suc, ◌+◌, ◌*◌, ◌/◌, ◌%◌, ◌^◌, ◌<◌, ◌≤◌, List, [], ◌∷◌, ◌++◌, length, refl}
use Rattle.std.proofs.Common.{sym, ap, ◌∙◌, arith, subst, inl, inr, append_assoc}
use Rattle.std.proofs.lemmas.Bool.{cases_lt, lt-ltb, le-ltb}
use Rattle.pprof_wire.specs.Varints.{IsGroups, number_of, IsVarint, groups_of, varint_of}
use Rattle.pprof_wire.proofs.VarintLaws.{scale-suc}

groups_of-last : (more number : ℕ) → number < 128 → groups_of more number ≡ number ∷ []
groups_of-last zero number small = refl
groups_of-last (suc more) number small = rw (lt-ltb number 128 small) refl

groups_of-more : (more number : ℕ)
    → 128 ≤ number → groups_of (suc more) number ≡ (number % 128 + 128) ∷ groups_of more (number / 128)
groups_of-more more number large = rw (le-ltb number 128 large) refl

quotient-step : (number limit : ℕ) → number < 128 * limit → number / 128 < limit
quotient-step number limit below = omega arith

-- a number of one group less
quotient-below : (more number : ℕ) → number < 2 ^ (7 * suc (suc more)) → number / 128 < 2 ^ (7 * suc more)
quotient-below more number below =
    quotient-step number (2 ^ (7 * suc more)) (subst (λ (limit : ℕ). number < limit) (scale-suc (suc more)) below)

IsGroups-cons : (byte : ℕ) (bytes : List ℕ) → 128 ≤ byte → IsGroups bytes → IsGroups (byte ∷ bytes)
IsGroups-cons byte [] large groups = absurd groups
IsGroups-cons byte (next ∷ rest) large groups = (large, groups)

-- ---- it spells the number

pub record Spells (bytes : List ℕ) (number most : ℕ) : Type 0 where
  pub groups : IsGroups bytes
  pub value : number_of bytes ≡ number
  pub short : length bytes ≤ most

last-spells : (more number : ℕ) → number < 128 → Spells (number ∷ []) number (suc more)
last-spells more number small = record { groups = small; value = omega arith; short = omega arith }

more-spells : (more number : ℕ) (rest : List ℕ)
    → Spells rest (number / 128) (suc more) → Spells ((number % 128 + 128) ∷ rest) number (suc (suc more))
more-spells more number rest spelled =
    record {
      groups = IsGroups-cons (number % 128 + 128) rest (omega arith) spelled.groups;
      value = omega (arith, spelled.value);
      short = omega (arith, spelled.short);
    }

pub groups_of-spells : (more number : ℕ)
    → number < 2 ^ (7 * suc more) → Spells (groups_of more number) number (suc more)
groups_of-spells zero number below = last-spells 0 number below
groups_of-spells (suc more) number below =
    elim (cases_lt number 128) [
      | inl small ↦ rw (groups_of-last (suc more) number small) (last-spells (suc more) number small)
      | inr large ↦ rw (groups_of-more more number large) (more-spells more number
          (groups_of more (number / 128)) (groups_of-spells more (number / 128) (quotient-below more number below)))
    ]

pub varint_of-spells : (number : ℕ) → number < 2 ^ 64 → IsVarint (varint_of number) number
unfolding varint_of
varint_of-spells number fits =
    let spelled = groups_of-spells 9 number (omega arith) in
    record { groups = spelled.groups; short = spelled.short; value = sym spelled.value; fits = fits }

-- ---- no spelling is shorter

one-group : (byte number : ℕ) → number ≡ number_of (byte ∷ []) → number < 128
one-group byte number e = omega arith

rest-number : (byte number rest : ℕ) → number ≡ byte % 128 + 128 * rest → number / 128 ≡ rest
rest-number byte number rest e = omega arith

groups_of-shortest : (more number : ℕ) (bytes : List ℕ)
    → IsGroups bytes → number ≡ number_of bytes → length (groups_of more number) ≤ length bytes
groups_of-shortest more number [] groups value = absurd groups
groups_of-shortest zero number (byte ∷ rest) groups value = omega arith
groups_of-shortest (suc more) number (byte ∷ []) groups value =
    rw (groups_of-last (suc more) number (one-group byte number value)) (omega arith)
groups_of-shortest (suc more) number (byte ∷ next ∷ rest) groups value =
    elim (cases_lt number 128) [
      | inl small ↦ rw (groups_of-last (suc more) number small) (omega arith)
      | inr large ↦ rw (groups_of-more more number large)
          (omega (
            arith,
            groups_of-shortest more
                (number / 128) (next ∷ rest) groups.1 (rest-number byte number (number_of (next ∷ rest)) value),
          ))
    ]

pub varint_of-shortest : (bytes : List ℕ) (number : ℕ)
    → IsVarint bytes number → length (varint_of number) ≤ length bytes
unfolding varint_of
varint_of-shortest bytes number spelled = groups_of-shortest 9 number bytes spelled.groups spelled.value

pub length-varint_of : (number : ℕ) → number < 2 ^ 64 → length (varint_of number) ≤ 10
length-varint_of number fits = (varint_of-spells number fits).short

-- ---- one group after the other

-- what is left to write: the groups of a number of at most so many
pub record IsLeft (groups : List ℕ) (rest : ℕ) : Type 0 where
  pub more : ℕ
  pub below : rest < 2 ^ (7 * suc more)
  pub are : groups ≡ groups_of more rest

pub all-left : (number : ℕ) → number < 2 ^ 64 → IsLeft (varint_of number) number
unfolding varint_of
all-left number fits = record { more = 9; below = omega arith; are = refl }

-- the last group is the number itself
pub last-left : (groups : List ℕ) (rest : ℕ) → IsLeft groups rest → rest < 128 → groups ≡ rest ∷ []
last-left groups rest left small = left.are ∙ groups_of-last left.more rest small

-- before the last group
pub record IsNextLeft (groups : List ℕ) (rest : ℕ) : Type 0 where
  pub others : List ℕ
  pub are : groups ≡ (rest % 128 + 128) ∷ others
  pub left : IsLeft others (rest / 128)

next-step : (more rest : ℕ) → rest < 2 ^ (7 * suc more) → 128 ≤ rest → IsNextLeft (groups_of more rest) rest
next-step zero rest below large = absurd (omega arith)
next-step (suc more) rest below large =
    record {
      others = groups_of more (rest / 128);
      are = groups_of-more more rest large;
      left = record { more = more; below = quotient-below more rest below; are = refl };
    }

pub next-left : (groups : List ℕ) (rest : ℕ) → IsLeft groups rest → 128 ≤ rest → IsNextLeft groups rest
next-left groups rest left large =
    subst (λ (bytes : List ℕ). IsNextLeft bytes rest) (sym left.are) (next-step left.more rest left.below large)

-- a group that was written, before the others
pub pushed_next : (items groups : List ℕ) (byte : ℕ) (others : List ℕ)
    → groups ≡ byte ∷ others → (items ++ byte ∷ []) ++ others ≡ items ++ groups
pushed_next items groups byte others are = append_assoc items (byte ∷ []) others
    ∙ ap (λ (bytes : List ℕ). items ++ bytes) (sym are)
