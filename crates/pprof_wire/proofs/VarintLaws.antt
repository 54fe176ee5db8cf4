-- Laws of varints as lists of bytes.
use Rattle.std.proofs.lemmas.Grind.{common_steps}
use Rattle.std.proofs.Common.{rules, ◌≡◌, ℕ, suc, ◌+◌, ◌*◌, ◌%◌, ◌^◌, ◌<◌, ◌≤◌, List, [], ◌∷◌, ◌++◌, length, take, drop}
use Rattle.std.proofs.Common.{get_or, refl, sym, ap, ◌∙◌, arith, length-append, bit_and, lit<, subst}
use Rattle.std.proofs.Math.Nat.{pow-le-pow_right}
use Rattle.std.proofs.lemmas.Nat.{pow-add, and_mask, shl_whole, mul-add-lt}
use Rattle.std.proofs.lemmas.List.{length-take-le, take_more, drop_more, take-append-drop, drop_all}
use Rattle.pprof_wire.specs.declared.faults.WireFault.{WireFault}
use Rattle.pprof_wire.specs.declared.faults.WireFault.TheVariants.{Truncated, LongVarint}
use Rattle.pprof_wire.specs.Varints.{IsGroups, number_of, IsVarint, AllContinue, IsCutVarint, IsLongVarint}
use Rattle.pprof_wire.specs.Varints.{IsVarintFault}
use Rattle.pprof_wire.specs.SpelledLists.{BeginsWithNone, IsAtFront}

-- ---- one more byte at the end

pub AllContinue-snoc : (front : List ℕ) (byte : ℕ) → AllContinue front → 128 ≤ byte → AllContinue (front ++ byte ∷ [])
AllContinue-snoc [] byte all large = (large, tt)
AllContinue-snoc (first ∷ rest) byte all large = (all.0, AllContinue-snoc rest byte all.1 large)

pub IsGroups-snoc : (front : List ℕ) (byte : ℕ) → AllContinue front → byte < 128 → IsGroups (front ++ byte ∷ [])
IsGroups-snoc [] byte all small = small
IsGroups-snoc (first ∷ []) byte all small = (all.0, small)
IsGroups-snoc (first ∷ next ∷ rest) byte all small = (all.0, IsGroups-snoc (next ∷ rest) byte all.1 small)

-- what the group after n groups counts
pub scale-suc : (n : ℕ) → 2 ^ (7 * suc n) ≡ 128 * 2 ^ (7 * n)
scale-suc n =
    let e : 7 * suc n ≡ 7 + 7 * n = omega arith in
    rw (e, pow-add 2 7 (7 * n)) refl

number_of-step : (first byte low scale : ℕ)
    → first + 128 * (low + byte * scale) ≡ first + 128 * low + byte * (128 * scale)
number_of-step first byte low scale = omega arith

pub number_of-snoc : (front : List ℕ) (byte : ℕ)
    → number_of (front ++ byte ∷ []) ≡ number_of front + byte % 128 * 2 ^ (7 * length front)
number_of-snoc [] byte = omega arith
number_of-snoc (first ∷ rest) byte = search (rules, scale-suc, number_of-step, number_of-snoc rest byte)

below-step : (first low scale : ℕ) → first < 128 → low < scale → first + 128 * low < 128 * scale
below-step first low scale p q = omega arith

pub number_of-below : (bytes : List ℕ) → number_of bytes < 2 ^ (7 * length bytes)
number_of-below [] = lit< tt
number_of-below (byte ∷ rest) = grind (arith, common_steps, scale-suc, below-step, number_of-below rest)

-- ---- the reader's arithmetic

pub masked-shifted : (byte count : ℕ)
    → count < 9 → bit_and byte 127 * 2 ^ (7 * count) % 2 ^ 64 ≡ byte % 128 * 2 ^ (7 * count)
masked-shifted byte count small =
    rw (and_mask byte 7, shl_whole (byte % 128) 7 (7 * count) 64 (omega arith) (omega arith)) refl

more-below : (low group scale : ℕ) → low < scale → group < 128 → low + group * scale < 128 * scale
more-below low group scale p q = omega (arith, mul-add-lt group scale low 128 q p)

pub next-below : (low byte count : ℕ)
    → low < 2 ^ (7 * count) → low + byte % 128 * 2 ^ (7 * count) < 2 ^ (7 * (count + 1))
next-below low byte count p =
    let e : count + 1 ≡ suc count = omega arith in
    rw (e, scale-suc count) (more-below low (byte % 128) (2 ^ (7 * count)) p (omega arith))

pub nine-fit : (count : ℕ) → count ≤ 9 → 2 ^ (7 * count) ≤ 2 ^ 63
nine-fit count small =
    let h : 7 * count ≤ 63 = omega arith in pow-le-pow_right {n = 2} (lit< tt) {i = 7 * count} {j = 63} h

pub fits-nine : (bytes : List ℕ) → length bytes ≤ 9 → number_of bytes < 2 ^ 64
fits-nine bytes short = omega (arith, number_of-below bytes, nine-fit (length bytes) short)

-- the number so far has room for one more group
pub group-fits : (number byte count : ℕ)
    → count < 9 → number < 2 ^ (7 * count) → number + bit_and byte 127 * 2 ^ (7 * count) % 2 ^ 64 < 2 ^ 64
group-fits number byte count small below =
    rw (masked-shifted byte count small)
    (omega (arith, next-below number byte count below, nine-fit (count + 1) (omega arith)))

-- the bytes so far each say that another follows, and the number is theirs
pub record IsReadSoFar (bytes : List ℕ) (count number : ℕ) : Type 0 where
  pub within : count ≤ length bytes
  pub continued : AllContinue (take count bytes)
  pub value : number ≡ number_of (take count bytes)
  pub below : number < 2 ^ (7 * count)

-- the number of one more byte
more_value : (bytes : List ℕ) (count number : ℕ)
    → count < 9 → count < length bytes → number ≡ number_of (take count bytes)
    → number + bit_and (get_or bytes count 0) 127 * 2 ^ (7 * count) % 2 ^ 64 ≡ number_of (take (count + 1) bytes)
more_value bytes count number small within value =
    grind (arith, common_steps, length-take-le, take_more, number_of-snoc, masked-shifted, within, value)

-- the last byte of a spelling
pub last_byte : (bytes : List ℕ) (count : ℕ) → count ≤ 9 → count < length bytes → AllContinue (take count bytes)
    → get_or bytes count 0 < 128 → number_of (take (count + 1) bytes) < 2 ^ 64
    → IsAtFront IsVarint bytes (count + 1) (number_of (take (count + 1) bytes))
last_byte bytes count most within continued last fits = record {
  within = omega arith;
  spelled = record {
    groups =
        rw (take_more bytes count 0 within) (IsGroups-snoc (take count bytes) (get_or bytes count 0) continued last);
    short = omega (arith, length-take-le (count + 1) bytes (omega arith));
    value = refl;
    fits = fits;
  };
}

pub last_of_few : (bytes : List ℕ) (count : ℕ) → count < 9 → count < length bytes → AllContinue (take count bytes)
    → get_or bytes count 0 < 128 → IsAtFront IsVarint bytes (count + 1) (number_of (take (count + 1) bytes))
last_of_few bytes count small within continued last =
    grind (arith, common_steps, length-take-le, fits-nine, within, continued, last_byte)

pub more_spelled : (bytes : List ℕ) (count number : ℕ) → count < 9 → count < length bytes
    → IsReadSoFar bytes count number → get_or bytes count 0 < 128
    → IsAtFront IsVarint bytes (count + 1) (number + bit_and (get_or bytes count 0) 127 * 2 ^ (7 * count) % 2 ^ 64)
more_spelled bytes count number small within read last =
    rw (more_value bytes count number small within read.value)
    (last_of_few bytes count small within read.continued last)

-- a byte of a spelling that isn't the last
pub more_continue : (bytes : List ℕ) (count : ℕ) → count < length bytes → AllContinue (take count bytes)
    → 128 ≤ get_or bytes count 0 → AllContinue (take (count + 1) bytes)
more_continue bytes count within continued large =
    rw (take_more bytes count 0 within) (AllContinue-snoc (take count bytes) (get_or bytes count 0) continued large)

pub more_read : (bytes : List ℕ) (count number : ℕ) → count < 9 → count < length bytes
    → IsReadSoFar bytes count number → 128 ≤ get_or bytes count 0
    → IsReadSoFar bytes (count + 1) (number + bit_and (get_or bytes count 0) 127 * 2 ^ (7 * count) % 2 ^ 64)
more_read bytes count number small within read large =
    let len : length (take (count + 1) bytes) ≡ count + 1 = length-take-le (count + 1) bytes (omega arith) in
    let is = more_value bytes count number small within read.value in
    record {
      within = omega arith;
      continued = more_continue bytes count within read.continued large;
      value = is;
      below = rw is (subst
          (λ (n : ℕ). number_of (take (count + 1) bytes) < 2 ^ (7 * n)) len (number_of-below (take (count + 1) bytes)));
    }

-- nine bytes that say that another follows, before a tenth
pub is_long : (bytes : List ℕ) → 9 < length bytes → AllContinue (take 9 bytes) → 1 < get_or bytes 9 0
    → IsLongVarint bytes
is_long bytes within continued large = record {
  front = take 9 bytes;
  tenth = get_or bytes 9 0;
  rest = drop 10 bytes;
  parts = sym (take-append-drop 9 bytes) ∙ ap (λ (rest : List ℕ). take 9 bytes ++ rest) (drop_more bytes 9 0 within);
  nine = length-take-le 9 bytes (omega arith);
  continued = continued;
  large = large;
}

-- ---- no spelling begins another

pub groups_once : (a b x y : List ℕ) → IsGroups a → IsGroups b → a ++ x ≡ b ++ y → (a ≡ b) × (x ≡ y)
groups_once [] b x y left right same = absurd left
groups_once (p ∷ ps) [] x y left right same = absurd right
groups_once (p ∷ []) (q ∷ []) x y left right same = (cc, cc)
groups_once (p ∷ []) (q ∷ s ∷ bs) x y left right same =
    let head : p ≡ q = cc in absurd (omega (arith, right.0))
groups_once (p ∷ r ∷ as') (q ∷ []) x y left right same =
    let head : p ≡ q = cc in absurd (omega (arith, left.0))
groups_once (p ∷ r ∷ as') (q ∷ s ∷ bs) x y left right same =
    grind (arith, common_steps, groups_once (r ∷ as') (s ∷ bs) x y left.1 right.1)

-- a spelling has a last byte
pub groups_end : (a x : List ℕ) → IsGroups a → AllContinue (a ++ x) → ⊥
groups_end [] x groups all = groups
groups_end (p ∷ []) x groups all = absurd (omega (arith, all.0))
groups_end (p ∷ r ∷ as') x groups all = groups_end (r ∷ as') x groups.1 all.1

-- a spelling doesn't end among bytes that say that another follows
pub groups_past : (front a x : List ℕ) (byte : ℕ) (rest : List ℕ)
    → AllContinue front → IsGroups a → a ++ x ≡ front ++ byte ∷ rest
    → (more : List ℕ) × (a ≡ front ++ byte ∷ more)
groups_past front [] x byte rest all groups same = absurd groups
groups_past [] (p ∷ as') x byte rest all groups same = (as', let head : p ≡ byte = cc in cc)
groups_past (f ∷ front) (p ∷ []) x byte rest all groups same =
    let head : p ≡ f = cc in absurd (omega (arith, all.0))
groups_past (f ∷ front) (p ∷ r ∷ as') x byte rest all groups same =
    grind (arith, common_steps, groups_past front (r ∷ as') x byte rest all.1 groups.1)

pub varint_once : (a b x y : List ℕ) (m n : ℕ)
    → IsVarint a m → IsVarint b n → a ++ x ≡ b ++ y → (a ≡ b) × (x ≡ y) × (m ≡ n)
varint_once a b x y m n left right same =
    let once = groups_once a b x y left.groups right.groups same in
    (once.0, once.1, left.value ∙ ap number_of once.0 ∙ sym right.value)

-- ---- a spelling at the front and a fault exclude one another

only-one-more : (front more : List ℕ) (byte : ℕ) → length front ≡ 9 → length (front ++ byte ∷ more) ≤ 10 → more ≡ []
only-one-more front [] byte nine short = refl
only-one-more front (m ∷ more) byte nine short = absurd (omega (arith, length-append front (byte ∷ m ∷ more)))

last-small : (front : List ℕ) (byte : ℕ) → IsGroups (front ++ byte ∷ []) → byte < 128
last-small [] byte groups = groups
last-small (f ∷ []) byte groups = groups.1
last-small (f ∷ g ∷ front) byte groups = last-small (g ∷ front) byte groups.1

-- the tenth byte of a spelling is 0 or 1
pub tenth-small : (front : List ℕ) (tenth number : ℕ)
    → length front ≡ 9 → IsVarint (front ++ tenth ∷ []) number → tenth ≤ 1
tenth-small front tenth number nine spelled =
    let small = last-small front tenth spelled.groups in
    let value : number_of (front ++ tenth ∷ []) ≡ number_of front + tenth % 128 * 2 ^ 63 = number_of-snoc front tenth
    ∙ ap (λ (n : ℕ). number_of front + tenth % 128 * 2 ^ (7 * n)) nine in
    omega (arith, value, small, spelled.value, spelled.fits)

pub fault_without_number : (fault : WireFault) (bytes : List ℕ) → IsVarintFault fault bytes
    → BeginsWithNone IsVarint bytes
fault_without_number Truncated bytes cut a rest number same spelled =
    groups_end a rest spelled.groups (subst AllContinue same cut.continued)
fault_without_number LongVarint bytes long a rest number same spelled =
    let past = groups_past
    long.front a rest long.tenth long.rest long.continued spelled.groups (sym same ∙ long.parts) in
    let len : length (long.front ++ long.tenth ∷ past.0) ≤ 10 =
    subst (λ (bytes : List ℕ). length bytes ≤ 10) past.1 spelled.short in
    let whole : a ≡ long.front ++ long.tenth ∷ [] = past.1 ∙ ap (λ (more : List ℕ). long.front ++ long.tenth ∷ more)
    (only-one-more long.front past.0 long.tenth long.nine len) in
    absurd (omega (
      arith,
      tenth-small long.front long.tenth number long.nine (subst (λ bytes. IsVarint bytes number) whole spelled),
      long.large,
    ))
fault_without_number fault bytes faulty a rest number same spelled = absurd faulty

pub cut_not_long : (bytes : List ℕ) → IsCutVarint bytes → IsLongVarint bytes → ⊥
cut_not_long bytes cut long =
    omega (arith, cut.short, ap length long.parts, length-append long.front (long.tenth ∷ long.rest), long.nine)

pub varint_fault_once : (f g : WireFault) (bytes : List ℕ) → IsVarintFault f bytes → IsVarintFault g bytes → f ≡ g
varint_fault_once Truncated LongVarint bytes left right = absurd (cut_not_long bytes left right)
varint_fault_once LongVarint Truncated bytes left right = absurd (cut_not_long bytes right left)
varint_fault_once Truncated Truncated bytes left right = refl
varint_fault_once LongVarint LongVarint bytes left right = refl
varint_fault_once Truncated g bytes left right = absurd right
varint_fault_once LongVarint g bytes left right = absurd right
varint_fault_once f g bytes left right = absurd left

pub past_end : (at : ℕ) (bytes : List ℕ) → length bytes ≤ at → IsVarintFault Truncated (drop at bytes)
past_end at bytes past = rw (drop_all at bytes past) (record { continued = tt; short = lit< tt })
