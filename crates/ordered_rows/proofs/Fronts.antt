-- The first bytes of two texts as numbers are in the order of the texts.
use Rattle.std.proofs.lemmas.Grind.{common_steps}
use Rattle.std.proofs.Common.{◌≡◌, ◌≢◌, ℕ, ◌+◌, ◌*◌, ◌<◌, false, List, [], ◌∷◌, length, drop, get_or, refl, sym, ap}
use Rattle.std.proofs.Common.{◌∙◌, arith}
use Prim.Native.Nat.{zero, suc}
use Rattle.std.specs.declared.cmp.Ordering.TheVariants.{Less, Equal}
use Rattle.std.specs.Ordering.{is_ne, nat_cmp}
use Rattle.std.specs.Cmp.{ranks}
use Rattle.ordered_rows.specs.StackOrder.{AreDigits, digits_of, front_of, with_digits, rank_of, stack_text_cmp}
use Rattle.ordered_rows.proofs.StackOrder.{stack_text_cmp_total}

-- numbers that begin lower are lower
lower : (high other : ℕ) (digits others : List ℕ) → length digits ≡ length others
    → AreDigits digits → AreDigits others → high < other → with_digits high digits < with_digits other others
lower high other [] [] same are also below = below
lower high other [] (o ∷ others) same are also below = absurd (omega (arith, same))
lower high other (d ∷ digits) [] same are also below = absurd (omega (arith, same))
lower high other (d ∷ digits) (o ∷ others) same are also below =
    lower (high * 512 + d)
    (other * 512 + o) digits others (omega (arith, same)) are.1 also.1 (omega (arith, are.0, below))

length-digits : (count : ℕ) (text : List ℕ) → length (digits_of count text) ≡ count
length-digits zero text = refl
length-digits (suc count) [] = ap suc (length-digits count [])
length-digits (suc count) (byte ∷ text) = ap suc (length-digits count text)

as_long : (count : ℕ) (text other : List ℕ) → length (digits_of count text) ≡ length (digits_of count other)
as_long count text other = length-digits count text ∙ sym (length-digits count other)

-- the lower number is that of the lower text
pub lower_text : (count high : ℕ) (text other : List ℕ)
    → AreDigits (digits_of count text) → AreDigits (digits_of count other)
    → with_digits high (digits_of count text) < with_digits high (digits_of count other)
    → stack_text_cmp text other ≡ Less
lower_text zero high text other are also below = absurd (omega (arith, below))
lower_text (suc count) high [] [] are also below = absurd (omega (arith, below))
lower_text (suc count) high [] (b ∷ other) are also below = refl
lower_text (suc count) high (a ∷ text) [] are also below = grind (arith, common_steps, lower, as_long)
lower_text (suc count) high (a ∷ text) (b ∷ other) are also below =
    let rest = lower_text count (high * 512 + (rank_of b + 1)) text other are.1 also.1 in
    let above = lower (high * 512 + (rank_of b + 1)) (high * 512 + (rank_of a + 1))
    (digits_of count other) (digits_of count text) (as_long count other text) also.1 are.1 in
    grind (arith, common_steps, ranks (rank_of a) (rank_of b), rest, above)

-- where fronts differ, they are in the order of the texts
pub fronts_decide : (text other : List ℕ)
    → AreDigits (digits_of 7 text) → AreDigits (digits_of 7 other) → nat_cmp (front_of text) (front_of other) ≢ Equal
    → nat_cmp (front_of text) (front_of other) ≡ stack_text_cmp text other
fronts_decide text other are also apart =
    let lower = lower_text 7 0 text other are also in
    let above = lower_text 7 0 other text also are in
    grind (arith, common_steps, ranks, lower, above, stack_text_cmp_total.antisymm text other)

-- numbers that are the same have the same digits
same_digits : (high : ℕ) (digits others : List ℕ) → length digits ≡ length others → AreDigits digits → AreDigits others
    → with_digits high digits ≡ with_digits high others → digits ≡ others
same_digits high [] [] same are also is = refl
same_digits high [] (o ∷ others) same are also is = absurd (omega (arith, same))
same_digits high (d ∷ digits) [] same are also is = absurd (omega (arith, same))
same_digits high (d ∷ digits) (o ∷ others) same are also is =
    let below = lower (high * 512 + d) (high * 512 + o) digits others in
    let above = lower (high * 512 + o) (high * 512 + d) others digits in
    grind (arith, common_steps, below, above, same_digits (high * 512 + o) digits others)

-- texts whose first bytes rank the same compare as what is after these
past_digits : (count : ℕ) (text other : List ℕ) → digits_of count text ≡ digits_of count other
    → stack_text_cmp text other ≡ stack_text_cmp (drop count text) (drop count other)
past_digits zero text other same = refl
past_digits (suc count) [] [] same = refl
past_digits (suc count) [] (b ∷ other) same = absurd (omega (arith, ap (λ digits. get_or digits 0 0) same))
past_digits (suc count) (a ∷ text) [] same = absurd (omega (arith, ap (λ digits. get_or digits 0 0) same))
past_digits (suc count) (a ∷ text) (b ∷ other) same =
    grind (arith, common_steps, past_digits count text other (ap (drop 1) same))

-- texts of one front compare as what is after it
pub past_fronts : (text other : List ℕ) → AreDigits (digits_of 7 text) → AreDigits (digits_of 7 other)
    → front_of text ≡ front_of other → stack_text_cmp text other ≡ stack_text_cmp (drop 7 text) (drop 7 other)
past_fronts text other are also same = past_digits 7 text other
    (same_digits 0 (digits_of 7 text) (digits_of 7 other) (as_long 7 text other) are also same)

-- numbers of which none is lower are the same
pub same_front : (front other : ℕ) → is_ne (nat_cmp front other) ≡ false → front ≡ other
same_front front other even = grind (arith, common_steps, ranks)
