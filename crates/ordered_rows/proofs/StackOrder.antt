-- Texts without empty frames are in the order of their stacks.
use Rattle.std.proofs.lemmas.Grind.{common_steps}
use Rattle.std.proofs.Common.{◌≡◌, ◌≢◌, ℕ, ◌+◌, ◌<◌, List, [], ◌∷◌, ◌++◌, length, take, drop, refl, sym, ap, arith}
use Rattle.std.specs.List.{All, AllByRecursion, join_with_byte}
use Rattle.std.specs.declared.cmp.Ordering.{Ordering}
use Rattle.std.specs.declared.cmp.Ordering.TheVariants.{Less, Equal, Greater}
use Rattle.std.specs.Ordering.{MatchOrdering, nat_cmp, ordering_then}
use Rattle.std.specs.Cmp.{IsTotalOrder}
use Rattle.std.specs.Cmp.Derive.{then_next}
use Rattle.std.specs.Cmp.Lexicographic.{slice_cmp}
use Rattle.std.proofs.lemmas.Cmp.{lists_total, nat_cmp_total, on_total}
use Rattle.std.proofs.lemmas.List.{append-nil, take-append-drop}
use Rattle.profile_rows.specs.Rows.{stack_cmp}
use Rattle.ordered_rows.specs.StackFrames.{frames_of}
use Rattle.ordered_rows.specs.StackOrder.{IsJoined, rank_of, stack_text_cmp, text_byte_cmp}
use Rattle.ordered_rows.proofs.FrameNames.{frames_of-plain, frames_of-some}
use Rattle.std.proofs.lemmas.List.Elements.{recursion_from_All}

-- what follows a frame: nothing, or a semicolon and the frames after it
abbrev tail : List (List ℕ) → List ℕ
tail [] = []
tail (frame ∷ frames) = 59 ∷ join_with_byte 59 (frame ∷ frames)

join-cons : (frame : List ℕ) (frames : List (List ℕ)) → join_with_byte 59 (frame ∷ frames) ≡ frame ++ tail frames
join-cons frame [] = sym (append-nil frame)
join-cons frame (next ∷ frames) = refl

abbrev Plain : List ℕ → Type 0
Plain frame = AllByRecursion (λ byte. byte ≢ 59) frame

-- ---- bytes

next : (o : Ordering) (a b : ℕ)
    → MatchOrdering o (a < b) (a ≡ b) (b < a) → MatchOrdering o (a + 1 < b + 1) (a + 1 ≡ b + 1) (b + 1 < a + 1)
next Less a b h = omega (arith, h)
next Equal a b h = ap (λ n. n + 1) h
next Greater a b h = omega (arith, h)

goes_on : (a b : ℕ) → a ≢ 59 → b ≢ 59 → text_byte_cmp a b ≡ nat_cmp a b
goes_on a b first second = grind (arith, common_steps, next)

-- ---- frames

then_then : (a b c : Ordering) → ordering_then a (ordering_then b c) ≡ ordering_then (ordering_then a b) c
then_then a b c = then_next a b c refl refl

-- the bytes of two frames decide first, then what follows them
within : (frames others : List (List ℕ)) → stack_text_cmp (tail frames) (tail others) ≡ stack_cmp frames others
    → (frame other : List ℕ) → Plain frame → Plain other
    → stack_text_cmp (frame ++ tail frames) (other ++ tail others)
    ≡ ordering_then (slice_cmp nat_cmp frame other) (stack_cmp frames others)
within frames others rest [] [] plain also = rest
within [] others rest [] (b ∷ other) plain also = refl
within (f ∷ frames) others rest [] (b ∷ other) plain also = grind (arith, common_steps)
within frames [] rest (a ∷ frame) [] plain also = refl
within frames (f ∷ others) rest (a ∷ frame) [] plain also = grind (arith, common_steps)
within frames others rest (a ∷ frame) (b ∷ other) plain also =
    grind (arith, common_steps, goes_on, then_then, within frames others rest frame other plain.1 also.1)

tails : (frames others : List (List ℕ)) → AllByRecursion Plain frames
    → AllByRecursion Plain others → stack_text_cmp (tail frames) (tail others) ≡ stack_cmp frames others
tails [] [] plain also = refl
tails [] (other ∷ others) plain also = refl
tails (frame ∷ frames) [] plain also = refl
tails (frame ∷ frames) (other ∷ others) plain also =
    grind (arith, common_steps, join-cons, within, tails frames others plain.1 also.1)

-- frames that aren't empty, joined by semicolons, are in the order of their stacks
joined-cmp : (frames others : List (List ℕ))
    → All (λ frame. 0 < length frame) frames → All (λ frame. 0 < length frame) others
    → AllByRecursion Plain frames → AllByRecursion Plain others
    → stack_text_cmp (join_with_byte 59 frames) (join_with_byte 59 others) ≡ stack_cmp frames others
joined-cmp [] [] some full plain also = refl
joined-cmp [] ([] ∷ others) some full plain also = absurd (omega (arith, full 0 []))
joined-cmp [] ((byte ∷ other) ∷ []) some full plain also = refl
joined-cmp [] ((byte ∷ other) ∷ f ∷ others) some full plain also = refl
joined-cmp ([] ∷ frames) [] some full plain also = absurd (omega (arith, some 0 []))
joined-cmp ((byte ∷ frame) ∷ []) [] some full plain also = refl
joined-cmp ((byte ∷ frame) ∷ f ∷ frames) [] some full plain also = refl
joined-cmp (frame ∷ frames) (other ∷ others) some full plain also = tails (frame ∷ frames) (other ∷ others) plain also

-- ---- texts

frames_of-Plain : (text : List ℕ) → AllByRecursion Plain (frames_of text)
frames_of-Plain text = recursion_from_All Plain (frames_of text)
    (λ k d lt. recursion_from_All (λ byte. byte ≢ 59) _ (frames_of-plain text k d lt))

-- the order of texts without empty frames is that of their stacks
pub joined_texts-cmp : (text other : List ℕ)
    → IsJoined text → IsJoined other → stack_text_cmp text other ≡ stack_cmp (frames_of text) (frames_of other)
joined_texts-cmp text other joined also = grind (arith, common_steps, joined-cmp, frames_of-some, frames_of-Plain)

pub stack_text_cmp_total : IsTotalOrder stack_text_cmp
stack_text_cmp_total = lists_total (on_total rank_of nat_cmp_total)

-- ---- what two texts begin with

after_front : (front text other : List ℕ) → stack_text_cmp (front ++ text) (front ++ other) ≡ stack_text_cmp text other
after_front [] text other = refl
after_front (byte ∷ front) text other = grind (arith, common_steps, after_front front text other)

-- texts that begin with the same bytes compare as what follows these
pub past_front-cmp : (n : ℕ) (text other : List ℕ)
    → take n text ≡ take n other → stack_text_cmp (drop n text) (drop n other) ≡ stack_text_cmp text other
past_front-cmp n text other same =
    let parted = after_front (take n text) (drop n text) (drop n other) in
    grind (arith, common_steps, take-append-drop n text, take-append-drop n other)
