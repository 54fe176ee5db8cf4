-- Names that are numbered as rows are counted.
use Rattle.std.proofs.lemmas.Grind.{common_steps}
use Rattle.std.proofs.Common.{◌≡◌, ℕ, zero, suc, ◌+◌, ◌-◌, ◌^◌, ◌<◌, ◌≤◌, true, false, cond, List, [], ◌∷◌, ◌++◌}
use Rattle.std.proofs.Common.{length, map, take, refl, sym, ap, ◌∙◌, subst, arith, All, Option, Some}
use Rattle.std.proofs.Common.{replicate}
use Rattle.std.proofs.Common.{None}
use Rattle.std.specs.Prelude.{MatchOption, slice_get, slice_index_or}
use Rattle.std.specs.List.{AllByRecursion, IsDistinct, list_any}
use Rattle.std.specs.Str.{bytes_eq}
use Rattle.std.proofs.lemmas.List.{get_or-map, get_or_append_left, length-append, length-map, take-append-le}
use Rattle.std.proofs.lemmas.List.{append-nil, append_assoc, length-replicate, length-take-le, map-append, take_all}
use Rattle.std.proofs.lemmas.List.{take_more}
use Rattle.std.proofs.lemmas.List.Elements.{All-head, All-push, All-tail, All-weaker, recursion_from_All}
use Rattle.std.proofs.Math.Seq.{get_or-append_seam}
use Rattle.std.proofs.lemmas.Option.{get_or_from_slice_get, slice_get-get_or, slice_get_within}
use Rattle.std.proofs.lemmas.Cmp.{nat_list_eq_equiv}
use Rattle.std.proofs.lemmas.Map.Keys.{IsDistinct-push}
use Rattle.profile_rows.specs.declared.hashing.Hashing.{Hashing}
use Rattle.name_counts.specs.declared.tallies.Tallies.{Tallies}
use Rattle.name_counts.specs.declared.tallies.Tally.{Tally}
use Rattle.profile_rows.specs.declared.weighted_stacks.WeightedStack.{WeightedStack}
use Rattle.profile_rows.specs.Names.{IsName}
use Rattle.name_counts.specs.Tallies.{AreSingle, AreTalliesOf, IsNumberedStack, IsTallyOf}
use Rattle.name_counts.specs.Tallies.{tally_at, tally_of}
use Rattle.name_counts.specs.TextTables.{names_at, number_in, with_text, with_texts}
use Rattle.name_counts.specs.NumberedRows.{HasFrameAt, HasReplaced, IsBeginning, IsNumberOfText, NumberedFrames}
use Rattle.name_counts.proofs.TallyLaws.{zero_tally}
use Rattle.name_counts.proofs.TextNumbers.{any_push, next_with, number_in-kept, number_in-lt, there_inside}
use Rattle.name_counts.proofs.TextNumbers.{text_of_number, with_text-there}
use Rattle.profile_rows.proofs.SameNames.{is_same_name-self}

-- ---- a name more

single_push : (names : List (List ℕ)) (name : List ℕ)
    → AreSingle names → list_any (bytes_eq name) names ≡ false → AreSingle (names ++ name ∷ [])
single_push names name single none = IsDistinct-push nat_list_eq_equiv names name single none

nothing_counted : (count number : ℕ) → tally_at (replicate count zero_tally) number ≡ zero_tally
nothing_counted zero zero = refl
nothing_counted zero (suc number) = refl
nothing_counted (suc count) zero = refl
nothing_counted (suc count) (suc number) = nothing_counted count number

-- names after others have tallies of no row
tally_of-more : (names more : List (List ℕ)) (tallies : List Tally) (count : ℕ) (q : List ℕ)
    → length tallies ≡ length names
    → tally_of (names ++ more) (tallies ++ replicate count zero_tally) q ≡ tally_of names tallies q
tally_of-more [] more [] count q same = nothing_counted count (number_in more q)
tally_of-more [] more (tally ∷ tallies) count q same = absurd (omega (arith, same))
tally_of-more (first ∷ names) more [] count q same = absurd (omega (arith, same))
tally_of-more (first ∷ names) more (tally ∷ tallies) count q same =
    grind (arith, zero_tally, tally_of-more names more tallies count q (omega (arith, same)))

-- texts that are added stand after those that are there
texts_after : (names more : List (List ℕ)) → (after : List (List ℕ)) × (with_texts names more ≡ names ++ after)
texts_after names [] = ([], sym (append-nil names))
texts_after names (name ∷ more) = elim (list_any (bytes_eq name) names) as (λ b. (after : List (List ℕ))
    × (with_texts (cond b names (names ++ name ∷ [])) more ≡ names ++ after)) [
      | true ↦ texts_after names more
      | false ↦
          let (after, is) = texts_after (names ++ name ∷ []) more in
          (name ∷ after, is ∙ append_assoc names (name ∷ []) after)
    ]

pub single_with : (names more : List (List ℕ)) → AreSingle names → AreSingle (with_texts names more)
single_with names [] single = single
single_with names (name ∷ more) single =
    grind (arith, single_push, single_with names more single, single_with (names ++ name ∷ []) more)

-- names that are new have tallies of no row
pub names-new : (rows : List WeightedStack) (names more : List (List ℕ)) (old new : Tallies) → new.total ≡ old.total
    → new.names.items ≡ old.names.items ++ replicate (length (with_texts names more) - length names) zero_tally
    → AreTalliesOf rows names old → AreTalliesOf rows (with_texts names more) new
names-new rows names more old new total grown are =
    let many = are.many in
    let (after, is) = texts_after names more in
    let count = length (with_texts names more) - length names in
    record {
      single = single_with names more are.single;
      many =
          let tallies = ap length grown ∙ length-append old.names.items (replicate count zero_tally) in
          let grew = length-replicate count zero_tally in
          let texts = ap length is ∙ length-append names after in
          omega (arith, tallies, grew, texts, many);
      each = λ q.
          let same : tally_of (with_texts names more) new.names.items q ≡ tally_of names old.names.items q =
          ap (λ ns. tally_of ns new.names.items q) is ∙ ap (λ ts. tally_of (names ++ after) ts q) grown
          ∙ tally_of-more names after old.names.items count q many in
          subst (λ n. IsTallyOf rows n q (tally_of (with_texts names more) new.names.items q))
          (sym total) (subst (IsTallyOf rows old.total q) (sym same) (are.each q));
      total = total ∙ are.total;
    }

-- ---- rows

pub none_single : AreSingle []
unfolding IsDistinct
none_single = tt

pub none_counted : (texts : List (List ℕ)) (tallies : Tallies) → texts ≡ [] → tallies.names.items ≡ []
    → tallies.total ≡ 0 → AreTalliesOf [] texts tallies
none_counted texts tallies none nothing total = grind (arith, common_steps, zero_tally, none_single)

names_at-more : (names more : List (List ℕ)) (numbers : List ℕ) → AllByRecursion
    (λ number. number < length names) numbers → names_at (names ++ more) numbers ≡ names_at names numbers
names_at-more names more [] all = refl
names_at-more names more (number ∷ numbers) all =
    grind (arith, common_steps, get_or_append_left, names_at-more names more numbers all.1)

-- a name more changes no name of a number
names_at-with : (names : List (List ℕ)) (name : List ℕ) (numbers : List ℕ) → AllByRecursion
    (λ number. number < length names) numbers → names_at (with_text names name) numbers ≡ names_at names numbers
names_at-with names name numbers all = grind (arith, common_steps, names_at-more)

length-with : (names : List (List ℕ)) (name : List ℕ) → length names ≤ length (with_text names name)
length-with names name = grind (arith, common_steps, length-append)

-- the number of a name that was added is below the end
number_is-within : (names : List (List ℕ)) (name : List ℕ)
    → number_in (with_text names name) name < length (with_text names name)
number_is-within names name = grind (arith, common_steps, any_push, number_in-lt, is_same_name-self)

-- the number of a name that was added is inside
number_inside : (old new : List (List ℕ)) (name : List ℕ) (number : ℕ)
    → new ≡ with_text old name → number ≡ number_in new name → number < length new
number_inside old new name number names number_is = grind (arith, common_steps, number_is-within)

-- a name more changes the name of no number
at-with : (names : List (List ℕ)) (name : List ℕ) (number : ℕ) → number < length names
    → slice_index_or (with_text names name) number [] ≡ slice_index_or names number []
at-with names name number lt = grind (arith, common_steps, get_or_append_left)

-- a number stays that of its text as a name comes
number-kept : (names : List (List ℕ)) (name : List ℕ) (number : ℕ)
    → IsNumberOfText names number → IsNumberOfText (with_text names name) number
number-kept names name number is = grind (arith, common_steps, number_in-kept, there_inside, length-with, at-with)

pub numbers-kept : (names : List (List ℕ)) (name : List ℕ) (numbers : List ℕ)
    → All (IsNumberOfText names) numbers → All (IsNumberOfText (with_text names name)) numbers
numbers-kept names name numbers = All-weaker (IsNumberOfText names) (IsNumberOfText (with_text names name))
    (number-kept names name) numbers

-- the name of a number that was added
added_name : (old new : List (List ℕ)) (name : List ℕ) (number : ℕ)
    → new ≡ with_text old name → number ≡ number_in new name → slice_index_or new number [] ≡ name
added_name old new name number names number_is = grind (arith, text_of_number, number_inside)

pub numbers-pushed : (old new : List (List ℕ)) (before after : List ℕ) (name : List ℕ) (number : ℕ)
    → new ≡ with_text old name → number ≡ number_in new name → number < 2 ^ 63 → after ≡ before ++ number ∷ []
    → All (IsNumberOfText old) before → All (IsNumberOfText new) after
numbers-pushed old new before after name number names number_is fits numbers are =
    subst (All (IsNumberOfText new)) (sym numbers) (All-push (IsNumberOfText new) before number
    (subst (λ ns. All (IsNumberOfText ns) before) (sym names) (numbers-kept old name before are)) (record {
      inside = number_inside old new name number names number_is;
      own = ap (number_in new) (added_name old new name number names number_is) ∙ sym number_is;
      fits = fits;
    }))

pub are_inside : (texts : List (List ℕ)) (numbers : List ℕ)
    → All (IsNumberOfText texts) numbers → All (λ number. number < length texts) numbers
are_inside texts = All-weaker (IsNumberOfText texts) (λ number. number < length texts) (λ number is. is.inside)

-- a name more leaves the frames of a row
pub frames-kept : (old new : List (List ℕ)) (name : List ℕ) (numbers : List ℕ) → new ≡ with_text old name
    → All (IsNumberOfText old) numbers → names_at new numbers ≡ names_at old numbers
frames-kept old new name numbers names are =
    ap (λ texts. names_at texts numbers) names
    ∙ names_at-with old name numbers (recursion_from_All (λ number. number < length old) numbers
    (are_inside old numbers are))

-- the numbers are those of their texts
pub are_own : (texts : List (List ℕ)) (numbers : List ℕ)
    → All (IsNumberOfText texts) numbers → map (number_in texts) (names_at texts numbers) ≡ numbers
are_own texts [] are = refl
are_own texts (number ∷ numbers) are =
    grind (arith, All-head, All-tail, are_own texts numbers (All-tail (IsNumberOfText texts) number numbers are))

-- the name that a number more adds
pub name_numbered : (old new : List (List ℕ)) (before after : List ℕ) (frame : List ℕ) (number : ℕ)
    → new ≡ with_text old frame → number ≡ number_in new frame → after ≡ before ++ number ∷ []
    → All (λ n. n < length old) before → names_at new after ≡ names_at old before ++ frame ∷ []
name_numbered old new before after frame number names number_is numbers inside =
    ap (names_at new) numbers
    ∙ map-append (λ n. slice_index_or new n []) before (number ∷ [])
    ∙ ap (λ ns. ns ++ slice_index_or new number [] ∷ []) (ap (λ ns. names_at ns before) names
    ∙ names_at-with old frame before (recursion_from_All (λ n. n < length old) before inside))
    ∙ ap (λ name. names_at old before ++ name ∷ []) (added_name old new frame number names number_is)

-- ---- a row's frames

abbrev pub numbered : List (List ℕ) → List ℕ → Hashing → NumberedFrames
numbered texts numbers hashing = record { texts = texts; frames = names_at texts numbers; hashing = hashing }

-- a frame that stands at a depth
pub frame_there : (texts : List (List ℕ)) (numbers : List ℕ) (hashing : Hashing) (depth number : ℕ) (frame : List ℕ)
    → All (IsNumberOfText texts) numbers → slice_get numbers depth ≡ Some number
    → slice_index_or texts number [] ≡ frame → length numbers < 2 ^ 63
    → HasFrameAt depth frame (numbered texts numbers hashing) (numbered texts numbers hashing)
frame_there texts numbers hashing depth number frame are some named short =
    let name_of : ℕ → List ℕ = λ n. slice_index_or texts n [] in
    let lt = slice_get_within numbers depth number some in
    let at = get_or_from_slice_get numbers depth number 0 some in
    let is = subst (IsNumberOfText texts) at (are depth 0 lt) in
    let inside = subst (λ n. depth < n) (sym (length-map numbers name_of)) lt in
    record {
      names = sym (with_text-there texts frame
          (subst (λ n. n < length texts) (sym (ap (number_in texts) (sym named) ∙ is.own)) is.inside));
      inside = inside;
      fits = omega (arith, lt, short);
      frames = take_more (names_at texts numbers) depth [] inside
          ∙ ap (λ name. take depth (names_at texts numbers) ++ name ∷ [])
          (get_or-map name_of numbers depth 0 [] lt ∙ ap name_of at ∙ named);
    }

-- a frame that comes after all others
pub frame_pushed : (old new : List (List ℕ)) (before after : List ℕ) (was is : Hashing) (frame : List ℕ) (number : ℕ)
    → new ≡ with_text old frame → number ≡ number_in new frame → after ≡ before ++ number ∷ []
    → All (IsNumberOfText old) before → length before < 2 ^ 63
    → HasFrameAt (length (names_at old before)) frame (numbered old before was) (numbered new after is)
frame_pushed old new before after was is frame number names number_is numbers are short =
    let first = names_at old before in
    let long = length-map before (λ n. slice_index_or old n []) in
    let all = name_numbered old new before after frame number names number_is numbers (are_inside old before are) in
    let many = length-append first (frame ∷ []) in
    record {
      names = names;
      inside = subst (λ ns. length first < length ns) (sym all) (omega (arith, many));
      fits = omega (arith, long, short);
      frames = ap (take (length first + 1)) all
          ∙ take_all (length first + 1) (first ++ frame ∷ []) (omega (arith, many))
          ∙ ap (λ ns. ns ++ frame ∷ []) (sym (take_all (length first) first (omega arith)));
    }

-- a frame that comes after those that are kept
pub set_frame : (depth : ℕ) (frame : List ℕ) (row kept after : NumberedFrames) → depth ≤ length row.frames
    → kept ≡ record row { frames = take depth row.frames } → HasFrameAt (length kept.frames) frame kept after
    → HasFrameAt depth frame row after
set_frame depth frame row kept after within is there =
    let first = ap (λ (r : NumberedFrames). r.frames) is in
    let many = ap length first ∙ length-take-le depth row.frames within in
    let short = length-take-le depth row.frames within in
    record {
      names = there.names ∙ ap (λ (r : NumberedFrames). with_text r.texts frame) is;
      inside = subst (λ n. n < length after.frames) many there.inside;
      fits = subst (λ n. n < 2 ^ 63) many there.fits;
      frames = ap (λ n. take (n + 1) after.frames) (sym many) ∙ there.frames
          ∙ ap (λ names. names ++ frame ∷ []) (ap (λ n. take n kept.frames) many ∙ ap (take depth) first
          ∙ take_all depth (take depth row.frames) (omega (arith, short)));
    }

-- a frame more of those that replace others
pub next_replaced : (start : List (List ℕ)) (row next : NumberedFrames) (depth : ℕ) (frame : List ℕ)
    (all left rest : List (List ℕ)) → row.texts ≡ with_texts start (take depth row.frames)
    → take depth row.frames ++ left ≡ all → left ≡ frame ∷ rest → HasFrameAt depth frame row next
    → (next.texts ≡ with_texts start (take (depth + 1) next.frames)) × (take (depth + 1) next.frames ++ rest ≡ all)
next_replaced start row next depth frame all left rest names frames first there = (
  next_with start row.texts next.texts (take depth row.frames) (take (depth + 1) next.frames) frame
      there.names names there.frames,
  ap (λ ns. ns ++ rest) there.frames ∙ append_assoc (take depth row.frames) (frame ∷ []) rest
      ∙ ap (λ ns. take depth row.frames ++ ns) (sym first) ∙ frames,
)

-- all frames in the place of others
pub all_replaced : (start row kept : NumberedFrames) (depth : ℕ) (all left : List (List ℕ))
    → row.texts ≡ with_texts start.texts (take depth row.frames) → take depth row.frames ++ left ≡ all
    → left ≡ [] → kept ≡ record row { frames = take depth row.frames } → HasReplaced all start kept
all_replaced start row kept depth all left names frames none is =
    let these : take depth row.frames ≡ all =
    sym (append-nil (take depth row.frames)) ∙ ap (λ ns. take depth row.frames ++ ns) (sym none) ∙ frames in
    record {
      names = ap (λ (r : NumberedFrames). r.texts) is ∙ names ∙ ap (with_texts start.texts) these;
      frames = ap (λ (r : NumberedFrames). r.frames) is ∙ these;
    }

-- the frames that replaced others before memory ran out
pub first_replaced : (row : NumberedFrames) (depth : ℕ) (all left now : List (List ℕ)) → depth ≤ length row.frames
    → take depth row.frames ++ left ≡ all → now ≡ take depth row.frames → IsBeginning now all
first_replaced row depth all left now within frames is =
    let many = length-take-le depth row.frames within in (
      depth,
      is ∙ sym (take_all depth (take depth row.frames) (omega (arith, many)))
          ∙ sym (take-append-le depth (take depth row.frames) left (omega (arith, many))) ∙ ap (take depth) frames,
    )

-- the last number and those before it
last_of : (numbers : List ℕ) → MatchOption (slice_get numbers (length numbers - 1))
    (numbers ≡ []) (λ number. (before : List ℕ) × (numbers ≡ before ++ number ∷ []))
last_of [] = refl
last_of (first ∷ rest) =
    let all = first ∷ rest in
    let at = length all - 1 in
    let inside : at < length all = omega arith in
    subst (λ last. MatchOption last (all ≡ []) (λ number. (before : List ℕ) × (all ≡ before ++ number ∷ [])))
    (sym (slice_get-get_or all at first inside))
    (take at all, sym (take_all (at + 1) all (omega arith)) ∙ take_more all at first inside)

inside_last : (many : ℕ) (before : List ℕ) (number : ℕ) → All (λ n. n < many) (before ++ number ∷ []) → number < many
inside_last many before number all = grind (arith, common_steps, length-append, get_or-append_seam)

leaf_of : (names stack : List (List ℕ)) (numbers : List ℕ) (leaf : Option ℕ)
    → names_at names numbers ≡ stack → All (λ n. n < length names) numbers
    → MatchOption leaf (numbers ≡ []) (λ number. (before : List ℕ) × (numbers ≡ before ++ number ∷ []))
    → MatchOption leaf (stack ≡ []) (λ number. (number < length names)
    × (callers : List (List ℕ)) × (stack ≡ callers ++ slice_index_or names number [] ∷ []))
leaf_of names stack numbers None is inside none = sym is ∙ ap (names_at names) none
leaf_of names stack numbers (Some number) is inside (before, last) = (
  inside_last (length names) before number (subst (All (λ n. n < length names)) last inside),
  names_at names before,
  sym is ∙ ap (names_at names) last ∙ map-append (λ n. slice_index_or names n []) before (number ∷ []),
)

-- the numbers of a row's frames, of which the last is the leaf's
pub row_numbered : (texts stack : List (List ℕ)) (numbers : List ℕ) (leaf : Option ℕ)
    → names_at texts numbers ≡ stack → All (λ number. number < length texts) numbers
    → All IsName stack → leaf ≡ slice_get numbers (length numbers - 1) → IsNumberedStack texts stack numbers leaf
row_numbered texts stack numbers leaf names inside named last = grind (arith, common_steps, last_of, leaf_of)
