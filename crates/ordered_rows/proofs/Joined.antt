-- Names joined by semicolons.
use Rattle.std.proofs.lemmas.Grind.{common_steps}
use Rattle.std.proofs.Common.{◌≡◌, ℕ, false, eqb, List, [], ◌∷◌, refl, arith}
use Rattle.std.specs.Prelude.{◌≢◌}
use Rattle.std.specs.List.{AllByRecursion, All, join_with_byte}
use Rattle.std.proofs.lemmas.List.Elements.{All-append, All-cons, All-nil}
use Rattle.std.proofs.lemmas.List.Splits.{slice_split_none, slice_split_at}
use borrow.Author.Tests.{ne_eqb}
use Rattle.profile_rows.specs.Names.{IsName}
use Rattle.ordered_rows.specs.StackFrames.{frames_of}

-- names joined by semicolons hold no line feed
pub joined_plain : (names : List (List ℕ))
    → AllByRecursion IsName names → All (λ byte. byte ≢ 10) (join_with_byte 59 names)
joined_plain [] all = All-nil (λ byte. byte ≢ 10)
joined_plain (name ∷ []) all = all.0.no_line_feed
joined_plain (name ∷ next ∷ names) all =
    All-append (λ byte. byte ≢ 10) name (59 ∷ join_with_byte 59 (next ∷ names)) all.0.no_line_feed
    (All-cons (λ byte. byte ≢ 10) 59 _ (λ e. omega (arith, e)) (joined_plain (next ∷ names) all.1))

uncut : (name : List ℕ) → IsName name → All (λ byte. eqb byte 59 ≡ false) name
uncut name is k d lt = ne_eqb _ 59 (is.no_separator k d lt)

-- cut again, they are the names
pub frames_of-joined : (names : List (List ℕ))
    → AllByRecursion IsName names → frames_of (join_with_byte 59 names) ≡ names
frames_of-joined [] all = refl
frames_of-joined (name ∷ []) all = grind (arith, common_steps, slice_split_none, uncut)
frames_of-joined (name ∷ next ∷ names) all =
    grind (arith, common_steps, slice_split_at, uncut, frames_of-joined (next ∷ names) all.1)
