-- Names joined, one more at a time.
use Rattle.std.proofs.lemmas.Grind.{common_steps}
use Rattle.std.proofs.Common.{◌≡◌, ℕ, ◌+◌, ◌<◌, List, [], ◌∷◌, ◌++◌, length, get_or, take, sym, arith}
use Rattle.std.proofs.Common.{append_assoc, ◌⊎◌, inl, inr}
use Rattle.std.specs.List.{join_with_byte}
use Rattle.std.proofs.lemmas.List.{append-nil, length-take-le, take_more}

join-push : (c : ℕ) (names : List (List ℕ)) (name : List ℕ)
    → 0 < length names → join_with_byte c (names ++ name ∷ []) ≡ (join_with_byte c names ++ c ∷ []) ++ name
join-push c [] name some = absurd (omega arith)
join-push c (first ∷ []) name some = sym (append_assoc first (c ∷ []) name)
join-push c (first ∷ next ∷ names) name some =
    grind (arith, common_steps, join-push c (next ∷ names) name (omega arith))

-- one name more: a semicolon before it, but before the first
pub join_more : (names : List (List ℕ)) (k : ℕ) (d start before after : List ℕ)
    → k < length names → before ≡ start ++ join_with_byte 59 (take k names)
    → ((0 < k) × (after ≡ before ++ 59 ∷ [])) ⊎ ((k ≡ 0) × (after ≡ before))
    → after ++ get_or names k d ≡ start ++ join_with_byte 59 (take (k + 1) names)
join_more names k d start before after lt so_far (inl (some, semicolon)) =
    grind (arith, common_steps, length-take-le, take_more, join-push)
join_more names k d start before after lt so_far (inr (none, same)) = grind (arith, common_steps, append-nil, take_more)
