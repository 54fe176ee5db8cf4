-- Names that test as equal are equal.
use Rattle.std.proofs.Common.{arith, ◌≡◌, ℕ, true, List, [], ◌∷◌, refl}
use Rattle.std.proofs.lemmas.Bool.{eqb-true}
use Rattle.std.proofs.lemmas.Cmp.{nat_list_eq_equiv}
use Rattle.profile_rows.specs.Names.{is_same_name}

pub same_from_is_same_name : (a b : List ℕ) → is_same_name a b ≡ true → a ≡ b
same_from_is_same_name [] [] e = refl
same_from_is_same_name [] (y ∷ b) e = cc
same_from_is_same_name (x ∷ a) [] e = cc
same_from_is_same_name (x ∷ a) (y ∷ b) e = grind (arith, eqb-true, same_from_is_same_name a b)

pub is_same_name-self : (a : List ℕ) → is_same_name a a ≡ true
is_same_name-self = nat_list_eq_equiv.refl
