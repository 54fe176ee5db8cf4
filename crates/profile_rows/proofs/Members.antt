-- A list put in order rises, and two rising lists with the same members are one.
use Rattle.std.proofs.lemmas.Grind.{common_steps}
use Rattle.std.proofs.Common.{arith, ◌≡◌, Bool, true, false, ◌||◌, List, [], ◌∷◌, map, refl, sym, ap, ◌∙◌}
use Rattle.std.specs.List.{AllByRecursion, list_any}
use Rattle.std.specs.declared.cmp.Ordering.{Ordering}
use Rattle.std.specs.declared.cmp.Ordering.TheVariants.{Less}
use Rattle.std.specs.Ordering.{is_eq, eq_by_cmp, ordering_reverse}
use Rattle.std.specs.Cmp.{IsTotalOrder}
use Rattle.std.specs.FinMap.{IsAntisymmetric}
use Rattle.std.proofs.lemmas.Cmp.{tied_itself}
use Rattle.profile_rows.specs.Order.{with_member, in_order}
use Rattle.profile_rows.proofs.StackLaws.{is_equal}

-- whether some member of a list that was mapped passes a test
pub list_any-map : {A B : Type 0} (test : B → Bool) (f : A → B) (xs : List A)
    → list_any test (map f xs) ≡ list_any (λ x. test (f x)) xs
list_any-map test f [] = refl
list_any-map test f (x ∷ xs) = ap (λ b. test (f x) || b) (list_any-map test f xs)

module _ {K : Type 0} (cmp : K → K → Ordering) (total : IsTotalOrder cmp) (apart : IsAntisymmetric cmp) where
  abbrev is_member : K → List K → Bool
  is_member q xs = list_any (eq_by_cmp cmp q) xs

  -- each element is below those after it
  abbrev pub Rises : List K → Type 0
  Rises [] = Unit {0}
  Rises (x ∷ xs) = AllByRecursion (λ y. cmp x y ≡ Less) xs × Rises xs

  turn : (x y : K) (o : Ordering) → cmp x y ≡ o → cmp y x ≡ ordering_reverse o
  turn x y o e = total.antisymm y x ∙ ap ordering_reverse e

  below_all : (x y : K) (ys : List K)
      → cmp x y ≡ Less → AllByRecursion (λ z. cmp y z ≡ Less) ys → AllByRecursion (λ z. cmp x z ≡ Less) ys
  below_all x y [] less all = tt
  below_all x y (z ∷ ys) less all = (total.trans x y z less all.0, below_all x y ys less all.1)

  all-with_member : (P : K → Type 0) (x : K) (xs : List K)
      → P x → AllByRecursion P xs → AllByRecursion P (with_member cmp x xs)
  all-with_member P x [] here all = (here, tt)
  all-with_member P x (y ∷ ys) here all = grind (arith, common_steps, all-with_member P x ys here all.1)

  with_member-Rises : (x : K) (xs : List K) → Rises xs → Rises (with_member cmp x xs)
  with_member-Rises x [] up = (tt, tt)
  with_member-Rises x (y ∷ ys) up =
      grind (arith, common_steps, turn, below_all, all-with_member, with_member-Rises x ys up.1)

  pub in_order-Rises : (xs : List K) → Rises (in_order cmp xs)
  in_order-Rises [] = tt
  in_order-Rises (x ∷ xs) = with_member-Rises x (in_order cmp xs) (in_order-Rises xs)

  either_way : (a b c : Bool) → (a || (b || c)) ≡ (b || (a || c))
  either_way true true c = refl
  either_way true false c = refl
  either_way false true c = refl
  either_way false false c = refl

  twice : (a b : Bool) → (a || b) ≡ (a || (a || b))
  twice true b = refl
  twice false b = refl

  member-with_member : (q x : K) (xs : List K)
      → is_member q (with_member cmp x xs) ≡ (eq_by_cmp cmp q x || is_member q xs)
  member-with_member q x [] = refl
  member-with_member q x (y ∷ ys) = grind (arith, common_steps, either_way, twice, member-with_member q x ys)

  pub member-in_order : (q : K) (xs : List K) → is_member q (in_order cmp xs) ≡ is_member q xs
  member-in_order q [] = refl
  member-in_order q (x ∷ xs) = member-with_member q x (in_order cmp xs)
      ∙ ap (λ b. eq_by_cmp cmp q x || b) (member-in_order q xs)

  is_eq-below : (q x : K) → cmp q x ≡ Less → eq_by_cmp cmp q x ≡ false
  is_eq-below q x e = ap is_eq e

  -- what is below all elements is none of them
  absent : (q : K) (xs : List K) → AllByRecursion (λ y. cmp q y ≡ Less) xs → is_member q xs ≡ false
  absent q [] all = refl
  absent q (x ∷ xs) all = ap (λ b. b || is_member q xs) (is_eq-below q x all.0) ∙ absent q xs all.1

  present : (x : K) (xs : List K) → is_member x (x ∷ xs) ≡ true
  present x xs = ap (λ o. is_eq o || is_member x xs) (tied_itself total x)

  same_first : (x : K) (xs : List K) (y : K) (ys : List K)
      → Rises (x ∷ xs) → Rises (y ∷ ys) → ((q : K) → is_member q (x ∷ xs) ≡ is_member q (y ∷ ys)) → x ≡ y
  same_first x xs y ys up_x up_y same = grind (arith, common_steps, turn, below_all, absent, present)

  -- two rising lists with the same members are one
  pub same_members : (xs ys : List K) → Rises xs → Rises ys → ((q : K) → is_member q xs ≡ is_member q ys) → xs ≡ ys
  same_members [] [] up_x up_y same = refl
  same_members [] (y ∷ ys) up_x up_y same = let clash : false ≡ true = same y ∙ present y ys in cc
  same_members (x ∷ xs) [] up_x up_y same = let clash : true ≡ false = sym (present x xs) ∙ same x in cc
  same_members (x ∷ xs) (y ∷ ys) up_x up_y same =
      grind (arith, common_steps, is_equal, absent, same_first, same_members xs ys up_x.1 up_y.1)

  -- lists with the same members are one in order
  pub in_order-same : (xs ys : List K) → ((q : K) → is_member q xs ≡ is_member q ys) → in_order cmp xs ≡ in_order cmp ys
  in_order-same xs ys same = grind (arith, common_steps, in_order-Rises, member-in_order, same_members)
