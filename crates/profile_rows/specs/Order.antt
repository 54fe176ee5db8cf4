-- The members of a list in an order, each once.
use Rattle.std.specs.Prelude.{List, [], ◌∷◌}
use Rattle.std.specs.declared.cmp.Ordering.{Ordering}
use Rattle.std.specs.Ordering.{match_ordering}

module _ {K : Type 0} (cmp : K → K → Ordering) where
  -- a list that rises, with x in its place; where x stands already, nothing changes
  abbrev pub with_member : K → List K → List K
  with_member x [] = x ∷ []
  with_member x (y ∷ ys) = match_ordering (cmp x y) (x ∷ y ∷ ys) (y ∷ ys) (y ∷ with_member x ys)

  abbrev pub in_order : List K → List K
  in_order [] = []
  in_order (x ∷ xs) = with_member x (in_order xs)
