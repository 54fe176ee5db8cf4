-- The names on the way from a node to the root, turned round, are its stack.
use Rattle.std.proofs.lemmas.Grind.{common_steps}
use Rattle.std.proofs.Common.{arith, ◌≡◌, ℕ, ◌<◌, List, [], ◌∷◌, ◌++◌, length, map, reverse, refl, ap, ◌∙◌}
use Rattle.std.proofs.lemmas.List.{append_assoc, map-append, reverse-append}
use denote.Ref.{Bor}
use Rattle.call_tree.specs.declared.node.Node.{Node}
use Rattle.call_tree.specs.State.{stack_at}
use Rattle.call_tree.specs.Shape.{node_rows}
use Rattle.call_tree.proofs.Shapes.{stack_at-root}

pub turned_step : (names : List (List ℕ))
    (nodes : List Node) (start slot parent : ℕ) (before next : List (List ℕ)) (name : List ℕ) → parent < length nodes
    → stack_at (node_rows names nodes) start ≡ stack_at (node_rows names nodes) slot ++ reverse before
    → stack_at (node_rows names nodes) slot ≡ stack_at (node_rows names nodes) parent ++ name ∷ []
    → next ≡ before ++ name ∷ []
    → (parent < length nodes)
    × (stack_at (node_rows names nodes) start ≡ stack_at (node_rows names nodes) parent ++ reverse next)
turned_step names nodes start slot parent before next name lt whole child next_is =
    grind (arith, common_steps, append_assoc, reverse-append)

-- at the root nothing is left
pub turned : (names : List (List ℕ)) (nodes : List Node) (start slot : ℕ) (before : List (List ℕ)) → slot ≡ 0
    → stack_at (node_rows names nodes) start ≡ stack_at (node_rows names nodes) slot ++ reverse before
    → stack_at (node_rows names nodes) start ≡ reverse before
turned names nodes start slot before end whole = grind (arith, common_steps, stack_at-root)

-- ---- names that are lent

-- what the contract says of a reversed list of lent names
pub map-reverse : {X Y : Type 0} (f : X → Y) (xs : List X) → map f (reverse xs) ≡ reverse (map f xs)
map-reverse f [] = refl
map-reverse f (x ∷ xs) = grind (arith, common_steps, map-append, reverse-append, map-reverse f xs)

-- one name more
pub turned_names : (before next : List (Bor (List ℕ))) (name : Bor (List ℕ)) → next ≡ before ++ name ∷ []
    → map (λ (name : Bor (List ℕ)). name.now) next ≡ map (λ (name : Bor (List ℕ)). name.now) before ++ name.now ∷ []
turned_names before next name next_is = ap (map (λ (name : Bor (List ℕ)). name.now)) next_is
    ∙ map-append (λ (name : Bor (List ℕ)). name.now) before (name ∷ [])
