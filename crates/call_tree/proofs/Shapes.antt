-- The stacks and rows of the nodes, when a node is added or written.
use Rattle.std.proofs.lemmas.Grind.{common_steps}
use Rattle.std.proofs.Common.{◌≡◌, ℕ, zero, suc, ◌+◌, ◌<◌, List, [], ◌∷◌, ◌++◌, length, map, get_or, refl, ap, ◌∙◌}
use Rattle.std.proofs.Common.{subst, arith, length-append}
use Rattle.std.proofs.Math.ListN.{set}
use Rattle.std.proofs.Math.Seq.{map-set_same}
use Rattle.std.proofs.lemmas.List.{get_or_append_left, get_or_push, map_push, same_from_push}
use Rattle.profile_rows.specs.declared.weighted_stacks.WeightedStack.{WeightedStack}
use Rattle.profile_rows.specs.Merging.{row_at}
use Rattle.call_tree.specs.declared.node.Node.{Node}
use Rattle.call_tree.specs.State.{name_at, stack_at, IsState}
use Rattle.call_tree.specs.Shape.{Link, link_of, no_node, next_stack, stacks_from, stacks_of, rows_with, node_rows, at}
use Rattle.call_tree.specs.Shape.{IsTree}

pub length-stacks_from : (names : List (List ℕ)) (before : List (List (List ℕ))) (links : List Link)
    → length (stacks_from names before links) ≡ length before + length links
length-stacks_from names before [] = omega arith
length-stacks_from names before (link ∷ links) =
    grind (arith, length-append, length-stacks_from names (before ++ next_stack names before link ∷ []) links)

pub length-map_link : (nodes : List Node) → length (map link_of nodes) ≡ length nodes
length-map_link [] = refl
length-map_link (node ∷ nodes) = let rest = length-map_link nodes in omega (arith, rest)

pub length-stacks_of : (names : List (List ℕ)) (nodes : List Node) → length (stacks_of names nodes) ≡ length nodes
length-stacks_of names nodes = grind (arith, common_steps, length-stacks_from, length-map_link)

pub stacks_from-kept : (names : List (List ℕ))
    (before : List (List (List ℕ))) (links : List Link) (k : ℕ) (d : List (List ℕ))
    → k < length before → get_or (stacks_from names before links) k d ≡ get_or before k d
stacks_from-kept names before [] k d h = refl
stacks_from-kept names before (link ∷ links) k d h =
    let push = length-append before (next_stack names before link ∷ []) in
    stacks_from-kept names (before ++ next_stack names before link ∷ []) links k d (omega (arith, push))
    ∙ get_or_append_left before (next_stack names before link ∷ []) d k h

pub stacks_from-push : (names : List (List ℕ)) (before : List (List (List ℕ))) (links : List Link) (link : Link)
    → stacks_from names before (links ++ link ∷ [])
    ≡ stacks_from names before links ++ next_stack names (stacks_from names before links) link ∷ []
stacks_from-push names before [] link = refl
stacks_from-push names before (first ∷ links) link =
    stacks_from-push names (before ++ next_stack names before first ∷ []) links link

pub stacks_of-push : (names : List (List ℕ)) (nodes : List Node) (node : Node)
    → stacks_of names (nodes ++ node ∷ [])
    ≡ stacks_of names nodes ++ next_stack names (stacks_of names nodes) (link_of node) ∷ []
stacks_of-push names nodes node = ap (stacks_from names []) (map_push link_of nodes node)
    ∙ stacks_from-push names [] (map link_of nodes) (link_of node)

pub stacks_of-set : (names : List (List ℕ)) (nodes : List Node) (k : ℕ) (node : Node)
    → link_of node ≡ link_of (at nodes k)
    → stacks_of names (set nodes k node) ≡ stacks_of names nodes
stacks_of-set names nodes k node e = ap (stacks_from names []) (map-set_same link_of nodes k node no_node e)

-- ---- rows

abbrev pub row_with : List (List ℕ) → Node → WeightedStack
row_with stack node = record { stack = stack; weight = node.own }

pub length-rows_with : (stacks : List (List (List ℕ))) (nodes : List Node)
    → length stacks ≡ length nodes → length (rows_with stacks nodes) ≡ length nodes
length-rows_with [] [] e = refl
length-rows_with [] (node ∷ nodes) e = absurd (omega arith)
length-rows_with (stack ∷ stacks) [] e = absurd (omega arith)
length-rows_with (stack ∷ stacks) (node ∷ nodes) e =
    let rest = length-rows_with stacks nodes (omega arith) in omega (arith, rest)

pub length-node_rows : (names : List (List ℕ)) (nodes : List Node) → length (node_rows names nodes) ≡ length nodes
length-node_rows names nodes = length-rows_with (stacks_of names nodes) nodes (length-stacks_of names nodes)

pub row_at-rows_with : (stacks : List (List (List ℕ))) (nodes : List Node) (k : ℕ) → length stacks ≡ length nodes
    → row_at (rows_with stacks nodes) k ≡ row_with (get_or stacks k []) (at nodes k)
row_at-rows_with [] [] k e = refl
row_at-rows_with [] (node ∷ nodes) k e = absurd (omega arith)
row_at-rows_with (stack ∷ stacks) [] k e = absurd (omega arith)
row_at-rows_with (stack ∷ stacks) (node ∷ nodes) zero e = refl
row_at-rows_with (stack ∷ stacks) (node ∷ nodes) (suc k) e = row_at-rows_with stacks nodes k (omega arith)

pub row_at-node_rows : (names : List (List ℕ)) (nodes : List Node) (k : ℕ)
    → row_at (node_rows names nodes) k ≡ row_with (get_or (stacks_of names nodes) k []) (at nodes k)
row_at-node_rows names nodes k = row_at-rows_with (stacks_of names nodes) nodes k (length-stacks_of names nodes)

pub rows_with-push : (stacks : List (List (List ℕ))) (nodes : List Node) (stack : List (List ℕ)) (node : Node)
    → length stacks ≡ length nodes
    → rows_with (stacks ++ stack ∷ []) (nodes ++ node ∷ []) ≡ rows_with stacks nodes ++ row_with stack node ∷ []
rows_with-push [] [] stack node e = refl
rows_with-push [] (n ∷ nodes) stack node e = absurd (omega arith)
rows_with-push (s ∷ stacks) [] stack node e = absurd (omega arith)
rows_with-push (s ∷ stacks) (n ∷ nodes) stack node e =
    ap (λ rest. row_with s n ∷ rest) (rows_with-push stacks nodes stack node (omega arith))

pub node_rows-push : (names : List (List ℕ)) (nodes : List Node) (node : Node)
    → node_rows names (nodes ++ node ∷ [])
    ≡ node_rows names nodes ++ row_with (next_stack names (stacks_of names nodes) (link_of node)) node ∷ []
node_rows-push names nodes node = grind (arith, common_steps, length-stacks_of, stacks_of-push, rows_with-push)

pub rows_with-set : (stacks : List (List (List ℕ))) (nodes : List Node) (k : ℕ) (node : Node)
    → length stacks ≡ length nodes
    → rows_with stacks (set nodes k node) ≡ set (rows_with stacks nodes) k (row_with (get_or stacks k []) node)
rows_with-set [] [] k node e = refl
rows_with-set [] (n ∷ nodes) k node e = absurd (omega arith)
rows_with-set (s ∷ stacks) [] k node e = absurd (omega arith)
rows_with-set (s ∷ stacks) (n ∷ nodes) zero node e = refl
rows_with-set (s ∷ stacks) (n ∷ nodes) (suc k) node e =
    ap (λ rest. row_with s n ∷ rest) (rows_with-set stacks nodes k node (omega arith))

pub node_rows-set : (names : List (List ℕ)) (nodes : List Node) (k : ℕ) (node : Node)
    → link_of node ≡ link_of (at nodes k)
    → node_rows names (set nodes k node)
    ≡ set (node_rows names nodes) k (row_with (get_or (stacks_of names nodes) k []) node)
node_rows-set names nodes k node e = grind (arith, common_steps, set, length-stacks_of, stacks_of-set, rows_with-set)

-- ---- a node's stack is its parent's with its name

stack_step : (names : List (List ℕ)) (before : List (List (List ℕ))) (links : List Link) (k j : ℕ) (d : Link)
    → length before + j ≡ k → 0 < k → j < length links → (get_or links j d).parent < k
    → get_or (stacks_from names before links) k [] ≡ get_or
    (stacks_from names before links) (get_or links j d).parent [] ++ name_at names (get_or links j d).name ∷ []
stack_step names before [] k j d e pos lt low = absurd (omega arith)
stack_step names before (link ∷ links) k (suc j) d e pos lt low =
    grind (arith, length-append, stack_step names (before ++ next_stack names before link ∷ []) links k j d)
stack_step names [] (link ∷ links) k zero d e pos lt low = absurd (omega arith)
stack_step names (s ∷ ss) (link ∷ links) k zero d e pos lt low =
    grind (arith, common_steps, length-append, get_or_append_left, get_or_push, stacks_from-kept)

pub get_or-links : (nodes : List Node) (k : ℕ) → get_or (map link_of nodes) k (link_of no_node) ≡ link_of (at nodes k)
get_or-links [] k = refl
get_or-links (node ∷ nodes) zero = refl
get_or-links (node ∷ nodes) (suc k) = get_or-links nodes k

pub stack_of_child : (names : List (List ℕ)) (nodes : List Node) (k : ℕ)
    → 0 < k → k < length nodes → (at nodes k).parent < k
    → get_or (stacks_of names nodes) k []
    ≡ get_or (stacks_of names nodes) (at nodes k).parent [] ++ name_at names (at nodes k).name ∷ []
stack_of_child names nodes k pos lt low =
    let same = get_or-links nodes k in
    let size = length-map_link nodes in
    let P : Link → Type 0 = λ link. link.parent < k → get_or (stacks_of names nodes) k []
    ≡ get_or (stacks_of names nodes) link.parent [] ++ name_at names link.name ∷ [] in
    subst P same (λ l. stack_step names []
    (map link_of nodes) k k (link_of no_node) (omega arith) pos (omega (arith, size)) l) low

pub stack_at-child : (names : List (List ℕ)) (nodes : List Node) (k : ℕ)
    → 0 < k → k < length nodes → (at nodes k).parent < k
    → stack_at (node_rows names nodes) k
    ≡ stack_at (node_rows names nodes) (at nodes k).parent ++ name_at names (at nodes k).name ∷ []
stack_at-child names nodes k pos lt low = grind (arith, common_steps, row_at-node_rows, stack_of_child)

root_stack : (names : List (List ℕ)) (links : List Link) → get_or (stacks_from names [] links) 0 [] ≡ []
root_stack names [] = refl
root_stack names (link ∷ links) = stacks_from-kept names ([] ∷ []) links 0 [] (omega arith)

pub stack_at-root : (names : List (List ℕ)) (nodes : List Node) → stack_at (node_rows names nodes) 0 ≡ []
stack_at-root names nodes = ap (λ row. row.stack) (row_at-node_rows names nodes 0)
    ∙ root_stack names (map link_of nodes)

-- ---- what contracts know

push_apart : (stack : List (List ℕ)) (name : List ℕ) → [] ≡ stack ++ name ∷ [] → ⊥
push_apart [] name e = cc
push_apart (x ∷ xs) name e = cc

pub IsState-tree : (names : List (List ℕ)) (nodes : List Node)
    → IsTree names nodes → IsState (record { names = names; nodes = node_rows names nodes })
IsState-tree names nodes tree =
    grind (arith, common_steps, same_from_push, length-node_rows, stack_at-child, stack_at-root, push_apart)
