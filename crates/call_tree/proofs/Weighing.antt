-- Nodes with the weights of a table.
use Rattle.std.proofs.lemmas.Grind.{common_steps}
use Rattle.std.proofs.Common.{◌≡◌, ℕ, zero, suc, ◌+◌, ◌<◌, List, [], ◌∷◌, ◌++◌, length, map, get_or, refl, sym, ap, ◌∙◌}
use Rattle.std.proofs.Common.{false, subst, arith, ⊎_elim}
use Rattle.std.proofs.Math.ListN.{set}
use Rattle.std.proofs.Math.Seq.{map-set_same}
use Rattle.std.proofs.lemmas.List.{get_or-map, get_or_read, length-map, map-set, get_or-set_same, get_or-set_other}
use Rattle.std.proofs.lemmas.List.{length-set, length_push}
use Rattle.std.proofs.lemmas.Bool.{cases_eq}
use Rattle.call_tree.specs.declared.node.Link.{Link}
use Rattle.call_tree.specs.declared.node.Node.{Node}
use Rattle.call_tree.specs.Shape.{at}
use Rattle.call_tree.specs.Nodes.{linked, with_weight, without_weight, weighed, nodes_of, AreTables, AreSameTables}
use Rattle.call_tree.specs.Nodes.{AreAlike}

pub length-weighed : (links : List Link) (table : List ℕ) → length (weighed links table) ≡ length links
length-weighed [] table = refl
length-weighed (l ∷ links) [] = ap (λ k. suc k) (length-weighed links [])
length-weighed (l ∷ links) (w ∷ table) = ap (λ k. suc k) (length-weighed links table)

pub at-weighed : (links : List Link) (table : List ℕ) (k : ℕ) (link : Link) → k < length links
    → at (weighed links table) k ≡ linked (get_or links k link) (get_or table k 0)
at-weighed [] table k link lt = absurd (omega arith)
at-weighed (l ∷ links) [] zero link lt = refl
at-weighed (l ∷ links) [] (suc k) link lt = at-weighed links [] k link (omega arith)
at-weighed (l ∷ links) (w ∷ table) zero link lt = refl
at-weighed (l ∷ links) (w ∷ table) (suc k) link lt = at-weighed links table k link (omega arith)

without-weighed : (links : List Link) (table : List ℕ)
    → map without_weight (weighed links table) ≡ weighed links []
without-weighed [] table = refl
without-weighed (l ∷ links) [] = ap (λ rest. linked l 0 ∷ rest) (without-weighed links [])
without-weighed (l ∷ links) (w ∷ table) = ap (λ rest. linked l 0 ∷ rest) (without-weighed links table)

weighed-longer : (links : List Link) (table : List ℕ) → weighed links (table ++ 0 ∷ []) ≡ weighed links table
weighed-longer [] table = refl
weighed-longer (l ∷ links) [] = refl
weighed-longer (l ∷ links) (w ∷ table) = ap (λ rest. linked l w ∷ rest) (weighed-longer links table)

weighed-push : (links : List Link) (table : List ℕ) (link : Link) → get_or table (length links) 0 ≡ 0
    → weighed (links ++ link ∷ []) table ≡ weighed links table ++ linked link 0 ∷ []
weighed-push [] [] link e = refl
weighed-push [] (w ∷ table) link e = ap (λ weight. linked link weight ∷ []) e
weighed-push (l ∷ links) [] link e = ap (λ rest. linked l 0 ∷ rest) (weighed-push links [] link refl)
weighed-push (l ∷ links) (w ∷ table) link e = ap (λ rest. linked l w ∷ rest) (weighed-push links table link e)

weighed-set : (links : List Link) (table : List ℕ) (k : ℕ) (weight : ℕ) → k < length links → k < length table
    → weighed links (set table k weight) ≡ set (weighed links table) k (with_weight (at (weighed links table) k) weight)
weighed-set [] table k weight lt long = absurd (omega arith)
weighed-set (l ∷ links) [] k weight lt long = absurd (omega arith)
weighed-set (l ∷ links) (w ∷ table) zero weight lt long = refl
weighed-set (l ∷ links) (w ∷ table) (suc k) weight lt long =
    ap (λ rest. linked l w ∷ rest) (weighed-set links table k weight (omega arith) (omega arith))

-- ---- by each value

abbrev pub all_of : List Link → List (List ℕ) → List (List Node)
all_of links tables = map (weighed links) tables

abbrev pub table_of : List (List ℕ) → ℕ → List ℕ
table_of tables value = get_or tables value []

nodes_of-all : (links : List Link) (tables : List (List ℕ)) (value : ℕ) → value < length tables
    → nodes_of (all_of links tables) value ≡ weighed links (table_of tables value)
nodes_of-all links tables value lt = get_or-map (weighed links) tables value [] [] lt

pub length-nodes_of : (links : List Link) (tables : List (List ℕ)) (value : ℕ) → value < length tables
    → length (nodes_of (all_of links tables) value) ≡ length links
length-nodes_of links tables value lt =
    ap length (nodes_of-all links tables value lt) ∙ length-weighed links (table_of tables value)

pub AreAlike-all : (links : List Link) (tables : List (List ℕ)) → 0 < length tables → AreAlike (all_of links tables)
AreAlike-all links tables some = grind (arith, common_steps, length-map, without-weighed, nodes_of-all)

AreTables-set : (size : ℕ) (tables : List (List ℕ)) (k slot : ℕ) (weights : ℕ) (next : List ℕ)
    → AreTables size tables
    → k < length tables
    → slot < size → next ≡ set (table_of tables k) slot weights → AreTables size (set tables k next)
AreTables-set size tables k slot weights next are lt within next_is =
    grind (arith, common_steps, set, get_or-set_same, get_or-set_other, length-set, cases_eq)

pub in_tables : (links : List Link) (tables : List (List ℕ)) (all : List (List Node)) → all_of links tables ≡ all
    → (value : ℕ) → value < length all → value < length tables
in_tables links tables all seen value lt = omega (arith, lt, ap length seen, length-map tables (weighed links))

-- a table in place of another shows in its value alone
pub others_put : (links : List Link) (tables : List (List ℕ)) (value other : ℕ) (next : List ℕ) → (other ≡ value → ⊥)
    → nodes_of (all_of links (set tables value next)) other ≡ nodes_of (all_of links tables) other
others_put links tables value other next ne = grind (arith, common_steps, map-set, get_or-set_other)

-- a place among the nodes of a value
module _ (links : List Link) (tables : List (List ℕ)) (all : List (List Node)) (seen : all_of links tables ≡ all)
    (value slot : ℕ) (value_lt : value < length tables) (slot_lt : slot < length (nodes_of all value)) where
  pub in_links : slot < length links
  in_links =
      omega (arith, slot_lt, ap (λ a. length (nodes_of a value)) seen, length-nodes_of links tables value value_lt)

  nodes_are : nodes_of all value ≡ weighed links (table_of tables value)
  nodes_are = ap (λ a. nodes_of a value) (sym seen) ∙ nodes_of-all links tables value value_lt

  pub node_is : (link : Link) → link ≡ get_or links slot link
      → at (nodes_of all value) slot ≡ linked link (get_or (table_of tables value) slot 0)
  node_is link link_is = grind (arith, common_steps, at-weighed, in_links, nodes_are)

  table_is : (table : List ℕ) → table ≡ get_or tables value table → table ≡ table_of tables value
  table_is table read = get_or_read tables value table value_lt read []

  -- a table has each node's weight, and more where need be
  module _ (are : AreTables (length links) tables) (table : List ℕ) (read : table ≡ get_or tables value table) where
    pub in_table : slot < length table
    in_table = let long = are.long value value_lt in omega (arith, in_links, long, ap length (table_is table read))

    pub weight_read : (weight : ℕ) → weight ≡ get_or table slot weight → weight ≡ get_or (table_of tables value) slot 0
    weight_read weight is =
        get_or_read table slot weight in_table is 0 ∙ ap (λ t. get_or t slot 0) (table_is table read)

    -- what a node weighs, as it is read
    pub own_read : (weight : ℕ) → weight ≡ get_or table slot weight → weight ≡ (at (nodes_of all value) slot).own
    own_read weight is = weight_read weight is ∙ sym (ap (λ nodes. (at nodes slot).own) nodes_are
        ∙ ap (λ node. node.own) (at-weighed links (table_of tables value) slot
        (record { parent = 0; name = 0; counts = false }) in_links))

    pub weight_put : (weight : ℕ) (next : List ℕ) → next ≡ set table slot weight
        → nodes_of (all_of links (set tables value next)) value
        ≡ set (nodes_of all value) slot (with_weight (at (nodes_of all value) slot) weight)
    weight_put weight next is =
        nodes_of-all links (set tables value next) value (omega (arith, length-set tables value next, value_lt))
        ∙ ap (weighed links) (get_or-set_same tables value next [] value_lt ∙ is
        ∙ ap (λ t. set t slot weight) (table_is table read))
        ∙ weighed-set links (table_of tables value) slot weight in_links
        (omega (arith, in_table, ap length (table_is table read)))
        ∙ ap (λ nodes. set nodes slot (with_weight (at nodes slot) weight)) (sym nodes_are)

    pub tables_put : (weight : ℕ) (next : List ℕ) → next ≡ set table slot weight
        → AreTables (length links) (set tables value next)
    tables_put weight next is = AreTables-set (length links) tables value slot weight next are value_lt in_links
        (is ∙ ap (λ t. set t slot weight) (table_is table read))

-- ---- one node more

pub pushed-all : (links next : List Link) (tables after : List (List ℕ)) (link : Link)
    → AreTables (length links) after → length after ≡ length tables
    → map (weighed links) after ≡ map (weighed links) tables → next ≡ links ++ link ∷ []
    → (value : ℕ) → value < length (all_of links tables)
    → nodes_of (all_of next after) value ≡ nodes_of (all_of links tables) value ++ linked link 0 ∷ []
pushed-all links next tables after link are count same next_is value lt =
    grind (arith, common_steps, length-map, weighed-push, nodes_of-all)

-- room for one node more in one table
pub record HaveRoom (size : ℕ) (before now : List (List ℕ)) (index : ℕ) : Type 0 where
  pub same : AreSameTables size before now
  pub longer : (k : ℕ) → k < index → size < length (table_of now k)

module _ (size : ℕ)
    (before now : List (List ℕ)) (index : ℕ) (room : HaveRoom size before now index) (lt : index < length now) where
  pub HaveRoom-had : size < length (table_of now index) → HaveRoom size before now (index + 1)
  HaveRoom-had has = record {
    same = room.same;
    longer = λ k h. ⊎_elim (λ e. subst (λ j. size < length (table_of now j)) (sym e) has)
        (λ ne. room.longer k (omega arith)) (cases_eq k index);
  }

  pub HaveRoom-made : (next : List (List ℕ)) (table : List ℕ)
      → length (table_of now index) ≡ size → table ≡ table_of now index ++ 0 ∷ []
      → next ≡ set now index table → HaveRoom size before next (index + 1)
  HaveRoom-made next table short table_is next_is =
      subst (λ tables. HaveRoom size before tables (index + 1)) (sym next_is) (record {
        same = record {
          count = length-set now index table ∙ room.same.count;
          same = λ links. map-set_same (weighed links) now index table []
              (ap (weighed links) table_is ∙ weighed-longer links (table_of now index)) ∙ room.same.same links;
          kept = record {
            long = λ j j_lt. ⊎_elim
                (λ e. let is = ap length (ap (table_of (set now index table)) e ∙ here) in omega (arith, is, size_here))
                (λ ne. let is = ap length (get_or-set_other now index j table [] ne) in omega
                (arith, is, room.same.kept.long j (omega (arith, j_lt, length-set now index table))))
                (cases_eq j index);
            empty = λ j node past. ⊎_elim
                (λ e. ap (λ i. get_or (table_of (set now index table) i) node 0) e ∙ ap (λ t. get_or t node 0)
                (here ∙ table_is) ∙ nothing (table_of now index) node (room.same.kept.empty index node past))
                (λ ne. ap (λ t. get_or t node 0) (get_or-set_other now index j table [] ne)
                ∙ room.same.kept.empty j node past)
                (cases_eq j index);
          };
        };
        longer = λ k h. ⊎_elim
            (λ e. let is = ap length (ap (table_of (set now index table)) e ∙ here) in omega (arith, is, size_here))
            (λ ne. let is =
            ap length (get_or-set_other now index k table [] ne) in omega (arith, is, room.longer k (omega arith)))
            (cases_eq k index);
      })
    where
      here : table_of (set now index table) index ≡ table
      here = get_or-set_same now index table [] lt

      size_here : length table ≡ size + 1
      size_here = ap length table_is ∙ length_push (table_of now index) 0 ∙ ap (λ n. n + 1) short

      nothing : (t : List ℕ) (node : ℕ) → get_or t node 0 ≡ 0 → get_or (t ++ 0 ∷ []) node 0 ≡ 0
      nothing [] zero e = refl
      nothing [] (suc node) e = refl
      nothing (w ∷ t) zero e = e
      nothing (w ∷ t) (suc node) e = nothing t node e

-- empty tables serve no nodes
pub nodes_of-none : (links : List Link) (tables : List (List ℕ))
    → links ≡ [] → (value : ℕ) → nodes_of (all_of links tables) value ≡ []
nodes_of-none links tables none value = ap (λ ls. nodes_of (all_of ls tables) value) none ∙ nothing tables value
  where
    nothing : (tables : List (List ℕ)) (value : ℕ) → nodes_of (map (weighed []) tables) value ≡ []
    nothing [] value = refl
    nothing (t ∷ tables) zero = refl
    nothing (t ∷ tables) (suc value) = nothing tables value
