-- Items in parts of one size, each of which stands for its items: one read, and one put.
use Rattle.std.proofs.Common.{◌≡◌, ℕ, ◌<◌, ◌≤◌, List, [], ◌∷◌, ◌++◌, length, get_or, sym, ap, ◌∙◌, subst, arith}
use Rattle.std.proofs.Math.ListN.{set}
use Rattle.std.proofs.Math.Seq.{map-set_same}
use Rattle.std.proofs.lemmas.List.{get_or-map, length-map, map-set, map-append}
use Rattle.std.specs.Arc.{arc_value}
use Rattle.std.specs.List.{AllZip}
use Rattle.std.specs.Result.{MatchResult}
use Rattle.std.specs.declared.result.Result.{Result}
use Rattle.std.specs.declared.result.Result.TheVariants.{Ok, Err}
use Rattle.std.specs.declared.sync.Arc.{Arc}
use Rattle.shared_pages.specs.Pages.{AreChunks, AreParts, IsPlace, items_of, joined, with_item}
use Rattle.shared_pages.proofs.Cloning.{clones_same}
use Rattle.shared_pages.proofs.Chunks.{ArePut, IsRead, read_chunk, put_chunk, push_chunk}

module _ {X P Z : Type 0} {items : P → List X} {size : ℕ} {parts : List (Arc P Z)} {list : List X}
    (are : AreParts items size parts) (view_is : joined (items_of items parts) ≡ list) where
  abbrev in_part : Arc P Z → List X
  in_part part = items (arc_value {X = P} part)

  count : length (items_of items parts) ≡ length parts
  count = length-map parts in_part

  -- parts that stand for the same items
  same_parts : {next : List (Arc P Z)} → items_of items next ≡ items_of items parts
      → AreParts items size next × (joined (items_of items next) ≡ list)
  same_parts same = (record { chunks = subst (AreChunks size) (sym same) are.chunks }, ap joined same ∙ view_is)

  pub cloned : {next : List (Arc P Z)} → AllZip (λ x y. arc_value {X = P} y ≡ arc_value x) parts next
      → AreParts items size next × (joined (items_of items next) ≡ list)
  cloned {next} clones = same_parts (clones_same in_part _ parts next (λ x y same. ap items same) clones)

  module _ {at : ℕ} {place : ℕ × ℕ} (is : IsPlace size at place) where
    chunk_is : (part : Arc P Z) → place.0 < length parts → part ≡ get_or parts place.0 part
        → get_or (items_of items parts) place.0 [] ≡ in_part part
    chunk_is part lt part_is = get_or-map in_part parts place.0 part [] lt ∙ ap in_part (sym part_is)

    -- an item is in a part, which is read first
    module _ (within : at < length list) where
      read : IsRead size (items_of items parts) at place.0 place.1
      read = read_chunk size (items_of items parts) at place.0 place.1 are.chunks is.sum is.within
          (subst (λ all. at < length all) (sym view_is) within)

      pub part_lt : place.0 < length parts
      part_lt = omega (arith, read.chunk, count)

      module _ {part : Arc P Z} {own : P}
          (part_is : part ≡ get_or parts place.0 part) (own_is : own ≡ arc_value part) where
        own_items : get_or (items_of items parts) place.0 [] ≡ items own
        own_items = chunk_is part part_lt part_is ∙ ap items (sym own_is)

        pub item_lt : place.1 < length (items own)
        item_lt = subst (λ chunk. place.1 < length chunk) own_items read.item

        pub item_is : (d : X) → get_or (items own) place.1 d ≡ get_or list at d
        item_is d = ap (λ chunk. get_or chunk place.1 d) (sym own_items) ∙ sym (read.is d)
            ∙ ap (λ all. get_or all at d) view_is

    module _ (item : X) (within : at ≤ length list) where
      inside : at ≤ length (joined (items_of items parts))
      inside = subst (λ all. at ≤ length all) (sym view_is) within

      -- the parts with an item at its place
      put_is : {next : List (Arc P Z)} → ArePut size (items_of items parts) at item (items_of items next)
          → AreParts items size next × (joined (items_of items next) ≡ with_item at item list)
      put_is put = (record { chunks = put.kept }, put.items ∙ ap (with_item at item) view_is)

      -- an item is put into its part
      module _ {part : Arc P Z} (lt : place.0 < length parts) (part_is : part ≡ get_or parts place.0 part) where
        put : (place.1 ≤ length (get_or (items_of items parts) place.0 [])) × ArePut size (items_of items parts) at item
            (set (items_of items parts) place.0 (with_item place.1 item (get_or (items_of items parts) place.0 [])))
        put = put_chunk size (items_of items parts) at place.0 place.1 item are.chunks is.sum is.within inside
            (omega (arith, lt, count))

        pub in_part_le : place.1 ≤ length (in_part part)
        in_part_le = subst (λ chunk. place.1 ≤ length chunk) (chunk_is part lt part_is) put.0

        pub put_part : {T E : Type 0} (next : Arc P Z) (r : Result T E)
            → MatchResult r (λ _. in_part next ≡ with_item place.1 item (in_part part))
            (λ _. in_part next ≡ in_part part)
            → AreParts items size (set parts place.0 next)
            × MatchResult r (λ _. joined (items_of items (set parts place.0 next)) ≡ with_item at item list)
            (λ _. joined (items_of items (set parts place.0 next)) ≡ list)
        put_part next (Ok _) done = put_is (subst (ArePut size (items_of items parts) at item)
            (sym (map-set in_part parts place.0 next ∙ ap (set (items_of items parts) place.0)
            (done ∙ ap (with_item place.1 item) (sym (chunk_is part lt part_is))))) put.1)
        put_part next (Err _) same =
            same_parts (map-set_same in_part parts place.0 next part (same ∙ ap in_part part_is))

      -- an item is put into a new part
      pub push_part : (part : Arc P Z) → length parts ≤ place.0 → in_part part ≡ item ∷ []
          → AreParts items size (parts ++ part ∷ [])
          × (joined (items_of items (parts ++ part ∷ [])) ≡ with_item at item list)
      push_part part past part_is = put_is (subst (ArePut size (items_of items parts) at item)
          (sym (map-append in_part parts (part ∷ []) ∙ ap (λ chunk. items_of items parts ++ chunk ∷ []) part_is))
          (push_chunk size (items_of items parts) at place.0 place.1 item are.chunks is.sum is.within inside
          (omega (arith, past, count))))
