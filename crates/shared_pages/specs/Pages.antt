-- Items in parts of one size.
use Rattle.std.specs.Prelude.{ℕ, ◌≡◌, ◌<◌, ◌≤◌, ◌+◌, ◌*◌, List, [], ◌∷◌, ◌++◌, length, map, flat_map, nat_lt}
use Rattle.std.specs.Prelude.{slice_set, if◌then◌else◌, Option, Some, None}
use Rattle.std.specs.Arc.{arc_value}
use Rattle.std.specs.declared.sync.Arc.{Arc}

module _ {X : Type 0} where
  -- the items of all chunks, in order
  abbrev pub joined : List (List X) → List X
  joined chunks = flat_map (λ chunk. chunk) chunks

  -- the list with an item at a place: in place of the one there, or after the last
  abbrev pub with_item : ℕ → X → List X → List X
  with_item at item list = if nat_lt at (length list) then slice_set list at item else list ++ item ∷ []

  -- no chunk is longer than the size, and one that items come after is full
  abbrev pub AreChunks : ℕ → List (List X) → Type 0
  AreChunks size [] = Unit {0}
  AreChunks size (chunk ∷ chunks) =
      (length chunk ≤ size) × (0 < length (joined chunks) → length chunk ≡ size) × AreChunks size chunks

  -- a list, of which some items stand on shelves, perhaps before others that don't count, and the last ones, 64 at
  -- most, after them
  pub record IsInPages (shelves : List X) (shelved : ℕ) (last : List X) (len : ℕ) : Type 0 where
    pub within : shelved ≤ length shelves
    pub count : len ≡ shelved + length last
    pub few : length last ≤ 64

  -- the items of the page that there may be
  abbrev pub last_items : {Z : Type 0} → Option (Arc (List X) Z) → List X
  last_items (Some page) = arc_value {X = List X} page
  last_items None = []

module _ {X P Z : Type 0} (items : P → List X) where
  -- the items of each part
  abbrev pub items_of : List (Arc P Z) → List (List X)
  items_of parts = map (λ part. items (arc_value {X = P} part)) parts

  -- parts of one size
  pub record AreParts (size : ℕ) (parts : List (Arc P Z)) : Type 0 where
    pub chunks : AreChunks size (items_of parts)

-- the part of one size that an item is in, and its place there
pub record IsPlace (size at : ℕ) (place : ℕ × ℕ) : Type 0 where
  pub sum : at ≡ place.0 * size + place.1
  pub within : place.1 < size
