-- Lists of bytes that spell things one after the other: numbers, or fields.
use Rattle.std.specs.Prelude.{◌≡◌, ◌≤◌, ℕ, List, [], ◌∷◌, ◌++◌, take, length}

-- The item is spelled at the front, in so many bytes.
pub record IsAtFront {A : Type 0} (Spells : List ℕ → A → Type 0) (bytes : List ℕ) (len : ℕ) (item : A) : Type 0 where
  pub within : len ≤ length bytes
  pub spelled : Spells (take len bytes) item

-- The bytes are the spellings of the items, one after the other.
abbrev pub AreSpelled : {A : Type 0} → (List ℕ → A → Type 0) → List ℕ → List A → Type 0
AreSpelled Spells bytes [] = bytes ≡ []
AreSpelled Spells bytes (item ∷ items) =
    (front : List ℕ) × (after : List ℕ) × (bytes ≡ front ++ after)
    × Spells front item × AreSpelled Spells after items

-- No item's spelling stands at the front.
abbrev pub BeginsWithNone : {A : Type 0} → (List ℕ → A → Type 0) → List ℕ → Type 0
BeginsWithNone {A = A} Spells bytes =
    (front rest : List ℕ) → (item : A) → bytes ≡ front ++ rest → Spells front item → ⊥

-- The bytes are whole items, and then a rest that begins with no whole item.
pub record SplitsInto {A : Type 0} (Spells : List ℕ → A → Type 0) (bytes : List ℕ) (items : List A)
    (rest : List ℕ) : Type 0 where
  pub front : List ℕ
  pub parts : bytes ≡ front ++ rest
  pub listed : AreSpelled Spells front items
  pub ends : BeginsWithNone Spells rest
