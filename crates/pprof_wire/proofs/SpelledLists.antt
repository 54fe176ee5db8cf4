-- Laws of lists of bytes that spell things one after the other.
use Rattle.std.proofs.lemmas.Grind.{common_steps}
use Rattle.std.proofs.Common.{◌≡◌, ℕ, zero, suc, ◌<◌, ◌≤◌, ◌⊎◌, inl, inr, List, [], ◌∷◌, ◌++◌, length, length-append}
use Rattle.std.proofs.Common.{length-drop, drop, take, refl, sym, ap, ◌∙◌, arith, subst, append_assoc}
use Rattle.std.proofs.lemmas.List.{append-nil, length-take-le, take-append-drop}
use Rattle.pprof_wire.specs.SpelledLists.{AreSpelled, BeginsWithNone, IsAtFront, SplitsInto}

pub one_spelled : {A : Type 0} (Spells : List ℕ → A → Type 0) (bytes : List ℕ) (item : A)
    → Spells bytes item → AreSpelled Spells bytes (item ∷ [])
one_spelled Spells bytes item spelled = (bytes, [], sym (append-nil bytes), spelled, refl)

pub spelled_joined : {A : Type 0} (Spells : List ℕ → A → Type 0) (a b : List ℕ) (xs ys : List A)
    → AreSpelled Spells a xs → AreSpelled Spells b ys → AreSpelled Spells (a ++ b) (xs ++ ys)
spelled_joined Spells a b [] ys left right =
    subst (λ (bytes : List ℕ). AreSpelled Spells (bytes ++ b) ys) (sym left) right
spelled_joined Spells a b (x ∷ xs) ys (front, after, parts, spelled, others) right =
    grind (arith, common_steps, spelled_joined Spells after b xs ys others right)

-- no item's spelling begins another, and it has one item
abbrev pub IsSpelledOnce : {A : Type 0} → (List ℕ → A → Type 0) → Type 0
IsSpelledOnce {A = A} Spells = (a b x y : List ℕ) (m n : A)
    → Spells a m → Spells b n → a ++ x ≡ b ++ y → (a ≡ b) × (x ≡ y) × (m ≡ n)

-- what was read at the front is what is spelled there
pub read_once : {A : Type 0} (Spells : List ℕ → A → Type 0) → IsSpelledOnce Spells
    → (bytes spelling rest : List ℕ) (len : ℕ) (read item : A) → IsAtFront Spells bytes len read
    → bytes ≡ spelling ++ rest → Spells spelling item
    → (read ≡ item) × (len ≡ length spelling) × (drop len bytes ≡ rest)
read_once Spells once bytes spelling rest len read item found same spelled =
    let all = once (take len bytes) spelling (drop len bytes) rest read item found.spelled spelled
    (take-append-drop len bytes ∙ same) in
    (all.2, sym (length-take-le len bytes found.within) ∙ ap length all.0, all.1)

pub not_at_front : {A : Type 0} (Spells : List ℕ → A → Type 0) (bytes : List ℕ) (len : ℕ) (item : A)
    → BeginsWithNone Spells bytes → IsAtFront Spells bytes len item → ⊥
not_at_front Spells bytes len item none found =
    none (take len bytes) (drop len bytes) item (sym (take-append-drop len bytes)) found.spelled

listed_once : {A : Type 0} (Spells : List ℕ → A → Type 0) → IsSpelledOnce Spells → (a b r s : List ℕ) (xs ys : List A)
    → AreSpelled Spells a xs → AreSpelled Spells b ys → BeginsWithNone Spells r → BeginsWithNone Spells s
    → a ++ r ≡ b ++ s → (xs ≡ ys) × (r ≡ s)
listed_once Spells once a b r s [] [] left right ends stops same =
    (refl, ap (λ (bytes : List ℕ). bytes ++ r) (sym left) ∙ same ∙ ap (λ (bytes : List ℕ). bytes ++ s) right)
listed_once Spells once a b r s [] (y ∷ ys) left (front, after, parts, spelled, others) ends stops same =
    grind (arith, common_steps)
listed_once Spells once a b r s (x ∷ xs) [] (front, after, parts, spelled, others) right ends stops same =
    grind (arith, common_steps)
listed_once {A = A} Spells once a b r s
    (x ∷ xs) (y ∷ ys) (front, after, parts, spelled, others) (first, next, pieces, written, more) ends stops same =
    let whole : front ++ (after ++ r) ≡ first ++ (next ++ s) =
    sym (append_assoc front after r) ∙ ap (λ (bytes : List ℕ). bytes ++ r) (sym parts)
    ∙ same ∙ ap (λ (bytes : List ℕ). bytes ++ s) pieces ∙ append_assoc first next s in
    let here = once front first (after ++ r) (next ++ s) x y spelled written whole in
    let rest = listed_once Spells once after next r s xs ys others more ends stops here.1 in
    (ap (λ (z : A). z ∷ xs) here.2 ∙ ap (λ (zs : List A). y ∷ zs) rest.0, rest.1)

pub split_once : {A : Type 0} (Spells : List ℕ → A → Type 0) → IsSpelledOnce Spells
    → (bytes r s : List ℕ) (xs ys : List A)
    → SplitsInto Spells bytes xs r → SplitsInto Spells bytes ys s → (xs ≡ ys) × (r ≡ s)
split_once Spells once bytes r s xs ys left right = grind (arith, common_steps, listed_once)

-- ---- each list of bytes

-- no spelling is empty
abbrev pub IsNeverEmpty : {A : Type 0} → (List ℕ → A → Type 0) → Type 0
IsNeverEmpty {A = A} Spells = (bytes : List ℕ) (item : A) → Spells bytes item → 0 < length bytes

pub none_in_nil : {A : Type 0} (Spells : List ℕ → A → Type 0) → IsNeverEmpty Spells → BeginsWithNone Spells []
none_in_nil Spells some = λ front rest item same spelled.
    absurd (omega (arith, ap length same, length-append front rest, some front item spelled))

pub split_at_the_end : {A : Type 0} (Spells : List ℕ → A → Type 0) → IsNeverEmpty Spells → (bytes : List ℕ)
    (items : List A) → AreSpelled Spells bytes items → SplitsInto Spells bytes items []
split_at_the_end Spells some bytes items listed =
    record { front = bytes; parts = sym (append-nil bytes); listed = listed; ends = none_in_nil Spells some }

-- an item's spelling stands at the front
pub record BeginsWith {A : Type 0} (Spells : List ℕ → A → Type 0) (bytes : List ℕ) : Type 0 where
  pub item : A
  pub len : ℕ
  pub at : IsAtFront Spells bytes len item

-- what the bytes split into, where the rest is empty or has this fault
pub record Split {A : Type 0} (Spells : List ℕ → A → Type 0) (Fault : List ℕ → Type 0)
    (bytes : List ℕ) : Type 0 where
  pub items : List A
  pub rest : List ℕ
  pub split : SplitsInto Spells bytes items rest
  pub ends : (rest ≡ []) ⊎ Fault rest

one_more : {A : Type 0} (Spells : List ℕ → A → Type 0) (Fault : List ℕ → Type 0) (bytes : List ℕ)
    (first : BeginsWith Spells bytes) → Split Spells Fault (drop first.len bytes) → Split Spells Fault bytes
one_more Spells Fault bytes first others = record {
  items = first.item ∷ others.items;
  rest = others.rest;
  split = record {
    front = take first.len bytes ++ others.split.front;
    parts = sym (take-append-drop first.len bytes)
        ∙ ap (λ (rest : List ℕ). take first.len bytes ++ rest) others.split.parts
        ∙ sym (append_assoc (take first.len bytes) others.split.front others.rest);
    listed = (take first.len bytes, others.split.front, refl, first.at.spelled, others.split.listed);
    ends = others.split.ends;
  };
  ends = others.ends;
}

split_within : {A : Type 0} (Spells : List ℕ → A → Type 0) (Fault : List ℕ → Type 0) → IsNeverEmpty Spells
    → ((bytes : List ℕ) → Fault bytes → BeginsWithNone Spells bytes)
    → ((bytes : List ℕ) → 0 < length bytes → BeginsWith Spells bytes ⊎ Fault bytes)
    → (fuel : ℕ) (bytes : List ℕ) → length bytes ≤ fuel → Split Spells Fault bytes
split_within Spells Fault some none front fuel [] short =
    record { items = []; rest = []; split = split_at_the_end Spells some [] [] refl; ends = inl refl }
split_within Spells Fault some none front zero (byte ∷ bytes) short = absurd (omega arith)
split_within Spells Fault some none front (suc fuel) (byte ∷ bytes) short =
    elim (front (byte ∷ bytes) (omega arith)) [
      | inl first ↦ one_more Spells Fault (byte ∷ bytes) first
          (split_within Spells Fault some none front fuel (drop first.len (byte ∷ bytes)) (omega (
            arith,
            length-drop first.len (byte ∷ bytes),
            length-take-le first.len (byte ∷ bytes) first.at.within,
            some (take first.len (byte ∷ bytes)) first.item first.at.spelled,
          )))
      | inr wrong ↦ record {
        items = [];
        rest = byte ∷ bytes;
        split = record { front = []; parts = refl; listed = refl; ends = none (byte ∷ bytes) wrong };
        ends = inr wrong;
      }
    ]

pub each_list_splits : {A : Type 0} (Spells : List ℕ → A → Type 0) (Fault : List ℕ → Type 0) → IsNeverEmpty Spells
    → ((bytes : List ℕ) → Fault bytes → BeginsWithNone Spells bytes)
    → ((bytes : List ℕ) → 0 < length bytes → BeginsWith Spells bytes ⊎ Fault bytes)
    → (bytes : List ℕ) → (items : List A) × (rest : List ℕ)
    × SplitsInto Spells bytes items rest × ((rest ≡ []) ⊎ Fault rest)
each_list_splits Spells Fault some none front bytes =
    let all = split_within Spells Fault some none front (length bytes) bytes (omega arith) in
    (all.items, all.rest, all.split, all.ends)
