-- Chunks of one size, and one item put into them.
use Rattle.std.proofs.Common.{◌≡◌, ℕ, zero, suc, ◌+◌, ◌*◌, ◌<◌, ◌≤◌, ◌-◌, List, [], ◌∷◌, ◌++◌, length, get_or, refl}
use Rattle.std.proofs.Common.{sym, ap, ◌∙◌, arith}
use Rattle.std.proofs.Math.ListN.{set, get_or-append}
use Rattle.std.proofs.Math.Nat.{suc-mul}
use Rattle.std.proofs.lemmas.List.{get_or-append-add, length-set, length_push, length-append, append_assoc, append-nil}
use Rattle.std.proofs.lemmas.List.{set-append_left, set-append_right}
use Rattle.shared_pages.specs.Pages.{AreChunks, joined, with_item}

module _ {X : Type 0} where
  -- an item put into the first of two lists, or after it where the second has none
  with_item_left : (at : ℕ) (item : X) (xs ys : List X)
      → (0 < length ys → at < length xs) → with_item at item (xs ++ ys) ≡ with_item at item xs ++ ys
  with_item_left at item xs [] inside = grind (arith, append-nil)
  with_item_left at item xs (y ∷ ys) inside = grind (arith, inside (omega arith), set-append_left, length-append)

  -- an item put into the second of two lists, or after it
  with_item_right : (at past : ℕ) (item : X) (xs ys : List X)
      → at ≡ length xs + past → with_item at item (xs ++ ys) ≡ xs ++ with_item past item ys
  with_item_right at past item xs ys is =
      let less : at - length xs ≡ past = omega (arith, is) in
      let in_second = set-append_right xs ys (length xs) at item refl (omega (arith, is)) in
      grind (arith, is, less, in_second, length-append xs ys, append_assoc xs ys (item ∷ []))

  module _ (size : ℕ) where
    -- a place after the first chunk
    record IsPast (chunk : List X) (chunks : List (List X)) (at past : ℕ) : Type 0 where
      full : length chunk ≡ size
      place : at ≡ length chunk + past
      within : past ≤ length (joined chunks)

    past_first : (chunk : List X) (chunks : List (List X)) (at k j : ℕ) → AreChunks size (chunk ∷ chunks)
        → at ≡ suc k * size + j → at ≤ length (joined (chunk ∷ chunks)) → IsPast chunk chunks at (k * size + j)
    past_first chunk chunks at k j are at_is within =
        let full : length chunk ≡ size = grind (arith, at_is, within, length-append, are.0, are.1, suc-mul k size) in
        let place : at ≡ length chunk + (k * size + j) = omega (arith, at_is, full, suc-mul k size) in
        record {
          full = full;
          place = place;
          within = omega (arith, place, within, length-append chunk (joined chunks));
        }

    -- an item is read from its chunk
    pub record IsRead (chunks : List (List X)) (at k j : ℕ) : Type 0 where
      pub chunk : k < length chunks
      pub item : j < length (get_or chunks k [])
      pub is : (d : X) → get_or (joined chunks) at d ≡ get_or (get_or chunks k []) j d

    pub read_chunk : (chunks : List (List X)) (at k j : ℕ) → AreChunks size chunks → at ≡ k * size + j → j < size
        → at < length (joined chunks) → IsRead chunks at k j
    read_chunk [] at k j are at_is short within = absurd (omega (arith, within))
    read_chunk (chunk ∷ chunks) at zero j are at_is short within =
        let lt : j < length chunk = grind (arith, at_is, within, length-append, are.1) in
        record { chunk = omega arith; item = lt; is = λ d. grind (arith, at_is, lt, get_or-append) }
    read_chunk (chunk ∷ chunks) at (suc k) j are at_is short within =
        let past = past_first chunk chunks at k j are at_is (omega (arith, within)) in
        let rest = read_chunk chunks (k * size + j) k j are.2 refl short
        (omega (arith, within, past.place, length-append chunk (joined chunks))) in
        record {
          chunk = omega (arith, rest.chunk);
          item = rest.item;
          is = λ d. grind (arith, past.place, rest.is d, get_or-append-add);
        }

    -- the chunks with an item at a place
    pub record ArePut (chunks : List (List X)) (at : ℕ) (item : X) (next : List (List X)) : Type 0 where
      pub items : joined next ≡ with_item at item (joined chunks)
      pub kept : AreChunks size next

    put_later : (chunk : List X) (chunks next : List (List X)) (at past : ℕ) (item : X) → IsPast chunk chunks at past
        → ArePut chunks past item next → ArePut (chunk ∷ chunks) at item (chunk ∷ next)
    put_later chunk chunks next at past item is put = record {
      items = ap (λ zs. chunk ++ zs) put.items ∙ sym (with_item_right at past item chunk (joined chunks) is.place);
      kept = (omega (arith, is.full), (λ some. is.full), put.kept);
    }

    -- an item is put into its chunk, or at its end
    pub put_chunk : (chunks : List (List X)) (at k j : ℕ) (item : X) → AreChunks size chunks → at ≡ k * size + j
        → j < size → at ≤ length (joined chunks) → k < length chunks
        → (j ≤ length (get_or chunks k []))
        × ArePut chunks at item (set chunks k (with_item j item (get_or chunks k [])))
    put_chunk [] at k j item are at_is short within lt = absurd (omega (arith, lt))
    put_chunk (chunk ∷ chunks) at zero j item are at_is short within lt = (
      grind (arith, at_is, within, length-append, are.1),
      record {
        items = grind (arith, at_is, short, are.1, with_item_left j item chunk (joined chunks));
        kept = (
          grind (arith, short, are.0, length-set, length_push),
          (λ some. let full = are.1 some in grind (arith, full, short, length-set)),
          are.2,
        );
      },
    )
    put_chunk (chunk ∷ chunks) at (suc k) j item are at_is short within lt =
        let past = past_first chunk chunks at k j are at_is within in
        let rest = put_chunk chunks (k * size + j) k j item are.2 refl short past.within (omega (arith, lt)) in
        (rest.0, put_later chunk chunks _ at (k * size + j) item past rest.1)

    -- an item is put into a new chunk
    pub push_chunk : (chunks : List (List X)) (at k j : ℕ) (item : X) → AreChunks size chunks → at ≡ k * size + j
        → j < size → at ≤ length (joined chunks) → length chunks ≤ k
        → ArePut chunks at item (chunks ++ (item ∷ []) ∷ [])
    push_chunk [] at k j item are at_is short within le = record {
      items = grind arith;
      kept = (omega (arith, short), (λ some. absurd (omega (arith, some))), tt);
    }
    push_chunk (chunk ∷ chunks) at zero j item are at_is short within le = absurd (omega (arith, le))
    push_chunk (chunk ∷ chunks) at (suc k) j item are at_is short within le =
        let past = past_first chunk chunks at k j are at_is within in
        put_later chunk chunks _ at (k * size + j) item past
        (push_chunk chunks (k * size + j) k j item are.2 refl short past.within (omega (arith, le)))
