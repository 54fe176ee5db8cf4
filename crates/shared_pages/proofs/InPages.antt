-- Items on shelves, and the last ones after them.
use Rattle.std.proofs.Common.{◌≡◌, ℕ, suc, ◌+◌, ◌<◌, ◌≤◌, ◌-◌, List, [], ◌∷◌, ◌++◌, length, get_or, take, sym, ap, ◌∙◌}
use Rattle.std.proofs.Common.{arith}
use Rattle.std.proofs.Math.ListN.{set}
use Rattle.std.proofs.Math.Seq.{take-set-lt, take-suc, take-suc-set}
use Rattle.std.proofs.lemmas.Grind.{common_steps}
use Rattle.std.proofs.lemmas.List.{append_assoc, length-append, length-set, length-take-le, length_push}
use Rattle.std.proofs.lemmas.List.{set-append_left, set-append_right, take-append-le, take-set-le}
use Rattle.shared_pages.specs.Pages.{IsInPages, with_item}

module _ {X : Type 0} {shelves last list : List X} {shelved len : ℕ}
    (are : IsInPages shelves shelved last len) (view_is : take shelved shelves ++ last ≡ list) where
  -- an item that stands on shelves is replaced
  pub put_first : (at : ℕ) (item : X) {next : List X}
      → at < shelved → next ≡ with_item at item shelves → take shelved next ++ last ≡ set list at item
  put_first at item {next} lt next_is =
      grind (arith, are.within, view_is, next_is, take-set-lt, set-append_left, length-take-le)

  -- one of the last items is replaced
  pub put_after : (at : ℕ) (item : X) {next : List X} → shelved ≤ at → at < length list
      → next ≡ with_item (at - shelved) item last → take shelved shelves ++ next ≡ set list at item
  put_after at item {next} past within next_is =
      grind (arith, are.within, view_is, next_is, set-append_right, length-take-le, length-append)

module _ {X : Type 0} where
  -- ---- items put on shelves from a place on

  -- so many of the items stand there, and what stands before them is as it was
  pub record ArePut (before shelves : List X) (from : ℕ) (items : List X) (count : ℕ) : Type 0 where
    pub within : from + count ≤ length shelves
    pub kept : take from shelves ≡ take from before
    pub all : take (from + count) shelves ≡ take from before ++ take count items

  module _ (at : ℕ) (item : X) (list : List X) (within : at ≤ length list) where
    take_before : (n : ℕ) → n ≤ at → take n (with_item at item list) ≡ take n list
    take_before n le = grind (arith, within, take-set-le, take-append-le)

    take_with : take (at + 1) (with_item at item list) ≡ take at list ++ item ∷ []
    take_with = grind (arith, within, common_steps, take-suc-set)

    length_with : at + 1 ≤ length (with_item at item list)
    length_with = grind (arith, within, length-set, length_push)

  pub put_next : (before shelves : List X) (from : ℕ) (items : List X) (count : ℕ) (item other : X) (next : List X)
      → ArePut before shelves from items count → count < length items → item ≡ get_or items count other
      → next ≡ with_item (from + count) item shelves → ArePut before next from items (count + 1)
  put_next before shelves from items count item other next are lt item_is next_is =
      let more : from + (count + 1) ≡ from + count + 1 = omega arith in
      let one : suc count ≡ count + 1 = omega arith in
      record {
        within = omega (arith, ap length next_is, length_with (from + count) item shelves are.within);
        kept = ap (take from) next_is
            ∙ take_before (from + count) item shelves are.within from (omega arith) ∙ are.kept;
        all = ap (λ n. take n next) more ∙ ap (take (from + count + 1)) next_is
            ∙ take_with (from + count) item shelves are.within ∙ ap (λ list. list ++ item ∷ []) are.all
            ∙ append_assoc (take from before) (take count items) (item ∷ [])
            ∙ ap (λ list. take from before ++ list) (ap (λ it. take count items ++ it ∷ []) item_is
            ∙ sym (take-suc items count other lt) ∙ ap (λ n. take n items) one);
      }
