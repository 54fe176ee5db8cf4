-- Lists as far as an index, and the item there.
use Rattle.std.proofs.Common.{ℕ, List, Bool, true, false, ◌≡◌, ◌+◌, ◌++◌, ◌∷◌, [], Some, ap, ◌∙◌, take, slice_get}
use Rattle.std.proofs.Common.{slice_index_or, ◌&&◌}
use Rattle.std.specs.List.{list_all}
use Rattle.std.proofs.lemmas.List.Folds.{list_all_at, list_all_more}
use Rattle.std.proofs.lemmas.Option.{get_or_from_slice_get, slice_get_within}
use Rattle.std.proofs.lemmas.List.{take_more}

pub more_at : {A : Type 0} (items : List A) (index : ℕ) (item : A) → slice_get items index ≡ Some item
    → take (index + 1) items ≡ take index items ++ item ∷ []
more_at items index item is =
    take_more items index item (slice_get_within items index item is)
    ∙ ap (λ last. take index items ++ last ∷ []) (get_or_from_slice_get items index item item is)

pub all_at : {A : Type 0} (p : A → Bool) (items : List A) (index : ℕ) (item : A) → slice_get items index ≡ Some item
    → list_all p (take index items) ≡ true → p item ≡ true → list_all p (take (index + 1) items) ≡ true
all_at p items index item is before here =
    list_all_more p items index item (slice_get_within items index item is)
    ∙ ap (λ all. all && p (slice_index_or items index item)) before
    ∙ ap p (get_or_from_slice_get items index item item is) ∙ here

pub not_all_at : {A : Type 0} (p : A → Bool) (items : List A) (index : ℕ) (item : A)
    → slice_get items index ≡ Some item → p item ≡ false → list_all p items ≡ false
not_all_at p items index item is here =
    list_all_at p items index item (slice_get_within items index item is)
    (ap p (get_or_from_slice_get items index item item is) ∙ here)
