-- What is known of each string is true of the string at an index.
use Rattle.std.proofs.lemmas.Grind.{common_steps}
use Rattle.std.proofs.Common.{arith, ◌≡◌, ℕ, zero, suc, Bool, List, [], ◌∷◌, refl}
use Rattle.std.specs.Prelude.{ℤ, pos, negsuc, slice_index_or}
use Rattle.std.specs.List.{position, position_or_len}
use Rattle.std.proofs.lemmas.List.Recursion.{is_position_or_len}
use Rattle.std.specs.Str.{bytes_eq}
use Rattle.pprof_profile.specs.declared.messages.ValueType.{ValueType}
use Rattle.profile_samples.specs.Samples.{string_at}
use Rattle.profile_samples.specs.EqualStrings.{equal_at, equal_strings}

equal_in : (text : List ℕ) (strings : List (List ℕ)) (index : ℕ)
    → slice_index_or (equal_strings strings text) index (bytes_eq [] text)
    ≡ bytes_eq (slice_index_or strings index []) text
equal_in text [] zero = refl
equal_in text [] (suc index) = refl
equal_in text (string ∷ strings) zero = refl
equal_in text (string ∷ strings) (suc index) = equal_in text strings index

pub equal_at-string : (strings : List (List ℕ)) (text : List ℕ) (index : ℤ)
    → equal_at (equal_strings strings text) text index ≡ bytes_eq (string_at strings index) text
equal_at-string strings text (pos index) = equal_in text strings index
equal_at-string strings text (negsuc index) = refl

indices_alike : (p q : ValueType → Bool) → ((kind : ValueType) → p kind ≡ q kind)
    → (kinds : List ValueType) → position_or_len p kinds ≡ position_or_len q kinds
indices_alike p q alike kinds = grind (arith, common_steps, is_position_or_len)

-- the first sample type of a name, by what is known of each string
pub position_of_equal : (strings : List (List ℕ)) (text : List ℕ) (kinds : List ValueType)
    → position (λ (kind : ValueType). equal_at (equal_strings strings text) text kind.kind) kinds
    ≡ position (λ (kind : ValueType). bytes_eq (string_at strings kind.kind) text) kinds
position_of_equal strings text kinds = grind (arith, common_steps, equal_at-string, indices_alike)
