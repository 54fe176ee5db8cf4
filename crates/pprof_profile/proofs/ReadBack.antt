-- What is written is read back.
use Rattle.std.proofs.lemmas.Grind.{common_steps}
use Rattle.std.proofs.Common.{◌≡◌, ℕ, zero, suc, ℤ, ◌<◌, ◌^◌, Bool, true, false, List, [], ◌∷◌, ◌++◌, length, map}
use Rattle.std.proofs.Common.{refl, sym, ap, ◌∙◌, subst, append_assoc, arith, Ok, w64, FitsSigned}
use Rattle.std.proofs.lemmas.List.{append-nil}
use Rattle.std.proofs.lemmas.List.Concat.{flat_map-append}
use Rattle.std.proofs.lemmas.Int.{ints, to_z-of_z}
use Rattle.std.specs.List.{AllByRecursion}
use Rattle.std.specs.Int.{cast_signed, cast_unsigned}
use Rattle.pprof_wire.specs.Varints.{IsNumberList}
use Rattle.pprof_wire.specs.Fields.{varint, content, PlainField, IsFieldNumber, FitsValue}
use Rattle.pprof_wire.proofs.ShortestVarints.{varint_of-spells}
use Rattle.pprof_wire.proofs.ListLaws.{written_back}
use Rattle.pprof_profile.specs.Reading.{Table, Spells, AddsPacked, IsUnpacked}
use Rattle.pprof_profile.specs.Forms.{flag_of}
use Rattle.pprof_profile.specs.Writing.{bytes_of_fields, number_fields, content_fields, each_field, packed_bytes}
use Rattle.pprof_profile.specs.Writing.{number_of_flag}
use Rattle.pprof_profile.proofs.Gathering.{one_spelled, spells_joined}
use Rattle.pprof_profile.proofs.Once.{numbers_once, ok_once}

-- the bytes of the fields make the new message of the old one
abbrev pub Piece : {M : Type 0} → Table M → M → List PlainField → M → Type 0
Piece table old fields new = Spells table old (bytes_of_fields fields) new

pub pieces_joined : {M : Type 0} (table : Table M) (old mid new : M) (fs gs : List PlainField)
    → Piece table old fs mid → Piece table mid gs new → Piece table old (fs ++ gs) new
pieces_joined table old mid new fs gs left right = grind (arith, common_steps, flat_map-append, spells_joined)

pub no_piece : {M : Type 0} (table : Table M) (old new : M) → new ≡ old → Piece table old [] new
no_piece table old new same = record { fields = []; listed = refl; gathered = same }

one_piece : {M : Type 0} (table : Table M) (old new : M) (field : PlainField)
    → IsFieldNumber field.number → FitsValue field.value
    → table old field.number field.value (Ok new) → Piece table old (field ∷ []) new
one_piece table old new field numbered fits step = grind (arith, common_steps, append-nil, written_back, one_spelled)

pub number_piece : {M : Type 0} (table : Table M) (old new : M) (number value : ℕ)
    → IsFieldNumber number → value < 2 ^ 64
    → table old number (varint value) (Ok new)
    → (value ≡ 0 → new ≡ old) → Piece table old (number_fields number value) new
number_piece table old new number zero numbered fits step absent = no_piece table old new (absent refl)
number_piece table old new number (suc less) numbered fits step absent =
    one_piece table old new (record { number = number; value = varint (suc less) }) numbered fits step

pub content_piece : {M : Type 0} (table : Table M) (old new : M) (number : ℕ) (bytes : List ℕ)
    → IsFieldNumber number → length bytes < 2 ^ 64
    → table old number (content bytes) (Ok new)
    → (bytes ≡ [] → new ≡ old) → Piece table old (content_fields number bytes) new
content_piece table old new number [] numbered fits step absent = no_piece table old new (absent refl)
content_piece table old new number (byte ∷ bytes) numbered fits step absent =
    one_piece table old new (record { number = number; value = content (byte ∷ bytes) }) numbered fits step

pub each_piece : {M A : Type 0} (table : Table M)
    (with : List A → M) (Good : A → Type 0) (number : ℕ) (bytes_of : A → List ℕ) → IsFieldNumber number
    → ((xs : List A) (item : A)
    → Good item → table (with xs) number (content (bytes_of item)) (Ok (with (xs ++ item ∷ []))))
    → ((item : A) → Good item → length (bytes_of item) < 2 ^ 64)
    → (xs items : List A) → AllByRecursion Good items
    → Piece table (with xs) (each_field number (map bytes_of items)) (with (xs ++ items))
each_piece table with Good number bytes_of numbered step short xs [] good =
    no_piece table (with xs) (with (xs ++ [])) (ap with (append-nil xs))
each_piece {A = A} table with Good number bytes_of numbered step short xs (item ∷ items) good =
    let field : PlainField = record { number = number; value = content (bytes_of item) } in
    subst (λ (ys : List A). Piece table (with xs) (each_field number (map bytes_of (item ∷ items))) (with ys))
    (append_assoc xs (item ∷ []) items)
    (pieces_joined table (with xs) (with (xs ++ item ∷ []))
    (with ((xs ++ item ∷ []) ++ items)) (field ∷ []) (each_field number (map bytes_of items))
    (one_piece table (with xs) (with (xs ++ item ∷ [])) field numbered (short item good.0) (step xs item good.0))
    (each_piece table with Good number bytes_of numbered step short (xs ++ item ∷ []) items good.1))

-- ---- numbers

pub signed_back : (value : ℤ) → FitsSigned w64 value → value ≡ cast_signed w64 (cast_unsigned w64 value)
signed_back value fits = sym (to_z-of_z w64 value fits)

pub signed_below : (value : ℤ) → FitsSigned w64 value → cast_unsigned w64 value < 2 ^ 64
signed_below value fits = omega (arith, ints)

pub flag_back : (flag : Bool) → flag ≡ flag_of (number_of_flag flag)
flag_back true = refl
flag_back false = refl

pub flag_below : (flag : Bool) → number_of_flag flag < 2 ^ 64
flag_below true = omega arith
flag_below false = omega arith

-- ---- packed numbers

numbers_listed : {A : Type 0} (to : A → ℕ) (Good : A → Type 0)
    → ((item : A) → Good item → to item < 2 ^ 64) → (items : List A) → AllByRecursion Good items
    → IsNumberList (packed_bytes (map to items)) (map to items)
numbers_listed to Good below [] good = refl
numbers_listed to Good below (item ∷ items) good =
    grind (arith, common_steps, varint_of-spells, numbers_listed to Good below items good.1)

mapped_back : {A : Type 0} (from : ℕ → A) (to : A → ℕ) (Good : A → Type 0)
    → ((item : A) → Good item → item ≡ from (to item)) → (items : List A)
    → AllByRecursion Good items → items ≡ map from (map to items)
mapped_back from to Good back [] good = refl
mapped_back {A = A} from to Good back (item ∷ items) good =
    ap (λ (x : A). x ∷ items) (back item good.0)
    ∙ ap (λ (xs : List A). from (to item) ∷ xs) (mapped_back from to Good back items good.1)

pub unpacked_back : {A : Type 0} (from : ℕ → A) (to : A → ℕ) (Good : A → Type 0)
    → ((item : A) → Good item → to item < 2 ^ 64)
    → ((item : A) → Good item → item ≡ from (to item))
    → (items : List A) → AllByRecursion Good items → IsUnpacked from [] (packed_bytes (map to items)) items
unpacked_back from to Good below back items good =
    record {
      numbers = map to items;
      listed =
          numbers_listed to Good below items good;
      appended = mapped_back from to Good back items good;
    }

pub none_unpacked : {A : Type 0} (from : ℕ → A) (bytes : List ℕ) (items : List A)
    → IsUnpacked from [] bytes items → bytes ≡ [] → items ≡ []
none_unpacked from bytes items unpacked empty =
    ok_once (AddsPacked from [] []) (numbers_once from [] (content [])) items []
    (subst (λ (xs : List ℕ). IsUnpacked from [] xs items) empty unpacked)
    (record { numbers = []; listed = refl; appended = refl })
