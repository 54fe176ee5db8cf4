-- Items by their ids, and addresses as names.
use Rattle.std.proofs.lemmas.Grind.{common_steps}
use Rattle.std.proofs.Common.{◌≡◌, ◌≢◌, ℕ, zero, suc, ◌/◌, ◌%◌, ◌<◌, ◌≤◌, Bool, true, false, eqb, List, [], ◌∷◌, map}
use Rattle.std.proofs.Common.{refl, sym, ap, ◌∙◌, arith, inl, inr}
use Rattle.std.specs.Prelude.{Option, Some, None, slice_get, MatchOption, is_some, cond}
use Rattle.std.specs.List.{All, AllByRecursion}
use Rattle.std.specs.Fmt.{digits, digits_onto, digit_glyph}
use Rattle.std.specs.Option.{option_and_then}
use Rattle.std.proofs.lemmas.Bool.{cases_lt, cases_eq, eq-eqb, ne_eqb, le-ltb, lt-ltb}
use Rattle.std.proofs.lemmas.Bool.{false≢true, and_parts, cond_both, not-true, or_parts}
use Rattle.std.proofs.lemmas.Option.{same_Some}
use Rattle.std.proofs.lemmas.List.Elements.{All-from_recursion, All-head, All-tail}
use Rattle.std.proofs.lemmas.Str.{IsUtf8-from_ascii}
use Rattle.std.proofs.lemmas.Str.Ascii.{IsAscii-from_all}
use Rattle.pprof_profile.specs.declared.messages.Draft.{Draft}
use Rattle.pprof_profile.specs.declared.faults.ProfileFault.{ProfileFault}
use Rattle.pprof_profile.specs.Valid.{IsValidDraft, function_ids, has_double, is_known, location_ids}
use Rattle.profile_rows.specs.Names.{IsName}
use Rattle.profile_samples.specs.Samples.{address_name, item_with}

-- ---- items by their ids

module _ {A : Type 0} (id_of : A → ℕ) where
  known_later : (items : List A) (at : ℕ) (id : ℕ)
      → slice_get (map id_of items) at ≡ Some id → is_known (map id_of items) id ≡ true
  known_later [] at id e = absurd (false≢true (ap is_some e))
  known_later (item ∷ items) zero id e = rw (eq-eqb id (id_of item) (sym (same_Some (id_of item) id e))) refl
  known_later (item ∷ items) (suc at) id e = elim (cases_eq id (id_of item)) [
    | inl same ↦ rw (eq-eqb id (id_of item) same) refl
    | inr other ↦ rw (ne_eqb id (id_of item) other) (known_later items at id e)
  ]

  -- where ids differ, an item that has the id is the first one that does
  pub item_with-index : (items : List A) (at id : ℕ) → has_double (map id_of items) ≡ false
      → slice_get (map id_of items) at ≡ Some id → item_with id_of id items ≡ slice_get items at
  item_with-index [] at id single e = absurd (false≢true (ap is_some e))
  item_with-index (item ∷ items) zero id single e = rw (eq-eqb (id_of item) id (same_Some (id_of item) id e)) refl
  item_with-index (item ∷ items) (suc at) id single e =
      let parts = or_parts (is_known (map id_of items) (id_of item)) (has_double (map id_of items)) single in
      elim (cases_eq (id_of item) id) [
        | inl same ↦ absurd (false≢true (sym parts.0 ∙ known_later items at (id_of item) (e ∙ ap Some (sym same))))
        | inr other ↦ rw (ne_eqb (id_of item) id other) (item_with-index items at id parts.1 e)
      ]

  -- an id that stands nowhere names no item
  pub item_with-none : (items : List A) (id : ℕ)
      → ((at : ℕ) → slice_get (map id_of items) at ≢ Some id) → item_with id_of id items ≡ None
  item_with-none [] id nowhere = refl
  item_with-none (item ∷ items) id nowhere =
      rw (ne_eqb (id_of item) id (λ same. nowhere zero (ap Some same)))
      (item_with-none items id (λ at. nowhere (suc at)))

  -- what a search among the ids found
  pub item_with-found : (items : List A) (ids : List ℕ) (id : ℕ) (found : Option ℕ)
      → ids ≡ map id_of items → has_double ids ≡ false
      → MatchOption found ((at : ℕ) → slice_get ids at ≢ Some id) (λ at. slice_get ids at ≡ Some id)
      → item_with id_of id items ≡ option_and_then (λ at. slice_get items at) found
  item_with-found items ids id None ids_are single h =
      item_with-none items id (λ at e. h at (ap (λ (is : List ℕ). slice_get is at) ids_are ∙ e))
  item_with-found items ids id (Some at) ids_are single h =
      item_with-index items at id (rw ids_are at single) (rw ids_are at h)

  -- what is true of none and of each item is true of what an id names
  pub item_with-all : (P : Option A → Type 0) (items : List A) (id : ℕ)
      → P None → All (λ item. P (Some item)) items → P (item_with id_of id items)
  item_with-all P [] id none all = none
  item_with-all P (item ∷ items) id none all =
      cond_both (eqb (id_of item) id) (Some item) (item_with id_of id items) P
      (λ here. All-head (λ one. P (Some one)) item items all)
      (λ other. item_with-all P items id none (All-tail (λ one. P (Some one)) item items all))

-- ---- the ids of a valid profile

pub rule_holds : (rule : Bool) (fault : ProfileFault) (rest : Option ProfileFault)
    → cond rule rest (Some fault) ≡ None → (rule ≡ true) × (rest ≡ None)
rule_holds true fault rest e = (refl, e)
rule_holds false fault rest e = absurd (false≢true (sym (ap is_some e)))

-- in a valid profile the ids of locations differ, and so do those of functions
pub ids_differ : (draft : Draft)
    → IsValidDraft draft → (has_double (location_ids draft) ≡ false) × (has_double (function_ids draft) ≡ false)
ids_differ draft valid = grind (arith, common_steps, and_parts, rule_holds, not-true)

-- ---- addresses

-- a digit in lowercase hexadecimal
abbrev IsHexadecimal : ℕ → Type 0
IsHexadecimal byte = (48 ≤ byte) × (byte < 128) × (byte ≢ 59)

glyph : (d : ℕ) → d < 16 → IsHexadecimal (digit_glyph false d)
glyph d small = grind (arith, common_steps, cases_lt, le-ltb, lt-ltb)

hexadecimal : (k n : ℕ) (more : List ℕ)
    → AllByRecursion IsHexadecimal more → AllByRecursion IsHexadecimal (digits_onto k 16 false n more)
hexadecimal zero n more all = all
hexadecimal (suc k) n more all =
    let here : AllByRecursion IsHexadecimal (digit_glyph false (n % 16) ∷ more) = (glyph (n % 16) (omega arith), all) in
    elim (eqb (n / 16) 0) as (λ b. eqb (n / 16) 0 ≡ b
    → AllByRecursion IsHexadecimal (digits_onto (suc k) 16 false n more)) [
      | true ↦ λ e. rw e here
      | false ↦ λ e. rw e (hexadecimal k (n / 16) (digit_glyph false (n % 16) ∷ more) here)
    ] refl

each_of : (P Q : ℕ → Type 0) (bytes : List ℕ)
    → ((byte : ℕ) → P byte → Q byte) → AllByRecursion P bytes → AllByRecursion Q bytes
each_of P Q [] h all = tt
each_of P Q (byte ∷ bytes) h all = (h byte all.0, each_of P Q bytes h all.1)

prefixed : (bytes : List ℕ) → AllByRecursion IsHexadecimal bytes → IsName (48 ∷ 120 ∷ bytes)
prefixed bytes all = grind (arith, common_steps, All-from_recursion, IsUtf8-from_ascii, IsAscii-from_all, each_of)

pub IsName-address : (address : ℕ) → IsName (address_name address)
unfolding digits
IsName-address address = prefixed (digits_onto 64 16 false address []) (hexadecimal 64 address [] tt)
