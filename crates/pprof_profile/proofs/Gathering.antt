-- One more field, and one more number, after those that were read.
use Rattle.std.proofs.lemmas.Grind.{common_steps}
use Rattle.std.proofs.Common.{arith, ◌≡◌, ℕ, List, [], ◌∷◌, ◌++◌, refl, sym, ap, ◌∙◌, subst, append_assoc, map, Ok}
use Rattle.pprof_wire.specs.Varints.{IsVarint}
use Rattle.pprof_wire.specs.Fields.{PlainField, IsFieldSpelling}
use Rattle.pprof_wire.proofs.ListLaws.{one_field_listed, fields_joined, one_number_listed, numbers_joined}
use Rattle.pprof_profile.specs.declared.faults.ProfileFault.{ProfileFault}
use Rattle.pprof_profile.specs.Reading.{Table, Gathers, Spells, IsFirstFieldFault, IsReadSoFar, IsUnpacked}

pub gathers_joined : {M : Type 0} (table : Table M) (old mid new : M) (xs ys : List PlainField)
    → Gathers table old xs mid → Gathers table mid ys new
    → Gathers table old (xs ++ ys) new
gathers_joined {M = M} table old mid new [] ys left right = subst (λ (m : M). Gathers table m ys new) left right
gathers_joined table old mid new (x ∷ xs) ys (next, first, others) right =
    (next, first, gathers_joined table next mid new xs ys others right)

pub spells_joined : {M : Type 0} (table : Table M) (old mid new : M) (a b : List ℕ)
    → Spells table old a mid → Spells table mid b new
    → Spells table old (a ++ b) new
spells_joined table old mid new a b left right = grind (arith, common_steps, fields_joined, gathers_joined)

pub one_spelled : {M : Type 0} (table : Table M) (old new : M) (bytes : List ℕ) (field : PlainField)
    → IsFieldSpelling bytes field
    → table old field.number field.value (Ok new) → Spells table old bytes new
one_spelled table old new bytes field spelled step =
    record { fields = field ∷ []; listed = one_field_listed bytes field spelled; gathered = (new, step, refl) }

pub read_more : {M : Type 0} (table : Table M)
    (old mid new : M) (bytes rest spelling after : List ℕ) (field : PlainField) → IsReadSoFar table old bytes mid rest
    → rest ≡ spelling ++ after → IsFieldSpelling spelling field
    → table mid field.number field.value (Ok new) → IsReadSoFar table old bytes new after
read_more table old mid new bytes rest spelling after field so-far parts spelled step =
    record {
      front = so-far.front ++ spelling;
      parts = so-far.parts
          ∙ ap (λ (left : List ℕ). so-far.front ++ left) parts ∙ sym (append_assoc so-far.front spelling after);
      spelled = spells_joined table old mid new so-far.front spelling so-far.spelled
          (one_spelled table mid new spelling field spelled step);
    }

pub map_joined : {A : Type 0} (from : ℕ → A) (xs ys : List ℕ) → map from (xs ++ ys) ≡ map from xs ++ map from ys
map_joined from [] ys = refl
map_joined {A = A} from (x ∷ xs) ys = ap (λ (zs : List A). from x ∷ zs) (map_joined from xs ys)

pub unpacked_more : {A : Type 0} (from : ℕ → A) (old mid : List A) (front spelling : List ℕ) (number : ℕ)
    → IsUnpacked from old front mid → IsVarint spelling number
    → IsUnpacked from old (front ++ spelling) (mid ++ from number ∷ [])
unpacked_more {A = A} from old mid front spelling number so-far spelled =
    record {
      numbers = so-far.numbers ++ number ∷ [];
      listed = numbers_joined front spelling so-far.numbers
          (number ∷ []) so-far.listed (one_number_listed spelling number spelled);
      appended = ap (λ (xs : List A). xs ++ from number ∷ []) so-far.appended
          ∙ append_assoc old (map from so-far.numbers) (from number ∷ [])
          ∙ ap (λ (xs : List A). old ++ xs) (sym (map_joined from so-far.numbers (number ∷ [])));
    }

-- nothing is read yet
pub nothing_read : {M : Type 0} (table : Table M) (old : M) (bytes : List ℕ) → IsReadSoFar table old bytes old bytes
nothing_read table old bytes = record {
  front = [];
  parts = refl;
  spelled = record { fields = []; listed = refl; gathered = refl };
}

-- what is read after fields is read with them
pub read_after : {M : Type 0} (table : Table M) (old mid : M) (bytes rest : List ℕ) (new : M)
    → IsReadSoFar table old bytes mid rest → Spells table mid rest new → Spells table old bytes new
read_after table old mid bytes rest new so-far after =
    rw so-far.parts (spells_joined table old mid new so-far.front rest so-far.spelled after)

pub fault_after : {M : Type 0} (table : Table M) (old mid : M) (bytes rest : List ℕ) (fault : ProfileFault)
    → IsReadSoFar table old bytes mid rest → IsFirstFieldFault table mid rest fault
    → IsFirstFieldFault table old bytes fault
fault_after table old mid bytes rest fault so-far after = record {
  so_far = after.so_far;
  rest = after.rest;
  read = record {
    front = so-far.front ++ after.read.front;
    parts = so-far.parts ∙ ap (λ (left : List ℕ). so-far.front ++ left) after.read.parts
        ∙ sym (append_assoc so-far.front after.read.front after.rest);
    spelled = spells_joined table old mid after.so_far so-far.front after.read.front so-far.spelled after.read.spelled;
  };
  faulty = after.faulty;
}
