-- Bytes that spell a message do not begin as those of gzip: 31 would be a tag of wire type 7.
use Rattle.std.proofs.lemmas.Grind.{common_steps}
use Rattle.std.proofs.Common.{rules, ◌≡◌, ℕ, ◌+◌, ◌*◌, ◌≤◌, List, [], ◌∷◌, ◌++◌, sym, ap, ◌∙◌, append_assoc, arith}
use Rattle.pprof_wire.specs.Varints.{IsVarint}
use Rattle.pprof_wire.specs.Fields.{FieldValue, varint, fixed64, fixed32, content, PlainField, wire_type_of}
use Rattle.pprof_wire.specs.Fields.{IsFieldList}
use Rattle.pprof_profile.specs.declared.messages.Draft.{Draft}
use Rattle.pprof_profile.specs.Valid.{IsValidDraft}
use Rattle.pprof_profile.specs.Profiles.{BeginsAsGzip, SpellsDraft, IsProfile}
use Rattle.pprof_profile.specs.Canonical.{canonical_bytes_of, FitsDraft}
use Rattle.pprof_profile.specs.Messages.{draft_form}
use Rattle.pprof_profile.proofs.Forms.{form_back}
use Rattle.pprof_profile.proofs.LawfulForms.{draft_lawful}

small_type : (value : FieldValue) → wire_type_of value ≤ 5
small_type (varint number) = omega arith
small_type (fixed64 number) = omega arith
small_type (fixed32 number) = omega arith
small_type (content bytes) = omega arith

tag_not_31 : (tag rest left : List ℕ) (number type : ℕ)
    → type ≤ 5 → IsVarint tag (8 * number + type) → 31 ∷ left ≡ tag ++ rest → ⊥
tag_not_31 [] rest left number type small spelled same = spelled.groups
tag_not_31 (byte ∷ []) rest left number type small spelled same = grind (arith, common_steps)
tag_not_31 (byte ∷ next ∷ tag) rest left number type small spelled same = grind (arith, common_steps)

list_not_gzip : (bytes rest : List ℕ) (fields : List PlainField)
    → IsFieldList bytes fields → bytes ≡ 31 ∷ 139 ∷ rest → ⊥
list_not_gzip bytes rest [] listed same =
    let both : [] ≡ 31 ∷ 139 ∷ rest = sym listed ∙ same in absurd cc
list_not_gzip bytes rest (field ∷ fields) (front, after, parts, spelled, others) same =
    tag_not_31 spelled.tag (spelled.rest ++ after)
    (139 ∷ rest) field.number (wire_type_of field.value) (small_type field.value) spelled.tagged
    (sym same ∙ parts ∙ ap (λ (xs : List ℕ). xs ++ after) spelled.parts ∙ append_assoc spelled.tag spelled.rest after)

pub spelled_plain : (bytes : List ℕ) (draft : Draft) → SpellsDraft bytes draft → BeginsAsGzip bytes → ⊥
spelled_plain bytes draft spelled (rest, same) = list_not_gzip bytes rest spelled.fields spelled.listed same

pub draft_back : (draft : Draft) → FitsDraft draft → SpellsDraft (canonical_bytes_of draft) draft
draft_back draft fits = form_back draft_form draft_lawful draft fits

pub canonical_profile : (draft : Draft)
    → FitsDraft draft → IsValidDraft draft → IsProfile (canonical_bytes_of draft) draft
canonical_profile draft fits valid = search (rules, spelled_plain, draft_back)
