-- Fields written one after the other.
use Rattle.std.proofs.lemmas.Grind.{common_steps}
use Rattle.std.proofs.Common.{arith, ◌≡◌, ℕ, List, ◌++◌, ◌∷◌, [], Result, Ok, Err, OnOk}
use Rattle.std.proofs.lemmas.List.{append-nil, map-append}
use Rattle.std.proofs.lemmas.List.Concat.{flat_map-append}
use Rattle.pprof_wire.specs.Fields.{PlainField, content, field_bytes_of}
use Rattle.pprof_profile.specs.declared.messages.Sample.{Sample}
use Rattle.pprof_profile.specs.Canonical.{sample_bytes, samples_bytes}
use Rattle.pprof_profile.specs.Writing.{bytes_of_fields}

pub joined : (old mid new : List ℕ) (fs gs : List PlainField)
    → mid ≡ old ++ bytes_of_fields fs → new ≡ mid ++ bytes_of_fields gs → new ≡ old ++ bytes_of_fields (fs ++ gs)
joined old mid new fs gs first second = grind (arith, common_steps, flat_map-append)

pub on_ok_joined : {T E : Type 0} (old mid new : List ℕ) (r : Result T E) (fs gs : List PlainField)
    → mid ≡ old ++ bytes_of_fields fs
    → OnOk r (new ≡ mid ++ bytes_of_fields gs) → OnOk r (new ≡ old ++ bytes_of_fields (fs ++ gs))
on_ok_joined old mid new (Ok x) fs gs first second = joined old mid new fs gs first second
on_ok_joined old mid new (Err e) fs gs first second = second

-- the field of one more sample
pub sample_joined : (old mid new : List ℕ) (samples : List Sample) (sample : Sample)
    → mid ≡ old ++ samples_bytes samples
    → new ≡ mid ++ field_bytes_of (record { number = 2; value = content (sample_bytes sample) })
    → new ≡ old ++ samples_bytes (samples ++ sample ∷ [])
sample_joined old mid new samples sample first second = grind (arith, common_steps, append-nil, map-append, joined)
