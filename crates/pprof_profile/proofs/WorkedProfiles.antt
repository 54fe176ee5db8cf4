-- Worked examples, computed by the definitions. Each is checked by evaluating it.
use Rattle.std.proofs.Common.{◌≡◌, pos, negsuc, false, [], ◌∷◌, refl, codes, Some, None}
use Rattle.pprof_wire.specs.Varints.{varint_of}
use Rattle.pprof_profile.specs.declared.faults.ProfileFault.TheVariants.{FirstString, StringIndex, NoLocation}
use Rattle.pprof_profile.specs.declared.faults.ProfileFault.TheVariants.{NoMapping, ValueCount, ZeroId, DoubleId}
use Rattle.pprof_profile.specs.declared.messages.Function.{Function}
use Rattle.pprof_profile.specs.declared.messages.Location.{Location}
use Rattle.pprof_profile.specs.declared.messages.Sample.{Sample}
use Rattle.pprof_profile.specs.declared.messages.Draft.{Draft}
use Rattle.pprof_profile.specs.Messages.{no_draft}
use Rattle.pprof_profile.specs.Valid.{validity_fault}
use Rattle.pprof_profile.specs.Canonical.{canonical_bytes_of}

-- a sample of one location, with the value 7: a line of the function f, in nanoseconds of CPU time
abbrev function : Function
function = record { id = 1; name = pos 3; system_name = pos 0; filename = pos 0; start_line = pos 0 }

abbrev location : Location
location = record {
  id =
      1;
  mapping_id = 0;
  address = 0;
  lines = (record { function_id = 1; line = pos 0 }) ∷ [];
  is_folded = false;
}

abbrev sample : Sample
sample = record { location_ids = 1 ∷ []; values = pos 7 ∷ []; labels = [] }

abbrev one_sample : Draft
one_sample =
    record no_draft {
      sample_types = (record { kind = pos 1; unit = pos 2 }) ∷ [];
      samples = sample ∷ [];
      locations = location ∷ [];
      functions = function ∷ [];
      strings = [] ∷ codes "cpu" ∷ codes "ns" ∷ codes "f" ∷ [];
    }

one_sample_bytes : canonical_bytes_of one_sample
    ≡ 10 ∷ 4
    ∷ 8 ∷ 1 ∷ 16 ∷ 2 ∷ 18 ∷ 6 ∷ 10 ∷ 1 ∷ 1 ∷ 18 ∷ 1 ∷ 7 ∷ 34 ∷ 6 ∷ 8 ∷ 1 ∷ 34 ∷ 2 ∷ 8 ∷ 1 ∷ 42 ∷ 4 ∷ 8 ∷ 1 ∷ 16 ∷ 3
    ∷ 50 ∷ 0 ∷ 50 ∷ 3 ∷ 99 ∷ 112 ∷ 117 ∷ 50 ∷ 2 ∷ 110 ∷ 115 ∷ 50 ∷ 1 ∷ 102 ∷ []
unfolding varint_of
one_sample_bytes = refl

one_sample_valid : validity_fault one_sample ≡ None
one_sample_valid = refl

-- one rule after the other
first_string : validity_fault (record one_sample { strings = codes "x" ∷ codes "cpu" ∷ codes "ns" ∷ codes "f" ∷ [] })
    ≡ Some FirstString
first_string = refl

index_at_the_count : validity_fault (record one_sample { default_sample_type = pos 4 }) ≡ Some StringIndex
index_at_the_count = refl

negative_index : validity_fault (record one_sample { default_sample_type = negsuc 0 }) ≡ Some StringIndex
negative_index = refl

zero_id : validity_fault (record one_sample { locations = (record location { id = 0 }) ∷ [] }) ≡ Some ZeroId
zero_id = refl

double_id : validity_fault (record one_sample { functions = function ∷ function ∷ [] }) ≡ Some DoubleId
double_id = refl

no_location : validity_fault (record one_sample { samples = (record sample { location_ids = 2 ∷ [] }) ∷ [] })
    ≡ Some NoLocation
no_location = refl

no_mapping : validity_fault (record one_sample { locations = (record location { mapping_id = 1 }) ∷ [] })
    ≡ Some NoMapping
no_mapping = refl

missing_value : validity_fault (record one_sample { samples = (record sample { values = [] }) ∷ [] }) ≡ Some ValueCount
missing_value = refl
