-- The canonical bytes of a profile: what `encode` writes. Fields stand by rising number, and varints are as short as
-- can be.
use Rattle.std.specs.Prelude.{ℕ, List, map}
use Rattle.pprof_profile.specs.declared.messages.Draft.{Draft}
use Rattle.pprof_profile.specs.declared.messages.Sample.{Sample}
use Rattle.pprof_profile.specs.Writing.{bytes_of_fields, each_field}
use Rattle.pprof_profile.specs.Forms.{bytes_of, Fits}
use Rattle.pprof_profile.specs.Messages.{sample_form, draft_form}

abbrev pub sample_bytes : Sample → List ℕ
sample_bytes item = bytes_of sample_form item

abbrev pub FitsSample : Sample → Type 0
FitsSample item = Fits sample_form item

-- The samples' fields, one after the other.
abbrev pub samples_bytes : List Sample → List ℕ
samples_bytes samples = bytes_of_fields (each_field 2 (map sample_bytes samples))

abbrev pub canonical_bytes_of : Draft → List ℕ
canonical_bytes_of draft = bytes_of draft_form draft

abbrev pub FitsDraft : Draft → Type 0
FitsDraft draft = Fits draft_form draft
