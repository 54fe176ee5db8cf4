use Rattle.std.proofs.Common.{◌≡◌, ◌++◌, take}
use Rattle.pprof_profile.specs.Canonical.{FitsSample, sample_bytes, samples_bytes}
use Rattle.pprof_profile.specs.Writing.{FitsEach}
use Rattle.pprof_profile.proofs.encoding.write_samples.Given as goal

abbrev pub invariant-loop-index : goal.invariant-loop-index
invariant-loop-index l =
    record {
      written : l.out.items ≡ l.fn.out.items ++ samples_bytes (take l.index l.samples);
      fits : FitsEach FitsSample sample_bytes (take l.index l.samples);
    }
