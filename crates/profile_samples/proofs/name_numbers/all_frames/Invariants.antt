use Rattle.std.proofs.Common.{◌≡◌, All, drop, map, take}
use Rattle.profile_rows.specs.Names.{IsName}
use Rattle.name_counts.specs.TextTables.{with_texts}
use Rattle.profile_samples.specs.NameNumbers.{address_of, frame_names, given, numbers_of}
use Rattle.profile_samples.proofs.name_numbers.all_frames.Given as goal

-- the locations so far, and the names of the addresses to come give all names
abbrev pub invariant-loop-location : goal.invariant-loop-location
invariant-loop-location l = record {
  names : with_texts l.names.keys (given (map (address_of l.fn.functions) (drop l.location-index l.fn.locations)))
      ≡ frame_names l.fn.functions;
  each : All IsName l.names.keys;
  frames : l.frames ≡ map (numbers_of l.fn.functions) (take l.location-index l.fn.locations);
}
