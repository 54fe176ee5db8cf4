use Rattle.std.proofs.Common.{◌≡◌, ◌++◌, map, take}
use Rattle.pprof_profile.specs.Writing.{packed_bytes, FitsNumbers}
use Rattle.pprof_profile.proofs.writing.push_numbers.Given as goal

abbrev pub invariant-loop-item : goal.invariant-loop-item
invariant-loop-item g l =
    record {
      written : l.content.items ≡ l.fn.content.items ++ packed_bytes (map g.N.Number.to (take l.item-index l.items));
      fits : FitsNumbers g.N.Number.fits (take l.item-index l.items);
    }
