use Rattle.std.proofs.Common.{◌≡◌, ◌++◌, map, take}
use Rattle.pprof_profile.specs.Forms.{Fits, bytes_of}
use Rattle.pprof_profile.specs.Writing.{bytes_of_fields, each_field, FitsEach}
use Rattle.pprof_profile.proofs.writing.write_each.Given as goal

abbrev pub invariant-loop-item : goal.invariant-loop-item
invariant-loop-item g l =
    let form = g.M.Written.form in
    record {
      written : l.out.items
          ≡ l.fn.out.items ++ bytes_of_fields (each_field l.number (map (bytes_of form) (take l.item-index l.items)));
      fits : FitsEach (Fits form) (bytes_of form) (take l.item-index l.items);
    }
