use Rattle.std.proofs.Common.{◌≡◌, ◌++◌, take}
use Rattle.pprof_profile.specs.Writing.{bytes_of_fields, each_field, FitsTexts}
use Rattle.pprof_profile.proofs.writing.write_texts.Given as goal

abbrev pub invariant-loop-text : goal.invariant-loop-text
invariant-loop-text l =
    record {
      written : l.out.items ≡ l.fn.out.items ++ bytes_of_fields (each_field l.number (take l.text-index l.texts));
      fits : FitsTexts (take l.text-index l.texts);
    }
