-- The ids are those of the numbers of the frames' names.
use Rattle.std.proofs.Common.{◌+◌, ap, refl}
use mathlib.Core.List.{map-map}
use Rattle.std.specs.Prelude.{reverse}
use Rattle.std.proofs.lemmas.Result.{err_from_is_err_and}
use Rattle.name_counts.specs.TextTables.{number_in}
use Rattle.ordered_rows.specs.StackFrames.{frames_of}
use Rattle.profile_samples.proofs.folded_export.SampledRows.read_new.Goals as goal

pub returns-in_err-read_stack : goal.returns-in_err-read_stack
returns-in_err-read_stack c = λ line one this.
    let told = err_from_is_err_and c.from_residual.result c.from_residual.ensures.1 in
    rw (told.1, told.2) (c.in_err-read_stack.ensures line one this)

pub returns-in_err-replace_ids : goal.returns-in_err-replace_ids
returns-in_err-replace_ids c = λ line one this.
    let told = err_from_is_err_and c.from_residual-in_err-replace_ids.result
    c.from_residual-in_err-replace_ids.ensures.1 in
    let (stands, row) = c.in_ok-read_stack.ensures line one this in
    rw (told.1, told.2) (record { stack = frames_of c.args.stack.now; weight = c.args.weight }, row.spelled, row.fits)

pub returns : goal.returns
returns c = λ line one this.
    let (stands, row) = c.in_ok-read_stack.ensures line one this in (
      record {
        row = row;
        names = stands.names;
        ids_are = rw (c.in_ok-replace_ids.ensures, c.numbers.ensures.numbers, stands.frames)
            (ap reverse (map-map (λ number. number + 1) (number_in c.read_stack.new.row.texts)
            (frames_of c.args.stack.now)));
        samples = refl;
        total = refl;
      },
      refl,
      stands.frames,
    )
