-- The numbers of the first frames stay.
use Rattle.std.proofs.Common.{ap, sym, ◌∙◌, take, List, ℕ, []}
use Rattle.std.specs.Prelude.{slice_index_or}
use Rattle.std.specs.List.{take-map}
use Rattle.name_counts.specs.NumberedRows.{NumberedFrames}
use Rattle.name_counts.proofs.NumberedRows.{numbered}
use Rattle.name_counts.proofs.numbered_row.NumberedRow.keep.Goals as goal

pub returns : goal.returns
returns c =
    let table = c.self.inside.names in
    ap (λ numbers. numbered table.texts numbers table.hashing) c.truncate.ensures.items
    ∙ ap (λ (frames : List (List ℕ)). let row : NumberedFrames =
    record { texts = table.texts; frames = frames; hashing = table.hashing } in row)
    (sym (take-map (λ n. slice_index_or table.texts n []) c.args.depth c.self.inside.numbers.items))
    ∙ ap (λ (row : NumberedFrames). let kept : NumberedFrames =
    record row { frames = take c.args.depth row.frames } in kept) c.self.view_is
