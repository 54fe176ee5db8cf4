-- The frame is the text of its number.
use Rattle.std.proofs.lemmas.Grind.{common_steps}
use Rattle.std.proofs.Common.{ap, arith, refl, sym, subst, ◌∙◌, get_or, length, []}
use Rattle.std.proofs.lemmas.Option.{slice_get_read}
use Rattle.name_counts.specs.NumberedRows.{HasFrameAt, NumberedFrames}
use Rattle.name_counts.specs.TextTables.{no_text}
use Rattle.name_counts.proofs.NumberedRows.{frame_there}
use Rattle.name_counts.proofs.TextNumbers.{shown_at}
use Rattle.profile_rows.proofs.SameNames.{same_from_is_same_name}
use Rattle.name_counts.proofs.numbered_row.NumberedRow.is_at.Goals as goal

pub returns-in-Some : goal.returns-in-Some
returns-in-Some c = λ same.
    let number = c.in-Some.number.now in
    let numbers = c.self.inside.numbers.items in
    subst (λ (row : NumberedFrames). HasFrameAt c.args.depth c.args.frame.now row row) c.self.view_is
    (frame_there c.self.inside.names.texts numbers c.self.inside.names.hashing c.args.depth number
    c.args.frame.now c.self.invariant (slice_get_read numbers (length numbers) c.args.depth number refl
    (grind (arith, common_steps)) (grind (arith, common_steps)))
    (ap (λ ts. get_or ts number []) (sym c.texts.ensures) ∙ shown_at c.texts.result.now number no_text
    ∙ same_from_is_same_name _ c.args.frame.now (sym c.eq.ensures ∙ same))
    (grind (arith, common_steps)))
