-- Each frame can be a name, and its name is its text.
use Rattle.std.proofs.lemmas.Grind.{common_steps}
use Rattle.std.proofs.Common.{◌≡◌, ℕ, arith, get_or, List, [], map, sym, ◌∙◌}
use denote.Ref.{Bor}
use Rattle.std.proofs.lemmas.List.{get_or-map, length-map, take_more}
use Rattle.profile_rows.proofs.SameNames.{same_from_is_same_name}
use Rattle.name_counts.proofs.TextNumbers.{text_of}
use Rattle.name_counts.proofs.known_names.KnownNames.names_of.Goals as goal
use Rattle.name_counts.proofs.known_names.KnownNames.names_of.Goals.{in-Some+in_ok-clone-in-Some}
use Rattle.name_counts.proofs.known_names.KnownNames.names_of.Goals.{in_default+in_ok-name_of-in_default}

pub name_of-requires : goal.name_of-requires
name_of-requires c = grind (arith, common_steps, c.requires c.loop-frame.frame-index [])

pub loop-frame-preserved : goal.loop-frame-preserved
loop-frame-preserved c =
    let frames = c.args.frames.now in
    let i = c.loop-frame.frame-index in
    let none : Bor (List ℕ) = record { ref_ptr = (0, 0); now = [] } in
    let here = get_or-map text_of frames i none [] c.loop-frame-test.true in
    let more = take_more (map text_of frames) i [] (omega (arith, length-map frames text_of)) in
    let named : c.match-like.push ≡ get_or (map text_of frames) i [] = elim c.match-like.branch [
      | in-Some+in_ok-clone-in-Some w ↦
          let same = same_from_is_same_name w.text.result.now (get_or frames i none).now
          (sym w.eq.ensures ∙ w.if-eq.true) in
          w.push-is ∙ w.in_ok-clone-in-Some.ensures.cases ∙ sym w.text.ensures.text ∙ same ∙ sym here
      | in_default+in_ok-name_of-in_default w ↦ w.push-is ∙ w.in_ok-name_of-in_default.ensures ∙ sym here
    ] in
    cc (c.in_ok-push.ensures.items, named)
