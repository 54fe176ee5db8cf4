-- A path is called by its last name, and each frame can be a name.
use Rattle.std.proofs.lemmas.Grind.{common_steps}
use Rattle.std.proofs.Common.{arith, [], ℕ, ◌≡◌, ◌≤◌, ◌<◌, ◌-◌, List, get_or, length, map, take, subst, suc}
use Rattle.std.proofs.Common.{◌∙◌}
use Rattle.std.proofs.lemmas.List.{get_or-map, length-map}
use denote.Ref.{Bor}
use Rattle.profile_rows.specs.Layout.{last_name}
use Rattle.name_counts.proofs.TextNumbers.{text_of}
use Rattle.name_counts.specs.TextTables.{no_text}
use Rattle.flame_report.proofs.Narrow.{last_name-take}
use Rattle.flame_report.proofs.layout.rect_at.Goals as goal
use Rattle.flame_report.proofs.layout.rect_at.Goals.{then-depth-eq0, else-depth-eq0+in_ok-name_of}

-- the last name of a path is the text of its last frame
last_frame : (frames : List (Bor (List ℕ))) (depth : ℕ) → 0 < depth → depth ≤ length frames
    → last_name (take depth (map text_of frames)) ≡ (get_or frames (depth - 1) no_text).now
last_frame frames depth some deep =
    let back : suc (depth - 1) ≡ depth = omega (arith, some) in
    subst (λ n. last_name (take n (map text_of frames)) ≡ (get_or frames (depth - 1) no_text).now) back
    (last_name-take (map text_of frames) (depth - 1) [] (omega (arith, length-map frames text_of))
    ∙ get_or-map text_of frames (depth - 1) no_text [] (omega arith))

pub name_of-requires : goal.name_of-requires
name_of-requires c = grind (arith, common_steps, c.requires.names (c.args.depth - 1) [])

pub returns : goal.returns
returns c = grind (arith, common_steps, text_of, then-depth-eq0, else-depth-eq0+in_ok-name_of, last_frame)
