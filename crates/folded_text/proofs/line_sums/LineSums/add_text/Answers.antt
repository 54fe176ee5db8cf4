-- The stack text is a row more.
use Rattle.std.proofs.lemmas.Grind.{common_steps}
use Rattle.std.proofs.Common.{◌≡◌, ◌++◌, ◌∷◌, [], arith, ◌∙◌}
use Rattle.std.specs.Prelude.{string_bytes}
use Rattle.indexmap.proofs.CallerLemmas.{insert_entry-new}
use Rattle.profile_rows.proofs.MergedRows.{AddsRow-push}
use Rattle.folded_text.specs.LineSums.{kept_rows}
use Rattle.ordered_rows.specs.SpelledRows.{rows_with}
use Rattle.folded_text.proofs.KeptTexts.{AreKeptTexts-push, lookup-none}
use Rattle.folded_text.proofs.line_sums.LineSums.add_text.Goals as goal

-- the new row is the last
pushed : (c : goal.After-self-2-1)
    → c.insert.new.self.entries ≡ c.self.inside.weights.entries ++ (c.in_ok-kept.kept, c.args.weight) ∷ []
pushed c =
    let none : rows_with (string_bytes c.in_ok-kept.kept) (kept_rows c.self.inside.weights.entries) ≡ 0 =
    rw (c.in_ok-kept.ensures.ok, c.self.view_is) c.requires.new_text in
    let absent = lookup-none (string_bytes c.in_ok-kept.kept) c.self.inside.weights.entries none in
    c.in_ok-insert.ensures.entries ∙ insert_entry-new _ c.self.inside.weights c.in_ok-kept.kept c.args.weight absent

pub invariant_of-self-2 : goal.invariant_of-self-2
invariant_of-self-2 c =
    rw (pushed c) (AreKeptTexts-push c.self.inside.weights.entries c.in_ok-kept.kept c.args.weight c.self.inside.total
    (rw (c.self.invariant.total_is, c.self.view_is) c.requires.fits) (rw c.in_ok-kept.ensures.ok c.requires.spelled)
    c.self.invariant)

pub returns : goal.returns
returns c =
    let all = pushed c in
    AddsRow-push _ _ _ (grind (arith, common_steps)) c.requires.fits
