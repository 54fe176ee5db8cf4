-- The lists of rows are compared row by row.
use Rattle.std.proofs.Common.{rules, ◌≡◌, sym, ◌∙◌}
use Rattle.std.specs.Cmp.Lexicographic.{pointwise}
use Rattle.profile_rows.specs.Equality.{row_eq}
use Rattle.profile_rows.proofs.EqualRows.{rows_eq-decides}
use Rattle.profile_rows.proofs.weighted_stacks.WeightedStacksPartialEq.eq.Goals as goal

pub returns-clause-equal : goal.returns-clause-equal
returns-clause-equal c =
    let compared : c.eq.result ≡ pointwise row_eq c.args.self.now c.args.other.now = search rules in
    let decided = rows_eq-decides c.args.self.now c.args.other.now in
    (λ e. decided.0 (sym compared ∙ e), λ same. compared ∙ decided.1 same)
