-- What the closure leaves are the kept rows, which weigh no more than all.
use Rattle.std.proofs.Common.{◌≡◌, ◌∙◌, ap, arith, rules, sym, true}
use Rattle.std.proofs.lemmas.Fn.{filter_same}
use Rattle.std.specs.Option.{option_copied}
use Rattle.profile_rows.specs.Rows.{is_kept, kept_rows, total_of}
use Rattle.profile_rows.proofs.Kept.{weight_where-kept-le}
use Rattle.profile_rows.proofs.weighted_stacks.WeightedStacks.keep.Goals as goal

rows_are : (c : goal.After-self-1) → c.retain.new.self.items
    ≡ kept_rows (option_copied c.args.focus) (option_copied c.args.ignored) c.self.inside.rows.items
rows_are c = filter_same _ (λ row. is_kept (option_copied c.args.focus) (option_copied c.args.ignored) row.stack) _
    (λ x b f' k. search rules) _ _ c.retain.ensures.filtered

pub returns : goal.returns
returns c = rows_are c
    ∙ ap (λ rows. kept_rows (option_copied c.args.focus) (option_copied c.args.ignored) rows) c.self.view_is

pub invariant_of-self : goal.invariant_of-self
invariant_of-self c =
    let total = c.kept_total-total.ensures ∙ ap total_of (sym (returns c)) in
    let most = weight_where-kept-le
    (option_copied c.args.focus) (option_copied c.args.ignored) (λ stack. true) c.self.inside.rows.items in
    let weighs = ap total_of (rows_are c) in
    let fits = c.self.invariant.1 in
    (total, omega (arith, most, weighs, fits))
