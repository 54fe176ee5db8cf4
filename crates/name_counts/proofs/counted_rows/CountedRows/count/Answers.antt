-- The row stands there, and is counted.
use Rattle.std.proofs.Common.{All, OnOk, ap, subst, sym, ◌++◌, ◌∷◌, ◌∙◌, []}
use Rattle.profile_rows.specs.Names.{IsName}
use Rattle.name_counts.specs.Tallies.{HasCounted}
use Rattle.name_counts.specs.TextTables.{with_texts}
use Rattle.name_counts.proofs.counted_rows.CountedRows.count.Goals as goal

pub count_row-requires-clause-fits : goal.count_row-requires-clause-fits
count_row-requires-clause-fits g c = c.requires.fits

pub count_row-requires-clause-names : goal.count_row-requires-clause-names
count_row-requires-clause-names g c = subst (All IsName) (sym c.in_ok-replace.ensures.frames) c.requires.names

pub count_row-requires-clause-counted : goal.count_row-requires-clause-counted
count_row-requires-clause-counted g c =
    let (rows, this) = c.requires.counted in
    let stands = c.in_ok-replace.ensures in
    let texts = c.args.self.now.row.texts in
    (rows, (texts, this, stands.names ∙ ap (with_texts texts) (sym stands.frames)))

pub returns : goal.returns
returns g c = λ rows this.
    let stands = c.in_ok-replace.ensures in
    let texts = c.args.self.now.row.texts in
    subst (λ stack. OnOk c.count_row.result
    (HasCounted (rows ++ (record { stack = stack; weight = c.args.weight }) ∷ []) c.count_row.new.self)) stands.frames
    (c.count_row.ensures rows (texts, this, stands.names ∙ ap (with_texts texts) (sym stands.frames)))
