-- The tallies that come are of no row.
use Rattle.std.specs.Prelude.{vec_len}
use Rattle.std.proofs.Common.{rules, ◌≡◌, ◌-◌, ◌++◌, length, replicate, refl, ap, sym, ◌∙◌, arith}
use Rattle.std.proofs.lemmas.List.{append-nil, take_all}
use Rattle.name_counts.specs.TextTables.{with_texts}
use Rattle.name_counts.proofs.TallyLaws.{zero_tally}
use Rattle.name_counts.proofs.NumberedRows.{names-new}
use Rattle.name_counts.proofs.tallies.Tallies.reach.Goals as goal

pub returns-in_ok-resize-clause-counted : goal.returns-in_ok-resize-clause-counted
returns-in_ok-resize-clause-counted c = λ names more rows long are.
    let before = c.args.self.now.names.items in
    let many = are.many in
    let len = c.len.ensures in
    let more_than = c.if-count-len.true in
    let held : vec_len c.args.self.now.names ≡ length before = search rules in
    let size : c.args.count - vec_len c.args.self.now.names ≡ length (with_texts names more) - length names =
    omega (arith, long, many, held) in
    let zero : c.default.result ≡ zero_tally = search rules in
    names-new rows names more c.args.self.now _ refl
    (c.in_ok-resize.ensures.items
    ∙ ap (λ kept. kept ++ replicate (c.args.count - vec_len c.args.self.now.names) c.default.result)
    (take_all c.args.count before (omega (arith, len, more_than)))
    ∙ ap (λ n. before ++ replicate n c.default.result) size
    ∙ ap (λ tally. before ++ replicate (length (with_texts names more) - length names) tally) zero) are

pub returns-else-count-len-clause-counted : goal.returns-else-count-len-clause-counted
returns-else-count-len-clause-counted c = λ names more rows long are.
    let before = c.args.self.now.names.items in
    let many = are.many in
    let len = c.len.ensures in
    let most = c.if-count-len.false in
    let none : length (with_texts names more) - length names ≡ 0 = omega (arith, long, many, len, most) in
    names-new rows names more c.args.self.now _ refl
    (sym (append-nil before) ∙ ap (λ n. before ++ replicate n zero_tally) (sym none)) are
