-- One more.
use Prim.Native.Nat.{suc}
use Rattle.std.proofs.Common.{◌≡◌, ◌+◌, ◌-◌, ◌++◌, ap, sym, ◌∙◌, arith}
use Rattle.std.proofs.lemmas.List.{append_assoc}
use Rattle.live_report.specs.Live.{titled_at, titled_from}
use Rattle.live_report.proofs.texts.titled_reports.Goals as goal

pub loop-value-preserved : goal.loop-value-preserved
loop-value-preserved c = λ rows all.
    let value = c.loop-value.value in
    let more = c.args.tree.now.width - (value + 1) in
    let left : c.args.tree.now.width - value ≡ suc more = omega (arith, c.requires, c.loop-value-test.true) in
    ap (λ text. text ++ titled_from (value + 1) more rows) (c.in_ok-push_titled.ensures rows (all value))
    ∙ append_assoc c.loop-value.text.items (titled_at value rows) (titled_from (value + 1) more rows)
    ∙ ap (λ k. c.loop-value.text.items ++ titled_from value k rows) (sym left)
    ∙ c.loop-value.invariant rows all
