-- One more.
use Prim.Native.Nat.{suc}
use Rattle.std.proofs.Common.{◌≡◌, ◌+◌, ◌-◌, ◌++◌, ◌∷◌, [], map, ap, sym, ◌∙◌, arith}
use Rattle.std.proofs.lemmas.List.{map_push}
use Rattle.op_book.specs.Operations.{plain_op}
use Rattle.live_report.specs.Dealing.{total_at, totals_from}
use Rattle.live_report.proofs.Lists.{totals-more}
use Rattle.live_report.proofs.dealing.ask_totals.Goals as goal

pub loop-value-preserved : goal.loop-value-preserved
loop-value-preserved c =
    let value = c.loop-value.value in
    let more = c.args.width - (value + 1) in
    let left : c.args.width - value ≡ suc more = omega (arith, c.get-value-end.ensures.count, c.loop-value-test.true) in
    let pushed : map plain_op c.push.new.self.items ≡ map plain_op c.loop-value.list.items ++ total_at value ∷ [] =
    ap (map plain_op) c.in_ok-push.ensures.items ∙ map_push plain_op c.loop-value.list.items c.in_ok-op.op
    ∙ ap (λ op. map plain_op c.loop-value.list.items ++ op ∷ []) c.in_ok-op.ensures in
    ap (λ ops. ops ++ totals_from (value + 1) more) pushed
    ∙ totals-more value more (map plain_op c.loop-value.list.items)
    ∙ ap (λ k. map plain_op c.loop-value.list.items ++ totals_from value k) (sym left)
    ∙ c.loop-value.invariant
