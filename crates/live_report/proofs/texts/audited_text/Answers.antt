-- What was audited is what was dealt.
use Rattle.std.proofs.Common.{ℕ, ◌≡◌, ◌++◌, List, Option, Some, None, cond, filter, length, map, ap, refl, sym}
use Rattle.std.proofs.Common.{◌∙◌}
use Rattle.std.specs.Prelude.{IsPermutation}
use Rattle.profile_rows.specs.Aggregate.{aggregate_of}
use Rattle.profile_rows.specs.Values.{BatchState, rows_at}
use Rattle.call_tree.specs.State.{TreeState, weights_of}
use Rattle.op_book.specs.Books.{IsReplay, JournalState}
use Rattle.log_audit.specs.Matching.{LogsMatch, PlainStep, steps_in}
use Rattle.op_book.specs.Operations.{is_change, operations_of, profile_after}
use Rattle.op_book.specs.declared.entry.SessionLog.{SessionLog}
use Rattle.live_report.specs.Live.{count_line, operations_in, reports_of}
use Rattle.live_report.proofs.Audited.{profile_weighs, run_counts, warmed_if}
use Rattle.live_report.proofs.texts.audited_text.Goals as goal

pub returns : goal.returns
returns c = λ batch width worked.
    let options = c.args.options in
    let logs : List SessionLog = c.args.logs.now in
    let journal : JournalState = c.args.journal.now in
    let warm : Option BatchState = cond options.warm (Some batch) None in
    let run : List PlainStep = c.in_ok-run.run' in
    let matched : LogsMatch journal logs = c.in_ok-run.ensures.audited.matched in
    let once : IsPermutation (steps_in logs) run = c.in_ok-run.ensures.audited.each_receipt_once in
    let changes : filter is_change (map (λ (step : PlainStep). step.op) run) ≡ operations_of journal.entries =
    c.in_ok-run.ensures.audited.changes in
    let warmed = warmed_if journal batch options.warm warm logs worked.lists matched worked.told refl
    c.in_ok-check_warm.ensures in
    let replay : IsReplay journal.entries journal.tree = c.tree.ensures.kept.replay in
    let tree : c.tree.result.now ≡ journal.tree = c.tree.ensures.tree in
    let wide = ap (λ (t : TreeState). t.width) tree ∙ c.tree.ensures.kept.wide in
    let all : (value : ℕ) → aggregate_of (rows_at value batch.rows) ≡ weights_of c.tree.result.now value =
    λ value. c.aggregate_is_by_weights.ensures
    (rows_at value batch.rows) (rows_at value (profile_after (operations_of journal.entries)))
    (profile_weighs batch options.sessions warm worked.lists logs run
    (operations_of journal.entries) worked.dealt worked.told once changes warmed
    c.additions_count_since_the_last_reset.ensures.last c.additions_count_since_the_last_reset.ensures.all value)
    ∙ sym (replay.aggregate value) ∙ ap (λ (t : TreeState). weights_of t value) (sym tree) in
    let count : length c.steps-operations.result.now ≡ operations_in options batch =
    ap length c.steps-operations.ensures
    ∙ run_counts batch options warm worked.lists logs run worked.dealt worked.told once refl in
    c.in_ok-push_count.ensures
    ∙ ap (λ text. text ++ count_line (length c.steps-operations.result.now))
    (c.in_ok-text.ensures batch (width ∙ sym wide) all ∙ ap (λ b. reports_of b batch) c.all.ensures)
    ∙ ap (λ n. reports_of options.all batch ++ count_line n) count
