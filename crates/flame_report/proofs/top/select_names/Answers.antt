use Rattle.std.proofs.Common.{rules}
use Rattle.std.specs.Ordering.{is_lt}
use Rattle.std.proofs.lemmas.Fn.{always_returns_same}
use Rattle.std.proofs.lemmas.List.Sorted.{ranks_by}
use Rattle.std.proofs.lemmas.Result.{IfOk-weaker}
use Rattle.profile_rows.specs.TopList.{top_cmp}
use Rattle.flame_report.specs.Answers.{ranking_of}
use Rattle.profile_rows.specs.declared.frame_totals.FrameTotal.{FrameTotal}
use Rattle.profile_rows.proofs.Ranking.{top_cmp-total}
use Rattle.flame_report.proofs.Selected.{selected_first}
use Rattle.flame_report.proofs.top.select_names.Goals as goal

-- the selected element is the first that is left out
pub returns-then-count-len : goal.returns-then-count-len
returns-then-count-len c =
    let chosen = c.select_nth_unstable_by-first.result in
    let split = c.select_nth_unstable_by-first.ensures.partitioned
    (λ (a b : FrameTotal). is_lt (top_cmp (ranking_of c.args.rank) a b))
    (ranks_by (top_cmp-total (ranking_of c.args.rank)) (λ (total : FrameTotal). total))
    (always_returns_same _ _ _ (λ a r f k. search rules)) in
    IfOk-weaker c.keep_totals.result _ _ (λ first is. rw is (selected_first
    (top_cmp (ranking_of c.args.rank)) (top_cmp-total (ranking_of c.args.rank)) c.args.count c.args.list.items _ _ _
    (rw c.deref_mut.ensures.value at c.select_nth_unstable_by-first.ensures.permutation)
    c.select_nth_unstable_by-first.ensures.front_len split)) c.keep_totals.ensures
