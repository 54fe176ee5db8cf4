use Rattle.std.proofs.Common.{rules}
use Rattle.std.specs.Ordering.{is_lt}
use Rattle.std.proofs.lemmas.Fn.{always_returns_same}
use Rattle.std.proofs.lemmas.List.Sorted.{ranks_by}
use Rattle.profile_rows.specs.TopList.{top_cmp}
use Rattle.flame_report.specs.Answers.{ranking_of}
use Rattle.profile_rows.specs.declared.frame_totals.FrameTotal.{FrameTotal}
use Rattle.profile_rows.proofs.Ranking.{top_cmp-total}
use Rattle.flame_report.proofs.top.sort_names.Goals as goal

pub returns-clause-sorted : goal.returns-clause-sorted
returns-clause-sorted c =
    c.in_ok-sort_by.ensures.sorted (λ (a b : FrameTotal). is_lt (top_cmp (ranking_of c.args.rank) a b))
    (ranks_by (top_cmp-total (ranking_of c.args.rank)) (λ (total : FrameTotal). total))
    (always_returns_same _ _ _ (λ a r f k. search rules))
