-- The law of sorted top lists, by all names in their order: the chosen ones and, after them, those left out.
use Rattle.std.proofs.Common.{◌∙◌}
use Rattle.profile_rows.specs.TopList.{top_cmp}
use Rattle.flame_report.specs.Answers.{ranking_of}
use Rattle.profile_rows.proofs.Ranking.{top_cmp-total}
use Rattle.flame_report.proofs.Selected.{ranked_whole}
use Rattle.flame_report.proofs.top.rank_names.Goals as goal

pub returns : goal.returns
returns c = λ rows sums.
    let all = ranked_whole (top_cmp (ranking_of c.args.rank)) (top_cmp-total (ranking_of c.args.rank)) c.args.count
    c.args.list.items c.in_ok-first.first.items c.sort_names.new.list.items
    c.in_ok-first.ensures c.in_ok-sort_names.ensures.permutation c.in_ok-sort_names.ensures.sorted in
    all.3 ∙ c.top_list_is_front_of_sorted.ensures (ranking_of c.args.rank) c.args.count rows
    c.args.list.items all.0 sums all.1 all.2
