use Rattle.std.proofs.Common.{rules, ◌≡◌, ap}
use Rattle.std.specs.Ordering.{is_lt}
use Rattle.std.proofs.lemmas.Cmp.{nat_list_cmp_total}
use Rattle.std.proofs.lemmas.List.Sorted.{ranks_by, answers_always}
use Rattle.profile_rows.specs.Aggregate.{rows_of}
use Rattle.profile_rows.specs.declared.frame_totals.FrameTotal.{FrameTotal}
use Rattle.call_tree.specs.State.{weights_of}
use Rattle.call_tree.specs.Totals.{name_order}
use Rattle.call_tree.proofs.Frames.{AreSumsOf-permutation}
use Rattle.call_tree.proofs.tree.CallTree.frame_totals.Goals as goal

pub returns-clause-sums : goal.returns-clause-sums
returns-clause-sums c =
    AreSumsOf-permutation
    (rows_of (weights_of c.args.self.now c.args.value)) c.in_ok-totals.totals.items c.sort_by.new.self.items
    c.sort_by.ensures.permutation c.in_ok-totals.ensures

pub returns-clause-sorted : goal.returns-clause-sorted
returns-clause-sorted c =
    c.in_ok-sort_by.ensures.sorted (λ (a : FrameTotal) (b : FrameTotal). is_lt (name_order a b))
    (ranks_by nat_list_cmp_total (λ (total : FrameTotal). total.name))
    (answers_always _ _ _ (λ f a r q k. let e : r ≡ name_order a.0.now a.1.0.now = search rules in ap is_lt e))
