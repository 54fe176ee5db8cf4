-- The row stands after the last, or the last weighs more.
use Rattle.std.proofs.Common.{rules}
use Rattle.profile_rows.proofs.PuttingTogether.{AreUpTo-push, AreWeighty-push, IsAscending-push}
use Rattle.profile_rows.proofs.summing.add_sum.Goals as goal

pub returns-in_ok-map_err-in-None-clause-sums : goal.returns-in_ok-map_err-in-None-clause-sums
returns-in_ok-map_err-in-None-clause-sums c =
    let before = c.requires.sums in
    record {
      ascending = IsAscending-push c.args.sums.now c.push.new.self c.args.row
          (search rules) before.ascending before.up_to (search rules);
      weighty = AreWeighty-push c.args.sums.now c.push.new.self c.args.row
          (search rules) before.weighty c.requires.some;
      up_to = AreUpTo-push c.args.sums.now c.push.new.self c.args.row (search rules) before.up_to;
    }
