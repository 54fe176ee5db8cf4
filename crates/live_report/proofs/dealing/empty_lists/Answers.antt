-- One more.
use Rattle.std.proofs.Common.{[], ◌∷◌, ◌++◌, map, ap, ◌∙◌}
use lib.ListN.{replicate-append-replicate}
use Rattle.std.proofs.lemmas.List.{map_push}
use Rattle.op_book.specs.Operations.{plain_op}
use Rattle.live_report.proofs.Lists.{none}
use Rattle.live_report.proofs.dealing.empty_lists.Goals as goal

pub loop-preserved : goal.loop-preserved
loop-preserved c =
    ap (map (λ list. map plain_op list.items)) c.in_ok-push.ensures.items
    ∙ map_push (λ list. map plain_op list.items) c.loop.lists.items c.new.result
    ∙ ap (λ ops. map (λ list. map plain_op list.items) c.loop.lists.items ++ map plain_op ops ∷ []) c.new.ensures.items
    ∙ ap (λ lists. lists ++ none ∷ []) c.loop.invariant
    ∙ replicate-append-replicate c.loop.counter 1 none
