use Rattle.std.proofs.Common.{◌∙◌, arith}
use Rattle.shared_pages.proofs.InPages.{put_next}
use Rattle.shared_pages.proofs.pages.put_all.Goals as goal

pub loop-index-preserved : goal.loop-index-preserved
loop-index-preserved g c =
    put_next _ _ c.args.from _ c.loop-index.index c.in_ok-item.item c.read.result.now _ c.loop-index.invariant
    (omega (arith, c.loop-index-test.true, c.len-index-end.ensures))
    (c.requires.exact c.read.result.now c.in_ok-item.item c.in_ok-item.ensures.cases ∙ c.read.ensures)
    c.in_ok-put_in_part.ensures
