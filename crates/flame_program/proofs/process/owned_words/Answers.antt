use Rattle.std.proofs.Common.{refl}
use Rattle.std.specs.Vec.Iter.{into_iter_items}
use Rattle.std.proofs.lemmas.Iterator.{items_from_collect}
use Rattle.std.proofs.lemmas.Iterator.Adapters.{YieldsList-from_vec}
use Rattle.flame_program.proofs.process.owned_words.Goals as goal

pub returns : goal.returns
returns c = items_from_collect _ c.collect.ensures.ran
    (YieldsList-from_vec (into_iter_items c.args.words) refl c.args.words.rest.ok.0)
