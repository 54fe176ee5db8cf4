use Rattle.std.proofs.Common.{rules, tests, string_bytes}
use Rattle.std.proofs.lemmas.Iterator.{YieldsList-from_map_by, YieldsList-from_slice}
use Rattle.std.proofs.lemmas.Iterator.Consumers.{YieldsList-at, map_from_collect}
use Rattle.flame_program.proofs.process.texts_in.Goals as goal

pub returns : goal.returns
returns c = map_from_collect _ c.collect.ensures.ran
    (YieldsList-from_map_by _ (λ text. text.now) string_bytes
    (YieldsList-at c.map.ensures.source (YieldsList-from_slice c.args.words.now c.iter.ensures.rest))
    c.map.ensures.closure (λ x r q k. search (rules, tests)))
