use Rattle.std.proofs.Common.{◌∙◌, arith}
use Rattle.shared_pages.proofs.Parts.{part_lt, item_lt, item_is}
use Rattle.shared_pages.proofs.table.TablePart.read.Goals as goal

pub index-requires : goal.index-requires
index-requires g c =
    let lt = part_lt c.self.invariant c.self.view_is c.place-index.ensures c.requires in
    omega (arith, lt, c.self.inside.parts.ok.0)

pub read-requires : goal.read-requires
read-requires g c =
    item_lt c.self.invariant c.self.view_is c.place-index.ensures c.requires c.index.ensures c.deref.ensures

pub returns : goal.returns
returns g c = c.read.ensures ∙ item_is c.self.invariant c.self.view_is c.place-index.ensures c.requires
    c.index.ensures c.deref.ensures c.read.result.now
