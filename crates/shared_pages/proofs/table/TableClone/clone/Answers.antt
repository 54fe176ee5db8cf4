use Rattle.shared_pages.proofs.Parts.{cloned}
use Rattle.shared_pages.proofs.table.TableClone.clone.Goals as goal

pub invariant_of-result : goal.invariant_of-result
invariant_of-result g c = (cloned c.self.invariant c.self.view_is c.in_ok-clone.ensures.cases.0).0

pub returns : goal.returns
returns g c = record { cases = (cloned c.self.invariant c.self.view_is c.in_ok-clone.ensures.cases.0).1 }
