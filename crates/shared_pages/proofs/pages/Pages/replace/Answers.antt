use Rattle.std.proofs.Common.{arith}
use Rattle.std.proofs.lemmas.Result.{MatchResult-weaker}
use Rattle.shared_pages.proofs.InPages.{put_first, put_after}
use Rattle.shared_pages.proofs.pages.Pages.replace.Goals as goal

pub returns-then-at-self : goal.returns-then-at-self
returns-then-at-self g c = MatchResult-weaker c.put_in_part.result c.put_in_part.ensures
    (λ _. put_first c.self.invariant c.self.view_is c.args.at c.args.item (omega (arith, c.if-at-self.true)))
    (λ _ same. rw same c.self.view_is)

pub returns-else-at-self : goal.returns-else-at-self
returns-else-at-self g c = MatchResult-weaker c.put_last.result c.put_last.ensures
    (λ _. put_after c.self.invariant c.self.view_is c.args.at c.args.item (omega (arith, c.if-at-self.false))
    c.requires.within)
    (λ _ same. rw same c.self.view_is)
