use Rattle.std.proofs.Common.{◌≡◌, drop, sym, ap, ◌∙◌, subst}
use mathlib.Core.List.{IsPrefix}
use Rattle.shown_versions.specs.declared.known.KnownVersion.{KnownVersion}
use Rattle.shown_versions.proofs.Showing.{turns, last_decides}
use Rattle.shown_versions.proofs.writer.show.Goals as goal

pub publish_as-requires : goal.publish_as-requires
publish_as-requires g c next is =
    let first : KnownVersion = c.args.writer.desk.shown.value in
    let now : c.loop.writer.desk.shown.value ≡ first = c.loop.invariant.2
    ∙ ap (λ d. d.shown.value) c.append-writer.ensures.desk in
    let e : next ≡ c.args.version = (rw c.loop.invariant.3 at is) ∙ last_decides (λ (v : KnownVersion). v)
    c.loop.writer.desk.shown.value (drop c.args.writer.behind c.args.writer.log.items) c.args.version in
    rw now (turns _ _ first next (ap (λ (v : KnownVersion). v.seen.book) e ∙ c.requires.history)
    (ap (λ (v : KnownVersion). v.width) e ∙ c.requires.width)
    (subst (λ (v : KnownVersion). IsPrefix first.seen.log v.seen.log) (sym e) c.requires.more))
