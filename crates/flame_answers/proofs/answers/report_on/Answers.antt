-- A query that keeps every row is answered by all of them.
use Rattle.std.proofs.Common.{ℕ, refl}
use Rattle.std.specs.declared.vec.Vec.{Vec}
use Rattle.flame_report.specs.declared.query.Kind.TheVariants as kinds
use Rattle.flame_words.specs.declared.request.Format.TheVariants.{Folded, Pprof}
use Rattle.flame_answers.proofs.Inputs.{answered-of_all}
use Rattle.flame_answers.proofs.answers.report_on.Goals as goal

pub returns-in-Folded-Top : goal.returns-in-Folded-Top
returns-in-Folded-Top c =
    answered-of_all (λ (text : Vec ℕ _). text.items) c.args.source.now c.args.query.now Folded
    (kinds.Top c.in-Folded-Top.rank c.in-Folded-Top.count) c.args.input.now c.folded_top.result
    c.in-Folded-Top.is-0 c.in-Folded-Top.is-1 (c.keeps_all.ensures.keeps c.if-keeps_all.true)
    (c.folded_top.ensures c.args.source.now.value)

pub returns-in-Pprof-Top : goal.returns-in-Pprof-Top
returns-in-Pprof-Top c =
    answered-of_all (λ (text : Vec ℕ _). text.items) c.args.source.now c.args.query.now Pprof
    (kinds.Top c.in-Pprof-Top.rank c.in-Pprof-Top.count) c.args.input.now c.profile_top.result
    c.in-Pprof-Top.is-0 c.in-Pprof-Top.is-1 (c.if-keeps_all-2.ensures.keeps refl) c.profile_top.ensures
