-- Line by line, until there are enough or no end is left.
use Rattle.std.proofs.lemmas.Grind.{common_steps}
use Rattle.std.proofs.Common.{◌≡◌, ◌+◌, ◌-◌, ◌<◌, ◌≢◌, ◌∙◌, ℕ, length, take, drop, get_or, ap, inl, inr, arith}
use Rattle.std.specs.Prelude.{◌==◌}
use Rattle.std.proofs.lemmas.List.{length-drop, length-take-le, take_all}
use Rattle.collect_sources.proofs.Counting.{last_start, lines_before, next_start, rest_at}
use Rattle.collect_sources.proofs.text.line_start.Goals as goal

pub returns-clause-many : goal.returns-clause-many
returns-clause-many c =
    let before = lines_before c.args.text.now c.loop.counter c.loop.start c.loop.invariant in
    let all : c.loop.counter ≡ c.args.number = grind (arith, common_steps) in
    record { few = omega (arith, before, all); all = inr (omega (arith, before, all)) }

pub returns-in-None-clause-many : goal.returns-in-None-clause-many
returns-in-None-clause-many c =
    let text = c.args.text.now in
    let start = c.loop.start in
    let left = length-drop start text in
    let size = length-take-le (length text - start) (drop start text) (omega (arith, left)) in
    let whole = take_all (length text) text (omega arith) in
    let few = last_start text c.loop.counter start c.loop.invariant
    (λ k within feed. c.in-None.ensures k (omega arith) (omega (arith, size, within))
    (ap (λ byte. byte == 10) (rest_at text start k within ∙ feed))) in
    record { few = rw whole (omega (arith, few, c.loop-test.true)); all = inl whole }

pub loop-preserved : goal.loop-preserved
loop-preserved c =
    let text = c.args.text.now in
    let start = c.loop.start in
    let inside : start + c.in-Some.end < length text = grind (arith, common_steps, c.in-Some.ensures) in
    next_start text c.loop.counter start c.in-Some.end c.loop.invariant inside
    (λ k lt feed. c.in-Some.ensures.0.before k (omega arith) lt
    (ap (λ byte. byte == 10) (rest_at text start k (omega (arith, inside, lt)) ∙ feed)))
    (grind (arith, common_steps, c.in-Some.ensures))
