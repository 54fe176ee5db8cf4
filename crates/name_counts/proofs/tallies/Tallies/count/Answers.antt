-- The names of the row are counted, and then its leaf.
use Rattle.std.proofs.lemmas.Grind.{common_steps}
use Rattle.std.proofs.Common.{◌≡◌, length, refl, ap, ◌∙◌, subst, arith, None, rules}
use Rattle.std.proofs.lemmas.List.{length-set}
use Rattle.profile_rows.specs.declared.weighted_stacks.WeightedStack.{WeightedStack}
use Rattle.name_counts.specs.Tallies.{IsNumberedStack}
use Rattle.name_counts.proofs.TallyLaws.{counted-leaf, counted-none, cumulative-most, flat-most, numbers_counted-flat}
use Rattle.name_counts.proofs.tallies.Tallies.count.Goals as goal

pub count_names-requires-clause-fits : goal.count_names-requires-clause-fits
count_names-requires-clause-fits c = grind (arith, common_steps, cumulative-most)

pub count_leaf-requires-clause-fits : goal.count_leaf-requires-clause-fits
count_leaf-requires-clause-fits c = grind (arith, common_steps, flat-most, numbers_counted-flat)

pub returns-in-Some : goal.returns-in-Some
returns-in-Some c = λ names rows stack are this.
    let row : WeightedStack = record { stack = stack; weight = c.args.weight } in
    counted-leaf rows row names c.args.numbers.now c.in-Some.leaf c.args.self.now _ c.count_names.new.tallies.items are
    (subst (IsNumberedStack names stack c.args.numbers.now) c.in-Some.is this)
    c.if-weight-eq0.false refl c.count_names.ensures.many c.count_names.ensures.each c.count_leaf.ensures
    (ap length c.count_leaf.ensures ∙ length-set c.count_names.new.tallies.items c.in-Some.leaf _)

pub returns-in_default : goal.returns-in_default
returns-in_default c = λ names rows stack are this.
    let row : WeightedStack = record { stack = stack; weight = c.args.weight } in
    let none : c.args.leaf ≡ None = search rules in
    counted-none rows row names c.args.numbers.now c.args.self.now _ are (subst (IsNumberedStack
    names stack c.args.numbers.now) none this) refl c.count_names.ensures.many c.count_names.ensures.each
