-- The numbers of all functions' names, whose ids differ.
use Rattle.std.proofs.lemmas.Grind.{common_steps}
use Rattle.std.proofs.Common.{arith, rules, ◌≡◌, map}
use Rattle.std.proofs.lemmas.Iterator.{YieldsList-from_map, YieldsList-from_slice, items_from_collect}
use Rattle.std.proofs.lemmas.Iterator.Consumers.{YieldsList-at}
use Rattle.std.proofs.lemmas.Result.{IfOk-at_ok}
use Rattle.pprof_profile.specs.declared.messages.Function.{Function}
use Rattle.profile_samples.specs.NameNumbers.{number_by}
use Rattle.profile_samples.proofs.ItemsById.{ids_differ}
use Rattle.profile_samples.proofs.FrameNumbers.{function_numbers_are}
use Rattle.profile_samples.proofs.function_numbers.FunctionNumbers.new.Goals as goal

pub invariant_of-result : goal.invariant_of-result
invariant_of-result c =
    let functions = c.as_slice-functions.result.now in
    let ids : c.in_ok-ids.ids.items ≡ map (λ (function : Function). function.id) functions =
    IfOk-at_ok _ c.in_ok-ids.was (items_from_collect _ c.collect.ensures.ran (YieldsList-from_map _
    (λ (function : Function). function.id)
    (YieldsList-at c.map.ensures.source (YieldsList-from_slice functions c.iter.ensures.rest))
    c.map.ensures.closure (λ x r q k. search rules))) in
    let numbers : c.in_ok-numbers.numbers.items ≡ map (number_by c.args.strings.now) functions =
    IfOk-at_ok _ c.in_ok-numbers.was (items_from_collect _ c.collect-2.ensures.ran (YieldsList-from_map _
    (number_by c.args.strings.now)
    (YieldsList-at c.map-2.ensures.source (YieldsList-from_slice functions c.iter-2.ensures.rest))
    c.map-2.ensures.closure (λ x r q k. search rules))) in
    grind (arith, common_steps, ids_differ, function_numbers_are, ids, numbers)
