-- The function that the id names.
use Rattle.std.proofs.Common.{Some, None, refl, sym, ◌∙◌, ap}
use Rattle.std.specs.Option.{option_and_then}
use Rattle.std.proofs.lemmas.Option.{slice_get_past, slice_get_read}
use Rattle.profile_samples.proofs.FrameNumbers.{function_number}
use Rattle.profile_samples.proofs.function_numbers.FunctionNumbers.number_of.Goals as goal

pub returns-in_err-find : goal.returns-in_err-find
returns-in_err-find c =
    let this = rw c.self.view_is at c.self.invariant in
    c.from_residual.ensures ∙ sym (function_number c.args.self.now _ _ c.args.id None this c.in_err-find.ensures)

pub returns-in_err-get : goal.returns-in_err-get
returns-in_err-get c =
    let this = rw c.self.view_is at c.self.invariant in
    let none = slice_get_past c.self.inside.numbers.items c.in_ok-find.field-0
    (rw c.deref.ensures.value at c.in_err-get.ensures.lookup.3) in
    c.from_residual-in_err-get.ensures ∙ sym (function_number c.args.self.now _ _ c.args.id
    (Some c.in_ok-find.field-0) this c.in_ok-find.ensures ∙ ap (option_and_then (λ number. number)) none)

pub returns : goal.returns
returns c =
    let this = rw c.self.view_is at c.self.invariant in
    let numbers = c.self.inside.numbers.items in
    let there = rw c.deref.ensures.value at c.in_ok-get.ensures.lookup in
    sym (function_number c.args.self.now _ _ c.args.id
    (Some c.in_ok-find.field-0) this c.in_ok-find.ensures ∙ ap (option_and_then (λ number. number))
    (slice_get_read numbers _ c.in_ok-find.field-0 c.in_ok-get.field-0.now refl there.3.0 there.1))
