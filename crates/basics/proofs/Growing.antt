-- Lists stay where they stand as others come.
use Rattle.std.proofs.Common.{All, map, refl, ◌∷◌, List, ◌≡◌, ◌-◌, [], ap, ◌∙◌, arith, length, drop, sym, take}
use Rattle.std.proofs.lemmas.List.{append-nil, drop-append-le, length-append, length-drop, take-append-le}
use Rattle.std.proofs.lemmas.List.Elements.{All-head, All-tail}
use Rattle.basics.specs.declared.spans.Span.{Span}
use Rattle.basics.specs.Spans.{Grows, IsWithin, items_at}

pub grows_not : {A : Type 0} (items : List A) → Grows items items
grows_not items = ([], sym (append-nil items))

pub items_grown : {A : Type 0} (old new : List A) (span : Span) → Grows old new → IsWithin old span
    → items_at new span ≡ items_at old span
items_grown old new span (more, is) h =
    let order = h.order in
    let inside = h.inside in
    let len = length-drop span.start old in
    ap (λ items. items_at items span) is
    ∙ ap (take (span.end - span.start)) (drop-append-le span.start old more (omega (arith, order, inside)))
    ∙ take-append-le (span.end - span.start) (drop span.start old) more (omega (arith, order, inside, len))

pub within_grown : {A : Type 0} (old new : List A) (span : Span) → Grows old new → IsWithin old span
    → IsWithin new span
within_grown old new span (more, is) h =
    let inside = h.inside in
    let len = ap length is ∙ length-append old more in
    record { order = h.order; inside = omega (arith, inside, len) }

-- functions that agree on each item
pub map_agreeing : {A B : Type 0} (f g : A → B) (items : List A) → All (λ item. f item ≡ g item) items
    → map f items ≡ map g items
map_agreeing f g [] h = refl
map_agreeing f g (item ∷ items) h = λ k.
    All-head (λ x. f x ≡ g x) item items h k ∷ map_agreeing f g items (All-tail (λ x. f x ≡ g x) item items h) k
