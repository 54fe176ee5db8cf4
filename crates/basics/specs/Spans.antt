-- Lists that stand with others in one list.
use Rattle.std.specs.Prelude.{◌≡◌, ◌≤◌, ◌++◌, List, length}
use Rattle.std.specs.List.{slice_range}
use Rattle.basics.specs.declared.spans.Span.{Span}

-- the items that stand there
abbrev pub items_at : {A : Type 0} → List A → Span → List A
items_at items span = slice_range items span.start span.end

-- it is a place in the list
pub record IsWithin {A : Type 0} (items : List A) (span : Span) : Type 0 where
  pub order : span.start ≤ span.end
  pub inside : span.end ≤ length items

-- items are added at the end
abbrev pub Grows : {A : Type 0} → List A → List A → Type 0
Grows {A = A} old new = (more : List A) × (new ≡ old ++ more)
