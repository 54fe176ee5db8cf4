use Rattle.std.proofs.Common.{◌≡◌, ◌<◌, ℕ, false, length, take}
use Rattle.std.specs.Prelude.{slice_index_or}
use Rattle.profile_samples.specs.NameNumbers.{names_function}
use Rattle.profile_samples.proofs.string_names.name_marks.Given as goal

-- the strings that name the functions so far are marked
abbrev pub invariant-loop-function : goal.invariant-loop-function
invariant-loop-function l = (length l.marks.items ≡ l.fn.count) × ((at : ℕ) → at < l.fn.count
    → slice_index_or l.marks.items at false ≡ names_function (take l.function-index l.functions) at)
