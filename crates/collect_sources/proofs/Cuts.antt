-- First lines of first lines.
use Rattle.std.proofs.Common.{◌≡◌, ◌≤◌, ◌-◌, ◌⊎◌, ℕ, List, inl, inr, length, take, refl, subst, sym, ap, ◌∙◌, arith}
use Rattle.std.specs.Prelude.{slice_index}
use Rattle.std.proofs.lemmas.Bool.{cases_lt}
use Rattle.std.proofs.lemmas.List.{take_all, take-take, length-take-le, get_or-take}
use Rattle.collect_sources.specs.Lines.{AreFirstLines, IsBetweenLines}

pub all_lines : (text : List ℕ) → AreFirstLines text text
all_lines text =
    let cut : IsBetweenLines text (length text) = record { within = omega arith; parts = inr (inl refl) } in
    (length text, cut, sym (take_all (length text) text (omega arith)))

-- where first lines are cut between lines, the text is too
cut_of : (text : List ℕ) (count less : ℕ) → IsBetweenLines text count → length (take count text) ≡ count
    → (less ≡ 0) ⊎ ((less ≡ length (take count text)) ⊎ (slice_index (take count text) (less - 1) ≡ 10))
    → less ≤ count
    → (less ≡ 0) ⊎ ((less ≡ length text) ⊎ (slice_index text (less - 1) ≡ 10))
cut_of text count less cut size (inl none) most = inl none
cut_of text count less cut size (inr (inl all)) most =
    subst (λ at. (at ≡ 0) ⊎ ((at ≡ length text) ⊎ (slice_index text (at - 1) ≡ 10))) (sym (all ∙ size)) cut.parts
cut_of text count less cut size (inr (inr feed)) most =
    elim (cases_lt less 1) [
      | inl none ↦ inl (omega arith)
      | inr some ↦ inr (inr (sym (get_or-take count text (less - 1) 0 (omega (arith, some, most))) ∙ feed))
    ]

pub fewer_lines : (text lines fewer : List ℕ) → AreFirstLines text lines → AreFirstLines lines fewer
    → AreFirstLines text fewer
fewer_lines text lines fewer (count, cut, are) (less, again, rest) =
    let size : length (take count text) ≡ count = length-take-le count text cut.within in
    let most : less ≤ count = omega (arith, again.within, ap length are, size) in (
      less,
      record {
        within = omega (arith, most, cut.within);
        parts = cut_of text count less cut size (rw are at again.parts) most;
      },
      rest ∙ ap (take less) are ∙ take-take less count text most,
    )
