-- A text has one first fault, `NoMemory` aside.
use Rattle.std.proofs.Common.{◌≡◌, ◌≢◌, ◌⊎◌, ℕ, ◌+◌, List, length, refl, sym, ap, ◌∙◌, inl, inr, subst, arith}
use Rattle.std.specs.Str.Parse.{digits_value}
use Rattle.std.specs.Prelude.{Result, Ok, Err, MatchResult}
use Rattle.profile_rows.specs.declared.weighted_stacks.WeightedStack.{WeightedStack}
use Rattle.folded_text.specs.declared.folded.FoldedFault.{FoldedFault}
use Rattle.folded_text.specs.declared.folded.FoldedFault.TheVariants.{NotUtf8, NoCount, Count, Depth, Heavy, NoMemory}
use Rattle.profile_rows.specs.Rows.{total_of}
use Rattle.folded_text.specs.FoldedText.{AreRowLines, IsRowLine, IsFoldedBatch, IsLineFault, IsFirstFault, IsWorkFault}
use Rattle.folded_text.specs.FoldedText.{GivesBatch, GivesOfRows, GivesOfText, IsOfText}
use Rattle.profile_rows.specs.Values.{BatchState}
use Rattle.folded_text.proofs.Counts.{HasCount-same}
use Rattle.folded_text.proofs.Cuts.{cuts}
use Rattle.folded_text.proofs.Reading.{AreRowLines-same, IsFirstFault-folded, IsFoldedText-same}
use Rattle.folded_text.proofs.Reading.{IsWorkFault-folded, faultless, faultless_at}

-- A line has one fault: each case of a fault says that those of the cases before it don't stand.
abbrev IsOneFault : FoldedFault → FoldedFault → Type 0
IsOneFault fault other = (fault ≡ NoMemory) ⊎ ((other ≡ NoMemory) ⊎ (fault ≡ other))

Count-Depth : (earlier number : ℕ) (line : List ℕ) (x y : ℕ)
    → IsLineFault earlier number line (Count x) → IsLineFault earlier number line (Depth y) → ⊥
Count-Depth earlier number line x y ha hb =
    omega (arith, ap (digits_value 10) (HasCount-same line ha.2 hb.2 ha.3 hb.3 ha.4 hb.4).1, ha.5, hb.5)

-- a line that spells a row has no fault by itself but `NoMemory`
spelled : (number : ℕ) (line : List ℕ) (row : WeightedStack) (fault : FoldedFault)
    → IsRowLine line row → IsLineFault 0 number line fault → fault ≡ NoMemory
spelled number line row fault this there = faultless 0 number line row fault this (omega (arith, this.fits)) there

one_fault : (earlier number : ℕ) (line : List ℕ) (fault other : FoldedFault)
    → IsLineFault earlier number line fault → IsLineFault earlier number line other → IsOneFault fault other
one_fault earlier number line NoMemory other ha hb = inl refl
one_fault earlier number line fault NoMemory ha hb = inr (inl refl)
one_fault earlier number line (NotUtf8 x) (NotUtf8 y) ha hb = inr (inr (ap NotUtf8 (ha.0 ∙ sym hb.0)))
one_fault earlier number line (NotUtf8 x) (NoCount y) ha hb = absurd (ha.1 hb.1)
one_fault earlier number line (NotUtf8 x) (Count y) ha hb = absurd (ha.1 hb.1)
one_fault earlier number line (NotUtf8 x) (Depth y) ha hb = absurd (ha.1 hb.1)
one_fault earlier number line (NotUtf8 x) (Heavy y) ha hb = absurd (ha.1 hb.2.utf8)
one_fault earlier number line (NoCount x) (NotUtf8 y) ha hb = absurd (hb.1 ha.1)
one_fault earlier number line (NoCount x) (NoCount y) ha hb = inr (inr (ap NoCount (ha.0 ∙ sym hb.0)))
one_fault earlier number line (NoCount x) (Count y) ha hb = absurd (ha.2 hb.2 hb.3 hb.4)
one_fault earlier number line (NoCount x) (Depth y) ha hb = absurd (ha.2 hb.2 hb.3 hb.4)
one_fault earlier number line (NoCount x) (Heavy y) ha hb = absurd (ha.2 _ _ hb.2.counted.2.count)
one_fault earlier number line (Count x) (NotUtf8 y) ha hb = absurd (hb.1 ha.1)
one_fault earlier number line (Count x) (NoCount y) ha hb = absurd (hb.2 ha.2 ha.3 ha.4)
one_fault earlier number line (Count x) (Count y) ha hb = inr (inr (ap Count (ha.0 ∙ sym hb.0)))
one_fault earlier number line (Count x) (Depth y) ha hb = absurd (Count-Depth earlier number line x y ha hb)
one_fault earlier number line (Count x) (Heavy y) ha hb = inl (spelled number line hb.1 (Count x) hb.2 ha)
one_fault earlier number line (Depth x) (NotUtf8 y) ha hb = absurd (hb.1 ha.1)
one_fault earlier number line (Depth x) (NoCount y) ha hb = absurd (hb.2 ha.2 ha.3 ha.4)
one_fault earlier number line (Depth x) (Count y) ha hb = absurd (Count-Depth earlier number line y x hb ha)
one_fault earlier number line (Depth x) (Depth y) ha hb = inr (inr (ap Depth (ha.0 ∙ sym hb.0)))
one_fault earlier number line (Depth x) (Heavy y) ha hb = inl (spelled number line hb.1 (Depth x) hb.2 ha)
one_fault earlier number line (Heavy x) (NotUtf8 y) ha hb = absurd (hb.1 ha.2.utf8)
one_fault earlier number line (Heavy x) (NoCount y) ha hb = absurd (hb.2 _ _ ha.2.counted.2.count)
one_fault earlier number line (Heavy x) (Count y) ha hb = inr (inl (spelled number line ha.1 (Count y) ha.2 hb))
one_fault earlier number line (Heavy x) (Depth y) ha hb = inr (inl (spelled number line ha.1 (Depth y) ha.2 hb))
one_fault earlier number line (Heavy x) (Heavy y) ha hb = inr (inr (ap Heavy (ha.0 ∙ sym hb.0)))

-- at one place the lines before spell the same rows, and of two places the first is a row's
pub IsFirstFault-same : (text : List ℕ) (fault other : FoldedFault)
    → IsFirstFault text fault → IsFirstFault text other → IsOneFault fault other
IsFirstFault-same text fault other (before, line, after, rows, cut, known, fits, some, there)
    (others, line_b, after_b, rows_b, cut_b, known_b, fits_b, some_b, there_b) =
    elim (cuts before line after others line_b after_b (sym cut ∙ cut_b)) [
      | inl same ↦
          let one = AreRowLines-same before rows_b rows (rw same.0 known_b) known in
          one_fault (total_of rows) (length before + 1) line fault other there (rw (same.0, same.1, ← one) there_b)
      | inr (inl within) ↦ inr (inl (faultless_at others line_b within.0 rows_b rows
          (length others + 1) other (subst (λ ls. AreRowLines ls rows) within.1 known) fits known_b some_b there_b))
      | inr (inr within) ↦ inl (faultless_at before line within.0 rows rows_b
          (length before + 1) fault (subst (λ ls. AreRowLines ls rows_b) within.1 known_b) fits_b known some there)
    ]

-- how work on the rows of a text with a first fault ends
work_fault : (text : List ℕ) (fault first : FoldedFault) → IsWorkFault text fault
    → first ≢ NoMemory → IsFirstFault text first → (fault ≡ NoMemory) ⊎ (fault ≡ first)
work_fault text fault first (inr late) some there = inl late.0
work_fault text fault first (inl own) some there =
    elim (IsFirstFault-same text fault first own there) [
      | inl none ↦ inl none
      | inr (inl none) ↦ absurd (some none)
      | inr (inr same) ↦ inr same
    ]

-- what is made of one reading of a text decides what else is answered
gives_of_text : {T : Type 0} (text : List ℕ) (IsFault : FoldedFault → Type 0)
    (Fits : List WeightedStack → T → Type 0) → ((fault : FoldedFault) → IsFault fault → IsWorkFault text fault)
    → (result : Result T FoldedFault) → MatchResult result (IsOfText text Fits) IsFault
    → GivesOfText text IsFault Fits result
gives_of_text text IsFault Fits work (Ok made) (rows, folded, fits) = record {
  read = (rows, folded, fits);
  accepted = λ others also. subst (λ r. Fits r made) (IsFoldedText-same text rows others folded also) fits;
  every_fault = λ first some there. some (IsFirstFault-folded text rows first folded there);
}
gives_of_text text IsFault Fits work (Err fault) read = record {
  read = read;
  accepted = λ rows folded. IsWorkFault-folded text rows fault folded (work fault read);
  every_fault = λ first some there. work_fault text fault first (work fault read) some there;
}

pub gives_batch : (text : List ℕ) (result : Result BatchState FoldedFault)
    → MatchResult result (IsFoldedBatch text) (IsFirstFault text) → GivesBatch text result
gives_batch text = gives_of_text text (IsFirstFault text) _ (λ fault first. inl first)

pub gives_of_rows : {T : Type 0} (text : List ℕ) (Fits : List WeightedStack → T → Type 0)
    (result : Result T FoldedFault)
    → MatchResult result (IsOfText text Fits) (IsWorkFault text) → GivesOfRows text Fits result
gives_of_rows text Fits = gives_of_text text (IsWorkFault text) Fits (λ fault work. work)
