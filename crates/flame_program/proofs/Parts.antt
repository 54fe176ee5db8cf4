-- What reads and writes in parts take and leave together.
use Rattle.std.proofs.Common.{◌≡◌, ◌∙◌, ◌++◌, ◌+◌, ◌-◌, ◌≤◌, ℕ, List, [], Option, ap, sym, subst, length, take, drop}
use Rattle.std.proofs.Common.{arith, append_assoc, append-nil, length-append, length-drop, take_all, take-append-drop}
use Rattle.std.proofs.KnownBytes.{Appends-trans}
use Rattle.std.proofs.Math.Seq.{take-append_seam}
use Rattle.std.specs.Io.KnownBytes.{Appends}
use Rattle.flame_program.specs.Parts.{AppendsBeginning}

-- what is written of a text, and what is left of it
pub record IsWrittenSoFar (text rest : List ℕ) (before after : Option (List ℕ)) : Type 0 where
  pub written : List ℕ
  pub parts : text ≡ written ++ rest
  pub appended : Appends before after written

pub more_written : (text rest : List ℕ) (before mid after : Option (List ℕ)) (count : ℕ)
    → IsWrittenSoFar text rest before mid
    → Appends mid after (take count rest) → IsWrittenSoFar text (drop count rest) before after
more_written text rest before mid after count so_far part = record {
  written = so_far.written ++ take count rest;
  parts = so_far.parts ∙ ap (λ (l : List ℕ). so_far.written ++ l) (sym (take-append-drop count rest))
      ∙ sym (append_assoc so_far.written (take count rest) (drop count rest));
  appended = Appends-trans before mid after _ _ so_far.appended part;
}

-- the same, where the rest is cut by its length
pub more_written_cut : (text rest : List ℕ) (before mid after : Option (List ℕ)) (count size : ℕ)
    → size ≡ length rest - count
    → IsWrittenSoFar text rest before mid → Appends mid after (take count rest)
    → IsWrittenSoFar text (take size (drop count rest)) before after
more_written_cut text rest before mid after count size is_rest so_far part =
    let lengths : length (drop count rest) ≤ size = omega (arith, length-drop count rest) in
    subst (λ (left : List ℕ). IsWrittenSoFar text left before after) (sym (take_all size (drop count rest) lengths))
    (more_written text rest before mid after count so_far part)

pub beginning_written : (text rest : List ℕ) (before after : Option (List ℕ)) → IsWrittenSoFar text rest before after
    → AppendsBeginning before after text
beginning_written text rest before after so_far =
    let written = so_far.written in
    let is_front : take (length written) text ≡ written = ap (take (length written)) so_far.parts
    ∙ take-append_seam written rest in
    let lengths : length text ≡ length written + length rest = ap length so_far.parts ∙ length-append written rest in
    (length written, omega arith, subst (Appends before after) (sym is_front) so_far.appended)

pub beginning_kept : (text rest : List ℕ) (before mid after : Option (List ℕ)) → IsWrittenSoFar text rest before mid
    → Appends mid after [] → AppendsBeginning before after text
beginning_kept text rest before mid after so_far none = beginning_written text rest before after (record {
  written = so_far.written;
  parts = so_far.parts;
  appended = subst
      (Appends before after) (append-nil so_far.written) (Appends-trans before mid after _ _ so_far.appended none);
})
