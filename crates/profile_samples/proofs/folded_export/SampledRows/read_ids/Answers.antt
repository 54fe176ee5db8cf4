-- A stack that is known adds no name, and its row can follow as a new one's can.
use Rattle.std.proofs.Common.{◌≡◌, ◌+◌, ℕ, List, length, map, refl, sym, ap, ◌∙◌, arith, subst}
use mathlib.Core.List.{map-map}
use Rattle.std.specs.Prelude.{reverse}
use Rattle.std.proofs.lemmas.List.{length-map}
use Rattle.std.proofs.lemmas.Result.{MatchResult-weaker, err_from_is_err_and}
use Rattle.name_counts.specs.TextTables.{number_in, with_texts}
use Rattle.folded_text.proofs.Reading.{IsLineFault-fitting, IsLineFault-memory, IsRowLine-read, text_one_line}
use Rattle.ordered_rows.specs.StackFrames.{frames_of}
use Rattle.ordered_rows.proofs.FrameNames.{frames_of-IsName}
use Rattle.profile_samples.specs.KnownStacks.{AreKnownStacks, HasRead, IsKnownStack}
use Rattle.profile_samples.specs.declared.folded_export.SampledRows.{SampledRows}
use Rattle.profile_samples.specs.declared.known_stacks.KnownStacks.{KnownStacks}
use Rattle.profile_samples.proofs.ExportLaws.{AllStand, stand_where, with_texts-own}
use Rattle.profile_samples.proofs.KnownStacks.{AreListed-more, AreListed-push, none_added, stack_found, stack_missing}
use Rattle.profile_samples.proofs.folded_export.SampledRows.read_ids.Goals as goal

-- what is known stays so as a stack's frames are added to the names
still_known : (before after frames : List (List ℕ)) (known : KnownStacks)
    → after ≡ with_texts before frames → AreKnownStacks before known → AreKnownStacks after known
still_known before after frames known added all =
    subst (λ names. AreKnownStacks names known) (sym added)
    (AreListed-more before frames known.texts.texts known.lists all)

-- a known stack has as many numbers as frames
many : (names : List (List ℕ)) (text numbers : List ℕ)
    → IsKnownStack names text numbers → length numbers ≡ length (frames_of text)
many names text numbers this = ap length this.numbered ∙ length-map (frames_of text) (number_in names)

-- so it does as a line is counted
same_known : (names : List (List ℕ)) (before after : KnownStacks)
    → (after.texts ≡ before.texts) × (after.lists ≡ before.lists)
    → AreKnownStacks names before → AreKnownStacks names after
same_known names before after same all = rw (same.0, same.1) all

-- what is known besides takes no part in what was read
read_besides : (line stack : List ℕ) (weight : ℕ) (before after : SampledRows) (one other : KnownStacks)
    → HasRead line stack weight (record before { known = one }) after
    → HasRead line stack weight before (record after { known = other })
read_besides line stack weight before after one other has = record {
  row = has.row;
  names = has.names;
  ids_are = has.ids_are;
  samples = has.samples;
  total = has.total;
}

pub returns-then-not-should_seek : goal.returns-then-not-should_seek
returns-then-not-should_seek c = λ line one this.
    let before = c.args.self.now in
    let after = c.read_new.new.self in
    let known = c.should_seek.new.self in
    MatchResult-weaker c.read_new.result (c.read_new.ensures line one this)
    (λ done has. (
      read_besides line c.args.stack.now c.args.weight before after known after.known has.0,
      rw (has.1) (still_known before.row.texts after.row.texts (frames_of c.args.stack.now) known has.0.names
          (same_known before.row.texts before.known known c.should_seek.ensures c.requires.known)),
    )) (λ fault there. there)

pub returns-in_err-fitting : goal.returns-in_err-fitting
returns-in_err-fitting c = λ line one this.
    let texts = c.args.self.now.row.texts in
    let known = same_known texts c.args.self.now.known c.should_seek.new.self c.should_seek.ensures c.requires.known in
    let found = stack_found texts _ _ c.args.stack.now c.in-Some.numbers.now known c.in-Some.ensures in
    let told = err_from_is_err_and c.from_residual.result c.from_residual.ensures.1 in
    rw (told.1, told.2) (IsLineFault-fitting _ _ line c.args.stack.now _ _ _ this
    (many texts c.args.stack.now c.in-Some.numbers.now found) c.in_err-fitting.ensures)

pub replace_ids-requires : goal.replace_ids-requires
replace_ids-requires c =
    let texts = c.args.self.now.row.texts in
    let known = same_known texts c.args.self.now.known c.should_seek.new.self c.should_seek.ensures c.requires.known in
    (stack_found texts _ _ c.args.stack.now c.in-Some.numbers.now known c.in-Some.ensures).fits

pub returns-in_err-replace_ids : goal.returns-in_err-replace_ids
returns-in_err-replace_ids c = λ line one this.
    let texts = c.args.self.now.row.texts in
    let known = same_known texts c.args.self.now.known c.should_seek.new.self c.should_seek.ensures c.requires.known in
    let found = stack_found texts _ _ c.args.stack.now c.in-Some.numbers.now known c.in-Some.ensures in
    let (most, fits) = c.in_ok-fitting.ensures in
    let told = err_from_is_err_and c.from_residual-in_err-replace_ids.result
    c.from_residual-in_err-replace_ids.ensures.1 in
    rw (told.1, told.2) (IsLineFault-memory _ c.args.number line c.args.stack.now _ _ this
    (many texts c.args.stack.now c.in-Some.numbers.now found) most fits)

pub returns-in-Some : goal.returns-in-Some
returns-in-Some c = λ line one this.
    let stack = c.args.stack.now in
    let texts = c.args.self.now.row.texts in
    let known = same_known texts c.args.self.now.known c.should_seek.new.self c.should_seek.ensures c.requires.known in
    let found = stack_found texts _ _ stack c.in-Some.numbers.now known c.in-Some.ensures in
    let (most, fits) = c.in_ok-fitting.ensures in
    let depth = many texts stack c.in-Some.numbers.now found in (
      record {
        row = record {
          spelled = IsRowLine-read line stack c.args.weight this (omega (arith, depth, most));
          names = frames_of-IsName stack c.utf8.stack (text_one_line line stack this.digits this.count one);
          fits = fits;
        };
        names = sym (none_added texts (frames_of stack) found.there);
        ids_are = rw (c.in_ok-replace_ids.ensures, found.numbered)
            (ap reverse (map-map (λ number. number + 1) (number_in texts) (frames_of stack)));
        samples = refl;
        total = refl;
      },
      known,
    )

pub returns-in_err-read_new : goal.returns-in_err-read_new
returns-in_err-read_new c = λ line one this.
    let told = err_from_is_err_and c.from_residual-in_err-read_new.result c.from_residual-in_err-read_new.ensures.1 in
    rw (told.1, told.2) (c.in_err-read_new.ensures line one this)

pub add-requires : goal.add-requires
add-requires c =
    let texts = c.args.self.now.row.texts in
    let known = same_known texts c.args.self.now.known c.should_seek.new.self c.should_seek.ensures c.requires.known in
    let (line, one, this) = c.requires.line in
    let (has, stays, frames) = c.in_ok-read_new.ensures line one this in
    rw stays (stack_missing texts _ _ c.args.stack.now known c.in_default.ensures)

pub returns-in_err-add : goal.returns-in_err-add
returns-in_err-add c = λ line one this.
    let (has, stays, frames) = c.in_ok-read_new.ensures line one this in
    let told = err_from_is_err_and c.from_residual-in_err-add.result c.from_residual-in_err-add.ensures.1 in
    rw (told.1, told.2)
    (record { stack = frames_of c.args.stack.now; weight = c.args.weight }, has.row.spelled, has.row.fits)

pub returns : goal.returns
returns c = λ line one this.
    let stack = frames_of c.args.stack.now in
    let before = c.args.self.now in
    let texts = before.row.texts in
    let after = c.read_new-2.new.self in
    let seen = c.should_seek.new.self in
    let (has, stays, frames) = c.in_ok-read_new.ensures line one this in
    let known = still_known texts after.row.texts stack seen has.names
    (same_known texts before.known seen c.should_seek.ensures c.requires.known) in (
      read_besides line c.args.stack.now c.args.weight before after seen c.add.new.self has,
      rw (c.in_ok-add.ensures.0, c.in_ok-add.ensures.1, stays)
          (AreListed-push after.row.texts seen.texts.texts seen.lists c.args.stack.now _ known (record {
            there = subst (λ names. AllStand names stack) (sym has.names)
                (stand_where stack (with_texts texts stack) (with_texts-own texts stack));
            numbered = c.numbers.ensures.numbers ∙ ap (map (number_in after.row.texts)) frames;
            fits = c.numbers.ensures.fits;
          })),
    )
