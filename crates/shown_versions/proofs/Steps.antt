-- The steps of a history keep its rule.
use Rattle.std.proofs.Common.{◌≡◌, ◌≢◌, ℕ, ◌<◌, ◌==◌, Bool, true, false, List, [], ◌∷◌, ◌++◌, length, refl, ap}
use Rattle.std.proofs.Common.{sym, subst, arith, inl, None, ◌∙◌, length-set}
use Rattle.std.proofs.lemmas.List.{append-nil}
use Rattle.std.proofs.lemmas.List.Elements.{All-nil}
use Rattle.std.proofs.lemmas.Bool.Decides.{nat_tests}
use Rattle.std.specs.Prelude.{slice_set}
use mathlib.Core.List.{IsPrefix}
use prog.Atomic.{either}
use Rattle.logbook.specs.Pages.{Cell, Nib, cell, keeps, gives, adds, no_nib, may_write, step, Moves, Goes}
use Rattle.shown_versions.specs.declared.history_rule.Line.{Line}
use Rattle.shown_versions.specs.declared.history_rule.Line.TheVariants as line
use Rattle.shown_versions.specs.Histories.{HasBegun, HasTakenPen, IsAdded, IsKept, IsUnused, next_pen, used_pens}
use Rattle.shown_versions.proofs.Pens.{all_more, at_more, home_within, set_again, set_other, set_same, used_with}
use Rattle.shown_versions.proofs.Pens.{whole_by, word_with}

abbrev pub shown : List Line → List Line
shown log = []

abbrev pub moved : List Line → List Line → ℕ → Type 0
moved xs ys n = Unit {0}

-- what an exchange leaves that puts 1 in the place of 1
abbrev pub touched : ℕ → ℕ
touched n = either (n == 1) 1 n

touched_same : (n : ℕ) (b : Bool) → (n == 1) ≡ b → touched n ≡ n
touched_same n true is = let one : n ≡ 1 = grind (arith, nat_tests) in rw is (sym one)
touched_same n false is = rw is refl

-- such a step leaves the cells as they were
touched_cells : (cs : List Cell) → (cell cs 0).1 ≡ true → slice_set cs 0 (touched (cell cs 0).0, true) ≡ cs
touched_cells cs home =
    let same : (touched (cell cs 0).0, true) ≡ cell cs 0 =
    λ i. (touched_same (cell cs 0).0 ((cell cs 0).0 == 1) refl i, sym home i) in
    ap (λ (c : Cell). slice_set cs 0 c) same ∙ set_again cs 0

home_word : (cs : List Cell) (log : List Line) → IsKept cs log → (cell cs 0).1 ≡ true
home_word cs log kept = ap (λ (c : Cell). c.1) kept.word

-- a cell more
more_kept : (cs more : List Cell) (log : List Line) → IsKept cs log → IsKept (cs ++ more) log
more_kept cs more log kept = record {
  word = at_more cs more 0 (home_within cs 0 (home_word cs log kept)) ∙ kept.word;
  used = all_more (λ k. (cell cs k).1 ≡ true) (λ k. (cell (cs ++ more) k).1 ≡ true) (used_pens log)
      (λ k home. ap (λ (c : Cell). c.1) (at_more cs more k (home_within cs k home)) ∙ home) kept.used;
}

-- the next pen brings its word home
given_kept : (cs : List Cell) (log : List Line) (made : Line) (key value : ℕ) → IsKept cs log → next_pen log ≡ key
    → (cell cs key).1 ≡ false → key < length cs → 0 < length log
    → IsKept (slice_set cs key (value, true)) (log ++ made ∷ [])
given_kept cs log made key value kept next away within some =
    let H : ℕ → Type 0 = λ k. (cell (slice_set cs key (value, true)) k).1 ≡ true in
    let other : (k : ℕ) → (cell cs k).1 ≡ true → k ≢ key =
    λ k home is. absurd (cc (sym home ∙ (ap (λ j. (cell cs j).1) is ∙ away))) in record {
      word = set_other cs key 0 (value, true) (other 0 (home_word cs log kept)) ∙ (kept.word
          ∙ ap (λ (n : ℕ). (n, true)) (sym (word_with log made some)));
      used = used_with H log made some (all_more (λ k. (cell cs k).1 ≡ true) H (used_pens log)
          (λ k home. ap (λ (c : Cell). c.1) (set_other cs key k (value, true) (other k home)) ∙ home) kept.used)
          (subst H (sym next) (ap (λ (c : Cell). c.1) (set_same cs key (value, true) within)));
    }

-- whoever has the next pen has seen the whole history
whole : (cs : List Cell) (seen log : List Line) (key : ℕ) → IsKept cs log → IsPrefix seen log → 0 < length seen
    → next_pen seen ≡ key → (cell cs key).1 ≡ false → seen ≡ log
whole cs seen log key kept prefix some next away =
    whole_by (λ k. (cell cs k).1 ≡ true) seen log prefix some kept.used
    (λ home. absurd (cc (sym home ∙ (ap (λ j. (cell cs j).1) next ∙ away))))

begun_moves : (cs : List Cell) (log v : List Line) (made : Line) → IsKept cs log
    → Goes IsKept shown moved 0 (v, (no_nib, None)) (λ n. either (n == 0) 1 n)
    (HasBegun (step 0 0 1 made) (v, (no_nib, None))) cs log
begun_moves cs [] v made kept =
    let found : (cell cs 0).0 ≡ 0 = ap (λ (c : Cell). c.0) kept.word in
    let within = home_within cs 0 (home_word cs [] kept) in (
      adds,
      line.Begins (length cs) ∷ [],
      None,
      tt,
      record {
        word = at_more (slice_set cs 0 (either ((cell cs 0).0 == 0) 1 (cell cs 0).0, true)) ((0, false) ∷ []) 0
            (omega (arith, within, length-set cs 0 (either ((cell cs 0).0 == 0) 1 (cell cs 0).0, true)))
            ∙ (set_same cs 0 _ within ∙ rw found refl);
        used = All-nil (λ k. (cell (slice_set cs 0 (either ((cell cs 0).0 == 0) 1 (cell cs 0).0, true)
            ++ (0, false) ∷ []) k).1 ≡ true);
      },
      inl (refl, refl),
      rw found (refl, refl),
    )
begun_moves cs (m ∷ log) v made kept =
    let found : (cell cs 0).0 ≡ 1 = ap (λ (c : Cell). c.0) kept.word in
    let same : (either ((cell cs 0).0 == 0) 1 (cell cs 0).0, true) ≡ cell cs 0 = rw found (sym kept.word) in (
      keeps,
      [],
      None,
      tt,
      rw (ap (λ (c : Cell). slice_set cs 0 c) same ∙ set_again cs 0, append-nil (m ∷ log)) kept,
      inl (refl, refl),
      rw found tt,
    )

-- whatever the book is, the step begins the history, or finds that it has begun
pub begins_moves : (v : List Line) (made : Line)
    → Moves IsKept shown moved 0 (v, (no_nib, None)) (λ n. either (n == 0) 1 n)
    (HasBegun (step 0 0 1 made) (v, (no_nib, None)))
begins_moves v made cs log kept prefix away =
    (home_within cs 0 (home_word cs log kept), home_word cs log kept, begun_moves cs log v made kept)

-- whatever the book is, the step gives a pen
pub takes_moves : (v : List Line) (made : Line)
    → Moves IsKept shown moved 0 (v, (no_nib, None)) touched (HasTakenPen (step 0 1 1 made) (v, (no_nib, None)))
takes_moves v made cs log kept prefix away =
    let same = touched_cells cs (home_word cs log kept) in (
      home_within cs 0 (home_word cs log kept),
      home_word cs log kept,
      (adds, [], None, tt, rw (same, append-nil log) (more_kept cs ((0, false) ∷ []) log kept), inl (refl, refl), refl),
    )

-- whatever the book is, a pen that may write isn't used up
pub unused_moves : (v : List Line) (pen : Nib) (made : Line) → pen.right ≡ may_write
    → Moves IsKept shown moved 0 (v, (pen, None)) touched (IsUnused (step 0 1 1 made) (v, (pen, None)))
unused_moves v pen made right cs log kept prefix away =
    let same = touched_cells cs (home_word cs log kept) in (
      home_within cs 0 (home_word cs log kept),
      home_word cs log kept,
      (
        keeps,
        [],
        None,
        tt,
        rw (same, append-nil log) kept,
        inl (refl, refl),
        (
          refl,
          rw (append-nil log)
              (all_more (λ k. (cell cs k).1 ≡ true) (λ k. k ≢ pen.key) (used_pens log)
              (λ k home is. absurd (cc (sym home ∙ (ap (λ j. (cell cs j).1) is ∙ (away right).1)))) kept.used),
        ),
      ),
    )

-- whatever the book is, the next pen adds the change to all that was seen
pub adds_moves : (v : List Line) (pen : Nib) (made : Line) → 0 < length v → pen.right ≡ may_write
    → pen.key ≡ next_pen v
    → Moves IsKept shown moved 0 (v, (pen, None)) touched (IsAdded (step 0 1 1 made) (v, (pen, None)))
adds_moves v pen made some right next cs log kept prefix away =
    let same = touched_cells cs (home_word cs log kept) in
    let free = away right in
    let all : v ≡ log = whole cs v log pen.key kept prefix some (sym next) free.1 in (
      home_within cs 0 (home_word cs log kept),
      home_word cs log kept,
      (
        gives,
        made ∷ [],
        None,
        right,
        rw same (given_kept cs log made pen.key pen.value kept (ap next_pen (sym all) ∙ sym next) free.1 free.0
            (subst (λ (l : List Line). 0 < length l) all some)),
        inl (refl, refl),
        ap (λ l. l ++ made ∷ []) (sym all),
      ),
    )
