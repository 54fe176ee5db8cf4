-- A name that weighs something is a name, and each has one number.
use Rattle.std.proofs.lemmas.Grind.{common_steps}
use Rattle.std.proofs.Common.{◌≡◌, ◌<◌, ◌++◌, ◌∷◌, [], ℕ, List, length, map, ap, sym, ◌∙◌, subst, arith}
use Rattle.std.proofs.lemmas.List.{get_or_default, length-map, take_all}
use Rattle.std.proofs.lemmas.Slice.Zip.{length-zip}
use Rattle.std.specs.declared.vec.Vec.{Vec}
use denote.Ref.{Bor}
use Rattle.name_counts.specs.TextTables.{no_text}
use Rattle.name_counts.specs.declared.tallies.Tally.{Tally}
use Rattle.profile_rows.specs.Names.{IsName}
use Rattle.name_counts.specs.Tallies.{tally_at}
use Rattle.name_counts.proofs.TallyLaws.{zero_tally}
use Rattle.name_counts.proofs.TextNumbers.{shown_at}
use Rattle.name_counts.proofs.Weighted.{number_named, shown-AreSumsOf, weighted_in, weightless_more, weighty_more}
use Rattle.name_counts.proofs.tallies.weighted.Goals as goal
use Rattle.name_counts.proofs.tallies.weighted.Goals.{then-tally-gt0+in_ok-push, else-tally-gt0}

abbrev texts_of : List (Bor (List ℕ)) → List (List ℕ)
texts_of names = map (λ (name : Bor (List ℕ)). name.now) names

inside : (names : List (Bor (List ℕ))) (number : ℕ) → number < length names → number < length (texts_of names)
inside names number lt = let long = length-map names (λ (name : Bor (List ℕ)). name.now) in omega (arith, long, lt)

pub new-requires : goal.new-requires
new-requires c =
    let (rows, are) = c.requires in
    let names = c.args.names.now in
    let number = c.loop-number.number in
    let lt = inside names number c.loop-number-test.true in
    let many = are.many in
    let tally : c.index-tally.result.now ≡ tally_at c.args.tallies.now.names.items number = c.index-tally.ensures
    ∙ get_or_default c.args.tallies.now.names.items number c.index-tally.result.now zero_tally
    (omega (arith, many, lt)) in
    subst IsName (shown_at names number no_text) (number_named rows (texts_of names) c.args.tallies.now number are lt
    (subst (λ (t : Tally). 0 < t.cumulative) tally c.if-tally-gt0.true))

pub loop-number-preserved : goal.loop-number-preserved
loop-number-preserved c =
    let (rows, are) = c.requires in
    let names = c.args.names.now in
    let tallies = c.args.tallies.now.names.items in
    let number = c.loop-number.number in
    let lt = inside names number c.loop-number-test.true in
    let many = are.many in
    let tally : c.index-tally.result.now ≡ tally_at tallies number = c.index-tally.ensures
    ∙ get_or_default tallies number c.index-tally.result.now zero_tally (omega (arith, many, lt)) in
    elim c.if-tally-gt0.branch [
      | then-tally-gt0+in_ok-push w ↦
          weighty_more (texts_of names) tallies number _ c.index-tally.result.now c.loop-number.list.items
          c.if-tally-gt0.list.items many lt (sym (shown_at names number no_text))
          tally w.if-tally-gt0.true c.loop-number.invariant
          (ap (λ (v : Vec _ _). v.items) w.list-is ∙ w.in_ok-push.ensures.items
          ∙ ap (λ total. c.loop-number.list.items ++ total ∷ []) w.new.ensures)
      | else-tally-gt0 w ↦
          weightless_more (texts_of names)
          tallies number c.index-tally.result.now c.if-tally-gt0.list.items many lt tally w.if-tally-gt0.false
          (ap (λ (v : Vec _ _). v.items) w.list-is ∙ c.loop-number.invariant)
    ]

pub returns : goal.returns
returns c = grind (arith, common_steps, length-map, take_all, length-zip, shown-AreSumsOf, weighted_in)
