-- One string more.
use Rattle.std.proofs.lemmas.Grind.{common_steps}
use Rattle.std.proofs.lemmas.List.Elements.{All-nil}
use Rattle.std.proofs.Common.{arith, ◌≡◌, ◌+◌, ◌∷◌, [], None, drop, All}
use Rattle.std.specs.Prelude.{if◌then◌else◌}
use Rattle.profile_rows.specs.Names.{IsName, cleaned_name_of}
use Rattle.profile_samples.specs.NameNumbers.{given, names_function, string_names_from}
use Rattle.profile_samples.proofs.FrameNumbers.{named_string, string_named, string_next}
use Rattle.profile_samples.proofs.string_names.string_numbers.Goals as goal
use Rattle.profile_samples.proofs.string_names.string_numbers.Goals.{then-index+in_ok-name, else-index}

pub loop-at-preserved : goal.loop-at-preserved
loop-at-preserved c =
    let draft = c.args.draft.now in
    let strings = c.as_slice-strings.result.now in
    let at = c.loop-at.at in
    let string = c.index-strings-at.result in
    let name = c.if-index.name in
    let named : name ≡ (if names_function draft.functions at then cleaned_name_of string else None) =
    elim c.if-index.branch [
      | then-index+in_ok-name w ↦ grind (arith, common_steps)
      | else-index w ↦ grind (arith, common_steps)
    ] in
    let isname : All IsName (given (name ∷ [])) = elim c.if-index.branch [
      | then-index+in_ok-name w ↦ rw (w.name-is, w.in_ok-name.ensures, w.as_str.ensures.text)
          (named_string _ w.as_str.ensures.utf8)
      | else-index w ↦ rw w.name-is (All-nil IsName)
    ] in
    string_named draft c.loop-at.names.keys c.number_with.new.names.keys c.loop-at.numbers.items c.push.new.self.items
    name c.in_ok-number_with.field-0 (string_names_from draft.functions (at + 1) (drop (at + 1) strings))
    (rw (string_next draft.functions strings at string name c.loop-at-test.true c.index-strings-at.is named)
    at c.loop-at.invariant)
    c.in_ok-number_with.ensures.names isname c.in_ok-push.ensures.items c.in_ok-number_with.ensures.number
