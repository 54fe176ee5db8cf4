-- What is kept at a text is its name.
use Rattle.std.proofs.lemmas.Grind.{common_steps}
use Rattle.std.proofs.Common.{arith}
use Rattle.std.proofs.lemmas.Map.Text.{hash_map_updates_str}
use Rattle.profile_rows.proofs.SameNames.{same_from_is_same_name}
use Rattle.name_counts.proofs.known_names.KnownNames.name_of.Goals as goal

pub returns-in-Some : goal.returns-in-Some
returns-in-Some c = grind (arith, common_steps, c.self.invariant c.args.text.now)

pub invariant_of-self-2 : goal.invariant_of-self-2
invariant_of-self-2 c = λ text.
    let after = hash_map_updates_str
    c.args.text.now c.self.inside.names c.insert.new.self _ c.in_ok-insert.ensures.updates text in
    grind (arith, common_steps, c.self.invariant text, same_from_is_same_name c.args.text.now text)
