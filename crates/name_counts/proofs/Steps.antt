-- The lemmas by which the prover finds the proofs of a module's functions by itself.
use Rattle.std.proofs.lemmas.Grind.{common_steps}
use Rattle.std.proofs.lemmas.List.{length-map}
use Rattle.name_counts.proofs.TextNumbers.{number_in-le, number_in-with, with_text-there}

pub ruleset text_table = (common_steps, length-map, number_in-le, number_in-with, with_text-there)
