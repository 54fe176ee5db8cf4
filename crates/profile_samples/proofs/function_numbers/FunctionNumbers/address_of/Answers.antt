-- The text of an address is a name.
use Rattle.std.proofs.lemmas.Grind.{common_steps}
use Rattle.std.proofs.Common.{arith}
use Rattle.profile_samples.proofs.ItemsById.{IsName-address}
use Rattle.profile_samples.proofs.function_numbers.FunctionNumbers.address_of.Goals as goal

pub keep-requires : goal.keep-requires
keep-requires c = grind (arith, common_steps, IsName-address)
