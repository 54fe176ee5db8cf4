use Rattle.folded_text.proofs.FirstFault.{IsFirstFault-same}
use Rattle.folded_text.proofs.Reading.{IsFirstFault-folded}
use Rattle.folded_text.proofs.laws.a_text_has_one_first_fault.Goals as goal

pub returns-clause-one : goal.returns-clause-one
returns-clause-one c = IsFirstFault-same

pub returns-clause-none : goal.returns-clause-none
returns-clause-none c = IsFirstFault-folded
