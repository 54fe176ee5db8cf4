-- A match leaves no fault.
use Rattle.std.proofs.lemmas.Grind.{common_steps}
use Rattle.std.proofs.Common.{arith}
use Rattle.log_audit.proofs.Deciding.{no_fault}
use Rattle.log_audit.proofs.auditing.audit_with.Goals as goal

pub returns-clause-accepted : goal.returns-clause-accepted
returns-clause-accepted c = grind (arith, common_steps, no_fault)

pub returns-in_err-ordered-clause-accepted : goal.returns-in_err-ordered-clause-accepted
returns-in_err-ordered-clause-accepted c = grind (arith, common_steps, no_fault)
