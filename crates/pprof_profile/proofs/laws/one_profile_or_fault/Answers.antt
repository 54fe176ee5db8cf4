use Rattle.pprof_profile.proofs.ProfileOnce.{profile_no_fault, profile_fault_once}
use Rattle.pprof_profile.proofs.laws.one_profile_or_fault.Goals as goal

pub returns : goal.returns
returns c = record { profile = profile_no_fault; fault = profile_fault_once }
