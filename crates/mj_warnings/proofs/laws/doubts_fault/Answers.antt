use Rattle.mj_warnings.proofs.Faults as faults
use Rattle.mj_warnings.proofs.laws.doubts_fault.Goals as goal

pub returns : goal.returns
returns c = faults.doubts_fault
