use Rattle.mj_trace.specs.Laws.Refused as laws
use Rattle.mj_trace.proofs.laws.one_reason.Goals as goal

pub returns : goal.returns
returns c = laws.one_reason
