use Rattle.std.proofs.Common.{◌≡◌, take}
use Rattle.mj_faulted.proofs.subject.subs.Given as goal

abbrev pub invariant-loop-text : goal.invariant-loop-text
invariant-loop-text l = l.subs.items ≡ take l.text-index l.texts
