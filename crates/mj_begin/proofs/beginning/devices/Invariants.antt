use Rattle.std.proofs.Common.{take}
use Rattle.mj_begin.specs.Words.{AreDevices}
use Rattle.mj_begin.proofs.beginning.devices.Given as goal

-- those of the words so far
abbrev pub invariant-loop-word : goal.invariant-loop-word
invariant-loop-word l = AreDevices (take l.word-index l.words) l.devices.items
