use Rattle.std.proofs.Common.{◌≡◌, ◌++◌, drop}
use Rattle.mj_describe.specs.Words.{apart, loss_text}
use Rattle.mj_describe.proofs.telling.put_losses.Given as goal

abbrev pub invariant-loop-loss : goal.invariant-loop-loss
invariant-loop-loss l = l.bytes.items ++ apart (loss_text l.shown) (drop l.loss-index l.losses) ≡ l.fn.bytes.items ++ apart (loss_text l.shown) l.losses
