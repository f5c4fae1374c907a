-- What is read is the entry that the bytes spell.
use Rattle.std.proofs.Common.{◌≡◌, List, ℕ, Option, Result, Ok, Err, IfOk}
use Rattle.mj_ask.specs.declared.entry.Entry.{Entry}
use Rattle.mj_ask.specs.Written.{entry_of, IsReading}
use Rattle.mj_ask.proofs.Entries.{reading}
use Rattle.mj_ask.proofs.entry.Entry.read.Goals as goal

spelled : {E : Type 0} (bytes : List ℕ) (r : Result (Option Entry) E) → IfOk r (λ e. e ≡ entry_of bytes) → IfOk r (λ e. IsReading bytes e)
spelled bytes (Ok e) h = reading bytes e h
spelled bytes (Err e) h = tt

pub returns-clause-spelled : goal.returns-clause-spelled
returns-clause-spelled c = spelled c.args.bytes.now c.read.result c.read.ensures
