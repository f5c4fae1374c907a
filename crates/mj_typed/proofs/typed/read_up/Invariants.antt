use Rattle.mj_typed.specs.Typed.{IsOfOneLine, AreKept, ahead_of}
use Rattle.mj_typed.proofs.typed.read_up.Given as goal

-- what was begun is of one line, and nothing is lost
abbrev pub invariant-bytes : goal.invariant-bytes
invariant-bytes g l = record {
  line : IsOfOneLine l.begun.items;
  kept : AreKept (ahead_of l.fn.begun.items l.fn.is_whole (g.B.Read.remaining l.fn.reader)) (ahead_of l.begun.items l.is_whole (g.B.Read.remaining l.reader));
}
