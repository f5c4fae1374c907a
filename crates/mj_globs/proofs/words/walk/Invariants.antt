use Rattle.mj_tree.proofs.Walked.{ClosesOn}
use Rattle.mj_globs.specs.Words.{of_kind, spelled}
use Rattle.mj_globs.proofs.Walked.{Leads}
use Rattle.mj_globs.proofs.words.walk.Given as goal

-- where the words to come are taken too, all are; and where the sink closes among them, it does among all
abbrev pub invariant-loop-word : goal.invariant-loop-word
invariant-loop-word g l = record {
  taken : Leads g.S.Sink.takes g.S.Sink.more l.sink (of_kind l.global (spelled l.word-iterator)) l.fn.sink (of_kind l.global (spelled l.initial.word-iterator));
  closed : ClosesOn g.S.Sink.closes l.sink (of_kind l.global (spelled l.word-iterator)) l.fn.sink (of_kind l.global (spelled l.initial.word-iterator));
}
