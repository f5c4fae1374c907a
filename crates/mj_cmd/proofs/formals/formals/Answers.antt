use Rattle.mj_lex.specs.Seen.{tokens_seen}
use Rattle.mj_cmd.proofs.Front.{open_goes, reads_behind}
use Rattle.mj_cmd.proofs.formals.formals.Goals as goal

pub returns-in-Some-clause-reads : goal.returns-in-Some-clause-reads
returns-in-Some-clause-reads c = λ m limited label.
    reads_behind limited _ _ c.names.result m c.args.tokens.now c.in-Some.behind.now _ _ _
    (open_goes m label (tokens_seen c.args.tokens.now) (tokens_seen c.in-Some.behind.now) c.in-Some.ensures.0)
    (c.names.ensures.reads m limited label)
