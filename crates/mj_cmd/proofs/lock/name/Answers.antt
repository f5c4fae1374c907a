use Rattle.std.proofs.Common.{refl, inl}
use Rattle.mj_ast.specs.Trees.{variable_of}
use Rattle.mj_lex.specs.Seen.{tokens_seen}
use Rattle.mj_line.specs.Forms.{LockListed, LockBehind, AVar}
use Rattle.mj_line.specs.Machine.{Argument}
use Rattle.mj_cmd.proofs.Follow.{reads_err, went_place, fails_enter}
use Rattle.mj_cmd.proofs.Locks.{listed_untaken}
use Rattle.mj_cmd.proofs.lock.name.Goals as goal

pub returns-in_err-variable-clause-reads : goal.returns-in_err-variable-clause-reads
returns-in_err-variable-clause-reads c = λ m r o condition k done.
    reads_err c.args.phrases.limited _ _ c.from_residual.result c.in_err-variable.field-0.0 m c.args.tokens.now _ _ c.from_residual.ensures.1
    (fails_enter c.args.phrases.limited c.in_err-variable.field-0.0 m c.args.tokens.now LockListed (AVar 0 LockBehind) o condition k done tt refl
    (listed_untaken (tokens_seen c.args.tokens.now)) (inl refl) (c.in_err-variable.ensures.reads m r (Argument o condition k done (AVar 0 LockBehind)) refl refl))

pub returns-clause-reads : goal.returns-clause-reads
returns-clause-reads c = λ m r o condition k done. went_place c.args.phrases.limited 0 (variable_of c.in_ok-variable.variable) m c.args.tokens.now LockListed
    c.in_ok-variable.rest.now LockBehind o condition k done refl (listed_untaken (tokens_seen c.args.tokens.now)) (inl refl)
    (c.in_ok-variable.ensures.reads m r (Argument o condition k done (AVar 0 LockBehind)) refl refl)
