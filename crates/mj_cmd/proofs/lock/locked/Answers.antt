use Rattle.std.proofs.Common.{◌++◌, arith, option_map}
use Rattle.mj_ast.specs.Commands.{mode_parts, lock_names_parts, guard_parts}
use Rattle.mj_ast.specs.Trees.{expr_of, lock_names_of}
use Rattle.mj_line.specs.Forms.{LockWanted, LockNamed, LockEnd}
use Rattle.mj_cmd.specs.Parts.{lock_node}
use Rattle.mj_cmd.proofs.Follow.{reads_err, room_for, went_then, fails_then}
use Rattle.mj_cmd.proofs.Locks.{went_mode}
use Rattle.mj_cmd.proofs.lock.locked.Goals as goal

pub returns-in_err-names-clause-reads : goal.returns-in_err-names-clause-reads
returns-in_err-names-clause-reads c = λ m r first u o condition k done.
    reads_err c.args.phrases.limited _ _ c.from_residual.result c.in_err-names.field-0.0 m c.args.tokens.now _ _ c.from_residual.ensures.1
    (fails_then c.args.phrases.limited (mode_parts c.lock_mode-mode.result.0) c.in_err-names.field-0.0 m c.args.tokens.now (LockWanted first)
    c.lock_mode-mode.result.1.now (lock_node c.lock_mode-mode.result.0 first) o condition k done
    (went_mode c.args.phrases.limited m c.args.tokens.now c.lock_mode-mode.result.1.now c.lock_mode-mode.result.0 first o condition k done
    c.lock_mode-mode.ensures.spelled)
    (λ d. c.in_err-names.ensures.reads m (room_for c.args.phrases.limited m c.args.tokens.now c.lock_mode-mode.result.1.now c.lock_mode-mode.ensures.shorter r)
    c.lock_mode-mode.result.0 first (c.lock_mode-mode.ensures.named first u) o condition k d))

pub returns-in_err-timeout-clause-reads : goal.returns-in_err-timeout-clause-reads
returns-in_err-timeout-clause-reads c = λ m r first u o condition k done.
    reads_err c.args.phrases.limited _ _ c.from_residual-in_err-timeout.result c.in_err-timeout.field-0.0 m c.args.tokens.now _ _ c.from_residual-in_err-timeout.ensures.1
    (fails_then c.args.phrases.limited (mode_parts c.lock_mode-mode.result.0) c.in_err-timeout.field-0.0 m c.args.tokens.now (LockWanted first)
    c.lock_mode-mode.result.1.now (lock_node c.lock_mode-mode.result.0 first) o condition k done
    (went_mode c.args.phrases.limited m c.args.tokens.now c.lock_mode-mode.result.1.now c.lock_mode-mode.result.0 first o condition k done
    c.lock_mode-mode.ensures.spelled)
    (λ d. fails_then c.args.phrases.limited (lock_names_parts (lock_names_of c.in_ok-names.names)) c.in_err-timeout.field-0.0 m c.lock_mode-mode.result.1.now
    (lock_node c.lock_mode-mode.result.0 first) c.in_ok-names.rest.now LockNamed o condition k d
    (c.in_ok-names.ensures.reads m (room_for c.args.phrases.limited m c.args.tokens.now c.lock_mode-mode.result.1.now c.lock_mode-mode.ensures.shorter r)
    c.lock_mode-mode.result.0 first (c.lock_mode-mode.ensures.named first u) o condition k d)
    (λ e. c.in_err-timeout.ensures.reads m (room_for c.args.phrases.limited m c.args.tokens.now c.in_ok-names.rest.now
    (omega (arith, c.lock_mode-mode.ensures.shorter, c.in_ok-names.ensures.shorter)) r) o condition k e)))

pub returns-clause-reads : goal.returns-clause-reads
returns-clause-reads c = λ m r first u o condition k done.
    went_then c.args.phrases.limited (mode_parts c.lock_mode-mode.result.0) (lock_names_parts (lock_names_of c.in_ok-names.names) ++
    guard_parts (option_map expr_of c.in_ok-timeout.timeout)) m c.args.tokens.now (LockWanted first) c.lock_mode-mode.result.1.now
    (lock_node c.lock_mode-mode.result.0 first) c.in_ok-timeout.rest.now LockEnd o condition k done
    (went_mode c.args.phrases.limited m c.args.tokens.now c.lock_mode-mode.result.1.now c.lock_mode-mode.result.0 first o condition k done
    c.lock_mode-mode.ensures.spelled)
    (λ d. went_then c.args.phrases.limited (lock_names_parts (lock_names_of c.in_ok-names.names)) (guard_parts (option_map expr_of c.in_ok-timeout.timeout)) m
    c.lock_mode-mode.result.1.now (lock_node c.lock_mode-mode.result.0 first) c.in_ok-names.rest.now LockNamed c.in_ok-timeout.rest.now LockEnd o condition
    k d (c.in_ok-names.ensures.reads m (room_for c.args.phrases.limited m c.args.tokens.now c.lock_mode-mode.result.1.now c.lock_mode-mode.ensures.shorter
    r) c.lock_mode-mode.result.0 first (c.lock_mode-mode.ensures.named first u) o condition k d)
    (λ e. c.in_ok-timeout.ensures.reads m (room_for c.args.phrases.limited m c.args.tokens.now c.in_ok-names.rest.now
    (omega (arith, c.lock_mode-mode.ensures.shorter, c.in_ok-names.ensures.shorter)) r) o condition k e))
