use Rattle.std.proofs.Common.{refl, inl, option_map}
use Rattle.mj_ast.specs.Commands.{target_parts, guard_parts}
use Rattle.mj_ast.specs.Trees.{expr_of, target_of}
use Rattle.mj_line.specs.Forms.{Jumps, EntryWanted, RoutineEnd, GuardEnd}
use Rattle.mj_cmd.proofs.Follow.{reads_err, room_for, went_then, fails_then}
use Rattle.mj_cmd.proofs.control.jump.Goals as goal

pub returns-in_err-condition-clause-reads : goal.returns-in_err-condition-clause-reads
returns-in_err-condition-clause-reads c = λ m r first o condition k done.
    reads_err c.args.phrases.limited _ _ c.from_residual-in_err-condition.result c.in_err-condition.field-0.0 m c.args.tokens.now _ _ c.from_residual-in_err-condition.ensures.1
    (fails_then c.args.phrases.limited (target_parts (target_of c.in_ok-target.target)) c.in_err-condition.field-0.0 m c.args.tokens.now
    (EntryWanted Jumps first) c.in_ok-target.rest.now (RoutineEnd Jumps) o condition k done
    (c.in_ok-target.ensures.reads m Jumps first (inl refl) o condition k done)
    (λ d. c.in_err-condition.ensures.reads m (room_for c.args.phrases.limited m c.args.tokens.now c.in_ok-target.rest.now c.in_ok-target.ensures.shorter r)
    Jumps refl (RoutineEnd Jumps) (inl (refl, inl refl)) o condition k d))

pub returns-clause-reads : goal.returns-clause-reads
returns-clause-reads c = λ m r first o condition k done.
    went_then c.args.phrases.limited (target_parts (target_of c.in_ok-target.target)) (guard_parts (option_map expr_of c.in_ok-condition.condition)) m
    c.args.tokens.now (EntryWanted Jumps first) c.in_ok-target.rest.now (RoutineEnd Jumps) c.in_ok-condition.rest.now (GuardEnd Jumps) o condition k done
    (c.in_ok-target.ensures.reads m Jumps first (inl refl) o condition k done)
    (λ d. c.in_ok-condition.ensures.reads m (room_for c.args.phrases.limited m c.args.tokens.now c.in_ok-target.rest.now c.in_ok-target.ensures.shorter r) Jumps
    refl (RoutineEnd Jumps) (inl (refl, inl refl)) o condition k d)
