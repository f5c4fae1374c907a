use Rattle.std.proofs.Common.{◌≡◌, List, ◌++◌, refl, sym, subst, inr, arith, map, option_map}
use Rattle.mj_ast.specs.Commands.{Part, target_parts, guard_parts}
use Rattle.mj_ast.specs.Trees.{expr_of, target_of, option_of}
use Rattle.mj_line.specs.Forms.{Calls, EntryWanted, RoutineEnd, ActualsEnd, GuardEnd}
use Rattle.mj_cmd.specs.Reads.{AreWrittenActuals, IsWrittenCall}
use Rattle.mj_cmd.proofs.Follow.{reads_as_err, room_for, joined, fails_then, fails_behind}
use Rattle.mj_cmd.proofs.Jumps.{call_of, call_written}
use Rattle.mj_cmd.proofs.call.called.Goals as goal

pub returns-in_err-target-clause-reads : goal.returns-in_err-target-clause-reads
returns-in_err-target-clause-reads c = λ m r first u o condition k done.
    reads_as_err c.args.phrases.limited _ _ c.from_residual.result c.in_err-target.field-0.0 m c.args.tokens.now _ _ c.from_residual.ensures.1
    (c.in_err-target.ensures.reads m Calls first u o condition k done)

pub returns-in-Err-clause-reads : goal.returns-in-Err-clause-reads
returns-in-Err-clause-reads c = λ m r first u o condition k done.
    (fails_then c.args.phrases.limited (target_parts (target_of c.in_ok-target.target)) c.in-Err.stop m c.args.tokens.now (EntryWanted Calls first)
    c.in_ok-target.rest.now (RoutineEnd Calls) o condition k done (c.in_ok-target.ensures.reads m Calls first u o condition k done)
    (λ d. c.in-Err.ensures.reads m (room_for c.args.phrases.limited m c.args.tokens.now c.in_ok-target.rest.now c.in_ok-target.ensures.shorter r) Calls refl o condition k d))

pub returns-in-Err-guard-clause-reads : goal.returns-in-Err-guard-clause-reads
returns-in-Err-guard-clause-reads c = λ m r first u o condition k done.
    (fails_then c.args.phrases.limited (target_parts (target_of c.in_ok-target.target)) c.in-Err-guard.stop m c.args.tokens.now (EntryWanted Calls first)
    c.in_ok-target.rest.now (RoutineEnd Calls) o condition k done (c.in_ok-target.ensures.reads m Calls first u o condition k done)
    (λ d. fails_behind c.args.phrases.limited (λ ps. AreWrittenActuals ps (map option_of c.in-Ok.actuals.items)) c.in-Err-guard.stop m
    c.in_ok-target.rest.now (RoutineEnd Calls) c.in-Ok.rest.now (ActualsEnd Calls) o condition k d
    (c.in-Ok.ensures.reads m (room_for c.args.phrases.limited m c.args.tokens.now c.in_ok-target.rest.now c.in_ok-target.ensures.shorter r) Calls refl o
    condition k d)
    (λ e. c.in-Err-guard.ensures.reads m (room_for c.args.phrases.limited m c.args.tokens.now c.in-Ok.rest.now
    (omega (arith, c.in_ok-target.ensures.shorter, c.in-Ok.ensures.shorter)) r) Calls refl (ActualsEnd Calls) (inr refl) o condition k e)))

pub returns-in-Ok-guard-clause-reads : goal.returns-in-Ok-guard-clause-reads
returns-in-Ok-guard-clause-reads c = λ m r first u o condition k done.
    joined c.args.phrases.limited (λ ps. ps ≡ target_parts (target_of c.in_ok-target.target)) (λ ps. (fs : List Part) × (bs : List Part) × (ps ≡ fs ++ bs) ×
    AreWrittenActuals fs (map option_of c.in-Ok.actuals.items) ×
    (bs ≡ guard_parts (option_map expr_of c.in-Ok-guard.condition)))
    (λ ps. IsWrittenCall ps (call_of (target_of c.in_ok-target.target) (map option_of c.in-Ok.actuals.items)
    (option_map expr_of c.in-Ok-guard.condition))) m c.args.tokens.now (EntryWanted Calls first) c.in_ok-target.rest.now (RoutineEnd Calls)
    c.in-Ok-guard.rest.now (GuardEnd Calls) o condition k done
    (λ ps qs e h. let P : List Part → Type 0 = λ zs. IsWrittenCall (ps ++
    zs) (call_of (target_of c.in_ok-target.target) (map option_of c.in-Ok.actuals.items) (option_map expr_of c.in-Ok-guard.condition)) in
    subst P (sym h.2) (call_written (target_of c.in_ok-target.target) (map option_of c.in-Ok.actuals.items) (option_map expr_of c.in-Ok-guard.condition) ps h.0 h.1 e h.3 h.4))
    (c.in_ok-target.ensures.reads m Calls first u o condition k done)
    (λ d. joined c.args.phrases.limited (λ ps. AreWrittenActuals ps (map option_of c.in-Ok.actuals.items)) (λ ps. ps ≡
    guard_parts (option_map expr_of c.in-Ok-guard.condition)) (λ ps. (fs : List Part) × (bs : List Part) × (ps ≡ fs ++ bs) ×
    AreWrittenActuals fs (map option_of c.in-Ok.actuals.items) ×
    (bs ≡ guard_parts (option_map expr_of c.in-Ok-guard.condition))) m c.in_ok-target.rest.now (RoutineEnd Calls) c.in-Ok.rest.now (ActualsEnd Calls)
    c.in-Ok-guard.rest.now (GuardEnd Calls) o condition k d
    (λ ps qs i e. (ps, qs, refl, i, e))
    (c.in-Ok.ensures.reads m (room_for c.args.phrases.limited m c.args.tokens.now c.in_ok-target.rest.now c.in_ok-target.ensures.shorter r) Calls refl o condition k d)
    (λ e. c.in-Ok-guard.ensures.reads m (room_for c.args.phrases.limited m c.args.tokens.now c.in-Ok.rest.now
    (omega (arith, c.in_ok-target.ensures.shorter, c.in-Ok.ensures.shorter)) r) Calls refl (ActualsEnd Calls) (inr refl) o condition k e))
