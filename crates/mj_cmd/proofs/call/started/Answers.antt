use Rattle.std.proofs.Common.{◌≡◌, List, ◌++◌, refl, sym, subst, inl, inr, arith, map, option_map}
use Rattle.mj_ast.specs.Commands.{Part, target_parts, wait_parts}
use Rattle.mj_ast.specs.Trees.{expr_of, target_of, option_of}
use Rattle.mj_line.specs.Forms.{Starts, EntryWanted, RoutineEnd, ActualsEnd, GuardEnd}
use Rattle.mj_cmd.specs.Reads.{AreWrittenActuals, IsWrittenStart}
use Rattle.mj_cmd.proofs.Follow.{reads_as_err, room_for, joined, fails_then, fails_behind}
use Rattle.mj_cmd.proofs.Jumps.{start_of, start_written}
use Rattle.mj_cmd.proofs.call.started.Goals as goal

pub returns-in_err-target-clause-reads : goal.returns-in_err-target-clause-reads
returns-in_err-target-clause-reads c = λ m r first o condition k done.
    reads_as_err c.args.phrases.limited _ _ c.from_residual.result c.in_err-target.field-0.0 m c.args.tokens.now _ _ c.from_residual.ensures.1
    (c.in_err-target.ensures.reads m Starts first (inl refl) o condition k done)

pub returns-in-Err-clause-reads : goal.returns-in-Err-clause-reads
returns-in-Err-clause-reads c = λ m r first o condition k done.
    (fails_then c.args.phrases.limited (target_parts (target_of c.in_ok-target.target)) c.in-Err.stop m c.args.tokens.now (EntryWanted Starts first)
    c.in_ok-target.rest.now (RoutineEnd Starts) o condition k done (c.in_ok-target.ensures.reads m Starts first (inl refl) o condition k done)
    (λ d. c.in-Err.ensures.reads m (room_for c.args.phrases.limited m c.args.tokens.now c.in_ok-target.rest.now c.in_ok-target.ensures.shorter r) Starts refl o condition k d))

pub returns-in-Err-wait-clause-reads : goal.returns-in-Err-wait-clause-reads
returns-in-Err-wait-clause-reads c = λ m r first o condition k done.
    (fails_then c.args.phrases.limited (target_parts (target_of c.in_ok-target.target)) c.in-Err-wait.stop m c.args.tokens.now (EntryWanted Starts first)
    c.in_ok-target.rest.now (RoutineEnd Starts) o condition k done (c.in_ok-target.ensures.reads m Starts first (inl refl) o condition k done)
    (λ d. fails_behind c.args.phrases.limited (λ ps. AreWrittenActuals ps (map option_of c.in-Ok.actuals.items)) c.in-Err-wait.stop m
    c.in_ok-target.rest.now (RoutineEnd Starts) c.in-Ok.rest.now (ActualsEnd Starts) o condition k d
    (c.in-Ok.ensures.reads m (room_for c.args.phrases.limited m c.args.tokens.now c.in_ok-target.rest.now c.in_ok-target.ensures.shorter r) Starts refl o
    condition k d)
    (λ e. c.in-Err-wait.ensures.reads m (room_for c.args.phrases.limited m c.args.tokens.now c.in-Ok.rest.now
    (omega (arith, c.in_ok-target.ensures.shorter, c.in-Ok.ensures.shorter)) r) (ActualsEnd Starts) (inr refl) o condition k e)))

pub returns-in-Ok-wait-clause-reads : goal.returns-in-Ok-wait-clause-reads
returns-in-Ok-wait-clause-reads c = λ m r first o condition k done.
    joined c.args.phrases.limited (λ ps. ps ≡ target_parts (target_of c.in_ok-target.target)) (λ ps. (fs : List Part) × (bs : List Part) × (ps ≡ fs ++ bs) ×
    AreWrittenActuals fs (map option_of c.in-Ok.actuals.items) ×
    (bs ≡ wait_parts (option_map expr_of c.in-Ok-wait.timeout)))
    (λ ps. IsWrittenStart ps (start_of (target_of c.in_ok-target.target) (map option_of c.in-Ok.actuals.items)
    (option_map expr_of c.in-Ok-wait.timeout))) m c.args.tokens.now (EntryWanted Starts first) c.in_ok-target.rest.now (RoutineEnd Starts)
    c.in-Ok-wait.rest.now (GuardEnd Starts) o condition k done
    (λ ps qs e h. let P : List Part → Type 0 = λ zs. IsWrittenStart (ps ++
    zs) (start_of (target_of c.in_ok-target.target) (map option_of c.in-Ok.actuals.items) (option_map expr_of c.in-Ok-wait.timeout)) in
    subst P (sym h.2) (start_written (target_of c.in_ok-target.target) (map option_of c.in-Ok.actuals.items) (option_map expr_of c.in-Ok-wait.timeout) ps h.0 h.1 e h.3 h.4))
    (c.in_ok-target.ensures.reads m Starts first (inl refl) o condition k done)
    (λ d. joined c.args.phrases.limited (λ ps. AreWrittenActuals ps (map option_of c.in-Ok.actuals.items)) (λ ps. ps ≡
    wait_parts (option_map expr_of c.in-Ok-wait.timeout)) (λ ps. (fs : List Part) × (bs : List Part) × (ps ≡ fs ++ bs) ×
    AreWrittenActuals fs (map option_of c.in-Ok.actuals.items) ×
    (bs ≡ wait_parts (option_map expr_of c.in-Ok-wait.timeout))) m c.in_ok-target.rest.now (RoutineEnd Starts) c.in-Ok.rest.now (ActualsEnd Starts)
    c.in-Ok-wait.rest.now (GuardEnd Starts) o condition k d
    (λ ps qs i e. (ps, qs, refl, i, e))
    (c.in-Ok.ensures.reads m (room_for c.args.phrases.limited m c.args.tokens.now c.in_ok-target.rest.now c.in_ok-target.ensures.shorter r) Starts refl o condition k d)
    (λ e. c.in-Ok-wait.ensures.reads m (room_for c.args.phrases.limited m c.args.tokens.now c.in-Ok.rest.now
    (omega (arith, c.in_ok-target.ensures.shorter, c.in-Ok.ensures.shorter)) r) (ActualsEnd Starts) (inr refl) o condition k e))
