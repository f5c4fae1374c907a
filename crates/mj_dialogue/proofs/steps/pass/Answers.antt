use Rattle.mj_replica.specs.declared.replica.Unshown.{Unshown}
use Rattle.mj_dialogue.specs.Fails.{IsCut, unanswered_of}
use Rattle.mj_dialogue.proofs.Failing.{at_err, cut}
use Rattle.mj_dialogue.proofs.steps.pass.Goals as goal

-- a step that isn't made
pub returns-in_err-gone-clause-err : goal.returns-in_err-gone-clause-err
returns-in_err-gone-clause-err g c =
    let why = c.in_err-gone.field-0.0 in
    let P : Unshown → Type 0 = λ e. IsCut g.O.Opening.opening c.args.debugger.now c.args.first (unanswered_of e) c.go.new.self in
    at_err c.from_residual.result why P
    (cut g.O.Opening.opening c.args.debugger.now c.go.new.self c.args.first why c.in_err-gone.ensures.err c.in_err-gone.ensures.why) c.from_residual.ensures.1
