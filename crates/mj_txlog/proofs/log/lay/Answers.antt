use Rattle.std.proofs.Common.{◌≡◌, ◌<◌, ℕ, length, take, sym, ap, ◌∙◌, subst, arith}
use Rattle.mj_txlog.specs.Laid.{Laid, IsLaid}
use Rattle.mj_txlog.specs.Skips.{gone_by}
use Rattle.mj_txlog.proofs.Laying.{next_laid, next_gone, all_laid, all_gone}
use Rattle.mj_txlog.proofs.log.lay.Goals as goal

pub loop-at-preserved : goal.loop-at-preserved
loop-at-preserved c =
    let es = c.args.entries.now in
    let at = c.loop-at.at in
    let e = c.index-entries-at.result in
    let below : at < length es = c.loop-at-test.true in
    let laid : IsLaid c.loop-at.own (take at es) = subst (λ (k : ℕ). IsLaid c.loop-at.own (take k es)) c.loop-at.invariant.1 c.loop-at.invariant.2 in
    let gone : c.loop-at.own.gone ≡ gone_by (take at es) = c.loop-at.invariant.3 ∙ ap (λ (k : ℕ). gone_by (take k es)) c.loop-at.invariant.1 in (
      omega (arith, below),
      omega arith,
      next_laid c.add.new.self es at e below c.index-entries-at.is (c.in_ok-add.ensures.laid (take at es) laid),
      next_gone c.loop-at.own c.add.new.self es at e below c.index-entries-at.is gone c.in_ok-add.ensures.ok,
    )

pub returns-in_err-add-clause-laid : goal.returns-in_err-add-clause-laid
returns-in_err-add-clause-laid c =
    subst (λ (o : Laid). IsLaid o (take c.loop-at.laid c.args.entries.now)) (sym c.in_err-add.ensures.err) c.loop-at.invariant.2

pub returns-in_err-add-clause-gone : goal.returns-in_err-add-clause-gone
returns-in_err-add-clause-gone c = ap (λ (o : Laid). o.gone) c.in_err-add.ensures.err ∙ c.loop-at.invariant.3

pub returns-clause-all_laid : goal.returns-clause-all_laid
returns-clause-all_laid c =
    let es = c.args.entries.now in
    let all : c.loop-at.laid ≡ length es = omega (arith, c.loop-at.invariant.0, c.loop-at.invariant.1, c.loop-at-test.false) in
    all_laid c.loop-at.own es c.loop-at.laid all c.loop-at.invariant.2

pub returns-clause-all_gone : goal.returns-clause-all_gone
returns-clause-all_gone c =
    let es = c.args.entries.now in
    let all : c.loop-at.laid ≡ length es = omega (arith, c.loop-at.invariant.0, c.loop-at.invariant.1, c.loop-at-test.false) in
    all_gone c.loop-at.own.gone es c.loop-at.laid all c.loop-at.invariant.3
