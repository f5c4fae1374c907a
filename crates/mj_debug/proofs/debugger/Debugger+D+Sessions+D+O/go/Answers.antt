use Rattle.std.proofs.Common.{false}
use Rattle.std.proofs.lemmas.Result.{err_from_is_err_and}
use Rattle.mj_debug.proofs.Turning.{at_end, still_at_end, go_so, over_so, turn_so, first_so, left_so, unshown_so}
use Rattle.mj_debug.proofs.debugger.Debugger+D+Sessions+D+O.go.Goals as goal

pub played-requires-clause-end : goal.played-requires-clause-end
played-requires-clause-end g c =
    let end = at_end c.self.view_is c.len.result c.len.ensures.value c.if-self-len.false c.self.invariant.1 in
    still_at_end g.O.Opening.opening c.show.new.self c.args.self.now c.in_ok-show.ensures.ok end

pub returns-in_default-clause-ok : goal.returns-in_default-clause-ok
returns-in_default-clause-ok g c =
    let end = at_end c.self.view_is c.len.result c.len.ensures.value c.if-self-len.false c.self.invariant.1 in
    over_so g.O.Opening.opening c.show.new.self c.args.self.now c.in_ok-show.ensures.ok end c.played.result.now c.played.ensures.replica c.played.ensures.made
    c.args.first c.in_default.ensures.none

pub returns-then-first-clause-ok : goal.returns-then-first-clause-ok
returns-then-first-clause-ok g c =
    let end = at_end c.self.view_is c.len.result c.len.ensures.value c.if-self-len.false c.self.invariant.1 in
    first_so g.O.Opening.opening c.show.new.self c.args.self.now c.in_ok-show.ensures.ok end c.played.result.now c.played.ensures.replica c.played.ensures.made
    c.in-Some.job _ c.self-2.view_is c.in-Some.ensures.some c.args.first c.pass.result c.pass.new.self c.if-first.true c.pass.ensures

pub go_on-requires-clause-turn : goal.go_on-requires-clause-turn
go_on-requires-clause-turn g c =
    let end = at_end c.self.view_is c.len.result c.len.ensures.value c.if-self-len.false c.self.invariant.1 in
    turn_so g.O.Opening.opening c.show.new.self c.args.self.now c.in_ok-show.ensures.ok end c.played.result.now c.played.ensures.replica c.played.ensures.made
    c.in-Some.job _ c.self-2.view_is c.in-Some.ensures.some

pub returns-in-Ok-clause-ok : goal.returns-in-Ok-clause-ok
returns-in-Ok-clause-ok g c =
    let end = at_end c.self.view_is c.len.result c.len.ensures.value c.if-self-len.false c.self.invariant.1 in
    go_so g.O.Opening.opening c.show.new.self c.args.self.now c.in_ok-show.ensures.ok end c.args.first false c.in-Ok.gone c.go_on.new.self c.if-first.false c.in-Ok.ensures.ok

pub returns-in_err-show-clause-err : goal.returns-in_err-show-clause-err
returns-in_err-show-clause-err g c =
    let end = at_end c.self.view_is c.len.result c.len.ensures.value c.if-self-len.false c.self.invariant.1 in
    let p = err_from_is_err_and c.from_residual.result c.from_residual.ensures.1 in
    rw (p.1, p.2) (unshown_so g.O.Opening.opening c.args.self.now c.show.new.self c.args.first c.in_err-show.field-0.0 end c.in_err-show.ensures.err)

pub returns-in-Err-clause-err : goal.returns-in-Err-clause-err
returns-in-Err-clause-err g c =
    let end = at_end c.self.view_is c.len.result c.len.ensures.value c.if-self-len.false c.self.invariant.1 in
    let left = c.in-Err.ensures.err in
    left_so g.O.Opening.opening c.show.new.self c.args.self.now c.in_ok-show.ensures.ok end c.played.result.now c.played.ensures.replica c.played.ensures.made
    c.in-Some.job _ c.self-2.view_is c.in-Some.ensures.some c.args.first c.go_on.new.self c.if-first.false left.0 left.1
