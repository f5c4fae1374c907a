use Rattle.std.proofs.Common.{◌∙◌, ◌<◌, subst}
use Rattle.mj_sys.proofs.Passing.{row_there, row_set, rows_on}
use Rattle.mj_sys.proofs.Places.{nothing_done}
use Rattle.mj_sys.proofs.transacted.Transacted.access.Goals as goal

pub access_at-told-requires : goal.access_at-told-requires
access_at-told-requires c =
    let i = c.self.inside in
    row_there i.globals i.logs.items c.in-Some.at c.index_mut.result.now (subst (λ n. c.in-Some.at < n) (c.len.ensures ∙ i.logs.ok.0) c.in-Some.ensures.some.1)
    c.index_mut.ensures.value c.self.invariant

pub invariant_of-self : goal.invariant_of-self
invariant_of-self c =
    let i = c.self.inside in
    let made = c.answer-told in
    rows_on i.globals made.new.globals i.logs.items c.rises.ensures c.rises-in-None.ensures made.ensures.stamps c.self.invariant

pub invariant_of-self-in-Some : goal.invariant_of-self-in-Some
invariant_of-self-in-Some c =
    let i = c.self.inside in
    let made = c.access_at-told in
    row_set made.new.globals i.logs.items c.in-Some.at made.new.own made.ensures.open
    (rows_on i.globals made.new.globals i.logs.items c.rises.ensures c.rises-in-Some.ensures made.ensures.stamps c.self.invariant)

pub returns-in-Some-clause-err : goal.returns-in-Some-clause-err
returns-in-Some-clause-err c =
    let i = c.self.inside in
    let made = c.access_at-told in
    nothing_done made.result i.globals.content made.new.globals.content i.logs.items c.in-Some.at c.index_mut.result.now made.new.own c.args.self.now
    c.index_mut.ensures.value made.ensures.err c.self.view_is
