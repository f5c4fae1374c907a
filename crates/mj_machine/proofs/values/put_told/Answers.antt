use Rattle.std.proofs.Common.{◌≡◌, ℕ, ◌+◌, ◌-◌, refl, None, ap, ◌∙◌, arith}
use Rattle.mj_machine.specs.Standing.{Standing}
use Rattle.mj_machine.specs.Kept.{standing}
use Rattle.mj_machine.proofs.values.put_told.Goals as goal

pub returns-in-Ok-clause-ok : goal.returns-in-Ok-clause-ok
returns-in-Ok-clause-ok c r a = (refl, c.in-Ok.ensures.ok r a None)

pub returns-in-Err-clause-err : goal.returns-in-Err-clause-err
returns-in-Err-clause-err c = λ given.
    let old = c.args.machine.now in
    let less : Standing → Standing = λ st. record st { state = record st.state { replied = st.state.replied - 1 } } in
    let with : ℕ → Standing = λ k. let st : Standing = standing old given in record st { state = record st.state { replied = k } } in
    ap less (c.in-Err.ensures.err given) ∙ ap with (let e : old.replied + 1 - 1 ≡ old.replied = omega arith in e)
