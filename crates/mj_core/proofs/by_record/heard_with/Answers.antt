use Rattle.std.proofs.Common.{Bool, sym, subst}
use Rattle.mj_expect.specs.Heeds.{Heeds, AreHeeds, Heard}
use Rattle.mj_core.proofs.Hearing.{heard_told, copy_told}
use Rattle.mj_core.proofs.Stepping.{unshared}
use Rattle.mj_core.proofs.by_record.heard_with.Goals as goal

pub hear-requires : goal.hear-requires
hear-requires c = unshared c.args.ask.now c.requires

pub returns-in-Ok-true-clause-heard : goal.returns-in-Ok-true-clause-heard
returns-in-Ok-true-clause-heard c = λ log all.
    let A : Heeds → Type 0 = λ h. AreHeeds log h in
    let H : Bool → Type 0 = λ b. Heard log c.args.ask.now c.args.reply.now b c.hear.new.self in
    let heard = subst H c.in-Ok-true.field-0-test (c.in-Ok-true.ensures log (subst A (sym c.in_ok-heard.ensures) all)) in
    heard_told c.with_reply.result c.hear.new.self log c.args.ask.now c.args.reply.now heard c.with_reply.ensures

pub returns-in-Ok-true-clause-told : goal.returns-in-Ok-true-clause-told
returns-in-Ok-true-clause-told c = copy_told c.with_reply.result c.hear.new.self c.args.reply.now c.with_reply.ensures

pub returns-in-Ok-false-clause-heard : goal.returns-in-Ok-false-clause-heard
returns-in-Ok-false-clause-heard c = λ log all.
    let A : Heeds → Type 0 = λ h. AreHeeds log h in
    let H : Bool → Type 0 = λ b. Heard log c.args.ask.now c.args.reply.now b c.hear.new.self in
    subst H c.in-Ok-false.field-0-test (c.in-Ok-false.ensures log (subst A (sym c.in_ok-heard.ensures) all))
