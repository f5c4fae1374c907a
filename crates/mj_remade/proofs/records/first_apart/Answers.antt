use Rattle.std.proofs.Common.{◌≡◌, Some, sym, ap, ◌∙◌, arith}
use Rattle.std.specs.Prelude.{slice_get}
use Rattle.std.proofs.lemmas.Option.{slice_get-get_or}
use Rattle.mj_ask.specs.declared.noted.Noted.{Noted}
use Rattle.mj_load.specs.Image.{program_of}
use Rattle.mj_remade.proofs.Comparing.{one_more, one_apart, all_noted, more_noted}
use Rattle.mj_remade.proofs.records.first_apart.Goals as goal

pub loop-at-preserved : goal.loop-at-preserved
loop-at-preserved g c =
    let events = c.args.events.now in
    let at = c.loop-at.at in
    let e : Noted = c.index-events-at.result in
    let is : slice_get events at ≡ Some e = slice_get-get_or events at e c.loop-at-test.true ∙ ap Some (sym c.index-events-at.is) in
    one_more c.args.form (program_of c.args.core.now.image) g.O.Opening.opening events c.args.core.now.history at e is
    (c.is_as_noted.ensures.event c.if-not-is_as_noted.false) (c.is_as_noted.ensures.from c.if-not-is_as_noted.false) c.loop-at.invariant

pub returns-then-not-is_as_noted : goal.returns-then-not-is_as_noted
returns-then-not-is_as_noted g c =
    let events = c.args.events.now in
    let at = c.loop-at.at in
    let e : Noted = c.index-events-at.result in
    let is : slice_get events at ≡ Some e = slice_get-get_or events at e c.loop-at-test.true ∙ ap Some (sym c.index-events-at.is) in
    one_apart c.args.form (program_of c.args.core.now.image) g.O.Opening.opening events c.args.core.now.history at e is
    (c.is_as_noted.ensures.apart c.if-not-is_as_noted.true) c.loop-at.invariant

pub returns-then-same : goal.returns-then-same
returns-then-same g c =
    all_noted c.args.form (program_of c.args.core.now.image) g.O.Opening.opening c.args.events.now c.args.core.now.history c.loop-at.at
    (omega (arith, c.loop-at-test.false)) (sym c.len-count.ensures.value ∙ c.if-same.true) c.loop-at.invariant

pub returns : goal.returns
returns g c =
    more_noted c.args.form (program_of c.args.core.now.image) g.O.Opening.opening c.args.events.now c.args.core.now.history c.loop-at.at
    (omega (arith, c.loop-at-test.false)) (λ is. c.if-same.false (c.len-count.ensures.value ∙ is)) c.loop-at.invariant
