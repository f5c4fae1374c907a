use Rattle.std.proofs.Common.{Ok, Err, refl, subst}
use Rattle.mj_dev.specs.Told.{IsToldBy}
use Rattle.mj_live.specs.Shows.{Living, LiveStep}
use Rattle.mj_live.proofs.Showing.{refused_step, shown_step, looking_on}
use Rattle.mj_live.proofs.stepping.LiveJobsStepped.step.Goals as goal

pub invariant_of-self-in-Some : goal.invariant_of-self-in-Some
invariant_of-self-in-Some g c =
    let tells = IsToldBy g.D.Device.inside g.D.Device.failures g.D.Device.taken g.D.Device.given g.D.Device.IsTold in
    let i = c.self.inside in
    let old : Living = record { core = i.jobs; contents = g.W.Write.contents i.out; session = i.session; closed = i.is_closed } in
    let new : Living = record { core = c.step.new.self; contents = g.W.Write.contents c.show.new.out; session = c.in-Some.session; closed = i.is_closed } in
    looking_on tells g.O.Opening.opening old new c.args.step c.in-Ok.standing c.count-place.result c.in-Ok.ensures c.if-self.false c.self.invariant
    c.count-place.ensures c.in-Some.ensures

pub returns-in-Err : goal.returns-in-Err
returns-in-Err g c =
    let tells = IsToldBy g.D.Device.inside g.D.Device.failures g.D.Device.taken g.D.Device.given g.D.Device.IsTold in
    let opening = g.O.Opening.opening in
    let i = c.self.inside in
    let old : Living = record { core = i.jobs; contents = g.W.Write.contents i.out; session = i.session; closed = i.is_closed } in
    let new : Living = record { core = c.step.new.self; contents = g.W.Write.contents i.out; session = i.session; closed = i.is_closed } in
    subst (λ (l : Living). LiveStep tells opening l c.args.step (Err c.in-Err.why) new) c.self.view_is
    (refused_step tells opening old new c.args.step c.in-Err.why c.in-Err.ensures c.if-self.false c.if-self.false refl)

pub returns-in-Some : goal.returns-in-Some
returns-in-Some g c =
    let tells = IsToldBy g.D.Device.inside g.D.Device.failures g.D.Device.taken g.D.Device.given g.D.Device.IsTold in
    let opening = g.O.Opening.opening in
    let i = c.self.inside in
    let old : Living = record { core = i.jobs; contents = g.W.Write.contents i.out; session = i.session; closed = i.is_closed } in
    let new : Living = record { core = c.step.new.self; contents = g.W.Write.contents c.show.new.out; session = c.in-Some.session; closed = i.is_closed } in
    subst (λ (l : Living). LiveStep tells opening l c.args.step (Ok c.in-Ok.standing) new) c.self.view_is
    (shown_step tells opening old new c.args.step c.in-Ok.standing c.count-place.result c.in-Ok.ensures c.if-self.false c.if-self.false c.self.invariant
    c.count-place.ensures c.in-Some.ensures)
