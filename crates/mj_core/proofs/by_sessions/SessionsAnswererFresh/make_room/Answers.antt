use Rattle.std.proofs.Common.{sym, ap, ◌∙◌, inr}
use Rattle.mj_dev.specs.Told.{IsToldBy}
use Rattle.mj_sessions.specs.Named.{session_of}
use Rattle.mj_core.proofs.Serving.{stays_so, is_none}
use Rattle.mj_core.proofs.by_sessions.SessionsAnswererFresh.make_room.Goals as goal

pub returns-then-has-clause-refused : goal.returns-then-has-clause-refused
returns-then-has-clause-refused g c =
    λ s a opens takes log has late given all. (inr (c.args.name.now, opens, takes, sym (all c.args.name.now) ∙ sym c.has.ensures ∙ c.if-has.true), tt)

pub returns-then-has-clause-stays : goal.returns-then-has-clause-stays
returns-then-has-clause-stays g c = ((λ log told. told), (λ name has held. held))

pub returns-in-Ok-clause-room : goal.returns-in-Ok-clause-room
returns-in-Ok-clause-room g c = (
  c.in-Ok.ensures.room,
  ap (λ l. session_of c.args.name.now l) c.reserve.ensures.sessions ∙ is_none (session_of c.args.name.now c.args.self.now.sessions) (sym c.has.ensures ∙ c.if-has.false),
)

pub returns-in-Ok-clause-stays : goal.returns-in-Ok-clause-stays
returns-in-Ok-clause-stays g c =
    let tells = IsToldBy g.D.Device.inside g.D.Device.failures g.D.Device.taken g.D.Device.given g.D.Device.IsTold in
    stays_so tells c.args.self.now c.reserve.new.self c.reserve.ensures.sessions

pub returns-in-Err-clause-stays : goal.returns-in-Err-clause-stays
returns-in-Err-clause-stays g c =
    let tells = IsToldBy g.D.Device.inside g.D.Device.failures g.D.Device.taken g.D.Device.given g.D.Device.IsTold in
    stays_so tells c.args.self.now c.reserve.new.self c.reserve.ensures.sessions
