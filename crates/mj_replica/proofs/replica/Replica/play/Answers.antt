use Rattle.std.specs.Prelude.{slice_get, take}
use Rattle.std.proofs.Common.{◌≡◌, Some, sym, ap, subst, arith}
use Rattle.mj_load.specs.Image.{Loaded}
use Rattle.mj_sys.specs.declared.event.Event.{Event}
use Rattle.mj_sys.specs.System.{history_limit}
use Rattle.mj_replica.specs.Playing.{AreStaged}
use Rattle.mj_replica.specs.Replicas.{Replayed, IsReplica}
use Rattle.mj_replica.proofs.Rounds.{room_in, play_off, play_on}
use Rattle.mj_replica.proofs.replica.Replica.play.Goals as goal

pub make_event-requires-clause-room : goal.make_event-requires-clause-room
make_event-requires-clause-room g c =
    let image = c.args.core.now.image in
    let opening = g.O.Opening.opening in
    let history = c.args.core.now.history in
    let R : Replayed → Type 0 = λ r. IsReplica image opening history r in
    let here = subst R (sym c.self.view_is) c.requires.replica in
    let same : c.self.inside.made ≡ c.args.self.now.made = ap (λ (r : Replayed). r.made) c.self.view_is in
    let more = c.requires.more in
    room_in image opening history c.self.inside.made history_limit c.self.inside.system c.self.inside.jobs.items here.staged (omega (arith, same, more)) c.requires.short

pub returns-then-not-made-clause-err : goal.returns-then-not-made-clause-err
returns-then-not-made-clause-err g c =
    let image = c.args.core.now.image in
    let opening = g.O.Opening.opening in
    let history = c.args.core.now.history in
    let R : Replayed → Type 0 = λ r. IsReplica image opening history r in
    let here = subst R (sym c.self.view_is) c.requires.replica in
    let at = c.self.inside.made in
    let e : Event = record { job = c.in-Some.job; ask = c.in-Some.ask.now; reply = c.in-Some.reply.now } in
    let there : slice_get history at ≡ Some e = sym (rw c.in-Some.is at c.event.ensures) in
    let S : Loaded → Type 0 = λ i. AreStaged i opening (take at history) c.self.inside.system c.self.inside.jobs.items in
    let stages = c.in-Ok.ensures (take at history) (subst S (sym c.image.ensures) here.staged) in
    let same : c.self.inside.made ≡ c.args.self.now.made = ap (λ (r : Replayed). r.made) c.self.view_is in
    (at, omega (arith, same), play_off image c.image.result.now opening history at e c.in-Ok.made _ _ c.image.ensures there c.len-events.ensures.run c.if-not-made.true stages)

pub returns-clause-ok : goal.returns-clause-ok
returns-clause-ok g c =
    let image = c.args.core.now.image in
    let opening = g.O.Opening.opening in
    let history = c.args.core.now.history in
    let R : Replayed → Type 0 = λ r. IsReplica image opening history r in
    let here = subst R (sym c.self.view_is) c.requires.replica in
    let at = c.self.inside.made in
    let e : Event = record { job = c.in-Some.job; ask = c.in-Some.ask.now; reply = c.in-Some.reply.now } in
    let there : slice_get history at ≡ Some e = sym (rw c.in-Some.is at c.event.ensures) in
    let S : Loaded → Type 0 = λ i. AreStaged i opening (take at history) c.self.inside.system c.self.inside.jobs.items in
    let stages = c.in-Ok.ensures (take at history) (subst S (sym c.image.ensures) here.staged) in
    let same : c.self.inside.made ≡ c.args.self.now.made = ap (λ (r : Replayed). r.made) c.self.view_is in
    let more = c.requires.more in
    record {
      within = omega (arith, same, more);
      staged = play_on image c.image.result.now opening history at e c.in-Ok.made _ _ c.image.ensures there c.if-not-made.false stages;
    }
