use Rattle.std.proofs.Common.{◌≡◌, ℕ, ◌≤◌, List, length, Bool, Some, sym, ap, ◌∙◌, subst, arith}
use Rattle.std.specs.Prelude.{slice_get, take}
use Rattle.std.proofs.lemmas.Option.{slice_get-get_or}
use Rattle.mj_ask.specs.declared.noted.Noted.{Noted}
use Rattle.mj_sys.specs.System.{history_limit}
use Rattle.mj_replica.specs.Replays.{event_of, history_of}
use Rattle.mj_replica.specs.Playing.{Playing, Stages}
use Rattle.mj_replica.specs.Walks.{Looks}
use Rattle.mj_replica.proofs.Staging.{is_run}
use Rattle.mj_replica.proofs.Rounds.{room_left, round_on}
use Rattle.mj_replica.proofs.Seeking.{known_none, walked_off, walked_apart, walked_on, walked_all}
use Rattle.mj_replica.proofs.walking.walk_on.Goals as goal

pub loop-at-init : goal.loop-at-init
loop-at-init g c = (c.requires.staged, known_none c.args.image.now g.O.Opening.opening c.args.what c.args.found.now.items c.requires.none)

pub make_event-requires-clause-staged : goal.make_event-requires-clause-staged
make_event-requires-clause-staged g c = (take c.loop-at.at (history_of c.args.events.now), c.loop-at.invariant.0)

pub make_event-requires-clause-room : goal.make_event-requires-clause-room
make_event-requires-clause-room g c =
    room_left c.args.image.now g.O.Opening.opening c.args.events.now c.loop-at.at history_limit c.loop-at.system c.loop-at.jobs.items c.loop-at.invariant.0 c.loop-at-test.true c.requires.short

pub returns-then-not-made : goal.returns-then-not-made
returns-then-not-made g c =
    let events = c.args.events.now in
    let at = c.loop-at.at in
    let e : Noted = c.index-events-at.result in
    let is : slice_get events at ≡ Some e = slice_get-get_or events at e c.loop-at-test.true ∙ ap Some (sym c.index-events-at.is) in
    let opening = g.O.Opening.opening in
    let P : Bool → Type 0 = λ b. Stages c.args.image.now opening (take at (history_of events)) (event_of e) b c.make_event.new.system c.make_event.new.jobs.items in
    walked_off c.args.image.now opening events at e is c.loop-at.found.items c.args.what c.loop-at.system c.loop-at.jobs.items c.loop-at.invariant.0 c.loop-at.invariant.1
    c.make_event.new.system c.make_event.new.jobs.items (subst P c.if-not-made.true (c.in_ok-made.ensures (take at (history_of events)) c.loop-at.invariant.0))

pub returns-then-not-agrees : goal.returns-then-not-agrees
returns-then-not-agrees g c =
    let events = c.args.events.now in
    let at = c.loop-at.at in
    let e : Noted = c.index-events-at.result in
    let is : slice_get events at ≡ Some e = slice_get-get_or events at e c.loop-at-test.true ∙ ap Some (sym c.index-events-at.is) in
    let opening = g.O.Opening.opening in
    let P : Bool → Type 0 = λ b. Stages c.args.image.now opening (take at (history_of events)) (event_of e) b c.make_event.new.system c.make_event.new.jobs.items in
    let staged = subst P c.if-not-made.false (c.in_ok-made.ensures (take at (history_of events)) c.loop-at.invariant.0) in
    let J : List Playing → Type 0 = λ l. Looks c.args.what l e c.loop-at.found.items c.in_ok-agrees.agrees c.look.new.found.items in
    let A : Bool → Type 0 = λ b. Looks c.args.what c.make_event.new.jobs.items e c.loop-at.found.items b c.look.new.found.items in
    walked_apart c.args.image.now opening events at e is c.loop-at.found.items c.make_event.new.system c.make_event.new.jobs.items staged c.look.new.found.items c.args.what
    (is_run c.args.image.now opening (take at (history_of events)) c.loop-at.system c.loop-at.jobs.items c.loop-at.invariant.0) c.loop-at.invariant.1
    (subst A c.if-not-agrees.true (subst J c.deref.ensures.value c.in_ok-agrees.ensures))

pub loop-at-preserved : goal.loop-at-preserved
loop-at-preserved g c =
    let events = c.args.events.now in
    let at = c.loop-at.at in
    let e : Noted = c.index-events-at.result in
    let is : slice_get events at ≡ Some e = slice_get-get_or events at e c.loop-at-test.true ∙ ap Some (sym c.index-events-at.is) in
    let opening = g.O.Opening.opening in
    let P : Bool → Type 0 = λ b. Stages c.args.image.now opening (take at (history_of events)) (event_of e) b c.make_event.new.system c.make_event.new.jobs.items in
    let staged = subst P c.if-not-made.false (c.in_ok-made.ensures (take at (history_of events)) c.loop-at.invariant.0) in
    let J : List Playing → Type 0 = λ l. Looks c.args.what l e c.loop-at.found.items c.in_ok-agrees.agrees c.look.new.found.items in
    let A : Bool → Type 0 = λ b. Looks c.args.what c.make_event.new.jobs.items e c.loop-at.found.items b c.look.new.found.items in (
      round_on c.args.image.now opening events at e is c.loop-at.system c.loop-at.jobs.items c.loop-at.invariant.0 c.make_event.new.system c.make_event.new.jobs.items staged,
      walked_on c.args.image.now opening events at e is c.loop-at.found.items c.make_event.new.system c.make_event.new.jobs.items staged c.look.new.found.items c.args.what
          c.loop-at.invariant.1 (subst A c.if-not-agrees.false (subst J c.deref.ensures.value c.in_ok-agrees.ensures)),
    )

pub returns : goal.returns
returns g c =
    let events = c.args.events.now in
    let past : length events ≤ c.loop-at.at = (let t = c.loop-at-test.false in omega (arith, t)) in
    walked_all c.args.image.now g.O.Opening.opening events c.loop-at.at c.loop-at.system c.loop-at.jobs.items c.args.what c.loop-at.found.items past c.loop-at.invariant.0
    c.loop-at.invariant.1
