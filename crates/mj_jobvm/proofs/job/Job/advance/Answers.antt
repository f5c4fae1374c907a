use Rattle.std.proofs.Common.{◌≡◌, ◌+◌, ℕ, Option, Some, None, sym, ap, ◌∙◌, subst, arith}
use Rattle.mj_ask.specs.declared.ask.Ask.{Ask}
use Rattle.mj_semantics.specs.Job.{Start}
use Rattle.mj_load.specs.Image.{program_of}
use Rattle.mj_machine.specs.Standing.{Standing}
use Rattle.mj_machine.specs.Kept.{standing}
use Rattle.mj_turn.specs.Starts.{start_of}
use Rattle.mj_jobvm.specs.Run.{Log, IsRunAfter}
use Rattle.mj_jobvm.specs.declared.job.Turn.TheVariants as reports
use Rattle.mj_jobvm.specs.Told.{AdvanceTells}
use Rattle.mj_jobvm.specs.Jobs.{Running, IsRunOfAfter, running, given_of, code_in}
use Rattle.mj_jobvm.proofs.Advance.{counted_as, placed_as, none_made, some_made, none_more, further, went_ahead, went_on, went_asks, went_unasked, went_over, told_over}
use Rattle.mj_jobvm.proofs.Jobs.{run, told_again, told_asks, told_ran}
use Rattle.mj_jobvm.proofs.job.Job.advance.Goals as goal

pub returns-in-Some-clause-told : goal.returns-in-Some-clause-told
returns-in-Some-clause-told c = λ start is.
    let j = c.args.self.now in
    told_again (program_of c.args.image.now) start (code_in c.args.image.now j.start) j.run c.in-Some.field-0
    (ap (λ job. job.run.pending) (sym c.self.view_is) ∙ c.in-Some.is) is

pub returns-in-Some-clause-forward : goal.returns-in-Some-clause-forward
returns-in-Some-clause-forward c = λ start turns is. (0, omega arith, none_more turns is)

pub returns-in_err-reserve-clause-forward : goal.returns-in_err-reserve-clause-forward
returns-in_err-reserve-clause-forward c = λ start turns is.
    let s = c.self.inside in
    let P : Log → Type 0 = λ l. IsRunOfAfter c.args.image.now start turns (running (start_of s.start) s.machine l s.places.places s.given s.pending s.spent) in
    let Q : Running → Type 0 = λ j. IsRunOfAfter c.args.image.now start turns j in
    (0, none_made _ c.from_residual.result c.args.fuel c.from_residual.ensures.1, none_more turns (subst P (sym c.reserve.ensures.items) (subst Q (sym c.self.view_is) is)))

pub turns-preserved : goal.turns-preserved
turns-preserved c =
    let i = c.turns.invariant in
    let s = c.turns.self-inside in
    let more = c.run_segment-made.result in
    let ahead : (start : Start) (turns : ℕ) → IsRunOfAfter c.args.image.now start turns c.args.self.now
    → IsRunOfAfter c.args.image.now start
    (turns + c.turns.done + more) (running (start_of s.start) c.run_segment-made.new.machine s.log.items s.places.places s.given None (c.args.self.now.run.spent + c.turns.done + more)) =
    λ start turns is. went_ahead c.args.image.now start (start_of s.start) (turns + c.turns.done) c.units-units.result.now s.log.items s.places.places i.code
    (c.args.self.now.run.spent + c.turns.done) more s.machine c.run_segment-made.new.machine s.given c.run_segment-made.ensures.turns c.run_segment-made.ensures.sound (i.run start turns is) in
    record {
      most = let a = c.run_segment-made.ensures.most in let b = c.if-done-fuel.false in let d = i.most in omega (arith, a, b, d);
      run = λ start turns is.
          let P : ℕ → ℕ → Type 0 = λ t n. IsRunOfAfter c.args.image.now start t (running (start_of s.start) c.go_on.new.machine s.log.items s.places.places c.go_on.new.given None n) in
          let e : c.args.self.now.run.spent + c.turns.done + more + 1 ≡ c.args.self.now.run.spent + (c.turns.done + more + 1) = omega arith in
          let k : turns + c.turns.done + more + 1 ≡ turns + (c.turns.done + more + 1) = omega arith in
          subst (λ t. P t (c.args.self.now.run.spent + (c.turns.done + more + 1))) k (subst (P (turns + c.turns.done + more + 1)) e
          (went_on c.args.image.now start (start_of s.start) (turns + c.turns.done + more) c.units-units.result.now s.log.items c.deref.result.now s.places.places i.code c.deref.ensures.value
          (c.args.self.now.run.spent + c.turns.done + more) c.run_segment-made.new.machine c.go_on.new.machine s.given c.go_on.new.given c.in-Ok.went c.in-Ok.ensures.ok c.go_on.ensures.sound
          (ahead start turns is) c.in-On.is));
      code = i.code;
      small = i.small;
      checked = i.checked;
      sound = c.go_on.ensures.sound;
      log = i.log;
      places = i.places;
      room = i.room;
      pending = i.pending;
      was = i.was;
      spent = i.spent;
    }

pub turns-preserved-then-done-fuel : goal.turns-preserved-then-done-fuel
turns-preserved-then-done-fuel c =
    let i = c.turns.invariant in
    let s = c.turns.self-inside in
    let more = c.run_segment-made.result in
    record {
      most = let a = c.run_segment-made.ensures.most in let d = i.most in omega (arith, a, d);
      run = λ start turns is.
          let P : ℕ → ℕ → Type 0 = λ t n. IsRunOfAfter c.args.image.now start t (running (start_of s.start) c.run_segment-made.new.machine s.log.items s.places.places s.given None n) in
          let e : c.args.self.now.run.spent + c.turns.done + more ≡ c.args.self.now.run.spent + (c.turns.done + more) = omega arith in
          let k : turns + c.turns.done + more ≡ turns + (c.turns.done + more) = omega arith in
          subst (λ t. P t (c.args.self.now.run.spent + (c.turns.done + more))) k (subst (P (turns + c.turns.done + more)) e
          (went_ahead c.args.image.now start (start_of s.start) (turns + c.turns.done) c.units-units.result.now s.log.items s.places.places i.code
          (c.args.self.now.run.spent + c.turns.done) more s.machine c.run_segment-made.new.machine s.given c.run_segment-made.ensures.turns c.run_segment-made.ensures.sound (i.run start turns is)));
      code = i.code;
      small = i.small;
      checked = i.checked;
      sound = c.run_segment-made.ensures.sound;
      log = i.log;
      places = i.places;
      room = i.room;
      pending = i.pending;
      was = i.was;
      spent = i.spent;
    }

pub returns-in-Err-clause-forward : goal.returns-in-Err-clause-forward
returns-in-Err-clause-forward c = λ start turns is.
    let i = c.turns.invariant in
    let s = c.turns.self-inside in
    let more = c.run_segment-made.result in
    let ahead : (start : Start) (turns : ℕ) → IsRunOfAfter c.args.image.now start turns c.args.self.now
    → IsRunOfAfter c.args.image.now start
    (turns + c.turns.done + more) (running (start_of s.start) c.run_segment-made.new.machine s.log.items s.places.places s.given None (c.args.self.now.run.spent + c.turns.done + more)) =
    λ start turns is. went_ahead c.args.image.now start (start_of s.start) (turns + c.turns.done) c.units-units.result.now s.log.items s.places.places i.code
    (c.args.self.now.run.spent + c.turns.done) more s.machine c.run_segment-made.new.machine s.given c.run_segment-made.ensures.turns c.run_segment-made.ensures.sound (i.run start turns is) in (
      c.turns.done + more,
      (let a = c.run_segment-made.ensures.most in let b = i.most in omega (arith, a, b)),
      let same : standing c.go_on.new.machine (given_of c.go_on.new.given s.log.items) ≡ standing c.run_segment-made.new.machine (given_of s.given s.log.items) =
          subst (λ l. standing c.go_on.new.machine (given_of c.go_on.new.given l) ≡ standing c.run_segment-made.new.machine (given_of s.given l)) c.deref.ensures.value c.in-Err.ensures.err in
          let P : Standing → Type 0 =
          λ x. IsRunAfter (program_of c.args.image.now) start (code_in c.args.image.now (start_of s.start)) (turns + c.turns.done + more) (run s.log.items s.places.places s.pending s.spent x) in
          further turns c.turns.done more (subst P (sym same)
          (counted_as (program_of c.args.image.now) start (code_in c.args.image.now (start_of s.start)) (turns + c.turns.done + more) s.log.items s.places.places None s.pending
          (c.args.self.now.run.spent + c.turns.done + more) s.spent (standing c.run_segment-made.new.machine (given_of s.given s.log.items)) i.pending
          (let e = i.spent in omega (arith, e)) (ahead start turns is))),
    )

pub returns-in-Err-clause-run : goal.returns-in-Err-clause-run
returns-in-Err-clause-run c = λ start (turns, is).
    let i = c.turns.invariant in
    let s = c.turns.self-inside in
    let more = c.run_segment-made.result in
    let ahead : (start : Start) (turns : ℕ) → IsRunOfAfter c.args.image.now start turns c.args.self.now
    → IsRunOfAfter c.args.image.now start
    (turns + c.turns.done + more) (running (start_of s.start) c.run_segment-made.new.machine s.log.items s.places.places s.given None (c.args.self.now.run.spent + c.turns.done + more)) =
    λ start turns is. went_ahead c.args.image.now start (start_of s.start) (turns + c.turns.done) c.units-units.result.now s.log.items s.places.places i.code
    (c.args.self.now.run.spent + c.turns.done) more s.machine c.run_segment-made.new.machine s.given c.run_segment-made.ensures.turns c.run_segment-made.ensures.sound (i.run start turns is) in (
      turns + c.turns.done + more,
      let same : standing c.go_on.new.machine (given_of c.go_on.new.given s.log.items) ≡ standing c.run_segment-made.new.machine (given_of s.given s.log.items) =
          subst (λ l. standing c.go_on.new.machine (given_of c.go_on.new.given l) ≡ standing c.run_segment-made.new.machine (given_of s.given l)) c.deref.ensures.value c.in-Err.ensures.err in
          let P : Standing → Type 0 =
          λ x. IsRunAfter (program_of c.args.image.now) start (code_in c.args.image.now (start_of s.start)) (turns + c.turns.done + more) (run s.log.items s.places.places s.pending s.spent x) in
          subst P (sym same)
          (counted_as (program_of c.args.image.now) start (code_in c.args.image.now (start_of s.start)) (turns + c.turns.done + more) s.log.items s.places.places None s.pending
          (c.args.self.now.run.spent + c.turns.done + more) s.spent (standing c.run_segment-made.new.machine (given_of s.given s.log.items)) i.pending
          (let e = i.spent in omega (arith, e)) (ahead start turns is)),
    )

pub returns-in-Asks-clause-forward : goal.returns-in-Asks-clause-forward
returns-in-Asks-clause-forward c = λ start turns is.
    let i = c.turns.invariant in
    let s = c.turns.self-inside in
    let more = c.run_segment-made.result in
    let ahead : (start : Start) (turns : ℕ) → IsRunOfAfter c.args.image.now start turns c.args.self.now
    → IsRunOfAfter c.args.image.now start
    (turns + c.turns.done + more) (running (start_of s.start) c.run_segment-made.new.machine s.log.items s.places.places s.given None (c.args.self.now.run.spent + c.turns.done + more)) =
    λ start turns is. went_ahead c.args.image.now start (start_of s.start) (turns + c.turns.done) c.units-units.result.now s.log.items s.places.places i.code
    (c.args.self.now.run.spent + c.turns.done) more s.machine c.run_segment-made.new.machine s.given c.run_segment-made.ensures.turns c.run_segment-made.ensures.sound (i.run start turns is) in (
      c.turns.done + more,
      (let a = c.run_segment-made.ensures.most in let b = i.most in omega (arith, a, b)),
      further turns c.turns.done more
          (placed_as (program_of c.args.image.now) start (code_in c.args.image.now (start_of s.start)) (turns + c.turns.done + more) s.log.items s.places.places
          c.note_place.new.places.places c.wait.new.pending s.spent (standing c.go_on.new.machine (given_of c.go_on.new.given s.log.items)) c.in_ok-note_place-in-Asks.ensures.places
          (counted_as (program_of c.args.image.now) start (code_in c.args.image.now (start_of s.start)) (turns + c.turns.done + more) s.log.items s.places.places (Some c.in-Asks.ask.value)
          c.wait.new.pending (c.args.self.now.run.spent + c.turns.done + more) s.spent (standing c.go_on.new.machine (given_of c.go_on.new.given s.log.items)) c.wait.ensures
          (let e = i.spent in omega (arith, e))
          (went_asks c.args.image.now start (start_of s.start) (turns + c.turns.done + more) c.units-units.result.now s.log.items c.deref.result.now s.places.places i.code c.deref.ensures.value
          (c.args.self.now.run.spent + c.turns.done + more) c.run_segment-made.new.machine c.go_on.new.machine s.given c.go_on.new.given c.in-Ok.went c.in-Ok.ensures.ok c.go_on.ensures.sound
          (ahead start turns is) c.in-Asks.ask c.in-Asks.is))),
    )

pub returns-in-Asks-clause-run : goal.returns-in-Asks-clause-run
returns-in-Asks-clause-run c = λ start (turns, is).
    let i = c.turns.invariant in
    let s = c.turns.self-inside in
    let more = c.run_segment-made.result in
    let ahead : (start : Start) (turns : ℕ) → IsRunOfAfter c.args.image.now start turns c.args.self.now
    → IsRunOfAfter c.args.image.now start
    (turns + c.turns.done + more) (running (start_of s.start) c.run_segment-made.new.machine s.log.items s.places.places s.given None (c.args.self.now.run.spent + c.turns.done + more)) =
    λ start turns is. went_ahead c.args.image.now start (start_of s.start) (turns + c.turns.done) c.units-units.result.now s.log.items s.places.places i.code
    (c.args.self.now.run.spent + c.turns.done) more s.machine c.run_segment-made.new.machine s.given c.run_segment-made.ensures.turns c.run_segment-made.ensures.sound (i.run start turns is) in (
      turns + c.turns.done + more,
      placed_as (program_of c.args.image.now) start (code_in c.args.image.now (start_of s.start)) (turns + c.turns.done + more) s.log.items s.places.places
          c.note_place.new.places.places c.wait.new.pending s.spent (standing c.go_on.new.machine (given_of c.go_on.new.given s.log.items)) c.in_ok-note_place-in-Asks.ensures.places
          (counted_as (program_of c.args.image.now) start (code_in c.args.image.now (start_of s.start)) (turns + c.turns.done + more) s.log.items s.places.places
          (Some c.in-Asks.ask.value) c.wait.new.pending
          (c.args.self.now.run.spent + c.turns.done + more) s.spent (standing c.go_on.new.machine (given_of c.go_on.new.given s.log.items)) c.wait.ensures
          (let e = i.spent in omega (arith, e))
          (went_asks c.args.image.now start (start_of s.start) (turns + c.turns.done + more) c.units-units.result.now s.log.items c.deref.result.now s.places.places i.code c.deref.ensures.value
          (c.args.self.now.run.spent + c.turns.done + more) c.run_segment-made.new.machine c.go_on.new.machine s.given c.go_on.new.given c.in-Ok.went c.in-Ok.ensures.ok c.go_on.ensures.sound
          (ahead start turns is) c.in-Asks.ask c.in-Asks.is)),
    )

pub returns-in-Over-clause-forward : goal.returns-in-Over-clause-forward
returns-in-Over-clause-forward c = λ start turns is.
    let i = c.turns.invariant in
    let s = c.turns.self-inside in
    let more = c.run_segment-made.result in
    let ahead : (start : Start) (turns : ℕ) → IsRunOfAfter c.args.image.now start turns c.args.self.now
    → IsRunOfAfter c.args.image.now start
    (turns + c.turns.done + more) (running (start_of s.start) c.run_segment-made.new.machine s.log.items s.places.places s.given None (c.args.self.now.run.spent + c.turns.done + more)) =
    λ start turns is. went_ahead c.args.image.now start (start_of s.start) (turns + c.turns.done) c.units-units.result.now s.log.items s.places.places i.code
    (c.args.self.now.run.spent + c.turns.done) more s.machine c.run_segment-made.new.machine s.given c.run_segment-made.ensures.turns c.run_segment-made.ensures.sound (i.run start turns is) in (
      c.turns.done + more,
      (let a = c.run_segment-made.ensures.most in let b = i.most in omega (arith, a, b)),
      further turns c.turns.done more (counted_as (program_of c.args.image.now) start
          (code_in c.args.image.now (start_of s.start)) (turns + c.turns.done + more) s.log.items s.places.places None s.pending (c.args.self.now.run.spent + c.turns.done + more) s.spent
          (standing c.go_on.new.machine (given_of c.go_on.new.given s.log.items)) i.pending (let e = i.spent in omega (arith, e))
          (went_over c.args.image.now start (start_of s.start) (turns + c.turns.done + more) c.units-units.result.now s.log.items c.deref.result.now s.places.places i.code c.deref.ensures.value
          (c.args.self.now.run.spent + c.turns.done + more) c.run_segment-made.new.machine c.go_on.new.machine s.given c.go_on.new.given c.in-Ok.went c.in-Ok.ensures.ok c.go_on.ensures.sound
          (ahead start turns is) c.in-Over.is)),
    )

pub returns-in-Over-clause-run : goal.returns-in-Over-clause-run
returns-in-Over-clause-run c = λ start (turns, is).
    let i = c.turns.invariant in
    let s = c.turns.self-inside in
    let more = c.run_segment-made.result in
    let ahead : (start : Start) (turns : ℕ) → IsRunOfAfter c.args.image.now start turns c.args.self.now
    → IsRunOfAfter c.args.image.now start
    (turns + c.turns.done + more) (running (start_of s.start) c.run_segment-made.new.machine s.log.items s.places.places s.given None (c.args.self.now.run.spent + c.turns.done + more)) =
    λ start turns is. went_ahead c.args.image.now start (start_of s.start) (turns + c.turns.done) c.units-units.result.now s.log.items s.places.places i.code
    (c.args.self.now.run.spent + c.turns.done) more s.machine c.run_segment-made.new.machine s.given c.run_segment-made.ensures.turns c.run_segment-made.ensures.sound (i.run start turns is) in (
      turns + c.turns.done + more,
      counted_as (program_of c.args.image.now) start
          (code_in c.args.image.now (start_of s.start)) (turns + c.turns.done + more) s.log.items s.places.places None s.pending (c.args.self.now.run.spent + c.turns.done + more) s.spent
          (standing c.go_on.new.machine (given_of c.go_on.new.given s.log.items)) i.pending (let e = i.spent in omega (arith, e))
          (went_over c.args.image.now start (start_of s.start) (turns + c.turns.done + more) c.units-units.result.now s.log.items c.deref.result.now s.places.places i.code c.deref.ensures.value
          (c.args.self.now.run.spent + c.turns.done + more) c.run_segment-made.new.machine c.go_on.new.machine s.given c.go_on.new.given c.in-Ok.went c.in-Ok.ensures.ok c.go_on.ensures.sound
          (ahead start turns is) c.in-Over.is),
    )

pub returns-in_err-note_place-in-Asks-clause-forward : goal.returns-in_err-note_place-in-Asks-clause-forward
returns-in_err-note_place-in-Asks-clause-forward c = λ start turns is.
    let i = c.turns.invariant in
    let s = c.turns.self-inside in
    let more = c.run_segment-made.result in
    let ahead : (start : Start) (turns : ℕ) → IsRunOfAfter c.args.image.now start turns c.args.self.now
    → IsRunOfAfter c.args.image.now start
    (turns + c.turns.done + more) (running (start_of s.start) c.run_segment-made.new.machine s.log.items s.places.places s.given None (c.args.self.now.run.spent + c.turns.done + more)) =
    λ start turns is. went_ahead c.args.image.now start (start_of s.start) (turns + c.turns.done) c.units-units.result.now s.log.items s.places.places i.code
    (c.args.self.now.run.spent + c.turns.done) more s.machine c.run_segment-made.new.machine s.given c.run_segment-made.ensures.turns c.run_segment-made.ensures.sound (i.run start turns is) in (
      c.turns.done + more,
      some_made _ c.from_residual-in_err-note_place-in-Asks.result c.args.fuel (c.turns.done + more) c.from_residual-in_err-note_place-in-Asks.ensures.1
          (let a = c.run_segment-made.ensures.most in let b = i.most in omega (arith, a, b)),
      further turns c.turns.done more (placed_as (program_of c.args.image.now) start (code_in c.args.image.now (start_of s.start)) (turns + c.turns.done + more) s.log.items s.places.places
          c.note_place.new.places.places s.pending s.spent (standing c.go_on.new.machine (given_of c.go_on.new.given s.log.items)) c.note_place.ensures.places
          (counted_as (program_of c.args.image.now) start
          (code_in c.args.image.now (start_of s.start)) (turns + c.turns.done + more) s.log.items s.places.places None s.pending (c.args.self.now.run.spent + c.turns.done + more) s.spent
          (standing c.go_on.new.machine (given_of c.go_on.new.given s.log.items)) i.pending (let e = i.spent in omega (arith, e))
          (went_unasked c.args.image.now start (start_of s.start) (turns + c.turns.done + more) c.units-units.result.now s.log.items c.deref.result.now s.places.places i.code c.deref.ensures.value
          (c.args.self.now.run.spent + c.turns.done + more) c.run_segment-made.new.machine c.go_on.new.machine s.given c.go_on.new.given c.in-Ok.went c.in-Ok.ensures.ok c.go_on.ensures.sound
          (ahead start turns is) c.in-Asks.ask c.in-Asks.is))),
    )

pub returns-in_err-note_place-in-Asks-clause-run : goal.returns-in_err-note_place-in-Asks-clause-run
returns-in_err-note_place-in-Asks-clause-run c = λ start (turns, is).
    let i = c.turns.invariant in
    let s = c.turns.self-inside in
    let more = c.run_segment-made.result in
    let ahead : (start : Start) (turns : ℕ) → IsRunOfAfter c.args.image.now start turns c.args.self.now
    → IsRunOfAfter c.args.image.now start
    (turns + c.turns.done + more) (running (start_of s.start) c.run_segment-made.new.machine s.log.items s.places.places s.given None (c.args.self.now.run.spent + c.turns.done + more)) =
    λ start turns is. went_ahead c.args.image.now start (start_of s.start) (turns + c.turns.done) c.units-units.result.now s.log.items s.places.places i.code
    (c.args.self.now.run.spent + c.turns.done) more s.machine c.run_segment-made.new.machine s.given c.run_segment-made.ensures.turns c.run_segment-made.ensures.sound (i.run start turns is) in (
      turns + c.turns.done + more,
      placed_as (program_of c.args.image.now) start (code_in c.args.image.now (start_of s.start)) (turns + c.turns.done + more) s.log.items s.places.places
          c.note_place.new.places.places s.pending s.spent (standing c.go_on.new.machine (given_of c.go_on.new.given s.log.items)) c.note_place.ensures.places
          (counted_as (program_of c.args.image.now) start
          (code_in c.args.image.now (start_of s.start)) (turns + c.turns.done + more) s.log.items s.places.places None s.pending (c.args.self.now.run.spent + c.turns.done + more) s.spent
          (standing c.go_on.new.machine (given_of c.go_on.new.given s.log.items)) i.pending (let e = i.spent in omega (arith, e))
          (went_unasked c.args.image.now start (start_of s.start) (turns + c.turns.done + more) c.units-units.result.now s.log.items c.deref.result.now s.places.places i.code c.deref.ensures.value
          (c.args.self.now.run.spent + c.turns.done + more) c.run_segment-made.new.machine c.go_on.new.machine s.given c.go_on.new.given c.in-Ok.went c.in-Ok.ensures.ok c.go_on.ensures.sound
          (ahead start turns is) c.in-Asks.ask c.in-Asks.is)),
    )

pub returns-clause-forward : goal.returns-clause-forward
returns-clause-forward c = λ start turns is.
    let i = c.turns.invariant in
    let s = c.turns.self-inside in (
      c.turns.done,
      (let a = c.turns-test.false in let b = i.most in omega (arith, a, b)),
      counted_as (program_of c.args.image.now) start
          (code_in c.args.image.now (start_of s.start)) (turns + c.turns.done) s.log.items s.places.places None s.pending (c.args.self.now.run.spent + c.turns.done) c.min-self-inside.result
          (standing s.machine (given_of s.given s.log.items)) i.pending
          (let a = c.min-self-inside.ensures in let b = c.saturating_add.ensures in let d = c.turns-test.false in let e = i.spent in omega (arith, a, b, d, e)) (i.run start turns is),
    )

pub returns-clause-run : goal.returns-clause-run
returns-clause-run c = λ start (turns, is).
    let i = c.turns.invariant in
    let s = c.turns.self-inside in (
      turns + c.turns.done,
      counted_as (program_of c.args.image.now) start
          (code_in c.args.image.now (start_of s.start)) (turns + c.turns.done) s.log.items s.places.places None s.pending (c.args.self.now.run.spent + c.turns.done) c.min-self-inside.result
          (standing s.machine (given_of s.given s.log.items)) i.pending
          (let a = c.min-self-inside.ensures in let b = c.saturating_add.ensures in let d = c.turns-test.false in let e = i.spent in omega (arith, a, b, d, e)) (i.run start turns is),
    )

pub returns-in-Asks-clause-told : goal.returns-in-Asks-clause-told
returns-in-Asks-clause-told c = λ start (turns, is).
    let i = c.turns.invariant in
    let s = c.turns.self-inside in
    let more = c.run_segment-made.result in
    let ahead : (start : Start) (turns : ℕ) → IsRunOfAfter c.args.image.now start turns c.args.self.now
    → IsRunOfAfter c.args.image.now start
    (turns + c.turns.done + more) (running (start_of s.start) c.run_segment-made.new.machine s.log.items s.places.places s.given None (c.args.self.now.run.spent + c.turns.done + more)) =
    λ start turns is. went_ahead c.args.image.now start (start_of s.start) (turns + c.turns.done) c.units-units.result.now s.log.items s.places.places i.code
    (c.args.self.now.run.spent + c.turns.done) more s.machine c.run_segment-made.new.machine s.given c.run_segment-made.ensures.turns c.run_segment-made.ensures.sound (i.run start turns is) in
    let spent = c.args.self.now.run.spent + c.turns.done + more in
    let at : Standing = standing c.go_on.new.machine (given_of c.go_on.new.given s.log.items) in
    let P : Option Ask → Type 0 = λ p. AdvanceTells (program_of c.args.image.now) start reports.Asks (run s.log.items c.note_place.new.places.places p spent at) in
    subst P (sym c.wait.ensures)
    (told_asks (program_of c.args.image.now) start (code_in c.args.image.now (start_of s.start)) s.log.items c.note_place.new.places.places spent c.in-Asks.ask.value at (
      turns + c.turns.done + more,
      placed_as (program_of c.args.image.now) start (code_in c.args.image.now (start_of s.start)) (turns + c.turns.done + more) s.log.items s.places.places
          c.note_place.new.places.places (Some c.in-Asks.ask.value) spent at c.in_ok-note_place-in-Asks.ensures.places
          (went_asks c.args.image.now start (start_of s.start) (turns + c.turns.done + more) c.units-units.result.now s.log.items c.deref.result.now s.places.places i.code c.deref.ensures.value
          (c.args.self.now.run.spent + c.turns.done + more) c.run_segment-made.new.machine c.go_on.new.machine s.given c.go_on.new.given c.in-Ok.went c.in-Ok.ensures.ok c.go_on.ensures.sound
          (ahead start turns is) c.in-Asks.ask c.in-Asks.is),
    ))

pub returns-in-Over-clause-told : goal.returns-in-Over-clause-told
returns-in-Over-clause-told c = λ start (turns, is).
    let i = c.turns.invariant in
    let s = c.turns.self-inside in
    let more = c.run_segment-made.result in
    let ahead : (start : Start) (turns : ℕ) → IsRunOfAfter c.args.image.now start turns c.args.self.now
    → IsRunOfAfter c.args.image.now start
    (turns + c.turns.done + more) (running (start_of s.start) c.run_segment-made.new.machine s.log.items s.places.places s.given None (c.args.self.now.run.spent + c.turns.done + more)) =
    λ start turns is. went_ahead c.args.image.now start (start_of s.start) (turns + c.turns.done) c.units-units.result.now s.log.items s.places.places i.code
    (c.args.self.now.run.spent + c.turns.done) more s.machine c.run_segment-made.new.machine s.given c.run_segment-made.ensures.turns c.run_segment-made.ensures.sound (i.run start turns is) in
    told_over c.args.image.now start (start_of s.start) (turns + c.turns.done + more) c.units-units.result.now s.log.items c.deref.result.now s.places.places i.code c.deref.ensures.value
    (c.args.self.now.run.spent + c.turns.done + more) c.run_segment-made.new.machine c.go_on.new.machine s.given c.go_on.new.given c.in-Ok.went c.in-Ok.ensures.ok c.go_on.ensures.sound
    (ahead start turns is) c.in-Over.is s.pending s.spent

pub returns-clause-told : goal.returns-clause-told
returns-clause-told c = λ start (turns, is).
    let i = c.turns.invariant in
    let s = c.turns.self-inside in
    told_ran (program_of c.args.image.now) start (code_in c.args.image.now (start_of s.start)) s.log.items s.places.places s.pending c.min-self-inside.result
    (standing s.machine (given_of s.given s.log.items)) (
      turns + c.turns.done,
      counted_as (program_of c.args.image.now) start
          (code_in c.args.image.now (start_of s.start)) (turns + c.turns.done) s.log.items s.places.places None s.pending (c.args.self.now.run.spent + c.turns.done) c.min-self-inside.result
          (standing s.machine (given_of s.given s.log.items)) i.pending
          (let a = c.min-self-inside.ensures in let b = c.saturating_add.ensures in let d = c.turns-test.false in let e = i.spent in omega (arith, a, b, d, e)) (i.run start turns is),
    )

pub returns-in-Asks-clause-places : goal.returns-in-Asks-clause-places
returns-in-Asks-clause-places c = c.in_ok-note_place-in-Asks.ensures.places ∙ c.turns.invariant.places

pub returns-in_err-note_place-in-Asks-clause-places : goal.returns-in_err-note_place-in-Asks-clause-places
returns-in_err-note_place-in-Asks-clause-places c = c.note_place.ensures.places ∙ c.turns.invariant.places
