use Rattle.std.proofs.Common.{◌≡◌, ◌==◌, Bool, refl, arith}
use Rattle.std.specs.Prelude.{option_copied}
use Rattle.mj_guide.specs.Goes.{EndsAt, GoesPast}
use Rattle.mj_guide.specs.Notes.{situation}
use Rattle.mj_guide.proofs.Turns.{all_made, one_ends, one_more, goes_on, goes_no_more}
use Rattle.mj_guide.proofs.going.go.Goals as goal

pub loop-made-init : goal.loop-made-init
loop-made-init g c = record {
  made = (refl, c.tally_of-tally.ensures.waited);
  counted = c.tally_of-tally.ensures.counted;
  few = omega (arith, c.tally_of-tally.ensures.waited);
}

pub goes_past-requires-clause-counted : goal.goes_past-requires-clause-counted
goes_past-requires-clause-counted g c = c.loop-made.invariant.counted

pub loop-made-preserved : goal.loop-made-preserved
loop-made-preserved g c =
    let so = c.loop-made.invariant in
    let old = situation c.args.debugger.now c.args.notes.now (g.W.Write.contents c.args.out.now) in
    let mid = situation c.loop-made.debugger c.loop-made.notes (g.W.Write.contents c.loop-made.out) in
    let new = situation c.goes_past.new.debugger c.goes_past.new.notes (g.W.Write.contents c.goes_past.new.out) in
    let P = GoesPast g.O.Opening.opening (option_copied c.args.goal) (c.loop-made.made == 0) mid c.loop-made.tally.waited new c.in_ok-step.step.1.waited in
    let past : P = goes_on c.in_ok-step.step.0 P c.in_default.is c.in_ok-step.ensures.past in
    record {
      made = one_more g.O.Opening.opening (option_copied c.args.goal) c.loop-made.made old mid new c.loop-made.tally.waited c.in_ok-step.step.1.waited so.made past;
      counted = c.in_ok-step.ensures.counted;
      few = omega (arith, so.few, c.in_ok-step.ensures.few);
    }

pub returns-in-Some : goal.returns-in-Some
returns-in-Some g c =
    let so = c.loop-made.invariant in
    let old = situation c.args.debugger.now c.args.notes.now (g.W.Write.contents c.args.out.now) in
    let mid = situation c.loop-made.debugger c.loop-made.notes (g.W.Write.contents c.loop-made.out) in
    let new = situation c.goes_past.new.debugger c.goes_past.new.notes (g.W.Write.contents c.goes_past.new.out) in
    let P : Bool → Type 0 = λ full. EndsAt g.O.Opening.opening (option_copied c.args.goal) (c.loop-made.made == 0) mid c.loop-made.tally.waited full new in
    let ends : P c.in-Some.full = goes_no_more c.in_ok-step.step.0 c.in-Some.full P c.in-Some.is c.in_ok-step.ensures.end in
    one_ends g.O.Opening.opening (option_copied c.args.goal) c.loop-made.made c.args.steps old mid new c.loop-made.tally.waited c.in-Some.full so.made
    c.loop-made-test.true ends

pub returns : goal.returns
returns g c =
    let so = c.loop-made.invariant in
    let all : c.loop-made.made ≡ c.args.steps = omega (arith, c.loop-made.auto.made-end, c.loop-made-test.false) in
    let old = situation c.args.debugger.now c.args.notes.now (g.W.Write.contents c.args.out.now) in
    let new = situation c.loop-made.debugger c.loop-made.notes (g.W.Write.contents c.loop-made.out) in
    all_made g.O.Opening.opening (option_copied c.args.goal) c.loop-made.made c.args.steps old new c.loop-made.tally.waited so.made all

pub goes_past-requires-clause-few : goal.goes_past-requires-clause-few
goes_past-requires-clause-few g c = omega (arith, c.loop-made.invariant.few, c.loop-made-test.true, c.ranges.steps)
