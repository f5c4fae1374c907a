use Rattle.std.proofs.Common.{◌≡◌, ◌∙◌, ℕ, List, Some, refl, sym, ap, subst}
use Rattle.std.specs.Prelude.{option_copied, option_map}
use Rattle.std.specs.Io.KnownBytes.{Appends}
use Rattle.mj_guide.specs.Ends.{ending}
use Rattle.mj_guide.specs.Notes.{situation}
use Rattle.mj_guide.proofs.Counting.{still_counted}
use Rattle.mj_guide.proofs.going.goes_past.Goals as goal

pub tally_behind-behind-requires-clause-few : goal.tally_behind-behind-requires-clause-few
tally_behind-behind-requires-clause-few g c = c.requires.few

pub tally_behind-behind-requires-clause-ended : goal.tally_behind-behind-requires-clause-ended
tally_behind-behind-requires-clause-ended g c =
    let old = situation c.args.debugger.now c.args.notes.now (g.W.Write.contents c.args.out.now) in
    let last = situation c.turn.new.debugger c.turn.new.notes (g.W.Write.contents c.turn.new.out) in
    still_counted g.O.Opening.opening c.args.first old last c.in_ok-step.step.0 c.args.tally c.in_ok-step.ensures.0 c.requires.counted

pub ending-requires : goal.ending-requires
ending-requires g c = c.tally_behind-behind.ensures.counted.0

pub returns-clause-past : goal.returns-clause-past
returns-clause-past g c =
    (c.in_ok-step.step.0, c.in_ok-step.ensures.0, c.tally_behind-behind.ensures.waited, sym c.in_ok-end.ensures ∙ ap (option_map (λ line. line.items)) c.in-None.is)

pub returns-in-Some-clause-end : goal.returns-in-Some-clause-end
returns-in-Some-clause-end g c =
    let gone = c.in_ok-step.step.0 in
    let last = situation c.turn.new.debugger c.turn.new.notes (g.W.Write.contents c.turn.new.out) in
    let line = c.in-Some.line.items in
    let told = sym c.in_ok-end.ensures ∙ ap (option_map (λ line. line.items)) c.in-Some.is in
    let E : ℕ → Type 0 = λ waited. ending g.O.Opening.opening last.watched (option_copied c.args.goal) waited gone last.walk.core.history ≡ Some line in
    let Q : List ℕ → Type 0 = λ bytes. Appends (g.W.Write.contents c.turn.new.out) (g.W.Write.contents c.put.new.out) bytes in (
      gone,
      last,
      line,
      c.in_ok-step.ensures.0,
      subst E c.tally_behind-behind.ensures.waited told,
      subst Q c.deref.ensures.value c.in_ok-put-in-Some.ensures.ok,
      refl,
      c.in_ok-step.ensures.1,
    )

pub returns-in-Some-clause-counted : goal.returns-in-Some-clause-counted
returns-in-Some-clause-counted g c = c.tally_behind-behind.ensures.counted

pub returns-in-Some-clause-few : goal.returns-in-Some-clause-few
returns-in-Some-clause-few g c = c.tally_behind-behind.ensures.few

pub returns-clause-counted : goal.returns-clause-counted
returns-clause-counted g c = c.tally_behind-behind.ensures.counted

pub returns-clause-few : goal.returns-clause-few
returns-clause-few g c = c.tally_behind-behind.ensures.few
