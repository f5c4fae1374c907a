use Rattle.std.specs.Prelude.{option_copied}
use Rattle.std.proofs.Common.{◌≡◌, List, Option, Some, None, sym, ap, ◌∙◌, subst}
use Rattle.std.proofs.lemmas.Option.{none-some}
use Rattle.mj_semantics.specs.State.{Place, places, place_of}
use Rattle.mj_load.specs.Image.{Loaded, program_of}
use Rattle.mj_jobs.specs.Rows.{row_at}
use Rattle.mj_sys.specs.History.{History, state_of}
use Rattle.mj_replica.specs.Shows.{HasStood}
use Rattle.mj_replica.proofs.Standing.{no_row, stands}
use Rattle.mj_debug.specs.declared.breaks.BreakMark.{BreakMark}
use Rattle.mj_debug.specs.Breaks.{is_breakpoint, is_there}
use Rattle.mj_debug.specs.Goes.{line_in}
use Rattle.mj_debug.specs.Walks.{Walk}
use Rattle.mj_debug.proofs.Stopping.{front_whole, no_line, no_breakpoint, from_there, stops_there}
use Rattle.mj_debug.proofs.debugger.Debugger+D+Sessions+D+O.stop.Goals as goal

pub unreachable-requires : goal.unreachable-requires
unreachable-requires g c =
    let opening = g.O.Opening.opening in
    let now = c.args.self.now in
    let missing = no_row now.core.image opening now.core.history c.played.result.now c.played.ensures.replica now.place c.played.ensures.made c.played.ensures.full c.args.job
    (sym c.job.ensures ∙ ap option_copied c.in_default.is) in
    let N : History → Type 0 = λ h. row_at (state_of opening h).rows c.args.job ≡ None in
    let none = subst N (front_whole now.core.history now.place c.requires.end) missing in
    none-some c.requires.asks.1.row (sym none ∙ c.requires.asks.1.there)

pub returns-in_default-line-clause-none : goal.returns-in_default-line-clause-none
returns-in_default-line-clause-none g c =
    let opening = g.O.Opening.opening in
    let now = c.args.self.now in
    let found = c.requires.asks.0 in
    let before = c.in-Some.then.now in
    let S : History → Type 0 = λ h. HasStood (program_of now.core.image) opening h c.args.job before.run.at.state.locals (places before.run.at.state) in
    let stood = subst S (front_whole now.core.history now.place c.requires.end)
    (stands now.core.image opening now.core.history c.played.result.now c.played.ensures.replica now.place c.played.ensures.made c.args.job before
    (sym c.job.ensures ∙ ap option_copied c.in-Some.is)) in
    let none : None ≡ place_of found.run.at.state = ap line_in (sym c.in_default-line.is) ∙ c.requires.asks.2 in
    no_line opening now c.args.job found c.requires.asks.1 before stood none

pub returns-then-not-is_breakpoint-clause-none : goal.returns-then-not-is_breakpoint-clause-none
returns-then-not-is_breakpoint-clause-none g c =
    let opening = g.O.Opening.opening in
    let now = c.args.self.now in
    let found = c.requires.asks.0 in
    let before = c.in-Some.then.now in
    let S : History → Type 0 = λ h. HasStood (program_of now.core.image) opening h c.args.job before.run.at.state.locals (places before.run.at.state) in
    let stood = subst S (front_whole now.core.history now.place c.requires.end)
    (stands now.core.image opening now.core.history c.played.result.now c.played.ensures.replica now.place c.played.ensures.made c.args.job before
    (sym c.job.ensures ∙ ap option_copied c.in-Some.is)) in
    let line : Place = record { routine = c.in-Some-line.routine; line = c.in-Some-line.line } in
    let there : Some line ≡ place_of found.run.at.state = ap line_in (sym c.in-Some-line.is) ∙ c.requires.asks.2 in
    let bp : is_breakpoint now.core.image now.marks line ≡ c.is_breakpoint.result =
    ap (λ (w : Walk). is_breakpoint w.core.image w.marks line) (sym c.self.view_is)
    ∙ ap (λ (i : Loaded). is_breakpoint i c.self.inside.marks.items line) (sym c.image.ensures)
    ∙ ap (λ (m : List BreakMark). is_breakpoint c.image.result.now m line) (sym c.deref.ensures.value) ∙ sym c.is_breakpoint.ensures in
    no_breakpoint opening now c.args.job found c.requires.asks.1 before stood line there (bp ∙ c.if-not-is_breakpoint.true)

pub returns-then-is_on_line-clause-none : goal.returns-then-is_on_line-clause-none
returns-then-is_on_line-clause-none g c =
    let opening = g.O.Opening.opening in
    let now = c.args.self.now in
    let found = c.requires.asks.0 in
    let before = c.in-Some.then.now in
    let S : History → Type 0 = λ h. HasStood (program_of now.core.image) opening h c.args.job before.run.at.state.locals (places before.run.at.state) in
    let stood = subst S (front_whole now.core.history now.place c.requires.end)
    (stands now.core.image opening now.core.history c.played.result.now c.played.ensures.replica now.place c.played.ensures.made c.args.job before
    (sym c.job.ensures ∙ ap option_copied c.in-Some.is)) in
    let line : Place = record { routine = c.in-Some-line.routine; line = c.in-Some-line.line } in
    let there : Some line ≡ place_of found.run.at.state = ap line_in (sym c.in-Some-line.is) ∙ c.requires.asks.2 in
    let bp : is_breakpoint now.core.image now.marks line ≡ c.is_breakpoint.result =
    ap (λ (w : Walk). is_breakpoint w.core.image w.marks line) (sym c.self.view_is)
    ∙ ap (λ (i : Loaded). is_breakpoint i c.self.inside.marks.items line) (sym c.image.ensures)
    ∙ ap (λ (m : List BreakMark). is_breakpoint c.image.result.now m line) (sym c.deref.ensures.value) ∙ sym c.is_breakpoint.ensures in
    let at : is_there line (place_of before.run.at.state) ≡ c.is_on_line.result = ap (λ (p : Option Place). is_there line p) (sym c.place.ensures) ∙ sym c.is_on_line.ensures in
    from_there opening now c.args.job found c.requires.asks.1 before stood line there (bp ∙ c.if-not-is_breakpoint.false) (at ∙ c.if-is_on_line.true)

pub returns-clause-some : goal.returns-clause-some
returns-clause-some g c =
    let opening = g.O.Opening.opening in
    let now = c.args.self.now in
    let found = c.requires.asks.0 in
    let before = c.in-Some.then.now in
    let S : History → Type 0 = λ h. HasStood (program_of now.core.image) opening h c.args.job before.run.at.state.locals (places before.run.at.state) in
    let stood = subst S (front_whole now.core.history now.place c.requires.end)
    (stands now.core.image opening now.core.history c.played.result.now c.played.ensures.replica now.place c.played.ensures.made c.args.job before
    (sym c.job.ensures ∙ ap option_copied c.in-Some.is)) in
    let line : Place = record { routine = c.in-Some-line.routine; line = c.in-Some-line.line } in
    let there : Some line ≡ place_of found.run.at.state = ap line_in (sym c.in-Some-line.is) ∙ c.requires.asks.2 in
    let bp : is_breakpoint now.core.image now.marks line ≡ c.is_breakpoint.result =
    ap (λ (w : Walk). is_breakpoint w.core.image w.marks line) (sym c.self.view_is)
    ∙ ap (λ (i : Loaded). is_breakpoint i c.self.inside.marks.items line) (sym c.image.ensures)
    ∙ ap (λ (m : List BreakMark). is_breakpoint c.image.result.now m line) (sym c.deref.ensures.value) ∙ sym c.is_breakpoint.ensures in
    let at : is_there line (place_of before.run.at.state) ≡ c.is_on_line.result = ap (λ (p : Option Place). is_there line p) (sym c.place.ensures) ∙ sym c.is_on_line.ensures in
    stops_there opening now c.args.job found c.requires.asks.1 before stood line there (bp ∙ c.if-not-is_breakpoint.false) (at ∙ c.if-is_on_line.false)
