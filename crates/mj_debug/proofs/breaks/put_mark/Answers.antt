use Rattle.std.specs.Prelude.{position}
use Rattle.std.proofs.Common.{◌≡◌, [], ◌∷◌, ◌++◌, Bool, Some, None, refl, sym, ap, ◌∙◌}
use Rattle.std.proofs.lemmas.List.Quantifiers.{position-Some}
use Rattle.mj_semantics.specs.State.{Place}
use Rattle.mj_debug.specs.declared.breaks.BreakMark.{BreakMark}
use Rattle.mj_debug.specs.Breaks.{line_of, is_same, is_breakpoint}
use Rattle.mj_debug.proofs.Marking.{changed, marked, unmarked}
use Rattle.mj_debug.proofs.breaks.put_mark.Goals as goal

pub returns-in-Some-clause-ok : goal.returns-in-Some-clause-ok
returns-in-Some-clause-ok c = λ image other.
    let line : Place = record { routine = c.args.routine.now; line = c.args.line } in
    let test : BreakMark → Bool = λ m. is_same (line_of m) line in
    let marks = c.args.marks.now.items in
    let k = c.in-Some.place in
    let d = c.index_mut.result.now in
    let found : position test marks ≡ Some k = ap (position test) (sym c.deref.ensures.value) ∙ sym c.in-Some.ensures in
    let there = position-Some test marks k d found in
    let mark : BreakMark = record { routine = d.routine; line = d.line; on = c.args.on } in
    changed image line c.args.on other marks k d mark there.0 there.1 there.2 (ap line_of c.index_mut.ensures.value) refl

pub returns-in_ok-routine-in-None-clause-ok : goal.returns-in_ok-routine-in-None-clause-ok
returns-in_ok-routine-in-None-clause-ok c = λ image other.
    let line : Place = record { routine = c.args.routine.now; line = c.args.line } in
    let test : BreakMark → Bool = λ m. is_same (line_of m) line in
    let marks = c.args.marks.now.items in
    let mark : BreakMark = record { routine = c.in_ok-routine-in-None.routine; line = c.args.line; on = c.args.on } in
    let none : position test marks ≡ None = ap (position test) (sym c.deref.ensures.value) ∙ sym c.in-None.ensures in
    let pushed : c.push_reserved.new.self.items ≡ marks ++ mark ∷ [] =
    c.push_reserved.ensures.items ∙ ap (λ l. l ++ mark ∷ []) c.in_ok-reserve-in-None.ensures.items in
    ap (λ l. is_breakpoint image l other) pushed
    ∙ marked image line c.args.on other marks mark (λ i. record { routine = c.in_ok-routine-in-None.ensures i; line = c.args.line }) refl (unmarked line marks none)
