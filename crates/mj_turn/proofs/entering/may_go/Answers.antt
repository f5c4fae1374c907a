use Rattle.std.proofs.Common.{◌≡◌, ◌==◌, Some, Bool, true, false, ◌&&◌, ◌||◌, map, refl, sym, ap, ◌∙◌}
use Rattle.std.specs.Str.{bytes_eq}
use Rattle.std.proofs.lemmas.Bool.{eq-eqb, ne_eqb}
use Rattle.mj_semantics.specs.State.{Place, level_of, stays}
use Rattle.mj_pcode.specs.Found.{levels_in}
use Rattle.mj_frames.specs.Frames.{frame_of, frame_at, innermost}
use Rattle.mj_machine.specs.Kept.{state_of}
use Rattle.mj_turn.proofs.Going.{seen_from, goes_by}
use Rattle.mj_turn.proofs.entering.may_go.Goals as goal

pub returns-then-level : goal.returns-then-level
returns-then-level c =
    let s = state_of c.args.machine.now in
    let to : Place = record { routine = c.args.unit.now.name; line = c.args.line } in
    let ls = levels_in c.args.unit.now in
    let ne : (c.args.level == level_of s) ≡ false = ne_eqb c.args.level (level_of s) (λ e. c.if-level.true (e ∙ sym c.level.ensures.value)) in
    sym (goes_by s to c.args.level ls (innermost s.frames) refl ∙ ap (λ b. b && (c.args.level == 1 || seen_from (innermost s.frames) to c.args.level ls)) ne)

pub returns-then-level-eq1 : goal.returns-then-level-eq1
returns-then-level-eq1 c =
    let s = state_of c.args.machine.now in
    let to : Place = record { routine = c.args.unit.now.name; line = c.args.line } in
    let ls = levels_in c.args.unit.now in
    let eq : (c.args.level == level_of s) ≡ true = eq-eqb c.args.level (level_of s) (c.if-level.false ∙ c.level.ensures.value) in
    let one : (c.args.level == 1) ≡ true = eq-eqb c.args.level 1 c.if-level-eq1.true in
    sym (goes_by s to c.args.level ls (innermost s.frames) refl
    ∙ ap (λ b. b && (c.args.level == 1 || seen_from (innermost s.frames) to c.args.level ls)) eq
    ∙ ap (λ b. b || seen_from (innermost s.frames) to c.args.level ls) one)

pub returns-then-eq : goal.returns-then-eq
returns-then-eq c =
    let s = state_of c.args.machine.now in
    let u = c.args.unit.now in
    let to : Place = record { routine = u.name; line = c.args.line } in
    let ls = levels_in u in
    let f = c.in-Some.frame.now in
    let at : innermost s.frames ≡ Some (frame_of f) = sym c.last.ensures ∙ ap frame_at c.in-Some.is in
    let eq : (c.args.level == level_of s) ≡ true = eq-eqb c.args.level (level_of s) (c.if-level.false ∙ c.level.ensures.value) in
    let one : (c.args.level == 1) ≡ false = ne_eqb c.args.level 1 c.if-level-eq1.false in
    let same : bytes_eq f.place.routine u.name ≡ true = sym c.eq.ensures.value ∙ c.if-eq.true in
    let stay : Bool = stays f.place.line c.args.line c.args.level ls in
    c.stays.ensures
    ∙ ap (λ hs. stays f.place.line c.args.line c.args.level (map (λ h. h.level) hs)) c.deref.ensures.value
    ∙ sym (goes_by s to c.args.level ls (Some (frame_of f)) at
    ∙ ap (λ b. b && (c.args.level == 1 || (bytes_eq f.place.routine u.name && stay))) eq
    ∙ ap (λ b. b || (bytes_eq f.place.routine u.name && stay)) one
    ∙ ap (λ b. b && stay) same)

pub returns-else-eq : goal.returns-else-eq
returns-else-eq c =
    let s = state_of c.args.machine.now in
    let u = c.args.unit.now in
    let to : Place = record { routine = u.name; line = c.args.line } in
    let ls = levels_in u in
    let f = c.in-Some.frame.now in
    let at : innermost s.frames ≡ Some (frame_of f) = sym c.last.ensures ∙ ap frame_at c.in-Some.is in
    let eq : (c.args.level == level_of s) ≡ true = eq-eqb c.args.level (level_of s) (c.if-level.false ∙ c.level.ensures.value) in
    let one : (c.args.level == 1) ≡ false = ne_eqb c.args.level 1 c.if-level-eq1.false in
    let other : bytes_eq f.place.routine u.name ≡ false = sym c.eq.ensures.value ∙ c.if-eq.false in
    let stay : Bool = stays f.place.line c.args.line c.args.level ls in
    sym (goes_by s to c.args.level ls (Some (frame_of f)) at
    ∙ ap (λ b. b && (c.args.level == 1 || (bytes_eq f.place.routine u.name && stay))) eq
    ∙ ap (λ b. b || (bytes_eq f.place.routine u.name && stay)) one
    ∙ ap (λ b. b && stay) other)
