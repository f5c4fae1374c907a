use Rattle.std.proofs.Common.{ℕ, List, ◌∷◌, drop, length, refl, sym, ap, ◌∙◌}
use Rattle.std.proofs.lemmas.Result.{on_ok_weaker}
use Rattle.mj_semantics.specs.State.{Place, Frame}
use Rattle.mj_frames.specs.Frames.{frame_of, frames_of, with_place}
use Rattle.mj_frames.proofs.Innermost.{seen_set, seen_last}
use Rattle.mj_frames.proofs.frames.move_to.Goals as goal

pub returns-then-eq-clause-ok : goal.returns-then-eq-clause-ok
returns-then-eq-clause-ok c =
    let xs = c.args.frames.now in
    let x = c.in-Some.frame.now in
    let p : Place = record { routine = c.args.routine.now; line = c.args.line } in
    let last = seen_last frame_of xs x c.in-Some.ensures.item.3.0 c.in-Some.ensures.item.1 in
    let f : Frame = frame_of x in
    let at : List ℕ → Frame = λ r. let q : Place = record { routine = r; line = c.args.line } in record f { place = q } in
    seen_set frame_of xs (length xs) _ refl c.in-Some.ensures.item.3.0
    ∙ ap (λ r. at r ∷ drop 1 (frames_of xs)) (c.eq.ensures.same.0 c.if-eq.true)
    ∙ sym (ap (with_place p) last)

pub returns-clause-ok : goal.returns-clause-ok
returns-clause-ok c =
    let xs = c.args.frames.now in
    let x = c.in-Some.frame.now in
    let p : Place = record { routine = c.args.routine.now; line = c.args.line } in
    let last = seen_last frame_of xs x c.in-Some.ensures.item.3.0 c.in-Some.ensures.item.1 in
    on_ok_weaker c.move_away.result
    (λ is.
    seen_set frame_of xs (length xs) _ refl c.in-Some.ensures.item.3.0
    ∙ ap (λ g. g ∷ drop 1 (frames_of xs)) is
    ∙ sym (ap (with_place p) last))
    c.move_away.ensures.ok
