use Rattle.std.specs.Prelude.{Result, Ok, Err, OnOk}
use Rattle.std.proofs.Common.{◌≡◌, List, [], ◌∷◌, true, refl, ◌∙◌}
use Rattle.mj_semantics.specs.State.{State, Frame, place_of}
use Rattle.mj_frames.specs.Places.{place_in}
use Rattle.mj_machine.specs.Kept.{state_of}
use Rattle.mj_jobvm.proofs.job.note_place.Goals as goal

on_ok : {T E : Type 0} (r : Result T E) (P Q : Type 0) → (P → Q) → OnOk r P → OnOk r Q
on_ok (Ok x) P Q to h = to h
on_ok (Err e) P Q to h = h

-- where a job stands is where the innermost frame does
stands : (s : State) → place_in s.frames ≡ place_of s
stands s = by s.frames
  where
    by : (fs : List Frame) → place_in fs ≡ place_of (record s { frames = fs })
    by [] = refl
    by (f ∷ fs) = refl

pub returns-clause-ok : goal.returns-clause-ok
returns-clause-ok c =
    on_ok c.note.result _ ((c.note.new.self.room ≡ true) × (c.note.new.self.next ≡ place_of (state_of c.args.machine.now)))
    (λ h. (h.1, h.0 ∙ c.place.ensures ∙ stands (state_of c.args.machine.now))) c.note.ensures.ok
