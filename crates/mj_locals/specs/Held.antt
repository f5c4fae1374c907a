-- A job's locals with what NEWs saved of them, and how NEW, the passing of actuals and the end of a frame change both.
use Rattle.std.specs.Prelude.{ℕ, ◌-◌, List, [], ◌∷◌, Option, length, take, drop}
use Rattle.mj_text.specs.declared.limit.Limit.TheVariants.{V2}
use Rattle.mj_store.specs.Questions.{Content}
use Rattle.mj_semantics.specs.State.{State, Saved, Words, newed, passed, put_back, undone}
use Rattle.mj_semantics.specs.Job.{opening}

-- the locals that have a value, with it, and what NEWs saved, the newest first
pub record Held : Type 0 where
  pub now : Content
  pub saved : List Saved

-- a state with these locals, of which nothing else matters here
abbrev pub alone : Held → State
alone h = record (opening (record { limit = V2; events = 0 }) 0) { locals = h.now; saved = h.saved }

-- the locals of a state
abbrev pub held : State → Held
held s = record { now = s.locals; saved = s.saved }

-- NEW (8.2.14)
abbrev pub after_new : Words → Held → Held
after_new words h = held (newed words (alone h))

-- formals are NEWed, and get values (8.1.7)
abbrev pub after_pass : List (List ℕ) → List (Option (List ℕ)) → Held → Held
after_pass formals values h = held (passed formals values (alone h))

-- what was saved last is put back
abbrev pub after_undo : Held → Held
after_undo h = elim h.saved [ [] ↦ h | v ∷ saved ↦ record { now = put_back v h.now; saved = saved } ]

-- what was saved above a height is put back, the newest first (8.2.16, QUIT)
abbrev pub after_unwind : ℕ → Held → Held
after_unwind height h = record { now = undone (take (length h.saved - height) h.saved) h.now; saved = drop (length h.saved - height) h.saved }

-- other locals, with the same saved
abbrev pub with_now : Content → Held → Held
with_now content h = record { now = content; saved = h.saved }
