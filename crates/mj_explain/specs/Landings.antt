-- When changes of globals are made: outside a transaction at once, and in one by its commit.
use Rattle.std.specs.Prelude.{ℕ, zero, suc, ◌+◌, ◌-◌, List, [], ◌∷◌, ◌++◌, length, take, slice_get, Option, Some, None, if◌then◌else◌}
use Rattle.std.specs.Option.{is_some}
use Rattle.mj_store.specs.Questions.{Content}
use Rattle.mj_store.specs.Runs.{after_access}
use Rattle.mj_store.specs.declared.access.Access.{Access}
use Rattle.mj_explain.specs.declared.landings.Landing.{Landing}
use Rattle.mj_ask.specs.declared.noted.Noted.{Noted}
use Rattle.mj_explain.specs.Events.{began_by, change_in, change_at, is_change_of, is_commit}

-- the change of a job's event at a place, if it is one, made by the event at another
abbrev pub landed : List Noted → ℕ → ℕ → ℕ → List Landing
landed es job made place = if is_change_of job (slice_get es place) then record { write = place; made = made } ∷ [] else []

-- the changes of a job's events, so many from a place on, made by one event
abbrev pub landed_in : List Noted → ℕ → ℕ → ℕ → ℕ → List Landing
landed_in es job made from zero = []
landed_in es job made from (suc n) = landed_in es job made from n ++ landed es job made (from + n)

-- the changes that an event makes: itself, where its job has no transaction open; those of the transaction, where it is a commit that was done
abbrev pub made_by : List Noted → ℕ → Option ℕ → Noted → List Landing
made_by es k None e = if is_some (change_in e.ask e.reply) then record { write = k; made = k } ∷ [] else []
made_by es k (Some b) e = if is_commit e.ask e.reply then landed_in es e.job k (suc b) (k - suc b) else []

abbrev pub made_of : List Noted → ℕ → Option Noted → List Landing
made_of es k None = []
made_of es k (Some e) = made_by es k (began_by e.job (take k es)) e

-- the changes that the event at a place makes
abbrev pub made_at : List Noted → ℕ → List Landing
made_at es k = made_of es k (slice_get es k)

-- what a change leaves of the globals
abbrev pub after_change : Option Access → Content → Content
after_change None globals = globals
after_change (Some a) globals = after_access a globals

abbrev pub after_landing : List Noted → Option Landing → Content → Content
after_landing es None globals = globals
after_landing es (Some l) globals = after_change (change_at es l.write) globals

-- the globals behind the first of some changes
abbrev pub globals_behind : List Noted → List Landing → Content → ℕ → Content
globals_behind es ls globals zero = globals
globals_behind es ls globals (suc i) = after_landing es (slice_get ls i) (globals_behind es ls globals i)

-- the globals behind all of them
abbrev pub globals_after : List Noted → List Landing → Content → Content
globals_after es ls globals = globals_behind es ls globals (length ls)

-- the globals behind the events before a place, where these were the first
abbrev pub globals_to : List Noted → Content → ℕ → Content
globals_to es globals zero = globals
globals_to es globals (suc k) = globals_after es (made_at es k) (globals_to es globals k)
