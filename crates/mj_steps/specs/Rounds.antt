-- Steps in turn (this profile).
use Rattle.std.specs.Prelude.{ℕ, ◌+◌, Bool, true, false, ◌&&◌, ◌||◌, if◌then◌else◌, nat_le, List, position, drop, Option, Some, None}
use Rattle.std.specs.Option.{option_map}
use Rattle.mj_steps.specs.declared.step.Step.{Step}
use Rattle.mj_steps.specs.declared.step.Way.TheVariants.{Go, Late}
use Rattle.mj_steps.specs.declared.round.Standing.{Standing}
use Rattle.mj_steps.specs.declared.round.Standing.TheVariants as standings
use Rattle.mj_steps.specs.declared.round.Round.{Round}
use Rattle.mj_steps.specs.declared.round.Next.{Next}
use Rattle.mj_steps.specs.declared.round.Next.TheVariants as nexts

-- a job hasn't ended
abbrev pub is_live : Standing → Bool
is_live standings.Ended = false
is_live _ = true

-- a job waits for what it asks with a timeout
abbrev pub is_timed : Standing → Bool
is_timed standings.WaitsTimed = true
is_timed _ = false

-- the last step of a job waited
abbrev pub waits_still : Standing → Bool
waits_still standings.Waits = true
waits_still standings.WaitsTimed = true
waits_still _ = false

-- the number of the first job behind `done` that hasn't ended; jobs count from 1
abbrev pub live_behind : ℕ → List Standing → Option ℕ
live_behind done jobs = option_map (λ place. done + place + 1) (position is_live (drop done jobs))

-- the number of the first job that waits for what it asks with a timeout
abbrev pub first_timed : List Standing → Option ℕ
first_timed jobs = option_map (λ place. place + 1) (position is_timed jobs)

-- a job goes on
abbrev pub go_step : ℕ → Next
go_step job = nexts.Step (record { job = job; way = Go })

-- where all jobs wait, the first that asks with a timeout is late
abbrev pub late_step : List Standing → Next
late_step jobs = elim (first_timed jobs) [ None ↦ nexts.Stuck | Some job ↦ nexts.Step (record { job = job; way = Late }) ]

-- behind a round, of which all steps waited or not: the first job that hasn't ended goes on, if there is one
abbrev pub next_round : Bool → List Standing → Next
next_round waits jobs = elim (live_behind 0 jobs) [ None ↦ nexts.Over | Some job ↦ if waits then late_step jobs else go_step job ]

-- what comes next: the next job of the round that hasn't ended goes on, or else the round is over
abbrev pub next_step : Round → List Standing → Next
next_step round jobs = elim (live_behind round.done jobs) [ Some job ↦ go_step job | None ↦ next_round round.waits jobs ]

-- the round behind a step: that of a job which isn't behind the last one began it
abbrev pub after_step : Round → Step → Standing → Round
after_step round step standing =
    elim step.way [
      | Go ↦ record { done = step.job; waits = (nat_le step.job round.done || round.waits) && waits_still standing }
      | Late ↦ record { done = 0; waits = true }
    ]
