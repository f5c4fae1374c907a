-- A job before its first turn does what its program does.
use Rattle.std.proofs.Common.{◌≡◌, ℕ, zero, suc, ◌≤◌, List, [], ◌∷◌, None, Bool, true, false, refl, ap, arith}
use Rattle.std.specs.Prelude.{nat_lt, if◌then◌else◌}
use Rattle.mj_text.specs.declared.fault.Fault.TheVariants.{Device, Steps}
use Rattle.mj_ask.specs.declared.ask.Ask.TheVariants as asks
use Rattle.mj_ask.specs.declared.ask.DeviceAsk.TheVariants as device_asks
use Rattle.mj_ask.specs.declared.ask.Reply.{Reply}
use Rattle.mj_semantics.specs.State.{State, principal, broke, counted}
use Rattle.mj_semantics.specs.Outcome.{Timed, asking, no_restart, change, fault, end, is_failed}
use Rattle.mj_semantics.specs.Points.{Called}
use Rattle.mj_semantics.specs.Job.{Start, next, opening, points_of}
use Rattle.mj_pcode.specs.Found.{found}
use Rattle.mj_pcode.specs.Machine.{calls}
use Rattle.mj_load.specs.Image.{Loaded, routines_of, program_of, IsImage}
use Rattle.mj_machine.specs.Standing.{onward, from}
use Rattle.mj_jobvm.specs.Jobs.{code_in, IsRunOfAfter, opening_at, opened}
use Rattle.mj_jobvm.proofs.Jobs.{started}

module _ (image : Loaded) (is : IsImage image) (start : Start) where
  abbrev first : State
  first = opening image.bounds start.job

  -- the begin of its principal session, if it may ask at all, and then the rest
  abbrev begun : Bool → Timed → Timed
  begun may rest =
      if may then asking (asks.Device principal device_asks.Begin) (λ r. change counted (if is_failed r then change (broke principal) (fault Device) else rest)) else fault Steps

  same : (may : Bool) (m : ℕ) (replies : List Reply)
      → begun may (calls false (found image.units start.entry) start.values [] (from image.units)) m no_restart first replies
      ≡ begun may (points_of (routines_of image) (suc (suc m)) (Called false start.entry start.values (λ v. end None))) m no_restart first replies
  same false m replies = refl
  same true m [] = refl
  same true m (r ∷ replies) = by (is_failed r)
    where
      by : (b : Bool) → (if b then change (broke principal) (fault Device) else calls false (found image.units start.entry) start.values [] (from image.units)) m no_restart
          (counted first) replies
          ≡ (if b then change (broke principal) (fault Device) else points_of (routines_of image) (suc (suc m)) (Called false start.entry start.values (λ v. end None))) m no_restart
          (counted first) replies
      by true = refl
      by false = ap (λ f. f no_restart (counted first) replies) (is.does start.entry start.values (suc m) m (let le : m ≤ suc m = omega arith in le))

  opens : (n : ℕ) (replies : List Reply) → onward (code_in image start) n (opening_at image.bounds start.job) replies ≡ next (program_of image) start n replies
  opens zero replies = refl
  opens (suc m) replies = same (nat_lt 0 image.bounds.events) m replies

  pub starts : IsRunOfAfter image start 0 (opened image.bounds start)
  starts = started (program_of image) start (code_in image start) (opening_at image.bounds start.job) tt opens
