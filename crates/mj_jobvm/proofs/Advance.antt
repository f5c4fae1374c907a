-- A job that goes on by a turn of its machine.
use Rattle.std.proofs.Common.{◌≡◌, ℕ, ◌+◌, ◌≤◌, List, Option, Some, None, Bool, Box, Global, sym, subst, arith}
use Rattle.std.specs.Prelude.{Result, Ok, Err, IsErrAnd}
use Rattle.mj_ask.specs.declared.ask.Ask.{Ask}
use Rattle.mj_ask.specs.declared.ask.Reply.{Reply}
use Rattle.mj_semantics.specs.State.{Place}
use Rattle.mj_semantics.specs.Program.{Program}
use Rattle.mj_semantics.specs.Job.{Start}
use Rattle.mj_pcode.specs.declared.instr.Unit.{Unit}
use Rattle.mj_load.specs.Image.{Loaded, program_of}
use Rattle.mj_jobvm.specs.declared.job.Turn.{Turn}
use Rattle.mj_jobvm.specs.declared.job.Turn.TheVariants as reports
use Rattle.mj_jobvm.specs.declared.job.Went.{Went}
use Rattle.mj_jobvm.specs.declared.job.Went.TheVariants as wents
use Rattle.mj_machine.specs.declared.machine.Machine.{Machine}
use Rattle.mj_machine.specs.Standing.{Standing, Code, Steps}
use Rattle.mj_turn.specs.Sound.{IsSound}
use Rattle.mj_machine.specs.Kept.{standing}
use Rattle.mj_jobvm.specs.Run.{Log, Run, IsRunAfter}
use Rattle.mj_jobvm.specs.Jobs.{running, given_of, code_in, IsRunOfAfter}
use Rattle.mj_jobvm.specs.Told.{AdvanceTells, AreMade, told_of}
use Rattle.mj_segment.specs.Segments.{StepsBy, Runs}
use Rattle.mj_jobvm.proofs.Jobs.{run, turned, turned_by, asking, fewer, told_ended}

-- the same of a pending ask by another name, and of fewer turns
pub counted_as : (program : Program) (start : Start) (code : Code) (turns : ℕ) (log : Log) (kept : List (Option Place)) (pending named : Option Ask) (spent counted : ℕ) (at : Standing)
    → named ≡ pending → counted ≤ spent
    → IsRunAfter program start code turns (run log kept pending spent at) → IsRunAfter program start code turns (run log kept named counted at)
counted_as program start code turns log kept pending named spent counted at e le r =
    let P : Option Ask → Type 0 = λ p. IsRunAfter program start code turns (run log kept p counted at) in
    subst P (sym e) (fewer program start code log kept pending counted spent turns at le r)

-- the same with the places by another name
pub placed_as : (program : Program) (start : Start) (code : Code) (turns : ℕ) (log : Log) (kept named : List (Option Place)) (pending : Option Ask) (spent : ℕ) (at : Standing)
    → named ≡ kept → IsRunAfter program start code turns (run log kept pending spent at) → IsRunAfter program start code turns (run log named pending spent at)
placed_as program start code turns log kept named pending spent at e =
    subst (λ ps. IsRunAfter program start code turns (run log ps pending spent at)) (sym e)

-- a run after no more turns, and after some more of which some were made before the others
pub none_more : {program : Program} {start : Start} {code : Code} {job : Run} (turns : ℕ)
    → IsRunAfter program start code turns job → IsRunAfter program start code (turns + 0) job
none_more {program} {start} {code} {job} turns = subst (λ k. IsRunAfter program start code k job) (let e : turns ≡ turns + 0 = omega arith in e)

pub further : {program : Program} {start : Start} {code : Code} {job : Run} (turns done more : ℕ)
    → IsRunAfter program start code (turns + done + more) job → IsRunAfter program start code (turns + (done + more)) job
further {program} {start} {code} {job} turns done more =
    subst (λ k. IsRunAfter program start code k job) (let e : turns + done + more ≡ turns + (done + more) = omega arith in e)

-- a call that is refused memory may have made no turn
pub none_made : {E : Type 0} (Q : E → Type 0) (r : Result Turn E) (fuel : ℕ) → IsErrAnd r Q → AreMade r fuel 0
none_made Q (Ok turn) fuel is = absurd is
none_made Q (Err e) fuel is = omega arith

-- or may have made some
pub some_made : {E : Type 0} (Q : E → Type 0) (r : Result Turn E) (fuel made : ℕ) → IsErrAnd r Q → made ≤ fuel → AreMade r fuel made
some_made Q (Ok turn) fuel made is le = absurd is
some_made Q (Err e) fuel made is le = le

-- several turns of its machine
pub went_ahead : (image : Loaded) (start from : Start) (turns : ℕ) (units : List Unit) (log : Log) (kept : List (Option Place)) → units ≡ image.units → (spent k : ℕ) (old new : Machine) (given : Bool)
    → Runs units k old new → IsSound units (standing new None)
    → IsRunOfAfter image start turns (running from old log kept given None spent) → IsRunOfAfter image start (turns + k) (running from new log kept given None (spent + k))
went_ahead image start from turns units log kept e spent k old new given runs sound r =
    let g : Option Reply = given_of given log in
    let P : List Unit → Type 0 = λ us. StepsBy (record { units = us; start = from }) k (standing old g) (standing new g) in
    let h : IsSound image.units (standing new None) = subst (λ us. IsSound us (standing new None)) e sound in
    turned_by (program_of image) start (code_in image from) log kept spent turns k (standing old g) (standing new g) (subst P e (runs from g)) h r

module _ (image : Loaded) (start from : Start) (turns : ℕ) (units : List Unit) (log seen : Log) (kept : List (Option Place)) (eu : units ≡ image.units) (el : seen ≡ log)
    (spent : ℕ) (old new : Machine) (given left : Bool) (went : Went)
    (steps : Steps (record { units = units; start = from }) (standing old (given_of given seen)) (told_of went) (standing new (given_of left seen)))
    (sound : IsSound units (standing new None))
    (r : IsRunOfAfter image start turns (running from old log kept given None spent)) where
  abbrev code : Code
  code = code_in image from

  abbrev before : Standing
  before = standing old (given_of given log)

  abbrev after : Standing
  after = standing new (given_of left log)

  steps_as : (w : Went) → went ≡ w → Steps code before (told_of w) after
  steps_as w e =
      let P : List Unit → Type 0 = λ us. Steps (record { units = us; start = from }) (standing old (given_of given seen)) (told_of went) (standing new (given_of left seen)) in
      let Q : Log → Type 0 = λ l. Steps code (standing old (given_of given l)) (told_of went) (standing new (given_of left l)) in
      let R : Went → Type 0 = λ x. Steps code before (told_of x) after in
      subst R e (subst Q el (subst P eu steps))

  pub went_on : went ≡ wents.On → IsRunOfAfter image start (turns + 1) (running from new log kept left None (spent + 1))
  went_on e = turned (program_of image) start code log kept spent turns before after (steps_as wents.On e) (let h : IsSound image.units (standing new None) =
      subst (λ us. IsSound us (standing new None)) eu sound in h) r

  pub went_asks : (a : Box Ask Global) → went ≡ wents.Asks a → IsRunOfAfter image start turns (running from new log kept left (Some a.value) spent)
  went_asks a e =
      let s = steps_as (wents.Asks a) e in
      let P : Standing → Type 0 = λ x. IsRunAfter (program_of image) start code turns (run log kept (Some a.value) spent x) in
      subst P (sym s.0) (asking (program_of image) start code log kept spent turns a.value before s.1 s.2 r)

  -- nothing was asked after all
  pub went_unasked : (a : Box Ask Global) → went ≡ wents.Asks a → IsRunOfAfter image start turns (running from new log kept left None spent)
  went_unasked a e =
      let s = steps_as (wents.Asks a) e in
      let P : Standing → Type 0 = λ x. IsRunAfter (program_of image) start code turns (run log kept None spent x) in
      subst P (sym s.0) r

  pub went_over : went ≡ wents.Over → IsRunOfAfter image start turns (running from new log kept left None spent)
  went_over e =
      let s = steps_as wents.Over e in
      let P : Standing → Type 0 = λ x. IsRunAfter (program_of image) start code turns (run log kept None spent x) in
      subst P (sym s.0) r

  pub told_over : went ≡ wents.Over → (pending : Option Ask) (counted : ℕ) → AdvanceTells (program_of image) start reports.Ended (run log kept pending counted after)
  told_over e pending counted = told_ended (program_of image) start code log kept None spent before ((steps_as wents.Over e).1) (turns, r)
