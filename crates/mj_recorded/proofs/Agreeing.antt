-- What is told of two jobs with one log agrees.
use Rattle.std.specs.Prelude.{◌⊎◌}
use Rattle.std.proofs.Common.{◌≡◌, ℕ, ◌+◌, ◌<◌, ◌≤◌, List, ◌∷◌, ◌++◌, Some, refl, sym, ap, ◌∙◌, subst, inl, inr, arith}
use Rattle.std.proofs.lemmas.Bool.{cases_lt}
use Rattle.mj_ask.specs.declared.ask.Ask.{Ask}
use Rattle.mj_semantics.specs.Program.{Program}
use Rattle.mj_semantics.specs.State.{Locals, Place, places}
use Rattle.mj_semantics.specs.Outcome.{Outcome, Needs, Ended, More}
use Rattle.mj_semantics.specs.Job.{Start, next}
use Rattle.mj_semantics.proofs.Depth.{one_answer}
use Rattle.mj_load.specs.Image.{program_of}
use Rattle.mj_jobvm.specs.declared.job.Turn.{Turn}
use Rattle.mj_jobvm.specs.declared.job.Turn.TheVariants as turns
use Rattle.mj_jobvm.specs.Run.{Log, Run, replies_of, GoesOn, HasEnded}
use Rattle.mj_jobvm.specs.Jobs.{code_in}
use Rattle.mj_jobvm.specs.Told.{AdvanceTells}
use Rattle.mj_jobvm.proofs.Jobs.{told_again}
use Rattle.mj_recorded.specs.Agreeing.{IsLater, Agree, AnswersAgree, AsksAreTold, LogsFollow}
use Rattle.mj_recorded.proofs.Traces.{Makes, makes}

-- what a run comes to that isn't still going
abbrev IsDone : Outcome → Type 0
IsDone o = o ≡ More → ⊥

needs_done : (a : Ask) (locals : Locals) (at : List Place) (o : Outcome) → o ≡ Needs a locals at → IsDone o
needs_done a locals at o is more = let no : Needs a locals at ≡ More = sym is ∙ more in cc

ended_done : (o : Outcome) → o ≡ Ended → IsDone o
ended_done o is more = let no : Ended ≡ More = sym is ∙ more in cc

-- with one log it comes to one thing
module _ (program : Program) (start : Start) (log : Log) where
  abbrev comes : ℕ → Outcome
  comes n = next program start n (replies_of log)

  one : (n m : ℕ) (x y : Outcome) → comes n ≡ x → comes m ≡ y → IsDone x → IsDone y → x ≡ y
  one n m x y p q done done' = by (one_answer program start n m (replies_of log))
    where
      by : (comes n ≡ More) ⊎ ((comes m ≡ More) ⊎ (comes n ≡ comes m)) → x ≡ y
      by (inl e) = absurd (done (sym p ∙ e))
      by (inr (inl e)) = absurd (done' (sym q ∙ e))
      by (inr (inr e)) = sym p ∙ e ∙ q

  later : (turns : ℕ) → GoesOn program start log turns → IsLater program start log turns
  later turns g before n counted done = by (cases_lt (before + turns) n)
    where
      is : before ≡ g.0
      is = g.2 before counted

      by : (before + turns < n) ⊎ (n ≤ before + turns) → before + turns < n
      by (inl lt) = lt
      by (inr le) = absurd (done (g.3 n (let l : n ≤ g.0 + turns = omega (arith, le, is) in l)))

record Same (a b : Ask) (locals locals' : Locals) (at at' : List Place) : Type 0 where
  ask : a ≡ b
  variables : locals ≡ locals'
  lines : at ≡ at'

same_needs : (a b : Ask) (locals locals' : Locals) (at at' : List Place) → Needs a locals at ≡ Needs b locals' at' → Same a b locals locals' at at'
same_needs a b locals locals' at at' e = record { ask = cc; variables = cc; lines = cc }

needs_ended : (a : Ask) (locals : Locals) (at : List Place) → Needs a locals at ≡ Ended → ⊥
needs_ended a locals at e = cc

-- with one log two jobs ask the same
module _ (program : Program) (start : Start) (one_job other : Run) (same : one_job.log ≡ other.log) where
  told_here : (t : Turn) → AdvanceTells program start t other → AdvanceTells program start t (record other { log = one_job.log })
  told_here t told = subst (λ (l : Log). AdvanceTells program start t (record other { log = l })) (sym same) told

  both_ask : AdvanceTells program start turns.Asks one_job → AdvanceTells program start turns.Asks other → Agree program start turns.Asks one_job turns.Asks other
  both_ask (a, p, (n, e)) told =
      let t = told_here turns.Asks told in
      let s : Same a t.0 one_job.at.state.locals other.at.state.locals (places one_job.at.state) (places other.at.state)
      = same_needs a t.0 one_job.at.state.locals other.at.state.locals (places one_job.at.state) (places other.at.state)
      (one program start one_job.log n t.2.0 (Needs a one_job.at.state.locals (places one_job.at.state)) (Needs t.0 other.at.state.locals (places other.at.state)) e t.2.1
      (needs_done a one_job.at.state.locals (places one_job.at.state) (Needs a one_job.at.state.locals (places one_job.at.state)) refl)
      (needs_done t.0 other.at.state.locals (places other.at.state) (Needs t.0 other.at.state.locals (places other.at.state)) refl)) in
      (p ∙ ap Some s.ask ∙ sym t.1, s.variables, s.lines)

  asks_ended : AdvanceTells program start turns.Asks one_job → HasEnded program start one_job.log → ⊥
  asks_ended (a, p, (n, e)) (m, f) =
      let asked : Outcome = Needs a one_job.at.state.locals (places one_job.at.state) in
      needs_ended a one_job.at.state.locals (places one_job.at.state)
      (one program start one_job.log n m asked Ended e f (needs_done a one_job.at.state.locals (places one_job.at.state) asked refl) (ended_done Ended refl))

ended_in : (program : Program) (start : Start) (log log' : Log) → log ≡ log' → HasEnded program start log' → HasEnded program start log
ended_in program start log log' same ended = subst (λ l. HasEnded program start l) (sym same) ended

pub answers_agree : AnswersAgree
answers_agree program start turns.Asks turns.Asks x y same p q = both_ask program start x y same p q
answers_agree program start turns.Asks turns.Ended x y same p q = asks_ended program start x y same p (ended_in program start x.log y.log same q)
answers_agree program start turns.Asks turns.Ran x y same p q = later program start y.log y.spent q
answers_agree program start turns.Ended turns.Asks x y same p q = asks_ended program start y x (sym same) q (ended_in program start y.log x.log (sym same) p)
answers_agree program start turns.Ended turns.Ended x y same p q = tt
answers_agree program start turns.Ended turns.Ran x y same p q = later program start y.log y.spent q
answers_agree program start turns.Ran turns.Asks x y same p q = later program start x.log x.spent p
answers_agree program start turns.Ran turns.Ended x y same p q = later program start x.log x.spent p
answers_agree program start turns.Ran turns.Ran x y same p q = later program start x.log x.spent p

pub asks_are_told : AsksAreTold
asks_are_told image start job a run is = told_again (program_of image) start (code_in image job.start) job.run a is run

pub logs_follow : LogsFollow
logs_follow program start turns.Asks job a reply behind (b, p, (n, e)) trace =
    let m : Makes program start job.log a reply = makes program start (job.log ++ (a, reply) ∷ behind) trace job.log behind a reply refl in
    let asked : Outcome = Needs b job.at.state.locals (places job.at.state) in
    let s : Same b a job.at.state.locals m.locals (places job.at.state) m.at
    = same_needs b a job.at.state.locals m.locals (places job.at.state) m.at
    (one program start job.log n m.turns asked (Needs a m.locals m.at) e m.needs
    (needs_done b job.at.state.locals (places job.at.state) asked refl) (needs_done a m.locals m.at (Needs a m.locals m.at) refl)) in
    p ∙ ap Some s.ask
logs_follow program start turns.Ended job a reply behind (n, e) trace =
    let m : Makes program start job.log a reply = makes program start (job.log ++ (a, reply) ∷ behind) trace job.log behind a reply refl in
    needs_ended a m.locals m.at
    (one program start job.log m.turns n (Needs a m.locals m.at) Ended m.needs e (needs_done a m.locals m.at (Needs a m.locals m.at) refl) (ended_done Ended refl))
logs_follow program start turns.Ran job a reply behind told trace = tt
