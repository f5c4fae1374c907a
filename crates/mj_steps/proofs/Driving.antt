-- One step more, by a list and in turn.
use Rattle.std.specs.Prelude.{Result, Ok, Err}
use Rattle.std.proofs.Common.{◌≡◌, ℕ, suc, ◌+◌, ◌-◌, ◌<◌, ◌≤◌, ◌==◌, if◌then◌else◌, true, false, slice_set, List, length, take, drop, get_or, inl, inr, refl, sym, ap, ◌∙◌, subst, arith}
use Rattle.std.proofs.Math.Seq.{drop-cons}
use Rattle.std.proofs.lemmas.List.{length-set}
use Rattle.std.proofs.Math.ListN.{drop_of_length-le}
use Rattle.mj_steps.specs.declared.step.Step.{Step}
use Rattle.mj_steps.specs.declared.round.Standing.{Standing}
use Rattle.mj_steps.specs.declared.round.Round.{Round}
use Rattle.mj_steps.specs.declared.round.Next.{Next}
use Rattle.mj_steps.specs.declared.round.Next.TheVariants as nexts
use Rattle.mj_steps.specs.declared.step.Refusal.{Refusal}
use Rattle.mj_steps.specs.declared.drive.Ending.{Ending}
use Rattle.mj_steps.specs.declared.drive.Ending.TheVariants as endings
use Rattle.mj_steps.specs.Rounds.{next_step, after_step}
use Rattle.mj_steps.specs.Driven.{ByList, InTurn, NextIsDone, stand, fresh, new_round, ending_of}

one_more : (n : ℕ) → suc n ≡ n + 1
one_more n = omega arith

-- ---- by a list

-- the rest of the steps is what is left to be made behind the first
pub record ListGoes {X : Type 0} (makes : X → Step → Result Standing Refusal → X → Type 0) (steps : List Step) (made : ℕ) (old now : X) : Type 0 where
  pub rest : (ending : Ending) (new : X) → ByList makes made (drop made steps) now ending new → ByList makes 0 steps old ending new

pub list_begins : {X : Type 0} (makes : X → Step → Result Standing Refusal → X → Type 0) (steps : List Step) (old : X) → ListGoes makes steps 0 old old
list_begins makes steps old = record { rest = λ ending new h. h }

pub list_goes : {X : Type 0} (makes : X → Step → Result Standing Refusal → X → Type 0) (steps : List Step) (made : ℕ) (old mid now : X) (d : Step) (standing : Standing)
    → ListGoes makes steps made old mid → made < length steps → makes mid (get_or steps made d) (Ok standing) now → ListGoes makes steps (made + 1) old now
list_goes {X = X} makes steps made old mid now d standing goes within stepped = record {
  rest = λ ending new h.
      let P : ℕ → Type 0 = λ n. ByList makes (made + 1) (drop n steps) now ending new in
      let Q : List Step → Type 0 = λ s. ByList makes made s mid ending new in
      goes.rest ending new (subst Q (sym (drop-cons steps made d within)) (inr (standing, now, stepped, subst P (sym (one_more made)) h)));
}

pub list_stops : {X : Type 0} (makes : X → Step → Result Standing Refusal → X → Type 0) (steps : List Step) (made : ℕ) (old mid now : X) (d : Step) (why : Refusal)
    → ListGoes makes steps made old mid → made < length steps → makes mid (get_or steps made d) (Err why) now → ByList makes 0 steps old (endings.Refused why (made + 1)) now
list_stops {X = X} makes steps made old mid now d why goes within stepped =
    let Q : List Step → Type 0 = λ s. ByList makes made s mid (endings.Refused why (made + 1)) now in
    goes.rest (endings.Refused why (made + 1)) now (subst Q (sym (drop-cons steps made d within)) (inl (why, stepped, refl)))

pub list_ends : {X : Type 0} (makes : X → Step → Result Standing Refusal → X → Type 0) (steps : List Step) (made : ℕ) (old now : X)
    → ListGoes makes steps made old now → length steps ≤ made → ByList makes 0 steps old endings.Over now
list_ends {X = X} makes steps made old now goes over =
    let Q : List Step → Type 0 = λ s. ByList makes made s now endings.Over now in
    goes.rest endings.Over now (subst Q (sym (drop_of_length-le steps over)) (refl, refl))

-- ---- in turn

-- the rest of the steps in turn is what is left to be made behind the first, in this round
pub record TurnGoes {X : Type 0} (count : X → ℕ) (makes : X → Step → Result Standing Refusal → X → Type 0) (most made : ℕ) (round : Round) (jobs : List Standing) (old now : X) : Type 0 where
  pub rest : (ending : Ending) (new : X) → InTurn count makes (most - made) made round jobs now ending new → InTurn count makes most 0 new_round fresh old ending new
  pub long : length jobs ≡ 255

pub turn_begins : {X : Type 0} (count : X → ℕ) (makes : X → Step → Result Standing Refusal → X → Type 0) (most : ℕ) (old : X) → TurnGoes count makes most 0 new_round fresh old old
turn_begins count makes most old =
    record { rest = λ ending new h. (let P : ℕ → Type 0 = λ n. InTurn count makes n 0 new_round fresh old ending new in subst P (omega arith) h); long = refl }

less : (most made : ℕ) → made < most → most - made ≡ suc (most - (made + 1))
less most made h = omega (arith, h)

stand_long : (jobs : List Standing) (job : ℕ) (standing : Standing) → length (stand jobs job standing) ≡ length jobs
stand_long jobs job standing =
    elim (job == 0) as (λ b. length (if b then jobs else slice_set jobs (job - 1) standing) ≡ length jobs) [ true ↦ refl | false ↦ length-set jobs (job - 1) standing ]

pub turn_goes : {X : Type 0} (count : X → ℕ) (makes : X → Step → Result Standing Refusal → X → Type 0) (most made : ℕ) (round round' : Round) (jobs jobs' : List Standing) (old mid now : X)
    (step : Step) (standing : Standing) → TurnGoes count makes most made round jobs old mid → made < most
    → nexts.Step step ≡ next_step round (take (count mid) jobs) → makes mid step (Ok standing) now → jobs' ≡ stand jobs step.job standing → round' ≡ after_step round step standing
    → TurnGoes count makes most (made + 1) round' jobs' old now
turn_goes {X = X} count makes most made round round' jobs jobs' old mid now step standing goes within next stepped same behind = record {
  rest = λ ending new h.
      let P : ℕ → Type 0 = λ n. InTurn count makes n made round jobs mid ending new in
      let Q : Next → Type 0 = λ n.
      NextIsDone makes (made + 1)
      (λ step standing mid. InTurn count makes (most - (made + 1)) (made + 1) (after_step round step standing) (stand jobs step.job standing) mid ending new)
      mid ending new n in
      let S : List Standing → Type 0 = λ js. InTurn count makes (most - (made + 1)) (made + 1) round' js now ending new in
      let R : Round → Type 0 = λ r. InTurn count makes (most - (made + 1)) (made + 1) r (stand jobs step.job standing) now ending new in
      goes.rest ending new (subst P (sym (less most made within)) (subst Q next (inr (standing, now, stepped, subst R behind (subst S same h)))));
  long = ap (λ l. length l) same ∙ stand_long jobs step.job standing ∙ goes.long;
}

-- the next is a step, and it is refused
pub turn_stops : {X : Type 0} (count : X → ℕ) (makes : X → Step → Result Standing Refusal → X → Type 0) (most made : ℕ) (round : Round) (jobs : List Standing) (old mid now : X)
    (step : Step) (why : Refusal) → TurnGoes count makes most made round jobs old mid → made < most
    → nexts.Step step ≡ next_step round (take (count mid) jobs) → makes mid step (Err why) now
    → InTurn count makes most 0 new_round fresh old (endings.Refused why (made + 1)) now
turn_stops {X = X} count makes most made round jobs old mid now step why goes within next stepped =
    let ending : Ending = endings.Refused why (made + 1) in
    let P : ℕ → Type 0 = λ n. InTurn count makes n made round jobs mid ending now in
    let Q : Next → Type 0 = λ n.
    NextIsDone makes (made + 1)
    (λ step standing mid. InTurn count makes (most - (made + 1)) (made + 1) (after_step round step standing) (stand jobs step.job standing) mid ending now)
    mid ending now n in
    goes.rest ending now (subst P (sym (less most made within)) (subst Q next (inl (why, stepped, refl))))

-- nothing comes next
pub turn_over : {X : Type 0} (count : X → ℕ) (makes : X → Step → Result Standing Refusal → X → Type 0) (most made : ℕ) (round : Round) (jobs : List Standing) (old now : X)
    → TurnGoes count makes most made round jobs old now → made < most → nexts.Over ≡ next_step round (take (count now) jobs)
    → InTurn count makes most 0 new_round fresh old endings.Over now
turn_over {X = X} count makes most made round jobs old now goes within next =
    let P : ℕ → Type 0 = λ n. InTurn count makes n made round jobs now endings.Over now in
    let Q : Next → Type 0 = λ n.
    NextIsDone makes (made + 1)
    (λ step standing mid. InTurn count makes (most - (made + 1)) (made + 1) (after_step round step standing) (stand jobs step.job standing) mid endings.Over now)
    now endings.Over now n in
    goes.rest endings.Over now (subst P (sym (less most made within)) (subst Q next (refl, refl)))

pub turn_stuck : {X : Type 0} (count : X → ℕ) (makes : X → Step → Result Standing Refusal → X → Type 0) (most made : ℕ) (round : Round) (jobs : List Standing) (old now : X)
    → TurnGoes count makes most made round jobs old now → made < most → nexts.Stuck ≡ next_step round (take (count now) jobs)
    → InTurn count makes most 0 new_round fresh old endings.Stuck now
turn_stuck {X = X} count makes most made round jobs old now goes within next =
    let P : ℕ → Type 0 = λ n. InTurn count makes n made round jobs now endings.Stuck now in
    let Q : Next → Type 0 = λ n.
    NextIsDone makes (made + 1)
    (λ step standing mid. InTurn count makes (most - (made + 1)) (made + 1) (after_step round step standing) (stand jobs step.job standing) mid endings.Stuck now)
    now endings.Stuck now n in
    goes.rest endings.Stuck now (subst P (sym (less most made within)) (subst Q next (refl, refl)))

-- no more steps may be made
pub turn_limit : {X : Type 0} (count : X → ℕ) (makes : X → Step → Result Standing Refusal → X → Type 0) (most made : ℕ) (round : Round) (jobs : List Standing) (old now : X) (ending : Ending)
    → TurnGoes count makes most made round jobs old now → most ≤ made → ending ≡ ending_of (next_step round (take (count now) jobs))
    → InTurn count makes most 0 new_round fresh old ending now
turn_limit {X = X} count makes most made round jobs old now ending goes over next =
    let P : ℕ → Type 0 = λ n. InTurn count makes n made round jobs now ending now in
    let none : most - made ≡ 0 = omega (arith, over) in
    goes.rest ending now (subst P (sym none) (next, refl))
