-- Live steps in turn, as a list of steps of the core, and what was written behind them.
use Rattle.std.proofs.Common.{◌≡◌, ◌∙◌, ◌⊎◌, inl, inr, ℕ, zero, suc, ◌+◌, List, [], ◌∷◌, ◌++◌, take, Bool, true, false, Result, Ok, Err, Option, Some, None, refl, sym, ap, subst, append-nil, append_assoc}
use Rattle.std.specs.Io.KnownBytes.{Appends}
use Rattle.mj_sessions.specs.Asked.{Answering}
use Rattle.mj_sys.specs.Shared.{Shared}
use Rattle.mj_core.specs.Shown.{Shown}
use Rattle.mj_core.specs.declared.seen.Seen.{Seen}
use Rattle.mj_core.specs.declared.seen.Seen.TheVariants as seen
use Rattle.mj_steps.specs.declared.step.Step.{Step}
use Rattle.mj_steps.specs.declared.step.Refusal.{Refusal}
use Rattle.mj_steps.specs.declared.round.Round.{Round}
use Rattle.mj_steps.specs.declared.round.Standing.{Standing}
use Rattle.mj_steps.specs.declared.round.Next.{Next}
use Rattle.mj_steps.specs.declared.round.Next.TheVariants as nexts
use Rattle.mj_steps.specs.declared.drive.Ending.{Ending}
use Rattle.mj_steps.specs.Rounds.{next_step, after_step}
use Rattle.mj_steps.specs.Driven.{InTurn, NextIsDone, stand}
use Rattle.mj_run.specs.Stepping.{StepsAs, StandsSo, IsFitting, AreSteps}
use Rattle.mj_live.specs.Shows.{Living, Shows, IsLost, LiveStep, printed_of}
use Rattle.mj_live.specs.Live.{count_of}

-- ---- what is written

appends_none : (known : Option (List ℕ)) → Appends known known []
appends_none None = tt
appends_none (Some bytes) = sym (append-nil bytes)

appends_on : (a b c : Option (List ℕ)) (x y : List ℕ) → Appends a b x → Appends b c y → Appends a c (x ++ y)
appends_on None b c x y h k = tt
appends_on (Some a) None c x y h k = absurd h
appends_on (Some a) (Some b) None x y h k = absurd k
appends_on (Some a) (Some b) (Some c) x y h k = k ∙ ap (λ (l : List ℕ). l ++ y) h ∙ append_assoc a x y

pub shows_none : (old new : Living) → new.contents ≡ old.contents → new.core.history ≡ old.core.history → Shows old new
shows_none old new kept same =
    ([], subst (λ known. Appends old.contents known []) (sym kept) (appends_none old.contents), ap printed_of same ∙ sym (append-nil (printed_of old.core.history)))

shows_on : (old mid new : Living) → Shows old mid → Shows mid new → Shows old new
shows_on old mid new (x, wrote, is) (y, writes, so) = (
  x ++ y,
  appends_on old.contents mid.contents new.contents x y wrote writes,
  so ∙ ap (λ (l : List ℕ). l ++ y) is ∙ append_assoc (printed_of old.core.history) x y,
)

-- ---- what is stepped

is_fitting : (core : Shown) (job : ℕ) (what : Seen) (standing : Standing) → StandsSo core job what standing → IsFitting (Ok what)
is_fitting core job seen.Unfit standing stands = absurd stands
is_fitting core job _ standing stands = tt

pub differ : (b : Bool) → b ≡ true → b ≡ false → ⊥
differ true e f = cc (let no : true ≡ false = f in no)
differ false e f = cc (let no : false ≡ true = e in no)

module _ (tells : Answering) (opening : Shared) where
  no_step : (old new : Shown) → new ≡ old → AreSteps tells opening old new
  no_step old new same = ([], [], same, same, tt)

  more_steps : (old mid new : Shown) (step : Step) (standing : Standing) → StepsAs tells opening old step (Ok standing) mid → AreSteps tells opening mid new
      → AreSteps tells opening old new
  more_steps old mid new step standing (what, gives, calls, stands) (steps, answers, run, called, served) =
      (step ∷ steps, Ok what ∷ answers, (mid, gives, run), (mid, calls, called), (is_fitting mid step.job what standing stands, served))

  last_step : (old new : Shown) (step : Step) (why : Refusal) → StepsAs tells opening old step (Err why) new → AreSteps tells opening old new
  last_step old new step why (gives, calls) = (step ∷ [], Err why ∷ [], (new, gives, refl), (new, calls, refl), (tt, tt))

  -- from one to another
  abbrev pub Comes : Living → Living → Type 0
  Comes old new = AreSteps tells opening old.core new.core × (new.closed ≡ false → (old.closed ≡ false) × Shows old new)

  none : (old new : Living) → new ≡ old → Comes old new
  none old new same = (
    no_step old.core new.core (ap (λ (l : Living). l.core) same),
    λ unclosed. (sym (ap (λ (l : Living). l.closed) same) ∙ unclosed, shows_none old new (ap (λ (l : Living). l.contents) same) (ap (λ (l : Living). l.core.history) same)),
  )

  more : (old mid new : Living) (step : Step) (standing : Standing) → LiveStep tells opening old step (Ok standing) mid → Comes mid new → Comes old new
  more old mid new step standing (steps, unclosed, still, wrote) (rest, shows) =
      (more_steps old.core mid.core new.core step standing steps rest, λ kept. (unclosed, shows_on old mid new wrote (shows kept).1))

  last : (old new : Living) (step : Step) (why : Refusal) → LiveStep tells opening old step (Err why) new → Comes old new
  last old new step why (inl (steps, unclosed, still, wrote)) = (last_step old.core new.core step why steps, λ kept. (unclosed, wrote))
  last old new step why (inr (closed, inl (same, was))) = (no_step old.core new.core same, λ kept. absurd (differ new.closed closed kept))
  last old new step why (inr (closed, inr (standing, steps))) =
      (more_steps old.core new.core new.core step standing steps (no_step new.core new.core refl), λ kept. absurd (differ new.closed closed kept))

  comes : (number : ℕ) (goes : Step → Standing → Living → Type 0) (old : Living) (ending : Ending) (new : Living) (next : Next)
      → ((step : Step) (standing : Standing) (mid : Living) → goes step standing mid → Comes mid new)
      → NextIsDone (LiveStep tells opening) number goes old ending new next → Comes old new
  comes number goes old ending new nexts.Over on (e, same) = none old new same
  comes number goes old ending new nexts.Stuck on (e, same) = none old new same
  comes number goes old ending new (nexts.Step step) on (inl (why, makes, e)) = last old new step why makes
  comes number goes old ending new (nexts.Step step) on (inr (standing, mid, makes, rest)) = more old mid new step standing makes (on step standing mid rest)

  pub in_turn : (most made : ℕ) (round : Round) (jobs : List Standing) (old : Living) (ending : Ending) (new : Living)
      → InTurn (count_of opening) (LiveStep tells opening) most made round jobs old ending new → Comes old new
  in_turn zero made round jobs old ending new (e, same) = none old new same
  in_turn (suc most) made round jobs old ending new h =
      comes (made + 1)
      (λ step standing mid. InTurn (count_of opening) (LiveStep tells opening) most (made + 1) (after_step round step standing) (stand jobs step.job standing) mid
      ending new)
      old ending new (next_step round (take (count_of opening old) jobs))
      (λ step standing mid rest. in_turn most (made + 1) (after_step round step standing) (stand jobs step.job standing) mid ending new rest)
      h
