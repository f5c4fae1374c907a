-- What a job asks next, and what a trace says of that.
use Rattle.std.specs.Prelude.{◌⊎◌, IsTrue, ◌&&◌, ◌^◌, min}
use Rattle.std.proofs.Common.{◌≡◌, ℕ, ◌+◌, ◌≤◌, Bool, true, false, List, [], ◌∷◌, ◌++◌, Some, refl, sym, ap, ◌∙◌, subst, inl, inr, arith}
use Rattle.std.proofs.lemmas.Option.{same_Some}
use Rattle.mj_ask.specs.declared.ask.Ask.{Ask}
use Rattle.mj_ask.specs.declared.ask.Reply.{Reply}
use Rattle.mj_ask.specs.Fits.{fits}
use Rattle.mj_ask.specs.Within.{is_reply_within}
use Rattle.mj_semantics.specs.Program.{Program}
use Rattle.mj_semantics.specs.State.{Locals, Place, places}
use Rattle.mj_semantics.specs.Outcome.{Needs, Ended, More}
use Rattle.mj_semantics.specs.Job.{Start, next}
use Rattle.mj_semantics.proofs.Depth.{one_answer}
use Rattle.mj_load.specs.Image.{Loaded, program_of}
use Rattle.mj_jobvm.specs.declared.job.Turn.TheVariants as turns
use Rattle.mj_jobvm.specs.Run.{Log, replies_of, IsTrace, begins, goes_on, GoesOn, HasEnded}
use Rattle.mj_jobvm.specs.Jobs.{Running}
use Rattle.mj_jobvm.specs.Told.{AdvanceTells}
use Rattle.mj_replica.specs.Replays.{turns_limit}
use Rattle.mj_replica.specs.Playing.{AsksIt}

no_end : {X : Type 0} (front : List X) (y : X) → [] ≡ front ++ y ∷ [] → ⊥
no_end [] y e = cc
no_end (f ∷ front) y e = cc

tails : {X : Type 0} (x y : X) (xs ys : List X) → x ∷ xs ≡ y ∷ ys → (x ≡ y) × (xs ≡ ys)
tails x y xs ys e = (cc, cc)

-- the last of a list
last_of : {X : Type 0} (xs front : List X) (x y : X) → xs ++ x ∷ [] ≡ front ++ y ∷ [] → (xs ≡ front) × (x ≡ y)
last_of [] [] x y e = (refl, (tails x y [] [] e).0)
last_of [] (f ∷ front) x y e = absurd (no_end front y (tails x f [] (front ++ y ∷ []) e).1)
last_of (z ∷ zs) [] x y e = absurd (no_end zs x (sym (tails z y (zs ++ x ∷ []) [] e).1))
last_of (z ∷ zs) (f ∷ front) x y e =
    let p = tails z f (zs ++ x ∷ []) (front ++ y ∷ []) e in
    let q = last_of zs front x y p.1 in
    (λ i. p.0 i ∷ q.0 i, q.1)

-- behind a trace the job asks this, the reply fits it, and its texts are within the program's limit
pub record Makes (program : Program) (start : Start) (front : Log) (a : Ask) (r : Reply) : Type 0 where
  pub turns : ℕ
  pub locals : Locals
  pub at : List Place
  pub needs : next program start turns (replies_of front) ≡ Needs a locals at
  pub fit : IsTrue (fits a r)
  pub small : is_reply_within program.bounds.limit r ≡ true

made : (program : Program) (start : Start) (log front : Log) (x y : Ask × Reply) → log ≡ front → x ≡ y → Makes program start log x.0 x.1 → Makes program start front y.0 y.1
made program start log front x y p q m =
    let P : Log → Type 0 = λ l. Makes program start l x.0 x.1 in
    let Q : Ask × Reply → Type 0 = λ z. Makes program start front z.0 z.1 in
    subst Q q (subst P p m)

pub last_made : (program : Program) (start : Start) (log : Log) → IsTrace program start log → (front : Log) (a : Ask) (r : Reply) → log ≡ front ++ (a, r) ∷ [] → Makes program start front a r
last_made program start _ begins front a r e = absurd (no_end front (a, r) e)
last_made program start _ (goes_on log b q n locals at trace needs fit small) front a r e =
    let p = last_of log front (b, q) (a, r) e in
    made program start log front (b, q) (a, r) p.0 p.1 (record { turns = n; locals = locals; at = at; needs = needs; fit = fit; small = small })

-- the front of a trace
pub front_made : (program : Program) (start : Start) (log : Log) → IsTrace program start log → (front : Log) (a : Ask) (r : Reply) → log ≡ front ++ (a, r) ∷ [] → IsTrace program start front
front_made program start _ begins front a r e = absurd (no_end front (a, r) e)
front_made program start _ (goes_on log b q n locals at trace needs fit small) front a r e =
    let P : Log → Type 0 = λ l. IsTrace program start l in
    subst P (last_of log front (b, q) (a, r) e).0 trace

more_needs : (a : Ask) (locals : Locals) (at : List Place) → More ≡ Needs a locals at → ⊥
more_needs a locals at e = cc

more_ended : More ≡ Ended → ⊥
more_ended e = cc

ended_needs : (a : Ask) (locals : Locals) (at : List Place) → Ended ≡ Needs a locals at → ⊥
ended_needs a locals at e = cc

same_needs : (a b : Ask) (locals locals' : Locals) (at at' : List Place) → Needs a locals at ≡ Needs b locals' at' → a ≡ b
same_needs a b locals locals' at at' e = cc

module _ (program : Program) (start : Start) (log : Log) (a : Ask) (r : Reply) where
  abbrev Traced : Type 0
  Traced = IsTrace program start (log ++ (a, r) ∷ [])

  -- a run that is over asks nothing
  pub over_asks_nothing : HasEnded program start log → Traced → ⊥
  over_asks_nothing ended trace = by (one_answer program start ended.0 m.turns (replies_of log)) where
    m : Makes program start log a r
    m = last_made program start (log ++ (a, r) ∷ []) trace log a r refl

    by : (next program start ended.0 (replies_of log) ≡ More) ⊎ ((next program start m.turns (replies_of log) ≡ More)
        ⊎ (next program start ended.0 (replies_of log) ≡ next program start m.turns (replies_of log))) → ⊥
    by (inl e) = more_ended (sym e ∙ ended.1)
    by (inr (inl e)) = more_needs a m.locals m.at (sym e ∙ m.needs)
    by (inr (inr e)) = ended_needs a m.locals m.at (sym ended.1 ∙ e ∙ m.needs)

  -- one that asks something asks just that
  pub asks_one : (n : ℕ) (b : Ask) (locals : Locals) (at : List Place) → next program start n (replies_of log) ≡ Needs b locals at → Traced
      → (b ≡ a) × IsTrue (fits a r) × (is_reply_within program.bounds.limit r ≡ true)
  asks_one n b locals at needs trace = (by (one_answer program start n m.turns (replies_of log)), m.fit, m.small) where
    m : Makes program start log a r
    m = last_made program start (log ++ (a, r) ∷ []) trace log a r refl

    by : (next program start n (replies_of log) ≡ More) ⊎ ((next program start m.turns (replies_of log) ≡ More) ⊎ (next program start n (replies_of log) ≡ next program start m.turns (replies_of log)))
        → b ≡ a
    by (inl e) = absurd (more_needs b locals at (sym e ∙ needs))
    by (inr (inl e)) = absurd (more_needs a m.locals m.at (sym e ∙ m.needs))
    by (inr (inr e)) = same_needs b a locals m.locals at m.at (sym needs ∙ e ∙ m.needs)

-- both of two tests hold
both : (p q : Bool) → (p && q) ≡ true → (p ≡ true) × (q ≡ true)
both true q e = (refl, e)
both false q e = absurd (let no : false ≡ true = e in cc)

both_hold : (p q : Bool) → p ≡ true → q ≡ true → (p && q) ≡ true
both_hold p q e f = ap (λ b. b && q) e ∙ f

module _ (image : Loaded) (start : Start) (old new : Running) (a : Ask) (r : Reply) (log : new.run.log ≡ old.run.log) where
  -- the job ran for all turns that it was let
  pub ran_long : new.run.spent ≡ min (old.run.spent + 10000000000) (2 ^ 63) → AdvanceTells (program_of image) start turns.Ran new.run → AsksIt image start old a r false new
  ran_long spent told =
      let P : Log → Type 0 = λ l. GoesOn (program_of image) start l new.run.spent in
      inl (new.run.spent, (let long : turns_limit ≤ new.run.spent = omega (arith, spent) in long), subst P log told)

  pub ended_asks : AdvanceTells (program_of image) start turns.Ended new.run → AsksIt image start old a r false new
  ended_asks told =
      let P : Log → Type 0 = λ l. HasEnded (program_of image) start l in
      inr (over_asks_nothing (program_of image) start old.run.log a r (subst P log told))

  -- it asks, and that is compared
  pub asks_so : (test fit : Bool) → (IsTrue test → new.run.pending ≡ Some a) → (new.run.pending ≡ Some a → IsTrue test) → (fits a r && is_reply_within image.bounds.limit r) ≡ fit
      → AdvanceTells (program_of image) start turns.Asks new.run → AsksIt image start old a r (test && fit) new
  asks_so true true is only fitting told =
      let pending = is refl in
      let same : told.0 ≡ a = same_Some told.0 a (sym told.1 ∙ pending) in (
        pending,
        (both (fits a r) (is_reply_within image.bounds.limit r) fitting).0,
        (both (fits a r) (is_reply_within image.bounds.limit r) fitting).1,
        (
          told.2.0,
          ap (λ l. next (program_of image) start told.2.0 (replies_of l)) (sym log) ∙ told.2.1
              ∙ ap (λ x. Needs x new.run.at.state.locals (places new.run.at.state)) same,
        ),
      )
  asks_so true false is only fitting told = inr (λ trace. (
      let P : Log → Type 0 = λ l. IsTrace (program_of image) start (l ++ (a, r) ∷ []) in
      let one = asks_one (program_of image) start new.run.log a r told.2.0 told.0 new.run.at.state.locals (places new.run.at.state) told.2.1 (subst P (sym log) trace) in
      (let no : true ≡ false = sym (both_hold (fits a r) (is_reply_within image.bounds.limit r) one.1 one.2) ∙ fitting in cc)))
  asks_so false fit is only fitting told = inr (λ trace. (
      let P : Log → Type 0 = λ l. IsTrace (program_of image) start (l ++ (a, r) ∷ []) in
      let one = asks_one (program_of image) start new.run.log a r told.2.0 told.0 new.run.at.state.locals (places new.run.at.state) told.2.1 (subst P (sym log) trace) in
      (let no : false ≡ true = only (told.1 ∙ ap Some one.0) in cc)))
