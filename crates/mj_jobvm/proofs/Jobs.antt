-- A job stays at a point of its program's run.
use Rattle.std.proofs.Common.{◌≡◌, ℕ, suc, ◌+◌, ◌-◌, ◌≤◌, ◌⊎◌, List, [], ◌∷◌, ◌++◌, drop, Option, Some, None, Bool, true, false, inl, inr, refl, sym, ap, ◌∙◌, subst, arith, append-nil}
use Rattle.std.specs.Prelude.{IsTrue, nat_lt}
use Rattle.std.proofs.lemmas.Bool.{ltb-true, ltb-false}
use Rattle.mj_text.specs.declared.fault.Fault.{Fault}
use Rattle.mj_ask.specs.declared.ask.Ask.{Ask}
use Rattle.mj_ask.specs.declared.ask.Reply.{Reply}
use Rattle.mj_ask.specs.Fits.{fits}
use Rattle.mj_ask.specs.Within.{is_reply_within}
use Rattle.mj_semantics.specs.State.{State, Locals, Place, places, place_of, ending_order}
use Rattle.mj_semantics.specs.Outcome.{Outcome, Needs, More, Handler, ends}
use Rattle.mj_semantics.specs.Outcome as outcomes
use Rattle.mj_semantics.specs.Program.{Program}
use Rattle.mj_semantics.specs.Job.{Start, next}
use Rattle.mj_semantics.proofs.Depth.{steady}
use Rattle.mj_segment.specs.Segments.{StepsBy}
use Rattle.mj_pcode.specs.Context.{Context}
use Rattle.mj_pcode.specs.Machine.{Stack, handler}
use Rattle.mj_machine.specs.declared.control.Control.{Control}
use Rattle.mj_machine.specs.declared.control.Control.TheVariants as controls
use Rattle.mj_jobvm.specs.declared.job.Turn.TheVariants as reports
use Rattle.mj_machine.specs.Standing.{Standing, Code, left, given_first, onward, Steps}
use Rattle.mj_machine.specs.Standing as turns_are
use Rattle.mj_turn.specs.Sound.{IsSound}
use Rattle.mj_jobvm.specs.Run.{Log, Run, replies_of, TurnsBefore, begins, goes_on, IsJobRun, IsRunAfter}
use Rattle.mj_jobvm.specs.Told.{AdvanceTells}
use Rattle.mj_jobvm.specs.Places.{IsPlaceOf, ArePlaces}
use Rattle.mj_jobvm.proofs.Placed.{stands_innermost, one_place, one_more}

abbrev pub run : Log → List (Option Place) → Option Ask → ℕ → Standing → Run
run log kept pending spent at = record { log = log; places = kept; pending = pending; spent = spent; at = at }

-- without a turn nothing is done
idle_ends : (names : List (List ℕ)) (f : Option Fault) (back : Handler) (s : State) (replies : List Reply) → ends names f 0 back s replies ≡ More
idle_ends [] f back s replies = refl
idle_ends (name ∷ names) f back s replies = refl

idle_left : (code : Code) (control : Control) (c : Context) (stack : Stack) (back : Handler) (s : State) (replies : List Reply) → left code control c stack 0 back s replies ≡ More
idle_left code controls.Begin c stack back s replies = refl
idle_left code (controls.At pc) c stack back s replies = refl
idle_left code (controls.Faulted f) c stack back s replies = refl
idle_left code (controls.Closing done f) c stack back s replies = idle_ends (drop done (ending_order s.devices)) f back s replies
idle_left code controls.Over c stack back s replies = refl

idle : (code : Code) (at : Standing) (replies : List Reply) → onward code 0 at replies ≡ More
idle code at replies = idle_left code at.control at.context at.stack (handler code.units at.restart) at.state (given_first at.given replies)

-- lists without their last elements
last_off : (xs ys : Log) (e f : Ask × Reply) → xs ++ e ∷ [] ≡ ys ++ f ∷ [] → xs ≡ ys
last_off [] [] e f h = refl
last_off [] (y ∷ []) e f h = cc
last_off [] (y ∷ z ∷ ys) e f h = cc
last_off (x ∷ []) [] e f h = cc
last_off (x ∷ z ∷ xs) [] e f h = cc
last_off (x ∷ xs) (y ∷ ys) e f h =
    let head : x ≡ y = cc in
    let tail : xs ++ e ∷ [] ≡ ys ++ f ∷ [] = cc in
    ap (λ l. x ∷ l) (last_off xs ys e f tail) ∙ ap (λ z. z ∷ ys) head

-- a fact of each number up to one, and of the next
one_further : (P : ℕ → Type 0) (m : ℕ) → ((n : ℕ) → n ≤ m → P n) → P (m + 1) → (n : ℕ) → n ≤ m + 1 → P n
one_further P m up here n le = by (nat_lt m n) refl
  where
    along : (a b : ℕ) → a ≡ b → P a → P b
    along a b e p = subst P e p

    by : (b : Bool) → nat_lt m n ≡ b → P n
    by true e = along (m + 1) n (let h = ltb-true m n e in omega (arith, h)) here
    by false e = up n (ltb-false m n e)

-- the turns before the last reply of a log are the only ones
module _ (program : Program) (start : Start) where
  some_more : (log : Log) (e : Ask × Reply) → [] ≡ log ++ e ∷ [] → ⊥
  some_more [] e h = cc
  some_more (x ∷ log) e h = cc

  -- a run that goes on doesn't ask
  never_both : (o : Outcome) (a : Ask) (locals : Locals) (at : List Place) → o ≡ More → o ≡ Needs a locals at → ⊥
  never_both o a locals at e f = let h : More ≡ Needs a locals at = sym e ∙ f in cc

  -- where it asks with each number above one, it goes on with none above it
  no_later : (replies : List Reply) (m k : ℕ) (a : Ask) (locals : Locals) (at : List Place)
      → ((n : ℕ) → n ≤ m → next program start n replies ≡ More)
      → ((n : ℕ) → next program start (k + suc n) replies ≡ Needs a locals at) → m ≤ k
  no_later replies m k a locals at going needs = by (nat_lt k m) refl
    where
      by : (b : Bool) → nat_lt k m ≡ b → m ≤ k
      by false e = ltb-false k m e
      by true e = absurd (never_both (next program start (k + 1) replies) a locals at
          (going (k + 1) (let h = ltb-true k m e in omega (arith, h))) (needs 0))

  pub only_one : (log : Log) (k m : ℕ) → TurnsBefore program start log k → TurnsBefore program start log m → k ≡ m
  only_one log k m (inl (e, c)) (inl (f, d)) = c ∙ sym d
  only_one log k m (inl (e, c)) (inr (earlier, a, r, locals, at, is, going, needs)) = absurd (some_more earlier (a, r) (sym e ∙ is))
  only_one log k m (inr (earlier, a, r, locals, at, is, going, needs)) (inl (f, d)) = absurd (some_more earlier (a, r) (sym f ∙ is))
  only_one log k m (inr (earlier, a, r, locals, at, is, going, needs)) (inr (earlier', a', r', locals', at', is', going', needs')) =
      let same : earlier ≡ earlier' = last_off earlier earlier' (a, r) (a', r') (sym is ∙ is') in
      let P : Log → Type 0 = λ l. (n : ℕ) → n ≤ m → next program start n (replies_of l) ≡ More in
      let Q : Log → Type 0 = λ l. (n : ℕ) → next program start (m + suc n) (replies_of l) ≡ Needs a' locals' at' in
      let le : k ≤ m = no_later (replies_of earlier) k m a' locals' at' going (subst Q (sym same) needs') in
      let ge : m ≤ k = no_later (replies_of earlier) m k a locals at (subst P (sym same) going') needs in
      omega (arith, le, ge)

-- a run that is still going after some turns was going after fewer
more_before : (now later : Outcome) → (now ≡ More) ⊎ (later ≡ now) → later ≡ More → now ≡ More
more_before now later (inl e) more = e
more_before now later (inr e) more = sym e ∙ more

module _ (program : Program) (start : Start) (code : Code) where
  -- what the program does with the log
  now : (log : Log) (kept : List (Option Place)) (pending : Option Ask) (spent turns n : ℕ) (at : Standing) (r : IsRunAfter program start code turns (run log kept pending spent at))
      → onward code n at [] ≡ next program start (r.before + turns + n) (replies_of log)
  now log kept pending spent turns n at r = r.rest n [] ∙ ap (next program start (r.before + turns + n)) (append-nil (replies_of log))

  pub started : (at : Standing) → IsSound code.units at → ((n : ℕ) (replies : List Reply) → onward code n at replies ≡ next program start n replies)
      → IsRunAfter program start code 0 (run [] [] None 0 at)
  started at sound h = record {
    before = 0;
    counted = inl (refl, refl);
    trace = begins;
    placed = tt;
    within = omega arith;
    going = λ n le replies. ap (λ k. next program start k replies) (let e : n ≡ 0 = omega (arith, le) in e);
    rest = λ n replies. h n replies ∙ ap (λ k. next program start k replies) (let e : n ≡ 0 + 0 + n = omega arith in e);
    sound = sound;
    asks = tt;
  }

  -- fewer turns may be counted than are over
  pub fewer : (log : Log) (kept : List (Option Place)) (pending : Option Ask) (counted spent turns : ℕ) (at : Standing) → counted ≤ spent
      → IsRunAfter program start code turns (run log kept pending spent at) → IsRunAfter program start code turns (run log kept pending counted at)
  fewer log kept pending counted spent turns at le r = record {
    before = r.before;
    counted = r.counted;
    trace = r.trace;
    placed = r.placed;
    within = let w = r.within in omega (arith, w, le);
    going = r.going;
    rest = r.rest;
    sound = r.sound;
    asks = r.asks;
  }

  -- a turn
  pub turned : (log : Log) (kept : List (Option Place)) (spent turns : ℕ) (old new : Standing) → Steps code old turns_are.Over new → IsSound code.units new
      → IsRunAfter program start code turns (run log kept None spent old) → IsRunAfter program start code (turns + 1) (run log kept None (spent + 1) new)
  turned log kept spent turns old new h sound r = record {
    before = r.before;
    counted = r.counted;
    trace = r.trace;
    placed = r.placed;
    within = let w = r.within in omega (arith, w);
    going = λ n le. one_further (λ k. (replies : List Reply) → next program start k (replies_of log ++ replies) ≡ More) (r.before + turns) r.going
        (λ replies. sym (r.rest 1 replies) ∙ h 0 replies ∙ idle code new replies) n (let l : n ≤ r.before + turns + 1 = omega (arith, le) in l);
    rest = λ n replies. sym (h n replies)
        ∙ r.rest (suc n) replies ∙ ap (λ k. next program start k (replies_of log ++ replies)) (let e : r.before + turns + suc n ≡ r.before + (turns + 1) + n = omega arith in e);
    sound = sound;
    asks = tt;
  }

  -- several turns
  pub turned_by : (log : Log) (kept : List (Option Place)) (spent turns k : ℕ) (old new : Standing) → StepsBy code k old new → IsSound code.units new
      → IsRunAfter program start code turns (run log kept None spent old) → IsRunAfter program start code (turns + k) (run log kept None (spent + k) new)
  turned_by log kept spent turns k old new h sound r = record {
    before = r.before;
    counted = r.counted;
    trace = r.trace;
    placed = r.placed;
    within = let w = r.within in omega (arith, w);
    going = λ n le replies.
        let rs : List Reply = replies_of log ++ replies in
        let last : next program start (r.before + (turns + k)) rs ≡ More =
        ap (λ m. next program start m rs) (let e : r.before + (turns + k) ≡ r.before + turns + k = omega arith in e)
        ∙ sym (r.rest k replies) ∙ ap (λ m. onward code m old replies) (let e : k ≡ k + 0 = omega arith in e) ∙ h 0 replies ∙ idle code new replies in
        let e : n + (r.before + (turns + k) - n) ≡ r.before + (turns + k) = omega (arith, le) in
        more_before (next program start n rs) (next program start (n + (r.before + (turns + k) - n)) rs)
        (steady program start n (r.before + (turns + k) - n) rs) (ap (λ m. next program start m rs) e ∙ last);
    rest = λ n replies.
        sym (h n replies) ∙ r.rest (k + n) replies
        ∙ ap (λ m. next program start m (replies_of log ++ replies)) (let e : r.before + turns + (k + n) ≡ r.before + (turns + k) + n = omega arith in e);
    sound = sound;
    asks = tt;
  }

  -- an ask
  pub asking : (log : Log) (kept : List (Option Place)) (spent turns : ℕ) (a : Ask) (old : Standing) → old.given ≡ None
      → ((n : ℕ) → onward code (suc n) old [] ≡ Needs a old.state.locals (places old.state))
      → IsRunAfter program start code turns (run log kept None spent old) → IsRunAfter program start code turns (run log kept (Some a) spent old)
  asking log kept spent turns a old g h r = record {
    before = r.before;
    counted = r.counted;
    trace = r.trace;
    placed = r.placed;
    within = r.within;
    going = r.going;
    rest = r.rest;
    sound = r.sound;
    asks = (g, h);
  }

  -- a run asks in the turn that it asks in, and in each later one
  pub needs : (log : Log) (kept : List (Option Place)) (spent turns : ℕ) (a : Ask) (at : Standing) (r : IsRunAfter program start code turns (run log kept (Some a) spent at))
      → (n : ℕ) → next program start (r.before + turns + suc n) (replies_of log) ≡ Needs a at.state.locals (places at.state)
  needs log kept spent turns a at r n = sym (now log kept (Some a) spent turns (suc n) at r) ∙ r.asks.1 n

  -- and is still going in each before
  still : (log : Log) (kept : List (Option Place)) (pending : Option Ask) (spent turns : ℕ) (at : Standing) (r : IsRunAfter program start code turns (run log kept pending spent at))
      → (n : ℕ) → n ≤ r.before + turns → next program start n (replies_of log) ≡ More
  still log kept pending spent turns at r n le = ap (next program start n) (sym (append-nil (replies_of log))) ∙ r.going n le []

  pub told_asks : (log : Log) (kept : List (Option Place)) (spent : ℕ) (a : Ask) (at : Standing) → IsJobRun program start code (run log kept (Some a) spent at)
      → AdvanceTells program start reports.Asks (run log kept (Some a) spent at)
  told_asks log kept spent a at (turns, r) = (a, refl, (r.before + turns + 1, needs log kept spent turns a at r 0))

  -- what is told again while an ask is pending
  pub told_again : (job : Run) (a : Ask) → job.pending ≡ Some a → IsJobRun program start code job → AdvanceTells program start reports.Asks job
  told_again job a e (turns, r) =
      let P : Option Ask → Type 0 = λ p. IsRunAfter program start code turns (run job.log job.places p job.spent job.at) in
      let pending : IsRunAfter program start code turns (run job.log job.places (Some a) job.spent job.at) = subst P e r in
      (a, e, (pending.before + turns + 1, needs job.log job.places job.spent turns a job.at pending 0))

  pub told_ran : (log : Log) (kept : List (Option Place)) (pending : Option Ask) (spent : ℕ) (at : Standing) → IsJobRun program start code (run log kept pending spent at)
      → AdvanceTells program start reports.Ran (run log kept pending spent at)
  told_ran log kept pending spent at (turns, r) = (
    r.before,
    r.counted,
    (λ k c. only_one program start log k r.before c r.counted),
    λ n le. still log kept pending spent turns at r n (let w = r.within in omega (arith, le, w)),
  )

  pub told_ended : (log : Log) (kept : List (Option Place)) (pending : Option Ask) (spent : ℕ) (at : Standing)
      → ((n : ℕ) (replies : List Reply) → onward code (suc n) at replies ≡ outcomes.Ended)
      → IsJobRun program start code (run log kept pending spent at) → AdvanceTells program start reports.Ended (run log kept pending spent at)
  told_ended log kept pending spent at h (turns, r) = (r.before + turns + 1, sym (now log kept pending spent turns 1 at r) ∙ h 0 [])

  replies_more : (log : Log) (a : Ask) (r : Reply) (replies : List Reply) → replies_of log ++ r ∷ replies ≡ replies_of (log ++ (a, r) ∷ []) ++ replies
  replies_more [] a r replies = refl
  replies_more (e ∷ log) a r replies = ap (λ rs. e.1 ∷ rs) (replies_more log a r replies)

  replies_one : (log : Log) (a : Ask) (r : Reply) → replies_of log ++ r ∷ [] ≡ replies_of (log ++ (a, r) ∷ [])
  replies_one log a r = replies_more log a r [] ∙ append-nil (replies_of (log ++ (a, r) ∷ []))

  -- a reply
  pub answered : (log : Log) (kept : List (Option Place)) (spent turns : ℕ) (a : Ask) (r : Reply) (at : Standing)
      → IsTrue (fits a r) → is_reply_within program.bounds.limit r ≡ true → IsRunAfter program start code turns (run log kept (Some a) spent at)
      → IsRunAfter program start code 0 (run (log ++ (a, r) ∷ []) (kept ++ place_of at.state ∷ []) None 0 (record at { given = Some r }))
  answered log kept spent turns a r at fit small is =
      let back : Handler = handler code.units at.restart in
      let after : (n : ℕ) (replies : List Reply)
      → left code at.control at.context at.stack n back at.state (r ∷ replies) ≡ next program start (is.before + turns + n) (replies_of (log ++ (a, r) ∷ []) ++ replies) =
      λ n replies. ap (λ g. left code at.control at.context at.stack n back at.state (given_first g (r ∷ replies))) (sym is.asks.0)
      ∙ is.rest n (r ∷ replies)
      ∙ ap (next program start (is.before + turns + n)) (replies_more log a r replies) in
      record {
        before = is.before + turns;
        counted = inr (
          log,
          a,
          r,
          at.state.locals,
          places at.state,
          refl,
          still log kept (Some a) spent turns at is,
          needs log kept spent turns a at is,
        );
        trace = goes_on log a r (is.before + turns + 1) at.state.locals (places at.state) is.trace (needs log kept spent turns a at is 0) fit small;
        placed = subst (λ l. ArePlaces program start l (kept ++ place_of at.state ∷ [])) (replies_one log a r)
            (one_more program start (replies_of log) kept r (place_of at.state) is.placed
            (subst (IsPlaceOf program start (replies_of log)) (sym (stands_innermost at.state))
            (one_place program start (replies_of log) (is.before + turns) a at.state.locals (places at.state)
            (still log kept (Some a) spent turns at is) (needs log kept spent turns a at is))));
        within = omega arith;
        going = λ n le replies. ap (next program start n) (sym (replies_more log a r replies))
            ∙ is.going n (let l : n ≤ is.before + turns = omega (arith, le) in l) (r ∷ replies);
        rest = λ n replies. after n replies
            ∙ ap (λ k. next program start k (replies_of (log ++ (a, r) ∷ []) ++ replies)) (let e : is.before + turns + n ≡ is.before + turns + 0 + n = omega arith in e);
        sound = is.sound;
        asks = tt;
      }
