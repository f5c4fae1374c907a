-- A job that is told the replies that a record has of it.
use Rattle.std.proofs.Common.{◌≡◌, ℕ, zero, suc, ◌+◌, ◌<◌, ◌≤◌, ◌==◌, Bool, true, false, cond, ◌&&◌, List, [], ◌∷◌, ◌++◌, take, inl, inr, Option, Some, None}
use Rattle.std.proofs.Common.{Result, Ok, Err, IfOk, refl, sym, ap, ◌∙◌, subst, arith}
use Rattle.std.specs.Prelude.{slice_get}
use Rattle.std.specs.declared.alloc.AllocError.{AllocError}
use Rattle.mj_text.specs.declared.limit.Limit.{Limit}
use Rattle.mj_ask.specs.declared.ask.Ask.{Ask}
use Rattle.mj_ask.specs.declared.ask.Reply.{Reply}
use Rattle.mj_ask.specs.Fits.{fits}
use Rattle.mj_ask.specs.Within.{is_reply_within}
use Rattle.mj_semantics.specs.Job.{Start}
use Rattle.mj_semantics.specs.State.{places}
use Rattle.mj_load.specs.Image.{Loaded, program_of}
use Rattle.mj_jobvm.specs.Run.{Log, replies_of}
use Rattle.mj_jobvm.specs.Jobs.{Running, FitsPending, IsRunOf, IsRunOfAfter, IsIn}
use Rattle.mj_jobvm.specs.Told.{AdvanceTells, spent_after}
use Rattle.mj_jobvm.specs.declared.job.Turn.{Turn}
use Rattle.mj_jobvm.specs.declared.job.Turn.TheVariants as ends
use Rattle.mj_sys.specs.History.{History, log_of}
use Rattle.mj_replica.specs.Replays.{turns_limit}
use Rattle.mj_inspect.specs.Waits.{ComesTo, IsAtEnd, IsCut, IsCutBefore, IsLost, is_due, looks, reply_in, told_before}
use Rattle.mj_inspect.specs.Own.{own_event}
use Rattle.mj_inspect.specs.Stands.{IsBehind, IsNext}

-- one that was told replies was started in its image
pub is_in : (image : Loaded) (start : Start) (told : List Reply) (job : Running) → IsBehind image start told job → IsIn image job
is_in image start told job is = (start, is.run)

-- it stands so where it starts
pub starts_behind : (image own : Loaded) (start : Start) (job : Running) → own ≡ image → IsRunOfAfter own start 0 job → job.run.log ≡ [] → IsBehind image start [] job
starts_behind image own start job same is none =
    let P : Loaded → Type 0 = λ i. IsRunOfAfter i start 0 job in
    record { run = (0, subst P same is); replies = ap replies_of none }

-- ---- let go on

-- the log that it has stands for its replies
told_by : (image : Loaded) (start : Start) (told : List Reply) (old new : Running) → IsBehind image start told old → new.run.log ≡ old.run.log → replies_of new.run.log ≡ told
told_by image start told old new is log = ap replies_of log ∙ is.replies

-- as far as it was let, it stands so
pub goes_next : (image : Loaded) (start : Start) (told : List Reply) (old new : Running) (turn : Turn) (turns : ℕ) → IsBehind image start told old
    → new.run.log ≡ old.run.log → (turn ≡ ends.Ran → turns ≤ new.run.spent) → AdvanceTells (program_of image) start turn new.run
    → IsNext turns (program_of image) start told turn new
goes_next image start told old new ends.Asks turns is log long tells =
    let at = places new.run.at.state in
    let comes : ComesTo (program_of image) start (replies_of new.run.log) tells.0 at =
    record { locals = new.run.at.state.locals; turns = tells.2.0; needs = tells.2.1 } in
    let P : List Reply → Type 0 = λ l. ComesTo (program_of image) start l tells.0 at in
    (tells.0, tells.1, subst P (told_by image start told old new is log) comes)
goes_next image start told old new ends.Ran turns is log long tells =
    record { log = new.run.log; replies = told_by image start told old new is log; turns = new.run.spent; enough = long refl; going = tells }
goes_next image start told old new ends.Ended turns is log long tells =
    let over : IsAtEnd (program_of image) start (replies_of new.run.log) = record { turns = tells.0; ended = tells.1 } in
    let P : List Reply → Type 0 = λ l. IsAtEnd (program_of image) start l in
    subst P (told_by image start told old new is log) over

pub let_go : (image : Loaded) (start : Start) (told : List Reply) (old new : Running) (turns : ℕ) (went : Result Turn AllocError) → turns ≤ turns_limit
    → IsBehind image start told old → new.run.log ≡ old.run.log → new.run.spent ≡ spent_after went turns old.run.spent
    → IfOk went (λ turn. AdvanceTells (program_of image) start turn new.run) → IfOk went (λ turn. IsNext turns (program_of image) start told turn new)
let_go image start told old new turns (Ok ends.Asks) few is log spent tells = goes_next image start told old new ends.Asks turns is log (λ same. absurd cc) tells
let_go image start told old new turns (Ok ends.Ran) few is log spent tells =
    let long : turns ≤ new.run.spent = omega (arith, few, spent) in
    goes_next image start told old new ends.Ran turns is log (λ same. long) tells
let_go image start told old new turns (Ok ends.Ended) few is log spent tells = goes_next image start told old new ends.Ended turns is log (λ same. absurd cc) tells
let_go image start told old new turns (Err e) few is log spent tells = tt

-- and was told the same
pub gone_on : (image : Loaded) (start : Start) (told : List Reply) (old new : Running) → IsBehind image start told old → new.run.log ≡ old.run.log
    → IsRunOf image start new → IsBehind image start told new
gone_on image start told old new is log run = record { run = run; replies = told_by image start told old new is log }

-- it comes to no ask that a reply fits
pub lost_there : (image : Loaded) (start : Start) (told : List Reply) (job : Running) (turn : Turn) (reply : Reply) → IsNext turns_limit (program_of image) start told turn job
    → (turn ≡ ends.Asks → is_due image.bounds.limit job.run.pending reply ≡ false) → IsLost image start told reply
lost_there image start told job ends.Asks reply next off =
    let P : Option Ask → Type 0 = λ pending. is_due image.bounds.limit pending reply ≡ false in
    inr (inr (next.0, places job.run.at.state, next.2, subst P next.1 (off refl)))
lost_there image start told job ends.Ran reply next off = inl next
lost_there image start told job ends.Ended reply next off = inr (inl next)

-- ---- told

both_true : (a b : Bool) → (a && b) ≡ true → (a ≡ true) × (b ≡ true)
both_true true b e = (refl, e)
both_true false b e = absurd cc

-- a reply that is due fits what is asked
pub due_fits : (limit : Limit) (pending : Option Ask) (reply : Reply) → is_due limit pending reply ≡ true → FitsPending pending reply
due_fits limit None reply e = absurd cc
due_fits limit (Some a) reply e = (a, refl, (both_true (fits a reply) (is_reply_within limit reply) e).0)

-- and is within the limit
due_within : (limit : Limit) (pending : Option Ask) (reply : Reply) → is_due limit pending reply ≡ true → is_reply_within limit reply ≡ true
due_within limit None reply e = absurd cc
due_within limit (Some a) reply e = (both_true (fits a reply) (is_reply_within limit reply) e).1

replies-append : (xs : Log) (a : Ask) (reply : Reply) → replies_of (xs ++ (a, reply) ∷ []) ≡ replies_of xs ++ reply ∷ []
replies-append [] a reply = refl
replies-append (x ∷ xs) a reply = ap (λ (l : List Reply). x.1 ∷ l) (replies-append xs a reply)

-- told a reply that is due, it stands behind that
pub told_on : (image : Loaded) (start : Start) (told : List Reply) (old mid new : Running) (reply given : Reply) → IsBehind image start told old
    → mid.run.log ≡ old.run.log → (IsRunOf image start old → IsRunOf image start mid) → given ≡ reply → is_due image.bounds.limit mid.run.pending reply ≡ true
    → ((image : Loaded) (start : Start) → is_reply_within image.bounds.limit given ≡ true → IsRunOf image start mid → IsRunOf image start new)
    → ((a : Ask) → mid.run.pending ≡ Some a → new.run.log ≡ mid.run.log ++ (a, given) ∷ []) → IsBehind image start (told ++ reply ∷ []) new
told_on image start told old mid new reply given is log goes same due keeps adds =
    let fit = due_fits image.bounds.limit mid.run.pending reply due in
    let W : Reply → Type 0 = λ r. is_reply_within image.bounds.limit r ≡ true in
    record {
      run = keeps image start (subst W (sym same) (due_within image.bounds.limit mid.run.pending reply due)) (goes is.run);
      replies = ap replies_of (adds fit.0 fit.1)
          ∙ replies-append mid.run.log fit.0 given
          ∙ ap (λ (l : List Reply). l ++ given ∷ []) (told_by image start told old mid is log)
          ∙ ap (λ (r : Reply). told ++ r ∷ []) same;
    }

-- ---- the events of a record

told-on : (job : ℕ) (h : History) (at : ℕ) → told_before job h (suc at) ≡ told_before job h at ++ reply_in (own_event job (slice_get h at))
told-on job [] zero = refl
told-on job [] (suc at) = refl
told-on job (e ∷ h) zero = by (e.job == job)
  where
    by : (b : Bool) → replies_of (cond b ((e.ask, e.reply) ∷ []) []) ≡ reply_in (cond b (Some (e.ask, e.reply)) None)
    by true = refl
    by false = refl
told-on job (e ∷ h) (suc at) = by (e.job == job) (told-on job h at)
  where
    by : (b : Bool) → told_before job h (suc at) ≡ told_before job h at ++ reply_in (own_event job (slice_get h at))
        → replies_of (cond b ((e.ask, e.reply) ∷ log_of job (take (suc at) h)) (log_of job (take (suc at) h)))
        ≡ replies_of (cond b ((e.ask, e.reply) ∷ log_of job (take at h)) (log_of job (take at h))) ++ reply_in (own_event job (slice_get h at))
    by true is = ap (λ (l : List Reply). e.reply ∷ l) is
    by false is = is

-- one event more
pub told_next : (job : ℕ) (h : History) (at : ℕ) → told_before job h (at + 1) ≡ told_before job h at ++ reply_in (own_event job (slice_get h at))
told_next job h at =
    let next : suc at ≡ at + 1 = omega arith in
    subst (λ n. told_before job h n ≡ told_before job h at ++ reply_in (own_event job (slice_get h at))) next (told-on job h at)

pub told_first : (job : ℕ) (h : History) → [] ≡ told_before job h 0
told_first job [] = refl
told_first job (e ∷ h) = refl

-- ---- as they are gone through

-- one that starts was told what it was before the first event
pub starts_told : (image : Loaded) (start : Start) (job : ℕ) (h : History) (r : Running) → IsBehind image start [] r → IsBehind image start (told_before job h 0) r
starts_told image start job h r is = subst (λ (told : List Reply). IsBehind image start told r) (told_first job h) is

-- and with the reply of one event more what it was behind that
pub goes_told : (image : Loaded) (start : Start) (job : ℕ) (h : History) (at : ℕ) (r : Running)
    → IsBehind image start (told_before job h at ++ reply_in (own_event job (slice_get h at))) r → IsBehind image start (told_before job h (at + 1)) r
goes_told image start job h at r is = subst (λ (told : List Reply). IsBehind image start told r) (sym (told_next job h at)) is

at_end : (at place : ℕ) → at ≤ place → place ≤ at → at ≡ place
at_end at place up down = omega (arith, up, down)

-- behind the last event before the place it was told all
pub ends_told : (image : Loaded) (start : Start) (job : ℕ) (h : History) (at place : ℕ) (r : Running) → at ≤ place → place ≤ at
    → IsBehind image start (told_before job h at) r → IsBehind image start (told_before job h place) r
ends_told image start job h at place r up down is = subst (λ (n : ℕ). IsBehind image start (told_before job h n) r) (at_end at place up down) is

-- it isn't followed behind an event before the place
pub cut_at : (image : Loaded) (start : Start) (h : History) (place at : ℕ) → at < place
    → IsCut image start (told_before start.job h at) (own_event start.job (slice_get h at)) → IsCutBefore image start h place
cut_at image start h place at less cut = (at, less, cut)

-- it is let go on for no more turns than are counted of it
pub few_turns : looks ≤ turns_limit
few_turns = omega arith

pub all_turns : turns_limit ≤ turns_limit
all_turns = omega arith
