-- Lines on jobs that are put to the end, one job after the other.
use Rattle.std.proofs.Common.{◌≡◌, ℕ, zero, suc, ◌+◌, ◌<◌, ◌≤◌, List, [], ◌∷◌, ◌++◌, length, map, get_or, take, drop, drop-cons, append-nil, append_assoc}
use Rattle.std.proofs.Common.{inl, inr, Option, Some, None, refl, sym, ap, ◌∙◌, subst, arith}
use Rattle.std.specs.Prelude.{slice_get}
use Rattle.mj_ask.specs.Started.{Started}
use Rattle.mj_ask.specs.declared.ask.Ask.{Ask}
use Rattle.mj_ask.specs.declared.ask.Reply.{Reply}
use Rattle.mj_semantics.specs.Job.{Start}
use Rattle.mj_semantics.specs.Outcome as outcomes
use Rattle.mj_semantics.specs.State.{State, Frame, Place, places, place_of}
use Rattle.mj_load.specs.Image.{Loaded, program_of}
use Rattle.mj_jobvm.specs.Jobs.{Running}
use Rattle.mj_jobvm.specs.declared.job.Turn.{Turn}
use Rattle.mj_jobvm.specs.declared.job.Turn.TheVariants as ends
use Rattle.mj_sys.specs.declared.event.Event.{Event}
use Rattle.mj_sys.specs.History.{History}
use Rattle.mj_core.specs.Runs.{start_in}
use Rattle.mj_inspect.specs.Listed.{or_nothing}
use Rattle.mj_inspect.specs.Waits.{IsCutBefore, TellsNext, TellsOf, TellsAll, TellsWaits, told_before, innermost, looks, waiting_line, numbered, started_at, started_in}
use Rattle.mj_inspect.specs.Stands.{IsNext, turn_line, Puts, PutsLeft}

-- ---- several

module _ (image : Loaded) (history : History) (place : ℕ) where
  tells-append : (xs ys : List Start) (these those : List ℕ) → TellsAll image history place xs these → TellsAll image history place ys those
      → TellsAll image history place (xs ++ ys) (these ++ those)
  tells-append [] ys these those first second = subst (λ (l : List ℕ). TellsAll image history place ys (l ++ those)) (sym first) second
  tells-append (x ∷ xs) ys these those first second = (
    first.0,
    first.1 ++ those,
    first.2,
    tells-append xs ys first.1 those first.3 second,
    ap (λ (l : List ℕ). l ++ those) first.4 ∙ append_assoc first.0 first.1 those,
  )

  -- what is told of one
  pub puts_one : (start : Start) (line old new : List ℕ) → TellsOf image history place start line → new ≡ old ++ line → Puts image history place (start ∷ []) old new
  puts_one start line old new tells put = (line, (line, [], tells, refl, sym (append-nil line)), put)

  pub puts_none : (old : List ℕ) → Puts image history place [] old old
  puts_none old = ([], refl, sym (append-nil old))

  -- ---- as they are gone through

  -- before the first all are left
  pub left_first : (starts : List Start) (old now : List ℕ) → now ≡ old → PutsLeft image history place starts starts old now
  left_first starts old now same more tells = (more, tells, ap (λ (l : List ℕ). l ++ more) same)

  -- those of some more are put
  pub left_next : (starts some left all : List Start) (old now new : List ℕ) → all ≡ some ++ left → PutsLeft image history place starts all old now
      → Puts image history place some now new → PutsLeft image history place starts left old new
  left_next starts some left all old now new is before puts more tells =
      let both = subst (λ (xs : List Start). TellsAll image history place xs (puts.0 ++ more)) (sym is) (tells-append some left puts.0 more puts.1 tells) in
      let then = before (puts.0 ++ more) both in
      (then.0, then.1, ap (λ (l : List ℕ). l ++ more) puts.2 ∙ append_assoc now puts.0 more ∙ then.2)

  -- behind the last none is left
  pub left_last : (starts left : List Start) (old now : List ℕ) → left ≡ [] → PutsLeft image history place starts left old now → Puts image history place starts old now
  left_last starts left old now is before =
      let then = before [] (subst (λ (xs : List Start). TellsAll image history place xs []) (sym is) refl) in
      (then.0, then.1, sym (append-nil now) ∙ then.2)

  -- those of the first jobs, and then of those that were started
  pub puts_waits : (starts : List Started) (new mid bytes : List ℕ) → Puts image history place (numbered 1 starts) [] mid
      → Puts image history place (started_in (take place history)) mid new → bytes ≡ or_nothing new → TellsWaits image starts history place bytes
  puts_waits starts new mid bytes first second is =
      let all : new ≡ first.0 ++ second.0 = second.2 ∙ ap (λ (l : List ℕ). l ++ second.0) first.2 in (
        first.0 ++ second.0,
        tells-append (numbered 1 starts) (started_in (take place history)) first.0 second.0 first.1 second.1,
        is ∙ ap or_nothing all,
      )

  -- ---- one job

  innermost_is : (s : State) → innermost (places s) ≡ place_of s
  innermost_is s = by s.frames
    where
      by : (frames : List Frame) → innermost (map (λ f. f.place) frames) ≡ (elim frames as (λ _. Option Place) [ [] ↦ None | f ∷ fs ↦ Some f.place ])
      by [] = refl
      by (f ∷ fs) = refl

  -- what is told of one that was let go on
  pub tells_turn : (start : Start) (turn : Turn) (job : Running) → IsNext looks (program_of image) start (told_before start.job history place) turn job
      → TellsOf image history place start (turn_line start.job turn job)
  tells_turn start ends.Asks job next =
      inr (inl (
        next.0,
        places job.run.at.state,
        next.2,
        ap (λ (pending : Option Ask). waiting_line start.job (place_of job.run.at.state) pending) next.1
            ∙ ap (λ (at : Option Place). waiting_line start.job at (Some next.0)) (sym (innermost_is job.run.at.state)),
      ))
  tells_turn start ends.Ran job next = inr (inr (inl (next, refl)))
  tells_turn start ends.Ended job next = inr (inr (inr (next, refl)))

  -- and of one that has ended
  pub puts_cut : (start : Start) (old : List ℕ) → IsCutBefore image start history place → Puts image history place (start ∷ []) old old
  puts_cut start old cut = puts_one start [] old old (inl (cut, refl)) (sym (append-nil old))

-- ---- those that are left

-- the first jobs, numbered on
pub numbered_next : (starts : List Started) (i job number : ℕ) (start : Started) → i < length starts → start ≡ get_or starts i start → number ≡ job + 1
    → numbered (job + 1) (drop i starts) ≡ (start_in number start ∷ []) ++ numbered (number + 1) (drop (i + 1) starts)
numbered_next starts i job number start less is next =
    let on : suc i ≡ i + 1 = omega arith in
    let cut : drop i starts ≡ start ∷ drop (i + 1) starts =
    drop-cons starts i start less ∙ ap (λ (s : Started). s ∷ drop (suc i) starts) (sym is) ∙ ap (λ (n : ℕ). start ∷ drop n starts) on in
    ap (numbered (job + 1)) cut ∙ ap (λ n. start_in n start ∷ numbered (n + 1) (drop (i + 1) starts)) (sym next)

pub numbered_last : (starts : List Started) (i job : ℕ) → length starts ≤ i → numbered job (drop i starts) ≡ []
numbered_last [] zero job more = refl
numbered_last [] (suc i) job more = refl
numbered_last (s ∷ starts) zero job more = absurd (omega (arith, more))
numbered_last (s ∷ starts) (suc i) job more = numbered_last starts i job (omega (arith, more))

-- those that events started
started_on : (h : History) (place at : ℕ) → at < place → started_in (drop at (take place h)) ≡ started_at (slice_get h at) ++ started_in (drop (suc at) (take place h))
started_on [] zero at less = absurd (omega (arith, less))
started_on [] (suc place) zero less = refl
started_on [] (suc place) (suc at) less = refl
started_on (e ∷ h) zero at less = absurd (omega (arith, less))
started_on (e ∷ h) (suc place) zero less = refl
started_on (e ∷ h) (suc place) (suc at) less = started_on h place at (omega (arith, less))

pub started_next : (h : History) (place at : ℕ) → at < place → started_in (drop at (take place h)) ≡ started_at (slice_get h at) ++ started_in (drop (at + 1) (take place h))
started_next h place at less =
    let next : suc at ≡ at + 1 = omega arith in
    subst (λ n. started_in (drop at (take place h)) ≡ started_at (slice_get h at) ++ started_in (drop n (take place h))) next (started_on h place at less)

pub started_last : (h : History) (place at : ℕ) → place ≤ at → started_in (drop at (take place h)) ≡ []
started_last [] zero zero more = refl
started_last [] zero (suc at) more = refl
started_last [] (suc place) zero more = refl
started_last [] (suc place) (suc at) more = refl
started_last (e ∷ h) zero zero more = refl
started_last (e ∷ h) zero (suc at) more = refl
started_last (e ∷ h) (suc place) zero more = absurd (omega (arith, more))
started_last (e ∷ h) (suc place) (suc at) more = started_last h place at (omega (arith, more))
