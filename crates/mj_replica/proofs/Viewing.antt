-- What a view shows, and what views are made.
use Rattle.std.specs.Prelude.{◌⊎◌, take, slice_get, nat_lt}
use Rattle.std.specs.Option.{option_map}
use Rattle.std.proofs.Common.{◌≡◌, ℕ, zero, suc, ◌+◌, ◌-◌, ◌<◌, ◌≤◌, List, [], ◌∷◌, ◌++◌, length, map, Bool, true, false, cond, Option, Some, None}
use Rattle.std.proofs.Common.{refl, sym, ap, ◌∙◌, subst, inl, inr, arith, length-append}
use Rattle.std.proofs.lemmas.Bool.{ltb-false}
use Rattle.std.proofs.lemmas.Option.{slice_get-map, slice_get_past, none-some, same_Some}
use Rattle.mj_semantics.specs.State.{Frame}
use Rattle.mj_store.specs.Questions.{Content}
use Rattle.mj_load.specs.Image.{Loaded, program_of}
use Rattle.mj_jobvm.specs.Jobs.{Running}
use Rattle.mj_sys.specs.Shared.{Shared}
use Rattle.mj_sys.specs.History.{History}
use Rattle.mj_views.specs.Views.{JobView, Viewed, Window, job_in, view_at, frames_seen, locals_seen}
use Rattle.mj_replica.specs.Playing.{Playing}
use Rattle.mj_replica.specs.Replicas.{Replayed, job_of, IsReplica, IsFull}
use Rattle.mj_replica.specs.Shows.{HasStood}
use Rattle.mj_replica.specs.Views.{stand_of_played, view_of, IsView, AreViews, AreBefore, IsPutOrGone}
use Rattle.mj_replica.proofs.Standing.{shared_there, no_row, stands}

-- ---- a view of a run that is played again

-- a job as it stands
abbrev pub standing : Running → JobView
standing job = record { frames = job.run.at.state.frames; locals = job.run.at.state.locals }

pub job_there : (opening : Shared) (replica : Replayed) (job : ℕ) → job_in (view_of opening replica) job ≡ option_map standing (job_of replica job)
job_there opening replica zero = refl
job_there opening replica (suc k) = slice_get-map stand_of_played replica.jobs k ∙ by (slice_get replica.jobs k) where
  by : (played : Option Playing) → option_map stand_of_played played ≡ option_map standing (option_map (λ (p : Playing). p.job) played)
  by None = refl
  by (Some played) = refl

abbrev pub frames_in : Running → List Frame
frames_in job = job.run.at.state.frames

abbrev pub locals_in : Running → Content
locals_in job = job.run.at.state.locals

pub frames_there : (opening : Shared) (replica : Replayed) (job : ℕ) (found : Option Running) → found ≡ job_of replica job
    → option_map frames_in found ≡ frames_seen (job_in (view_of opening replica) job)
frames_there opening replica job found is =
    by found ∙ ap (λ (o : Option Running). frames_seen (option_map standing o)) is ∙ sym (ap frames_seen (job_there opening replica job)) where
      by : (o : Option Running) → option_map frames_in o ≡ frames_seen (option_map standing o)
      by None = refl
      by (Some x) = refl

pub locals_there : (opening : Shared) (replica : Replayed) (job : ℕ) (found : Option Running) → found ≡ job_of replica job
    → option_map locals_in found ≡ locals_seen (job_in (view_of opening replica) job)
locals_there opening replica job found is =
    by found ∙ ap (λ (o : Option Running). locals_seen (option_map standing o)) is ∙ sym (ap locals_seen (job_there opening replica job)) where
      by : (o : Option Running) → option_map locals_in o ≡ locals_seen (option_map standing o)
      by None = refl
      by (Some x) = refl

unmapped : (job : Option Running) → option_map standing job ≡ None → job ≡ None
unmapped None e = refl
unmapped (Some job) e = absurd (none-some (standing job) (sym e))

mapped : (job : Option Running) (stand : JobView) → option_map standing job ≡ Some stand → (found : Running) × (job ≡ Some found) × (standing found ≡ stand)
mapped None stand e = absurd (none-some stand e)
mapped (Some job) stand e = (job, refl, same_Some (standing job) stand e)

-- it shows what stands where the run has come to
pub is_view : (image : Loaded) (opening : Shared) (history : History) (replica : Replayed) → IsReplica image opening history replica → IsFull opening replica
    → (place : ℕ) → replica.made ≡ place → IsView image opening (take place history) (view_of opening replica)
is_view image opening history replica is full place at =
    let there = shared_there image opening history replica is place at in
    record {
      globals = ap (λ (s : Shared). s.globals) there;
      locks = ap (λ (s : Shared). s.locks) there;
      none = λ job missing. no_row image opening history replica is place at full job (unmapped (job_of replica job) (sym (job_there opening replica job) ∙ missing));
      some = λ job stand found. (
          let its = mapped (job_of replica job) stand (sym (job_there opening replica job) ∙ found) in
          let P : JobView → Type 0 = λ s. HasStood (program_of image) opening (take place history) job s.locals (map (λ (f : Frame). f.place) s.frames) in
          subst P its.2 (stands image opening history replica is place at job its.0 its.1));
    }

-- ---- views of places that follow one another

-- one that is there isn't none
pub nothing : (b : Bool) (view : Viewed) → cond b None None ≡ Some view → ⊥
nothing true view e = none-some view e
nothing false view e = none-some view e

pub no_views : (image : Loaded) (opening : Shared) (history : History) (first : ℕ) → AreViews image opening history (record { first = first; views = [] })
no_views image opening history first = λ place view e. absurd (nothing (nat_lt place first) view e)

-- there is none of a place behind all of them
pub unseen : (place : ℕ) (views : Window) → AreBefore place views → view_at views place ≡ None
unseen place views before = by (nat_lt place views.first) where
  by : (b : Bool) → cond b None (slice_get views.views (place - views.first)) ≡ None
  by true = refl
  by false = slice_get_past views.views (place - views.first) (omega (arith, before))

-- the last of a list, or one before it
last_or_before : {X : Type 0} (xs : List X) (x y : X) (k : ℕ) → slice_get (xs ++ x ∷ []) k ≡ Some y → (slice_get xs k ≡ Some y) ⊎ ((k ≡ length xs) × (x ≡ y))
last_or_before [] x y zero e = inr (refl, same_Some x y e)
last_or_before [] x y (suc k) e = absurd (none-some y e)
last_or_before (z ∷ zs) x y zero e = inl e
last_or_before (z ∷ zs) x y (suc k) e = by (last_or_before zs x y k e) where
  by : (slice_get zs k ≡ Some y) ⊎ ((k ≡ length zs) × (x ≡ y)) → (slice_get zs k ≡ Some y) ⊎ ((suc k ≡ suc (length zs)) × (x ≡ y))
  by (inl before) = inl before
  by (inr last) = inr (ap suc last.0, last.1)

module _ (image : Loaded) (opening : Shared) (history : History) (views : Window) (are : AreViews image opening history views) where
  -- one more, of the next place
  pub views_more : (place : ℕ) (view : Viewed) → views.first + length views.views ≡ place → place < length history → IsView image opening (take place history) view
      → AreViews image opening history (record { first = views.first; views = views.views ++ view ∷ [] })
  views_more place view next within is = λ at seen e. by at seen (nat_lt at views.first) refl e where
    among : (at : ℕ) (seen : Viewed) → views.first ≤ at → nat_lt at views.first ≡ false
        → (slice_get views.views (at - views.first) ≡ Some seen) ⊎ ((at - views.first ≡ length views.views) × (view ≡ seen))
        → (at < length history) × IsView image opening (take at history) seen
    among at seen from past (inl before) =
        are at seen (ap (λ (b : Bool). cond b None (slice_get views.views (at - views.first))) past ∙ before)
    among at seen from past (inr last) =
        let here : place ≡ at = omega (arith, next, from, last.0) in
        let P : ℕ → Type 0 = λ n. (n < length history) × IsView image opening (take n history) seen in
        let Q : Viewed → Type 0 = λ v. IsView image opening (take place history) v in
        subst P here (within, subst Q last.1 is)

    by : (at : ℕ) (seen : Viewed) (b : Bool) → nat_lt at views.first ≡ b → cond b None (slice_get (views.views ++ view ∷ []) (at - views.first)) ≡ Some seen
        → (at < length history) × IsView image opening (take at history) seen
    by at seen true past e = absurd (none-some seen e)
    by at seen false past e = among at seen (ltb-false at views.first past) past (last_or_before views.views view seen (at - views.first) e)

  -- there is none of the history's end
  pub not_at_end : (place : ℕ) → place ≡ length history → view_at views place ≡ None
  not_at_end place end = by (view_at views place) refl where
    by : (view : Option Viewed) → view_at views place ≡ view → view ≡ None
    by None here = refl
    by (Some view) here = absurd (let within = (are place view here).0 in omega (arith, within, end))

-- a view was put to the others where the run has come to
pub kept_view : (image image' : Loaded) (opening : Shared) (history : History) (old new : Replayed) (before after : Window) (place : ℕ) (kept : Bool)
    → image' ≡ image → IsReplica image opening history old → old.made ≡ place → ((h : History) → IsReplica image' opening h old → IsReplica image' opening h new)
    → new.made ≡ old.made → IsFull opening new → AreViews image opening history before → before.first + length before.views ≡ place → place < length history
    → IsPutOrGone (view_of opening new) before kept after → kept ≡ true
    → AreViews image opening history after × (after.first + length after.views ≡ place + 1)
kept_view image image' opening history old new before after place kept same is at fill made full are next within keeps on =
    let R : Loaded → Type 0 = λ i. IsReplica i opening history old in
    let S : Loaded → Type 0 = λ i. IsReplica i opening history new in
    let filled : IsReplica image opening history new = subst S same (fill history (subst R (sym same) is)) in
    let shows : IsView image opening (take place history) (view_of opening new) = is_view image opening history new filled full place (made ∙ at) in
    let K : Bool → Type 0 = λ b. IsPutOrGone (view_of opening new) before b after in
    let more : Window = record { first = before.first; views = before.views ++ view_of opening new ∷ [] } in
    let now : after ≡ more = subst K on keeps in
    let P : Window → Type 0 = λ w. AreViews image opening history w × (w.first + length w.views ≡ place + 1) in
    let long = length-append before.views (view_of opening new ∷ []) in
    let behind : before.first + length (before.views ++ view_of opening new ∷ []) ≡ place + 1 = omega (arith, next, long) in
    subst P (sym now) (views_more image opening history before are place (view_of opening new) next within shows, behind)
