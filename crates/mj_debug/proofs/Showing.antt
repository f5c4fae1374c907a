-- What a debugger shows of a place, and what it keeps.
use Rattle.std.specs.Prelude.{◌||◌, ◌==◌, take, is_some, IfNone, IfSome}
use Rattle.std.specs.Option.{option_map}
use Rattle.std.proofs.Common.{◌≡◌, ℕ, ◌-◌, ◌≤◌, List, length, map, true, false, Option, Some, None, refl, sym, ap, ◌∙◌, subst, arith, length-append, eq-eqb}
use Rattle.std.proofs.lemmas.Bool.{eqb-true}
use Rattle.std.proofs.lemmas.List.{take-append-le}
use Rattle.std.proofs.lemmas.Option.{none-some, same_Some}
use Rattle.mj_semantics.specs.State.{Frame, Locals, Place}
use Rattle.mj_store.specs.Questions.{Content}
use Rattle.mj_load.specs.Image.{Loaded, program_of}
use Rattle.mj_jobs.specs.Rows.{row_at}
use Rattle.mj_core.specs.Shown.{Shown}
use Rattle.mj_sys.specs.Shared.{Shared}
use Rattle.mj_sys.specs.History.{History, state_of}
use Rattle.mj_views.specs.Views.{JobView, Viewed, Window, job_in, view_at, frames_seen, locals_seen}
use Rattle.mj_sys.specs.System.{history_limit}
use Rattle.mj_replica.specs.Replicas.{Keeping, BeginsRun, Replayed, IsReplica, IsFull}
use Rattle.mj_replica.specs.Shows.{HasStood}
use Rattle.mj_replica.specs.Views.{view_of, IsView, AreViews}
use Rattle.mj_replica.proofs.Viewing.{is_view}
use Rattle.mj_debug.specs.Walks.{is_ready}
use Rattle.mj_debug.proofs.Growing.{Grows}

-- ---- what is shown of a job

module _ (image : Loaded) (opening : Shared) (front : History) (view : Viewed) (is : IsView image opening front view) (job : ℕ) where
  abbrev NoRow : Type 0
  NoRow = row_at (state_of opening front).rows job ≡ None

  no_frames : (stand : Option JobView) → None ≡ frames_seen stand → stand ≡ None
  no_frames None e = refl
  no_frames (Some stand) e = absurd (none-some stand.frames e)

  no_locals : (stand : Option JobView) → None ≡ locals_seen stand → stand ≡ None
  no_locals None e = refl
  no_locals (Some stand) e = absurd (none-some stand.locals e)

  pub frames_none : {B : Type 0} (f : B → List Frame) (shown : Option B) → option_map f shown ≡ frames_seen (job_in view job) → IfNone shown NoRow
  frames_none f None e = is.none job (no_frames (job_in view job) e)
  frames_none f (Some x) e = tt

  pub locals_none : {B : Type 0} (f : B → Content) (shown : Option B) → option_map f shown ≡ locals_seen (job_in view job) → IfNone shown NoRow
  locals_none f None e = is.none job (no_locals (job_in view job) e)
  locals_none f (Some x) e = tt

  pub frames_some : {B : Type 0} (f : B → List Frame) (shown : Option B) → option_map f shown ≡ frames_seen (job_in view job)
      → IfSome shown (λ x. (locals : Locals) × HasStood (program_of image) opening front job locals (map (λ (f : Frame). f.place) (f x)))
  frames_some f None e = tt
  frames_some f (Some x) e = by (job_in view job) refl e where
    by : (stand : Option JobView) → job_in view job ≡ stand → Some (f x) ≡ frames_seen stand
        → (locals : Locals) × HasStood (program_of image) opening front job locals (map (λ (f : Frame). f.place) (f x))
    by None here e = absurd (none-some (f x) (sym e))
    by (Some stand) here e =
        let P : List Frame → Type 0 = λ frames. HasStood (program_of image) opening front job stand.locals (map (λ (f : Frame). f.place) frames) in
        (stand.locals, subst P (sym (same_Some (f x) stand.frames e)) (is.some job stand here))

  pub locals_some : {B : Type 0} (f : B → Content) (shown : Option B) → option_map f shown ≡ locals_seen (job_in view job)
      → IfSome shown (λ x. (places : List Place) × HasStood (program_of image) opening front job (f x) places)
  locals_some f None e = tt
  locals_some f (Some x) e = by (job_in view job) refl e where
    by : (stand : Option JobView) → job_in view job ≡ stand → Some (f x) ≡ locals_seen stand
        → (places : List Place) × HasStood (program_of image) opening front job (f x) places
    by None here e = absurd (none-some (f x) (sym e))
    by (Some stand) here e =
        let P : Locals → Type 0 = λ locals. HasStood (program_of image) opening front job locals (map (λ (f : Frame). f.place) stand.frames) in
        (map (λ (f : Frame). f.place) stand.frames, subst P (sym (same_Some (f x) stand.locals e)) (is.some job stand here))

-- ---- what is kept while the record grows

-- where the record grows, they are views of it still
pub views_on : (opening : Shared) (old new : Shown) (views : Window) → Grows old new → AreViews old.image opening old.history views → AreViews new.image opening new.history views
views_on opening old new views grows are = λ place view here. (
    let is = are place view here in
    let within = is.0 in
    let long = length-append old.history grows.more in
    let same_long = ap (λ (h : History). length h) grows.history in
    let fronts : take place new.history ≡ take place old.history =
    ap (λ (h : History). take place h) grows.history ∙ take-append-le place old.history grows.more (omega (arith, within)) in
    let P : History → Type 0 = λ h. IsView old.image opening h view in
    let Q : Loaded → Type 0 = λ i. IsView i opening (take place new.history) view in
    (omega (arith, within, long, same_long), subst Q (sym grows.image) (subst P (sym fronts) is.1)))

run_on : (opening : Shared) (old new : Shown) (replica : Option Replayed) → ((r : Replayed) → IsReplica old.image opening old.history r → IsReplica new.image opening new.history r)
    → IfSome replica (λ r. IsReplica old.image opening old.history r × IsFull opening r) → IfSome replica (λ r. IsReplica new.image opening new.history r × IsFull opening r)
run_on opening old new None on is = tt
run_on opening old new (Some r) on is = (on r is.0, is.1)

-- where its jobs go on
pub keeps_on : (opening : Shared) (kept : Keeping) (place place' : ℕ) (old new : Shown) (replica : Option Replayed) (views : Window)
    → place' ≤ length new.history → length new.history ≤ history_limit
    → ((r : Replayed) → IsReplica old.image opening old.history r → IsReplica new.image opening new.history r)
    → ((w : Window) → AreViews old.image opening old.history w → AreViews new.image opening new.history w)
    → BeginsRun opening kept × (place ≤ length old.history) × (length old.history ≤ history_limit)
    × IfSome replica (λ r. IsReplica old.image opening old.history r × IsFull opening r) × AreViews old.image opening old.history views
    → BeginsRun opening kept × (place' ≤ length new.history) × (length new.history ≤ history_limit)
    × IfSome replica (λ r. IsReplica new.image opening new.history r × IsFull opening r) × AreViews new.image opening new.history views
keeps_on opening kept place place' old new replica views within short on still is = (is.0, within, short, run_on opening old new replica on is.3, still views is.4)

-- ---- what is at hand

pub ready_at : (place : ℕ) (views : Window) (replica : Replayed) → view_at views place ≡ None → is_ready place views (Some replica) ≡ true → replica.made ≡ place
ready_at place views replica none ready =
    eqb-true replica.made place (sym (ap (λ (v : Option Viewed). is_some v || (replica.made == place)) none) ∙ ready)

pub not_ready : (place : ℕ) (views : Window) → view_at views place ≡ None → is_ready place views None ≡ false
not_ready place views none = ap (λ (v : Option Viewed). is_some v || false) none

pub ready_seen : (place : ℕ) (views : Window) (replica : Option Replayed) (view : Viewed) → view_at views place ≡ Some view → is_ready place views replica ≡ true
ready_seen place views replica view here = by (view_at views place) here where
  by : (v : Option Viewed) → v ≡ Some view → (is_some v || elim replica [ None ↦ false | Some r ↦ (r.made == place) ]) ≡ true
  by None e = absurd (none-some view e)
  by (Some v) e = refl

pub ready_played : (place : ℕ) (views : Window) (replica : Replayed) → replica.made ≡ place → is_ready place views (Some replica) ≡ true
ready_played place views replica at = by (view_at views place) where
  by : (v : Option Viewed) → (is_some v || (replica.made == place)) ≡ true
  by None = eq-eqb replica.made place at
  by (Some v) = refl

-- the run that is at hand shows the place, where no view does
pub run_shows : (image : Loaded) (opening : Shared) (history : History) (place : ℕ) (views : Window) (replica : Option Replayed) (run : Replayed)
    → IfSome replica (λ r. IsReplica image opening history r × IsFull opening r) → replica ≡ Some run → view_at views place ≡ None → is_ready place views replica ≡ true
    → IsView image opening (take place history) (view_of opening run)
run_shows image opening history place views replica run are here none ready =
    let P : Option Replayed → Type 0 = λ o. IfSome o (λ r. IsReplica image opening history r × IsFull opening r) in
    let R : Option Replayed → Type 0 = λ o. is_ready place views o ≡ true in
    let is : IsReplica image opening history run × IsFull opening run = subst P here are in
    is_view image opening history run is.0 is.1 place (ready_at place views run none (subst R here ready))

pub no_run : (place : ℕ) (views : Window) (replica : Option Replayed) → view_at views place ≡ None → is_ready place views replica ≡ true → replica ≡ None → ⊥
no_run place views replica none ready missing =
    let R : Option Replayed → Type 0 = λ o. is_ready place views o ≡ true in
    let no : false ≡ true = sym (not_ready place views none) ∙ subst R missing ready in
    cc
