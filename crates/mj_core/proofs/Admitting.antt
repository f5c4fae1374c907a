-- Each row gets a slot.
use Rattle.std.specs.Prelude.{not, IfSome, IfNone, if◌then◌else◌}
use Rattle.std.specs.Option.{is_some}
use Rattle.std.specs.Str.{bytes_eq}
use Rattle.std.proofs.Common.{◌≡◌, ℕ, ◌+◌, ◌<◌, List, [], ◌∷◌, ◌++◌, Bool, true, false, Option, Some, None, refl, sym, ap, ◌∙◌, subst, length, arith, inl}
use Rattle.mj_ask.specs.declared.entry.Entry.{Entry}
use Rattle.mj_semantics.specs.Job.{Start}
use Rattle.mj_load.specs.Image.{Loaded}
use Rattle.mj_dev.specs.Heard.{Heard}
use Rattle.mj_dev.specs.Shelves.{principal}
use Rattle.mj_jobs.specs.Rows.{Row, row_at}
use Rattle.mj_jobvm.specs.Run.{Log}
use Rattle.mj_jobvm.specs.Jobs.{Running, IsRunOf, IsRunOfAfter}
use Rattle.mj_sys.specs.Shared.{Shared}
use Rattle.mj_sys.specs.History.{state_of, log_of}
use Rattle.mj_sys.specs.System.{Recorded, Claimed}
use Rattle.mj_core.specs.declared.happened.Happened.{Happened}
use Rattle.mj_core.specs.Woven.{woven}
use Rattle.mj_core.specs.Runs.{start_in}
use Rattle.mj_core.specs.Answering.{Answering, HasAll}
use Rattle.mj_core.specs.Ties.{Placed, stand_of}
use Rattle.mj_core.specs.Kept.{AreKept, claim_of, logs_of, turns_of, stands_of}
use Rattle.mj_core.proofs.Keeping.{keeps_claim, tied_first, keeps_slot, shows_slot}
use Rattle.mj_core.proofs.Giving.{each_more}
use Rattle.mj_core.proofs.Stepping.{stands_nowhere}

-- where none waited, one waits now, or all were claimed
pub claims : {A : Type 0} (ans : Answering A) (image : Loaded) (opening : Shared) (old new : Recorded) (slots : List (Placed A)) (order : List Happened)
    (waiting claim : Option (Claimed × Heard)) (test : Bool)
    → is_some waiting ≡ not test → test ≡ true → AreKept ans image opening old slots (claim_of waiting) order → new.history ≡ old.history
    → IfSome claim (λ c. (c.0.job ≡ old.claimed + 1) × (new.claimed ≡ old.claimed + 1))
    → IfSome claim (λ c. (row : Row) × (row_at (state_of opening old.history).rows c.0.job ≡ Some row) × (row.start ≡ c.0.start))
    → IfSome claim (λ c. (c.0.events ≡ 0) × (log_of c.0.job old.history ≡ []))
    → IfNone claim ((new ≡ old) × (old.claimed ≡ length (state_of opening old.history).rows))
    → AreKept ans image opening new slots (claim_of claim) order
claims ans image opening old new slots order (Some w) claim test of is kept same some start fresh none = absurd (let no : true ≡ false = of ∙ ap not is in cc)
claims ans image opening old new slots order None None test of is kept same some start fresh none =
    let P : Recorded → Type 0 = λ r. AreKept ans image opening r slots None order in
    subst P (sym none.0) kept
claims ans image opening old new slots order None (Some w) test of is kept same some start fresh none =
    keeps_claim ans image opening old new slots order w.0 kept same some.1 some.0 fresh.0 start

-- where none waits, and there is a row without a slot, not all were claimed
pub not_all : {A : Type 0} (ans : Answering A) (image : Loaded) (opening : Shared) (old : Recorded) (slots : List (Placed A)) (order : List Happened)
    (waiting : Option (Claimed × Heard)) (test : Bool) → is_some waiting ≡ not test → test ≡ true → AreKept ans image opening old slots (claim_of waiting) order
    → length slots < length (state_of opening old.history).rows → old.claimed ≡ length (state_of opening old.history).rows → ⊥
not_all ans image opening old slots order (Some w) test of is kept less all = absurd (let no : true ≡ false = of ∙ ap not is in cc)
not_all ans image opening old slots order None test of is kept less all = let n = kept.claimed in omega (arith, n, less, all)

-- ---- the row that waits gets its slot

-- which claim it is
pub same_claim : (waiting : Option (Claimed × Heard)) (claim claim' : Claimed) (session session' : Heard) → waiting ≡ Some (claim, session) → waiting ≡ Some (claim', session')
    → claim ≡ claim'
same_claim waiting claim claim' session session' p q =
    let A : Type 0 = Claimed × Heard in
    let same : ◌≡◌ {A = Option A} (Some (claim, session)) (Some (claim', session')) = sym p ∙ q in
    let pair : ◌≡◌ {A = A} (claim, session) (claim', session') = cc in
    ap (λ (w : A). w.0) pair

-- what it has behind its principal session
pub first_has : (b : Bool) → (if b then true else false) ≡ b
first_has true = refl
first_has false = refl

module _ {A : Type 0} (ans : Answering A) (image : Loaded) (opening : Shared) (system : Recorded) (slots : List (Placed A)) (order : List Happened) (waiting : Option (Claimed × Heard))
    (kept : AreKept ans image opening system slots (claim_of waiting) order) (claim : Claimed) (session : Heard) (is : waiting ≡ Some (claim, session))
    (number : ℕ) (entry : Entry) (values : List (Option (List ℕ))) (numbered : number ≡ claim.job) (at : entry ≡ claim.start.entry) (with : values ≡ claim.start.values)
    (job : Running) (first : job.run.log ≡ []) (rests : job.run.spent ≡ 0) (idle : job.run.pending ≡ None)
    (run : IsRunOfAfter image (record { job = number; entry = entry; values = values }) 0 job)
    (x : A) (told : ans.IsOf x []) (held : HasAll ans x (bytes_eq principal))
    (more : List (Placed A)) (end : more ≡ slots ++ record { claim = claim; job = job; answerer = x; at_ask = false } ∷ []) where
  abbrev slot : Placed A
  slot = record { claim = claim; job = job; answerer = x; at_ask = false }

  kept_so : AreKept ans image opening system slots (Some claim) order
  kept_so =
      let P : Option (Claimed × Heard) → Type 0 = λ w. AreKept ans image opening system slots (claim_of w) order in
      subst P is kept

  runs : IsRunOf image (start_in claim.job claim.start) job
  runs =
      let of : ℕ → Entry → List (Option (List ℕ)) → Start = λ n e v. record { job = n; entry = e; values = v } in
      let same : of number entry values ≡ start_in claim.job claim.start = ap (λ n. of n entry values) numbered ∙ ap (λ e. of claim.job e values) at ∙ ap (of claim.job claim.start.entry) with in
      let P : Start → Type 0 = λ s. IsRunOfAfter image s 0 job in
      (0, subst P same run)

  told_so : ans.IsOf x job.run.log
  told_so = let P : Log → Type 0 = λ l. ans.IsOf x l in subst P (sym first) told

  pub slot_kept : (left : Option (Claimed × Heard)) → left ≡ None → AreKept ans image opening system more (claim_of left) order
  slot_kept left none =
      let P : List (Placed A) → Type 0 = λ l. AreKept ans image opening system l None order in
      let Q : Option (Claimed × Heard) → Type 0 = λ w. AreKept ans image opening system more (claim_of w) order in
      subst Q (sym none) (subst P (sym end) (keeps_slot ans image opening system slots claim order kept_so slot refl first
      (tied_first ans image opening system slots claim order kept_so job x runs first told_so) (inl (refl, idle)) held))

  pub slot_woven : woven (logs_of more) order ≡ woven (logs_of slots) order
  slot_woven =
      ap (λ l. woven (logs_of l) order) end
      ∙ shows_slot ans image opening system slots claim order kept_so slot refl first (tied_first ans image opening system slots claim order kept_so job x runs first told_so) (inl (refl, idle)) held

  pub slot_turns : (n : ℕ) → turns_of n more ≡ turns_of n slots
  slot_turns n = ap (turns_of n) end ∙ each_more 0 (λ (s : Placed A). s.job.run.spent) n slots slot rests

  pub slot_stands : (n : ℕ) → stands_of n more ≡ stands_of n slots
  slot_stands n = ap (stands_of n) end ∙ each_more None (λ (s : Placed A). stand_of s) n slots slot (stands_nowhere job.run.pending job.run.at.state idle)

-- ---- one row after the other

-- what stands while rows get their slots: nothing that is seen changes, and there are as many slots as were counted
pub record AreAdmitted {A : Type 0} (ans : Answering A) (image : Loaded) (opening : Shared) (order : List Happened) (at : ℕ) (system : Recorded) (slots : List (Placed A))
    (system' : Recorded) (slots' : List (Placed A)) (waiting : Option (Claimed × Heard)) (counter end : ℕ) : Type 0 where
  pub kept : AreKept ans image opening system' slots' (claim_of waiting) order
  pub history : system'.history ≡ system.history
  pub woven : woven (logs_of slots') order ≡ woven (logs_of slots) order
  pub turns : (n : ℕ) → turns_of n slots' ≡ turns_of n slots
  pub stands : (n : ℕ) → stands_of n slots' ≡ stands_of n slots
  pub counted : counter ≡ length slots'
  pub ends : end ≡ at + 1
