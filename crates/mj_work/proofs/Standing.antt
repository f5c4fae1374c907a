-- A job that a worker runs, as it goes on and stops.
use Rattle.std.specs.Prelude.{◌||◌, IfOk, IfErr, OnErr}
use Rattle.std.specs.List.{list_any}
use Rattle.std.proofs.Common.{◌≡◌, inl, inr, ℕ, List, [], ◌∷◌, ◌++◌, Bool, true, false, Option, Some, Result, Ok, Err, refl, sym, ap, ◌∙◌, subst}
use Rattle.mj_text.specs.declared.limit.Limit.TheVariants.{V2}
use Rattle.mj_ask.specs.declared.ask.Ask.{Ask}
use Rattle.mj_ask.specs.declared.ask.Reply.{Reply}
use Rattle.mj_ask.specs.declared.entry.Entry.{Entry}
use Rattle.mj_semantics.specs.Program.{Program}
use Rattle.mj_semantics.specs.Job.{Start}
use Rattle.mj_load.specs.Image.{Loaded, program_of}
use Rattle.mj_jobvm.specs.Run.{Log, begins}
use Rattle.mj_jobvm.specs.Jobs.{Running, IsRunOf, IsRunOfAfter}
use Rattle.mj_sys.specs.Shared.{Shared}
use Rattle.mj_sys.specs.System.{Claimed}
use Rattle.mj_core.specs.Answering.{Answering}
use Rattle.mj_core.specs.Gives.{Makes}
use Rattle.mj_core.specs.Runs.{start_in}
use Rattle.mj_core.specs.Ties.{shared_in}
use Rattle.mj_gather.specs.declared.ran.Stop.{Stop}
use Rattle.mj_gather.specs.declared.ran.Stop.TheVariants as stops
use Rattle.mj_gather.specs.Rans.{Kept, is_halt, EndsAtHalt, StopsAt, IsRan, ArePlacesIn}
use Rattle.mj_work.specs.Working.{is_cut, was_cut, has_halted, MayStop, IsAskRefused, IsAnswered, IsAt, StopsRefused}
use Rattle.mj_core.proofs.Owning.{own_same}
use Rattle.mj_gather.proofs.Gathered.{no_talks}

-- ---- halts

or_none : (b : Bool) → (b || false) ≡ b
or_none true = refl
or_none false = refl

or_more : (a b c : Bool) → (a || (b || c)) ≡ ((a || b) || c)
or_more true b c = refl
or_more false b c = refl

any_more : {X : Type 0} (p : X → Bool) (xs : List X) (x : X) → list_any p (xs ++ x ∷ []) ≡ (list_any p xs || p x)
any_more p [] x = or_none (p x)
any_more p (y ∷ xs) x = ap (λ b. p y || b) (any_more p xs x) ∙ or_more (p y) (list_any p xs) (p x)

-- an entry behind which nothing stands yet
ends_more : (log : Log) (e : Ask × Reply) → has_halted log ≡ false → EndsAtHalt (log ++ e ∷ [])
ends_more [] e free = ((λ is. refl), tt)
ends_more (f ∷ log) e free = by (is_halt f.0) refl free (ends_more log e) where
  by : (b : Bool) → is_halt f.0 ≡ b → (b || has_halted log) ≡ false → (has_halted log ≡ false → EndsAtHalt (log ++ e ∷ [])) → EndsAtHalt ((f ∷ log) ++ e ∷ [])
  by true is free rest = absurd (let never : true ≡ false = free in cc)
  by false is free rest = ((λ halts. absurd (let never : true ≡ false = sym halts ∙ is in cc)), rest free)

-- a job that asks stands where it may stop
module _ {A : Type 0} (ans : Answering A) (opening : Shared) (claim : Claimed) (job : Running) (x x' : A) (program : Program) (start : Start) (log : Log) (a : Ask) where
  stops_at : (stop : Stop) → MayStop ans opening a claim job x stop x' → Makes program start log a → StopsAt program start log stop
  stops_at stops.Ended may makes = absurd may
  stops_at stops.Full may makes = (a, makes, may)
  stops_at stops.Memory may makes = tt
  stops_at stops.Refused may makes = (a, makes)

-- ---- a job that goes on

module _ {A : Type 0} (ans : Answering A) (image : Loaded) (claim : Claimed) (job : Running) (x : A) where
  -- by itself: it asks nothing, and is told nothing
  pub goes_at : (halted : Bool) (job' : Running) → IsAt ans image claim halted job x → ((start : Start) → IsRunOf image start job → IsRunOf image start job')
      → job'.run.log ≡ job.run.log → IsAt ans image claim halted job' x
  goes_at halted job' at run log = record {
    own = record {
      run = run (start_in claim.job claim.start) at.own.run;
      told = subst (λ (l : Log). ans.IsOf x l) (sym log) at.own.told;
      shared = at.own.shared ∙ ap shared_in (sym log);
      long = at.own.long;
    };
    ends = subst (λ (l : Log). EndsAtHalt l) (sym log) at.ends;
    told = ap has_halted log ∙ at.told;
  }

  module _ (opening : Shared) (claim' : Claimed) (job' : Running) (x' : A) (a : Ask) where
    -- by a reply to what it asks
    told_at : (halts : Bool) → IsAt ans image claim false job x → IsAnswered {R = Bool} ans opening a claim job x (Ok halts) claim' job' x' → halts ≡ is_halt a
        → IsAt ans image claim' halts job' x'
    told_at halts at so halt =
        let log : job'.run.log ≡ job.run.log ++ (a, so.0.0) ∷ [] = so.0.1 in
        record {
          own = so.1 image at.own;
          ends = subst (λ (l : Log). EndsAtHalt l) (sym log) (ends_more job.run.log (a, so.0.0) at.told);
          told = ap has_halted log ∙ (any_more (λ (e : Ask × Reply). is_halt e.0) job.run.log (a, so.0.0) ∙ (ap (λ b. b || is_halt a) at.told ∙ sym halt));
        }

    -- or not: it stops
    left_at : (stop : Stop) → Makes (program_of image) (start_in claim.job claim.start) job.run.log a → IsAt ans image claim false job x
        → IsAnswered {R = Bool} ans opening a claim job x (Err stop) claim' job' x' → IsRan image claim' job'.run.log stop
    left_at stop makes at so =
        let own = own_same ans image claim job x at.own job' x' so.2 so.3 in
        let log : job'.run.log ≡ job.run.log = ap (λ (j : Running). j.run.log) so.2 in
        let S : Log → Type 0 = λ l. StopsAt (program_of image) (start_in claim.job claim.start) l stop in
        let R : Claimed → Type 0 = λ k. IsRan image k job'.run.log stop in
        subst R (sym so.1) (record {
          trace = own.run.1.trace;
          talks = ans.talks x' job'.run.log own.told;
          counted = own.shared;
          ends = subst (λ (l : Log). EndsAtHalt l) (sym log) at.ends;
          stands = subst S (sym log) (stops_at ans opening claim job x x' (program_of image) (start_in claim.job claim.start) job.run.log a stop so.0 makes);
        })

    -- with the places that it had
    left_places : (stop : Stop) → IsAt ans image claim false job x → IsAnswered {R = Bool} ans opening a claim job x (Err stop) claim' job' x'
        → ArePlacesIn image claim' job'.run.log job'.run.places
    left_places stop at so =
        let J : Running → Type 0 = λ j. ArePlacesIn image claim j.run.log j.run.places in
        let R : Claimed → Type 0 = λ k. ArePlacesIn image k job'.run.log job'.run.places in
        subst R (sym so.1) (subst J (sym so.2) at.own.run.1.placed)

    -- where it is refused, for its reason
    refused_at : (stop : Stop) → job.run.pending ≡ Some a → IsAt ans image claim false job x → IsAnswered {R = Bool} ans opening a claim job x (Err stop) claim' job' x'
        → stop ≡ stops.Refused → StopsRefused ans opening image claim' job' x'
    refused_at stop asks at so is =
        let M : Stop → Type 0 = λ s. MayStop ans opening a claim job x s x' in
        let why : IsAskRefused ans opening a claim job x x' = subst M is so.0 in
        let J : Running → Type 0 = λ j. StopsRefused ans opening image claim j x' in
        let R : Claimed → Type 0 = λ k. StopsRefused ans opening image k job' x' in
        subst R (sym so.1) (subst J (sym so.2) (record { asked = a; pends = asks; before = x; own = at.own; stays = so.3; why = inr why }))

    -- whichever it is
    pub answered_at : (told : Result Bool Stop) → IsAt ans image claim false job x → IsAnswered ans opening a claim job x told claim' job' x' → IfOk told (λ halts. halts ≡ is_halt a)
        → IfOk told (λ halts. IsAt ans image claim' halts job' x')
    answered_at (Ok halts) at answered halt = told_at halts at answered halt
    answered_at (Err stop) at answered halt = halt

    pub answered_ran : (told : Result Bool Stop) → Makes (program_of image) (start_in claim.job claim.start) job.run.log a → IsAt ans image claim false job x
        → IsAnswered ans opening a claim job x told claim' job' x' → IfErr told (λ stop. IsRan image claim' job'.run.log stop)
    answered_ran (Ok halts) makes at answered = tt
    answered_ran (Err stop) makes at answered = left_at stop makes at answered

    pub answered_places : (told : Result Bool Stop) → IsAt ans image claim false job x → IsAnswered ans opening a claim job x told claim' job' x'
        → OnErr told (ArePlacesIn image claim' job'.run.log job'.run.places)
    answered_places (Ok halts) at answered = tt
    answered_places (Err stop) at answered = left_places stop at answered

    pub answered_why : (told : Result Bool Stop) → job.run.pending ≡ Some a → IsAt ans image claim false job x → IsAnswered ans opening a claim job x told claim' job' x'
        → IfErr told (λ stop. stop ≡ stops.Refused → StopsRefused ans opening image claim' job' x')
    answered_why (Ok halts) asks at answered = tt
    answered_why (Err stop) asks at answered = refused_at stop asks at answered

  -- it asks behind its halt
  pub halted_why : (opening : Shared) (a : Ask) (halted : Bool) → halted ≡ true → job.run.pending ≡ Some a → IsAt ans image claim halted job x
      → StopsRefused ans opening image claim job x
  halted_why opening a halted is asks at = record {
    asked = a;
    pends = asks;
    before = x;
    own = at.own;
    stays = ((λ log of. of), λ name has held. held);
    why = inl (at.told ∙ is);
  }

  -- where what it asked came from
  pub placed_at : (halted : Bool) → IsAt ans image claim halted job x → ArePlacesIn image claim job.run.log job.run.places
  placed_at halted at = at.own.run.1.placed

  -- it stops
  pub ran_at : (halted : Bool) (stop : Stop) → IsAt ans image claim halted job x → StopsAt (program_of image) (start_in claim.job claim.start) job.run.log stop
      → IsRan image claim job.run.log stop
  ran_at halted stop at stands = record {
    trace = at.own.run.1.trace;
    talks = ans.talks x job.run.log at.own.told;
    counted = at.own.shared;
    ends = at.ends;
    stands = stands;
  }

-- ---- a job that begins

module _ {A : Type 0} (ans : Answering A) (image : Loaded) (claim : Claimed) (none : claim.events ≡ 0) (long : image.bounds.limit ≡ V2) where
  pub begins_at : (number : ℕ) (entry : Entry) (values : List (Option (List ℕ))) (job : Running) (x : A) → number ≡ claim.job → entry ≡ claim.start.entry
      → values ≡ claim.start.values → IsRunOfAfter image (record { job = number; entry = entry; values = values }) 0 job → job.run.log ≡ [] → ans.IsOf x []
      → IsAt ans image claim false job x
  begins_at number entry values job x n e v run log of =
      let start : record { job = number; entry = entry; values = values } ≡ start_in claim.job claim.start =
      ap (λ i. record { job = i; entry = entry; values = values }) n ∙ (ap (λ i. record { job = claim.job; entry = i; values = values }) e
      ∙ ap (λ i. record { job = claim.job; entry = claim.start.entry; values = i }) v) in
      record {
        own = record {
          run = (0, subst (λ (s : Start). IsRunOfAfter image s 0 job) start run);
          told = subst (λ (l : Log). ans.IsOf x l) (sym log) of;
          shared = none ∙ sym (ap shared_in log);
          long = long;
        };
        ends = subst (λ (l : Log). EndsAtHalt l) (sym log) tt;
        told = ap has_halted log;
      }

-- one that didn't begin for want of memory
pub not_begun : (image : Loaded) (claim : Claimed) → claim.events ≡ 0 → IsRan image claim [] stops.Memory
not_begun image claim none = record {
  trace = begins;
  talks = no_talks;
  counted = none;
  ends = tt;
  stands = tt;
}

pub none_placed : (image : Loaded) (claim : Claimed) → ArePlacesIn image claim [] []
none_placed image claim = tt

-- ---- jobs that stopped

pub cut_on : (rans rans' : List Kept) (r : Kept) (old new cut : Bool) → rans' ≡ rans ++ r ∷ [] → old ≡ was_cut rans → cut ≡ is_cut r.stop → new ≡ (old || cut)
    → new ≡ was_cut rans'
cut_on rans rans' r old new cut is had c n =
    n ∙ (ap (λ b. b || cut) had ∙ (ap (λ b. was_cut rans || b) c ∙ (sym (any_more (λ (x : Kept). is_cut x.stop) rans r) ∙ ap was_cut (sym is))))
