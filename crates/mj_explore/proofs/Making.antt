-- Runs, one after the other.
use Rattle.std.specs.Prelude.{All, IfSome, OnSome, nat_lt, min, cond, if◌then◌else◌}
use Rattle.std.specs.List.{count_by}
use Rattle.std.specs.Str.{bytes_eq}
use Rattle.std.proofs.Common.{◌≡◌, ℕ, ◌+◌, ◌-◌, ◌^◌, ◌≤◌, List, [], ◌∷◌, ◌++◌, Option, Some, None, Bool, true, false, length, refl, sym, ap, ◌∙◌, subst, arith}
use Rattle.std.proofs.lemmas.List.{length-append, map-append}
use Rattle.std.proofs.lemmas.List.Sums.{count_by-le-length, sum_by_push}
use Rattle.std.proofs.lemmas.List.Elements.{All-push}
use Rattle.mj_sys.specs.Shared.{Shared}
use Rattle.mj_script.specs.Scripts.{Scripted}
use Rattle.mj_explore.specs.Ends.{IsNoted, end_text, noted, different, often, once_more, texts_of}
use Rattle.mj_load.specs.Image.{Loaded, program_of}
use Rattle.mj_steps.specs.declared.step.Step.{Step}
use Rattle.mj_steps.specs.declared.drive.Ending.{Ending}
use Rattle.mj_steps.specs.declared.drive.Ending.TheVariants as endings
use Rattle.mj_steps.specs.Driven.{ByList}
use Rattle.mj_core.specs.Shown.{Shown, begun}
use Rattle.mj_run.specs.Stepping.{StepsAs}
use Rattle.mj_explore.specs.declared.goals.Goal.{Goal}
use Rattle.mj_script.specs.Scripts.{IsImageOf}
use Rattle.mj_judge.specs.declared.marks.Mark.TheVariants as marks
use Rattle.mj_explore.specs.declared.fates.Fate.{Fate}
use Rattle.mj_explore.specs.declared.goals.Finding.{Finding}
use Rattle.mj_judge.specs.declared.conditions.Verdict.{Verdict}
use Rattle.mj_explore.specs.declared.ends.End.{End}
use Rattle.mj_explore.specs.declared.exploring.Tally.{Tally}
use Rattle.mj_judge.specs.Marks.{bears}
use Rattle.mj_explore.specs.Found.{Ran, IsRan, IsCome, IsFateOf, AreTallied, ends_in, has_faulted, is_fate_stuck, is_fate_stopped, WereMade, AreMade}
use Rattle.mj_judge.specs.Endings.{is_for_memory}
use Rattle.mj_judge.specs.Judged.{by_memory}
use Rattle.mj_explore.specs.Found.{IsShownFor, IsFoundFor, found_verdict}
use Rattle.mj_explore.proofs.Ending.{one_more}

-- so many runs were made, these are their different ends, each with how many had it, and so many came to what
pub record AreNoted (script : Scripted) (opening : Shared) (runs : ℕ) (ends : List End) (tally : Tally) : Type 0 where
  pub rans : List Ran
  pub each : All (IsRan script opening) rans
  pub count : length rans ≡ runs
  pub texts : texts_of ends ≡ different (ends_in opening rans)
  pub often_had : (text : List ℕ) → often ends text ≡ min (count_by (λ had. bytes_eq had text) (ends_in opening rans)) (2 ^ 32 - 1)
  pub tallied : AreTallied rans tally

pub none : (script : Scripted) (opening : Shared) (ends : List End) (tally : Tally) → ends ≡ [] → tally ≡ record { faulted = 0; stuck = 0; stopped = 0 }
    → AreNoted script opening 0 ends tally
none script opening ends tally is zero = record {
  rans = [];
  each = λ k d less. absurd (omega (arith, less));
  count = refl;
  texts = ap texts_of is;
  often_had = λ text. ap (λ (es : List End). often es text) is;
  tallied = record { faulted = ap (λ (t : Tally). t.faulted) zero; stuck = ap (λ (t : Tally). t.stuck) zero; stopped = ap (λ (t : Tally). t.stopped) zero };
}

-- one more that is so, or not
pub counts_on : {X : Type 0} (p : X → Bool) (xs : List X) (x : X) (old new : ℕ) (is : Bool) → old ≡ count_by p xs → is ≡ p x → new ≡ old + cond is 1 0
    → new ≡ count_by p (xs ++ x ∷ [])
counts_on p xs x old new is was same grows =
    grows ∙ ap (λ (n : ℕ). n + cond is 1 0) was ∙ ap (λ (b : Bool). count_by p xs + cond b 1 0) same ∙ sym (sum_by_push (λ y. cond (p y) 1 0) xs x)

once_on : (b : Bool) (n : ℕ) → (if b then once_more (min n (2 ^ 32 - 1)) else min n (2 ^ 32 - 1)) ≡ min (n + cond b 1 0) (2 ^ 32 - 1)
once_on true n = omega arith
once_on false n = omega arith

-- a text that one run more had, or not
often_on : (text had : List ℕ) (texts : List (List ℕ)) (old new : ℕ) → old ≡ min (count_by (λ t. bytes_eq t text) texts) (2 ^ 32 - 1)
    → new ≡ (if bytes_eq had text then once_more old else old) → new ≡ min (count_by (λ t. bytes_eq t text) (texts ++ had ∷ [])) (2 ^ 32 - 1)
often_on text had texts old new was is =
    is ∙ ap (λ (n : ℕ). if bytes_eq had text then once_more n else n) was ∙ once_on (bytes_eq had text) (count_by (λ t. bytes_eq t text) texts)
    ∙ ap (λ (n : ℕ). min n (2 ^ 32 - 1)) (sym (sum_by_push (λ t. cond (bytes_eq t text) 1 0) texts had))

-- what one run more adds to what came to what
pub record IsTalliedOn (faulted : Bool) (fate : Fate) (old new : Tally) : Type 0 where
  pub faults : new.faulted ≡ old.faulted + cond faulted 1 0
  pub stuck : new.stuck ≡ old.stuck + cond (is_fate_stuck fate) 1 0
  pub stopped : new.stopped ≡ old.stopped + cond (is_fate_stopped fate) 1 0

pub more : (script : Scripted) (opening : Shared) (goal : Option Goal) (shown : Option Finding) (runs : ℕ) (old new : List End) (was tally : Tally)
    (faulted : Bool) (fate : Fate)
    → AreNoted script opening runs old was → IsCome script opening goal shown faulted fate old new → IsTalliedOn faulted fate was tally
    → AreNoted script opening (runs + 1) new tally
more script opening goal shown runs old new was tally faulted fate are is on =
    let f : Ran → List ℕ = λ ran. end_text opening ran.history in
    let fates : Ran → Fate = λ ran. ran.fate in
    record {
      rans = are.rans ++ is.ran ∷ [];
      each = All-push (IsRan script opening) are.rans is.ran are.each is.is;
      count = omega (arith, length-append are.rans (is.ran ∷ []), are.count);
      texts = is.noted.texts ∙ ap (λ seen. noted seen (f is.ran)) are.texts ∙ sym (one_more f are.rans is.ran);
      often_had = λ text.
          often_on text (f is.ran) (ends_in opening are.rans) (often old text) (often new text) (are.often_had text) (is.noted.counted text)
          ∙ ap (λ (texts : List (List ℕ)). min (count_by (λ had. bytes_eq had text) texts) (2 ^ 32 - 1)) (sym (map-append f are.rans (is.ran ∷ [])));
      tallied = record {
        faulted = counts_on has_faulted are.rans is.ran was.faulted tally.faulted faulted are.tallied.faulted is.faults on.faults;
        stuck = counts_on (λ ran. is_fate_stuck ran.fate) are.rans is.ran was.stuck tally.stuck (is_fate_stuck fate) are.tallied.stuck (ap is_fate_stuck is.becomes) on.stuck;
        stopped = counts_on (λ ran. is_fate_stopped ran.fate) are.rans is.ran was.stopped tally.stopped (is_fate_stopped fate) are.tallied.stopped
            (ap is_fate_stopped is.becomes) on.stopped;
      };
    }

-- the last of them shows what is looked for
pub were : (script : Scripted) (opening : Shared) (goal : Option Goal) (shown : Option Finding) (finding : Finding) (runs : ℕ) (old new : List End)
    (was tally : Tally) (faulted : Bool) (fate : Fate)
    → shown ≡ Some finding → AreNoted script opening runs old was → IsCome script opening goal shown faulted fate old new → IsTalliedOn faulted fate was tally
    → WereMade script opening (runs + 1) new tally goal (Some finding)
unfolding more
were script opening goal shown finding runs old new was tally faulted fate found are is on =
    let all = more script opening goal shown runs old new was tally faulted fate are is on in
    let P : Option Finding → Type 0 = λ o. IfSome o (λ x. IsShownFor goal x (program_of is.is.core.image) opening is.ran.history) in
    record {
      rans = all.rans;
      each = all.each;
      count = sym all.count;
      texts = all.texts;
      often_had = all.often_had;
      tallied = all.tallied;
      last = (are.rans, is.ran, refl, (is.is, subst P found is.shows));
    }

-- nothing is looked for, or none shows it
pub were_none : (script : Scripted) (opening : Shared) (goal : Option Goal) (runs : ℕ) (ends : List End) (tally : Tally) → AreNoted script opening runs ends tally
    → WereMade script opening runs ends tally goal None
were_none script opening goal runs ends tally are =
    record { rans = are.rans; each = are.each; count = sym are.count; texts = are.texts; often_had = are.often_had; tallied = are.tallied; last = tt }

-- no more came to something than were made
pub record AreFew (runs : ℕ) (tally : Tally) : Type 0 where
  pub faulted : tally.faulted ≤ runs
  pub stuck : tally.stuck ≤ runs
  pub stopped : tally.stopped ≤ runs

pub few : (script : Scripted) (opening : Shared) (runs : ℕ) (ends : List End) (tally : Tally) → AreNoted script opening runs ends tally → AreFew runs tally
few script opening runs ends tally are = record {
  faulted = omega (arith, are.count, are.tallied.faulted, count_by-le-length has_faulted are.rans);
  stuck = omega (arith, are.count, are.tallied.stuck, count_by-le-length (λ (ran : Ran). is_fate_stuck ran.fate) are.rans);
  stopped = omega (arith, are.count, are.tallied.stopped, count_by-le-length (λ (ran : Ran). is_fate_stopped ran.fate) are.rans);
}

-- ---- one run

-- steps of the jobs of a script, from their beginning
pub are_made : (script : Scripted) (opening : Shared) (steps : List Step) (ending : Ending) (old core : Shown) (image : Loaded) → IsImageOf script.sources image
    → old ≡ begun image → ByList (StepsAs by_memory opening) 0 steps old ending core → AreMade script opening steps ending core
are_made script opening steps ending old core image is begins listed =
    let P : Shown → Type 0 = λ s. ByList (StepsAs by_memory opening) 0 steps s ending core in
    (image, is, subst P begins listed)

-- what is noted is the text that this is
pub noted_as : {text had : List ℕ} {old new : List End} → text ≡ had → IsNoted text old new → IsNoted had old new
noted_as {old = old} {new = new} same is = let P : List ℕ → Type 0 = λ t. IsNoted t old new in subst P same is

-- what came of a run that steps leave
pub is_come : (script : Scripted) (opening : Shared) (goal : Option Goal) (steps : List Step) (ending : Ending) (core : Shown) (shown : Option Finding)
    (faulted : Bool) (fate : Fate) (old new : List End)
    → AreMade script opening steps ending core → is_for_memory ending ≡ false
    → IfSome shown (λ finding. IsShownFor goal finding (program_of core.image) opening core.history) → IsFateOf fate (program_of core.image) opening core.history
    → faulted ≡ nat_lt 0 (count_by (bears marks.Fault) core.history) → IsNoted (end_text opening core.history) old new
    → IsCome script opening goal shown faulted fate old new
is_come script opening goal steps ending core shown faulted fate old new made granted shows becomes faults noted_so = record {
  ran = record { history = core.history; fate = fate };
  is = record { steps = steps; ending = ending; core = core; made = made; granted = granted; left = refl; fate = becomes };
  shows = shows;
  faults = faults;
  becomes = refl;
  noted = noted_so;
}

-- a run that shows what is looked for is found by its steps
pub found_for : (script : Scripted) (opening : Shared) (goal : Option Goal) (finding : Finding) (steps : List Step) (core : Shown)
    → AreMade script opening steps endings.Over core → IsShownFor goal finding (program_of core.image) opening core.history
    → IsFoundFor script goal finding opening steps
found_for script opening None finding steps core made shown = shown
found_for script opening (Some goal) finding steps core made shown = (core, made, shown)

-- where it is told of a run in which way it shows it, and that its steps were all made
pub all_found : (script : Scripted) (opening : Shared) (goal : Option Goal) (steps : List Step) (ending : Ending) (core : Shown) (shown : Option Finding)
    → AreMade script opening steps ending core → IfSome shown (λ finding. IsShownFor goal finding (program_of core.image) opening core.history)
    → OnSome shown (ending ≡ endings.Over) → IfSome shown (λ finding. IsFoundFor script goal finding opening steps)
all_found script opening goal steps ending core None made is over = tt
all_found script opening goal steps ending core (Some finding) made is over =
    let R : Ending → Type 0 = λ e. AreMade script opening steps e core in
    found_for script opening goal finding steps core (subst R over made) is

-- ---- a run that judges

-- what is told of a value that is there
pub where_some : {A : Type 0} (P : A → Type 0) (o : Option A) (a : A) → o ≡ Some a → IfSome o P → P a
where_some {A = A} P o a is told =
    let Q : Option A → Type 0 = λ o. IfSome o P in
    subst Q is told

-- what an expression that comes to this is found to be shows it
pub found_so : (P : Verdict → Type 0) (verdict : Verdict) (o : Option Finding) → P verdict → IfSome o (λ finding. verdict ≡ found_verdict finding)
    → IfSome o (λ finding. P (found_verdict finding))
found_so P verdict None holds is = tt
found_so P verdict (Some finding) holds is = subst P is holds
