-- A job is that of its claim, whatever it is told.
use Rattle.std.proofs.Common.{◌≡◌, ℕ, ◌+◌, List, [], ◌∷◌, ◌++◌, Bool, true, false, sym, ap, ◌∙◌, subst, cond, arith, refl}
use Rattle.std.proofs.lemmas.List.Sums.{sum_by-append}
use Rattle.mj_text.specs.declared.limit.Limit.{Limit}
use Rattle.mj_text.specs.declared.limit.Limit.TheVariants.{V2}
use Rattle.mj_ask.specs.declared.ask.Ask.{Ask}
use Rattle.mj_ask.specs.declared.ask.Reply.{Reply}
use Rattle.mj_ask.specs.Fits.{is_shared}
use Rattle.mj_ask.specs.Within.{is_reply_within}
use Rattle.mj_load.specs.Image.{Loaded}
use Rattle.mj_jobvm.specs.Run.{Log}
use Rattle.mj_jobvm.specs.Jobs.{Running, IsRunOf}
use Rattle.mj_sys.specs.System.{Claimed}
use Rattle.mj_core.specs.Runs.{start_in}
use Rattle.mj_core.specs.Answering.{Answering, Stays}
use Rattle.mj_core.specs.Ties.{IsJobOf, GoesOnBy, shared_in}

-- one more ask is counted where it is of what all jobs share
pub shared_on : (log : Log) (a : Ask) (reply : Reply) → shared_in (log ++ (a, reply) ∷ []) ≡ shared_in log + cond (is_shared a) 1 0
shared_on log a reply =
    sum_by-append (λ (e : Ask × Reply). cond (is_shared e.0) 1 0) log ((a, reply) ∷ []) ∙ ap (λ n. shared_in log + n) (plus (cond (is_shared a) 1 0)) where
      plus : (n : ℕ) → 0 + n ≡ n
      plus n = omega arith

-- where the limit is the greater one, each reply is within it
pub within_long : (limit : Limit) (reply : Reply) → limit ≡ V2 → is_reply_within limit reply ≡ true
within_long limit reply long = subst (λ (l : Limit). is_reply_within l reply ≡ true) (sym long) refl

module _ {A : Type 0} (ans : Answering A) (image : Loaded) (claim : Claimed) (job : Running) (x : A) (own : IsJobOf ans image claim job x) (job' : Running) (x' : A) where
  -- nothing was told
  pub own_still : IsRunOf image (start_in claim.job claim.start) job' → job'.run.log ≡ job.run.log → Stays ans x x' → IsJobOf ans image claim job' x'
  own_still run log stays =
      let T : Log → Type 0 = λ l. ans.IsOf x l in
      record { run = run; told = stays.0 job'.run.log (subst T (sym log) own.told); shared = own.shared ∙ ap shared_in (sym log); long = own.long }

  pub own_same : job' ≡ job → Stays ans x x' → IsJobOf ans image claim job' x'
  own_same same stays =
      let R : Running → Type 0 = λ j. IsRunOf image (start_in claim.job claim.start) j in
      own_still (subst R (sym same) own.run) (ap (λ (j : Running). j.run.log) same) stays

  module _ (a : Ask) (reply : Reply) (goes : GoesOnBy job a reply job') (told : ans.IsOf x job.run.log → ans.IsOf x' (job.run.log ++ (a, reply) ∷ [])) where
    told_on : ans.IsOf x' job'.run.log
    told_on = let T : Log → Type 0 = λ l. ans.IsOf x' l in subst T (sym goes.0) (told own.told)

    counts : shared_in job'.run.log ≡ shared_in job.run.log + cond (is_shared a) 1 0
    counts = ap shared_in goes.0 ∙ shared_on job.run.log a reply

    -- it was told what isn't of what all jobs share
    pub own_talk : is_shared a ≡ false → IsJobOf ans image claim job' x'
    own_talk is = record {
      run = goes.1 image (start_in claim.job claim.start) (within_long image.bounds.limit reply own.long) own.run;
      told = told_on;
      shared = own.shared ∙ sym (counts ∙ ap (λ b. shared_in job.run.log + cond b 1 0) is ∙ (let plus : shared_in job.run.log + 0 ≡ shared_in job.run.log = omega arith in plus));
      long = own.long;
    }

    -- or it was
    pub own_share : is_shared a ≡ true → IsJobOf ans image (record claim { events = claim.events + 1 }) job' x'
    own_share is = record {
      run = goes.1 image (start_in claim.job claim.start) (within_long image.bounds.limit reply own.long) own.run;
      told = told_on;
      shared = ap (λ n. n + 1) own.shared ∙ sym (counts ∙ ap (λ b. shared_in job.run.log + cond b 1 0) is);
      long = own.long;
    }
