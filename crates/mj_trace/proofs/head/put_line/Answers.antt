use Rattle.std.proofs.Common.{◌≡◌, Bool, true, ◌&&◌, Result, Ok, Err}
use Rattle.std.specs.Prelude.{OnOk}
use Rattle.mj_gfile.specs.Laws.Texts.{both_true}
use Rattle.mj_trace.proofs.head.put_line.Goals as goal

-- the job and the place fit, and so do the ask and the reply, if they were put
all_fit : {T E : Type 0} (r : Result T E) (job spot ask reply : Bool) → job ≡ true → spot ≡ true → OnOk r ((ask && reply) ≡ true) → OnOk r ((job && spot && ask && reply) ≡ true)
all_fit (Ok x) job spot ask reply j s told = let p = both_true ask reply told in λ i. j i && s i && p.0 i && p.1 i
all_fit (Err e) job spot ask reply j s told = tt

pub returns-clause-fits : goal.returns-clause-fits
returns-clause-fits c = all_fit c.put_told.result _ _ _ _ c.in_ok-put_count.ensures.fits c.in_ok-put_part.ensures.fits c.put_told.ensures.fits
