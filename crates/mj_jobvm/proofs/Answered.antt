-- A job that is told a reply.
use Rattle.std.proofs.Common.{◌≡◌, ℕ, List, [], ◌∷◌, ◌++◌, Option, Some, None, Bool, true, sym, ap, ◌∙◌, subst}
use Rattle.std.specs.Prelude.{IsTrue}
use Rattle.std.proofs.lemmas.List.{reverse-append}
use Rattle.mj_ask.specs.declared.ask.Ask.{Ask}
use Rattle.mj_ask.specs.declared.ask.Reply.{Reply}
use Rattle.mj_semantics.specs.State.{Place, place_of}
use Rattle.mj_semantics.specs.Job.{Start}
use Rattle.mj_ask.specs.Fits.{fits}
use Rattle.mj_ask.specs.Within.{is_reply_within}
use Rattle.mj_load.specs.Image.{Loaded, program_of}
use Rattle.mj_machine.specs.declared.machine.Machine.{Machine}
use Rattle.mj_machine.specs.Kept.{standing, state_of}
use Rattle.mj_jobvm.specs.Run.{Log, IsRunAfter}
use Rattle.mj_jobvm.specs.Jobs.{FitsPending, running, given_of, last_reply, code_in, IsRunOf}
use Rattle.mj_jobvm.proofs.Jobs.{run, answered}

last_with : (log : Log) (a : Ask) (r : Reply) → last_reply (log ++ (a, r) ∷ []) ≡ Some r
last_with log a r =
    let last : Log → Option Reply = λ l. elim l [ [] ↦ None | e ∷ es ↦ Some e.1 ] in
    ap last (reverse-append log ((a, r) ∷ []))

same_ask : (a b : Ask) → Some a ≡ Some b → a ≡ b
same_ask a b e = cc

fits_it : (pending : Option Ask) (ask : Ask) (reply : Reply) → pending ≡ Some ask → FitsPending pending reply → IsTrue (fits ask reply)
fits_it pending ask reply e f =
    let P : Ask → Type 0 = λ a. IsTrue (fits a reply) in
    subst P (same_ask f.0 ask (sym f.1 ∙ e)) f.2

pub answered_by : (image : Loaded) (start : Start) (from : Start) (machine : Machine) (log now : Log) (kept more : List (Option Place)) (given : Bool) (pending left : Option Ask)
    (spent : ℕ) (ask : Ask) (reply : Reply)
    → is_reply_within image.bounds.limit reply ≡ true → pending ≡ Some ask → FitsPending pending reply → now ≡ log ++ (ask, reply) ∷ [] → left ≡ None
    → more ≡ kept ++ place_of (state_of machine) ∷ []
    → IsRunOf image start (running from machine log kept given pending spent) → IsRunOf image start (running from machine now more true left 0)
answered_by image start from machine log now kept more given pending left spent ask reply within e f is none also (turns, r) =
    let program = program_of image in
    let code = code_in image from in
    let with : Log = log ++ (ask, reply) ∷ [] in
    let P : Option Ask → Type 0 = λ p. IsRunAfter program start code turns (run log kept p spent (standing machine (given_of given log))) in
    let Q : Option Reply → Type 0 = λ g. IsRunAfter program start code 0 (run with (kept ++ place_of (state_of machine) ∷ []) None 0 (standing machine g)) in
    let R : Option Ask → Type 0 = λ p. IsRunAfter program start code 0 (run with (kept ++ place_of (state_of machine) ∷ []) p 0 (standing machine (last_reply with))) in
    let S : Log → Type 0 = λ l. IsRunAfter program start code 0 (run l (kept ++ place_of (state_of machine) ∷ []) left 0 (standing machine (last_reply l))) in
    let U : List (Option Place) → Type 0 = λ ps. IsRunAfter program start code 0 (run now ps left 0 (standing machine (last_reply now))) in (
      0,
      subst U (sym also) (subst S (sym is) (subst R (sym none) (subst Q (sym (last_with log ask reply))
          (answered program start code log kept spent turns ask reply (standing machine (given_of given log)) (fits_it pending ask reply e f) within (subst P e r))))),
    )
