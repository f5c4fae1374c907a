-- A front of a run is a run.
use Rattle.std.specs.Prelude.{◌⊎◌}
use Rattle.std.proofs.Common.{◌≡◌, List, [], ◌∷◌, ◌++◌, Some, refl, sym, ap, ◌∙◌, subst, inl, inr, append-nil}
use Rattle.mj_semantics.specs.Program.{Program}
use Rattle.mj_semantics.specs.Job.{Start}
use Rattle.mj_jobs.specs.Rows.{row_at}
use Rattle.mj_jobvm.specs.Run.{Log, IsTrace, begins, goes_on}
use Rattle.mj_dev.specs.Talk.{Exchange, TalkStand, beginning}
use Rattle.mj_sessions.specs.Events.{talk_on}
use Rattle.mj_sessions.specs.Follow.{stand_behind, Follow}
use Rattle.mj_sessions.proofs.Telling.{talk_more}
use Rattle.mj_sys.specs.Shared.{Shared}
use Rattle.mj_sys.specs.History.{History, after, state_of, log_of}
use Rattle.mj_sys.proofs.Rows.{rows_kept, state_of_append, log_of_append}
use Rattle.mj_core.specs.Happen.{AllHappen}
use Rattle.mj_core.specs.Runs.{start_in}
use Rattle.mj_replica.specs.Laws.{AreFrontsRuns}

tails : {X : Type 0} (x y : X) (xs ys : List X) → x ∷ xs ≡ y ∷ ys → (x ≡ y) × (xs ≡ ys)
tails x y xs ys e = (cc, cc)

-- a front of a list with one more is all of that, or a front of the list
front_of : {X : Type 0} (xs : List X) (x : X) (front back : List X) → xs ++ x ∷ [] ≡ front ++ back → (back ≡ []) ⊎ ((rest : List X) × (xs ≡ front ++ rest))
front_of [] x [] back e = inr ([], refl)
front_of [] x (f ∷ []) back e = inl (sym (tails x f [] back e).1)
front_of [] x (f ∷ g ∷ front) back e = absurd (let no : [] ≡ g ∷ (front ++ back) = (tails x f [] (g ∷ (front ++ back)) e).1 in cc)
front_of (z ∷ zs) x [] back e = inr (z ∷ zs, refl)
front_of {X} (z ∷ zs) x (f ∷ front) back e = by (front_of zs x front back p.1)
  where
    p : (z ≡ f) × (zs ++ x ∷ [] ≡ front ++ back)
    p = tails z f (zs ++ x ∷ []) (front ++ back) e

    by : (back ≡ []) ⊎ ((rest : List X) × (zs ≡ front ++ rest)) → (back ≡ []) ⊎ ((rest : List X) × (z ∷ zs ≡ f ∷ (front ++ rest)))
    by (inl none) = inl none
    by (inr more) = inr (more.0, λ i. p.0 i ∷ more.1 i)

trace_front : (program : Program) (start : Start) (log : Log) → IsTrace program start log → (front back : Log) → log ≡ front ++ back → IsTrace program start front
trace_front program start _ begins [] back e = begins
trace_front program start _ begins (f ∷ front) back e = absurd (let no : [] ≡ f ∷ (front ++ back) = e in cc)
trace_front program start _ (goes_on log a r n locals at trace needs fit small) front back e = by (λ rest same. trace_front program start log trace front rest same) (front_of log (a, r) front back e)
  where
    by : ((rest : Log) → log ≡ front ++ rest → IsTrace program start front) → (back ≡ []) ⊎ ((rest : Log) × (log ≡ front ++ rest)) → IsTrace program start front
    by earlier (inl none) =
        let P : Log → Type 0 = λ l. IsTrace program start l in
        subst P (e ∙ ap (λ l. front ++ l) none ∙ append-nil front) (goes_on log a r n locals at trace needs fit small)
    by earlier (inr more) = earlier more.0 more.1

follow_front : (old : TalkStand) (talk more : List Exchange) (last : TalkStand) → Follow old (talk ++ more) last → (mid : TalkStand) × Follow old talk mid
follow_front old [] more last f = (old, refl)
follow_front old (x ∷ talk) more last f =
    let rest = follow_front (stand_behind x f.0) talk more last f.2 in
    (rest.0, (f.0, f.1, rest.1))

happen_front : (s : Shared) (history more : History) → AllHappen s (history ++ more) → AllHappen s history
happen_front s [] more all = tt
happen_front s (e ∷ history) more all = (all.0, happen_front (after s e) history more all.1)

pub fronts : AreFrontsRuns
fronts program opening history more run = record {
  happen = happen_front opening history more run.happen;
  traces = λ job row is.
      (let later = (rows_kept (state_of opening history) more).starts job row is in
      let there : row_at (state_of opening (history ++ more)).rows job ≡ Some later.0 =
      ap (λ (s : Shared). row_at s.rows job) (state_of_append opening history more) ∙ later.1 in
      let P : Start → Type 0 = λ s. IsTrace program s (log_of job (history ++ more)) in
      let trace : IsTrace program (start_in job row.start) (log_of job (history ++ more)) = subst P (ap (start_in job) later.2) (run.traces job later.0 there) in
      trace_front program (start_in job row.start) (log_of job (history ++ more)) trace (log_of job history) (log_of job more) (log_of_append job history more));
  talks = λ job name.
      (let f = run.talks job name in
      let P : List Exchange → Type 0 = λ t. Follow beginning t f.0 in
      follow_front beginning (talk_on name (log_of job history)) (talk_on name (log_of job more)) f.0
      (subst P (ap (talk_on name) (log_of_append job history more) ∙ talk_more name (log_of job history) (log_of job more)) f.1));
}
