-- Runs that were passed over stay so as own writes are made: what went doesn't come back.
use Rattle.std.proofs.Common.{◌≡◌, ℕ, Bool, true, false, cond, List, [], ◌∷◌, ◌++◌, Result, Ok, Err, refl, sym, ap, ◌∙◌, subst}
use Rattle.std.specs.Prelude.{OnOk, OnErr}
use Rattle.std.specs.List.{fold}
use Rattle.mj_store.specs.Questions.{Content}
use Rattle.mj_store.specs.declared.access.Access.{Access}
use Rattle.mj_store.specs.declared.access.Access.TheVariants as access
use Rattle.mj_store.specs.declared.access.Answer.{Answer}
use Rattle.mj_store.specs.declared.access.Answer.TheVariants as answer
use Rattle.mj_txlog.specs.declared.entry.Entry.{Entry}
use Rattle.mj_txlog.specs.declared.entry.Entry.TheVariants as entry
use Rattle.mj_txlog.specs.Accesses.{Accesses, Transaction, is_full, with_entry, with_reply, with_unlock}
use Rattle.mj_txlog.specs.declared.entry.Unlock.{Unlock}
use Rattle.mj_subs.specs.Name.{Name}
use Rattle.mj_txlog.specs.Laid.{Laid, laid_more}
use Rattle.mj_store.specs.Changes.{followed_by}
use Rattle.mj_txlog.specs.Skips.{gone_more, gone_by, AreBare, AreSkips, front}
use Rattle.mj_txlog.proofs.Laid.{went_less}

-- no runs
pub none_skips : (g gone : Content) → AreSkips g gone []
none_skips g gone n d there = absurd cc

-- one entry more
pub more_skips : (g gone runs : Content) (e : Entry) → AreSkips g gone runs → AreSkips g (gone_more gone e) runs
more_skips g gone runs (entry.Unlock u) h = h
more_skips g gone runs (entry.Access (access.Value n) r) h = h
more_skips g gone runs (entry.Access (access.Data n) r) h = h
more_skips g gone runs (entry.Access (access.Order n way) r) h = h
more_skips g gone runs (entry.Access (access.Query n) r) h = h
more_skips g gone runs (entry.Access (access.Subtree n) r) h = h
more_skips g gone runs (entry.Access (access.Set n v) r) h = h
more_skips g gone runs (entry.Access (access.Put n nodes) r) h = h
more_skips g gone runs (entry.Access (access.Kill k) r) h = λ n d there u from to b stays. h n d there u from to b (went_less gone k (followed_by (front n) (u ∷ b)) stays)

fold_more : (z : Content) (es : Accesses) (e : Entry) → fold gone_more z (es ++ e ∷ []) ≡ gone_more (fold gone_more z es) e
fold_more z [] e = refl
fold_more z (x ∷ es) e = fold_more (gone_more z x) es e

pub gone_next : (es : Accesses) (e : Entry) → gone_by (es ++ e ∷ []) ≡ gone_more (gone_by es) e
gone_next es e = fold_more [] es e

pub entry_skips : (g runs : Content) (es : Accesses) (e : Entry) → AreSkips g (gone_by es) runs → AreSkips g (gone_by (es ++ e ∷ [])) runs
entry_skips g runs es e h = subst (λ (gone : Content). AreSkips g gone runs) (sym (gone_next es e)) (more_skips g (gone_by es) runs e h)

pub reply_skips : (g runs : Content) (t : Transaction) (a : Access) (r : Answer) → AreSkips g (gone_by t.accesses) runs → AreSkips g (gone_by (with_reply t a r).accesses) runs
reply_skips g runs t a answer.Limit h = h
reply_skips g runs t a (answer.Value v) h = entry_skips g runs t.accesses (entry.Access a (answer.Value v)) h
reply_skips g runs t a (answer.Data v) h = entry_skips g runs t.accesses (entry.Access a (answer.Data v)) h
reply_skips g runs t a (answer.Order v) h = entry_skips g runs t.accesses (entry.Access a (answer.Order v)) h
reply_skips g runs t a (answer.Query v) h = entry_skips g runs t.accesses (entry.Access a (answer.Query v)) h
reply_skips g runs t a (answer.Subtree v) h = entry_skips g runs t.accesses (entry.Access a (answer.Subtree v)) h
reply_skips g runs t a answer.Done h = entry_skips g runs t.accesses (entry.Access a answer.Done) h

-- what is bare stays so
pub bare_more : (g gone : Content) (f : Name) (c d : List ℕ) (e : Entry) → AreBare g gone f c d → AreBare g (gone_more gone e) f c d
bare_more g gone f c d (entry.Unlock u) h = h
bare_more g gone f c d (entry.Access (access.Value n) r) h = h
bare_more g gone f c d (entry.Access (access.Data n) r) h = h
bare_more g gone f c d (entry.Access (access.Order n way) r) h = h
bare_more g gone f c d (entry.Access (access.Query n) r) h = h
bare_more g gone f c d (entry.Access (access.Subtree n) r) h = h
bare_more g gone f c d (entry.Access (access.Set n v) r) h = h
bare_more g gone f c d (entry.Access (access.Put n nodes) r) h = h
bare_more g gone f c d (entry.Access (access.Kill k) r) h = λ u from to b stays. h u from to b (went_less gone k (followed_by f (u ∷ b)) stays)

-- what stays so with each entry more stays so with an access
module _ (P : Content → Type 0) (more : (gone : Content) (e : Entry) → P gone → P (gone_more gone e)) where
  entry_gone : (es : Accesses) (e : Entry) → P (gone_by es) → P (gone_by (es ++ e ∷ []))
  entry_gone es e h = subst P (sym (gone_next es e)) (more (gone_by es) e h)

  pub reply_gone : (t : Transaction) (a : Access) (r : Answer) → P (gone_by t.accesses) → P (gone_by (with_reply t a r).accesses)
  reply_gone t a answer.Limit h = h
  reply_gone t a (answer.Value v) h = entry_gone t.accesses (entry.Access a (answer.Value v)) h
  reply_gone t a (answer.Data v) h = entry_gone t.accesses (entry.Access a (answer.Data v)) h
  reply_gone t a (answer.Order v) h = entry_gone t.accesses (entry.Access a (answer.Order v)) h
  reply_gone t a (answer.Query v) h = entry_gone t.accesses (entry.Access a (answer.Query v)) h
  reply_gone t a (answer.Subtree v) h = entry_gone t.accesses (entry.Access a (answer.Subtree v)) h
  reply_gone t a answer.Done h = entry_gone t.accesses (entry.Access a answer.Done) h

-- an unlock takes nothing
pub unlock_gone : (t : Transaction) (u : Unlock) → gone_by (with_unlock t u).accesses ≡ gone_by t.accesses
unlock_gone t u = by (is_full t) where
  by : (b : Bool) → gone_by (cond b t (with_entry t (entry.Unlock u))).accesses ≡ gone_by t.accesses
  by true = refl
  by false = gone_next t.accesses (entry.Unlock u)

-- what comes of an access, whether it is made or refused
pub result_skips : {A E : Type 0} (g runs : Content) (t new next : Transaction) (x : Result A E) → AreSkips g (gone_by t.accesses) runs → AreSkips g (gone_by next.accesses) runs
    → OnOk x (new ≡ next) → OnErr x (new ≡ t) → AreSkips g (gone_by new.accesses) runs
result_skips g runs t new next (Ok a) h k ok err = subst (λ (u : Transaction). AreSkips g (gone_by u.accesses) runs) (sym ok) k
result_skips g runs t new next (Err e) h k ok err = subst (λ (u : Transaction). AreSkips g (gone_by u.accesses) runs) (sym err) h

-- the own writes know what went
pub laid_gone : (o : Laid) (e : Entry) → (laid_more o e).gone ≡ gone_more o.gone e
laid_gone o (entry.Access a r) = refl
laid_gone o (entry.Unlock u) = refl

pub gone_laid : (o new : Laid) (es : Accesses) (e : Entry) → o.gone ≡ gone_by es → new ≡ laid_more o e → new.gone ≡ gone_by (es ++ e ∷ [])
gone_laid o new es e h is = ap (λ (l : Laid). l.gone) is ∙ laid_gone o e ∙ ap (λ (gone : Content). gone_more gone e) h ∙ sym (gone_next es e)

-- and so do the runs
pub laid_skips : (g runs : Content) (o new : Laid) (e : Entry) → AreSkips g o.gone runs → new ≡ laid_more o e → AreSkips g new.gone runs
laid_skips g runs o new e h is = subst (λ (gone : Content). AreSkips g gone runs) (sym (ap (λ (l : Laid). l.gone) is ∙ laid_gone o e)) (more_skips g o.gone runs e h)
