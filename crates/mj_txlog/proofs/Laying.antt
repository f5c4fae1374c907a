-- The writes among the first entries lie over the globals; those among the others are laid over them later.
use Rattle.std.proofs.Common.{◌≡◌, ◌≤◌, ◌<◌, ◌+◌, ℕ, [], ◌∷◌, ◌++◌, length, take, get_or, sym, ap, ◌∙◌, subst, arith}
use Rattle.std.proofs.lemmas.List.{take-append-le, take_all, take_more}
use Rattle.mj_store.specs.Questions.{Content}
use Rattle.mj_txlog.specs.declared.entry.Entry.{Entry}
use Rattle.mj_txlog.specs.Accesses.{Accesses}
use Rattle.mj_txlog.specs.Laid.{Laid, IsLaid, laid_more}
use Rattle.mj_txlog.specs.Skips.{gone_by}
use Rattle.mj_txlog.proofs.Goes.{gone_laid}

-- an entry that is appended changes nothing of what was laid
pub still_laid : (o : Laid) (es : Accesses) (e : Entry) (k : ℕ) → k ≤ length es → IsLaid o (take k es) → IsLaid o (take k (es ++ e ∷ []))
still_laid o es e k within h = subst (λ (xs : Accesses). IsLaid o xs) (sym (take-append-le k es (e ∷ []) within)) h

pub still_gone : (gone : Content) (es : Accesses) (e : Entry) (k : ℕ) → k ≤ length es → gone ≡ gone_by (take k es) → gone ≡ gone_by (take k (es ++ e ∷ []))
still_gone gone es e k within h = h ∙ ap gone_by (sym (take-append-le k es (e ∷ []) within))

-- one more of them is laid
pub next_laid : (o : Laid) (es : Accesses) (k : ℕ) (e : Entry) → k < length es → e ≡ get_or es k e → IsLaid o (take k es ++ e ∷ []) → IsLaid o (take (k + 1) es)
next_laid o es k e below is h = subst (λ (xs : Accesses). IsLaid o xs) (ap (λ (x : Entry). take k es ++ x ∷ []) is ∙ sym (take_more es k e below)) h

pub next_gone : (o new : Laid) (es : Accesses) (k : ℕ) (e : Entry) → k < length es → e ≡ get_or es k e → o.gone ≡ gone_by (take k es) → new ≡ laid_more o e
    → new.gone ≡ gone_by (take (k + 1) es)
next_gone o new es k e below is h more = gone_laid o new (take k es) e h more ∙ ap gone_by (ap (λ (x : Entry). take k es ++ x ∷ []) is ∙ sym (take_more es k e below))

-- all of them are
pub all_laid : (o : Laid) (es : Accesses) (k : ℕ) → k ≡ length es → IsLaid o (take k es) → IsLaid o es
all_laid o es k all h = subst (λ (xs : Accesses). IsLaid o xs) (take_all k es (omega (arith, all))) h

pub all_gone : (gone : Content) (es : Accesses) (k : ℕ) → k ≡ length es → gone ≡ gone_by (take k es) → gone ≡ gone_by es
all_gone gone es k all h = h ∙ ap gone_by (take_all k es (omega (arith, all)))
