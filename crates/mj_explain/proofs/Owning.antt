-- An event that is no own change of a job.
use Rattle.std.proofs.Common.{◌≡◌, ℕ, Bool, false, [], ◌∷◌, ◌++◌, Option, Some, None, ap, sym, ◌∙◌, append-nil, if◌then◌else◌}
use Rattle.mj_store.specs.declared.access.Access.{Access}
use Rattle.mj_store.specs.declared.access.Answer.TheVariants as answers
use Rattle.mj_txlog.specs.Accesses.{Accesses}
use Rattle.mj_txlog.specs.declared.entry.Entry.TheVariants as entries
use Rattle.mj_ask.specs.declared.noted.Noted.{Noted}
use Rattle.mj_explain.specs.Events.{is_change_of}
use Rattle.mj_explain.specs.Clashes.{own_at}

pub own_gone : (job : ℕ) (e : Option Noted) (o : Option Access) (own : Accesses) → o ≡ None → own ≡ own ++ own_at job e o
own_gone job e o own gone = sym (append-nil own) ∙ ap (λ (a : Option Access). own ++ own_at job e a) (sym gone)

pub own_not : (job : ℕ) (e : Option Noted) (o : Option Access) (own : Accesses) → is_change_of job e ≡ false → own ≡ own ++ own_at job e o
own_not job e None own isnt = sym (append-nil own)
own_not job e (Some a) own isnt =
    sym (append-nil own)
    ∙ ap (λ (is : Bool). own ++ (if is then entries.Access a answers.Done ∷ [] else [])) (sym isnt)
