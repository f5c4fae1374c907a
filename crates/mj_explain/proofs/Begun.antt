-- What a table of beginnings says at a place.
use Rattle.std.proofs.Common.{◌≡◌, ℕ, ◌<◌, true, List, ◌++◌, length, take, get_or, Option, Some, None, Result, OnOk, option_copied, Bor}
use Rattle.std.proofs.Common.{refl, ap, sym, ◌∙◌, subst, eqb-true, arith}
use Rattle.std.specs.Slice.{IsItemAt}
use Rattle.std.proofs.lemmas.Option.{same_Some, slice_get_past, slice_get_read, slice_get-get_or}
use Rattle.std.proofs.lemmas.Bool.{and_parts}
use Rattle.std.specs.Prelude.{slice_get, ◌==◌}
use Rattle.mj_subs.specs.Name.{Name}
use Rattle.mj_explain.specs.declared.landings.Landing.{Landing}
use Rattle.mj_ask.specs.declared.noted.Noted.{Noted}
use Rattle.mj_explain.specs.Events.{AreBegins, began_by, change_in, change_of, change_at, sets, is_set_of}
use Rattle.mj_explain.specs.Looks.{looks, is_look_of}
use Rattle.mj_explain.specs.Landings.{made_by, made_of, made_at}
use Rattle.mj_explain.specs.Losses.{IsOutside}

-- where the transaction began that the job of an event has open before it
pub begun_at : (es : List Noted) (begins : List (Option ℕ)) (k : ℕ) (e : Noted) (b : Option ℕ) → AreBegins es begins → slice_get es k ≡ Some e
    → slice_get begins k ≡ Some b → began_by e.job (take k es) ≡ b
begun_at es begins k e b are there has = same_Some (began_by e.job (take k es)) b (sym (are.is k e there) ∙ has)

-- what an event makes
pub made_begun : (es : List Noted) (begins : List (Option ℕ)) (k : ℕ) (e : Noted) (b : Option ℕ) → AreBegins es begins → slice_get es k ≡ Some e
    → slice_get begins k ≡ Some b → made_at es k ≡ made_by es k b e
made_begun es begins k e b are there has = ap (made_of es k) there ∙ ap (λ o. made_by es k o e) (begun_at es begins k e b are there has)

-- the same, where both are read by their place
pub made_from : {A E : Type 0} (es : List Noted) (begins : List (Option ℕ)) (k : ℕ) (e : Noted) (d : Option ℕ) → AreBegins es begins → k < length es
    → e ≡ get_or es k e → (r : Result A E) (old new : List Landing) → OnOk r (new ≡ old ++ made_by es k (get_or begins k d) e)
    → OnOk r (new ≡ old ++ made_at es k)
made_from es begins k e d are within is r old new made =
    let there : slice_get es k ≡ Some e = slice_get_read es (length es) k e refl within is in
    let long : length begins ≡ length es = are.each in
    let less : k < length begins = omega (arith, long, within) in
    let has : slice_get begins k ≡ Some (get_or begins k d) = slice_get-get_or begins k d less in
    subst (λ (ls : List Landing). OnOk r (new ≡ old ++ ls)) (sym (made_begun es begins k e (get_or begins k d) are there has)) made

-- what is lent of a list at a place
pub got : {X : Type 0} (xs : List X) (k : ℕ) (r : Option (Bor X)) → IsItemAt xs k r → option_copied r ≡ slice_get xs k
got xs k None is = sym (slice_get_past xs k is.3)
got xs k (Some x) is = sym (slice_get_read xs (length xs) k x.now refl is.3.0 is.1)

-- the change that an event is
pub change_there : (es : List Noted) (k : ℕ) (e : Noted) → slice_get es k ≡ Some e → change_at es k ≡ change_in e.ask e.reply
change_there es k e there = ap change_of there

-- the event at which a job looks at a name, or sets it
own_look : (job : ℕ) (n : Name) (o : Option Noted) → is_look_of job n o ≡ true → (e : Noted) × (o ≡ Some e) × (e.job ≡ job)
own_look job n None is = cc
own_look job n (Some e) is = (e, refl, eqb-true e.job job (and_parts (e.job == job) (looks n e.ask e.reply) is).0)

own_set : (job : ℕ) (n : Name) (o : Option Noted) → is_set_of job n o ≡ true → (e : Noted) × (o ≡ Some e) × (e.job ≡ job)
own_set job n None is = cc
own_set job n (Some e) is = (e, refl, eqb-true e.job job (and_parts (e.job == job) (sets n (change_in e.ask e.reply)) is).0)

-- where it has no transaction open
module _ (es : List Noted) (begins : List (Option ℕ)) (job : ℕ) (n : Name) (k : ℕ) (are : AreBegins es begins) (none : slice_get begins k ≡ Some None) where
  none_open : (e : Noted) → slice_get es k ≡ Some e → e.job ≡ job → began_by job (take k es) ≡ None
  none_open e there own = subst (λ j. began_by j (take k es) ≡ None) own (begun_at es begins k e None are there none)

  pub look_outside : is_look_of job n (slice_get es k) ≡ true → IsOutside es job k (λ e. is_look_of job n e)
  look_outside does = let e = own_look job n (slice_get es k) does in record { is = does; outside = none_open e.0 e.1 e.2 }

  pub set_outside : is_set_of job n (slice_get es k) ≡ true → IsOutside es job k (λ e. is_set_of job n e)
  set_outside does = let e = own_set job n (slice_get es k) does in record { is = does; outside = none_open e.0 e.1 e.2 }
