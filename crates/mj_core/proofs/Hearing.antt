-- What is told of a record.
use Rattle.std.specs.Prelude.{Result, Ok, Err, IfOk, IfSome}
use Rattle.std.proofs.Common.{◌≡◌, [], ◌∷◌, ◌++◌, Bool, true, false, not, Option, Some, refl, sym, ap, ◌∙◌, subst}
use Rattle.mj_ask.specs.declared.ask.Ask.{Ask}
use Rattle.mj_ask.specs.declared.ask.Reply.{Reply}
use Rattle.mj_ask.specs.declared.ask.Reply.TheVariants as replies
use Rattle.mj_ask.specs.Fits.{timeout_of}
use Rattle.mj_ask.specs.Late.{is_timed_out}
use Rattle.mj_sessions.specs.Events.{Log}
use Rattle.mj_expect.specs.Heeds.{Heeds, AreHeeds}
use Rattle.mj_core.specs.Recorded.{IsHeard, is_early}

-- what isn't early comes late only where the timeout is over
pub in_time : (a : Ask) (late : Bool) (reply : Reply) → is_early a late reply ≡ false → reply ≡ replies.Late → is_timed_out (timeout_of a) late ≡ true
in_time a late reply early is = by (is_timed_out (timeout_of a) late) refl where
  by : (b : Bool) → is_timed_out (timeout_of a) late ≡ b → is_timed_out (timeout_of a) late ≡ true
  by true e = e
  by false e =
      let P : Reply → Type 0 = λ r. is_early a late r ≡ false in
      let at : is_early a late replies.Late ≡ false = subst P is early in
      let over : is_early a late replies.Late ≡ true = ap (λ (x : Bool). not x) e in
      absurd (let no : true ≡ false = sym over ∙ at in cc)

-- what is known of the talks with a reply is known with its copy
pub heard_told : {E : Type 0} (r : Result (Option (Heeds × Reply)) E) (heard : Heeds) (log : Log) (a : Ask) (reply : Reply) → AreHeeds (log ++ (a, reply) ∷ []) heard
    → IfOk r (λ found. found ≡ Some (heard, reply)) → IfOk r (λ found. IsHeard log a reply found)
heard_told (Ok found) heard log a reply all is = (let P : Option (Heeds × Reply) → Type 0 = λ f. IsHeard log a reply f in subst P (sym is) all)
heard_told (Err e) heard log a reply all is = tt

pub copy_told : {E : Type 0} (r : Result (Option (Heeds × Reply)) E) (heard : Heeds) (reply : Reply)
    → IfOk r (λ found. found ≡ Some (heard, reply)) → IfOk r (λ found. IfSome found (λ h. h.1 ≡ reply))
copy_told (Ok found) heard reply is = (let P : Option (Heeds × Reply) → Type 0 = λ f. IfSome f (λ h. h.1 ≡ reply) in subst P (sym is) refl)
copy_told (Err e) heard reply is = tt
