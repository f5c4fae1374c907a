-- The places of a job's asks, which each reply makes one more.
use Rattle.std.specs.Prelude.{nat_lt}
use Rattle.std.specs.List.{slice_index_or}
use Rattle.std.proofs.Common.{◌≡◌, ℕ, suc, ◌+◌, ◌-◌, ◌≤◌, List, [], ◌∷◌, ◌++◌, length, Option, Some, None, Bool, true, false, refl, sym, ap, ◌∙◌, subst, arith, append-nil}
use Rattle.std.proofs.lemmas.Bool.{ltb-true, ltb-false}
use Rattle.std.proofs.lemmas.List.{append_assoc}
use Rattle.mj_ask.specs.declared.ask.Ask.{Ask}
use Rattle.mj_ask.specs.declared.ask.Reply.{Reply}
use Rattle.mj_semantics.specs.State.{State, Frame, Locals, Place, places, place_of}
use Rattle.mj_semantics.specs.Outcome.{Outcome, Needs, More}
use Rattle.mj_semantics.specs.Program.{Program}
use Rattle.mj_semantics.specs.Job.{Start, next}
use Rattle.mj_jobvm.specs.Places.{innermost, IsPlaceOf, AreBehind, ArePlaces}

-- where a job stands is the innermost of its frames' places
pub stands_innermost : (s : State) → place_of s ≡ innermost (places s)
stands_innermost s = by s.frames
  where
    by : (fs : List Frame) → place_of (record s { frames = fs }) ≡ innermost (places (record s { frames = fs }))
    by [] = refl
    by (f ∷ fs) = refl

-- the run goes on for some turns with these replies, and needs that to an ask in each later one: it needs it nowhere else
pub one_place : (program : Program) (start : Start) (told : List Reply) (turns : ℕ) (a : Ask) (locals : Locals) (at : List Place)
    → ((n : ℕ) → n ≤ turns → next program start n told ≡ More)
    → ((n : ℕ) → next program start (turns + suc n) told ≡ Needs a locals at)
    → IsPlaceOf program start told (innermost at)
one_place program start told turns a locals at going needs n b others there asks = by (nat_lt turns n) refl
  where
    same_at : Needs a locals at ≡ Needs b others there → at ≡ there
    same_at e = cc

    by : (less : Bool) → nat_lt turns n ≡ less → innermost at ≡ innermost there
    by true e =
        let k : turns + suc (n - turns - 1) ≡ n = (let h = ltb-true turns n e in omega (arith, h)) in
        ap innermost (same_at (sym (needs (n - turns - 1)) ∙ ap (λ m. next program start m told) k ∙ asks))
    by false e = absurd (let no : More ≡ Needs b others there = sym (going n (ltb-false turns n e)) ∙ asks in cc)

module _ (program : Program) (start : Start) where
  -- one reply more, with the place of the ask that it is told to
  behind_more : (told replies : List Reply) (given : List (Option Place)) (r : Reply) (p : Option Place)
      → AreBehind program start told replies given → IsPlaceOf program start (told ++ replies) p
      → AreBehind program start told (replies ++ r ∷ []) (given ++ p ∷ [])
  behind_more told [] [] r p are is = (subst (λ l. IsPlaceOf program start l p) (append-nil told) is, tt)
  behind_more told [] (q ∷ given) r p are is = absurd are
  behind_more told (x ∷ replies) [] r p are is = absurd are
  behind_more told (x ∷ replies) (q ∷ given) r p are is = (
    are.0,
    behind_more (told ++ x ∷ []) replies given r p are.1
        (subst (λ l. IsPlaceOf program start l p) (sym (append_assoc told (x ∷ []) replies)) is),
  )

  pub one_more : (replies : List Reply) (given : List (Option Place)) (r : Reply) (p : Option Place)
      → ArePlaces program start replies given → IsPlaceOf program start replies p → ArePlaces program start (replies ++ r ∷ []) (given ++ p ∷ [])
  one_more replies given r p are is = behind_more [] replies given r p are is

  -- the place of an ask in the midst, whatever is told behind it
  there_behind : (told front : List Reply) (r : Reply) (back : List Reply) (given : List (Option Place)) → AreBehind program start told (front ++ r ∷ back) given
      → IsPlaceOf program start (told ++ front) (slice_index_or given (length front) None)
  there_behind told [] r back [] are = absurd are
  there_behind told [] r back (p ∷ given) are = subst (λ l. IsPlaceOf program start l p) (sym (append-nil told)) are.0
  there_behind told (x ∷ front) r back [] are = absurd are
  there_behind told (x ∷ front) r back (p ∷ given) are =
      subst (λ l. IsPlaceOf program start l (slice_index_or given (length front) None)) (append_assoc told (x ∷ []) front)
      (there_behind (told ++ x ∷ []) front r back given are.1)

  pub place_there : (front : List Reply) (r : Reply) (back : List Reply) (given : List (Option Place)) → ArePlaces program start (front ++ r ∷ back) given
      → IsPlaceOf program start front (slice_index_or given (length front) None)
  place_there front r back given are = there_behind [] front r back given are
