-- Where a phrase ends, and what is known at any state of constants and names.
use Rattle.std.proofs.Common.{◌≡◌, ◌+◌, ◌≤◌, List, [], ◌∷◌, length, refl, ap, sym, ◌∙◌, subst, Bool, true, false, nat_lt, Option, Some, None, arith, nat_le}
use Rattle.std.specs.Prelude.{cond}
use Rattle.mj_ast.specs.declared.sign.Sign.{Sign}
use Rattle.mj_ast.specs.declared.sign.Sign.TheVariants.{Caret, Open, Close, Comma, Colon}
use Rattle.mj_oper.specs.declared.op.UnaryOp.{UnaryOp}
use Rattle.mj_oper.specs.declared.op.Op.{Op}
use Rattle.mj_ast.specs.Syntax.{Expr, Chain, Operand, Literal, Value, Intrinsic, Tails, Variable, Var, No, More, Group, Call, About, Select, Extrinsic, Exprs, Last, NoActual}
use Rattle.mj_ast.specs.declared.function.NameFunction.{NameFunction}
use Rattle.mj_ast.specs.declared.function.Callee.{Callee}
use Rattle.mj_ast.specs.declared.function.Callee.TheVariants as callee
use Rattle.mj_ast.specs.Expressions.{Symbol, Constant, Inherent, Name, Applied, Entry, Overlong, Mark, Other, count, most_others}
use Rattle.mj_expr.specs.Machine.{Outer, Alone, InGroup, InList, InOther, InCondition, InChoice, InActuals, Owner, Subscripts, Arguments, before_choices, least_of, most_of, is_limited, Within, Front, Right, Under, Place, AsOperand, AsNamed, AsTarget, State, Wanted, Sought, Marked, Named, Entering, Routed, Calling, Behind, Held, Got, entry_at, and_given, and_omitted, comma_at, close_at, filled, placed, closed, outer_of, Limits, Next, Go, Stuck, Deep, Long, suffices, after_variable, inside, is_full, is_full_in, want_other, want_sign, hold_other, hold_sign, hold, on, step, unary_of, binary_of, Phrase, Whole, Target, Accept, DeepAt, TooLong, refused, ends, finish, run, turn, and_more}
use Rattle.mj_expr.proofs.Facts.{filled_outer}
use Rattle.mj_expr.proofs.Told.{accept_rest, accept_phrase}

-- ---- where a phrase ends

no_accept : (ks : List Symbol) (p : Phrase) (r : List Symbol) → refused ks ≡ Accept p r → ⊥
no_accept [] p r e = cc
no_accept (Overlong ∷ ks) p r e = cc
no_accept (Constant v ∷ ks) p r e = cc
no_accept (Inherent v ∷ ks) p r e = cc
no_accept (Name w ∷ ks) p r e = cc
no_accept (Applied f ∷ ks) p r e = cc
no_accept (Entry l ∷ ks) p r e = cc
no_accept (Mark s ∷ ks) p r e = cc
no_accept (Other ∷ ks) p r e = cc

-- what accepts a phrase somewhere accepts it before anything
pub record Again (s : State) (ks : List Symbol) (p : Phrase) (r : List Symbol) : Type 0 where
  pub rest : ks ≡ r
  pub again : (ls : List Symbol) → finish s ls ≡ Accept p ls

abbrev EndsAgain : State → List Symbol → Phrase → List Symbol → Type 0
EndsAgain s ks p r = (ks ≡ r) × ((ls : List Symbol) → ends s ls ≡ Accept p ls)

ends_again : (s : State) (ks : List Symbol) (p : Phrase) (r : List Symbol) → ends s ks ≡ Accept p r → EndsAgain s ks p r
ends_again (Wanted c) ks p r e = absurd (no_accept ks p r e)
ends_again (Sought q) ks p r e = absurd (no_accept ks p r e)
ends_again (Marked q) ks p r e = absurd (no_accept ks p r e)
ends_again (Named scope word q) ks p r e = absurd (no_accept ks p r e)
ends_again (Held x t Alone) ks p r e = (accept_rest (Whole (Chain x t)) p ks r e, λ ls. ap (λ (q : Phrase). Accept q ls) (accept_phrase (Whole (Chain x t)) p ks r e))
ends_again (Held x t (InGroup c)) ks p r e = absurd (no_accept ks p r e)
ends_again (Held x t (InList u es)) ks p r e = absurd (no_accept ks p r e)
ends_again (Held x t (InOther f v c)) ks p r e = absurd (no_accept ks p r e)
ends_again (Held x t (InCondition ps c)) ks p r e = absurd (no_accept ks p r e)
ends_again (Held x t (InChoice ps a c)) ks p r e = absurd (no_accept ks p r e)
ends_again (Held x t (InActuals u es c)) ks p r e = absurd (no_accept ks p r e)
ends_again (Entering label routine c) ks p r e = absurd (no_accept ks p r e)
ends_again (Routed label c) ks p r e = absurd (no_accept ks p r e)
ends_again (Calling f c) ks p r e = absurd (no_accept ks p r e)
ends_again (Behind f v c) ks p r e = absurd (no_accept ks p r e)
ends_again (Got v) ks p r e = (accept_rest (Target v) p ks r e, λ ls. ap (λ (q : Phrase). Accept q ls) (accept_phrase (Target v) p ks r e))

again_as : (s : State) (ks : List Symbol) (p : Phrase) (r : List Symbol) → EndsAgain s ks p r → ((ls : List Symbol) → finish s ls ≡ ends s ls) → Again s ks p r
again_as s ks p r h f = record { rest = h.0; again = λ ls. f ls ∙ h.1 ls }

pub finish_again : (s : State) (ks : List Symbol) (p : Phrase) (r : List Symbol) → finish s ks ≡ Accept p r → Again s ks p r
finish_again (Wanted c) ks p r e = again_as (Wanted c) ks p r (ends_again (Wanted c) ks p r e) (λ ls. refl)
finish_again (Sought q) ks p r e = again_as (Sought q) ks p r (ends_again (Sought q) ks p r e) (λ ls. refl)
finish_again (Marked q) ks p r e = again_as (Marked q) ks p r (ends_again (Marked q) ks p r e) (λ ls. refl)
finish_again (Named scope word q) ks p r e = let h = ends_again (placed (Var scope word No) q) ks p r e in record { rest = h.0; again = h.1 }
finish_again (Entering None None c) ks p r e = again_as (Entering None None c) ks p r (ends_again (Entering None None c) ks p r e) (λ ls. refl)
finish_again (Entering (Some l) n c) ks p r e = let h = ends_again (filled (Extrinsic (entry_at (Some l) n) NoActual) c) ks p r e in record { rest = h.0; again = h.1 }
finish_again (Entering None (Some n) c) ks p r e = let h = ends_again (filled (Extrinsic (entry_at None (Some n)) NoActual) c) ks p r e in record { rest = h.0; again = h.1 }
finish_again (Routed label c) ks p r e = again_as (Routed label c) ks p r (ends_again (Routed label c) ks p r e) (λ ls. refl)
finish_again (Calling f c) ks p r e = again_as (Calling f c) ks p r (ends_again (Calling f c) ks p r e) (λ ls. refl)
finish_again (Behind f v c) ks p r e = again_as (Behind f v c) ks p r (ends_again (Behind f v c) ks p r e) (λ ls. refl)
finish_again (Held x t o) ks p r e = again_as (Held x t o) ks p r (ends_again (Held x t o) ks p r e) (λ ls. refl)
finish_again (Got v) ks p r e = again_as (Got v) ks p r (ends_again (Got v) ks p r e) (λ ls. refl)

length_as : (m : Limits) (k : Symbol) (ks : List Symbol) (s : State) (p : Phrase) (r : List Symbol) (x : Next) →
    ((t : State) → run m ks t ≡ Accept p r → length r ≤ length ks) → turn m ks s k x ≡ Accept p r → length r ≤ length (k ∷ ks)
length_as m k ks s p r (Go t) h f = let g = h t f in omega arith
length_as m k ks s p r Stuck h f = let g = ap (length {A = Symbol}) (finish_again s (k ∷ ks) p r f).rest in omega arith
length_as m k ks s p r Deep h f = absurd (let g : DeepAt (length (k ∷ ks)) ≡ Accept p r = f in cc)
length_as m k ks s p r Long h f = absurd (let g : TooLong ≡ Accept p r = f in cc)

-- what a run leaves is no longer than what it was given
pub accept_length : (m : Limits) (ks : List Symbol) (s : State) (p : Phrase) (r : List Symbol) → run m ks s ≡ Accept p r → length r ≤ length ks
accept_length m [] s p r e = let h = ap (length {A = Symbol}) (finish_again s [] p r e).rest in omega arith
accept_length m (k ∷ ks) s p r e = length_as m k ks s p r (step m s k) (λ t f. accept_length m ks t p r f) e

-- ---- states that are reached

-- a variable is wanted only alone
abbrev pub IsReached : State → Type 0
IsReached (Sought (AsOperand c)) = ⊥
IsReached s = Unit {0}

abbrev pub NextReached : Next → Type 0
NextReached (Go s) = IsReached s
NextReached n = Unit {0}

filled_reached : (x : Operand) (c : Within) → IsReached (filled x c)
filled_reached x c = let f = filled_outer x c in let P : State → Type 0 = λ s. IsReached s in subst P (sym f.2) tt

placed_reached : (v : Variable) (p : Place) → IsReached (placed v p)
placed_reached v (AsOperand c) = filled_reached (Value v) c
placed_reached v (AsNamed f c) = tt
placed_reached v AsTarget = tt

closed_reached : (u : Owner) (es : Exprs) → IsReached (closed u es)
closed_reached (Subscripts scope word p) es = placed_reached (Var scope word es) p
closed_reached (Arguments f c) es = filled_reached (Call f es) c

opens_reached : (s : State) (b : Bool) → IsReached s → NextReached (cond b (Go s) Deep)
opens_reached s true h = h
opens_reached s false h = tt

full_reached : (b : Bool) → NextReached (cond b Long Stuck)
full_reached true = tt
full_reached false = tt

comma_reached : (s : State) (b d : Bool) → IsReached s → NextReached (cond b (Go s) (cond d Long Stuck))
comma_reached s true d h = h
comma_reached s false d h = full_reached d

close_reached : (s : State) (b : Bool) → IsReached s → NextReached (cond b (Go s) Stuck)
close_reached s true h = h
close_reached s false h = tt

comma_at_reached : (m : Limits) (c : Within) → NextReached (comma_at m c)
comma_at_reached m (Front Alone) = tt
comma_at_reached m (Front (InGroup c)) = tt
comma_at_reached m (Front (InList u es)) = full_reached (is_full m (InList u es))
comma_at_reached m (Front (InOther f v c)) = tt
comma_at_reached m (Front (InCondition ps c)) = tt
comma_at_reached m (Front (InChoice ps a c)) = tt
comma_at_reached m (Front (InActuals t es c)) = tt
comma_at_reached m (Right x r op o) = full_reached (is_full m o)
comma_at_reached m (Under op c) = full_reached (is_full m (outer_of c))

close_at_reached : (c : Within) → NextReached (close_at c)
close_at_reached (Front Alone) = tt
close_at_reached (Front (InGroup c)) = tt
close_at_reached (Front (InList u es)) = tt
close_at_reached (Front (InOther f v c)) = tt
close_at_reached (Front (InCondition ps c)) = tt
close_at_reached (Front (InChoice ps a c)) = tt
close_at_reached (Front (InActuals t es c)) = filled_reached (Extrinsic t (and_omitted es)) c
close_at_reached (Right x r op o) = tt
close_at_reached (Under op c) = tt

want_other_reached : (m : Limits) (c : Within) (s : Sign) → NextReached (want_other m c s)
want_other_reached m c Caret = tt
want_other_reached m c Open = opens_reached _ (nat_lt _ m.depth) tt
want_other_reached m c Comma = comma_at_reached m c
want_other_reached m c Close = close_at_reached c
want_other_reached m c s = tt

want_sign_reached : (m : Limits) (c : Within) (s : Sign) (q : Option UnaryOp) → NextReached (want_sign m c s q)
want_sign_reached m c s (Some op) = opens_reached _ (nat_lt _ m.depth) tt
want_sign_reached m c s None = want_other_reached m c s

hold_other_reached : (m : Limits) (e : Expr) (o : Outer) (s : Sign) → NextReached (hold_other m e o s)
hold_other_reached m e Alone Close = tt
hold_other_reached m e (InGroup c) Close = filled_reached (Group e) c
hold_other_reached m e (InList u es) Close = close_reached _ (nat_le (least_of u) (count es + 1)) (closed_reached u (and_more es e))
hold_other_reached m e (InOther f v c) Close = filled_reached (About f v (More e No)) c
hold_other_reached m e (InCondition ps c) Close = tt
hold_other_reached m e (InChoice ps a c) Close = filled_reached (Select (before_choices ps (Last a e))) c
hold_other_reached m e (InActuals t es c) Close = filled_reached (Extrinsic t (and_given es e)) c
hold_other_reached m e Alone Colon = tt
hold_other_reached m e (InGroup c) Colon = tt
hold_other_reached m e (InList u es) Colon = tt
hold_other_reached m e (InOther f v c) Colon = tt
hold_other_reached m e (InCondition ps c) Colon = tt
hold_other_reached m e (InChoice ps a c) Colon = tt
hold_other_reached m e (InActuals t es c) Colon = tt
hold_other_reached m e Alone Comma = tt
hold_other_reached m e (InGroup c) Comma = tt
hold_other_reached m e (InList u es) Comma = comma_reached _ (nat_lt (count es + 1) (most_of m u)) (is_limited u) tt
hold_other_reached m e (InOther f v c) Comma = tt
hold_other_reached m e (InCondition ps c) Comma = tt
hold_other_reached m e (InChoice ps a c) Comma = tt
hold_other_reached m e (InActuals t es c) Comma = tt
hold_other_reached m e o s = tt

hold_sign_reached : (m : Limits) (x : Operand) (r : Tails) (o : Outer) (s : Sign) (q : Option Op) → NextReached (hold_sign m x r o s q)
hold_sign_reached m x r o s (Some op) = tt
hold_sign_reached m x r o s None = hold_other_reached m (Chain x r) o s

hold_reached : (m : Limits) (x : Operand) (r : Tails) (o : Outer) (k : Symbol) → NextReached (hold m x r o k)
hold_reached m x r o (Mark s) = hold_sign_reached m x r o s (binary_of s)
hold_reached m x r o (Constant v) = tt
hold_reached m x r o (Inherent v) = tt
hold_reached m x r o (Name w) = tt
hold_reached m x r o (Applied f) = tt
hold_reached m x r o (Entry l) = tt
hold_reached m x r o Overlong = tt
hold_reached m x r o Other = tt

another_reached : (s : State) (b d : Bool) → IsReached s → NextReached (cond b (cond d (Go s) Stuck) Stuck)
another_reached s true d h = close_reached s d h
another_reached s false d h = tt

behind_reached : (f : NameFunction) (v : Variable) (c : Within) (k : Symbol) → NextReached (after_variable f v c k)
behind_reached f v c (Mark Close) = close_reached _ (suffices f v) (filled_reached (About f v No) c)
behind_reached f v c (Mark Comma) = another_reached _ (suffices f v) (nat_lt 0 (most_others f)) tt
behind_reached f v c k = tt

inside_reached : (f : Callee) (c : Within) → IsReached (inside f c)
inside_reached (callee.Texts f) c = tt
inside_reached (callee.Names f) c = tt
inside_reached callee.Select c = tt

on_reached : (m : Limits) (s : State) (k : Symbol) → NextReached (on m s k)
on_reached m (Held x r o) k = hold_reached m x r o k
on_reached m (Behind f v c) k = behind_reached f v c k
on_reached m (Wanted c) k = tt
on_reached m (Sought p) k = tt
on_reached m (Marked p) k = tt
on_reached m (Named scope word p) k = tt
on_reached m (Entering label routine c) k = tt
on_reached m (Routed label c) k = tt
on_reached m (Calling f c) k = tt
on_reached m (Got v) k = tt

pub step_reached : (m : Limits) (s : State) (k : Symbol) → NextReached (step m s k)
step_reached m (Wanted c) (Constant v) = filled_reached (Literal v) c
step_reached m (Wanted c) (Inherent v) = filled_reached (Intrinsic v) c
step_reached m (Wanted c) (Name w) = tt
step_reached m (Wanted c) (Applied f) = opens_reached _ (nat_le _ m.depth) tt
step_reached m (Wanted c) (Entry l) = tt
step_reached m (Wanted c) (Mark s) = want_sign_reached m c s (unary_of s)
step_reached m (Wanted c) Overlong = tt
step_reached m (Wanted c) Other = tt
step_reached m (Sought p) (Name w) = tt
step_reached m (Sought p) (Mark Caret) = tt
step_reached m (Sought p) k = tt
step_reached m (Marked p) (Name w) = tt
step_reached m (Marked p) (Mark Comma) = full_reached (is_full_in m p)
step_reached m (Marked p) k = tt
step_reached m (Named scope word p) (Mark Open) = opens_reached _ (nat_lt _ m.depth) tt
step_reached m (Named scope word p) k = on_reached m (placed (Var scope word No) p) k
step_reached m (Entering None None c) (Mark Caret) = tt
step_reached m (Entering None None c) (Mark Comma) = full_reached (is_full m (outer_of c))
step_reached m (Entering None None c) k = tt
step_reached m (Entering (Some l) None c) (Mark Caret) = tt
step_reached m (Entering (Some l) None c) (Mark Open) = opens_reached _ (nat_lt _ m.depth) tt
step_reached m (Entering (Some l) None c) k = on_reached m (filled (Extrinsic (entry_at (Some l) None) NoActual) c) k
step_reached m (Entering None (Some n) c) (Mark Open) = opens_reached _ (nat_lt _ m.depth) tt
step_reached m (Entering None (Some n) c) k = on_reached m (filled (Extrinsic (entry_at None (Some n)) NoActual) c) k
step_reached m (Entering (Some l) (Some n) c) (Mark Open) = opens_reached _ (nat_lt _ m.depth) tt
step_reached m (Entering (Some l) (Some n) c) k = on_reached m (filled (Extrinsic (entry_at (Some l) (Some n)) NoActual) c) k
step_reached m (Routed label c) (Name w) = tt
step_reached m (Routed label c) (Mark Comma) = full_reached (is_full m (outer_of c))
step_reached m (Routed label c) k = tt
step_reached m (Calling f c) (Mark Open) = inside_reached f c
step_reached m (Calling f c) k = tt
step_reached m (Behind f v c) k = behind_reached f v c k
step_reached m (Held x r o) k = hold_reached m x r o k
step_reached m (Got v) k = tt

-- ---- constants, names and overlong words

abbrev pub IsPlain : Symbol → Type 0
IsPlain (Constant v) = Unit {0}
IsPlain (Inherent v) = Unit {0}
IsPlain (Name w) = Unit {0}
IsPlain k = ⊥

-- it goes on, or nothing does
abbrev pub IsEasy : Next → Type 0
IsEasy (Go s) = Unit {0}
IsEasy Stuck = Unit {0}
IsEasy Deep = ⊥
IsEasy Long = ⊥

pub on_stuck : (m : Limits) (v : Variable) (p : Place) (k : Symbol) → ((x : Operand) (r : Tails) (o : Outer) → hold m x r o k ≡ Stuck) →
    ((f : NameFunction) (c : Within) → after_variable f v c k ≡ Stuck) → on m (placed v p) k ≡ Stuck
on_stuck m v (AsNamed f c) k h i = i f c
on_stuck m v (AsOperand c) k h i = let f = filled_outer (Value v) c in ap (λ (s : State). on m s k) f.2 ∙ h f.0 f.1 (outer_of c)
on_stuck m v AsTarget k h i = refl

pub filled_stuck : (m : Limits) (x : Operand) (c : Within) (k : Symbol) → ((y : Operand) (r : Tails) (o : Outer) → hold m y r o k ≡ Stuck) → on m (filled x c) k ≡ Stuck
filled_stuck m x c k h = let f = filled_outer x c in ap (λ (s : State). on m s k) f.2 ∙ h f.0 f.1 (outer_of c)

pub overlong_stuck : (m : Limits) (s : State) → step m s Overlong ≡ Stuck
overlong_stuck m (Wanted c) = refl
overlong_stuck m (Sought p) = refl
overlong_stuck m (Marked p) = refl
overlong_stuck m (Named scope word p) = on_stuck m (Var scope word No) p Overlong (λ x r o. refl) (λ f c. refl)
overlong_stuck m (Entering None None c) = refl
overlong_stuck m (Entering (Some l) None c) = filled_stuck m (Extrinsic (entry_at (Some l) None) NoActual) c Overlong (λ y r o. refl)
overlong_stuck m (Entering None (Some n) c) = filled_stuck m (Extrinsic (entry_at None (Some n)) NoActual) c Overlong (λ y r o. refl)
overlong_stuck m (Entering (Some l) (Some n) c) = filled_stuck m (Extrinsic (entry_at (Some l) (Some n)) NoActual) c Overlong (λ y r o. refl)
overlong_stuck m (Routed label c) = refl
overlong_stuck m (Calling f c) = refl
overlong_stuck m (Behind f v c) = refl
overlong_stuck m (Held x r o) = refl
overlong_stuck m (Got v) = refl

pub easy_as : (n o : Next) → n ≡ o → IsEasy o → IsEasy n
easy_as n o e h = let P : Next → Type 0 = λ x. IsEasy x in subst P (sym e) h

pub plain_easy : (m : Limits) (s : State) (k : Symbol) → IsPlain k → IsEasy (step m s k)
plain_easy m (Wanted c) (Constant v) h = tt
plain_easy m (Wanted c) (Inherent v) h = tt
plain_easy m (Wanted c) (Name w) h = tt
plain_easy m (Sought p) (Constant v) h = tt
plain_easy m (Sought p) (Inherent v) h = tt
plain_easy m (Sought p) (Name w) h = tt
plain_easy m (Marked p) (Constant v) h = tt
plain_easy m (Marked p) (Inherent v) h = tt
plain_easy m (Marked p) (Name w) h = tt
plain_easy m (Named scope word p) (Constant v) h = easy_as (step m (Named scope word p) (Constant v)) Stuck (on_stuck m (Var scope word No) p (Constant v) (λ x r o. refl) (λ f c. refl)) tt
plain_easy m (Named scope word p) (Inherent v) h = easy_as (step m (Named scope word p) (Inherent v)) Stuck (on_stuck m (Var scope word No) p (Inherent v) (λ x r o. refl) (λ f c. refl)) tt
plain_easy m (Named scope word p) (Name w) h = easy_as (step m (Named scope word p) (Name w)) Stuck (on_stuck m (Var scope word No) p (Name w) (λ x r o. refl) (λ f c. refl)) tt
plain_easy m (Held x r o) (Constant v) h = tt
plain_easy m (Held x r o) (Inherent v) h = tt
plain_easy m (Held x r o) (Name w) h = tt
plain_easy m (Behind f u c) (Constant v) h = tt
plain_easy m (Behind f u c) (Inherent v) h = tt
plain_easy m (Behind f u c) (Name w) h = tt
plain_easy m (Entering None None c) (Constant v) h = tt
plain_easy m (Entering (Some l) None c) (Constant v) h =
    easy_as (step m (Entering (Some l) None c) (Constant v)) Stuck (filled_stuck m (Extrinsic (entry_at (Some l) None) NoActual) c (Constant v) (λ y r o. refl)) tt
plain_easy m (Entering None (Some n) c) (Constant v) h =
    easy_as (step m (Entering None (Some n) c) (Constant v)) Stuck (filled_stuck m (Extrinsic (entry_at None (Some n)) NoActual) c (Constant v) (λ y r o. refl)) tt
plain_easy m (Entering (Some l) (Some n) c) (Constant v) h =
    easy_as (step m (Entering (Some l) (Some n) c) (Constant v)) Stuck (filled_stuck m (Extrinsic (entry_at (Some l) (Some n)) NoActual) c (Constant v) (λ y r o. refl)) tt
plain_easy m (Routed label c) (Constant v) h = tt
plain_easy m (Entering None None c) (Inherent v) h = tt
plain_easy m (Entering (Some l) None c) (Inherent v) h =
    easy_as (step m (Entering (Some l) None c) (Inherent v)) Stuck (filled_stuck m (Extrinsic (entry_at (Some l) None) NoActual) c (Inherent v) (λ y r o. refl)) tt
plain_easy m (Entering None (Some n) c) (Inherent v) h =
    easy_as (step m (Entering None (Some n) c) (Inherent v)) Stuck (filled_stuck m (Extrinsic (entry_at None (Some n)) NoActual) c (Inherent v) (λ y r o. refl)) tt
plain_easy m (Entering (Some l) (Some n) c) (Inherent v) h =
    easy_as (step m (Entering (Some l) (Some n) c) (Inherent v)) Stuck (filled_stuck m (Extrinsic (entry_at (Some l) (Some n)) NoActual) c (Inherent v) (λ y r o. refl)) tt
plain_easy m (Routed label c) (Inherent v) h = tt
plain_easy m (Entering None None c) (Name w) h = tt
plain_easy m (Entering (Some l) None c) (Name w) h =
    easy_as (step m (Entering (Some l) None c) (Name w)) Stuck (filled_stuck m (Extrinsic (entry_at (Some l) None) NoActual) c (Name w) (λ y r o. refl)) tt
plain_easy m (Entering None (Some n) c) (Name w) h =
    easy_as (step m (Entering None (Some n) c) (Name w)) Stuck (filled_stuck m (Extrinsic (entry_at None (Some n)) NoActual) c (Name w) (λ y r o. refl)) tt
plain_easy m (Entering (Some l) (Some n) c) (Name w) h =
    easy_as (step m (Entering (Some l) (Some n) c) (Name w)) Stuck (filled_stuck m (Extrinsic (entry_at (Some l) (Some n)) NoActual) c (Name w) (λ y r o. refl)) tt
plain_easy m (Routed label c) (Name w) h = tt
plain_easy m (Calling f c) (Constant v) h = tt
plain_easy m (Calling f c) (Inherent v) h = tt
plain_easy m (Calling f c) (Name w) h = tt
plain_easy m (Got v) k h = tt
plain_easy m s (Applied f) h = absurd h
plain_easy m s (Entry l) h = absurd h
plain_easy m s (Mark z) h = absurd h
plain_easy m s Overlong h = absurd h
plain_easy m s Other h = absurd h
