-- What is known at any state of commas, and of levels.
use Rattle.std.proofs.Common.{◌≡◌, ℕ, ◌+◌, List, ◌∷◌, refl, ap, sym, ◌∙◌, subst, Bool, true, false, nat_lt, Option, Some, None, nat_le}
use Rattle.std.specs.Prelude.{cond, not, ◌&&◌}
use Rattle.mj_ast.specs.declared.sign.Sign.{Sign}
use Rattle.mj_ast.specs.declared.sign.Sign.TheVariants.{Caret, Open, Close, Comma, Colon}
use Rattle.mj_oper.specs.declared.op.UnaryOp.{UnaryOp}
use Rattle.mj_oper.specs.declared.op.Op.{Op}
use Rattle.mj_ast.specs.declared.expr.Scope.TheVariants.{Local, Global}
use Rattle.mj_ast.specs.Syntax.{Expr, Chain, Operand, Literal, Value, Intrinsic, Tails, Variable, Var, No, Extrinsic, NoActual}
use Rattle.mj_ast.specs.declared.function.NameFunction.{NameFunction}
use Rattle.mj_ast.specs.declared.function.Callee.{Callee}
use Rattle.mj_ast.specs.Expressions.{Symbol, Constant, Inherent, Name, Applied, Entry, Overlong, Mark, Other, count, most_others, levels}
use Rattle.mj_expr.specs.Machine.{Outer, Alone, InGroup, InList, InOther, InCondition, InChoice, InActuals, least_of, most_of, is_limited, Within, Front, Right, Under, AsOperand, AsNamed, AsTarget, State, Wanted, Sought, Marked, Named, Entering, Routed, Calling, Behind, Held, Got, entry_at, comma_at, close_at, filled, placed, outer_of, Limits, Next, Go, Stuck, Deep, Long, opens, opens_call, depth_of, suffices, after_variable, is_full, is_full_in, want_other, want_sign, hold_other, hold_sign, hold, on, step, unary_of, binary_of, and_more}
use Rattle.mj_expr.proofs.Facts.{filled_outer}
use Rattle.mj_expr.proofs.Turns.{IsReached, IsPlain, IsEasy, easy_as, on_stuck, filled_stuck}

-- ---- commas

-- a comma opens no level
abbrev pub IsNoLevel : Next → Type 0
IsNoLevel Deep = ⊥
IsNoLevel n = Unit {0}

level_full : (b : Bool) → IsNoLevel (cond b Long Stuck)
level_full true = tt
level_full false = tt

level_comma : (s : State) (b d : Bool) → IsNoLevel (cond b (Go s) (cond d Long Stuck))
level_comma s true d = tt
level_comma s false d = level_full d

level_close : (s : State) (b : Bool) → IsNoLevel (cond b (Go s) Stuck)
level_close s true = tt
level_close s false = tt

held_level : (m : Limits) (x : Operand) (r : Tails) (o : Outer) → IsNoLevel (hold m x r o (Mark Comma))
held_level m x r Alone = tt
held_level m x r (InGroup c) = tt
held_level m x r (InList u es) = level_comma _ (nat_lt (count es + 1) (most_of m u)) (is_limited u)
held_level m x r (InOther f v c) = tt
held_level m x r (InCondition ps c) = tt
held_level m x r (InChoice ps a c) = tt
held_level m x r (InActuals t es c) = tt

level_another : (s : State) (b d : Bool) → IsNoLevel (cond b (cond d (Go s) Stuck) Stuck)
level_another s true d = level_close s d
level_another s false d = tt

behind_level : (f : NameFunction) (v : Variable) (c : Within) (k : Symbol) → IsNoLevel (after_variable f v c k)
behind_level f v c (Mark Close) = level_close _ (suffices f v)
behind_level f v c (Mark Comma) = level_another _ (suffices f v) (nat_lt 0 (most_others f))
behind_level f v c k = tt

on_level : (m : Limits) (s : State) → IsNoLevel (on m s (Mark Comma))
on_level m (Held x r o) = held_level m x r o
on_level m (Behind f v c) = behind_level f v c (Mark Comma)
on_level m (Wanted c) = tt
on_level m (Sought p) = tt
on_level m (Marked p) = tt
on_level m (Named scope word p) = tt
on_level m (Entering label routine c) = tt
on_level m (Routed label c) = tt
on_level m (Calling f c) = tt
on_level m (Got v) = tt

comma_at_level : (m : Limits) (c : Within) → IsNoLevel (comma_at m c)
comma_at_level m (Front Alone) = tt
comma_at_level m (Front (InGroup c)) = tt
comma_at_level m (Front (InList u es)) = level_full (is_full m (InList u es))
comma_at_level m (Front (InOther f v c)) = tt
comma_at_level m (Front (InCondition ps c)) = tt
comma_at_level m (Front (InChoice ps a c)) = tt
comma_at_level m (Front (InActuals t es c)) = tt
comma_at_level m (Right x r op o) = level_full (is_full m o)
comma_at_level m (Under op c) = level_full (is_full m (outer_of c))

close_at_level : (c : Within) → IsNoLevel (close_at c)
close_at_level (Front Alone) = tt
close_at_level (Front (InGroup c)) = tt
close_at_level (Front (InList u es)) = tt
close_at_level (Front (InOther f v c)) = tt
close_at_level (Front (InCondition ps c)) = tt
close_at_level (Front (InChoice ps a c)) = tt
close_at_level (Front (InActuals t es c)) = tt
close_at_level (Right x r op o) = tt
close_at_level (Under op c) = tt

pub comma_level : (m : Limits) (s : State) → IsNoLevel (step m s (Mark Comma))
comma_level m (Wanted c) = comma_at_level m c
comma_level m (Sought p) = tt
comma_level m (Marked p) = level_full (is_full_in m p)
comma_level m (Named scope word p) = on_level m (placed (Var scope word No) p)
comma_level m (Entering None None c) = level_full (is_full m (outer_of c))
comma_level m (Entering (Some l) None c) = on_level m (filled (Extrinsic (entry_at (Some l) None) NoActual) c)
comma_level m (Entering None (Some n) c) = on_level m (filled (Extrinsic (entry_at None (Some n)) NoActual) c)
comma_level m (Entering (Some l) (Some n) c) = on_level m (filled (Extrinsic (entry_at (Some l) (Some n)) NoActual) c)
comma_level m (Routed label c) = level_full (is_full m (outer_of c))
comma_level m (Calling f c) = tt
comma_level m (Behind f v c) = behind_level f v c (Mark Comma)
comma_level m (Held x r o) = held_level m x r o
comma_level m (Got v) = tt

-- Where a comma behind one constant or name is one too many, a comma here is too.
abbrev pub CommaAfter : Limits → State → Next → Type 0
CommaAfter m s (Go t) = step m t (Mark Comma) ≡ Long → step m s (Mark Comma) ≡ Long
CommaAfter m s n = Unit {0}

stuck_long : Stuck ≡ Long → ⊥
stuck_long e = cc

go_long : (s : State) → Go s ≡ Long → ⊥
go_long s e = cc

full_as : (s : State) (b d : Bool) → cond b (Go s) (cond d Long Stuck) ≡ Long → (d && not b) ≡ true
full_as s true d f = absurd (go_long s f)
full_as s false true f = refl
full_as s false false f = absurd (stuck_long f)

held_full : (m : Limits) (x : Operand) (r : Tails) (o : Outer) → hold m x r o (Mark Comma) ≡ Long → is_full m o ≡ true
held_full m x r Alone e = absurd (stuck_long e)
held_full m x r (InGroup c) e = absurd (stuck_long e)
held_full m x r (InList u es) e = full_as _ (nat_lt (count es + 1) (most_of m u)) (is_limited u) e
held_full m x r (InOther f v c) e = absurd (stuck_long e)
held_full m x r (InCondition ps c) e = absurd (stuck_long e)
held_full m x r (InChoice ps a c) e = absurd (go_long _ e)
held_full m x r (InActuals t es c) e = absurd (go_long _ e)

filled_full : (m : Limits) (x : Operand) (c : Within) → step m (filled x c) (Mark Comma) ≡ Long → is_full m (outer_of c) ≡ true
filled_full m x c e = let f = filled_outer x c in held_full m f.0 f.1 (outer_of c) (sym (ap (λ (s : State). step m s (Mark Comma)) f.2) ∙ e)

on_filled_full : (m : Limits) (x : Operand) (c : Within) → on m (filled x c) (Mark Comma) ≡ Long → is_full m (outer_of c) ≡ true
on_filled_full m x c e = let f = filled_outer x c in held_full m f.0 f.1 (outer_of c) (sym (ap (λ (s : State). on m s (Mark Comma)) f.2) ∙ e)

-- a comma where an operand is wanted is one too many in a full list
true_false : {A : Type 0} → false ≡ true → A
true_false e = absurd (let h : false ≡ true = e in cc)

full_at : (m : Limits) (c : Within) → is_full m (outer_of c) ≡ true → comma_at m c ≡ Long
full_at m (Front Alone) e = true_false e
full_at m (Front (InGroup c)) e = true_false e
full_at m (Front (InList u es)) e = ap (λ (b : Bool). cond b Long Stuck) e
full_at m (Front (InOther f v c)) e = true_false e
full_at m (Front (InCondition ps c)) e = true_false e
full_at m (Front (InChoice ps a c)) e = true_false e
full_at m (Front (InActuals t es c)) e = true_false e
full_at m (Right x r op o) e = ap (λ (b : Bool). cond b Long Stuck) e
full_at m (Under op c) e = ap (λ (b : Bool). cond b Long Stuck) e

on_full : (m : Limits) (v : Variable) (c : Within) → on m (placed v (AsOperand c)) (Mark Comma) ≡ Long → is_full m (outer_of c) ≡ true
on_full m v c e = on_filled_full m (Value v) c e

another_long : (s : State) (b d : Bool) → cond b (cond d (Go s) Stuck) Stuck ≡ Long → ⊥
another_long s true true e = go_long s e
another_long s true false e = stuck_long e
another_long s false d e = stuck_long e

behind_long : (f : NameFunction) (v : Variable) (c : Within) → after_variable f v c (Mark Comma) ≡ Long → ⊥
behind_long f v c e = another_long _ (suffices f v) (nat_lt 0 (most_others f)) e

after_as : (m : Limits) (s : State) (n : Next) → n ≡ Stuck → CommaAfter m s n
after_as m s n e = let P : Next → Type 0 = λ x. CommaAfter m s x in subst P (sym e) tt

pub comma_after : (m : Limits) (s : State) (k : Symbol) → IsReached s → IsPlain k → CommaAfter m s (step m s k)
comma_after m (Wanted c) (Constant v) i h = λ e. full_at m c (filled_full m (Literal v) c e)
comma_after m (Wanted c) (Inherent v) i h = λ e. full_at m c (filled_full m (Intrinsic v) c e)
comma_after m (Wanted c) (Name w) i h = λ e. full_at m c (on_full m (Var Local w No) c e)
comma_after m (Sought AsTarget) (Constant v) i h = tt
comma_after m (Sought AsTarget) (Inherent v) i h = tt
comma_after m (Sought AsTarget) (Name w) i h = λ e. absurd (stuck_long e)
comma_after m (Sought (AsNamed f c)) (Constant v) i h = tt
comma_after m (Sought (AsNamed f c)) (Inherent v) i h = tt
comma_after m (Sought (AsNamed f c)) (Name w) i h = λ e. absurd (behind_long f (Var Local w No) c e)
comma_after m (Sought (AsOperand c)) k i h = absurd i
comma_after m (Marked p) (Constant v) i h = tt
comma_after m (Marked p) (Inherent v) i h = tt
comma_after m (Marked (AsOperand c)) (Name w) i h = λ e. ap (λ (b : Bool). cond b Long Stuck) (on_full m (Var Global w No) c e)
comma_after m (Marked (AsNamed f c)) (Name w) i h = λ e. absurd (behind_long f (Var Global w No) c e)
comma_after m (Marked AsTarget) (Name w) i h = λ e. absurd (stuck_long e)
comma_after m (Named scope word p) (Constant v) i h = after_as m (Named scope word p) (step m (Named scope word p) (Constant v))
    (on_stuck m (Var scope word No) p (Constant v) (λ x r o. refl) (λ f c. refl))
comma_after m (Named scope word p) (Inherent v) i h = after_as m (Named scope word p) (step m (Named scope word p) (Inherent v))
    (on_stuck m (Var scope word No) p (Inherent v) (λ x r o. refl) (λ f c. refl))
comma_after m (Named scope word p) (Name w) i h = after_as m (Named scope word p) (step m (Named scope word p) (Name w)) (on_stuck m (Var scope word No) p (Name w) (λ x r o. refl) (λ f c. refl))
comma_after m (Held x r o) (Constant v) i h = tt
comma_after m (Held x r o) (Inherent v) i h = tt
comma_after m (Held x r o) (Name w) i h = tt
comma_after m (Behind f u c) (Constant v) i h = tt
comma_after m (Behind f u c) (Inherent v) i h = tt
comma_after m (Behind f u c) (Name w) i h = tt
comma_after m (Entering None None c) (Constant v) i h = tt
comma_after m (Entering (Some l) None c) (Constant v) i h =
    after_as m (Entering (Some l) None c) (step m (Entering (Some l) None c) (Constant v)) (filled_stuck m (Extrinsic (entry_at (Some l) None) NoActual) c (Constant v) (λ y r o. refl))
comma_after m (Entering None (Some n) c) (Constant v) i h =
    after_as m (Entering None (Some n) c) (step m (Entering None (Some n) c) (Constant v)) (filled_stuck m (Extrinsic (entry_at None (Some n)) NoActual) c (Constant v) (λ y r o. refl))
comma_after m (Entering (Some l) (Some n) c) (Constant v) i h =
    after_as m (Entering (Some l) (Some n) c) (step m (Entering (Some l) (Some n) c) (Constant v)) (filled_stuck m (Extrinsic (entry_at (Some l) (Some n)) NoActual) c (Constant v) (λ y r o. refl))
comma_after m (Entering None None c) (Inherent v) i h = tt
comma_after m (Entering (Some l) None c) (Inherent v) i h =
    after_as m (Entering (Some l) None c) (step m (Entering (Some l) None c) (Inherent v)) (filled_stuck m (Extrinsic (entry_at (Some l) None) NoActual) c (Inherent v) (λ y r o. refl))
comma_after m (Entering None (Some n) c) (Inherent v) i h =
    after_as m (Entering None (Some n) c) (step m (Entering None (Some n) c) (Inherent v)) (filled_stuck m (Extrinsic (entry_at None (Some n)) NoActual) c (Inherent v) (λ y r o. refl))
comma_after m (Entering (Some l) (Some n) c) (Inherent v) i h =
    after_as m (Entering (Some l) (Some n) c) (step m (Entering (Some l) (Some n) c) (Inherent v)) (filled_stuck m (Extrinsic (entry_at (Some l) (Some n)) NoActual) c (Inherent v) (λ y r o. refl))
comma_after m (Entering None None c) (Name w) i h = tt
comma_after m (Entering (Some l) None c) (Name w) i h =
    after_as m (Entering (Some l) None c) (step m (Entering (Some l) None c) (Name w)) (filled_stuck m (Extrinsic (entry_at (Some l) None) NoActual) c (Name w) (λ y r o. refl))
comma_after m (Entering None (Some n) c) (Name w) i h =
    after_as m (Entering None (Some n) c) (step m (Entering None (Some n) c) (Name w)) (filled_stuck m (Extrinsic (entry_at None (Some n)) NoActual) c (Name w) (λ y r o. refl))
comma_after m (Entering (Some l) (Some n) c) (Name w) i h =
    after_as m (Entering (Some l) (Some n) c) (step m (Entering (Some l) (Some n) c) (Name w)) (filled_stuck m (Extrinsic (entry_at (Some l) (Some n)) NoActual) c (Name w) (λ y r o. refl))
comma_after m (Routed label c) (Constant v) i h = tt
comma_after m (Routed label c) (Inherent v) i h = tt
comma_after m (Routed None c) (Name w) i h = λ e. ap (λ (b : Bool). cond b Long Stuck) (on_filled_full m (Extrinsic (entry_at None (Some w)) NoActual) c e)
comma_after m (Routed (Some l) c) (Name w) i h = λ e. ap (λ (b : Bool). cond b Long Stuck) (on_filled_full m (Extrinsic (entry_at (Some l) (Some w)) NoActual) c e)
comma_after m (Calling f c) (Constant v) i h = tt
comma_after m (Calling f c) (Inherent v) i h = tt
comma_after m (Calling f c) (Name w) i h = tt
comma_after m (Got v) k i h = tt
comma_after m s (Applied f) i h = absurd h
comma_after m s (Entry l) i h = absurd h
comma_after m s (Mark z) i h = absurd h
comma_after m s Overlong i h = absurd h
comma_after m s Other i h = absurd h

-- ---- levels

-- Where a level too many opens, it does however long the lists may be.
abbrev pub DeepBy : (Limits → Next) → Limits → Next → Type 0
DeepBy at m Deep = (l : Limits) → l.depth ≡ m.depth → at l ≡ Deep
DeepBy at m n = Unit {0}

deep_opens : (m : Limits) (d : ℕ) (s : State) (b : Bool) → nat_lt d m.depth ≡ b → DeepBy (λ l. opens l d s) m (cond b (Go s) Deep)
deep_opens m d s true e = tt
deep_opens m d s false e = λ l i. ap (λ (n : ℕ). cond (nat_lt d n) (Go s) Deep) i ∙ ap (λ (b : Bool). cond b (Go s) Deep) e

deep_call : (m : Limits) (f : Callee) (c : Within) (b : Bool) → nat_le (depth_of c + levels f) m.depth ≡ b → DeepBy (λ l. opens_call l f c) m (cond b (Go (Calling f c)) Deep)
deep_call m f c true e = tt
deep_call m f c false e = λ l i. ap (λ (n : ℕ). cond (nat_le (depth_of c + levels f) n) (Go (Calling f c)) Deep) i ∙ ap (λ (b : Bool). cond b (Go (Calling f c)) Deep) e

no_deep : (at : Limits → Next) (m : Limits) (n : Next) → IsNoLevel n → DeepBy at m n
no_deep at m (Go s) h = tt
no_deep at m Stuck h = tt
no_deep at m Deep h = absurd h
no_deep at m Long h = tt

deep_other : (m : Limits) (c : Within) (s : Sign) → DeepBy (λ l. want_other l c s) m (want_other m c s)
deep_other m c Open = deep_opens m _ _ (nat_lt _ m.depth) refl
deep_other m c Comma = no_deep _ m (comma_at m c) (comma_at_level m c)
deep_other m c Close = no_deep _ m (close_at c) (close_at_level c)
deep_other m c s = tt

deep_sign : (m : Limits) (c : Within) (s : Sign) (q : Option UnaryOp) → DeepBy (λ l. want_sign l c s q) m (want_sign m c s q)
deep_sign m c s (Some op) = deep_opens m _ _ (nat_lt _ m.depth) refl
deep_sign m c s None = deep_other m c s

held_close_level : (m : Limits) (e : Expr) (o : Outer) (s : Sign) → IsNoLevel (hold_other m e o s)
held_close_level m e Alone Close = tt
held_close_level m e (InGroup c) Close = tt
held_close_level m e (InList u es) Close = level_close _ (nat_le (least_of u) (count es + 1))
held_close_level m e (InOther f v c) Close = tt
held_close_level m e (InCondition ps c) Close = tt
held_close_level m e (InChoice ps a c) Close = tt
held_close_level m e (InActuals t es c) Close = tt
held_close_level m e Alone Colon = tt
held_close_level m e (InGroup c) Colon = tt
held_close_level m e (InList u es) Colon = tt
held_close_level m e (InOther f v c) Colon = tt
held_close_level m e (InCondition ps c) Colon = tt
held_close_level m e (InChoice ps a c) Colon = tt
held_close_level m e (InActuals t es c) Colon = tt
held_close_level m e Alone Comma = tt
held_close_level m e (InGroup c) Comma = tt
held_close_level m e (InList u es) Comma = level_comma _ (nat_lt (count es + 1) (most_of m u)) (is_limited u)
held_close_level m e (InOther f v c) Comma = tt
held_close_level m e (InCondition ps c) Comma = tt
held_close_level m e (InChoice ps a c) Comma = tt
held_close_level m e (InActuals t es c) Comma = tt
held_close_level m e o s = tt

hold_sign_level : (m : Limits) (x : Operand) (r : Tails) (o : Outer) (s : Sign) (q : Option Op) → IsNoLevel (hold_sign m x r o s q)
hold_sign_level m x r o s (Some op) = tt
hold_sign_level m x r o s None = held_close_level m (Chain x r) o s

hold_level : (m : Limits) (x : Operand) (r : Tails) (o : Outer) (k : Symbol) → IsNoLevel (hold m x r o k)
hold_level m x r o (Mark s) = hold_sign_level m x r o s (binary_of s)
hold_level m x r o (Constant v) = tt
hold_level m x r o (Inherent v) = tt
hold_level m x r o (Name w) = tt
hold_level m x r o (Applied f) = tt
hold_level m x r o (Entry l) = tt
hold_level m x r o Overlong = tt
hold_level m x r o Other = tt

on_any_level : (m : Limits) (s : State) (k : Symbol) → IsNoLevel (on m s k)
on_any_level m (Held x r o) k = hold_level m x r o k
on_any_level m (Behind f v c) k = behind_level f v c k
on_any_level m (Wanted c) k = tt
on_any_level m (Sought p) k = tt
on_any_level m (Marked p) k = tt
on_any_level m (Named scope word p) k = tt
on_any_level m (Entering label routine c) k = tt
on_any_level m (Routed label c) k = tt
on_any_level m (Calling f c) k = tt
on_any_level m (Got v) k = tt

pub step_deep : (m : Limits) (s : State) (k : Symbol) → DeepBy (λ l. step l s k) m (step m s k)
step_deep m (Wanted c) (Mark s) = deep_sign m c s (unary_of s)
step_deep m (Wanted c) (Constant v) = tt
step_deep m (Wanted c) (Inherent v) = tt
step_deep m (Wanted c) (Name w) = tt
step_deep m (Wanted c) (Applied f) = deep_call m f c (nat_le (depth_of c + levels f) m.depth) refl
step_deep m (Wanted c) (Entry l) = tt
step_deep m (Wanted c) Overlong = tt
step_deep m (Wanted c) Other = tt
step_deep m (Sought p) (Name w) = tt
step_deep m (Sought p) (Mark Caret) = tt
step_deep m (Sought p) k = tt
step_deep m (Marked p) (Name w) = tt
step_deep m (Marked p) (Mark Comma) = no_deep _ m _ (level_full (is_full_in m p))
step_deep m (Marked p) k = tt
step_deep m (Named scope word p) (Mark Open) = deep_opens m _ _ (nat_lt _ m.depth) refl
step_deep m (Named scope word p) k = no_deep _ m _ (on_any_level m (placed (Var scope word No) p) k)
step_deep m (Entering None None c) (Mark Caret) = tt
step_deep m (Entering None None c) (Mark Comma) = no_deep _ m _ (level_full (is_full m (outer_of c)))
step_deep m (Entering None None c) k = tt
step_deep m (Entering (Some l) None c) (Mark Caret) = tt
step_deep m (Entering (Some l) None c) (Mark Open) = deep_opens m _ _ (nat_lt _ m.depth) refl
step_deep m (Entering (Some l) None c) k = no_deep _ m _ (on_any_level m (filled (Extrinsic (entry_at (Some l) None) NoActual) c) k)
step_deep m (Entering None (Some n) c) (Mark Open) = deep_opens m _ _ (nat_lt _ m.depth) refl
step_deep m (Entering None (Some n) c) k = no_deep _ m _ (on_any_level m (filled (Extrinsic (entry_at None (Some n)) NoActual) c) k)
step_deep m (Entering (Some l) (Some n) c) (Mark Open) = deep_opens m _ _ (nat_lt _ m.depth) refl
step_deep m (Entering (Some l) (Some n) c) k = no_deep _ m _ (on_any_level m (filled (Extrinsic (entry_at (Some l) (Some n)) NoActual) c) k)
step_deep m (Routed label c) (Name w) = tt
step_deep m (Routed label c) (Mark Comma) = no_deep _ m _ (level_full (is_full m (outer_of c)))
step_deep m (Routed label c) k = tt
step_deep m (Calling f c) (Mark Open) = tt
step_deep m (Calling f c) k = tt
step_deep m (Behind f v c) k = no_deep _ m _ (behind_level f v c k)
step_deep m (Held x r o) k = no_deep _ m _ (hold_level m x r o k)
step_deep m (Got v) k = tt

-- where a comma behind a `^` and a name is one too many, a comma before both is too
abbrev pub CommaBehind : Limits → State → List ℕ → Next → Type 0
CommaBehind m s w (Go t) = CommaAfter m s (step m t (Name w))
CommaBehind m s w n = Unit {0}

filled_no_caret : (m : Limits) (x : Operand) (c : Within) → on m (filled x c) (Mark Caret) ≡ Stuck
filled_no_caret m x c = filled_stuck m x c (Mark Caret) (λ y r o. refl)

behind_stuck : (m : Limits) (s : State) (w : List ℕ) (n : Next) → n ≡ Stuck → CommaBehind m s w n
behind_stuck m s w n e = let P : Next → Type 0 = λ x. CommaBehind m s w x in subst P (sym e) tt

-- a `^` goes on, or nothing does
pub caret_easy : (m : Limits) (s : State) → IsEasy (step m s (Mark Caret))
caret_easy m (Wanted c) = tt
caret_easy m (Sought p) = tt
caret_easy m (Marked p) = tt
caret_easy m (Named scope word p) =
    easy_as (step m (Named scope word p) (Mark Caret)) Stuck (on_stuck m (Var scope word No) p (Mark Caret) (λ x r o. refl) (λ f c. refl)) tt
caret_easy m (Entering None None c) = tt
caret_easy m (Entering (Some l) None c) = tt
caret_easy m (Entering None (Some n) c) =
    easy_as (step m (Entering None (Some n) c) (Mark Caret)) Stuck (filled_no_caret m (Extrinsic (entry_at None (Some n)) NoActual) c) tt
caret_easy m (Entering (Some l) (Some n) c) =
    easy_as (step m (Entering (Some l) (Some n) c) (Mark Caret)) Stuck (filled_no_caret m (Extrinsic (entry_at (Some l) (Some n)) NoActual) c) tt
caret_easy m (Routed label c) = tt
caret_easy m (Calling f c) = tt
caret_easy m (Behind f v c) = tt
caret_easy m (Held x r o) = tt
caret_easy m (Got v) = tt

-- a full list stays full behind an operand
full_held : (m : Limits) (x : Operand) (r : Tails) (o : Outer) → is_full m o ≡ true → hold m x r o (Mark Comma) ≡ Long
full_held m x r Alone e = true_false e
full_held m x r (InGroup c) e = true_false e
full_held m x r (InList u es) e = by (nat_lt (count es + 1) (most_of m u)) (is_limited u) e
  where
    by : (b d : Bool) → (d && not b) ≡ true → cond b (Go (Wanted (Front (InList u (and_more es (Chain x r)))))) (cond d Long Stuck) ≡ Long
    by true true e = true_false e
    by true false e = true_false e
    by false true e = refl
    by false false e = true_false e
full_held m x r (InOther f v c) e = true_false e
full_held m x r (InCondition ps c) e = true_false e
full_held m x r (InChoice ps a c) e = true_false e
full_held m x r (InActuals t es c) e = true_false e

full_filled : (m : Limits) (x : Operand) (c : Within) → is_full m (outer_of c) ≡ true → on m (filled x c) (Mark Comma) ≡ Long
full_filled m x c e = let f = filled_outer x c in ap (λ (s : State). on m s (Mark Comma)) f.2 ∙ full_held m f.0 f.1 (outer_of c) e

pub comma_behind : (m : Limits) (s : State) (w : List ℕ) → IsReached s → CommaBehind m s w (step m s (Mark Caret))
comma_behind m (Wanted c) w i = λ e. full_at m c (on_full m (Var Global w No) c e)
comma_behind m (Sought (AsOperand c)) w i = absurd i
comma_behind m (Sought (AsNamed f c)) w i = λ e. absurd (behind_long f (Var Global w No) c e)
comma_behind m (Sought AsTarget) w i = λ e. absurd (stuck_long e)
comma_behind m (Marked p) w i = tt
comma_behind m (Named scope word p) w i =
    behind_stuck m (Named scope word p) w (step m (Named scope word p) (Mark Caret)) (on_stuck m (Var scope word No) p (Mark Caret) (λ x r o. refl) (λ f c. refl))
comma_behind m (Entering None None c) w i = λ e. ap (λ (b : Bool). cond b Long Stuck) (on_filled_full m (Extrinsic (entry_at None (Some w)) NoActual) c e)
comma_behind m (Entering (Some l) None c) w i =
    λ e. full_filled m (Extrinsic (entry_at (Some l) None) NoActual) c (on_filled_full m (Extrinsic (entry_at (Some l) (Some w)) NoActual) c e)
comma_behind m (Entering None (Some n) c) w i =
    behind_stuck m (Entering None (Some n) c) w (step m (Entering None (Some n) c) (Mark Caret)) (filled_no_caret m (Extrinsic (entry_at None (Some n)) NoActual) c)
comma_behind m (Entering (Some l) (Some n) c) w i =
    behind_stuck m (Entering (Some l) (Some n) c) w (step m (Entering (Some l) (Some n) c) (Mark Caret)) (filled_no_caret m (Extrinsic (entry_at (Some l) (Some n)) NoActual) c)
comma_behind m (Routed label c) w i = tt
comma_behind m (Calling f c) w i = tt
comma_behind m (Behind f v c) w i = tt
comma_behind m (Held x r o) w i = tt
comma_behind m (Got v) w i = tt
