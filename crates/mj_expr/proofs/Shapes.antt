-- The machine goes as its shapes do, where no level is too deep.
use Rattle.std.proofs.Common.{◌≡◌, ℕ, ◌+◌, ◌<◌, ◌≤◌, List, [], ◌∷◌, refl, ap, sym, ◌∙◌, subst, Bool, true, false, nat_lt, nat_le, Option, Some, None, ◌⊎◌, inl, inr, arith}
use Rattle.std.specs.Prelude.{cond, not, ◌&&◌}
use Rattle.mj_ast.specs.declared.sign.Sign.{Sign}
use Rattle.mj_ast.specs.declared.sign.Sign.TheVariants.{Caret, Open, Close, Comma, Colon}
use Rattle.mj_ast.specs.declared.expr.Scope.{Scope}
use Rattle.mj_oper.specs.declared.op.UnaryOp.{UnaryOp}
use Rattle.mj_oper.specs.declared.op.Op.{Op}
use Rattle.mj_ast.specs.declared.function.NameFunction.{NameFunction}
use Rattle.mj_ast.specs.declared.function.Callee.{Callee}
use Rattle.mj_ast.specs.declared.function.Callee.TheVariants as callee
use Rattle.mj_ast.specs.Syntax.{Actuals, Target as EntryAt, Expr, Chain, Operand, Literal, Value, Intrinsic, Unary, Group, Call, About, Select, Tails, Variable, Var, Exprs, No, More, Last, Extrinsic, NoActual}
use Rattle.mj_ast.specs.Expressions.{Symbol, Constant, Inherent, Name, Applied, Entry, Overlong, Mark, Other, count, subscript_count, least_subscripts, most_others, levels}
use Rattle.mj_expr.specs.Machine.{Outer, Alone, InGroup, InList, InOther, InCondition, InChoice, InActuals, Owner, Subscripts, Arguments, Within, Front, Right, Under, Place, AsOperand, AsNamed, AsTarget, State, Wanted, Sought, Marked, Named, Entering, Routed, Calling, Behind, Held, Got, entry_at, and_given, and_omitted, comma_at, close_at, filled, placed, closed, outer_of, outer_depth, owner_depth, depth_of, place_depth, Limits, Next, Go, Stuck, Deep, Long, opens, opens_call, suffices, after_variable, is_full, most_of, comma, close, want_other, want_sign, hold_other, hold_sign, hold, on, step, unary_of, binary_of, and_more, before_choices, after_entry, Target, goes}
use Rattle.mj_expr.specs.Reads.{kind_of, least_in, most_in, limited_in}
use Rattle.mj_expr.specs.declared.beyond.Around.{Around}
use Rattle.mj_expr.specs.declared.beyond.Around.TheVariants as around
use Rattle.mj_expr.specs.declared.beyond.Stage.{Stage}
use Rattle.mj_expr.specs.declared.beyond.Stage.TheVariants as stage
use Rattle.mj_expr.specs.declared.beyond.Turn.{Turn}
use Rattle.mj_expr.specs.declared.beyond.Turn.TheVariants as turn
use Rattle.mj_expr.specs.Shapes.{Shape, outer_shape, owner_shape, shape_of, place_shape, state_shape, stage_of, sort_of, stray_turn, behind_sign, behind_turn, bare_goes, other_turn, operand_other, operand_sign, wanted_stage, operand_turn, turn_at, actual_turn, actuals_turn, entry_turn, label_turn, routine_turn, Led, To, Nowhere, Beyond, led}
use Rattle.mj_expr.proofs.Steps.{less_true, most_true, kind_least, kind_limited}
use Rattle.mj_expr.proofs.Zipper.{count-more, least_at, least_at_few, levels_few}
use Rattle.mj_expr.proofs.Facts.{filled_outer}

-- ---- what a state keeps

-- how many levels are open at a state
abbrev pub state_depth : State → ℕ
state_depth (Wanted c) = depth_of c
state_depth (Sought p) = place_depth p
state_depth (Marked p) = place_depth p
state_depth (Named scope word p) = place_depth p
state_depth (Entering label routine c) = depth_of c
state_depth (Routed label c) = depth_of c
state_depth (Calling f c) = depth_of c
state_depth (Behind f v c) = depth_of c + 1
state_depth (Held x r o) = outer_depth o
state_depth (Got v) = 0

-- whether an expression is read, and not a variable
abbrev mutual
  pub outer_whole : Outer → Bool
  outer_whole Alone = true
  outer_whole (InGroup c) = whole_of c
  outer_whole (InList w before) = owner_whole w
  outer_whole (InOther f v c) = whole_of c
  outer_whole (InCondition before c) = whole_of c
  outer_whole (InChoice before condition c) = whole_of c
  outer_whole (InActuals t before c) = whole_of c

  pub owner_whole : Owner → Bool
  owner_whole (Subscripts scope word p) = place_whole p
  owner_whole (Arguments f c) = whole_of c

  pub whole_of : Within → Bool
  whole_of (Front o) = outer_whole o
  whole_of (Right first rest op o) = outer_whole o
  whole_of (Under op c) = whole_of c

  pub place_whole : Place → Bool
  place_whole (AsOperand c) = whole_of c
  place_whole (AsNamed f c) = whole_of c
  place_whole AsTarget = false

abbrev pub state_whole : State → Bool
state_whole (Wanted c) = whole_of c
state_whole (Sought p) = place_whole p
state_whole (Marked p) = place_whole p
state_whole (Named scope word p) = place_whole p
state_whole (Entering label routine c) = whole_of c
state_whole (Routed label c) = whole_of c
state_whole (Calling f c) = whole_of c
state_whole (Behind f v c) = whole_of c
state_whole (Held x r o) = outer_whole o
state_whole (Got v) = false

-- the variable of a function has subscripts enough
abbrev pub IsSound : State → Type 0
IsSound (Behind f v c) = least_subscripts f ≤ subscript_count v
IsSound s = Unit {0}

-- where a state is among shapes
abbrev pub place_at : Stage → Shape → Led
place_at s a = To s a.around a.others

-- A state of this stage and shape, with no more levels and in the same phrase.
pub record IsAt (t : State) (s : Stage) (a : Shape) (d : ℕ) (whole : Bool) : Type 0 where
  pub led : place_at s a ≡ place_at (stage_of t) (state_shape t)
  pub depth : state_depth t ≤ d
  pub same : state_whole t ≡ whole
  pub sound : IsSound t

-- ---- what was read

filled_at : (x : Operand) (c : Within) → IsAt (filled x c) stage.Behind (shape_of c) (depth_of c) (whole_of c)
filled_at x (Front o) = record { led = refl; depth = omega arith; same = refl; sound = tt }
filled_at x (Right first rest op o) = record { led = refl; depth = omega arith; same = refl; sound = tt }
filled_at x (Under op c) = let h = filled_at (Unary op x) c in record { led = h.led; depth = omega (arith, h.depth); same = h.same; sound = h.sound }

placed_at : (v : Variable) (p : Place) → least_at p ≤ subscript_count v → IsAt (placed v p) stage.Behind (place_shape p) (place_depth p) (place_whole p)
placed_at v (AsOperand c) h = filled_at (Value v) c
placed_at v (AsNamed f c) h = record { led = refl; depth = omega arith; same = refl; sound = h }
placed_at v AsTarget h = record { led = refl; depth = omega arith; same = refl; sound = tt }

closed_at : (w : Owner) (es : Exprs) → 1 ≤ count es → IsAt (closed w es) stage.Behind (owner_shape w) (owner_depth w) (owner_whole w)
closed_at (Subscripts scope word p) es h = placed_at (Var scope word es) p (omega (arith, least_at_few p))
closed_at (Arguments f c) es h = filled_at (Call f es) c

-- the shape of a place is that of the expression that it stands in
pub outer_same : (c : Within) → shape_of c ≡ outer_shape (outer_of c)
outer_same (Front o) = refl
outer_same (Right first rest op o) = refl
outer_same (Under op c) = outer_same c

outer_less : (c : Within) → outer_depth (outer_of c) ≤ depth_of c
outer_less (Front o) = omega arith
outer_less (Right first rest op o) = omega arith
outer_less (Under op c) = let h = outer_less c in omega arith

pub outer_kept : (c : Within) → outer_whole (outer_of c) ≡ whole_of c
outer_kept (Front o) = refl
outer_kept (Right first rest op o) = refl
outer_kept (Under op c) = outer_kept c

-- ---- steps

-- the machine steps as the shape does
abbrev pub Follows : ℕ → Bool → Next → Led → Type 0
Follows d whole (Go t) l = (l ≡ place_at (stage_of t) (state_shape t)) × (state_depth t ≤ d + 1) × (state_whole t ≡ whole) × IsSound t
Follows d whole Stuck l = l ≡ Nowhere
Follows d whole Deep l = ⊥
Follows d whole Long l = l ≡ Beyond

goes_at : (t : State) (s : Stage) (a : Shape) (c d : ℕ) (whole : Bool) → IsAt t s a c whole → c ≤ d + 1 → Follows d whole (Go t) (place_at s a)
goes_at t s a c d whole h i = (h.led, omega (arith, h.depth), h.same, h.sound)

opens_follow : (m : Limits) (d e : ℕ) (whole : Bool) (t : State) (l : Led) → d < m.depth → Follows e whole (Go t) l → Follows e whole (opens m d t) l
opens_follow m d e whole t l i h = let P : Bool → Type 0 = λ b. Follows e whole (cond b (Go t) Deep) l in subst P (sym (less_true d m.depth i)) h

most_same : (m : Limits) (w : Owner) → m.width ≡ 31 → most_of m w ≡ most_in (kind_of w)
most_same m (Subscripts scope word p) e = e
most_same m (Arguments f c) e = refl

abbrev full_test : Around → Bool
full_test (around.List k n) = limited_in k && not (nat_lt n (most_in k))
full_test a = false

full_same : (m : Limits) (o : Outer) → m.width ≡ 31 → is_full m o ≡ full_test (outer_shape o).around
full_same m Alone e = refl
full_same m (InGroup c) e = refl
full_same m (InList w before) e =
    ap (λ (b : Bool). b && not (nat_lt (count before + 1) (most_of m w))) (sym (kind_limited w))
    ∙ ap (λ (n : ℕ). limited_in (kind_of w) && not (nat_lt (count before + 1) n)) (most_same m w e)
full_same m (InOther f v c) e = refl
full_same m (InCondition before c) e = refl
full_same m (InChoice before condition c) e = refl
full_same m (InActuals t before c) e = refl

stray_test : (a : Around) → stray_turn a ≡ cond (full_test a) turn.Long turn.Stuck
stray_test (around.List k n) = refl
stray_test around.Alone = refl
stray_test around.Target = refl
stray_test around.Group = refl
stray_test (around.About f) = refl
stray_test around.Condition = refl
stray_test around.Choice = refl
stray_test around.Actuals = refl

stray_by : (d : ℕ) (whole : Bool) (a : Around) (others : List Around) (b : Bool) → Follows d whole (cond b Long Stuck) (led a others (cond b turn.Long turn.Stuck))
stray_by d whole a others true = refl
stray_by d whole a others false = refl

stray_follows : (m : Limits) (d : ℕ) (whole : Bool) (a : Around) (others : List Around) (b : Bool) → b ≡ full_test a → Follows d whole (cond b Long Stuck) (led a others (stray_turn a))
stray_follows m d whole a others b e =
    let P : Turn → Type 0 = λ t. Follows d whole (cond b Long Stuck) (led a others t) in
    subst P (ap (λ (x : Bool). cond x turn.Long turn.Stuck) e ∙ sym (stray_test a)) (stray_by d whole a others b)

within_full : (m : Limits) (c : Within) → m.width ≡ 31 → is_full m (outer_of c) ≡ full_test (shape_of c).around
within_full m c e = full_same m (outer_of c) e ∙ ap (λ (s : Shape). full_test s.around) (sym (outer_same c))

-- behind a variable that is wanted alone nothing goes on
target_other : (s : Sign) → other_turn around.Target s ≡ turn.Stuck
target_other Close = refl
target_other Comma = refl
target_other Colon = refl
target_other s = refl

target_sign : (s : Sign) (q : Option Op) → behind_sign around.Target s q ≡ turn.Stuck
target_sign s (Some op) = refl
target_sign s None = target_other s

target_stuck : (k : Symbol) → behind_turn around.Target (sort_of k) ≡ turn.Stuck
target_stuck (Mark s) = target_sign s (binary_of s)
target_stuck (Constant v) = refl
target_stuck (Inherent v) = refl
target_stuck (Name w) = refl
target_stuck (Applied f) = refl
target_stuck (Entry None) = refl
target_stuck (Entry (Some l)) = refl
target_stuck Overlong = refl
target_stuck Other = refl

-- behind an expression
comma_by : (d : ℕ) (whole : Bool) (t : State) (a : Around) (others : List Around) (u : Turn) (b f : Bool) → Follows d whole (Go t) (led a others u) →
    Follows d whole (cond b (Go t) (cond f Long Stuck)) (led a others (cond b u (cond f turn.Long turn.Stuck)))
comma_by d whole t a others u true f h = h
comma_by d whole t a others u false true h = refl
comma_by d whole t a others u false false h = refl

list_comma : (m : Limits) (e : Expr) (w : Owner) (before : Exprs) → m.width ≡ 31 →
    Follows (owner_depth w + 1) (owner_whole w) (comma m e (InList w before))
    (led (around.List (kind_of w) (count before + 1)) ((owner_shape w).around ∷
    (owner_shape w).others) (other_turn (around.List (kind_of w) (count before + 1)) Comma))
list_comma m e w before i =
    let n = count before + 1 in
    let s = owner_shape w in
    let t = Wanted (Front (InList w (and_more before e))) in
    let P : Next → Type 0 = λ x. Follows (owner_depth w + 1) (owner_whole w) x (led (around.List (kind_of w) n) (s.around ∷ s.others) (other_turn (around.List (kind_of w) n) Comma)) in
    subst P (ap (λ (k : ℕ). cond (nat_lt n k) (Go t) (cond (limited_in (kind_of w)) Long Stuck)) (sym (most_same m w i)) ∙
    ap (λ (b : Bool). cond (nat_lt n (most_of m w)) (Go t) (cond b Long Stuck)) (kind_limited w))
    (comma_by (owner_depth w + 1) (owner_whole w) t (around.List (kind_of w) n) (s.around ∷
    s.others) (turn.Goes stage.Operand (around.List (kind_of w) (n + 1))) (nat_lt n (most_in (kind_of w))) (limited_in (kind_of w))
    (ap (λ (k : ℕ). To stage.Operand (around.List (kind_of w) (k + 1)) (s.around ∷ s.others)) (sym (count-more before e)), omega arith, refl, tt))

close_by : (d : ℕ) (whole : Bool) (t : State) (a : Around) (others : List Around) (b : Bool) → Follows d whole (Go t) (led a others turn.Closes) →
    Follows d whole (cond b (Go t) Stuck) (led a others (cond b turn.Closes turn.Stuck))
close_by d whole t a others true h = h
close_by d whole t a others false h = refl

list_close : (m : Limits) (e : Expr) (w : Owner) (before : Exprs) →
    Follows (owner_depth w + 1) (owner_whole w) (close e (InList w before))
    (led (around.List (kind_of w) (count before + 1)) ((owner_shape w).around ∷
    (owner_shape w).others) (other_turn (around.List (kind_of w) (count before + 1)) Close))
list_close m e w before =
    let n = count before + 1 in
    let s = owner_shape w in
    let t = closed w (and_more before e) in
    let P : Next → Type 0 = λ x. Follows (owner_depth w + 1) (owner_whole w) x (led (around.List (kind_of w) n) (s.around ∷ s.others) (other_turn (around.List (kind_of w) n) Close)) in
    subst P (ap (λ (k : ℕ). cond (nat_le k n) (Go t) Stuck) (kind_least w))
    (close_by (owner_depth w + 1) (owner_whole w) t (around.List (kind_of w) n) (s.around ∷ s.others) (nat_le (least_in (kind_of w)) n)
    (goes_at t stage.Behind s (owner_depth w) (owner_depth w + 1) (owner_whole w) (closed_at w (and_more before e) (omega (arith, count-more before e))) (omega arith)))

other_follows : (m : Limits) (x : Operand) (r : Tails) (o : Outer) (s : Sign) → m.width ≡ 31 →
    Follows (outer_depth o) (outer_whole o) (hold_other m (Chain x r) o s)
    (led (outer_shape o).around (outer_shape o).others (other_turn (outer_shape o).around s))
other_follows m x r Alone Close e = refl
other_follows m x r (InGroup c) Close e = goes_at (filled (Group (Chain x r)) c) stage.Behind (shape_of c) (depth_of c) (depth_of c + 1) (whole_of c) (filled_at (Group (Chain x r)) c) (omega arith)
other_follows m x r (InList w before) Close e = list_close m (Chain x r) w before
other_follows m x r (InOther f v c) Close e =
    let y = About f v (More (Chain x r) No) in
    goes_at (filled y c) stage.Behind (shape_of c) (depth_of c) (depth_of c + 1) (whole_of c) (filled_at y c) (omega arith)
other_follows m x r (InCondition before c) Close e = refl
other_follows m x r (InChoice before a c) Close e =
    let y = Select (before_choices before (Last a (Chain x r))) in
    goes_at (filled y c) stage.Behind (shape_of c) (depth_of c) (depth_of c + 1) (whole_of c) (filled_at y c) (omega arith)
other_follows m x r (InActuals t before c) Close e =
    let y = Extrinsic t (and_given before (Chain x r)) in
    goes_at (filled y c) stage.Behind (shape_of c) (depth_of c) (depth_of c + 1) (whole_of c) (filled_at y c) (omega arith)
other_follows m x r (InActuals t before c) Comma e = (refl, omega arith, refl, tt)
other_follows m x r (InActuals t before c) Colon e = refl
other_follows m x r Alone Comma e = refl
other_follows m x r (InGroup c) Comma e = refl
other_follows m x r (InList w before) Comma e = list_comma m (Chain x r) w before e
other_follows m x r (InOther f v c) Comma e = refl
other_follows m x r (InCondition before c) Comma e = refl
other_follows m x r (InChoice before a c) Comma e = (refl, omega arith, refl, tt)
other_follows m x r Alone Colon e = refl
other_follows m x r (InGroup c) Colon e = refl
other_follows m x r (InList w before) Colon e = refl
other_follows m x r (InOther f v c) Colon e = refl
other_follows m x r (InCondition before c) Colon e = (refl, omega arith, refl, tt)
other_follows m x r (InChoice before a c) Colon e = refl
other_follows m x r o s e = refl

sign_follows : (m : Limits) (x : Operand) (r : Tails) (o : Outer) (s : Sign) (q : Option Op) → m.width ≡ 31 →
    Follows (outer_depth o) (outer_whole o) (hold_sign m x r o s q) (led (outer_shape o).around (outer_shape o).others (behind_sign (outer_shape o).around s q))
sign_follows m x r Alone s (Some op) e = (refl, omega arith, refl, tt)
sign_follows m x r (InGroup c) s (Some op) e = (refl, omega arith, refl, tt)
sign_follows m x r (InList w before) s (Some op) e = (refl, omega arith, refl, tt)
sign_follows m x r (InOther f v c) s (Some op) e = (refl, omega arith, refl, tt)
sign_follows m x r (InCondition before c) s (Some op) e = (refl, omega arith, refl, tt)
sign_follows m x r (InChoice before a c) s (Some op) e = (refl, omega arith, refl, tt)
sign_follows m x r (InActuals t before c) s (Some op) e = (refl, omega arith, refl, tt)
sign_follows m x r o s None e = other_follows m x r o s e

held_follows : (m : Limits) (x : Operand) (r : Tails) (o : Outer) (k : Symbol) → m.width ≡ 31 →
    Follows (outer_depth o) (outer_whole o) (hold m x r o k) (led (outer_shape o).around (outer_shape o).others
    (behind_turn (outer_shape o).around (sort_of k)))
held_follows m x r o (Mark s) e = sign_follows m x r o s (binary_of s) e
held_follows m x r o (Constant v) e = refl
held_follows m x r o (Inherent v) e = refl
held_follows m x r o (Name w) e = refl
held_follows m x r o (Applied f) e = refl
held_follows m x r o (Entry None) e = refl
held_follows m x r o (Entry (Some l)) e = refl
held_follows m x r o Overlong e = refl
held_follows m x r o Other e = refl

-- fewer levels are no hindrance
follows_more : (c d : ℕ) (v w : Bool) (n : Next) (l : Led) → c ≤ d → v ≡ w → Follows c v n l → Follows d w n l
follows_more c d v w (Go t) l i e h = (h.0, omega (arith, h.1), h.2 ∙ e, h.3)
follows_more c d v w Stuck l i e h = h
follows_more c d v w Deep l i e h = h
follows_more c d v w Long l i e h = h

-- behind the variable of a function, if it has subscripts enough
about_stuck : (a : Around) (others : List Around) (b : Bool) → led a others (cond b turn.Stuck turn.Stuck) ≡ Nowhere
about_stuck a others true = refl
about_stuck a others false = refl

about_close : (f : NameFunction) (v : Variable) (c : Within) (b : Bool) →
    Follows (depth_of c + 1) (whole_of c) (cond b (Go (filled (About f v No) c)) Stuck) (led (around.About f) ((shape_of c).around ∷ (shape_of c).others) (cond b turn.Closes turn.Stuck))
about_close f v c true = goes_at (filled (About f v No) c) stage.Behind (shape_of c) (depth_of c) (depth_of c + 1) (whole_of c) (filled_at (About f v No) c) (omega arith)
about_close f v c false = refl

about_comma : (f : NameFunction) (v : Variable) (c : Within) (b d : Bool) →
    Follows (depth_of c + 1) (whole_of c) (cond b (cond d (Go (Wanted (Front (InOther f v c)))) Stuck) Stuck)
    (led (around.About f) ((shape_of c).around ∷ (shape_of c).others) (cond b (cond d (turn.Goes stage.Operand around.Group) turn.Stuck) turn.Stuck))
about_comma f v c true true = (refl, omega arith, refl, tt)
about_comma f v c true false = refl
about_comma f v c false d = refl

about_sign : (f : NameFunction) (v : Variable) (c : Within) (s : Sign) →
    Follows (depth_of c + 1) (whole_of c) (after_variable f v c (Mark s)) (led (around.About f) ((shape_of c).around ∷
    (shape_of c).others) (cond (suffices f v) (behind_turn (around.About f) (sort_of (Mark s))) turn.Stuck))
about_sign f v c Close = about_close f v c (suffices f v)
about_sign f v c Comma = about_comma f v c (suffices f v) (nat_lt 0 (most_others f))
about_sign f v c s = about_stuck (around.About f) ((shape_of c).around ∷ (shape_of c).others) (suffices f v)

about_follows : (f : NameFunction) (v : Variable) (c : Within) (k : Symbol) →
    Follows (depth_of c + 1) (whole_of c) (after_variable f v c k) (led (around.About f) ((shape_of c).around ∷
    (shape_of c).others) (cond (suffices f v) (behind_turn (around.About f) (sort_of k)) turn.Stuck))
about_follows f v c (Mark s) = about_sign f v c s
about_follows f v c (Constant u) = about_stuck (around.About f) ((shape_of c).around ∷ (shape_of c).others) (suffices f v)
about_follows f v c (Inherent u) = about_stuck (around.About f) ((shape_of c).around ∷ (shape_of c).others) (suffices f v)
about_follows f v c (Name w) = about_stuck (around.About f) ((shape_of c).around ∷ (shape_of c).others) (suffices f v)
about_follows f v c (Applied g) = about_stuck (around.About f) ((shape_of c).around ∷ (shape_of c).others) (suffices f v)
about_follows f v c (Entry None) = about_stuck (around.About f) ((shape_of c).around ∷ (shape_of c).others) (suffices f v)
about_follows f v c (Entry (Some l)) = about_stuck (around.About f) ((shape_of c).around ∷ (shape_of c).others) (suffices f v)
about_follows f v c Overlong = about_stuck (around.About f) ((shape_of c).around ∷ (shape_of c).others) (suffices f v)
about_follows f v c Other = about_stuck (around.About f) ((shape_of c).around ∷ (shape_of c).others) (suffices f v)

-- an operand may be a variable without subscripts
outer_goes : (o : Outer) → bare_goes (outer_shape o).around ≡ true
outer_goes Alone = refl
outer_goes (InGroup c) = refl
outer_goes (InList w before) = refl
outer_goes (InOther f v c) = refl
outer_goes (InCondition before c) = refl
outer_goes (InChoice before condition c) = refl
outer_goes (InActuals t before c) = refl

within_goes : (c : Within) → bare_goes (shape_of c).around ≡ true
within_goes (Front o) = outer_goes o
within_goes (Right first rest op o) = outer_goes o
within_goes (Under op c) = within_goes c

-- behind a name without subscripts
abbrev bare_led : Shape → Symbol → Bool → Led
bare_led a k b = led a.around a.others (cond b (behind_turn a.around (sort_of k)) turn.Stuck)

-- behind an operand
filled_follows : (m : Limits) (x : Operand) (c : Within) (k : Symbol) → m.width ≡ 31 →
    Follows (depth_of c) (whole_of c) (on m (filled x c) k) (led (shape_of c).around (shape_of c).others (behind_turn (shape_of c).around (sort_of k)))
filled_follows m x c k e =
    let f = filled_outer x c in
    let o = outer_of c in
    let P : State → Type 0 = λ s. Follows (depth_of c) (whole_of c) (on m s k) (led (shape_of c).around (shape_of c).others (behind_turn (shape_of c).around (sort_of k))) in
    let Q : Shape → Type 0 = λ a. Follows (depth_of c) (whole_of c) (hold m f.0 f.1 o k) (led a.around a.others (behind_turn a.around (sort_of k))) in
    subst P (sym f.2) (subst Q (sym (outer_same c))
    (follows_more (outer_depth o) (depth_of c) (outer_whole o) (whole_of c) _ _ (outer_less c) (outer_kept c) (held_follows m f.0 f.1 o k e)))

named_follows : (m : Limits) (scope : Scope) (word : List ℕ) (p : Place) (k : Symbol) → m.width ≡ 31 →
    Follows (place_depth p) (place_whole p) (on m (placed (Var scope word No) p) k) (bare_led (place_shape p) k (bare_goes (place_shape p).around))
named_follows m scope word (AsOperand c) k e =
    let v = Var scope word No in
    let R : Bool → Type 0 = λ b. Follows (depth_of c) (whole_of c) (on m (filled (Value v) c) k) (bare_led (shape_of c) k b) in
    subst R (sym (within_goes c)) (filled_follows m (Value v) c k e)
named_follows m scope word (AsNamed f c) k e = about_follows f (Var scope word No) c k
named_follows m scope word AsTarget k e = ap (led around.Target []) (target_stuck k)

-- a function opens its levels
call_follows : (m : Limits) (f : Callee) (c : Within) (d : ℕ) (whole : Bool) (l : Led) → depth_of c + levels f ≤ m.depth → Follows d whole (Go (Calling f c)) l → Follows d whole (opens_call m f c) l
call_follows m f c d whole l i h = let P : Bool → Type 0 = λ b. Follows d whole (cond b (Go (Calling f c)) Deep) l in subst P (sym (most_true (depth_of c + levels f) m.depth i)) h

-- an operand is wanted, and no actual may be left out
abbrev IsOperand : Within → Type 0
IsOperand c = ((m : Limits) → comma_at m c ≡ cond (is_full m (outer_of c)) Long Stuck) × (close_at c ≡ Stuck)

-- the symbols that do the same where an actual may be left out
abbrev IsOtherThan : Symbol → Type 0
IsOtherThan (Mark Comma) = ⊥
IsOtherThan (Mark Close) = ⊥
IsOtherThan k = Unit {0}

want_other_follows : (m : Limits) (c : Within) (s : Sign) → m.width ≡ 31 → depth_of c < m.depth → IsOperand c ⊎ IsOtherThan (Mark s) →
    Follows (depth_of c) (whole_of c) (want_other m c s) (led (shape_of c).around (shape_of c).others (operand_other (shape_of c).around s))
want_other_follows m c Caret e i q = (refl, omega arith, refl, tt)
want_other_follows m c Open e i q = opens_follow m (depth_of c) (depth_of c) (whole_of c) (Wanted (Front (InGroup c))) _ i (refl, omega arith, refl, tt)
want_other_follows m c Comma e i (inl q) =
    let P : Next → Type 0 = λ n. Follows (depth_of c) (whole_of c) n (led (shape_of c).around (shape_of c).others (stray_turn (shape_of c).around)) in
    subst P (sym (q.0 m)) (stray_follows m (depth_of c) (whole_of c) (shape_of c).around (shape_of c).others (is_full m (outer_of c)) (within_full m c e))
want_other_follows m c Comma e i (inr q) = absurd q
want_other_follows m c Close e i (inl q) =
    let P : Next → Type 0 = λ n. Follows (depth_of c) (whole_of c) n (led (shape_of c).around (shape_of c).others turn.Stuck) in subst P (sym q.1) refl
want_other_follows m c Close e i (inr q) = absurd q
want_other_follows m c s e i q = refl

wanted_under : (m : Limits) (op : UnaryOp) (c : Within) → depth_of c < m.depth →
    Follows (depth_of c) (whole_of c) (opens m (depth_of c) (Wanted (Under op c))) (led (shape_of c).around (shape_of c).others (turn.Goes stage.Operand (shape_of c).around))
wanted_under m op c i = opens_follow m (depth_of c) (depth_of c) (whole_of c) (Wanted (Under op c)) _ i (refl, omega arith, refl, tt)

want_sign_follows : (m : Limits) (c : Within) (s : Sign) (q : Option UnaryOp) → m.width ≡ 31 → depth_of c < m.depth → IsOperand c ⊎ IsOtherThan (Mark s) →
    Follows (depth_of c) (whole_of c) (want_sign m c s q) (led (shape_of c).around (shape_of c).others (operand_sign (shape_of c).around s q))
want_sign_follows m c s (Some op) e i p = wanted_under m op c i
want_sign_follows m c s None e i p = want_other_follows m c s e i p

want_follows : (m : Limits) (c : Within) (k : Symbol) → m.width ≡ 31 → depth_of c + 1 < m.depth → IsOperand c ⊎ IsOtherThan k →
    Follows (depth_of c) (whole_of c) (step m (Wanted c) k) (led (shape_of c).around (shape_of c).others (operand_turn (shape_of c).around (sort_of k)))
want_follows m c (Constant v) e i q = goes_at (filled (Literal v) c) stage.Behind (shape_of c) (depth_of c) (depth_of c) (whole_of c) (filled_at (Literal v) c) (omega arith)
want_follows m c (Inherent v) e i q = goes_at (filled (Intrinsic v) c) stage.Behind (shape_of c) (depth_of c) (depth_of c) (whole_of c) (filled_at (Intrinsic v) c) (omega arith)
want_follows m c (Name w) e i q = (refl, omega arith, refl, tt)
want_follows m c (Applied f) e i q = call_follows m f c (depth_of c) (whole_of c) _ (omega (arith, levels_few f)) (refl, omega arith, refl, tt)
want_follows m c (Entry None) e i q = (refl, omega arith, refl, tt)
want_follows m c (Entry (Some l)) e i q = (refl, omega arith, refl, tt)
want_follows m c (Mark s) e i q = want_sign_follows m c s (unary_of s) e (omega arith) q
want_follows m c Overlong e i q = refl
want_follows m c Other e i q = refl

-- where an actual may be left out
actual_other_follows : (m : Limits) (t : EntryAt) (es : Actuals) (c : Within) (k : Symbol) → m.width ≡ 31 → depth_of c + 1 + 1 < m.depth → IsOtherThan k →
    Follows (depth_of c + 1) (whole_of c) (step m (Wanted (Front (InActuals t es c))) k) (led around.Actuals ((shape_of c).around ∷ (shape_of c).others) (operand_turn around.Actuals (sort_of k)))
actual_other_follows m t es c k e i q = want_follows m (Front (InActuals t es c)) k e i (inr q)

actual_follows : (m : Limits) (t : EntryAt) (es : Actuals) (c : Within) (k : Symbol) → m.width ≡ 31 → depth_of c + 1 + 1 < m.depth →
    Follows (depth_of c + 1) (whole_of c) (step m (Wanted (Front (InActuals t es c))) k) (led around.Actuals ((shape_of c).around ∷ (shape_of c).others) (actual_turn around.Actuals (sort_of k)))
actual_follows m t es c (Mark Comma) e i = (refl, omega arith, refl, tt)
actual_follows m t es c (Mark Close) e i =
    let y = Extrinsic t (and_omitted es) in
    goes_at (filled y c) stage.Behind (shape_of c) (depth_of c) (depth_of c + 1) (whole_of c) (filled_at y c) (omega arith)
actual_follows m t es c (Mark s) e i = actual_other_follows m t es c (Mark s) e i tt
actual_follows m t es c (Constant v) e i = actual_other_follows m t es c (Constant v) e i tt
actual_follows m t es c (Inherent v) e i = actual_other_follows m t es c (Inherent v) e i tt
actual_follows m t es c (Name w) e i = actual_other_follows m t es c (Name w) e i tt
actual_follows m t es c (Applied f) e i = actual_other_follows m t es c (Applied f) e i tt
actual_follows m t es c (Entry None) e i = actual_other_follows m t es c (Entry None) e i tt
actual_follows m t es c (Entry (Some l)) e i = actual_other_follows m t es c (Entry (Some l)) e i tt
actual_follows m t es c Overlong e i = refl
actual_follows m t es c Other e i = refl

wanted_follows : (m : Limits) (c : Within) (k : Symbol) → m.width ≡ 31 → depth_of c + 1 < m.depth →
    Follows (depth_of c) (whole_of c) (step m (Wanted c) k) (led (shape_of c).around (shape_of c).others (turn_at (wanted_stage c) (shape_of c).around (sort_of k)))
wanted_follows m (Front (InActuals t es c)) k e i = actual_follows m t es c k e i
wanted_follows m (Front Alone) k e i = want_follows m (Front Alone) k e i (inl (λ m. refl, refl))
wanted_follows m (Front (InGroup c)) k e i = want_follows m (Front (InGroup c)) k e i (inl (λ m. refl, refl))
wanted_follows m (Front (InList u es)) k e i = want_follows m (Front (InList u es)) k e i (inl (λ m. refl, refl))
wanted_follows m (Front (InOther f v c)) k e i = want_follows m (Front (InOther f v c)) k e i (inl (λ m. refl, refl))
wanted_follows m (Front (InCondition ps c)) k e i = want_follows m (Front (InCondition ps c)) k e i (inl (λ m. refl, refl))
wanted_follows m (Front (InChoice ps a c)) k e i = want_follows m (Front (InChoice ps a c)) k e i (inl (λ m. refl, refl))
wanted_follows m (Right x r op o) k e i = want_follows m (Right x r op o) k e i (inl (λ m. refl, refl))
wanted_follows m (Under op c) k e i = want_follows m (Under op c) k e i (inl (λ m. refl, refl))

-- behind an entry
entry_follows : (m : Limits) (t : EntryAt) (c : Within) (k : Symbol) → m.width ≡ 31 → depth_of c < m.depth →
    Follows (depth_of c) (whole_of c) (after_entry m t c k) (led (shape_of c).around (shape_of c).others (actuals_turn (shape_of c).around (sort_of k)))
entry_follows m t c (Mark Open) e i = opens_follow m (depth_of c) (depth_of c) (whole_of c) (Wanted (Front (InActuals t NoActual c))) _ i (refl, omega arith, refl, tt)
entry_follows m t c (Mark s) e i = filled_follows m (Extrinsic t NoActual) c (Mark s) e
entry_follows m t c (Constant v) e i = filled_follows m (Extrinsic t NoActual) c (Constant v) e
entry_follows m t c (Inherent v) e i = filled_follows m (Extrinsic t NoActual) c (Inherent v) e
entry_follows m t c (Name w) e i = filled_follows m (Extrinsic t NoActual) c (Name w) e
entry_follows m t c (Applied f) e i = filled_follows m (Extrinsic t NoActual) c (Applied f) e
entry_follows m t c (Entry None) e i = filled_follows m (Extrinsic t NoActual) c (Entry None) e
entry_follows m t c (Entry (Some l)) e i = filled_follows m (Extrinsic t NoActual) c (Entry (Some l)) e
entry_follows m t c Overlong e i = filled_follows m (Extrinsic t NoActual) c Overlong e
entry_follows m t c Other e i = filled_follows m (Extrinsic t NoActual) c Other e

dollars_follow : (m : Limits) (c : Within) (k : Symbol) → m.width ≡ 31 →
    Follows (depth_of c) (whole_of c) (step m (Entering None None c) k) (led (shape_of c).around (shape_of c).others (entry_turn (shape_of c).around (sort_of k)))
dollars_follow m c (Mark Caret) e = (refl, omega arith, refl, tt)
dollars_follow m c (Mark Comma) e = stray_follows m (depth_of c) (whole_of c) (shape_of c).around (shape_of c).others (is_full m (outer_of c)) (within_full m c e)
dollars_follow m c (Mark s) e = refl
dollars_follow m c (Constant v) e = refl
dollars_follow m c (Inherent v) e = refl
dollars_follow m c (Name w) e = refl
dollars_follow m c (Applied f) e = refl
dollars_follow m c (Entry None) e = refl
dollars_follow m c (Entry (Some l)) e = refl
dollars_follow m c Overlong e = refl
dollars_follow m c Other e = refl

label_follows : (m : Limits) (l : List ℕ) (c : Within) (k : Symbol) → m.width ≡ 31 → depth_of c < m.depth →
    Follows (depth_of c) (whole_of c) (step m (Entering (Some l) None c) k) (led (shape_of c).around (shape_of c).others (label_turn (shape_of c).around (sort_of k)))
label_follows m l c (Mark Caret) e i = (refl, omega arith, refl, tt)
label_follows m l c (Mark s) e i = entry_follows m (entry_at (Some l) None) c (Mark s) e i
label_follows m l c (Constant v) e i = entry_follows m (entry_at (Some l) None) c (Constant v) e i
label_follows m l c (Inherent v) e i = entry_follows m (entry_at (Some l) None) c (Inherent v) e i
label_follows m l c (Name w) e i = entry_follows m (entry_at (Some l) None) c (Name w) e i
label_follows m l c (Applied f) e i = entry_follows m (entry_at (Some l) None) c (Applied f) e i
label_follows m l c (Entry None) e i = entry_follows m (entry_at (Some l) None) c (Entry None) e i
label_follows m l c (Entry (Some n)) e i = entry_follows m (entry_at (Some l) None) c (Entry (Some n)) e i
label_follows m l c Overlong e i = entry_follows m (entry_at (Some l) None) c Overlong e i
label_follows m l c Other e i = entry_follows m (entry_at (Some l) None) c Other e i

routed_follows : (m : Limits) (label : Option (List ℕ)) (c : Within) (k : Symbol) → m.width ≡ 31 →
    Follows (depth_of c) (whole_of c) (step m (Routed label c) k) (led (shape_of c).around (shape_of c).others (routine_turn (shape_of c).around (sort_of k)))
routed_follows m None c (Name w) e = (refl, omega arith, refl, tt)
routed_follows m (Some l) c (Name w) e = (refl, omega arith, refl, tt)
routed_follows m label c (Mark Comma) e = stray_follows m (depth_of c) (whole_of c) (shape_of c).around (shape_of c).others (is_full m (outer_of c)) (within_full m c e)
routed_follows m label c (Mark s) e = refl
routed_follows m label c (Constant v) e = refl
routed_follows m label c (Inherent v) e = refl
routed_follows m label c (Applied f) e = refl
routed_follows m label c (Entry None) e = refl
routed_follows m label c (Entry (Some n)) e = refl
routed_follows m label c Overlong e = refl
routed_follows m label c Other e = refl

-- what a state does with a symbol, and its shape
abbrev pub led_from : State → Symbol → Led
led_from s k = led (state_shape s).around (state_shape s).others (turn_at (stage_of s) (state_shape s).around (sort_of k))

pub follows : (m : Limits) (s : State) (k : Symbol) → m.width ≡ 31 → state_depth s + 1 < m.depth → IsSound s → Follows (state_depth s) (state_whole s) (step m s k) (led_from s k)
follows m (Wanted c) k e i g = wanted_follows m c k e i
follows m (Sought p) (Name w) e i g = (refl, omega arith, refl, tt)
follows m (Sought p) (Mark Caret) e i g = (refl, omega arith, refl, tt)
follows m (Sought p) (Mark s) e i g = refl
follows m (Sought p) (Constant v) e i g = refl
follows m (Sought p) (Inherent v) e i g = refl
follows m (Sought p) (Applied f) e i g = refl
follows m (Sought p) (Entry None) e i g = refl
follows m (Sought p) (Entry (Some l)) e i g = refl
follows m (Sought p) Overlong e i g = refl
follows m (Sought p) Other e i g = refl
follows m (Marked p) (Name w) e i g = (refl, omega arith, refl, tt)
follows m (Marked (AsOperand c)) (Mark Comma) e i g = stray_follows m (depth_of c) (whole_of c) (shape_of c).around (shape_of c).others (is_full m (outer_of c)) (within_full m c e)
follows m (Marked (AsNamed f c)) (Mark Comma) e i g = refl
follows m (Marked AsTarget) (Mark Comma) e i g = refl
follows m (Marked p) (Mark s) e i g = refl
follows m (Marked p) (Constant v) e i g = refl
follows m (Marked p) (Inherent v) e i g = refl
follows m (Marked p) (Applied f) e i g = refl
follows m (Marked p) (Entry None) e i g = refl
follows m (Marked p) (Entry (Some l)) e i g = refl
follows m (Marked p) Overlong e i g = refl
follows m (Marked p) Other e i g = refl
follows m (Named scope word p) (Mark Open) e i g = opens_follow m (place_depth p) (place_depth p) (place_whole p)
    (Wanted (Front (InList (Subscripts scope word p) No))) _ (omega arith) (refl, omega arith, refl, tt)
follows m (Named scope word p) (Entry None) e i g = named_follows m scope word p (Entry None) e
follows m (Named scope word p) (Entry (Some l)) e i g = named_follows m scope word p (Entry (Some l)) e
follows m (Named scope word p) k e i g = named_follows m scope word p k e
follows m (Entering None None c) k e i g = dollars_follow m c k e
follows m (Entering (Some l) None c) k e i g = label_follows m l c k e (omega arith)
follows m (Entering None (Some n) c) k e i g = entry_follows m (entry_at None (Some n)) c k e (omega arith)
follows m (Entering (Some l) (Some n) c) k e i g = entry_follows m (entry_at (Some l) (Some n)) c k e (omega arith)
follows m (Routed label c) k e i g = routed_follows m label c k e
follows m (Calling (callee.Texts f) c) (Mark Open) e i g = (refl, omega arith, refl, tt)
follows m (Calling (callee.Names f) c) (Mark Open) e i g = (refl, omega arith, refl, tt)
follows m (Calling callee.Select c) (Mark Open) e i g = (refl, omega arith, refl, tt)
follows m (Calling f c) (Mark s) e i g = refl
follows m (Calling f c) (Constant v) e i g = refl
follows m (Calling f c) (Inherent v) e i g = refl
follows m (Calling f c) (Name w) e i g = refl
follows m (Calling f c) (Applied h) e i g = refl
follows m (Calling f c) (Entry None) e i g = refl
follows m (Calling f c) (Entry (Some l)) e i g = refl
follows m (Calling f c) Overlong e i g = refl
follows m (Calling f c) Other e i g = refl
follows m (Behind f v c) k e i g =
    let P : Bool → Type 0 = λ b. Follows (depth_of c + 1) (whole_of c) (after_variable f v c k)
    (led (around.About f) ((shape_of c).around ∷ (shape_of c).others) (cond b (behind_turn (around.About f) (sort_of k)) turn.Stuck)) in
    subst P (most_true (least_subscripts f) (subscript_count v) g) (about_follows f v c k)
follows m (Held x r o) k e i g = held_follows m x r o k e
follows m (Got v) k e i g = ap (led around.Target []) (target_stuck k)
