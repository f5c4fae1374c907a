-- What is known of a step.
use Rattle.std.proofs.Common.{◌≡◌, ℕ, ◌+◌, ◌≤◌, ◌<◌, List, [], ◌∷◌, ◌++◌, refl, ap, sym, ◌∙◌, Bool, true, false, append_assoc, arith, nat_lt, nat_le, Option, Some, None, map}
use Rattle.std.specs.Prelude.{cond, not}
use Rattle.std.proofs.lemmas.Bool.Decides.{nat_tests}
use Rattle.mj_ast.specs.declared.sign.Sign.{Sign}
use Rattle.mj_ast.specs.declared.function.Special as special
use Rattle.mj_ast.specs.declared.sign.Sign.TheVariants.{Plus, Minus, Apostrophe, Question, NegatedQuestion, Caret, Open, Close, Comma, Colon, Dot}
use Rattle.mj_oper.specs.declared.op.UnaryOp.{UnaryOp}
use Rattle.mj_oper.specs.declared.op.Op.{Op}
use Rattle.mj_ast.specs.declared.function.NameFunction.{NameFunction}
use Rattle.mj_ast.specs.declared.function.Callee.{Callee}
use Rattle.mj_ast.specs.declared.function.Callee.TheVariants as callee
use Rattle.mj_ast.specs.Syntax.{Expr, Chain, Tails, Done, Operand, Literal, Intrinsic, Unary, Group, About, Select, Extrinsic, Variable, Exprs, No, More, Last, Actuals, Target as EntryAt}
use Rattle.mj_ast.specs.Tokens.{Token}
use Rattle.mj_ast.specs.Expressions.{Symbol, Constant, Inherent, Name, Applied, Entry, Overlong, Mark, Other, routine_symbols, symbol, unary_sign, binary_sign, expr_symbols, variable_symbols, count, subscript_count, least_subscripts, most_others, levels, levels_of}
use Rattle.mj_ast.specs.Lines.{Filler, no_filler}
use Rattle.mj_expr.specs.Machine.{Outer, Alone, InGroup, InList, InOther, InCondition, InChoice, InActuals, Owner, Subscripts, Arguments, Within, Front, Right, Under, Place, AsOperand, AsNamed, AsTarget, Pairs, and_pair, before_choices, State, Wanted, Calling, Behind, Held, Limits, Next, Go, Stuck, Deep, Long, TooLong, refused_in, and_then, and_more, and_given, filled, closed, least_of, most_of, is_limited, outer_of, run, turn, step, depth_of, opens, opens_call, suffices, after_variable, unary_of, binary_of, hold_sign, hold_other, comma, close, is_full}
use Rattle.mj_expr.proofs.Steps.{less_true, less_false, most_true}
use Rattle.mj_expr.proofs.Zipper.{Kind, outer_before, owner_before, before, listed, listed-more, list_symbols-more, exprs_nesting-more, exprs_width-more, exprs_misfits-more, count-more, list_nesting-more, pairs_symbols, pairs_symbols-and, pairs_nesting-and, pairs_width-and, pairs_misfits-and, choices_symbols-before, choices_nesting-before, choices_width-before, choices_misfits-before, passed, passed-given, actuals_symbols-given, nesting-given, width-given, misfits-given}
use Rattle.mj_expr.proofs.Room.{HasRead, Good, OuterGood, OwnerGood, PlaceGood, good_depth, filled_read, closed_read}

-- ---- limits

-- no less is allowed
pub record IsMore (m l : Limits) : Type 0 where
  pub depth : m.depth ≤ l.depth
  pub width : m.width ≤ l.width

-- with the levels that open with a symbol at least
abbrev pub deeper : Symbol → Limits → Limits
deeper k m = record { depth = m.depth + levels_of k; width = m.width }

abbrev pub wider : Limits → Limits
wider m = record { depth = m.depth; width = m.width + 1 }

pub more_deeper : (k : Symbol) (m : Limits) → IsMore m (deeper k m)
more_deeper k m = record { depth = omega arith; width = omega arith }

pub more_wider : (m : Limits) → IsMore m (wider m)
more_wider m = record { depth = omega arith; width = omega arith }

most_more : (u : Owner) (m l : Limits) → IsMore m l → most_of m u ≤ most_of l u
most_more (Subscripts scope word p) m l i = i.width
most_more (Arguments f c) m l i = omega arith

mutual
  pub outer_good_more : (o : Outer) (K : Kind) (m l : Limits) → IsMore m l → OuterGood K m o → OuterGood K l o
  outer_good_more Alone K m l i g = g
  outer_good_more (InGroup c) K m l i g = (good_more c K m l i g.0, omega (arith, g.1, i.depth))
  outer_good_more (InList u es) K m l i g = (
    owner_good_more u K m l i g.0,
    omega (arith, g.1, i.depth),
    omega (arith, g.2, i.depth),
    omega (arith, g.3, i.width),
    omega (arith, g.4, most_more u m l i),
    g.5,
  )
  outer_good_more (InOther f v c) K m l i g = (good_more c K m l i g.0, omega (arith, g.1, i.depth), omega (arith, g.2, i.depth), omega (arith, g.3, i.width), g.4, g.5, g.6)
  outer_good_more (InCondition ps c) K m l i g = (good_more c K m l i g.0, omega (arith, g.1, i.depth), omega (arith, g.2, i.depth), omega (arith, g.3, i.width), g.4)
  outer_good_more (InChoice ps a c) K m l i g = (
    good_more c K m l i g.0,
    omega (arith, g.1, i.depth),
    omega (arith, g.2, i.depth),
    omega (arith, g.3, i.width),
    g.4,
    omega (arith, g.5, i.depth),
    omega (arith, g.6, i.width),
    g.7,
  )
  outer_good_more (InActuals t es c) K m l i g = (good_more c K m l i g.0, omega (arith, g.1, i.depth), omega (arith, g.2, i.depth), omega (arith, g.3, i.width), g.4, g.5)

  pub owner_good_more : (u : Owner) (K : Kind) (m l : Limits) → IsMore m l → OwnerGood K m u → OwnerGood K l u
  owner_good_more (Subscripts scope word p) K m l i g = place_good_more p K m l i g
  owner_good_more (Arguments f c) K m l i g = good_more c K m l i g

  pub good_more : (c : Within) (K : Kind) (m l : Limits) → IsMore m l → Good K m c → Good K l c
  good_more (Front o) K m l i g = outer_good_more o K m l i g
  good_more (Right first rest op o) K m l i g = (outer_good_more o K m l i g.0, omega (arith, g.1, i.depth), omega (arith, g.2, i.width), g.3)
  good_more (Under op c) K m l i g = (good_more c K m l i g.0, omega (arith, g.1, i.depth))

  pub place_good_more : (p : Place) (K : Kind) (m l : Limits) → IsMore m l → PlaceGood K m p → PlaceGood K l p
  place_good_more (AsOperand c) K m l i g = good_more c K m l i g
  place_good_more (AsNamed f c) K m l i g = (good_more c K m l i g.0, omega (arith, g.1, i.depth), omega (arith, g.2, i.width))
  place_good_more AsTarget K m l i g = g

-- ---- signs

pub some_same : {A : Type 0} (x y : A) → Some x ≡ Some y → x ≡ y
some_same x y e = cc

pub none_some : {A : Type 0} (x : A) → None ≡ Some x → ⊥
none_some x e = cc

pub unary_back : (s : Sign) (op : UnaryOp) → unary_of s ≡ Some op → s ≡ unary_sign op
unary_back Plus op e = ap unary_sign (some_same _ op e)
unary_back Minus op e = ap unary_sign (some_same _ op e)
unary_back Apostrophe op e = ap unary_sign (some_same _ op e)
unary_back s op e = absurd (none_some op e)

pub binary_back : (s : Sign) (op : Op) → binary_of s ≡ Some op → s ≡ binary_sign op
binary_back Caret op e = absurd (none_some op e)
binary_back Open op e = absurd (none_some op e)
binary_back Close op e = absurd (none_some op e)
binary_back Comma op e = absurd (none_some op e)
binary_back Colon op e = absurd (none_some op e)
binary_back Dot op e = absurd (none_some op e)
binary_back Apostrophe op e = absurd (none_some op e)
binary_back Question op e = absurd (none_some op e)
binary_back NegatedQuestion op e = absurd (none_some op e)
binary_back s op e = ap binary_sign (some_same _ op e)

-- ---- facts

-- What is known of a step: R says what was read before, L what is known where a list is too long.
abbrev pub Facts : Kind → Limits → (List Symbol → Type 0) → Type 0 → (Limits → Next) → Symbol → Next → Type 0
Facts K m R L at k (Go s) = ((ks : List Symbol) → R ks → HasRead K m s (ks ++ k ∷ [])) × ((l : Limits) → IsMore m l → at l ≡ Go s)
Facts K m R L at k Stuck = (l : Limits) → IsMore m l → at l ≡ Stuck
Facts K m R L at k Deep = (s : State) × ((ks : List Symbol) → R ks → HasRead K (deeper k m) s (ks ++ k ∷ []))
Facts K m R L at k Long = L

-- where a list is too long: with a comma, and perhaps one symbol before it, it would have one subscript more
pub record LongFacts (K : Kind) (m : Limits) (R : List Symbol → Type 0) (s : State) (k : Symbol) : Type 0 where
  pub comma : k ≡ Mark Comma
  pub filler : List Token
  pub fills : Filler filler
  pub over : State
  pub opened : (ks : List Symbol) → R ks → HasRead K (wider m) over (ks ++ (map symbol filler ++ k ∷ []))
  pub local : (l : Limits) (y : List Symbol) → m.depth ≤ l.depth → l.width ≡ m.width → run l (map symbol filler ++ k ∷ y) s ≡ TooLong

-- where a list is too long with a comma behind an expression
pub record HeldLong (K : Kind) (m : Limits) (R : List Symbol → Type 0) (at : Limits → Next) (k : Symbol) : Type 0 where
  pub comma : k ≡ Mark Comma
  pub over : State
  pub opened : (ks : List Symbol) → R ks → HasRead K (wider m) over (ks ++ k ∷ [])
  pub stays : (l : Limits) → l.width ≡ m.width → at l ≡ Long

pub opens_as : (K : Kind) (m : Limits) (R : List Symbol → Type 0) (L : Type 0) (k : Symbol) (d : ℕ) (s : State) (b : Bool) → nat_lt d m.depth ≡ b →
    (d < m.depth → (ks : List Symbol) → R ks → HasRead K m s (ks ++ k ∷ [])) →
    ((ks : List Symbol) → R ks → HasRead K (deeper k m) s (ks ++ k ∷ [])) →
    Facts K m R L (λ l. opens l d s) k (cond b (Go s) Deep)
opens_as K m R L k d s true e f g =
    let h : d < m.depth = grind (arith, nat_tests) in
    (f h, λ l i. ap (λ (b : Bool). cond b (Go s) Deep) (less_true d l.depth (omega (arith, i.depth))))
opens_as K m R L k d s false e f g = (s, g)

pub opens_facts : (K : Kind) (m : Limits) (R : List Symbol → Type 0) (L : Type 0) (k : Symbol) (d : ℕ) (s : State) →
    (d < m.depth → (ks : List Symbol) → R ks → HasRead K m s (ks ++ k ∷ [])) →
    ((ks : List Symbol) → R ks → HasRead K (deeper k m) s (ks ++ k ∷ [])) →
    Facts K m R L (λ l. opens l d s) k (opens m d s)
opens_facts K m R L k d s f g = opens_as K m R L k d s (nat_lt d m.depth) refl f g

-- the levels of a function
call_as : (K : Kind) (m : Limits) (R : List Symbol → Type 0) (L : Type 0) (k : Symbol) (f : Callee) (c : Within) (b : Bool) → nat_le (depth_of c + levels f) m.depth ≡ b →
    (depth_of c + levels f ≤ m.depth → (ks : List Symbol) → R ks → HasRead K m (Calling f c) (ks ++ k ∷ [])) →
    ((ks : List Symbol) → R ks → HasRead K (deeper k m) (Calling f c) (ks ++ k ∷ [])) →
    Facts K m R L (λ l. opens_call l f c) k (cond b (Go (Calling f c)) Deep)
call_as K m R L k f c true e g h =
    let n : depth_of c + levels f ≤ m.depth = grind (arith, nat_tests) in
    (g n, λ l i. ap (λ (b : Bool). cond b (Go (Calling f c)) Deep) (most_true (depth_of c + levels f) l.depth (omega (arith, i.depth))))
call_as K m R L k f c false e g h = (Calling f c, h)

pub call_facts : (K : Kind) (m : Limits) (R : List Symbol → Type 0) (L : Type 0) (k : Symbol) (f : Callee) (c : Within) →
    (depth_of c + levels f ≤ m.depth → (ks : List Symbol) → R ks → HasRead K m (Calling f c) (ks ++ k ∷ [])) →
    ((ks : List Symbol) → R ks → HasRead K (deeper k m) (Calling f c) (ks ++ k ∷ [])) →
    Facts K m R L (λ l. opens_call l f c) k (opens_call m f c)
call_facts K m R L k f c g h = call_as K m R L k f c (nat_le (depth_of c + levels f) m.depth) refl g h

-- ---- behind an expression

-- another expression of a list is wanted
pub comma_read : (K : Kind) (m l : Limits) (u : Owner) (es : Exprs) (x : Operand) (r : Tails) (ks : List Symbol) → IsMore m l → count es + 2 ≤ most_of l u →
    HasRead K m (Held x r (InList u es)) ks → HasRead K l (Wanted (Front (InList u (and_more es (Chain x r))))) (ks ++ Mark Comma ∷ [])
comma_read K m l u es x r ks i w h =
    let e : Expr = Chain x r in
    let same : owner_before u ++ Mark Open ∷ (listed es ++ (expr_symbols e ++ Mark Comma ∷ [])) ≡
    ((owner_before u ++ Mark Open ∷ listed es) ++ expr_symbols e) ++ Mark Comma ∷ [] = simp append_assoc in
    record {
      good =
          let g = h.good in (
            owner_good_more u K m l i g.0.0,
            omega (arith, g.0.1, i.depth),
            omega (arith, exprs_nesting-more es (Chain x r), g.0.2, g.1, i.depth),
            omega (arith, exprs_width-more es (Chain x r), g.0.3, g.2, i.width),
            omega (arith, count-more es (Chain x r)),
            omega (arith, exprs_misfits-more es (Chain x r), g.0.5, g.3),
          );
      read =
          ap (λ (zs : List Symbol). owner_before u ++ Mark Open ∷ zs) (listed-more es e)
          ∙ same ∙ ap (λ (zs : List Symbol). zs ++ Mark Comma ∷ []) h.read;
    }

over_as : (K : Kind) (m : Limits) (u : Owner) (es : Exprs) (x : Operand) (r : Tails) (b : Bool) → is_limited u ≡ b → most_of m u ≤ count es + 1 →
    Facts K m (HasRead K m (Held x r (InList u es))) (HeldLong K m (HasRead K m (Held x r (InList u es))) (λ l. comma l (Chain x r) (InList u es)) (Mark Comma))
    (λ l. comma l (Chain x r) (InList u es)) (Mark Comma) (cond b Long Stuck)
over_as K m (Subscripts scope word p) es x r true e n =
    let u = Subscripts scope word p in
    record {
      comma = refl;
      over = Wanted (Front (InList u (and_more es (Chain x r))));
      opened = λ ks h. comma_read K m (wider m) u es x r ks (more_wider m) (omega (arith, h.good.0.4)) h;
      stays = λ l i. ap (λ (b : Bool). cond b (Go (Wanted (Front (InList u (and_more es (Chain x r)))))) Long) (less_false (count es + 1) l.width (omega arith));
    }
over_as K m (Subscripts scope word p) es x r false e n = absurd (let f : true ≡ false = e in cc)
over_as K m (Arguments f c) es x r true e n = absurd (let g : false ≡ true = e in cc)
over_as K m (Arguments f c) es x r false e n =
    let u = Arguments f c in
    λ l i. ap (λ (b : Bool). cond b (Go (Wanted (Front (InList u (and_more es (Chain x r)))))) Stuck) (less_false (count es + 1) (most_of l u) (omega arith))

comma_as : (K : Kind) (m : Limits) (u : Owner) (es : Exprs) (x : Operand) (r : Tails) (b : Bool) → nat_lt (count es + 1) (most_of m u) ≡ b →
    Facts K m (HasRead K m (Held x r (InList u es))) (HeldLong K m (HasRead K m (Held x r (InList u es))) (λ l. comma l (Chain x r) (InList u es)) (Mark Comma))
    (λ l. comma l (Chain x r) (InList u es)) (Mark Comma) (cond b (Go (Wanted (Front (InList u (and_more es (Chain x r)))))) (cond (is_limited u) Long Stuck))
comma_as K m u es x r true e =
    let n : count es + 1 < most_of m u = grind (arith, nat_tests) in (
      λ ks h. comma_read K m m u es x r ks (record { depth = omega arith; width = omega arith }) (omega arith) h,
      λ l i. ap (λ (b : Bool). cond b (Go (Wanted (Front (InList u (and_more es (Chain x r)))))) (cond (is_limited u) Long Stuck))
          (less_true (count es + 1) (most_of l u) (omega (arith, most_more u m l i))),
    )
comma_as K m u es x r false e =
    let n : most_of m u ≤ count es + 1 = grind (arith, nat_tests) in
    over_as K m u es x r (is_limited u) refl n

-- another choice is wanted
choice_read : (K : Kind) (m : Limits) (ps : Pairs) (a : Expr) (c : Within) (x : Operand) (r : Tails) (ks : List Symbol) →
    HasRead K m (Held x r (InChoice ps a c)) ks → HasRead K m (Wanted (Front (InCondition (and_pair ps a (Chain x r)) c))) (ks ++ Mark Comma ∷ [])
choice_read K m ps a c x r ks h =
    let e : Expr = Chain x r in
    let same : before c ++ Applied callee.Select ∷ Mark Open ∷ (pairs_symbols ps ++ (expr_symbols a ++ Mark Colon ∷ (expr_symbols e ++ Mark Comma ∷ [])))
    ≡ ((before c ++ Applied callee.Select ∷ Mark Open ∷ (pairs_symbols ps ++ (expr_symbols a ++ Mark Colon ∷ []))) ++ expr_symbols e) ++ Mark Comma ∷ [] = simp append_assoc in
    record {
      good =
          let g = h.good in (
            g.0.0,
            g.0.1,
            omega (arith, pairs_nesting-and ps a e, g.0.2, g.0.5, g.1),
            omega (arith, pairs_width-and ps a e, g.0.3, g.0.6, g.2),
            omega (arith, pairs_misfits-and ps a e, g.0.4, g.0.7, g.3),
          );
      read =
          ap (λ (zs : List Symbol). before c ++ Applied callee.Select ∷ Mark Open ∷ zs) (pairs_symbols-and ps a e)
          ∙ same ∙ ap (λ (zs : List Symbol). zs ++ Mark Comma ∷ []) h.read;
    }

-- another actual may come
given_read : (K : Kind) (m : Limits) (t : EntryAt) (es : Actuals) (c : Within) (x : Operand) (r : Tails) (ks : List Symbol) →
    HasRead K m (Held x r (InActuals t es c)) ks → HasRead K m (Wanted (Front (InActuals t (and_given es (Chain x r)) c))) (ks ++ Mark Comma ∷ [])
given_read K m t es c x r ks h =
    let e : Expr = Chain x r in
    let same : before c ++ Entry t.label ∷ (routine_symbols t.routine ++ Mark Open ∷ (passed es ++ (expr_symbols e ++ Mark Comma ∷ [])))
    ≡ ((before c ++ Entry t.label ∷ (routine_symbols t.routine ++ Mark Open ∷ passed es)) ++ expr_symbols e) ++ Mark Comma ∷ [] = simp append_assoc in
    record {
      good =
          let g = h.good in (
            g.0.0,
            g.0.1,
            omega (arith, (nesting-given es e).0, g.0.2, g.1),
            omega (arith, width-given es e, g.0.3, g.2),
            omega (arith, misfits-given es e, g.0.4, g.3),
            g.0.5,
          );
      read =
          ap (λ (zs : List Symbol). before c ++ Entry t.label ∷ (routine_symbols t.routine ++ Mark Open ∷ zs)) (passed-given es e)
          ∙ same ∙ ap (λ (zs : List Symbol). zs ++ Mark Comma ∷ []) h.read;
    }

comma_facts : (K : Kind) (m : Limits) (x : Operand) (r : Tails) (o : Outer) →
    Facts K m (HasRead K m (Held x r o)) (HeldLong K m (HasRead K m (Held x r o)) (λ l. comma l (Chain x r) o) (Mark Comma)) (λ l. comma l (Chain x r) o) (Mark Comma) (comma m (Chain x r) o)
comma_facts K m x r Alone = λ l i. refl
comma_facts K m x r (InGroup c) = λ l i. refl
comma_facts K m x r (InList u es) = comma_as K m u es x r (nat_lt (count es + 1) (most_of m u)) refl
comma_facts K m x r (InOther f v c) = λ l i. refl
comma_facts K m x r (InCondition ps c) = λ l i. refl
comma_facts K m x r (InChoice ps a c) = (choice_read K m ps a c x r, λ l i. refl)
comma_facts K m x r (InActuals t es c) = (given_read K m t es c x r, λ l i. refl)

-- the value of a condition is wanted
colon_read : (K : Kind) (m : Limits) (ps : Pairs) (c : Within) (x : Operand) (r : Tails) (ks : List Symbol) →
    HasRead K m (Held x r (InCondition ps c)) ks → HasRead K m (Wanted (Front (InChoice ps (Chain x r) c))) (ks ++ Mark Colon ∷ [])
colon_read K m ps c x r ks h =
    let e : Expr = Chain x r in
    let same : before c ++ Applied callee.Select ∷ Mark Open ∷ (pairs_symbols ps ++ (expr_symbols e ++ Mark Colon ∷ []))
    ≡ ((before c ++ Applied callee.Select ∷ Mark Open ∷ pairs_symbols ps) ++ expr_symbols e) ++ Mark Colon ∷ [] = simp append_assoc in
    record {
      good = let g = h.good in (g.0.0, g.0.1, g.0.2, g.0.3, g.0.4, omega (arith, g.1), g.2, g.3);
      read = same ∙ ap (λ (zs : List Symbol). zs ++ Mark Colon ∷ []) h.read;
    }

group_closed : (K : Kind) (m : Limits) (c : Within) (x : Operand) (r : Tails) (ks : List Symbol) → HasRead K m (Held x r (InGroup c)) ks →
    HasRead K m (filled (Group (Chain x r)) c) (ks ++ Mark Close ∷ [])
group_closed K m c x r ks h =
    filled_read c K m (Group (Chain x r)) _ h.good.0.0 (let n = h.good.1 in omega arith) h.good.2 h.good.3
    (sym (simp append_assoc) ∙ ap (λ (zs : List Symbol). zs ++ Mark Close ∷ []) h.read)

-- what stands behind the variable of a function
other_closed : (K : Kind) (m : Limits) (f : NameFunction) (v : Variable) (c : Within) (x : Operand) (r : Tails) (ks : List Symbol) → HasRead K m (Held x r (InOther f v c)) ks →
    HasRead K m (filled (About f v (More (Chain x r) No)) c) (ks ++ Mark Close ∷ [])
other_closed K m f v c x r ks h =
    let g = h.good in
    let e : Expr = Chain x r in
    let same : before c ++ Applied (callee.Names f) ∷ Mark Open ∷ (variable_symbols v ++ Mark Comma ∷ (expr_symbols e ++ Mark Close ∷ []))
    ≡ ((before c ++ Applied (callee.Names f) ∷ Mark Open ∷ (variable_symbols v ++ Mark Comma ∷ [])) ++ expr_symbols e) ++ Mark Close ∷ [] = simp append_assoc in
    filled_read c K m (About f v (More e No)) _ g.0.0 (omega (arith, g.0.2, g.1)) (omega (arith, g.0.3, g.2)) (omega (arith, g.0.4, g.0.5, g.0.6, g.3))
    (same ∙ ap (λ (zs : List Symbol). zs ++ Mark Close ∷ []) h.read)

list_closed : (K : Kind) (m : Limits) (u : Owner) (es : Exprs) (x : Operand) (r : Tails) (ks : List Symbol) → least_of u ≤ count es + 1 → HasRead K m (Held x r (InList u es)) ks →
    HasRead K m (closed u (and_more es (Chain x r))) (ks ++ Mark Close ∷ [])
list_closed K m u es x r ks f h =
    let g = h.good in
    let e : Expr = Chain x r in
    let same : owner_before u ++ Mark Open ∷ (listed es ++ (expr_symbols e ++ Mark Close ∷ [])) ≡
    ((owner_before u ++ Mark Open ∷ listed es) ++ expr_symbols e) ++ Mark Close ∷ [] = simp append_assoc in
    closed_read u K m (and_more es e) _ g.0.0
    (omega (arith, list_nesting-more es e, g.0.2, g.1))
    (omega (arith, exprs_width-more es e, g.0.3, g.2))
    (omega (arith, count-more es e, g.0.4))
    (omega (arith, count-more es e))
    (omega (arith, count-more es e))
    (omega (arith, exprs_misfits-more es e, g.0.5, g.3))
    (ap (λ (zs : List Symbol). owner_before u ++ zs) (list_symbols-more es e) ∙ same ∙ ap (λ (zs : List Symbol). zs ++ Mark Close ∷ []) h.read)

close_as : (K : Kind) (m : Limits) (u : Owner) (es : Exprs) (x : Operand) (r : Tails) (L : Type 0) (b : Bool) → nat_le (least_of u) (count es + 1) ≡ b →
    Facts K m (HasRead K m (Held x r (InList u es))) L (λ l. close (Chain x r) (InList u es)) (Mark Close) (cond b (Go (closed u (and_more es (Chain x r)))) Stuck)
close_as K m u es x r L true e =
    let n : least_of u ≤ count es + 1 = grind (arith, nat_tests) in
    (λ ks h. list_closed K m u es x r ks n h, λ l i. ap (λ (b : Bool). cond b (Go (closed u (and_more es (Chain x r)))) Stuck) e)
close_as K m u es x r L false e = λ l i. ap (λ (b : Bool). cond b (Go (closed u (and_more es (Chain x r)))) Stuck) e

choice_closed : (K : Kind) (m : Limits) (ps : Pairs) (a : Expr) (c : Within) (x : Operand) (r : Tails) (ks : List Symbol) → HasRead K m (Held x r (InChoice ps a c)) ks →
    HasRead K m (filled (Select (before_choices ps (Last a (Chain x r)))) c) (ks ++ Mark Close ∷ [])
choice_closed K m ps a c x r ks h =
    let g = h.good in
    let e : Expr = Chain x r in
    let same : before c ++ Applied callee.Select ∷ Mark Open ∷ (pairs_symbols ps ++ (expr_symbols a ++ Mark Colon ∷ (expr_symbols e ++ Mark Close ∷ [])))
    ≡ ((before c ++ Applied callee.Select ∷ Mark Open ∷ (pairs_symbols ps ++ (expr_symbols a ++ Mark Colon ∷ []))) ++ expr_symbols e) ++ Mark Close ∷ [] = simp append_assoc in
    filled_read c K m (Select (before_choices ps (Last a e))) _ g.0.0
    (omega (arith, choices_nesting-before ps (Last a e), g.0.2, g.0.5, g.1))
    (omega (arith, choices_width-before ps (Last a e), g.0.3, g.0.6, g.2))
    (omega (arith, choices_misfits-before ps (Last a e), g.0.4, g.0.7, g.3))
    (ap (λ (zs : List Symbol). before c ++ Applied callee.Select ∷ Mark Open ∷ zs) (choices_symbols-before ps (Last a e)) ∙ same ∙ ap (λ (zs : List Symbol). zs ++ Mark Close ∷ []) h.read)

-- the end of a function that is written in M
given_closed : (K : Kind) (m : Limits) (t : EntryAt) (es : Actuals) (c : Within) (x : Operand) (r : Tails) (ks : List Symbol) → HasRead K m (Held x r (InActuals t es c)) ks →
    HasRead K m (filled (Extrinsic t (and_given es (Chain x r))) c) (ks ++ Mark Close ∷ [])
given_closed K m t es c x r ks h =
    let g = h.good in
    let e : Expr = Chain x r in
    let same : before c ++ Entry t.label ∷ (routine_symbols t.routine ++ Mark Open ∷ (passed es ++ (expr_symbols e ++ Mark Close ∷ [])))
    ≡ ((before c ++ Entry t.label ∷ (routine_symbols t.routine ++ Mark Open ∷ passed es)) ++ expr_symbols e) ++ Mark Close ∷ [] = simp append_assoc in
    filled_read c K m (Extrinsic t (and_given es e)) _ g.0.0
    (omega (arith, (nesting-given es e).1, g.0.2, g.1))
    (omega (arith, width-given es e, g.0.3, g.2))
    (omega (arith, misfits-given es e, g.0.4, g.0.5, g.3))
    (ap (λ (zs : List Symbol). before c ++ Entry t.label ∷ (routine_symbols t.routine ++ zs)) (actuals_symbols-given es e) ∙ same ∙ ap (λ (zs : List Symbol). zs ++ Mark Close ∷ []) h.read)

abbrev HeldL : Kind → Limits → Operand → Tails → Outer → Sign → (Limits → Next) → Type 0
HeldL K m x r o s at = HeldLong K m (HasRead K m (Held x r o)) at (Mark s)

other_facts : (K : Kind) (m : Limits) (x : Operand) (r : Tails) (o : Outer) (s : Sign) →
    Facts K m (HasRead K m (Held x r o)) (HeldL K m x r o s (λ l. hold_other l (Chain x r) o s)) (λ l. hold_other l (Chain x r) o s) (Mark s) (hold_other m (Chain x r) o s)
other_facts K m x r Alone Close = λ l i. refl
other_facts K m x r (InGroup c) Close = (group_closed K m c x r, λ l i. refl)
other_facts K m x r (InList u es) Close = close_as K m u es x r (HeldL K m x r (InList u es) Close (λ l. close (Chain x r) (InList u es))) (nat_le (least_of u) (count es + 1)) refl
other_facts K m x r (InOther f v c) Close = (other_closed K m f v c x r, λ l i. refl)
other_facts K m x r (InCondition ps c) Close = λ l i. refl
other_facts K m x r (InChoice ps a c) Close = (choice_closed K m ps a c x r, λ l i. refl)
other_facts K m x r (InActuals t es c) Close = (given_closed K m t es c x r, λ l i. refl)
other_facts K m x r Alone Colon = λ l i. refl
other_facts K m x r (InGroup c) Colon = λ l i. refl
other_facts K m x r (InList u es) Colon = λ l i. refl
other_facts K m x r (InOther f v c) Colon = λ l i. refl
other_facts K m x r (InCondition ps c) Colon = (colon_read K m ps c x r, λ l i. refl)
other_facts K m x r (InChoice ps a c) Colon = λ l i. refl
other_facts K m x r (InActuals t es c) Colon = λ l i. refl
other_facts K m x r o Comma = comma_facts K m x r o
other_facts K m x r o s = λ l i. refl

joined_facts : (K : Kind) (m : Limits) (x : Operand) (r : Tails) (o : Outer) (s : Sign) (q : Option Op) → binary_of s ≡ q →
    Facts K m (HasRead K m (Held x r o)) (HeldL K m x r o s (λ l. hold_sign l x r o s q)) (λ l. hold_sign l x r o s q) (Mark s) (hold_sign m x r o s q)
joined_facts K m x r o s (Some op) e = (
  λ ks h. record {
    good = h.good;
    read =
        sym (append_assoc (outer_before o) (expr_symbols (Chain x r)) (Mark (binary_sign op) ∷ []))
        ∙ ap (λ (zs : List Symbol). zs ++ Mark (binary_sign op) ∷ []) h.read
        ∙ ap (λ (z : Sign). ks ++ Mark z ∷ []) (sym (binary_back s op e));
  },
  λ l i. refl,
)
joined_facts K m x r o s None e = other_facts K m x r o s

pub held_facts : (K : Kind) (m : Limits) (x : Operand) (r : Tails) (o : Outer) (k : Symbol) →
    Facts K m (HasRead K m (Held x r o)) (HeldLong K m (HasRead K m (Held x r o)) (λ l. step l (Held x r o) k) k) (λ l. step l (Held x r o) k) k (step m (Held x r o) k)
held_facts K m x r o (Mark s) = joined_facts K m x r o s (binary_of s) refl
held_facts K m x r o (Constant value) = λ l i. refl
held_facts K m x r o (Inherent value) = λ l i. refl
held_facts K m x r o (Name word) = λ l i. refl
held_facts K m x r o (Applied f) = λ l i. refl
held_facts K m x r o (Entry l) = λ l i. refl
held_facts K m x r o Overlong = λ l i. refl
held_facts K m x r o Other = λ l i. refl

-- ---- behind the variable of a function

-- the end of the function
about_read : (K : Kind) (m : Limits) (f : NameFunction) (v : Variable) (c : Within) (ks : List Symbol) → HasRead K m (Behind f v c) ks → HasRead K m (filled (About f v No) c) (ks ++ Mark Close ∷ [])
about_read K m f v c ks h =
    let g = h.good in
    let same : before c ++ Applied (callee.Names f) ∷ Mark Open ∷ (variable_symbols v ++ Mark Close ∷ [])
    ≡ ((before c ++ Applied (callee.Names f) ∷ Mark Open ∷ []) ++ variable_symbols v) ++ Mark Close ∷ [] = simp append_assoc in
    filled_read c K m (About f v No) _ g.0 (omega (arith, g.1)) (omega (arith, g.2)) (omega (arith, g.3, g.4)) (same ∙ ap (λ (zs : List Symbol). zs ++ Mark Close ∷ []) h.read)

-- what stands behind the variable is wanted
other_read : (K : Kind) (m : Limits) (f : NameFunction) (v : Variable) (c : Within) (ks : List Symbol) → 0 < most_others f → HasRead K m (Behind f v c) ks →
    HasRead K m (Wanted (Front (InOther f v c))) (ks ++ Mark Comma ∷ [])
other_read K m f v c ks o h =
    let g = h.good in
    let same : before c ++ Applied (callee.Names f) ∷ Mark Open ∷ (variable_symbols v ++ Mark Comma ∷ [])
    ≡ ((before c ++ Applied (callee.Names f) ∷ Mark Open ∷ []) ++ variable_symbols v) ++ Mark Comma ∷ [] = simp append_assoc in
    record {
      good = (g.0, omega (arith, g.1), g.1, g.2, g.3, g.4, omega arith);
      read = same ∙ ap (λ (zs : List Symbol). zs ++ Mark Comma ∷ []) h.read;
    }

-- where a variable was read, if it has subscripts enough
abbrev ReadBehind : Kind → Limits → (List Symbol → Type 0) → NameFunction → Variable → Within → Type 0
ReadBehind K m R f v c = (ks : List Symbol) → least_subscripts f ≤ subscript_count v → R ks → HasRead K m (Behind f v c) ks

about_as : (K : Kind) (m : Limits) (R : List Symbol → Type 0) (L : Type 0) (f : NameFunction) (v : Variable) (c : Within) (b : Bool) → suffices f v ≡ b → ReadBehind K m R f v c →
    Facts K m R L (λ l. after_variable f v c (Mark Close)) (Mark Close) (cond b (Go (filled (About f v No) c)) Stuck)
about_as K m R L f v c true e g =
    let n : least_subscripts f ≤ subscript_count v = grind (arith, nat_tests) in
    (λ ks h. about_read K m f v c ks (g ks n h), λ l i. ap (λ (b : Bool). cond b (Go (filled (About f v No) c)) Stuck) e)
about_as K m R L f v c false e g = λ l i. ap (λ (b : Bool). cond b (Go (filled (About f v No) c)) Stuck) e

abbrev another : NameFunction → Variable → Within → Bool → Bool → Next
another f v c b d = cond b (cond d (Go (Wanted (Front (InOther f v c)))) Stuck) Stuck

other_as : (K : Kind) (m : Limits) (R : List Symbol → Type 0) (L : Type 0) (f : NameFunction) (v : Variable) (c : Within) (b d : Bool) → suffices f v ≡ b →
    nat_lt 0 (most_others f) ≡ d → ReadBehind K m R f v c →
    Facts K m R L (λ l. after_variable f v c (Mark Comma)) (Mark Comma) (another f v c b d)
other_as K m R L f v c true true e i g =
    let n : least_subscripts f ≤ subscript_count v = grind (arith, nat_tests) in
    let o : 0 < most_others f = grind (arith, nat_tests) in
    (λ ks h. other_read K m f v c ks o (g ks n h), λ l j. ap (λ (b : Bool). another f v c b (nat_lt 0 (most_others f))) e ∙ ap (λ (d : Bool). another f v c true d) i)
other_as K m R L f v c true false e i g = λ l j. ap (λ (b : Bool). another f v c b (nat_lt 0 (most_others f))) e ∙ ap (λ (d : Bool). another f v c true d) i
other_as K m R L f v c false d e i g = λ l j. ap (λ (b : Bool). another f v c b (nat_lt 0 (most_others f))) e

behind_sign : (K : Kind) (m : Limits) (R : List Symbol → Type 0) (L : Type 0) (f : NameFunction) (v : Variable) (c : Within) (s : Sign) →
    ReadBehind K m R f v c → Facts K m R L (λ l. after_variable f v c (Mark s)) (Mark s) (after_variable f v c (Mark s))
behind_sign K m R L f v c Close g = about_as K m R L f v c (suffices f v) refl g
behind_sign K m R L f v c Comma g = other_as K m R L f v c (suffices f v) (nat_lt 0 (most_others f)) refl refl g
behind_sign K m R L f v c s g = λ l i. refl

pub behind_facts : (K : Kind) (m : Limits) (R : List Symbol → Type 0) (L : Type 0) (f : NameFunction) (v : Variable) (c : Within) (k : Symbol) →
    ReadBehind K m R f v c → Facts K m R L (λ l. after_variable f v c k) k (after_variable f v c k)
behind_facts K m R L f v c (Mark s) g = behind_sign K m R L f v c s g
behind_facts K m R L f v c (Constant value) g = λ l i. refl
behind_facts K m R L f v c (Inherent value) g = λ l i. refl
behind_facts K m R L f v c (Name word) g = λ l i. refl
behind_facts K m R L f v c (Applied h) g = λ l i. refl
behind_facts K m R L f v c (Entry l) g = λ l i. refl
behind_facts K m R L f v c Overlong g = λ l i. refl
behind_facts K m R L f v c Other g = λ l i. refl

-- ---- other facts from these

pub weaken : (K : Kind) (m : Limits) (R S : List Symbol → Type 0) (L M : Type 0) (at : Limits → Next) (k : Symbol) (x : Next) →
    ((ks : List Symbol) → S ks → R ks) → (L → M) → Facts K m R L at k x → Facts K m S M at k x
weaken K m R S L M at k (Go s) g t f = (λ ks h. f.0 ks (g ks h), f.1)
weaken K m R S L M at k Stuck g t f = f
weaken K m R S L M at k Deep g t f = (f.0, λ ks h. f.1 ks (g ks h))
weaken K m R S L M at k Long g t f = t f

-- at a step that is refused whatever was read
pub long_as : (l : Limits) (y : List Symbol) (s : State) (k : Symbol) (x : Next) → step l s k ≡ x → x ≡ Long → run l (k ∷ y) s ≡ TooLong
long_as l y s k x e f = ap (turn l y s k) (e ∙ f)

-- what is known behind an expression, for a state that steps as it does
pub from_held : (K : Kind) (m : Limits) (R : List Symbol → Type 0) (t : State) (x : Operand) (r : Tails) (o : Outer) (k : Symbol) →
    ((ks : List Symbol) → R ks → HasRead K m (Held x r o) ks) → ((l : Limits) → step l t k ≡ step l (Held x r o) k) →
    Facts K m R (LongFacts K m R t k) (λ l. step l (Held x r o) k) k (step m (Held x r o) k)
from_held K m R t x r o k g same =
    weaken K m (HasRead K m (Held x r o)) R (HeldLong K m (HasRead K m (Held x r o)) (λ l. step l (Held x r o) k) k) (LongFacts K m R t k) (λ l. step l (Held x r o) k) k (step m (Held x r o) k) g
    (λ h. record {
      comma = h.comma;
      filler = [];
      fills = no_filler;
      over = h.over;
      opened = λ ks q. h.opened ks (g ks q);
      local = λ l y d w. long_as l y t k _ (same l) (h.stays l w);
    })
    (held_facts K m x r o k)

-- ---- where an operand is wanted

pub filled_outer : (x : Operand) (c : Within) → (y : Operand) × (r : Tails) × (filled x c ≡ Held y r (outer_of c))
filled_outer x (Front o) = (x, Done, refl)
filled_outer x (Right first rest op o) = (first, and_then rest op x, refl)
filled_outer x (Under op c) = filled_outer (Unary op x) c

pub constant_read : (K : Kind) (m : Limits) (c : Within) (value : List ℕ) (ks : List Symbol) → HasRead K m (Wanted c) ks → HasRead K m (filled (Literal value) c) (ks ++ Constant value ∷ [])
constant_read K m c value ks h =
    filled_read c K m (Literal value) _ h.good (omega (arith, good_depth K m c h.good)) (omega arith) refl (ap (λ (zs : List Symbol). zs ++ Constant value ∷ []) h.read)

pub inherent_read : (K : Kind) (m : Limits) (c : Within) (v : special.Special) (ks : List Symbol) → HasRead K m (Wanted c) ks → HasRead K m (filled (Intrinsic v) c) (ks ++ Inherent v ∷ [])
inherent_read K m c v ks h =
    filled_read c K m (Intrinsic v) _ h.good (omega (arith, good_depth K m c h.good)) (omega arith) refl (ap (λ (zs : List Symbol). zs ++ Inherent v ∷ []) h.read)

-- a full list stays full, and one with room keeps it
pub full_same : (m l : Limits) (o : Outer) → l.width ≡ m.width → is_full l o ≡ is_full m o
full_same m l Alone e = refl
full_same m l (InGroup c) e = refl
full_same m l (InList (Subscripts scope word p) es) e = ap (λ (w : ℕ). not (nat_lt (count es + 1) w)) e
full_same m l (InList (Arguments f c) es) e = refl
full_same m l (InOther f v c) e = refl
full_same m l (InCondition ps c) e = refl
full_same m l (InChoice ps a c) e = refl
full_same m l (InActuals t es c) e = refl

pub room_stays : (m l : Limits) (o : Outer) → is_full m o ≡ false → IsMore m l → is_full l o ≡ false
room_stays m l Alone e i = refl
room_stays m l (InGroup c) e i = refl
room_stays m l (InOther f v c) e i = refl
room_stays m l (InCondition ps c) e i = refl
room_stays m l (InChoice ps a c) e i = refl
room_stays m l (InActuals t es c) e i = refl
room_stays m l (InList (Arguments f c) es) e i = refl
room_stays m l (InList (Subscripts scope word p) es) e i = room_as (count es + 1) m.width l.width (nat_lt (count es + 1) m.width) refl e i.width
  where
    room_as : (n w v : ℕ) (b : Bool) → nat_lt n w ≡ b → not (nat_lt n w) ≡ false → w ≤ v → not (nat_lt n v) ≡ false
    room_as n w v true e f i = let h : n < w = grind (arith, nat_tests) in ap not (less_true n v (omega arith))
    room_as n w v false e f i = absurd (true_false (sym (ap not e) ∙ f))
      where
        true_false : true ≡ false → ⊥
        true_false h = cc

-- a comma behind an expression in a full list
pub full_comma : (l : Limits) (y : List Symbol) (x : Operand) (r : Tails) (o : Outer) → is_full l o ≡ true → run l (Mark Comma ∷ y) (Held x r o) ≡ TooLong
full_comma l y x r Alone e = absurd (let h : false ≡ true = e in cc)
full_comma l y x r (InGroup c) e = absurd (let h : false ≡ true = e in cc)
full_comma l y x r (InOther f v c) e = absurd (let h : false ≡ true = e in cc)
full_comma l y x r (InCondition ps c) e = absurd (let h : false ≡ true = e in cc)
full_comma l y x r (InChoice ps a c) e = absurd (let h : false ≡ true = e in cc)
full_comma l y x r (InActuals t es c) e = absurd (let h : false ≡ true = e in cc)
full_comma l y x r (InList (Arguments f c) es) e = absurd (let h : false ≡ true = e in cc)
full_comma l y x r (InList (Subscripts scope word p) es) e = full_as (nat_lt (count es + 1) l.width) refl
  where
    full_as : (b : Bool) → nat_lt (count es + 1) l.width ≡ b → run l (Mark Comma ∷ y) (Held x r (InList (Subscripts scope word p) es)) ≡ TooLong
    full_as true f = absurd (let h : not (nat_lt (count es + 1) l.width) ≡ true = e in let g : not true ≡ true = sym (ap not f) ∙ h in let z : false ≡ true = g in cc)
    full_as false f = ap (λ (b : Bool). turn l y (Held x r (InList (Subscripts scope word p) es)) (Mark Comma)
        (cond b (Go (Wanted (Front (InList (Subscripts scope word p) (and_more es (Chain x r)))))) Long)) f

-- with one more subscript, where the list is full
pub full_opened : (K : Kind) (m : Limits) (x : Operand) (r : Tails) (o : Outer) → is_full m o ≡ true →
    (s : State) × ((ks : List Symbol) → HasRead K m (Held x r o) ks → HasRead K (wider m) s (ks ++ Mark Comma ∷ []))
full_opened K m x r Alone e = absurd (let h : false ≡ true = e in cc)
full_opened K m x r (InGroup c) e = absurd (let h : false ≡ true = e in cc)
full_opened K m x r (InOther f v c) e = absurd (let h : false ≡ true = e in cc)
full_opened K m x r (InCondition ps c) e = absurd (let h : false ≡ true = e in cc)
full_opened K m x r (InChoice ps a c) e = absurd (let h : false ≡ true = e in cc)
full_opened K m x r (InActuals t es c) e = absurd (let h : false ≡ true = e in cc)
full_opened K m x r (InList (Arguments f c) es) e = absurd (let h : false ≡ true = e in cc)
full_opened K m x r (InList (Subscripts scope word p) es) e =
    (Wanted (Front (InList (Subscripts scope word p) (and_more es (Chain x r)))), λ ks h. comma_read K m (wider m) (Subscripts scope word p) es x r ks (more_wider m) (omega (arith, h.good.0.4)) h)
