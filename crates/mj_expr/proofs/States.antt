-- What is known of a step, from each state.
use Rattle.std.proofs.Common.{◌≡◌, ℕ, ◌+◌, ◌≤◌, List, [], ◌∷◌, ◌++◌, refl, ap, sym, ◌∙◌, subst, Bool, true, false, append_assoc, arith, Option, Some, None}
use Rattle.std.specs.Prelude.{cond}
use Rattle.mj_ast.specs.declared.sign.Sign.{Sign}
use Rattle.mj_ast.specs.declared.sign.Sign.TheVariants.{Caret, Open, Close, Comma}
use Rattle.mj_ast.specs.declared.expr.Scope.{Scope}
use Rattle.mj_ast.specs.declared.expr.Scope.TheVariants.{Global}
use Rattle.mj_oper.specs.declared.op.UnaryOp.{UnaryOp}
use Rattle.mj_ast.specs.Syntax.{Operand, Literal, Value, Extrinsic, Tails, Variable, Var, No, Actuals, NoActual, Target as EntryAt}
use Rattle.mj_ast.specs.Tokens.{Word, Digits, Signed}
use Rattle.mj_ast.specs.declared.function.Callee.{Callee}
use Rattle.mj_ast.specs.declared.function.Callee.TheVariants as callee
use Rattle.mj_ast.specs.Expressions.{Symbol, Constant, Inherent, Name, Applied, Entry, Overlong, Mark, Other, routine_symbols, entry_misfits}
use Rattle.mj_ast.specs.Lines.{digits_filler, word_filler, entry_filler}
use Rattle.mj_expr.specs.Machine.{Alone, InGroup, InList, InOther, InCondition, InChoice, InActuals, Subscripts, Within, Front, Right, Under, and_omitted, entry_at, comma_at, close_at, after_entry, Entering, Routed, Place, AsOperand, AsNamed, AsTarget, State, Wanted, Sought, Marked, Named, Calling, Behind, Held, Got, Limits, Next, Go, Stuck, Deep, Long, TooLong, filled, placed, outer_of, depth_of, place_depth, run, step, after_variable, unary_of, want_sign, want_other, stray_comma, is_full, on, inside}
use Rattle.mj_expr.proofs.Zipper.{Kind, before, place_before, zero_text, least_some, least_most, least_at, levels_few, passed, passed-omitted, actuals_symbols-omitted, nesting-omitted, width-omitted, misfits-omitted}
use Rattle.mj_expr.proofs.Room.{HasRead, Good, good_depth, place_good_depth, placed_read, filled_read, entry_read}
use Rattle.mj_expr.proofs.Facts.{IsMore, deeper, wider, more_deeper, good_more, place_good_more, unary_back, Facts, LongFacts, opens_facts, call_facts, behind_facts, from_held, filled_outer, constant_read, inherent_read, full_same, room_stays, full_comma, full_opened}

abbrev pub FactsAt : Kind → Limits → State → Symbol → Type 0
FactsAt K m s k = Facts K m (HasRead K m s) (LongFacts K m (HasRead K m s) s k) (λ l. step l s k) k (step m s k)

-- ---- where an operand is wanted

-- a comma that is one too many, where an operand is missing
stray_long : (K : Kind) (m : Limits) (c : Within) → is_full m (outer_of c) ≡ true → LongFacts K m (HasRead K m (Wanted c)) (Wanted c) (Mark Comma)
stray_long K m c e =
    let f = filled_outer (Literal zero_text) c in
    let o = full_opened K m f.0 f.1 (outer_of c) e in
    record {
      comma = refl;
      filler = Digits (48 ∷ []) ∷ [];
      fills = digits_filler;
      over = o.0;
      opened = λ ks h.
          let r : HasRead K m (Held f.0 f.1 (outer_of c)) (ks ++ Constant zero_text ∷ []) = let P : State → Type 0 =
          λ s. HasRead K m s (ks ++ Constant zero_text ∷ []) in subst P f.2 (constant_read K m c zero_text ks h) in
          let Q : List Symbol → Type 0 = λ zs. HasRead K (wider m) o.0 zs in
          subst Q (append_assoc ks (Constant zero_text ∷ []) (Mark Comma ∷ [])) (o.1 (ks ++ Constant zero_text ∷ []) r);
      local = λ l y d w. ap (λ (s : State). run l (Mark Comma ∷ y) s) f.2 ∙ full_comma l y f.0 f.1 (outer_of c) (full_same m l (outer_of c) w ∙ e);
    }

stray_as : (K : Kind) (m : Limits) (c : Within) (b : Bool) → is_full m (outer_of c) ≡ b →
    Facts K m (HasRead K m (Wanted c)) (LongFacts K m (HasRead K m (Wanted c)) (Wanted c) (Mark Comma)) (λ l. stray_comma l (outer_of c)) (Mark Comma) (cond b Long Stuck)
stray_as K m c true e = stray_long K m c e
stray_as K m c false e = λ l i. ap (λ (b : Bool). cond b Long Stuck) (room_stays m l (outer_of c) e i)

frame_read : (K : Kind) (m l : Limits) (c d : Within) (s : Sign) (ks : List Symbol) → before d ≡ before c ++ Mark s ∷ [] → Good K l d →
    HasRead K m (Wanted c) ks → HasRead K l (Wanted d) (ks ++ Mark s ∷ [])
frame_read K m l c d s ks e g h = record { good = g; read = e ∙ ap (λ (zs : List Symbol). zs ++ Mark s ∷ []) h.read }

-- an actual that is left out: another one may come, or the function ends
omitted_read : (K : Kind) (m : Limits) (t : EntryAt) (es : Actuals) (c : Within) (ks : List Symbol) →
    HasRead K m (Wanted (Front (InActuals t es c))) ks → HasRead K m (Wanted (Front (InActuals t (and_omitted es) c))) (ks ++ Mark Comma ∷ [])
omitted_read K m t es c ks h =
    let same : before c ++ Entry t.label ∷ (routine_symbols t.routine ++ Mark Open ∷ (passed es ++ Mark Comma ∷ []))
    ≡ (before c ++ Entry t.label ∷ (routine_symbols t.routine ++ Mark Open ∷ passed es)) ++ Mark Comma ∷ [] = simp append_assoc in
    record {
      good = let g = h.good in (g.0, g.1, omega (arith, (nesting-omitted es).0, g.2), omega (arith, width-omitted es, g.3), omega (arith, misfits-omitted es, g.4), g.5);
      read =
          ap (λ (zs : List Symbol). before c ++ Entry t.label ∷ (routine_symbols t.routine ++ Mark Open ∷ zs)) (passed-omitted es)
          ∙ same ∙ ap (λ (zs : List Symbol). zs ++ Mark Comma ∷ []) h.read;
    }

omitted_closed : (K : Kind) (m : Limits) (t : EntryAt) (es : Actuals) (c : Within) (ks : List Symbol) →
    HasRead K m (Wanted (Front (InActuals t es c))) ks → HasRead K m (filled (Extrinsic t (and_omitted es)) c) (ks ++ Mark Close ∷ [])
omitted_closed K m t es c ks h =
    let g = h.good in
    let same : before c ++ Entry t.label ∷ (routine_symbols t.routine ++ Mark Open ∷ (passed es ++ Mark Close ∷ []))
    ≡ (before c ++ Entry t.label ∷ (routine_symbols t.routine ++ Mark Open ∷ passed es)) ++ Mark Close ∷ [] = simp append_assoc in
    filled_read c K m (Extrinsic t (and_omitted es)) _ g.0
    (omega (arith, (nesting-omitted es).1, g.2))
    (omega (arith, width-omitted es, g.3))
    (omega (arith, misfits-omitted es, g.4, g.5))
    (ap (λ (zs : List Symbol). before c ++ Entry t.label ∷ (routine_symbols t.routine ++ zs)) (actuals_symbols-omitted es) ∙ same ∙ ap (λ (zs : List Symbol). zs ++ Mark Close ∷ []) h.read)

want_comma : (K : Kind) (m : Limits) (c : Within) →
    Facts K m (HasRead K m (Wanted c)) (LongFacts K m (HasRead K m (Wanted c)) (Wanted c) (Mark Comma)) (λ l. comma_at l c) (Mark Comma) (comma_at m c)
want_comma K m (Front Alone) = stray_as K m (Front Alone) false refl
want_comma K m (Front (InGroup c)) = stray_as K m (Front (InGroup c)) false refl
want_comma K m (Front (InList u es)) = stray_as K m (Front (InList u es)) (is_full m (InList u es)) refl
want_comma K m (Front (InOther f v c)) = stray_as K m (Front (InOther f v c)) false refl
want_comma K m (Front (InCondition ps c)) = stray_as K m (Front (InCondition ps c)) false refl
want_comma K m (Front (InChoice ps a c)) = stray_as K m (Front (InChoice ps a c)) false refl
want_comma K m (Front (InActuals t es c)) = (omitted_read K m t es c, λ l i. refl)
want_comma K m (Right x r op o) = stray_as K m (Right x r op o) (is_full m o) refl
want_comma K m (Under op c) = stray_as K m (Under op c) (is_full m (outer_of c)) refl

want_close : (K : Kind) (m : Limits) (c : Within) →
    Facts K m (HasRead K m (Wanted c)) (LongFacts K m (HasRead K m (Wanted c)) (Wanted c) (Mark Close)) (λ l. close_at c) (Mark Close) (close_at c)
want_close K m (Front Alone) = λ l i. refl
want_close K m (Front (InGroup c)) = λ l i. refl
want_close K m (Front (InList u es)) = λ l i. refl
want_close K m (Front (InOther f v c)) = λ l i. refl
want_close K m (Front (InCondition ps c)) = λ l i. refl
want_close K m (Front (InChoice ps a c)) = λ l i. refl
want_close K m (Front (InActuals t es c)) = (omitted_closed K m t es c, λ l i. refl)
want_close K m (Right x r op o) = λ l i. refl
want_close K m (Under op c) = λ l i. refl

want_other_facts : (K : Kind) (m : Limits) (c : Within) (s : Sign) →
    Facts K m (HasRead K m (Wanted c)) (LongFacts K m (HasRead K m (Wanted c)) (Wanted c) (Mark s)) (λ l. want_other l c s) (Mark s) (want_other m c s)
want_other_facts K m c Caret = (λ ks h. record { good = h.good; read = ap (λ (zs : List Symbol). zs ++ Mark Caret ∷ []) h.read }, λ l i. refl)
want_other_facts K m c Open =
    opens_facts K m (HasRead K m (Wanted c)) (LongFacts K m (HasRead K m (Wanted c)) (Wanted c) (Mark Open)) (Mark Open) (depth_of c) (Wanted (Front (InGroup c)))
    (λ d ks h. frame_read K m m c (Front (InGroup c)) Open ks refl (h.good, omega arith) h)
    (λ ks h. frame_read K m (deeper (Mark Open) m) c (Front (InGroup c)) Open ks refl
    (good_more c K m (deeper (Mark Open) m) (more_deeper (Mark Open) m) h.good, omega (arith, good_depth K m c h.good)) h)
want_other_facts K m c Comma = want_comma K m c
want_other_facts K m c Close = want_close K m c
want_other_facts K m c s = λ l i. refl

want_sign_facts : (K : Kind) (m : Limits) (c : Within) (s : Sign) (q : Option UnaryOp) → unary_of s ≡ q →
    Facts K m (HasRead K m (Wanted c)) (LongFacts K m (HasRead K m (Wanted c)) (Wanted c) (Mark s)) (λ l. want_sign l c s q) (Mark s) (want_sign m c s q)
want_sign_facts K m c s (Some op) e =
    let same : before (Under op c) ≡ before c ++ Mark s ∷ [] = ap (λ (z : Sign). before c ++ Mark z ∷ []) (sym (unary_back s op e)) in
    opens_facts K m (HasRead K m (Wanted c)) (LongFacts K m (HasRead K m (Wanted c)) (Wanted c) (Mark s)) (Mark s) (depth_of c) (Wanted (Under op c))
    (λ d ks h. frame_read K m m c (Under op c) s ks same (h.good, omega arith) h)
    (λ ks h. frame_read K m (deeper (Mark s) m) c (Under op c) s ks same (good_more c K m (deeper (Mark s) m) (more_deeper (Mark s) m) h.good, omega (arith, good_depth K m c h.good)) h)
want_sign_facts K m c s None e = want_other_facts K m c s

want_facts : (K : Kind) (m : Limits) (c : Within) (k : Symbol) → 1 ≤ m.width → FactsAt K m (Wanted c) k
want_facts K m c (Constant value) w = (constant_read K m c value, λ l i. refl)
want_facts K m c (Inherent value) w = (inherent_read K m c value, λ l i. refl)
want_facts K m c (Name word) w = (λ ks h. record { good = h.good; read = ap (λ (zs : List Symbol). zs ++ Name word ∷ []) h.read }, λ l i. refl)
want_facts K m c (Mark s) w = want_sign_facts K m c s (unary_of s) refl
want_facts K m c (Applied f) w =
    call_facts K m (HasRead K m (Wanted c)) (LongFacts K m (HasRead K m (Wanted c)) (Wanted c) (Applied f)) (Applied f) f c
    (λ d ks h. record { good = (h.good, d, omega (arith, levels_few f)); read = ap (λ (zs : List Symbol). zs ++ Applied f ∷ []) h.read })
    (λ ks h. record {
      good = (good_more c K m (deeper (Applied f) m) (more_deeper (Applied f) m) h.good, omega (arith, good_depth K m c h.good), omega (arith, levels_few f));
      read = ap (λ (zs : List Symbol). zs ++ Applied f ∷ []) h.read;
    })
want_facts K m c (Entry label) w = (λ ks h. record { good = h.good; read = ap (λ (zs : List Symbol). zs ++ Entry label ∷ []) h.read }, λ l i. refl)
want_facts K m c Overlong w = λ l i. refl
want_facts K m c Other w = λ l i. refl

-- ---- where a variable is wanted

seek_facts : (K : Kind) (m : Limits) (p : Place) (k : Symbol) → FactsAt K m (Sought p) k
seek_facts K m p (Name word) = (λ ks h. record { good = h.good; read = ap (λ (zs : List Symbol). zs ++ Name word ∷ []) h.read }, λ l i. refl)
seek_facts K m p (Mark Caret) = (λ ks h. record { good = h.good; read = ap (λ (zs : List Symbol). zs ++ Mark Caret ∷ []) h.read }, λ l i. refl)
seek_facts K m p k = λ l i. refl

-- a name behind a `^`
marked_read : (K : Kind) (m : Limits) (p : Place) (word : List ℕ) (ks : List Symbol) → HasRead K m (Marked p) ks → HasRead K m (Named Global word p) (ks ++ Name word ∷ [])
marked_read K m p word ks h = record {
  good = h.good;
  read = sym (append_assoc (place_before p) (Mark Caret ∷ []) (Name word ∷ [])) ∙ ap (λ (zs : List Symbol). zs ++ Name word ∷ []) h.read;
}

-- a variable is what was read of a name
pub variable_read : (K : Kind) (m : Limits) (scope : Scope) (word : List ℕ) (p : Place) (ks : List Symbol) → least_at p ≤ 0 →
    HasRead K m (Named scope word p) ks → HasRead K m (placed (Var scope word No) p) ks
variable_read K m scope word p ks s h = placed_read p K m (Var scope word No) ks h.good (omega (arith, place_good_depth K m p h.good)) (omega arith) refl s h.read

caret_long : (K : Kind) (m : Limits) (c : Within) → is_full m (outer_of c) ≡ true → LongFacts K m (HasRead K m (Marked (AsOperand c))) (Marked (AsOperand c)) (Mark Comma)
caret_long K m c e =
    let f = filled_outer (Value (Var Global (65 ∷ []) No)) c in
    let o = full_opened K m f.0 f.1 (outer_of c) e in
    record {
      comma = refl;
      filler = Word (65 ∷ []) ∷ [];
      fills = word_filler;
      over = o.0;
      opened = λ ks h.
          let r : HasRead K m (Held f.0 f.1 (outer_of c)) (ks ++ Name (65 ∷ []) ∷ []) =
          let P : State → Type 0 = λ s. HasRead K m s (ks ++ Name (65 ∷ []) ∷ []) in
          subst P f.2 (variable_read K m Global (65 ∷ []) (AsOperand c) (ks ++ Name (65 ∷ []) ∷ []) (omega arith) (marked_read K m (AsOperand c) (65 ∷ []) ks h)) in
          let Q : List Symbol → Type 0 = λ zs. HasRead K (wider m) o.0 zs in
          subst Q (append_assoc ks (Name (65 ∷ []) ∷ []) (Mark Comma ∷ [])) (o.1 (ks ++ Name (65 ∷ []) ∷ []) r);
      local = λ l y d w. named_comma l y f.0 f.1 f.2 (full_same m l (outer_of c) w ∙ e);
    }
  where
    named_comma : (l : Limits) (y : List Symbol) (x : Operand) (r : Tails) → filled (Value (Var Global (65 ∷ []) No)) c ≡ Held x r (outer_of c) →
        is_full l (outer_of c) ≡ true → run l (Mark Comma ∷ y) (Named Global (65 ∷ []) (AsOperand c)) ≡ TooLong
    named_comma l y x r e f = rw e (full_comma l y x r (outer_of c) f)

caret_as : (K : Kind) (m : Limits) (c : Within) (b : Bool) → is_full m (outer_of c) ≡ b →
    Facts K m (HasRead K m (Marked (AsOperand c))) (LongFacts K m (HasRead K m (Marked (AsOperand c))) (Marked (AsOperand c)) (Mark Comma))
    (λ l. cond (is_full l (outer_of c)) Long Stuck) (Mark Comma) (cond b Long Stuck)
caret_as K m c true e = caret_long K m c e
caret_as K m c false e = λ l i. ap (λ (b : Bool). cond b Long Stuck) (room_stays m l (outer_of c) e i)

marked_facts : (K : Kind) (m : Limits) (p : Place) (k : Symbol) → FactsAt K m (Marked p) k
marked_facts K m p (Name word) = (marked_read K m p word, λ l i. refl)
marked_facts K m (AsOperand c) (Mark Comma) = caret_as K m c (is_full m (outer_of c)) refl
marked_facts K m (AsNamed f c) (Mark Comma) = λ l i. refl
marked_facts K m AsTarget (Mark Comma) = λ l i. refl
marked_facts K m p k = λ l i. refl

-- ---- behind a name

list_opened : (K : Kind) (m l : Limits) (scope : Scope) (word : List ℕ) (p : Place) (ks : List Symbol) → IsMore m l → 1 ≤ m.width → place_depth p + 1 ≤ l.depth → HasRead K m (Named scope word p) ks →
    HasRead K l (Wanted (Front (InList (Subscripts scope word p) No))) (ks ++ Mark Open ∷ [])
list_opened K m l scope word p ks i w d h = record {
  good = (place_good_more p K m l i h.good, d, omega arith, omega arith, omega (arith, i.width), refl);
  read = ap (λ (zs : List Symbol). zs ++ Mark Open ∷ []) h.read;
}

-- what is known behind an operand, for a state that steps as one behind it does
at_first : (K : Kind) (m : Limits) (R : List Symbol → Type 0) (L : Type 0) (k : Symbol) (at bt : Limits → Next) (x : Next) →
    ((l : Limits) → bt l ≡ at l) → Facts K m R L at k x → Facts K m R L bt k x
at_first K m R L k at bt (Go s) g f = (f.0, λ l i. g l ∙ f.1 l i)
at_first K m R L k at bt Stuck g f = λ l i. g l ∙ f l i
at_first K m R L k at bt Deep g f = f
at_first K m R L k at bt Long g f = f

as_held : (K : Kind) (m : Limits) (R : List Symbol → Type 0) (t : State) (k : Symbol) (at : Limits → Next) → step m t k ≡ at m → ((l : Limits) → step l t k ≡ at l) →
    Facts K m R (LongFacts K m R t k) at k (at m) → Facts K m R (LongFacts K m R t k) (λ l. step l t k) k (step m t k)
as_held K m R t k at e g f = at_first K m R (LongFacts K m R t k) k at (λ l. step l t k) (step m t k) g (let P : Next → Type 0 = λ x. Facts K m R (LongFacts K m R t k) at k x in subst P (sym e) f)

from_filled : (K : Kind) (m : Limits) (t : State) (x : Operand) (c : Within) (k : Symbol) → ((l : Limits) → step l t k ≡ step l (filled x c) k) →
    ((ks : List Symbol) → HasRead K m t ks → HasRead K m (filled x c) ks) → FactsAt K m t k
from_filled K m t x c k same read =
    let f = filled_outer x c in
    let g : (l : Limits) → step l t k ≡ step l (Held f.0 f.1 (outer_of c)) k = λ l. same l ∙ ap (λ (s : State). step l s k) f.2 in
    as_held K m (HasRead K m t) t k (λ l. step l (Held f.0 f.1 (outer_of c)) k) (g m) g
    (from_held K m (HasRead K m t) t f.0 f.1 (outer_of c) k (λ ks h. let P : State → Type 0 = λ s. HasRead K m s ks in subst P f.2 (read ks h)) g)

-- what isn't an opening parenthesis
behind_variable : (K : Kind) (m : Limits) (scope : Scope) (word : List ℕ) (p : Place) (k : Symbol) →
    ((l : Limits) → step l (Named scope word p) k ≡ step l (placed (Var scope word No) p) k) → FactsAt K m (Named scope word p) k
behind_variable K m scope word (AsOperand c) k same =
    from_filled K m (Named scope word (AsOperand c)) (Value (Var scope word No)) c k same (λ ks h. variable_read K m scope word (AsOperand c) ks (omega arith) h)
behind_variable K m scope word (AsNamed f c) k same =
    let R : List Symbol → Type 0 = HasRead K m (Named scope word (AsNamed f c)) in
    let L : Type 0 = LongFacts K m R (Named scope word (AsNamed f c)) k in
    as_behind R L (step m (Named scope word (AsNamed f c)) k) (same m)
    (behind_facts K m R L f (Var scope word No) c k (λ ks s h. variable_read K m scope word (AsNamed f c) ks s h))
  where
    as_first : (R : List Symbol → Type 0) (L : Type 0) (x : Next)
        → Facts K m R L (λ l. after_variable f (Var scope word No) c k) k x → Facts K m R L (λ l. step l (Named scope word (AsNamed f c)) k) k x
    as_first R L (Go s) h = (h.0, λ l i. same l ∙ h.1 l i)
    as_first R L Stuck h = λ l i. same l ∙ h l i
    as_first R L Deep h = h
    as_first R L Long h = h

    as_behind : (R : List Symbol → Type 0) (L : Type 0) (x : Next) → x ≡ after_variable f (Var scope word No) c k →
        Facts K m R L (λ l. after_variable f (Var scope word No) c k) k (after_variable f (Var scope word No) c k) →
        Facts K m R L (λ l. step l (Named scope word (AsNamed f c)) k) k x
    as_behind R L x e h = let P : Next → Type 0 = λ z. Facts K m R L (λ l. after_variable f (Var scope word No) c k) k z in as_first R L x (subst P (sym e) h)
behind_variable K m scope word AsTarget k same = target_stuck (step m (Named scope word AsTarget) k) (same m)
  where
    target_stuck : (x : Next) → x ≡ Stuck → Facts K m (HasRead K m (Named scope word AsTarget))
        (LongFacts K m (HasRead K m (Named scope word AsTarget)) (Named scope word AsTarget) k) (λ l. step l (Named scope word AsTarget) k) k x
    target_stuck x e = let P : Next → Type 0 = λ z. Facts K m (HasRead K m (Named scope word AsTarget))
        (LongFacts K m (HasRead K m (Named scope word AsTarget)) (Named scope word AsTarget) k) (λ l. step l (Named scope word AsTarget) k) k z in
        subst P (sym e) (λ l i. same l)

on_is : (l : Limits) (v : Variable) (p : Place) (k : Symbol) → on l (placed v p) k ≡ step l (placed v p) k
on_is l v (AsOperand c) k = let f = filled_outer (Value v) c in ap (λ (s : State). on l s k) f.2 ∙ sym (ap (λ (s : State). step l s k) f.2)
on_is l v (AsNamed f c) k = refl
on_is l v AsTarget k = refl

named_facts : (K : Kind) (m : Limits) (scope : Scope) (word : List ℕ) (p : Place) (k : Symbol) → 1 ≤ m.width → FactsAt K m (Named scope word p) k
named_facts K m scope word p (Mark Open) w =
    opens_facts K m (HasRead K m (Named scope word p)) (LongFacts K m (HasRead K m (Named scope word p)) (Named scope word p) (Mark Open)) (Mark Open)
    (place_depth p) (Wanted (Front (InList (Subscripts scope word p) No)))
    (λ d ks h. list_opened K m m scope word p ks (record { depth = omega arith; width = omega arith }) w (omega arith) h)
    (λ ks h. list_opened K m (deeper (Mark Open) m) scope word p ks (more_deeper (Mark Open) m) w (omega (arith, place_good_depth K m p h.good)) h)
named_facts K m scope word p k w = behind_variable K m scope word p k (λ l. on_is l (Var scope word No) p k)

-- ---- behind `$$`

actuals_opened : (K : Kind) (m l : Limits) (label routine : Option (List ℕ)) (c : Within) (ks : List Symbol) → IsMore m l → depth_of c + 1 ≤ l.depth → entry_misfits label routine ≡ 0 →
    HasRead K m (Entering label routine c) ks → HasRead K l (Wanted (Front (InActuals (entry_at label routine) NoActual c))) (ks ++ Mark Open ∷ [])
actuals_opened K m l label routine c ks i d f h = record {
  good = (good_more c K m l i h.good, d, omega arith, omega arith, refl, f);
  read = sym (append_assoc (before c) (Entry label ∷ routine_symbols routine) (Mark Open ∷ [])) ∙ ap (λ (zs : List Symbol). zs ++ Mark Open ∷ []) h.read;
}

-- a state that opens actuals, or steps as the function without them
opens_actuals : (K : Kind) (m : Limits) (label routine : Option (List ℕ)) (c : Within) → entry_misfits label routine ≡ 0 →
    Facts K m (HasRead K m (Entering label routine c)) (LongFacts K m (HasRead K m (Entering label routine c)) (Entering label routine c) (Mark Open))
    (λ l. after_entry l (entry_at label routine) c (Mark Open)) (Mark Open) (after_entry m (entry_at label routine) c (Mark Open))
opens_actuals K m label routine c f =
    opens_facts K m (HasRead K m (Entering label routine c)) (LongFacts K m (HasRead K m (Entering label routine c)) (Entering label routine c) (Mark Open)) (Mark Open)
    (depth_of c) (Wanted (Front (InActuals (entry_at label routine) NoActual c)))
    (λ d ks h. actuals_opened K m m label routine c ks (record { depth = omega arith; width = omega arith }) (omega arith) f h)
    (λ ks h. actuals_opened K m (deeper (Mark Open) m) label routine c ks (more_deeper (Mark Open) m) (omega (arith, good_depth K m c h.good)) f h)

on_filled : (l : Limits) (x : Operand) (c : Within) (k : Symbol) → on l (filled x c) k ≡ step l (filled x c) k
on_filled l x c k = let f = filled_outer x c in ap (λ (s : State). on l s k) f.2 ∙ sym (ap (λ (s : State). step l s k) f.2)

-- the name of a routine behind its `^`
caret_read : (K : Kind) (m : Limits) (label : Option (List ℕ)) (c : Within) (ks : List Symbol) → HasRead K m (Entering label None c) ks → HasRead K m (Routed label c) (ks ++ Mark Caret ∷ [])
caret_read K m label c ks h = record {
  good = h.good;
  read = sym (append_assoc (before c) (Entry label ∷ []) (Mark Caret ∷ [])) ∙ ap (λ (zs : List Symbol). zs ++ Mark Caret ∷ []) h.read;
}

routine_read : (K : Kind) (m : Limits) (label : Option (List ℕ)) (word : List ℕ) (c : Within) (ks : List Symbol) → HasRead K m (Routed label c) ks →
    HasRead K m (Entering label (Some word) c) (ks ++ Name word ∷ [])
routine_read K m label word c ks h = record {
  good = h.good;
  read = sym (append_assoc (before c) (Entry label ∷ Mark Caret ∷ []) (Name word ∷ [])) ∙ ap (λ (zs : List Symbol). zs ++ Name word ∷ []) h.read;
}

some_fits : (label : Option (List ℕ)) (word : List ℕ) → entry_misfits label (Some word) ≡ 0
some_fits None word = refl
some_fits (Some l) word = refl

-- a comma behind an entry in a full list
entered_comma : (l : Limits) (y : List Symbol) (label : Option (List ℕ)) (word : List ℕ) (c : Within) (x : Operand) (r : Tails) →
    filled (Extrinsic (entry_at label (Some word)) NoActual) c ≡ Held x r (outer_of c) → is_full l (outer_of c) ≡ true → run l (Mark Comma ∷ y) (Entering label (Some word) c) ≡ TooLong
entered_comma l y None word c x r e f = rw e (full_comma l y x r (outer_of c) f)
entered_comma l y (Some n) word c x r e f = rw e (full_comma l y x r (outer_of c) f)

routed_long : (K : Kind) (m : Limits) (label : Option (List ℕ)) (c : Within) → is_full m (outer_of c) ≡ true → LongFacts K m (HasRead K m (Routed label c)) (Routed label c) (Mark Comma)
routed_long K m label c e =
    let word : List ℕ = 65 ∷ [] in
    let f = filled_outer (Extrinsic (entry_at label (Some word)) NoActual) c in
    let o = full_opened K m f.0 f.1 (outer_of c) e in
    record {
      comma = refl;
      filler = Word (65 ∷ []) ∷ [];
      fills = word_filler;
      over = o.0;
      opened = λ ks h.
          let r : HasRead K m (Held f.0 f.1 (outer_of c)) (ks ++ Name word ∷ []) =
          let P : State → Type 0 = λ s. HasRead K m s (ks ++ Name word ∷ []) in
          subst P f.2 (entry_read K m label (Some word) c (ks ++ Name word ∷ []) (some_fits label word) (routine_read K m label word c ks h)) in
          let Q : List Symbol → Type 0 = λ zs. HasRead K (wider m) o.0 zs in
          subst Q (append_assoc ks (Name word ∷ []) (Mark Comma ∷ [])) (o.1 (ks ++ Name word ∷ []) r);
      local = λ l y d w. entered_comma l y label word c f.0 f.1 f.2 (full_same m l (outer_of c) w ∙ e);
    }

routed_as : (K : Kind) (m : Limits) (label : Option (List ℕ)) (c : Within) (b : Bool) → is_full m (outer_of c) ≡ b →
    Facts K m (HasRead K m (Routed label c)) (LongFacts K m (HasRead K m (Routed label c)) (Routed label c) (Mark Comma)) (λ l. stray_comma l (outer_of c)) (Mark Comma) (cond b Long Stuck)
routed_as K m label c true e = routed_long K m label c e
routed_as K m label c false e = λ l i. ap (λ (b : Bool). cond b Long Stuck) (room_stays m l (outer_of c) e i)

routed_facts : (K : Kind) (m : Limits) (label : Option (List ℕ)) (c : Within) (k : Symbol) → FactsAt K m (Routed label c) k
routed_facts K m label c (Name word) = (routine_read K m label word c, λ l i. refl)
routed_facts K m label c (Mark Comma) = routed_as K m label c (is_full m (outer_of c)) refl
routed_facts K m label c k = λ l i. refl

-- behind `$$` alone two tokens are missing before a comma
dollars_long : (K : Kind) (m : Limits) (c : Within) → is_full m (outer_of c) ≡ true → LongFacts K m (HasRead K m (Entering None None c)) (Entering None None c) (Mark Comma)
dollars_long K m c e =
    let word : List ℕ = 65 ∷ [] in
    let f = filled_outer (Extrinsic (entry_at None (Some word)) NoActual) c in
    let o = full_opened K m f.0 f.1 (outer_of c) e in
    let both : List Symbol = Mark Caret ∷ Name word ∷ [] in
    record {
      comma = refl;
      filler = Signed Caret ∷ Word (65 ∷ []) ∷ [];
      fills = entry_filler;
      over = o.0;
      opened = λ ks g.
          let whole : HasRead K m (Entering None (Some word) c) (ks ++ both) =
          let P : List Symbol → Type 0 = λ zs. HasRead K m (Entering None (Some word) c) zs in
          subst P (append_assoc ks (Mark Caret ∷ []) (Name word ∷ [])) (routine_read K m None word c (ks ++ Mark Caret ∷ []) (caret_read K m None c ks g)) in
          let r : HasRead K m (Held f.0 f.1 (outer_of c)) (ks ++ both) =
          let P : State → Type 0 = λ s. HasRead K m s (ks ++ both) in subst P f.2 (entry_read K m None (Some word) c (ks ++ both) refl whole) in
          let Q : List Symbol → Type 0 = λ zs. HasRead K (wider m) o.0 zs in
          subst Q (append_assoc ks both (Mark Comma ∷ [])) (o.1 (ks ++ both) r);
      local = λ l y d w. entered_comma l y None word c f.0 f.1 f.2 (full_same m l (outer_of c) w ∙ e);
    }

dollars_as : (K : Kind) (m : Limits) (c : Within) (b : Bool) → is_full m (outer_of c) ≡ b →
    Facts K m (HasRead K m (Entering None None c)) (LongFacts K m (HasRead K m (Entering None None c)) (Entering None None c) (Mark Comma))
    (λ l. stray_comma l (outer_of c)) (Mark Comma) (cond b Long Stuck)
dollars_as K m c true e = dollars_long K m c e
dollars_as K m c false e = λ l i. ap (λ (b : Bool). cond b Long Stuck) (room_stays m l (outer_of c) e i)

dollars_facts : (K : Kind) (m : Limits) (c : Within) (k : Symbol) → FactsAt K m (Entering None None c) k
dollars_facts K m c (Mark Caret) = (caret_read K m None c, λ l i. refl)
dollars_facts K m c (Mark Comma) = dollars_as K m c (is_full m (outer_of c)) refl
dollars_facts K m c k = λ l i. refl

label_facts : (K : Kind) (m : Limits) (label : List ℕ) (c : Within) (k : Symbol) → FactsAt K m (Entering (Some label) None c) k
label_facts K m label c (Mark Caret) = (caret_read K m (Some label) c, λ l i. refl)
label_facts K m label c (Mark Open) = opens_actuals K m (Some label) None c refl
label_facts K m label c k =
    let x = Extrinsic (entry_at (Some label) None) NoActual in
    from_filled K m (Entering (Some label) None c) x c k (λ l. on_filled l x c k) (λ ks h. entry_read K m (Some label) None c ks refl h)

entered_facts : (K : Kind) (m : Limits) (label : Option (List ℕ)) (word : List ℕ) (c : Within) (k : Symbol) → FactsAt K m (Entering label (Some word) c) k
entered_facts K m None word c (Mark Open) = opens_actuals K m None (Some word) c refl
entered_facts K m None word c k =
    let x = Extrinsic (entry_at None (Some word)) NoActual in
    from_filled K m (Entering None (Some word) c) x c k (λ l. on_filled l x c k) (λ ks h. entry_read K m None (Some word) c ks refl h)
entered_facts K m (Some n) word c (Mark Open) = opens_actuals K m (Some n) (Some word) c refl
entered_facts K m (Some n) word c k =
    let x = Extrinsic (entry_at (Some n) (Some word)) NoActual in
    from_filled K m (Entering (Some n) (Some word) c) x c k (λ l. on_filled l x c k) (λ ks h. entry_read K m (Some n) (Some word) c ks refl h)

-- ---- behind a function

inside_read : (K : Kind) (m : Limits) (f : Callee) (c : Within) (ks : List Symbol) → HasRead K m (Calling f c) ks →
    HasRead K m (inside f c) (ks ++ Mark Open ∷ [])
inside_read K m (callee.Texts f) c ks h = record {
  good = (h.good.0, h.good.1, omega (arith, h.good.1), omega arith, omega (arith, least_some f, least_most f), refl);
  read = ap (λ (zs : List Symbol). zs ++ Mark Open ∷ []) h.read;
}
inside_read K m (callee.Names f) c ks h = record {
  good = (h.good.0, omega (arith, h.good.1), omega (arith, h.good.2));
  read = sym (append_assoc (before c) (Applied (callee.Names f) ∷ []) (Mark Open ∷ [])) ∙ ap (λ (zs : List Symbol). zs ++ Mark Open ∷ []) h.read;
}
inside_read K m callee.Select c ks h = record {
  good = (h.good.0, h.good.1, omega (arith, h.good.1), omega arith, refl);
  read = sym (append_assoc (before c) (Applied callee.Select ∷ []) (Mark Open ∷ [])) ∙ ap (λ (zs : List Symbol). zs ++ Mark Open ∷ []) h.read;
}

calling_facts : (K : Kind) (m : Limits) (f : Callee) (c : Within) (k : Symbol) → FactsAt K m (Calling f c) k
calling_facts K m f c (Mark Open) = (inside_read K m f c, λ l i. refl)
calling_facts K m f c k = λ l i. refl

-- ---- any state

pub step_facts : (K : Kind) (m : Limits) (s : State) (k : Symbol) → 1 ≤ m.width → FactsAt K m s k
step_facts K m (Wanted c) k w = want_facts K m c k w
step_facts K m (Sought p) k w = seek_facts K m p k
step_facts K m (Marked p) k w = marked_facts K m p k
step_facts K m (Named scope word p) k w = named_facts K m scope word p k w
step_facts K m (Entering None None c) k w = dollars_facts K m c k
step_facts K m (Entering (Some label) None c) k w = label_facts K m label c k
step_facts K m (Entering label (Some word) c) k w = entered_facts K m label word c k
step_facts K m (Routed label c) k w = routed_facts K m label c k
step_facts K m (Calling f c) k w = calling_facts K m f c k
step_facts K m (Behind f v c) k w = behind_facts K m (HasRead K m (Behind f v c)) (LongFacts K m (HasRead K m (Behind f v c)) (Behind f v c) k) f v c k (λ ks s h. h)
step_facts K m (Held x r o) k w =
    from_held K m (HasRead K m (Held x r o)) (Held x r o) x r o k (λ ks h. h) (λ l. refl)
step_facts K m (Got v) k w = λ l i. refl
