-- What a run says of the tokens.
use Rattle.std.proofs.Common.{◌≡◌, Option, Some, None, ℕ, zero, suc, ◌+◌, ◌-◌, ◌≤◌, List, [], ◌∷◌, ◌++◌, refl, ap, sym, ◌∙◌, subst, append_assoc, append-nil, arith, map}
use Rattle.std.specs.Prelude.{pos}
use Rattle.std.proofs.lemmas.List.{map-append}
use Rattle.mj_num.specs.Number.{canonic_text}
use Rattle.mj_ast.specs.declared.sign.Sign.TheVariants.{Caret, Open, Close, Comma, Colon}
use Rattle.mj_ast.specs.declared.function.Callee.TheVariants as callee
use Rattle.mj_ast.specs.declared.expr.Scope.{Scope}
use Rattle.mj_ast.specs.declared.expr.Scope.TheVariants.{Local, Global}
use Rattle.mj_ast.specs.Syntax.{Expr, Chain, Operand, Literal, Value, Call, About, Select, Tails, Variable, Var, No, Last, Extrinsic, NoActual}
use Rattle.mj_ast.specs.Tokens.{Token, Word, Digits, Signed}
use Rattle.mj_ast.specs.Expressions.{Symbol, Constant, Inherent, Name, Applied, Entry, Overlong, Mark, Other, symbol, Phrases, expressions, variables, expr_symbols, variable_symbols, operand_symbols, routine_symbols, entry_misfits, scoped, list_symbols, more_symbols, count, least, least_subscripts, expr_nesting, variable_nesting, expr_width, variable_width, expr_misfits, variable_misfits}
use Rattle.mj_expr.specs.Machine.{Outer, Alone, InGroup, InList, InOther, InCondition, InChoice, InActuals, Owner, Subscripts, Arguments, Within, Front, Right, Under, Place, AsOperand, AsNamed, AsTarget, State, Wanted, Sought, Marked, Named, Entering, Routed, Calling, Behind, Held, Got, entry_at, filled, Limits, least_of, Phrase, Whole, Target, Accept, refused, ends, finish}
use Rattle.mj_expr.proofs.Zipper.{Kind, AnExpression, AVariable, IsKind, plug, outer_plug, place_plug, plug_symbols, outer_plug_symbols, place_plug_symbols, before, outer_before, place_before, after, outer_after, owner_after, place_after, phrase_symbols, phrase_nesting, phrase_width, phrase_misfits, start, ForExpression, ForVariable, zero_expr, pad, pad_count, pad_nesting, pad_list, pad_width, pad_misfits, list_nesting-some, scoped-append, least_most, least_at}
use Rattle.mj_expr.proofs.Room.{Fits, HasRead, Good, entry_read, good_depth, plug_fits, outer_plug_fits, place_plug_fits, place_good_room, place_good_width}
use Rattle.mj_expr.proofs.Facts.{filled_outer}
use Rattle.mj_expr.proofs.States.{variable_read}

-- ---- tokens of symbols

pub record Split (ks : List Token) (xs ys : List Symbol) : Type 0 where
  pub front : List Token
  pub back : List Token
  pub cut : ks ≡ front ++ back
  pub first : map symbol front ≡ xs
  pub last : map symbol back ≡ ys

pub tail_same : (x y : Symbol) (xs ys : List Symbol) → x ∷ xs ≡ y ∷ ys → xs ≡ ys
tail_same x y xs ys e = cc

pub head_same : (x y : Symbol) (xs ys : List Symbol) → x ∷ xs ≡ y ∷ ys → x ≡ y
head_same x y xs ys e = cc

pub cons_nil : (x : Symbol) (xs : List Symbol) → x ∷ xs ≡ [] → ⊥
cons_nil x xs e = cc

pub split : (xs : List Symbol) (ks : List Token) (ys : List Symbol) → map symbol ks ≡ xs ++ ys → Split ks xs ys
split [] ks ys e = record { front = []; back = ks; cut = refl; first = refl; last = e }
split (x ∷ xs) [] ys e = absurd (cons_nil x (xs ++ ys) (sym e))
split (x ∷ xs) (k ∷ ks) ys e =
    let s = split xs ks ys (tail_same (symbol k) x (map symbol ks) (xs ++ ys) e) in
    record {
      front = k ∷ s.front;
      back = s.back;
      cut = ap (λ (zs : List Token). k ∷ zs) s.cut;
      first = ap (λ (z : Symbol). z ∷ map symbol s.front) (head_same (symbol k) x (map symbol ks) (xs ++ ys) e) ∙ ap (λ (zs : List Symbol). x ∷ zs) s.first;
      last = s.last;
    }

-- the tokens of arguments that are missing
more_pads : (n : ℕ) → (ts : List Token) × (map symbol ts ≡ more_symbols (pad n))
more_pads zero = (Signed Close ∷ [], refl)
more_pads (suc n) = let h = more_pads n in (Signed Comma ∷ Digits (48 ∷ []) ∷ h.0, ap (λ (zs : List Symbol). Mark Comma ∷ (expr_symbols zero_expr ++ zs)) h.1)

list_pads : (n : ℕ) → (ts : List Token) × (map symbol ts ≡ list_symbols (pad n))
list_pads zero = ([], refl)
list_pads (suc n) = let h = more_pads n in (Signed Open ∷ Digits (48 ∷ []) ∷ h.0, ap (λ (zs : List Symbol). Mark Open ∷ (expr_symbols zero_expr ++ zs)) h.1)

-- the tokens that close what is open
mutual
  outer_closers : (o : Outer) → (ts : List Token) × (map symbol ts ≡ outer_after o)
  outer_closers Alone = ([], refl)
  outer_closers (InGroup c) = let h = closers c in (Signed Close ∷ h.0, ap (λ (zs : List Symbol). Mark Close ∷ zs) h.1)
  outer_closers (InList u es) =
      let h = owner_closers u in
      let k = more_pads (least_of u - (count es + 1)) in
      (k.0 ++ h.0, map-append symbol k.0 h.0 ∙ ap (λ (zs : List Symbol). zs ++ map symbol h.0) k.1 ∙ ap (λ (zs : List Symbol). more_symbols (pad (least_of u - (count es + 1))) ++ zs) h.1)
  outer_closers (InOther f v c) = let h = closers c in (Signed Close ∷ h.0, ap (λ (zs : List Symbol). Mark Close ∷ zs) h.1)
  outer_closers (InCondition ps c) =
      let h = closers c in
      (Signed Colon ∷ Digits (48 ∷ []) ∷ Signed Close ∷ h.0, ap (λ (zs : List Symbol). Mark Colon ∷ (expr_symbols zero_expr ++ Mark Close ∷ zs)) h.1)
  outer_closers (InChoice ps a c) = let h = closers c in (Signed Close ∷ h.0, ap (λ (zs : List Symbol). Mark Close ∷ zs) h.1)
  outer_closers (InActuals t es c) = let h = closers c in (Signed Close ∷ h.0, ap (λ (zs : List Symbol). Mark Close ∷ zs) h.1)

  owner_closers : (u : Owner) → (ts : List Token) × (map symbol ts ≡ owner_after u)
  owner_closers (Subscripts scope word p) = place_closers p
  owner_closers (Arguments f c) = closers c

  closers : (c : Within) → (ts : List Token) × (map symbol ts ≡ after c)
  closers (Front o) = outer_closers o
  closers (Right first rest op o) = outer_closers o
  closers (Under op c) = closers c

  place_closers : (p : Place) → (ts : List Token) × (map symbol ts ≡ place_after p)
  place_closers (AsOperand c) = closers c
  place_closers (AsNamed f c) = let h = closers c in (Signed Close ∷ h.0, ap (λ (zs : List Symbol). Mark Close ∷ zs) h.1)
  place_closers AsTarget = ([], refl)

-- a shortest way to the end
pub record GoesOn (K : Kind) (m : Limits) (ks : List Symbol) : Type 0 where
  pub more : List Token
  pub phrase : Phrase
  pub spelled : ks ++ map symbol more ≡ phrase_symbols phrase
  pub fits : Fits K m phrase

goes_on : (K : Kind) (m : Limits) (p : Phrase) (xs ys zs ks : List Symbol) (tokens closing : List Token) → Fits K m p → phrase_symbols p ≡ xs ++ (ys ++ zs) →
    map symbol closing ≡ zs → xs ++ ys ≡ ks ++ map symbol tokens → GoesOn K m ks
goes_on K m p xs ys zs ks tokens closing f e g h = record {
  more = tokens ++ closing;
  phrase = p;
  spelled =
      ap (λ (v : List Symbol). ks ++ v) (map-append symbol tokens closing ∙ ap (λ (v : List Symbol). map symbol tokens ++ v) g)
      ∙ sym (append_assoc ks (map symbol tokens) zs) ∙ ap (λ (v : List Symbol). v ++ zs) (sym h) ∙ append_assoc xs ys zs ∙ sym e;
  fits = f;
}

-- a function without actuals, whose entry was read or begun
entry_goes : (K : Kind) (m : Limits) (label routine : Option (List ℕ)) (c : Within) (ks : List Symbol) (tokens : List Token) → Good K m c → entry_misfits label routine ≡ 0 →
    before c ++ Entry label ∷ routine_symbols routine ≡ ks ++ map symbol tokens → GoesOn K m ks
entry_goes K m label routine c ks tokens g f e =
    let t : Operand = Extrinsic (entry_at label routine) NoActual in
    goes_on K m (plug c t) (before c) (operand_symbols t) (after c) ks tokens (closers c).0
    (plug_fits c K m t g (omega (arith, good_depth K m c g)) (omega arith) (omega (arith, f))) (plug_symbols c t) (closers c).1
    (ap (λ (u : List Symbol). before c ++ Entry label ∷ u) (append-nil (routine_symbols routine)) ∙ e)

some_fits : (label : Option (List ℕ)) (word : List ℕ) → entry_misfits label (Some word) ≡ 0
some_fits None word = refl
some_fits (Some l) word = refl

pub read_goes : (K : Kind) (m : Limits) (s : State) (ks : List Symbol) → HasRead K m s ks → GoesOn K m ks
read_goes K m (Wanted c) ks h =
    let t : Operand = Literal (canonic_text (pos 0)) in
    goes_on K m (plug c t) (before c) (Constant (canonic_text (pos 0)) ∷ []) (after c) ks (Digits (48 ∷ []) ∷ []) (closers c).0
    (plug_fits c K m t h.good (omega (arith, good_depth K m c h.good)) (omega arith) refl) (plug_symbols c t) (closers c).1
    (ap (λ (v : List Symbol). v ++ Constant (canonic_text (pos 0)) ∷ []) h.read)
read_goes K m (Sought p) ks h =
    let n = least_at p in
    let v : Variable = Var Local (65 ∷ []) (pad n) in
    let k = list_pads n in
    goes_on K m (place_plug p v) (place_before p) (variable_symbols v) (place_after p) ks (Word (65 ∷ []) ∷ k.0) (place_closers p).0
    (place_plug_fits p K m v h.good (omega (arith, place_good_room K m p h.good, pad_list n))
    (omega (arith, place_good_width K m p h.good, pad_count n, pad_width n)) (pad_misfits n) (omega (arith, pad_count n)))
    (place_plug_symbols p v) (place_closers p).1
    (ap (λ (u : List Symbol). u ++ Name (65 ∷ []) ∷ list_symbols (pad n)) h.read ∙ ap (λ (u : List Symbol). ks ++ Name (65 ∷ []) ∷ u) (sym k.1))
read_goes K m (Marked p) ks h =
    let n = least_at p in
    let v : Variable = Var Global (65 ∷ []) (pad n) in
    let k = list_pads n in
    goes_on K m (place_plug p v) (place_before p) (variable_symbols v) (place_after p) ks (Word (65 ∷ []) ∷ k.0) (place_closers p).0
    (place_plug_fits p K m v h.good (omega (arith, place_good_room K m p h.good, pad_list n))
    (omega (arith, place_good_width K m p h.good, pad_count n, pad_width n)) (pad_misfits n) (omega (arith, pad_count n)))
    (place_plug_symbols p v) (place_closers p).1
    (sym (append_assoc (place_before p) (Mark Caret ∷ []) (Name (65 ∷ []) ∷ list_symbols (pad n))) ∙
    ap (λ (u : List Symbol). u ++ Name (65 ∷ []) ∷ list_symbols (pad n)) h.read ∙ ap (λ (u : List Symbol). ks ++ Name (65 ∷ []) ∷ u) (sym k.1))
read_goes K m (Named scope word p) ks h =
    let n = least_at p in
    let v : Variable = Var scope word (pad n) in
    let k = list_pads n in
    goes_on K m (place_plug p v) (place_before p) (variable_symbols v) (place_after p) ks k.0 (place_closers p).0
    (place_plug_fits p K m v h.good (omega (arith, place_good_room K m p h.good, pad_list n))
    (omega (arith, place_good_width K m p h.good, pad_count n, pad_width n)) (pad_misfits n) (omega (arith, pad_count n)))
    (place_plug_symbols p v) (place_closers p).1
    (ap (λ (u : List Symbol). place_before p ++ u) (sym (scoped-append scope (Name word ∷ []) (list_symbols (pad n)))) ∙
    sym (append_assoc (place_before p) (scoped scope (Name word ∷ [])) (list_symbols (pad n))) ∙
    ap (λ (u : List Symbol). u ++ list_symbols (pad n)) h.read ∙ ap (λ (u : List Symbol). ks ++ u) (sym k.1))
read_goes K m (Entering None None c) ks h =
    entry_goes K m None (Some (65 ∷ [])) c ks (Signed Caret ∷ Word (65 ∷ []) ∷ []) h.good refl
    (sym (append_assoc (before c) (Entry None ∷ []) (Mark Caret ∷ Name (65 ∷ []) ∷ [])) ∙ ap (λ (u : List Symbol). u ++ Mark Caret ∷ Name (65 ∷ []) ∷ []) h.read)
read_goes K m (Entering (Some l) None c) ks h = entry_goes K m (Some l) None c ks [] h.good refl (h.read ∙ sym (append-nil ks))
read_goes K m (Entering label (Some word) c) ks h = entry_goes K m label (Some word) c ks [] h.good (some_fits label word) (h.read ∙ sym (append-nil ks))
read_goes K m (Routed label c) ks h =
    entry_goes K m label (Some (65 ∷ [])) c ks (Word (65 ∷ []) ∷ []) h.good (some_fits label (65 ∷ []))
    (sym (append_assoc (before c) (Entry label ∷ Mark Caret ∷ []) (Name (65 ∷ []) ∷ [])) ∙ ap (λ (u : List Symbol). u ++ Name (65 ∷ []) ∷ []) h.read)
read_goes K m (Calling (callee.Names f) c) ks h =
    let n = least_subscripts f in
    let v : Variable = Var Local (65 ∷ []) (pad n) in
    let t : Operand = About f v No in
    let k = list_pads n in
    let more : List Symbol = Mark Open ∷ ((Name (65 ∷ []) ∷ list_symbols (pad n)) ++ Mark Close ∷ []) in
    let spelled : map symbol (Signed Open ∷ Word (65 ∷ []) ∷ (k.0 ++ Signed Close ∷ [])) ≡ more =
    ap (λ (u : List Symbol). Mark Open ∷ Name (65 ∷ []) ∷ u) (map-append symbol k.0 (Signed Close ∷ []) ∙
    ap (λ (u : List Symbol). u ++ Mark Close ∷ []) k.1) in
    goes_on K m (plug c t) (before c) (operand_symbols t) (after c) ks (Signed Open ∷ Word (65 ∷ []) ∷ (k.0 ++ Signed Close ∷ [])) (closers c).0
    (plug_fits c K m t h.good.0 (omega (arith, h.good.1, pad_list n)) (omega (arith, h.good.2, pad_count n, pad_width n)) (omega (arith, pad_count n, pad_misfits n))) (plug_symbols c t) (closers c).1
    (sym (append_assoc (before c) (Applied (callee.Names f) ∷ []) more) ∙ ap (λ (u : List Symbol). u ++ more) h.read ∙ ap (λ (u : List Symbol). ks ++ u) (sym spelled))
read_goes K m (Behind f v c) ks h =
    let t : Operand = About f v No in
    goes_on K m (plug c t) (place_before (AsNamed f c)) (variable_symbols v) (place_after (AsNamed f c)) ks [] (place_closers (AsNamed f c)).0
    (plug_fits c K m t h.good.0 (omega (arith, h.good.1)) (omega (arith, h.good.2)) (omega (arith, h.good.3, h.good.4))) (place_plug_symbols (AsNamed f c) v) (place_closers (AsNamed f c)).1
    (h.read ∙ sym (append-nil ks))
read_goes K m (Calling callee.Select c) ks h =
    let t : Operand = Select (Last zero_expr zero_expr) in
    let more : List Symbol = Mark Open ∷ (expr_symbols zero_expr ++ Mark Colon ∷ (expr_symbols zero_expr ++ Mark Close ∷ [])) in
    goes_on K m (plug c t) (before c) (operand_symbols t) (after c) ks (Signed Open ∷ Digits (48 ∷ []) ∷ Signed Colon ∷ Digits (48 ∷ []) ∷ Signed Close ∷ []) (closers c).0
    (plug_fits c K m t h.good.0 (omega (arith, h.good.1)) (omega arith) refl) (plug_symbols c t) (closers c).1
    (sym (append_assoc (before c) (Applied callee.Select ∷ []) more) ∙ ap (λ (v : List Symbol). v ++ more) h.read)
read_goes K m (Calling (callee.Texts f) c) ks h =
    let n = least f in
    let t : Operand = Call f (pad n) in
    let k = list_pads n in
    goes_on K m (plug c t) (before c) (operand_symbols t) (after c) ks k.0 (closers c).0
    (plug_fits c K m t h.good.0 (omega (arith, list_nesting-some (pad n), pad_nesting n, h.good.1)) (omega (arith, pad_width n))
    (omega (arith, pad_misfits n, pad_count n, least_most f))) (plug_symbols c t) (closers c).1
    (sym (append_assoc (before c) (Applied (callee.Texts f) ∷ []) (list_symbols (pad n))) ∙ ap (λ (v : List Symbol). v ++ list_symbols (pad n)) h.read ∙ ap (λ (v : List Symbol). ks ++ v) (sym k.1))
read_goes K m (Held x r o) ks h =
    goes_on K m (outer_plug o (Chain x r)) (outer_before o) (expr_symbols (Chain x r)) (outer_after o) ks [] (outer_closers o).0
    (outer_plug_fits o K m (Chain x r) h.good.0 h.good.1 h.good.2 h.good.3) (outer_plug_symbols o (Chain x r)) (outer_closers o).1
    (h.read ∙ sym (append-nil ks))
read_goes K m (Got v) ks h = record {
  more = [];
  phrase = Target v;
  spelled = append-nil ks ∙ sym h.read;
  fits =
      place_plug_fits AsTarget K m v h.good.0 (omega (arith, h.good.1)) h.good.2 h.good.3 (omega arith);
}

pub start_read : (K : Kind) (m : Limits) → HasRead K m (start K) []
start_read AnExpression m = record { good = tt; read = refl }
start_read AVariable m = record { good = tt; read = refl }

-- ---- ends

refused_accept : (ks : List Symbol) (p : Phrase) (r : List Symbol) → refused ks ≡ Accept p r → ⊥
refused_accept [] p r e = cc
refused_accept (Overlong ∷ ks) p r e = cc
refused_accept (Constant v ∷ ks) p r e = cc
refused_accept (Inherent v ∷ ks) p r e = cc
refused_accept (Name w ∷ ks) p r e = cc
refused_accept (Applied f ∷ ks) p r e = cc
refused_accept (Entry l ∷ ks) p r e = cc
refused_accept (Mark s ∷ ks) p r e = cc
refused_accept (Other ∷ ks) p r e = cc

-- a state that accepts a phrase has read it, and accepts it before anything
pub record Accepts (K : Kind) (m : Limits) (s : State) (ks : List Symbol) (p : Phrase) (r front : List Symbol) : Type 0 where
  pub rest : ks ≡ r
  pub again : (ls : List Symbol) → finish s ls ≡ Accept p ls
  pub fits : Fits K m p
  pub spelled : phrase_symbols p ≡ front

pub accept_rest : (p q : Phrase) (r t : List Symbol) → Accept p r ≡ Accept q t → r ≡ t
accept_rest p q r t e = cc

pub accept_phrase : (p q : Phrase) (r t : List Symbol) → Accept p r ≡ Accept q t → p ≡ q
accept_phrase p q r t e = cc

whole_accepts : (K : Kind) (m : Limits) (e : Expr) (s : State) (ks : List Symbol) (p : Phrase) (r front : List Symbol) →
    ((ls : List Symbol) → finish s ls ≡ Accept (Whole e) ls) → ForExpression K → expr_nesting e + 0 ≤ m.depth → expr_width e ≤ m.width → expr_misfits e ≡ 0 →
    expr_symbols e ≡ front → finish s ks ≡ Accept p r → Accepts K m s ks p r front
whole_accepts K m e s ks p r front again k n w f read h =
    let same : Whole e ≡ p = accept_phrase (Whole e) p ks r (sym (again ks) ∙ h) in
    let P : Phrase → Type 0 = λ q. Accepts K m s ks q r front in
    subst P same (record { rest = accept_rest (Whole e) p ks r (sym (again ks) ∙ h); again = again; fits = outer_plug_fits Alone K m e k n w f; spelled = read })

target_accepts : (K : Kind) (m : Limits) (v : Variable) (s : State) (ks : List Symbol) (p : Phrase) (r front : List Symbol) →
    ((ls : List Symbol) → finish s ls ≡ Accept (Target v) ls) → ForVariable K → variable_nesting v ≤ m.depth → variable_width v ≤ m.width →
    variable_misfits v ≡ 0 → variable_symbols v ≡ front → finish s ks ≡ Accept p r → Accepts K m s ks p r front
target_accepts K m v s ks p r front again k n w f read h =
    let same : Target v ≡ p = accept_phrase (Target v) p ks r (sym (again ks) ∙ h) in
    let P : Phrase → Type 0 = λ q. Accepts K m s ks q r front in
    subst P same (record { rest = accept_rest (Target v) p ks r (sym (again ks) ∙ h); again = again; fits = place_plug_fits AsTarget K m v k (omega arith) w f (omega arith); spelled = read })

held_accepts : (K : Kind) (m : Limits) (x : Operand) (t : Tails) (o : Outer) (s : State) (ks : List Symbol) (p : Phrase) (r front : List Symbol) →
    ((ls : List Symbol) → finish s ls ≡ ends (Held x t o) ls) → HasRead K m (Held x t o) front → finish s ks ≡ Accept p r → Accepts K m s ks p r front
held_accepts K m x t Alone s ks p r front again h e = whole_accepts K m (Chain x t) s ks p r front again h.good.0 h.good.1 h.good.2 h.good.3 h.read e
held_accepts K m x t (InGroup c) s ks p r front again h e = absurd (refused_accept ks p r (sym (again ks) ∙ e))
held_accepts K m x t (InList u es) s ks p r front again h e = absurd (refused_accept ks p r (sym (again ks) ∙ e))
held_accepts K m x t (InOther f v c) s ks p r front again h e = absurd (refused_accept ks p r (sym (again ks) ∙ e))
held_accepts K m x t (InCondition ps c) s ks p r front again h e = absurd (refused_accept ks p r (sym (again ks) ∙ e))
held_accepts K m x t (InChoice ps a c) s ks p r front again h e = absurd (refused_accept ks p r (sym (again ks) ∙ e))
held_accepts K m x t (InActuals u es c) s ks p r front again h e = absurd (refused_accept ks p r (sym (again ks) ∙ e))

named_accepts : (K : Kind) (m : Limits) (scope : Scope) (word : List ℕ) (q : Place) (ks : List Symbol) (p : Phrase) (r front : List Symbol) →
    HasRead K m (Named scope word q) front → finish (Named scope word q) ks ≡ Accept p r → Accepts K m (Named scope word q) ks p r front
named_accepts K m scope word (AsOperand c) ks p r front h e =
    let f = filled_outer (Value (Var scope word No)) c in
    let P : State → Type 0 = λ s. HasRead K m s front in
    held_accepts K m f.0 f.1 _ (Named scope word (AsOperand c)) ks p r front (λ ls. ap (λ (s : State). ends s ls) f.2)
    (subst P f.2 (variable_read K m scope word (AsOperand c) front (omega arith) h)) e
named_accepts K m scope word (AsNamed f c) ks p r front h e = absurd (refused_accept ks p r e)
named_accepts K m scope word AsTarget ks p r front h e =
    let g = variable_read K m scope word AsTarget front (omega arith) h in
    target_accepts K m (Var scope word No) (Named scope word AsTarget) ks p r front (λ ls. refl) g.good.0 g.good.1 g.good.2 g.good.3 g.read e

entry_accepts : (K : Kind) (m : Limits) (label routine : Option (List ℕ)) (c : Within) (ks : List Symbol) (p : Phrase) (r front : List Symbol) → entry_misfits label routine ≡ 0 →
    ((ls : List Symbol) → finish (Entering label routine c) ls ≡ ends (filled (Extrinsic (entry_at label routine) NoActual) c) ls) →
    HasRead K m (Entering label routine c) front → finish (Entering label routine c) ks ≡ Accept p r → Accepts K m (Entering label routine c) ks p r front
entry_accepts K m label routine c ks p r front n same h e =
    let f = filled_outer (Extrinsic (entry_at label routine) NoActual) c in
    let P : State → Type 0 = λ s. HasRead K m s front in
    held_accepts K m f.0 f.1 _ (Entering label routine c) ks p r front (λ ls. same ls ∙ ap (λ (s : State). ends s ls) f.2) (subst P f.2 (entry_read K m label routine c front n h)) e

pub accepts : (K : Kind) (m : Limits) (s : State) (ks : List Symbol) (p : Phrase) (r front : List Symbol) → HasRead K m s front → finish s ks ≡ Accept p r → Accepts K m s ks p r front
accepts K m (Wanted c) ks p r front h e = absurd (refused_accept ks p r e)
accepts K m (Sought q) ks p r front h e = absurd (refused_accept ks p r e)
accepts K m (Marked q) ks p r front h e = absurd (refused_accept ks p r e)
accepts K m (Named scope word q) ks p r front h e = named_accepts K m scope word q ks p r front h e
accepts K m (Entering None None c) ks p r front h e = absurd (refused_accept ks p r e)
accepts K m (Entering (Some l) None c) ks p r front h e = entry_accepts K m (Some l) None c ks p r front refl (λ ls. refl) h e
accepts K m (Entering None (Some n) c) ks p r front h e = entry_accepts K m None (Some n) c ks p r front refl (λ ls. refl) h e
accepts K m (Entering (Some l) (Some n) c) ks p r front h e = entry_accepts K m (Some l) (Some n) c ks p r front refl (λ ls. refl) h e
accepts K m (Routed label c) ks p r front h e = absurd (refused_accept ks p r e)
accepts K m (Calling f c) ks p r front h e = absurd (refused_accept ks p r e)
accepts K m (Behind f v c) ks p r front h e = absurd (refused_accept ks p r e)
accepts K m (Held x t o) ks p r front h e = held_accepts K m x t o (Held x t o) ks p r front (λ ls. refl) h e
accepts K m (Got v) ks p r front h e = target_accepts K m v (Got v) ks p r front (λ ls. refl) h.good.0 h.good.1 h.good.2 h.good.3 h.read e

-- ---- kinds of phrases

pub record Wraps {T : Type 0} (K : Kind) (P : Phrases T) : Type 0 where
  pub wrap : T → Phrase
  pub kind : (t : T) → IsKind K (wrap t)
  pub symbols : (t : T) → phrase_symbols (wrap t) ≡ P.symbols t
  pub nesting : (t : T) → phrase_nesting (wrap t) ≡ P.nesting t
  pub width : (t : T) → phrase_width (wrap t) ≡ P.width t
  pub misfits : (t : T) → phrase_misfits (wrap t) ≡ P.misfits t
  pub unwrap : (p : Phrase) → IsKind K p → (t : T) × (wrap t ≡ p)
  pub once : (t u : T) → wrap t ≡ wrap u → t ≡ u

pub unwrap_expr : (p : Phrase) → IsKind AnExpression p → (t : Expr) × (Whole t ≡ p)
unwrap_expr (Whole e) k = (e, refl)
unwrap_expr (Target v) k = absurd k

pub unwrap_variable : (p : Phrase) → IsKind AVariable p → (t : Variable) × (Target t ≡ p)
unwrap_variable (Whole e) k = absurd k
unwrap_variable (Target v) k = (v, refl)

pub whole_once : (e f : Expr) → Whole e ≡ Whole f → e ≡ f
whole_once e f h = cc

pub target_once : (v w : Variable) → Target v ≡ Target w → v ≡ w
target_once v w h = cc

abbrev pub wraps_expressions : Wraps AnExpression expressions
wraps_expressions = record { wrap = Whole; kind = λ t. tt; symbols = λ t. refl; nesting = λ t. refl; width = λ t. refl; misfits = λ t. refl; unwrap = unwrap_expr; once = whole_once }

abbrev pub wraps_variables : Wraps AVariable variables
wraps_variables = record { wrap = Target; kind = λ t. tt; symbols = λ t. refl; nesting = λ t. refl; width = λ t. refl; misfits = λ t. refl; unwrap = unwrap_variable; once = target_once }
