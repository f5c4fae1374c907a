-- What the grammar has, the machine reads.
use Rattle.std.proofs.Common.{◌≡◌, ℕ, ◌+◌, ◌≤◌, ◌<◌, max, List, [], ◌∷◌, ◌++◌, refl, ap, sym, ◌∙◌, Bool, append_assoc, arith, Option, Some, None}
use Rattle.std.specs.Prelude.{cond}
use Rattle.mj_ast.specs.declared.sign.Sign.TheVariants.{Open, Close, Comma, Colon}
use Rattle.mj_ast.specs.declared.expr.Scope.{Scope}
use Rattle.mj_ast.specs.declared.expr.Scope.TheVariants.{Local, Global}
use Rattle.mj_oper.specs.declared.op.UnaryOp.{UnaryOp}
use Rattle.mj_oper.specs.declared.op.UnaryOp.TheVariants as unary
use Rattle.mj_oper.specs.declared.op.Op.{Op}
use Rattle.mj_oper.specs.declared.op.Op.TheVariants as binary
use Rattle.mj_oper.specs.declared.op.TruthOp.{TruthOp}
use Rattle.mj_oper.specs.declared.op.TruthOp.TheVariants as truth
use Rattle.mj_ast.specs.declared.function.NameFunction.{NameFunction}
use Rattle.mj_ast.specs.declared.function.NameFunction.TheVariants as names
use Rattle.mj_ast.specs.declared.function.Callee.TheVariants as callee
use Rattle.mj_ast.specs.Syntax.{Expr, Chain, Tails, Done, Then, Operand, Literal, Value, Intrinsic, Unary, Group, Call, About, Select, Variable, Var, Exprs, No, More, Choices, Last, Before, Extrinsic, Actuals, NoActual, Given, Omitted, Target as EntryAt}
use Rattle.mj_ast.specs.Expressions.{Symbol, Name, Mark, scoped, unary_sign, truth_sign, binary_sign, expr_symbols, tails_symbols, operand_symbols, variable_symbols, list_symbols, more_symbols, choices_symbols, routine_symbols, actuals_symbols, further_symbols, actuals_nesting, further_nesting, actuals_width, actuals_misfits, entry_misfits, count, subscript_count, least_subscripts, most_others, expr_nesting, tails_nesting, operand_nesting, variable_nesting, list_nesting, exprs_nesting, choices_nesting, expr_width, tails_width, operand_width, variable_width, exprs_width, choices_width, expr_misfits, tails_misfits, operand_misfits, variable_misfits, exprs_misfits, choices_misfits}
use Rattle.mj_expr.specs.Machine.{Outer, Alone, InGroup, InList, InOther, InCondition, InChoice, InActuals, Owner, Subscripts, Arguments, Within, Front, Right, Under, Place, AsOperand, AsNamed, AsTarget, Pairs, NoPairs, and_pair, before_choices, Wanted, Sought, Named, Entering, Behind, Held, Limits, Phrase, Whole, Target, Accept, and_then, and_more, and_given, and_omitted, entry_at, filled, placed, closed, held, outer_depth, owner_depth, depth_of, place_depth, least_of, most_of, is_limited, run, turn, Go, Deep, Stuck, Long, unary_of, binary_of, want_sign, hold_sign}
use Rattle.mj_expr.specs.Reads.{HasNoOpen, HasNoBinary, HasNoCaret}
use Rattle.mj_expr.specs.Readers.{IsWhole}
use Rattle.mj_expr.proofs.Steps.{named_ends, less_true, most_true, open_goes, call_opens, call_goes, colon_goes, choice_goes, choice_closes, before_pair, about_closes, about_goes, other_closes, joined_more, joined_last, whole_done, target_done, given_more, given_last, omitted_more, omitted_last, given_goes, given_closes, omitted_goes, omitted_closes, entry_ends, actuals_open, caret_goes}
use Rattle.mj_expr.proofs.Zipper.{Kind, AnExpression, AVariable, phrase_symbols, start, count-more, joined, continued, least_some, others_few}
use Rattle.mj_expr.proofs.Room.{Fits}

unary_again : (op : UnaryOp) → unary_of (unary_sign op) ≡ Some op
unary_again unary.Plus = refl
unary_again unary.Minus = refl
unary_again unary.Not = refl

truth_again : (op : TruthOp) → binary_of (truth_sign op) ≡ Some (binary.Is op)
truth_again truth.Equal = refl
truth_again truth.Less = refl
truth_again truth.Greater = refl
truth_again truth.Contains = refl
truth_again truth.Follows = refl
truth_again truth.SortsAfter = refl
truth_again truth.And = refl
truth_again truth.Or = refl

binary_again : (op : Op) → binary_of (binary_sign op) ≡ Some op
binary_again binary.Add = refl
binary_again binary.Subtract = refl
binary_again binary.Multiply = refl
binary_again binary.Quotient = refl
binary_again binary.Remainder = refl
binary_again binary.Divide = refl
binary_again binary.Join = refl
binary_again (binary.Is op) = truth_again op
binary_again (binary.IsNot op) = refl

group_opens : (m : Limits) (ks : List Symbol) (c : Within) → depth_of c < m.depth → run m (Mark Open ∷ ks) (Wanted c) ≡ run m ks (Wanted (Front (InGroup c)))
group_opens m ks c h = ap (λ (b : Bool). turn m ks (Wanted c) (Mark Open) (cond b (Go (Wanted (Front (InGroup c)))) Deep)) (less_true (depth_of c) m.depth h)

unary_opens : (m : Limits) (op : UnaryOp) (ks : List Symbol) (c : Within) → depth_of c < m.depth → run m (Mark (unary_sign op) ∷ ks) (Wanted c) ≡ run m ks (Wanted (Under op c))
unary_opens m op ks c h =
    ap (λ (q : Option UnaryOp). turn m ks (Wanted c) (Mark (unary_sign op)) (want_sign m c (unary_sign op) q)) (unary_again op)
    ∙ ap (λ (b : Bool). turn m ks (Wanted c) (Mark (unary_sign op)) (cond b (Go (Wanted (Under op c))) Deep)) (less_true (depth_of c) m.depth h)

binary_joins : (m : Limits) (op : Op) (ks : List Symbol) (x : Operand) (r : Tails) (o : Outer) → run m (Mark (binary_sign op) ∷ ks) (Held x r o) ≡ run m ks (Wanted (Right x r op o))
binary_joins m op ks x r o = ap (λ (q : Option Op). turn m ks (Held x r o) (Mark (binary_sign op)) (hold_sign m x r o (binary_sign op) q)) (binary_again op)

group_closes : (m : Limits) (ks : List Symbol) (e : Expr) (c : Within) → run m (Mark Close ∷ ks) (held e (InGroup c)) ≡ run m ks (filled (Group e) c)
group_closes m ks (Chain x r) c = refl

list_closes : (m : Limits) (ks : List Symbol) (u : Owner) (es : Exprs) (e : Expr) → least_of u ≤ count es + 1 → run m (Mark Close ∷ ks) (held e (InList u es)) ≡ run m ks (closed u (and_more es e))
list_closes m ks u es (Chain x r) h = ap (λ (b : Bool). turn m ks (Held x r (InList u es)) (Mark Close)
    (cond b (Go (closed u (and_more es (Chain x r)))) Stuck)) (most_true (least_of u) (count es + 1) h)

list_goes : (m : Limits) (ks : List Symbol) (u : Owner) (es : Exprs) (e : Expr) → count es + 1 < most_of m u →
    run m (Mark Comma ∷ ks) (held e (InList u es)) ≡ run m ks (Wanted (Front (InList u (and_more es e))))
list_goes m ks u es (Chain x r) h = ap (λ (b : Bool). turn m ks (Held x r (InList u es)) (Mark Comma)
    (cond b (Go (Wanted (Front (InList u (and_more es (Chain x r)))))) (cond (is_limited u) Long Stuck))) (less_true (count es + 1) (most_of m u) h)

-- a variable at the front
wanted_variable : (m : Limits) (v : Variable) (ks : List Symbol) (c : Within) → run m (variable_symbols v ++ ks) (Wanted c) ≡ run m (variable_symbols v ++ ks) (Sought (AsOperand c))
wanted_variable m (Var Local word es) ks c = refl
wanted_variable m (Var Global word es) ks c = refl

sought_name : (m : Limits) (scope : Scope) (word : List ℕ) (xs ks : List Symbol) (p : Place) → run m (scoped scope (Name word ∷ xs) ++ ks) (Sought p) ≡ run m (xs ++ ks) (Named scope word p)
sought_name m Local word xs ks p = refl
sought_name m Global word xs ks p = refl

-- with others behind
abbrev pub tails_joined : Tails → Tails → Tails
tails_joined Done s = s
tails_joined (Then op x r) s = Then op x (tails_joined r s)

tails_joined-done : (r : Tails) → tails_joined r Done ≡ r
tails_joined-done Done = refl
tails_joined-done (Then op x r) = ap (λ (t : Tails). Then op x t) (tails_joined-done r)

tails_joined-then : (q : Tails) (op : Op) (x : Operand) (r : Tails) → tails_joined (and_then q op x) r ≡ tails_joined q (Then op x r)
tails_joined-then Done op x r = refl
tails_joined-then (Then o y q) op x r = ap (λ (t : Tails). Then o y t) (tails_joined-then q op x r)

-- no expression goes on there: neither a list nor the routine of an entry
abbrev pub Rests : List Symbol → Type 0
Rests ks = HasNoOpen ks × HasNoCaret ks

truth_no_open : (op : TruthOp) (ks : List Symbol) → HasNoOpen (Mark (truth_sign op) ∷ ks)
truth_no_open truth.Equal ks = tt
truth_no_open truth.Less ks = tt
truth_no_open truth.Greater ks = tt
truth_no_open truth.Contains ks = tt
truth_no_open truth.Follows ks = tt
truth_no_open truth.SortsAfter ks = tt
truth_no_open truth.And ks = tt
truth_no_open truth.Or ks = tt

binary_no_open : (op : Op) (ks : List Symbol) → HasNoOpen (Mark (binary_sign op) ∷ ks)
binary_no_open binary.Add ks = tt
binary_no_open binary.Subtract ks = tt
binary_no_open binary.Multiply ks = tt
binary_no_open binary.Quotient ks = tt
binary_no_open binary.Remainder ks = tt
binary_no_open binary.Divide ks = tt
binary_no_open binary.Join ks = tt
binary_no_open (binary.Is op) ks = truth_no_open op ks
binary_no_open (binary.IsNot op) ks = tt

truth_no_caret : (op : TruthOp) (ks : List Symbol) → HasNoCaret (Mark (truth_sign op) ∷ ks)
truth_no_caret truth.Equal ks = tt
truth_no_caret truth.Less ks = tt
truth_no_caret truth.Greater ks = tt
truth_no_caret truth.Contains ks = tt
truth_no_caret truth.Follows ks = tt
truth_no_caret truth.SortsAfter ks = tt
truth_no_caret truth.And ks = tt
truth_no_caret truth.Or ks = tt

binary_no_caret : (op : Op) (ks : List Symbol) → HasNoCaret (Mark (binary_sign op) ∷ ks)
binary_no_caret binary.Add ks = tt
binary_no_caret binary.Subtract ks = tt
binary_no_caret binary.Multiply ks = tt
binary_no_caret binary.Quotient ks = tt
binary_no_caret binary.Remainder ks = tt
binary_no_caret binary.Divide ks = tt
binary_no_caret binary.Join ks = tt
binary_no_caret (binary.Is op) ks = truth_no_caret op ks
binary_no_caret (binary.IsNot op) ks = tt

tails_rest : (r : Tails) (ks : List Symbol) → Rests ks → Rests (tails_symbols r ++ ks)
tails_rest Done ks h = h
tails_rest (Then op x r) ks h = (binary_no_open op ((operand_symbols x ++ tails_symbols r) ++ ks), binary_no_caret op ((operand_symbols x ++ tails_symbols r) ++ ks))

more_no_open : (es : Exprs) (ks : List Symbol) → HasNoOpen (more_symbols es ++ ks)
more_no_open No ks = tt
more_no_open (More e es) ks = tt

more_rest : (es : Exprs) (ks : List Symbol) → Rests (more_symbols es ++ ks)
more_rest No ks = (tt, tt)
more_rest (More e es) ks = (tt, tt)

further_rest : (es : Actuals) (ks : List Symbol) → Rests (further_symbols es ++ ks)
further_rest NoActual ks = (tt, tt)
further_rest (Given e es) ks = (tt, tt)
further_rest (Omitted es) ks = (tt, tt)

-- an entry that lacks nothing is whole where no routine follows
whole_by : (label routine : Option (List ℕ)) (ks : List Symbol) → entry_misfits label routine ≡ 0 → HasNoCaret ks → IsWhole label routine ks
whole_by None None ks f h = absurd (omega (arith, f))
whole_by (Some l) None ks f h = h
whole_by None (Some n) ks f h = tt
whole_by (Some l) (Some n) ks f h = tt

complete_routine : (m : Limits) (label routine : Option (List ℕ)) (c : Within) (ks : List Symbol) → run m (routine_symbols routine ++ ks) (Entering label None c) ≡ run m ks (Entering label routine c)
complete_routine m label None c ks = refl
complete_routine m label (Some word) c ks = caret_goes m ks label word c

-- subscripts nest
subscripts_nest : (v : Variable) → 1 ≤ subscript_count v → 1 ≤ variable_nesting v
subscripts_nest (Var scope word No) h = absurd (omega (arith, h))
subscripts_nest (Var scope word (More e es)) h = omega arith

-- where a variable has as many subscripts as it needs, it nests as deep as that
least_nests : (g : NameFunction) (v : Variable) → least_subscripts g ≤ subscript_count v → least_subscripts g ≤ variable_nesting v
least_nests names.Data v h = omega arith
least_nests names.Get v h = omega arith
least_nests names.Name v h = omega arith
least_nests names.Order v h = subscripts_nest v h
least_nests names.Query v h = omega arith

mutual
  pub complete_expr : (e : Expr) (m : Limits) (o : Outer) (ks : List Symbol) → expr_nesting e + outer_depth o ≤ m.depth → expr_width e ≤ m.width → expr_misfits e ≡ 0 → Rests ks →
      run m (expr_symbols e ++ ks) (Wanted (Front o)) ≡ run m ks (held e o)
  complete_expr (Chain x r) m o ks n w f h =
      ap (λ (zs : List Symbol). run m zs (Wanted (Front o))) (append_assoc (operand_symbols x) (tails_symbols r) ks)
      ∙ complete_operand x m (Front o) (tails_symbols r ++ ks) (omega arith) (omega arith) (omega arith) (tails_rest r ks h)
      ∙ complete_tails r m x Done o ks (omega arith) (omega arith) (omega arith) h

  complete_tails : (r : Tails) (m : Limits) (x : Operand) (q : Tails) (o : Outer) (ks : List Symbol) → tails_nesting r + outer_depth o ≤ m.depth →
      tails_width r ≤ m.width → tails_misfits r ≡ 0 → Rests ks →
      run m (tails_symbols r ++ ks) (Held x q o) ≡ run m ks (Held x (tails_joined q r) o)
  complete_tails Done m x q o ks n w f h = ap (λ (t : Tails). run m ks (Held x t o)) (sym (tails_joined-done q))
  complete_tails (Then op y r) m x q o ks n w f h =
      ap (λ (zs : List Symbol). run m (Mark (binary_sign op) ∷ zs) (Held x q o)) (append_assoc (operand_symbols y) (tails_symbols r) ks)
      ∙ binary_joins m op (operand_symbols y ++ (tails_symbols r ++ ks)) x q o
      ∙ complete_operand y m (Right x q op o) (tails_symbols r ++ ks) (omega arith) (omega arith) (omega arith) (tails_rest r ks h)
      ∙ complete_tails r m x (and_then q op y) o ks (omega arith) (omega arith) (omega arith) h
      ∙ ap (λ (t : Tails). run m ks (Held x t o)) (tails_joined-then q op y r)

  complete_operand : (x : Operand) (m : Limits) (c : Within) (ks : List Symbol) → operand_nesting x + depth_of c ≤ m.depth → operand_width x ≤ m.width → operand_misfits x ≡ 0 → Rests ks →
      run m (operand_symbols x ++ ks) (Wanted c) ≡ run m ks (filled x c)
  complete_operand (Literal value) m c ks n w f h = refl
  complete_operand (Intrinsic v) m c ks n w f h = refl
  complete_operand (Value v) m c ks n w f h = wanted_variable m v ks c ∙ complete_variable v m (AsOperand c) ks n w f h.0
  complete_operand (Unary op x) m c ks n w f h =
      unary_opens m op (operand_symbols x ++ ks) c (omega arith)
      ∙ complete_operand x m (Under op c) ks (omega arith) w f h
  complete_operand (Group e) m c ks n w f h =
      group_opens m ((expr_symbols e ++ Mark Close ∷ []) ++ ks) c (omega arith)
      ∙ ap (λ (zs : List Symbol). run m zs (Wanted (Front (InGroup c)))) (append_assoc (expr_symbols e) (Mark Close ∷ []) ks)
      ∙ complete_expr e m (InGroup c) (Mark Close ∷ ks) (omega arith) w f (tt, tt)
      ∙ group_closes m ks e c
  complete_operand (Call g No) m c ks n w f h = absurd (omega (arith, f, least_some g))
  complete_operand (Call g (More e r)) m c ks n w f h =
      let u = Arguments g c in
      call_goes m (Mark Open ∷ ((expr_symbols e ++ more_symbols r) ++ ks)) (callee.Texts g) c (omega arith)
      ∙ call_opens m ((expr_symbols e ++ more_symbols r) ++ ks) (callee.Texts g) c
      ∙ ap (λ (zs : List Symbol). run m zs (Wanted (Front (InList u No)))) (append_assoc (expr_symbols e) (more_symbols r) ks)
      ∙ complete_expr e m (InList u No) (more_symbols r ++ ks) (omega arith) (omega arith) (omega arith) (more_rest r ks)
      ∙ complete_more r m u No e ks (omega arith) (omega arith) (omega arith) (omega (arith, f)) (omega (arith, f))
  complete_operand (About g v others) m c ks n w f h =
      let s : least_subscripts g ≤ subscript_count v = omega (arith, f) in
      call_goes m (Mark Open ∷ ((variable_symbols v ++ more_symbols others) ++ ks)) (callee.Names g) c (omega (arith, n, least_nests g v s))
      ∙ call_opens m ((variable_symbols v ++ more_symbols others) ++ ks) (callee.Names g) c
      ∙ ap (λ (zs : List Symbol). run m zs (Sought (AsNamed g c))) (append_assoc (variable_symbols v) (more_symbols others) ks)
      ∙ complete_variable v m (AsNamed g c) (more_symbols others ++ ks) (omega (arith, n)) (omega (arith, w)) (omega (arith, f)) (more_no_open others ks)
      ∙ complete_others others m g v c ks (omega (arith, n)) (omega (arith, w)) (omega (arith, f)) s (omega (arith, f))
  complete_operand (Select choices) m c ks n w f h =
      call_goes m (Mark Open ∷ (choices_symbols choices ++ ks)) callee.Select c (omega arith)
      ∙ call_opens m (choices_symbols choices ++ ks) callee.Select c
      ∙ complete_choices choices m NoPairs c ks (omega arith) w f
  complete_operand (Extrinsic t es) m c ks n w f h =
      ap (λ (zs : List Symbol). run m zs (Entering t.label None c)) (append_assoc (routine_symbols t.routine) (actuals_symbols es) ks)
      ∙ complete_routine m t.label t.routine c (actuals_symbols es ++ ks)
      ∙ complete_actuals es m t.label t.routine c ks n w f h

  complete_actuals : (es : Actuals) (m : Limits) (label routine : Option (List ℕ)) (c : Within) (ks : List Symbol) → actuals_nesting es + depth_of c ≤ m.depth →
      actuals_width es ≤ m.width → entry_misfits label routine + actuals_misfits es ≡ 0 → Rests ks →
      run m (actuals_symbols es ++ ks) (Entering label routine c) ≡ run m ks (filled (Extrinsic (entry_at label routine) es) c)
  complete_actuals NoActual m label routine c ks n w f h = entry_ends m label routine c ks h.0 (whole_by label routine ks (omega (arith, f)) h.1)
  complete_actuals (Given e r) m label routine c ks n w f h =
      let t = entry_at label routine in
      actuals_open m ((expr_symbols e ++ further_symbols r) ++ ks) label routine c (omega arith)
      (whole_by label routine (Mark Open ∷ ((expr_symbols e ++ further_symbols r) ++ ks)) (omega (arith, f)) tt)
      ∙ ap (λ (zs : List Symbol). run m zs (Wanted (Front (InActuals t NoActual c)))) (append_assoc (expr_symbols e) (further_symbols r) ks)
      ∙ complete_expr e m (InActuals t NoActual c) (further_symbols r ++ ks) (omega arith) (omega arith) (omega arith) (further_rest r ks)
      ∙ complete_further r m t NoActual e c ks (omega arith) (omega arith) (omega arith)
  complete_actuals (Omitted r) m label routine c ks n w f h =
      let t = entry_at label routine in
      actuals_open m (further_symbols r ++ ks) label routine c (omega arith) (whole_by label routine (Mark Open ∷ (further_symbols r ++ ks)) (omega (arith, f)) tt)
      ∙ complete_missing r m t NoActual c ks (omega arith) (omega arith) (omega arith)

  -- behind an actual
  complete_further : (r : Actuals) (m : Limits) (t : EntryAt) (done : Actuals) (e : Expr) (c : Within) (ks : List Symbol) → further_nesting r + depth_of c + 1 ≤ m.depth →
      actuals_width r ≤ m.width → actuals_misfits r ≡ 0 →
      run m (further_symbols r ++ ks) (held e (InActuals t done c)) ≡ run m ks (filled (Extrinsic t (continued done (Given e r))) c)
  complete_further NoActual m t done e c ks n w f =
      given_closes m ks t done e c ∙ ap (λ (es : Actuals). run m ks (filled (Extrinsic t es) c)) (sym (given_last done e))
  complete_further (Given g r) m t done e c ks n w f =
      given_goes m ((expr_symbols g ++ further_symbols r) ++ ks) t done e c
      ∙ ap (λ (zs : List Symbol). run m zs (Wanted (Front (InActuals t (and_given done e) c)))) (append_assoc (expr_symbols g) (further_symbols r) ks)
      ∙ complete_expr g m (InActuals t (and_given done e) c) (further_symbols r ++ ks) (omega arith) (omega arith) (omega arith) (further_rest r ks)
      ∙ complete_further r m t (and_given done e) g c ks (omega arith) (omega arith) (omega arith)
      ∙ ap (λ (es : Actuals). run m ks (filled (Extrinsic t es) c)) (given_more done e (Given g r))
  complete_further (Omitted r) m t done e c ks n w f =
      given_goes m (further_symbols r ++ ks) t done e c
      ∙ complete_missing r m t (and_given done e) c ks (omega arith) (omega arith) (omega arith)
      ∙ ap (λ (es : Actuals). run m ks (filled (Extrinsic t es) c)) (given_more done e (Omitted r))

  -- where one is left out
  complete_missing : (r : Actuals) (m : Limits) (t : EntryAt) (done : Actuals) (c : Within) (ks : List Symbol) → further_nesting r + depth_of c + 1 ≤ m.depth →
      actuals_width r ≤ m.width → actuals_misfits r ≡ 0 →
      run m (further_symbols r ++ ks) (Wanted (Front (InActuals t done c))) ≡ run m ks (filled (Extrinsic t (continued done (Omitted r))) c)
  complete_missing NoActual m t done c ks n w f = omitted_closes m ks t done c ∙ ap (λ (es : Actuals). run m ks (filled (Extrinsic t es) c)) (sym (omitted_last done))
  complete_missing (Given g r) m t done c ks n w f =
      omitted_goes m ((expr_symbols g ++ further_symbols r) ++ ks) t done c
      ∙ ap (λ (zs : List Symbol). run m zs (Wanted (Front (InActuals t (and_omitted done) c)))) (append_assoc (expr_symbols g) (further_symbols r) ks)
      ∙ complete_expr g m (InActuals t (and_omitted done) c) (further_symbols r ++ ks) (omega arith) (omega arith) (omega arith) (further_rest r ks)
      ∙ complete_further r m t (and_omitted done) g c ks (omega arith) (omega arith) (omega arith)
      ∙ ap (λ (es : Actuals). run m ks (filled (Extrinsic t es) c)) (omitted_more done (Given g r))
  complete_missing (Omitted r) m t done c ks n w f =
      omitted_goes m (further_symbols r ++ ks) t done c
      ∙ complete_missing r m t (and_omitted done) c ks (omega arith) (omega arith) (omega arith)
      ∙ ap (λ (es : Actuals). run m ks (filled (Extrinsic t es) c)) (omitted_more done (Omitted r))

  complete_others : (others : Exprs) (m : Limits) (g : NameFunction) (v : Variable) (c : Within) (ks : List Symbol) →
      exprs_nesting others + depth_of c + 1 ≤ m.depth → exprs_width others ≤ m.width → exprs_misfits others ≡ 0 →
      least_subscripts g ≤ subscript_count v → count others ≤ most_others g → run m (more_symbols others ++ ks) (Behind g v c) ≡ run m ks (filled (About g v others) c)
  complete_others No m g v c ks n w f s t = about_closes m ks g v c s
  complete_others (More e No) m g v c ks n w f s t =
      about_goes m ((expr_symbols e ++ Mark Close ∷ []) ++ ks) g v c s (omega (arith, t))
      ∙ ap (λ (zs : List Symbol). run m zs (Wanted (Front (InOther g v c)))) (append_assoc (expr_symbols e) (Mark Close ∷ []) ks)
      ∙ complete_expr e m (InOther g v c) (Mark Close ∷ ks) (omega arith) (omega arith) (omega arith) (tt, tt)
      ∙ other_closes m ks g v e c
  complete_others (More e (More d r)) m g v c ks n w f s t = absurd (omega (arith, t, others_few g))

  complete_choices : (x : Choices) (m : Limits) (ps : Pairs) (c : Within) (ks : List Symbol) → choices_nesting x + depth_of c + 1 ≤ m.depth → choices_width x ≤ m.width → choices_misfits x ≡ 0 →
      run m (choices_symbols x ++ ks) (Wanted (Front (InCondition ps c))) ≡ run m ks (filled (Select (before_choices ps x)) c)
  complete_choices (Last a e) m ps c ks n w f =
      ap (λ (zs : List Symbol). run m zs (Wanted (Front (InCondition ps c)))) (append_assoc (expr_symbols a) (Mark Colon ∷ (expr_symbols e ++ Mark Close ∷ [])) ks)
      ∙ complete_expr a m (InCondition ps c) (Mark Colon ∷ ((expr_symbols e ++ Mark Close ∷ []) ++ ks)) (omega arith) (omega arith) (omega arith) (tt, tt)
      ∙ colon_goes m ((expr_symbols e ++ Mark Close ∷ []) ++ ks) ps a c
      ∙ ap (λ (zs : List Symbol). run m zs (Wanted (Front (InChoice ps a c)))) (append_assoc (expr_symbols e) (Mark Close ∷ []) ks)
      ∙ complete_expr e m (InChoice ps a c) (Mark Close ∷ ks) (omega arith) (omega arith) (omega arith) (tt, tt)
      ∙ choice_closes m ks ps a e c
  complete_choices (Before a e x) m ps c ks n w f =
      ap (λ (zs : List Symbol). run m zs (Wanted (Front (InCondition ps c)))) (append_assoc (expr_symbols a) (Mark Colon ∷ (expr_symbols e ++ Mark Comma ∷ choices_symbols x)) ks)
      ∙ complete_expr a m (InCondition ps c) (Mark Colon ∷ ((expr_symbols e ++ Mark Comma ∷ choices_symbols x) ++ ks)) (omega arith) (omega arith) (omega arith) (tt, tt)
      ∙ colon_goes m ((expr_symbols e ++ Mark Comma ∷ choices_symbols x) ++ ks) ps a c
      ∙ ap (λ (zs : List Symbol). run m zs (Wanted (Front (InChoice ps a c)))) (append_assoc (expr_symbols e) (Mark Comma ∷ choices_symbols x) ks)
      ∙ complete_expr e m (InChoice ps a c) (Mark Comma ∷ (choices_symbols x ++ ks)) (omega arith) (omega arith) (omega arith) (tt, tt)
      ∙ choice_goes m (choices_symbols x ++ ks) ps a e c
      ∙ complete_choices x m (and_pair ps a e) c ks (omega arith) (omega arith) (omega arith)
      ∙ ap (λ (y : Choices). run m ks (filled (Select y) c)) (before_pair ps a e x)

  pub complete_variable : (v : Variable) (m : Limits) (p : Place) (ks : List Symbol) → variable_nesting v + place_depth p ≤ m.depth →
      variable_width v ≤ m.width → variable_misfits v ≡ 0 → HasNoOpen ks →
      run m (variable_symbols v ++ ks) (Sought p) ≡ run m ks (placed v p)
  complete_variable (Var scope word es) m p ks n w f h =
      sought_name m scope word (list_symbols es) ks p
      ∙ complete_list es m scope word p ks n w f h

  complete_list : (es : Exprs) (m : Limits) (scope : Scope) (word : List ℕ) (p : Place) (ks : List Symbol) → list_nesting es + place_depth p ≤ m.depth →
      max (count es) (exprs_width es) ≤ m.width → exprs_misfits es ≡ 0 → HasNoOpen ks →
      run m (list_symbols es ++ ks) (Named scope word p) ≡ run m ks (placed (Var scope word es) p)
  complete_list No m scope word p ks n w f h = named_ends m scope word p ks h
  complete_list (More e r) m scope word p ks n w f h =
      open_goes m ((expr_symbols e ++ more_symbols r) ++ ks) scope word p (omega arith)
      ∙ ap (λ (zs : List Symbol). run m zs (Wanted (Front (InList (Subscripts scope word p) No)))) (append_assoc (expr_symbols e) (more_symbols r) ks)
      ∙ complete_expr e m (InList (Subscripts scope word p) No) (more_symbols r ++ ks) (omega arith) (omega arith) (omega arith) (more_rest r ks)
      ∙ complete_more r m (Subscripts scope word p) No e ks (omega arith) (omega arith) (omega arith) (omega arith) (omega arith)

  complete_more : (r : Exprs) (m : Limits) (u : Owner) (done : Exprs) (e : Expr) (ks : List Symbol) → exprs_nesting r + owner_depth u + 1 ≤ m.depth →
      exprs_width r ≤ m.width → exprs_misfits r ≡ 0 → count done + 1 + count r ≤ most_of m u → least_of u ≤ count done + 1 + count r →
      run m (more_symbols r ++ ks) (held e (InList u done)) ≡ run m ks (closed u (joined done (More e r)))
  complete_more No m u done e ks n w f t l =
      list_closes m ks u done e (omega arith) ∙ ap (λ (es : Exprs). run m ks (closed u es)) (sym (joined_last done e))
  complete_more (More g r) m u done e ks n w f t l =
      list_goes m ((expr_symbols g ++ more_symbols r) ++ ks) u done e (omega arith)
      ∙ ap (λ (zs : List Symbol). run m zs (Wanted (Front (InList u (and_more done e))))) (append_assoc (expr_symbols g) (more_symbols r) ks)
      ∙ complete_expr g m (InList u (and_more done e)) (more_symbols r ++ ks) (omega arith) (omega arith) (omega arith) (more_rest r ks)
      ∙ complete_more r m u (and_more done e) g ks (omega arith) (omega arith) (omega arith) (omega (arith, count-more done e)) (omega (arith, count-more done e))
      ∙ ap (λ (es : Exprs). run m ks (closed u es)) (joined_more done e (More g r))

-- ---- phrases

-- where a phrase can't go on
abbrev pub Ceases : Kind → List Symbol → Type 0
Ceases AnExpression ks = Rests ks × HasNoBinary ks
Ceases AVariable ks = HasNoOpen ks

pub complete_phrase : (K : Kind) (p : Phrase) (m : Limits) (ks : List Symbol) → Fits K m p → Ceases K ks → run m (phrase_symbols p ++ ks) (start K) ≡ Accept p ks
complete_phrase AnExpression (Whole e) m ks f h =
    complete_expr e m Alone ks (let n = f.nests in omega arith) f.lists f.formed h.0 ∙ whole_done m e ks h.1
complete_phrase AnExpression (Target v) m ks f h = absurd f.kind
complete_phrase AVariable (Target v) m ks f h =
    complete_variable v m AsTarget ks (let n = f.nests in omega arith) f.lists f.formed h ∙ target_done m v ks
complete_phrase AVariable (Whole e) m ks f h = absurd f.kind
