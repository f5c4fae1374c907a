-- What stands around a place, within the limits, and what a state has read.
use Rattle.std.proofs.Common.{◌≡◌, ℕ, Option, ◌+◌, ◌-◌, ◌≤◌, max, List, [], ◌∷◌, ◌++◌, ap, sym, ◌∙◌, append_assoc, append-nil, arith}
use Rattle.mj_ast.specs.declared.sign.Sign.TheVariants.{Caret}
use Rattle.mj_ast.specs.declared.function.Callee.TheVariants as callee
use Rattle.mj_ast.specs.Syntax.{Expr, Chain, Done, Operand, Value, Unary, Group, Call, About, Select, Extrinsic, Variable, Var, Exprs, No, More, Last, NoActual}
use Rattle.mj_ast.specs.Expressions.{Symbol, Name, Applied, Entry, Mark, routine_symbols, further_nesting, actuals_width, actuals_misfits, entry_misfits, scoped, unary_sign, expr_symbols, operand_symbols, variable_symbols, list_symbols, count, subscript_count, least_subscripts, most_others, levels, expr_nesting, operand_nesting, variable_nesting, list_nesting, exprs_nesting, expr_width, operand_width, variable_width, exprs_width, expr_misfits, operand_misfits, variable_misfits, exprs_misfits}
use Rattle.mj_expr.specs.Machine.{Outer, Alone, InGroup, InList, InOther, InCondition, InChoice, InActuals, Owner, Subscripts, Arguments, Within, Front, Right, Under, Place, AsOperand, AsNamed, AsTarget, before_choices, State, Wanted, Sought, Marked, Named, Entering, Routed, Calling, Behind, Held, Got, Limits, Phrase, Whole, Target, and_then, and_more, and_given, entry_at, filled, placed, closed, outer_depth, owner_depth, depth_of, place_depth, least_of, most_of}
use Rattle.mj_expr.proofs.Zipper.{AnExpression, AVariable, tails_symbols-then, joined, scoped-append, tails_nesting-then, tails_width-then, exprs_nesting-more, exprs_width-more, count-more, tails_misfits-then, exprs_misfits-more, exprs_nesting-joined, exprs_width-joined, exprs_misfits-joined, count-joined, list_nesting-some, pairs_nesting, pairs_width, pairs_misfits, choices_nesting-before, choices_width-before, choices_misfits-before, nesting-given, width-given, misfits-given, zero_expr, pad, pad_count, pad_nesting, pad_width, pad_misfits, owner_least, least_at, least_at_few, Kind, IsKind, ForExpression, ForVariable, phrase_nesting, phrase_width, phrase_misfits, outer_before, owner_before, before, place_before, outer_plug, owner_plug, plug, place_plug}

-- ---- within the limits

abbrev mutual
  pub OuterGood : Kind → Limits → Outer → Type 0
  OuterGood K m Alone = ForExpression K
  OuterGood K m (InGroup c) = Good K m c × (depth_of c + 1 ≤ m.depth)
  OuterGood K m (InList w es) = OwnerGood K m w × (owner_depth w + 1 ≤ m.depth) × (exprs_nesting es + owner_depth w + 1 ≤ m.depth) ×
      (exprs_width es ≤ m.width) × (count es + 1 ≤ most_of m w) × (exprs_misfits es ≡ 0)
  OuterGood K m (InOther f v c) =
      Good K m c × (depth_of c + 1 ≤ m.depth) × (variable_nesting v + depth_of c + 1 ≤ m.depth) × (variable_width v ≤ m.width) × (variable_misfits v ≡ 0)
      × (least_subscripts f ≤ subscript_count v) × (1 ≤ most_others f)
  OuterGood K m (InCondition ps c) = Good K m c × (depth_of c + 1 ≤ m.depth) × (pairs_nesting ps + depth_of c + 1 ≤ m.depth) × (pairs_width ps ≤ m.width) × (pairs_misfits ps ≡ 0)
  OuterGood K m (InChoice ps a c) =
      Good K m c × (depth_of c + 1 ≤ m.depth) × (pairs_nesting ps + depth_of c + 1 ≤ m.depth) × (pairs_width ps ≤ m.width) × (pairs_misfits ps ≡ 0)
      × (expr_nesting a + depth_of c + 1 ≤ m.depth) × (expr_width a ≤ m.width) × (expr_misfits a ≡ 0)
  OuterGood K m (InActuals t es c) =
      Good K m c × (depth_of c + 1 ≤ m.depth) × (further_nesting es + depth_of c + 1 ≤ m.depth) × (actuals_width es ≤ m.width) × (actuals_misfits es ≡ 0)
      × (entry_misfits t.label t.routine ≡ 0)

  pub OwnerGood : Kind → Limits → Owner → Type 0
  OwnerGood K m (Subscripts scope word p) = PlaceGood K m p
  OwnerGood K m (Arguments f c) = Good K m c

  pub Good : Kind → Limits → Within → Type 0
  Good K m (Front o) = OuterGood K m o
  Good K m (Right first rest op o) = OuterGood K m o × (expr_nesting (Chain first rest) + outer_depth o ≤ m.depth) × (expr_width (Chain first rest) ≤ m.width) × (expr_misfits (Chain first rest) ≡ 0)
  Good K m (Under op c) = Good K m c × (depth_of c + 1 ≤ m.depth)

  pub PlaceGood : Kind → Limits → Place → Type 0
  PlaceGood K m (AsOperand c) = Good K m c
  PlaceGood K m (AsNamed f c) = Good K m c × (depth_of c + least_subscripts f + 1 ≤ m.depth) × (least_subscripts f ≤ m.width)
  PlaceGood K m AsTarget = ForVariable K

pub good_depth : (K : Kind) (m : Limits) (c : Within) → Good K m c → depth_of c ≤ m.depth
good_depth K m (Front Alone) g = omega arith
good_depth K m (Front (InGroup c)) g = g.1
good_depth K m (Front (InList w es)) g = g.1
good_depth K m (Front (InOther f v c)) g = g.1
good_depth K m (Front (InCondition ps c)) g = g.1
good_depth K m (Front (InChoice ps a c)) g = g.1
good_depth K m (Front (InActuals t es c)) g = g.1
good_depth K m (Right first rest op o) g = omega (arith, g.1)
good_depth K m (Under op c) g = g.1

pub outer_good_depth : (K : Kind) (m : Limits) (o : Outer) → OuterGood K m o → outer_depth o ≤ m.depth
outer_good_depth K m o g = good_depth K m (Front o) g

pub place_good_depth : (K : Kind) (m : Limits) (p : Place) → PlaceGood K m p → place_depth p ≤ m.depth
place_good_depth K m (AsOperand c) g = good_depth K m c g
place_good_depth K m (AsNamed f c) g = omega (arith, g.1)
place_good_depth K m AsTarget g = omega arith

-- there is room for the subscripts that a variable needs
pub place_good_room : (K : Kind) (m : Limits) (p : Place) → PlaceGood K m p → least_at p + place_depth p ≤ m.depth
place_good_room K m (AsOperand c) g = omega (arith, good_depth K m c g)
place_good_room K m (AsNamed f c) g = omega (arith, g.1)
place_good_room K m AsTarget g = omega arith

pub place_good_width : (K : Kind) (m : Limits) (p : Place) → PlaceGood K m p → least_at p ≤ m.width
place_good_width K m (AsOperand c) g = omega arith
place_good_width K m (AsNamed f c) g = g.2
place_good_width K m AsTarget g = omega arith

pub owner_good_depth : (K : Kind) (m : Limits) (w : Owner) → OwnerGood K m w → owner_depth w ≤ m.depth
owner_good_depth K m (Subscripts scope word p) g = place_good_depth K m p g
owner_good_depth K m (Arguments f c) g = good_depth K m c g

pub record Fits (K : Kind) (m : Limits) (p : Phrase) : Type 0 where
  pub kind : IsKind K p
  pub nests : phrase_nesting p ≤ m.depth
  pub lists : phrase_width p ≤ m.width
  pub formed : phrase_misfits p ≡ 0

whole_fits : (K : Kind) (m : Limits) (e : Expr) → ForExpression K → expr_nesting e ≤ m.depth → expr_width e ≤ m.width → expr_misfits e ≡ 0 → Fits K m (Whole e)
whole_fits AnExpression m e k n w f = record { kind = tt; nests = n; lists = w; formed = f }
whole_fits AVariable m e k n w f = absurd k

target_fits : (K : Kind) (m : Limits) (v : Variable) → ForVariable K → variable_nesting v ≤ m.depth → variable_width v ≤ m.width → variable_misfits v ≡ 0 → Fits K m (Target v)
target_fits AVariable m v k n w f = record { kind = tt; nests = n; lists = w; formed = f }
target_fits AnExpression m v k n w f = absurd k

mutual
  pub outer_plug_fits : (o : Outer) (K : Kind) (m : Limits) (e : Expr) → OuterGood K m o → expr_nesting e + outer_depth o ≤ m.depth → expr_width e ≤ m.width →
      expr_misfits e ≡ 0 → Fits K m (outer_plug o e)
  outer_plug_fits Alone K m e g n w f = whole_fits K m e g (omega arith) w f
  outer_plug_fits (InGroup c) K m e g n w f = plug_fits c K m (Group e) g.0 (omega arith) w f
  outer_plug_fits (InList u es) K m e g n w f =
      let k = least_of u - (count es + 1) in
      let all = joined (and_more es e) (pad k) in
      let c : count all ≡ count es + 1 + k = omega (arith, count-joined (and_more es e) (pad k), count-more es e, pad_count k) in
      let d : exprs_nesting all ≡ max (exprs_nesting es) (expr_nesting e) = omega (arith, exprs_nesting-joined (and_more es e) (pad k), exprs_nesting-more es e, pad_nesting k) in
      owner_plug_fits u K m all g.0
      (omega (arith, list_nesting-some all, d, g.2))
      (omega (arith, exprs_width-joined (and_more es e) (pad k), exprs_width-more es e, pad_width k, g.3))
      (omega (arith, c, g.4, owner_least m u))
      (omega (arith, c))
      (omega (arith, c))
      (omega (arith, exprs_misfits-joined (and_more es e) (pad k), exprs_misfits-more es e, pad_misfits k, g.5))
  outer_plug_fits (InOther h v c) K m e g n w f =
      plug_fits c K m (About h v (More e No)) g.0 (omega (arith, g.2)) (omega (arith, g.3)) (omega (arith, g.4, g.5, g.6))
  outer_plug_fits (InCondition ps c) K m e g n w f =
      plug_fits c K m (Select (before_choices ps (Last e zero_expr))) g.0
      (omega (arith, choices_nesting-before ps (Last e zero_expr), g.2))
      (omega (arith, choices_width-before ps (Last e zero_expr), g.3))
      (omega (arith, choices_misfits-before ps (Last e zero_expr), g.4))
  outer_plug_fits (InChoice ps a c) K m e g n w f =
      plug_fits c K m (Select (before_choices ps (Last a e))) g.0
      (omega (arith, choices_nesting-before ps (Last a e), g.2, g.5))
      (omega (arith, choices_width-before ps (Last a e), g.3, g.6))
      (omega (arith, choices_misfits-before ps (Last a e), g.4, g.7))
  outer_plug_fits (InActuals t es c) K m e g n w f =
      plug_fits c K m (Extrinsic t (and_given es e)) g.0
      (omega (arith, (nesting-given es e).1, g.2))
      (omega (arith, width-given es e, g.3))
      (omega (arith, misfits-given es e, g.4, g.5))

  pub owner_plug_fits : (u : Owner) (K : Kind) (m : Limits) (es : Exprs) → OwnerGood K m u → list_nesting es + owner_depth u ≤ m.depth →
      exprs_width es ≤ m.width → count es ≤ most_of m u → least_of u ≤ count es → 1 ≤ count es → exprs_misfits es ≡ 0 → Fits K m (owner_plug u es)
  owner_plug_fits (Subscripts scope word p) K m es g n w c l s f = place_plug_fits p K m (Var scope word es) g n (omega arith) f (omega (arith, least_at_few p))
  owner_plug_fits (Arguments h c) K m es g n w b l s f = plug_fits c K m (Call h es) g n w (omega arith)

  pub plug_fits : (c : Within) (K : Kind) (m : Limits) (x : Operand) → Good K m c → operand_nesting x + depth_of c ≤ m.depth → operand_width x ≤ m.width → operand_misfits x ≡ 0 → Fits K m (plug c x)
  plug_fits (Front o) K m x g n w f = outer_plug_fits o K m (Chain x Done) g (omega arith) (omega arith) (omega arith)
  plug_fits (Right first rest op o) K m x g n w f =
      outer_plug_fits o K m (Chain first (and_then rest op x)) g.0 (omega (arith, tails_nesting-then rest op x, g.1))
      (omega (arith, tails_width-then rest op x, g.2)) (omega (arith, tails_misfits-then rest op x, g.3))
  plug_fits (Under op c) K m x g n w f = plug_fits c K m (Unary op x) g.0 (omega arith) w f

  pub place_plug_fits : (p : Place) (K : Kind) (m : Limits) (v : Variable) → PlaceGood K m p → variable_nesting v + place_depth p ≤ m.depth →
      variable_width v ≤ m.width → variable_misfits v ≡ 0 → least_at p ≤ subscript_count v → Fits K m (place_plug p v)
  place_plug_fits (AsOperand c) K m v g n w f s = plug_fits c K m (Value v) g n w f
  place_plug_fits (AsNamed h c) K m v g n w f s = plug_fits c K m (About h v No) g.0 (omega arith) (omega arith) (omega (arith, s))
  place_plug_fits AsTarget K m v g n w f s = target_fits K m v g (omega arith) w f

-- ---- states

abbrev pub sofar : State → List Symbol
sofar (Wanted c) = before c
sofar (Sought p) = place_before p
sofar (Marked p) = place_before p ++ Mark Caret ∷ []
sofar (Named scope word p) = place_before p ++ scoped scope (Name word ∷ [])
sofar (Entering label routine c) = before c ++ Entry label ∷ routine_symbols routine
sofar (Routed label c) = before c ++ Entry label ∷ Mark Caret ∷ []
sofar (Calling callee c) = before c ++ Applied callee ∷ []
sofar (Behind f v c) = place_before (AsNamed f c) ++ variable_symbols v
sofar (Held first rest o) = outer_before o ++ expr_symbols (Chain first rest)
sofar (Got v) = variable_symbols v

abbrev pub IsGood : Kind → Limits → State → Type 0
IsGood K m (Wanted c) = Good K m c
IsGood K m (Sought p) = PlaceGood K m p
IsGood K m (Marked p) = PlaceGood K m p
IsGood K m (Named scope word p) = PlaceGood K m p
IsGood K m (Entering label routine c) = Good K m c
IsGood K m (Routed label c) = Good K m c
IsGood K m (Calling callee c) = Good K m c × (depth_of c + levels callee ≤ m.depth) × (levels callee ≤ m.width + 1)
IsGood K m (Behind f v c) = Good K m c × (variable_nesting v + depth_of c + 1 ≤ m.depth) × (variable_width v ≤ m.width) × (variable_misfits v ≡ 0) × (least_subscripts f ≤ subscript_count v)
IsGood K m (Held first rest o) = OuterGood K m o × (expr_nesting (Chain first rest) + outer_depth o ≤ m.depth) × (expr_width (Chain first rest) ≤ m.width) × (expr_misfits (Chain first rest) ≡ 0)
IsGood K m (Got v) = ForVariable K × (variable_nesting v ≤ m.depth) × (variable_width v ≤ m.width) × (variable_misfits v ≡ 0)

-- the state is good, and has read these symbols
pub record HasRead (K : Kind) (m : Limits) (s : State) (ks : List Symbol) : Type 0 where
  pub good : IsGood K m s
  pub read : sofar s ≡ ks

pub filled_read : (c : Within) (K : Kind) (m : Limits) (x : Operand) (ks : List Symbol) → Good K m c → operand_nesting x + depth_of c ≤ m.depth → operand_width x ≤ m.width → operand_misfits x ≡ 0 →
    before c ++ operand_symbols x ≡ ks → HasRead K m (filled x c) ks
filled_read (Front o) K m x ks g n w f e = record {
  good = (g, omega arith, omega arith, omega arith);
  read = ap (λ (xs : List Symbol). outer_before o ++ xs) (append-nil (operand_symbols x)) ∙ e;
}
filled_read (Right first rest op o) K m x ks g n w f e = record {
  good = (g.0, omega (arith, tails_nesting-then rest op x, g.1), omega (arith, tails_width-then rest op x, g.2), omega (arith, tails_misfits-then rest op x, g.3));
  read =
      ap (λ (xs : List Symbol). outer_before o ++ (operand_symbols first ++ xs)) (tails_symbols-then rest op x)
      ∙ sym (simp append_assoc) ∙ e;
}
filled_read (Under op c) K m x ks g n w f e = filled_read c K m (Unary op x) ks g.0 (omega arith) w f (sym (append_assoc (before c) (Mark (unary_sign op) ∷ []) (operand_symbols x)) ∙ e)

-- a function without actuals is what was read of its entry
pub entry_read : (K : Kind) (m : Limits) (label routine : Option (List ℕ)) (c : Within) (ks : List Symbol) → entry_misfits label routine ≡ 0 →
    HasRead K m (Entering label routine c) ks → HasRead K m (filled (Extrinsic (entry_at label routine) NoActual) c) ks
entry_read K m label routine c ks f h =
    filled_read c K m (Extrinsic (entry_at label routine) NoActual) ks h.good (omega (arith, good_depth K m c h.good)) (omega arith) (omega (arith, f))
    (ap (λ (xs : List Symbol). before c ++ Entry label ∷ xs) (append-nil (routine_symbols routine)) ∙ h.read)

pub placed_read : (p : Place) (K : Kind) (m : Limits) (v : Variable) (ks : List Symbol) → PlaceGood K m p → variable_nesting v + place_depth p ≤ m.depth →
    variable_width v ≤ m.width → variable_misfits v ≡ 0 → least_at p ≤ subscript_count v →
    place_before p ++ variable_symbols v ≡ ks → HasRead K m (placed v p) ks
placed_read (AsOperand c) K m v ks g n w f s e = filled_read c K m (Value v) ks g n w f e
placed_read (AsNamed h c) K m v ks g n w f s e = record { good = (g.0, omega arith, w, f, s); read = e }
placed_read AsTarget K m v ks g n w f s e = record { good = (g, omega arith, w, f); read = e }

pub closed_read : (u : Owner) (K : Kind) (m : Limits) (es : Exprs) (ks : List Symbol) → OwnerGood K m u → list_nesting es + owner_depth u ≤ m.depth →
    exprs_width es ≤ m.width → count es ≤ most_of m u → least_of u ≤ count es → 1 ≤ count es → exprs_misfits es ≡ 0 →
    owner_before u ++ list_symbols es ≡ ks → HasRead K m (closed u es) ks
closed_read (Subscripts scope word p) K m es ks g n w b l s f e =
    placed_read p K m (Var scope word es) ks g n (omega arith) f (omega (arith, least_at_few p))
    (ap (λ (zs : List Symbol). place_before p ++ zs) (sym (scoped-append scope (Name word ∷ []) (list_symbols es)))
    ∙ sym (append_assoc (place_before p) (scoped scope (Name word ∷ [])) (list_symbols es)) ∙ e)
closed_read (Arguments h c) K m es ks g n w b l s f e =
    filled_read c K m (Call h es) ks g n w (omega arith) (sym (append_assoc (before c) (Applied (callee.Texts h) ∷ []) (list_symbols es)) ∙ e)
