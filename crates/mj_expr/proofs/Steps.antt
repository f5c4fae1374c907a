-- Steps of the machine.
use Rattle.std.proofs.Common.{◌≡◌, ℕ, ◌+◌, ◌<◌, ◌≤◌, List, [], ◌∷◌, length, refl, ap, sym, ◌∙◌, arith, Bool, true, false, Result, Ok, Err, nat_lt, nat_le, Option, Some, None, subst}
use Rattle.std.proofs.lemmas.Bool.Decides.{nat_tests}
use Rattle.std.specs.Prelude.{cond, not, ◌&&◌, ℤ}
use Rattle.std.specs.Result.{IsErrAnd}
use Rattle.mj_ast.specs.declared.sign.Sign.TheVariants.{Apostrophe, Question, NegatedQuestion, Caret, Open, Close, Comma, Colon, Dot}
use Rattle.mj_ast.specs.declared.expr.Scope.{Scope}
use Rattle.mj_oper.specs.declared.op.Op.{Op}
use Rattle.mj_ast.specs.declared.function.NameFunction.{NameFunction}
use Rattle.mj_ast.specs.declared.function.Callee.{Callee}
use Rattle.mj_ast.specs.Syntax.{Expr, Chain, Tails, Done, Operand, Value, Unary, About, Select, Extrinsic, Variable, Var, Exprs, No, More, Choices, Last, Before, Actuals, NoActual, Given, Omitted, Target as EntryAt}
use Rattle.mj_ast.specs.Expressions.{Symbol, Constant, Inherent, Name, Applied, Entry, Overlong, Mark, Other, count, subscript_count, least_subscripts, most_others, levels, constant_of, function_symbol}
use Rattle.mj_expr.specs.Machine.{Outer, Alone, InList, InOther, InCondition, InChoice, InActuals, Owner, Subscripts, Arguments, Within, Front, Right, Under, Place, AsOperand, AsNamed, AsTarget, Pairs, NoPairs, Pair, and_pair, before_choices, State, Wanted, Named, Entering, Routed, Calling, Behind, Held, Got, filled, placed, closed, held, Limits, Next, Go, Stuck, Deep, Long, Outcome, Accept, StuckAt, DeepAt, Whole, Target, run, turn, refused_in, and_more, and_then, and_given, and_omitted, entry_at, hold_sign, depth_of, place_depth, inside, suffices, least_of, most_of, is_limited}
use Rattle.mj_expr.specs.Reads.{limits, symbols_seen, ReadsSymbols, Refuses, HasNoBinary, HasNoOpen, HasNoComma, HasNoColon, HasNoClose, HasNoCaret, StartsBinary, kind_of, least_in, most_in, limited_in}
use Rattle.mj_expr.specs.Readers.{IsWhole}
use Rattle.mj_expr.specs.Lists.{behind_from, behind_list}
use Rattle.mj_expr.specs.declared.token.ListKind.{ListKind}
use Rattle.mj_expr.specs.declared.stop.ParseError.{ParseError}
use Rattle.mj_expr.specs.declared.stop.ParseError.TheVariants as stop
use Rattle.mj_text.specs.declared.fault.Fault.{Fault}
use Rattle.mj_lex.specs.declared.token.Lexeme.{Lexeme}
use Rattle.mj_expr.proofs.Zipper.{joined, continued}

some_none : {A : Type 0} (x : A) → Some x ≡ None → ⊥
some_none x e = cc

-- a filled place holds an expression
pub filled_holds : (x : Operand) (c : Within) → (y : Operand) × (r : Tails) × (o : Outer) × (filled x c ≡ Held y r o)
filled_holds x (Front o) = (x, Done, o, refl)
filled_holds x (Right first rest op o) = (first, and_then rest op x, o, refl)
filled_holds x (Under op c) = filled_holds (Unary op x) c

named_as : (m : Limits) (scope : Scope) (word : List ℕ) (p : Place) (ks : List Symbol) (y : Operand) (r : Tails) (o : Outer) →
    placed (Var scope word No) p ≡ Held y r o → HasNoOpen ks → run m ks (Named scope word p) ≡ run m ks (placed (Var scope word No) p)
named_as m scope word p [] y r o e h = rw e refl
named_as m scope word p (Mark Open ∷ ks) y r o e h = absurd h
named_as m scope word p (k ∷ ks) y r o e h = rw e refl

named_alone : (m : Limits) (scope : Scope) (word : List ℕ) (ks : List Symbol) → HasNoOpen ks → run m ks (Named scope word AsTarget) ≡ run m ks (Got (Var scope word No))
named_alone m scope word [] h = refl
named_alone m scope word (Mark Open ∷ ks) h = absurd h
named_alone m scope word (k ∷ ks) h = refl

named_about : (m : Limits) (scope : Scope) (word : List ℕ) (f : NameFunction) (c : Within) (ks : List Symbol) → HasNoOpen ks →
    run m ks (Named scope word (AsNamed f c)) ≡ run m ks (Behind f (Var scope word No) c)
named_about m scope word f c [] h = refl
named_about m scope word f c (Mark Open ∷ ks) h = absurd h
named_about m scope word f c (k ∷ ks) h = refl

-- a name without subscripts is a variable
pub named_ends : (m : Limits) (scope : Scope) (word : List ℕ) (p : Place) (ks : List Symbol) → HasNoOpen ks → run m ks (Named scope word p) ≡ run m ks (placed (Var scope word No) p)
named_ends m scope word (AsOperand c) ks h = let e = filled_holds (Value (Var scope word No)) c in named_as m scope word (AsOperand c) ks e.0 e.1 e.2 e.3 h
named_ends m scope word (AsNamed f c) ks h = named_about m scope word f c ks h
named_ends m scope word AsTarget ks h = named_alone m scope word ks h

-- the last of a list, with those before it
pub record LastOf (w : Owner) (es : Exprs) : Type 0 where
  pub before : Exprs
  pub last : Expr
  pub all : and_more before last ≡ es
  pub stands : behind_list w es ≡ held last (InList w before)

pub joined_more : (es : Exprs) (e : Expr) (fs : Exprs) → joined (and_more es e) fs ≡ joined es (More e fs)
joined_more No e fs = refl
joined_more (More f es) e fs = ap (λ (x : Exprs). More f x) (joined_more es e fs)

pub joined_last : (es : Exprs) (e : Expr) → joined es (More e No) ≡ and_more es e
joined_last No e = refl
joined_last (More f es) e = ap (λ (x : Exprs). More f x) (joined_last es e)

pub record LastFrom (w : Owner) (front : Exprs) (e : Expr) (rest : Exprs) : Type 0 where
  pub before : Exprs
  pub last : Expr
  pub all : and_more before last ≡ joined front (More e rest)
  pub stands : behind_from w front e rest ≡ held last (InList w before)

last_from : (w : Owner) (front : Exprs) (e : Expr) (rest : Exprs) → LastFrom w front e rest
last_from w front e No = record { before = front; last = e; all = sym (joined_last front e); stands = refl }
last_from w front e (More f rest) =
    let h = last_from w (and_more front e) f rest in
    record { before = h.before; last = h.last; all = h.all ∙ joined_more front e (More f rest); stands = h.stands }

pub last_of : (w : Owner) (es : Exprs) → 0 < count es → LastOf w es
last_of w No h = absurd (omega arith)
last_of w (More e rest) h =
    let l = last_from w No e rest in
    record { before = l.before; last = l.last; all = l.all; stands = l.stands }

pub behind_pushed : (w : Owner) (es : Exprs) (e : Expr) → behind_list w (and_more es e) ≡ held e (InList w es)
behind_pushed w No e = refl
behind_pushed w (More f es) e = pushed_from w No f es e
  where
    pushed_from : (w : Owner) (front : Exprs) (f : Expr) (es : Exprs) (e : Expr) → behind_from w front f (and_more es e) ≡ held e (InList w (joined front (More f es)))
    pushed_from w front f No e = ap (λ (x : Exprs). held e (InList w x)) (sym (joined_last front f))
    pushed_from w front f (More g es) e = pushed_from w (and_more front f) g es e ∙ ap (λ (x : Exprs). held e (InList w x)) (joined_more front f (More g es))

pub count_more : (es : Exprs) (e : Expr) → count (and_more es e) ≡ count es + 1
count_more No e = refl
count_more (More f es) e = let h = count_more es e in omega arith

pub less_true : (m n : ℕ) → m < n → nat_lt m n ≡ true
less_true m n h = grind arith

pub less_false : (m n : ℕ) → n ≤ m → nat_lt m n ≡ false
less_false m n h = grind arith

held_comma : (m : Limits) (ks : List Symbol) (w : Owner) (before : Exprs) (last : Expr) → nat_lt (count before + 1) (most_of m w) ≡ true →
    run m (Mark Comma ∷ ks) (held last (InList w before)) ≡ run m ks (Wanted (Front (InList w (and_more before last))))
held_comma m ks w before (Chain x r) e = ap (λ (v : Bool). turn m ks (Held x r (InList w before)) (Mark Comma)
    (cond v (Go (Wanted (Front (InList w (and_more before (Chain x r)))))) (cond (is_limited w) Long Stuck))) e

over_as : (m : Limits) (ks : List Symbol) (w : Owner) (before : Exprs) (x : Operand) (r : Tails) (b : Bool) →
    turn m ks (Held x r (InList w before)) (Mark Comma) (cond b Long Stuck) ≡ refused_in b (Mark Comma ∷ ks)
over_as m ks w before x r true = refl
over_as m ks w before x r false = refl

held_over : (m : Limits) (ks : List Symbol) (w : Owner) (before : Exprs) (last : Expr) → nat_lt (count before + 1) (most_of m w) ≡ false →
    run m (Mark Comma ∷ ks) (held last (InList w before)) ≡ refused_in (is_limited w) (Mark Comma ∷ ks)
held_over m ks w before (Chain x r) e =
    ap (λ (v : Bool). turn m ks (Held x r (InList w before)) (Mark Comma) (cond v (Go (Wanted (Front (InList w (and_more before (Chain x r)))))) (cond (is_limited w) Long Stuck))) e
    ∙ over_as m ks w before x r (is_limited w)

-- another expression, where there is room
pub comma_goes : (m : Limits) (ks : List Symbol) (w : Owner) (es : Exprs) → 0 < count es → count es < most_of m w →
    run m (Mark Comma ∷ ks) (behind_list w es) ≡ run m ks (Wanted (Front (InList w es)))
comma_goes m ks w es h i =
    let l = last_of w es h in
    let n : count l.before + 1 < most_of m w = omega (arith, count_more l.before l.last, ap count l.all) in
    ap (λ (s : State). run m (Mark Comma ∷ ks) s) l.stands
    ∙ held_comma m ks w l.before l.last (less_true (count l.before + 1) (most_of m w) n)
    ∙ ap (λ (x : Exprs). run m ks (Wanted (Front (InList w x)))) l.all

-- a comma too many
pub comma_over : (m : Limits) (ks : List Symbol) (w : Owner) (es : Exprs) → 0 < count es → most_of m w ≤ count es →
    run m (Mark Comma ∷ ks) (behind_list w es) ≡ refused_in (is_limited w) (Mark Comma ∷ ks)
comma_over m ks w es h i =
    let l = last_of w es h in
    let n : most_of m w ≤ count l.before + 1 = omega (arith, count_more l.before l.last, ap count l.all) in
    ap (λ (s : State). run m (Mark Comma ∷ ks) s) l.stands
    ∙ held_over m ks w l.before l.last (less_false (count l.before + 1) (most_of m w) n)

pub most_true : (m n : ℕ) → m ≤ n → nat_le m n ≡ true
most_true m n h = grind arith

pub most_false : (m n : ℕ) → n < m → nat_le m n ≡ false
most_false m n h = grind arith

held_close : (m : Limits) (ks : List Symbol) (w : Owner) (before : Exprs) (last : Expr) → nat_le (least_of w) (count before + 1) ≡ true →
    run m (Mark Close ∷ ks) (held last (InList w before)) ≡ run m ks (closed w (and_more before last))
held_close m ks w before (Chain x r) e = ap (λ (v : Bool). turn m ks (Held x r (InList w before)) (Mark Close) (cond v (Go (closed w (and_more before (Chain x r)))) Stuck)) e

-- the end of a list
pub close_goes : (m : Limits) (ks : List Symbol) (w : Owner) (es : Exprs) → 0 < count es → least_of w ≤ count es →
    run m (Mark Close ∷ ks) (behind_list w es) ≡ run m ks (closed w es)
close_goes m ks w es h i =
    let l = last_of w es h in
    let n : least_of w ≤ count l.before + 1 = omega (arith, count_more l.before l.last, ap count l.all) in
    ap (λ (s : State). run m (Mark Close ∷ ks) s) l.stands
    ∙ held_close m ks w l.before l.last (most_true (least_of w) (count l.before + 1) n)
    ∙ ap (λ (x : Exprs). run m ks (closed w x)) l.all

-- what no expression of a list goes on with
held_refuses : (m : Limits) (ks : List Symbol) (w : Owner) (before : Exprs) (last : Expr) → HasNoBinary ks → HasNoComma ks → HasNoClose ks →
    run m ks (held last (InList w before)) ≡ refused_in false ks
held_refuses m [] w before (Chain x r) b c d = refl
held_refuses m (Constant v ∷ ks) w before (Chain x r) b c d = refl
held_refuses m (Inherent v ∷ ks) w before (Chain x r) b c d = refl
held_refuses m (Name v ∷ ks) w before (Chain x r) b c d = refl
held_refuses m (Applied v ∷ ks) w before (Chain x r) b c d = refl
held_refuses m (Entry v ∷ ks) w before (Chain x r) b c d = refl
held_refuses m (Overlong ∷ ks) w before (Chain x r) b c d = refl
held_refuses m (Other ∷ ks) w before (Chain x r) b c d = refl
held_refuses m (Mark Close ∷ ks) w before (Chain x r) b c d = absurd d
held_refuses m (Mark Comma ∷ ks) w before (Chain x r) b c d = absurd c
held_refuses m (Mark Caret ∷ ks) w before (Chain x r) b c d = refl
held_refuses m (Mark Open ∷ ks) w before (Chain x r) b c d = refl
held_refuses m (Mark Colon ∷ ks) w before (Chain x r) b c d = refl
held_refuses m (Mark Dot ∷ ks) w before (Chain x r) b c d = refl
held_refuses m (Mark Apostrophe ∷ ks) w before (Chain x r) b c d = refl
held_refuses m (Mark Question ∷ ks) w before (Chain x r) b c d = refl
held_refuses m (Mark NegatedQuestion ∷ ks) w before (Chain x r) b c d = refl
held_refuses m (Mark s ∷ ks) w before (Chain x r) b c d = absurd (some_none _ b)

held_few : (m : Limits) (ks : List Symbol) (w : Owner) (before : Exprs) (last : Expr) → nat_le (least_of w) (count before + 1) ≡ false → HasNoBinary ks → HasNoComma ks →
    run m ks (held last (InList w before)) ≡ refused_in false ks
held_few m [] w before (Chain x r) e b c = refl
held_few m (Constant v ∷ ks) w before (Chain x r) e b c = refl
held_few m (Inherent v ∷ ks) w before (Chain x r) e b c = refl
held_few m (Name v ∷ ks) w before (Chain x r) e b c = refl
held_few m (Applied v ∷ ks) w before (Chain x r) e b c = refl
held_few m (Entry v ∷ ks) w before (Chain x r) e b c = refl
held_few m (Overlong ∷ ks) w before (Chain x r) e b c = refl
held_few m (Other ∷ ks) w before (Chain x r) e b c = refl
held_few m (Mark Close ∷ ks) w before (Chain x r) e b c = ap (λ (v : Bool). turn m ks (Held x r (InList w before)) (Mark Close) (cond v (Go (closed w (and_more before (Chain x r)))) Stuck)) e
held_few m (Mark Comma ∷ ks) w before (Chain x r) e b c = absurd c
held_few m (Mark Caret ∷ ks) w before (Chain x r) e b c = refl
held_few m (Mark Open ∷ ks) w before (Chain x r) e b c = refl
held_few m (Mark Colon ∷ ks) w before (Chain x r) e b c = refl
held_few m (Mark Dot ∷ ks) w before (Chain x r) e b c = refl
held_few m (Mark Apostrophe ∷ ks) w before (Chain x r) e b c = refl
held_few m (Mark Question ∷ ks) w before (Chain x r) e b c = refl
held_few m (Mark NegatedQuestion ∷ ks) w before (Chain x r) e b c = refl
held_few m (Mark s ∷ ks) w before (Chain x r) e b c = absurd (some_none _ b)

-- what a list doesn't go on with
pub list_refuses : (m : Limits) (ks : List Symbol) (w : Owner) (es : Exprs) → 0 < count es → HasNoBinary ks → HasNoComma ks → HasNoClose ks →
    run m ks (behind_list w es) ≡ refused_in false ks
list_refuses m ks w es h b c d =
    let l = last_of w es h in
    ap (λ (s : State). run m ks s) l.stands ∙ held_refuses m ks w l.before l.last b c d

-- a list that is too short doesn't end either
pub few_refuses : (m : Limits) (ks : List Symbol) (w : Owner) (es : Exprs) → 0 < count es → count es < least_of w → HasNoBinary ks → HasNoComma ks →
    run m ks (behind_list w es) ≡ refused_in false ks
few_refuses m ks w es h i b c =
    let l = last_of w es h in
    let n : count l.before + 1 < least_of w = omega (arith, count_more l.before l.last, ap count l.all) in
    ap (λ (s : State). run m ks s) l.stands ∙ held_few m ks w l.before l.last (most_false (least_of w) (count l.before + 1) n) b c

-- a list by its kind
pub kind_least : (w : Owner) → least_in (kind_of w) ≡ least_of w
kind_least (Subscripts scope word p) = refl
kind_least (Arguments f c) = refl

pub kind_most : (d : ℕ) (w : Owner) → most_in (kind_of w) ≡ most_of (limits d) w
kind_most d (Subscripts scope word p) = refl
kind_most d (Arguments f c) = refl

pub kind_limited : (w : Owner) → limited_in (kind_of w) ≡ is_limited w
kind_limited (Subscripts scope word p) = refl
kind_limited (Arguments f c) = refl

-- ---- choices

pub before_pair : (ps : Pairs) (a b : Expr) (x : Choices) → before_choices (and_pair ps a b) x ≡ before_choices ps (Before a b x)
before_pair NoPairs a b x = refl
before_pair (Pair c e ps) a b x = ap (λ (y : Choices). Before c e y) (before_pair ps a b x)

pub colon_goes : (m : Limits) (ks : List Symbol) (ps : Pairs) (e : Expr) (c : Within) → run m (Mark Colon ∷ ks) (held e (InCondition ps c)) ≡ run m ks (Wanted (Front (InChoice ps e c)))
colon_goes m ks ps (Chain x r) c = refl

pub choice_goes : (m : Limits) (ks : List Symbol) (ps : Pairs) (a e : Expr) (c : Within) →
    run m (Mark Comma ∷ ks) (held e (InChoice ps a c)) ≡ run m ks (Wanted (Front (InCondition (and_pair ps a e) c)))
choice_goes m ks ps a (Chain x r) c = refl

pub choice_closes : (m : Limits) (ks : List Symbol) (ps : Pairs) (a e : Expr) (c : Within) →
    run m (Mark Close ∷ ks) (held e (InChoice ps a c)) ≡ run m ks (filled (Select (before_choices ps (Last a e))) c)
choice_closes m ks ps a (Chain x r) c = refl

pub condition_refuses : (m : Limits) (ks : List Symbol) (ps : Pairs) (e : Expr) (c : Within) → HasNoBinary ks → HasNoColon ks → run m ks (held e (InCondition ps c)) ≡ refused_in false ks
condition_refuses m [] ps (Chain x r) c b d = refl
condition_refuses m (Constant v ∷ ks) ps (Chain x r) c b d = refl
condition_refuses m (Inherent v ∷ ks) ps (Chain x r) c b d = refl
condition_refuses m (Name v ∷ ks) ps (Chain x r) c b d = refl
condition_refuses m (Applied v ∷ ks) ps (Chain x r) c b d = refl
condition_refuses m (Entry v ∷ ks) ps (Chain x r) c b d = refl
condition_refuses m (Overlong ∷ ks) ps (Chain x r) c b d = refl
condition_refuses m (Other ∷ ks) ps (Chain x r) c b d = refl
condition_refuses m (Mark Close ∷ ks) ps (Chain x r) c b d = refl
condition_refuses m (Mark Comma ∷ ks) ps (Chain x r) c b d = refl
condition_refuses m (Mark Caret ∷ ks) ps (Chain x r) c b d = refl
condition_refuses m (Mark Open ∷ ks) ps (Chain x r) c b d = refl
condition_refuses m (Mark Colon ∷ ks) ps (Chain x r) c b d = absurd d
condition_refuses m (Mark Dot ∷ ks) ps (Chain x r) c b d = refl
condition_refuses m (Mark Apostrophe ∷ ks) ps (Chain x r) c b d = refl
condition_refuses m (Mark Question ∷ ks) ps (Chain x r) c b d = refl
condition_refuses m (Mark NegatedQuestion ∷ ks) ps (Chain x r) c b d = refl
condition_refuses m (Mark s ∷ ks) ps (Chain x r) c b d = absurd (some_none _ b)

pub choice_refuses : (m : Limits) (ks : List Symbol) (ps : Pairs) (a e : Expr) (c : Within) → HasNoBinary ks → HasNoComma ks → HasNoClose ks → run m ks (held e (InChoice ps a c)) ≡ refused_in false ks
choice_refuses m [] ps a (Chain x r) c b d f = refl
choice_refuses m (Constant v ∷ ks) ps a (Chain x r) c b d f = refl
choice_refuses m (Inherent v ∷ ks) ps a (Chain x r) c b d f = refl
choice_refuses m (Name v ∷ ks) ps a (Chain x r) c b d f = refl
choice_refuses m (Applied v ∷ ks) ps a (Chain x r) c b d f = refl
choice_refuses m (Entry v ∷ ks) ps a (Chain x r) c b d f = refl
choice_refuses m (Overlong ∷ ks) ps a (Chain x r) c b d f = refl
choice_refuses m (Other ∷ ks) ps a (Chain x r) c b d f = refl
choice_refuses m (Mark Close ∷ ks) ps a (Chain x r) c b d f = absurd f
choice_refuses m (Mark Comma ∷ ks) ps a (Chain x r) c b d f = absurd d
choice_refuses m (Mark Caret ∷ ks) ps a (Chain x r) c b d f = refl
choice_refuses m (Mark Open ∷ ks) ps a (Chain x r) c b d f = refl
choice_refuses m (Mark Colon ∷ ks) ps a (Chain x r) c b d f = refl
choice_refuses m (Mark Dot ∷ ks) ps a (Chain x r) c b d f = refl
choice_refuses m (Mark Apostrophe ∷ ks) ps a (Chain x r) c b d f = refl
choice_refuses m (Mark Question ∷ ks) ps a (Chain x r) c b d f = refl
choice_refuses m (Mark NegatedQuestion ∷ ks) ps a (Chain x r) c b d f = refl
choice_refuses m (Mark s ∷ ks) ps a (Chain x r) c b d f = absurd (some_none _ b)

-- a condition and its value
pub value_read : (m : Limits) (ks k1 k2 k3 : List Symbol) (ps : Pairs) (a e : Expr) (c : Within) →
    run m ks (Wanted (Front (InCondition ps c))) ≡ run m k1 (held a (InCondition ps c)) → k1 ≡ Mark Colon ∷ k2 →
    run m k2 (Wanted (Front (InChoice ps a c))) ≡ run m k3 (held e (InChoice ps a c)) → run m ks (Wanted (Front (InCondition ps c))) ≡ run m k3 (held e (InChoice ps a c))
value_read m ks k1 k2 k3 ps a e c h i j = h ∙ ap (λ (zs : List Symbol). run m zs (held a (InCondition ps c))) i ∙ colon_goes m k2 ps a c ∙ j

-- behind a function
pub call_opens : (m : Limits) (ks : List Symbol) (f : Callee) (c : Within) → run m (Mark Open ∷ ks) (Calling f c) ≡ run m ks (inside f c)
call_opens m ks f c = refl

pub call_goes : (m : Limits) (ks : List Symbol) (f : Callee) (c : Within) → depth_of c + levels f ≤ m.depth → run m (Applied f ∷ ks) (Wanted c) ≡ run m ks (Calling f c)
call_goes m ks f c h = ap (λ (b : Bool). turn m ks (Wanted c) (Applied f) (cond b (Go (Calling f c)) Deep)) (most_true (depth_of c + levels f) m.depth h)

pub call_deep : (m : Limits) (ks : List Symbol) (f : Callee) (c : Within) → m.depth < depth_of c + levels f → run m (Applied f ∷ ks) (Wanted c) ≡ DeepAt (length (Applied f ∷ ks))
call_deep m ks f c h = ap (λ (b : Bool). turn m ks (Wanted c) (Applied f) (cond b (Go (Calling f c)) Deep)) (most_false (depth_of c + levels f) m.depth h)

pub call_refuses : (m : Limits) (ks : List Symbol) (f : Callee) (c : Within) → HasNoOpen ks → run m ks (Calling f c) ≡ refused_in false ks
call_refuses m [] f c h = refl
call_refuses m (Mark Open ∷ ks) f c h = absurd h
call_refuses m (Mark Comma ∷ ks) f c h = refl
call_refuses m (k ∷ ks) f c h = refl

-- ---- behind the variable of a function

abbrev another : NameFunction → Variable → Within → Bool → Bool → Next
another f v c b d = cond b (cond d (Go (Wanted (Front (InOther f v c)))) Stuck) Stuck

pub about_closes : (m : Limits) (ks : List Symbol) (f : NameFunction) (v : Variable) (c : Within) → least_subscripts f ≤ subscript_count v →
    run m (Mark Close ∷ ks) (Behind f v c) ≡ run m ks (filled (About f v No) c)
about_closes m ks f v c h = ap (λ (b : Bool). turn m ks (Behind f v c) (Mark Close) (cond b (Go (filled (About f v No) c)) Stuck)) (most_true (least_subscripts f) (subscript_count v) h)

pub about_goes : (m : Limits) (ks : List Symbol) (f : NameFunction) (v : Variable) (c : Within) → least_subscripts f ≤ subscript_count v → 0 < most_others f →
    run m (Mark Comma ∷ ks) (Behind f v c) ≡ run m ks (Wanted (Front (InOther f v c)))
about_goes m ks f v c h i =
    ap (λ (b : Bool). turn m ks (Behind f v c) (Mark Comma) (another f v c b (nat_lt 0 (most_others f)))) (most_true (least_subscripts f) (subscript_count v) h)
    ∙ ap (λ (d : Bool). turn m ks (Behind f v c) (Mark Comma) (another f v c true d)) (less_true 0 (most_others f) i)

-- a variable with too few subscripts
pub about_bare : (m : Limits) (ks : List Symbol) (f : NameFunction) (v : Variable) (c : Within) → subscript_count v < least_subscripts f → run m ks (Behind f v c) ≡ refused_in false ks
about_bare m [] f v c h = refl
about_bare m (Constant u ∷ ks) f v c h = refl
about_bare m (Inherent u ∷ ks) f v c h = refl
about_bare m (Name u ∷ ks) f v c h = refl
about_bare m (Applied u ∷ ks) f v c h = refl
about_bare m (Entry u ∷ ks) f v c h = refl
about_bare m (Overlong ∷ ks) f v c h = refl
about_bare m (Other ∷ ks) f v c h = refl
about_bare m (Mark Close ∷ ks) f v c h = ap (λ (b : Bool). turn m ks (Behind f v c) (Mark Close) (cond b (Go (filled (About f v No) c)) Stuck)) (most_false (least_subscripts f) (subscript_count v) h)
about_bare m (Mark Comma ∷ ks) f v c h = ap (λ (b : Bool). turn m ks (Behind f v c) (Mark Comma) (another f v c b (nat_lt 0 (most_others f)))) (most_false (least_subscripts f) (subscript_count v) h)
about_bare m (Mark s ∷ ks) f v c h = refl

-- what ends no function, where no comma goes on
pub about_refuses : (m : Limits) (ks : List Symbol) (f : NameFunction) (v : Variable) (c : Within) → HasNoClose ks → HasNoComma ks → run m ks (Behind f v c) ≡ refused_in false ks
about_refuses m [] f v c h i = refl
about_refuses m (Constant u ∷ ks) f v c h i = refl
about_refuses m (Inherent u ∷ ks) f v c h i = refl
about_refuses m (Name u ∷ ks) f v c h i = refl
about_refuses m (Applied u ∷ ks) f v c h i = refl
about_refuses m (Entry u ∷ ks) f v c h i = refl
about_refuses m (Overlong ∷ ks) f v c h i = refl
about_refuses m (Other ∷ ks) f v c h i = refl
about_refuses m (Mark Close ∷ ks) f v c h i = absurd h
about_refuses m (Mark Comma ∷ ks) f v c h i = absurd i
about_refuses m (Mark s ∷ ks) f v c h i = refl

-- nor where nothing may follow its variable
pub about_full : (m : Limits) (ks : List Symbol) (f : NameFunction) (v : Variable) (c : Within) → HasNoClose ks → most_others f ≡ 0 → run m ks (Behind f v c) ≡ refused_in false ks
about_full m [] f v c h i = refl
about_full m (Constant u ∷ ks) f v c h i = refl
about_full m (Inherent u ∷ ks) f v c h i = refl
about_full m (Name u ∷ ks) f v c h i = refl
about_full m (Applied u ∷ ks) f v c h i = refl
about_full m (Entry u ∷ ks) f v c h i = refl
about_full m (Overlong ∷ ks) f v c h i = refl
about_full m (Other ∷ ks) f v c h i = refl
about_full m (Mark Close ∷ ks) f v c h i = absurd h
about_full m (Mark Comma ∷ ks) f v c h i =
    ap (λ (d : Bool). turn m ks (Behind f v c) (Mark Comma) (another f v c (suffices f v) d)) (less_false 0 (most_others f) (omega (arith, i)))
    ∙ full_by (suffices f v)
  where
    full_by : (b : Bool) → turn m ks (Behind f v c) (Mark Comma) (another f v c b false) ≡ refused_in false (Mark Comma ∷ ks)
    full_by true = refl
    full_by false = refl
about_full m (Mark s ∷ ks) f v c h i = refl

pub other_closes : (m : Limits) (ks : List Symbol) (f : NameFunction) (v : Variable) (e : Expr) (c : Within) →
    run m (Mark Close ∷ ks) (held e (InOther f v c)) ≡ run m ks (filled (About f v (More e No)) c)
other_closes m ks f v (Chain x r) c = refl

pub other_refuses : (m : Limits) (ks : List Symbol) (f : NameFunction) (v : Variable) (e : Expr) (c : Within) → HasNoBinary ks → HasNoClose ks → run m ks (held e (InOther f v c)) ≡ refused_in false ks
other_refuses m [] f v (Chain x r) c b d = refl
other_refuses m (Constant u ∷ ks) f v (Chain x r) c b d = refl
other_refuses m (Inherent u ∷ ks) f v (Chain x r) c b d = refl
other_refuses m (Name u ∷ ks) f v (Chain x r) c b d = refl
other_refuses m (Applied u ∷ ks) f v (Chain x r) c b d = refl
other_refuses m (Entry u ∷ ks) f v (Chain x r) c b d = refl
other_refuses m (Overlong ∷ ks) f v (Chain x r) c b d = refl
other_refuses m (Other ∷ ks) f v (Chain x r) c b d = refl
other_refuses m (Mark Close ∷ ks) f v (Chain x r) c b d = absurd d
other_refuses m (Mark Comma ∷ ks) f v (Chain x r) c b d = refl
other_refuses m (Mark Caret ∷ ks) f v (Chain x r) c b d = refl
other_refuses m (Mark Open ∷ ks) f v (Chain x r) c b d = refl
other_refuses m (Mark Colon ∷ ks) f v (Chain x r) c b d = refl
other_refuses m (Mark Dot ∷ ks) f v (Chain x r) c b d = refl
other_refuses m (Mark Apostrophe ∷ ks) f v (Chain x r) c b d = refl
other_refuses m (Mark Question ∷ ks) f v (Chain x r) c b d = refl
other_refuses m (Mark NegatedQuestion ∷ ks) f v (Chain x r) c b d = refl
other_refuses m (Mark s ∷ ks) f v (Chain x r) c b d = absurd (some_none _ b)

-- ---- functions that are written in M

pub given_more : (es : Actuals) (e : Expr) (fs : Actuals) → continued (and_given es e) fs ≡ continued es (Given e fs)
given_more NoActual e fs = refl
given_more (Given f es) e fs = ap (Given f) (given_more es e fs)
given_more (Omitted es) e fs = ap Omitted (given_more es e fs)

pub given_last : (es : Actuals) (e : Expr) → continued es (Given e NoActual) ≡ and_given es e
given_last NoActual e = refl
given_last (Given f es) e = ap (Given f) (given_last es e)
given_last (Omitted es) e = ap Omitted (given_last es e)

pub omitted_more : (es fs : Actuals) → continued (and_omitted es) fs ≡ continued es (Omitted fs)
omitted_more NoActual fs = refl
omitted_more (Given f es) fs = ap (Given f) (omitted_more es fs)
omitted_more (Omitted es) fs = ap Omitted (omitted_more es fs)

pub omitted_last : (es : Actuals) → continued es (Omitted NoActual) ≡ and_omitted es
omitted_last NoActual = refl
omitted_last (Given f es) = ap (Given f) (omitted_last es)
omitted_last (Omitted es) = ap Omitted (omitted_last es)

pub given_goes : (m : Limits) (ks : List Symbol) (t : EntryAt) (es : Actuals) (e : Expr) (c : Within) →
    run m (Mark Comma ∷ ks) (held e (InActuals t es c)) ≡ run m ks (Wanted (Front (InActuals t (and_given es e) c)))
given_goes m ks t es (Chain x r) c = refl

pub given_closes : (m : Limits) (ks : List Symbol) (t : EntryAt) (es : Actuals) (e : Expr) (c : Within) →
    run m (Mark Close ∷ ks) (held e (InActuals t es c)) ≡ run m ks (filled (Extrinsic t (and_given es e)) c)
given_closes m ks t es (Chain x r) c = refl

pub given_refuses : (m : Limits) (ks : List Symbol) (t : EntryAt) (es : Actuals) (e : Expr) (c : Within) → HasNoBinary ks → HasNoComma ks → HasNoClose ks →
    run m ks (held e (InActuals t es c)) ≡ refused_in false ks
given_refuses m [] t es (Chain x r) c b d f = refl
given_refuses m (Constant v ∷ ks) t es (Chain x r) c b d f = refl
given_refuses m (Inherent v ∷ ks) t es (Chain x r) c b d f = refl
given_refuses m (Name v ∷ ks) t es (Chain x r) c b d f = refl
given_refuses m (Applied v ∷ ks) t es (Chain x r) c b d f = refl
given_refuses m (Entry v ∷ ks) t es (Chain x r) c b d f = refl
given_refuses m (Overlong ∷ ks) t es (Chain x r) c b d f = refl
given_refuses m (Other ∷ ks) t es (Chain x r) c b d f = refl
given_refuses m (Mark Close ∷ ks) t es (Chain x r) c b d f = absurd f
given_refuses m (Mark Comma ∷ ks) t es (Chain x r) c b d f = absurd d
given_refuses m (Mark Caret ∷ ks) t es (Chain x r) c b d f = refl
given_refuses m (Mark Open ∷ ks) t es (Chain x r) c b d f = refl
given_refuses m (Mark Colon ∷ ks) t es (Chain x r) c b d f = refl
given_refuses m (Mark Dot ∷ ks) t es (Chain x r) c b d f = refl
given_refuses m (Mark Apostrophe ∷ ks) t es (Chain x r) c b d f = refl
given_refuses m (Mark Question ∷ ks) t es (Chain x r) c b d f = refl
given_refuses m (Mark NegatedQuestion ∷ ks) t es (Chain x r) c b d f = refl
given_refuses m (Mark s ∷ ks) t es (Chain x r) c b d f = absurd (some_none _ b)

pub omitted_goes : (m : Limits) (ks : List Symbol) (t : EntryAt) (es : Actuals) (c : Within) →
    run m (Mark Comma ∷ ks) (Wanted (Front (InActuals t es c))) ≡ run m ks (Wanted (Front (InActuals t (and_omitted es) c)))
omitted_goes m ks t es c = refl

pub omitted_closes : (m : Limits) (ks : List Symbol) (t : EntryAt) (es : Actuals) (c : Within) →
    run m (Mark Close ∷ ks) (Wanted (Front (InActuals t es c))) ≡ run m ks (filled (Extrinsic t (and_omitted es)) c)
omitted_closes m ks t es c = refl

-- a function without actuals
entry_as : (m : Limits) (label routine : Option (List ℕ)) (c : Within) (ks : List Symbol) (y : Operand) (r : Tails) (o : Outer) →
    filled (Extrinsic (entry_at label routine) NoActual) c ≡ Held y r o → HasNoOpen ks → IsWhole label routine ks →
    run m ks (Entering label routine c) ≡ run m ks (filled (Extrinsic (entry_at label routine) NoActual) c)
entry_as m None None c ks y r o e h w = absurd w
entry_as m (Some l) None c [] y r o e h w = rw e refl
entry_as m (Some l) None c (Mark Open ∷ ks) y r o e h w = absurd h
entry_as m (Some l) None c (Mark Caret ∷ ks) y r o e h w = absurd w
entry_as m (Some l) None c (k ∷ ks) y r o e h w = rw e refl
entry_as m None (Some n) c [] y r o e h w = rw e refl
entry_as m None (Some n) c (Mark Open ∷ ks) y r o e h w = absurd h
entry_as m None (Some n) c (k ∷ ks) y r o e h w = rw e refl
entry_as m (Some l) (Some n) c [] y r o e h w = rw e refl
entry_as m (Some l) (Some n) c (Mark Open ∷ ks) y r o e h w = absurd h
entry_as m (Some l) (Some n) c (k ∷ ks) y r o e h w = rw e refl

pub entry_ends : (m : Limits) (label routine : Option (List ℕ)) (c : Within) (ks : List Symbol) → HasNoOpen ks → IsWhole label routine ks →
    run m ks (Entering label routine c) ≡ run m ks (filled (Extrinsic (entry_at label routine) NoActual) c)
entry_ends m label routine c ks h w = let e = filled_holds (Extrinsic (entry_at label routine) NoActual) c in entry_as m label routine c ks e.0 e.1 e.2 e.3 h w

-- actuals open
abbrev actuals_at : Option (List ℕ) → Option (List ℕ) → Within → Bool → Next
actuals_at label routine c b = cond b (Go (Wanted (Front (InActuals (entry_at label routine) NoActual c)))) Deep

opened_by : (m : Limits) (label routine : Option (List ℕ)) (c : Within) (ks : List Symbol) → IsWhole label routine (Mark Open ∷ ks) →
    run m (Mark Open ∷ ks) (Entering label routine c) ≡ turn m ks (Entering label routine c) (Mark Open) (actuals_at label routine c (nat_lt (depth_of c) m.depth))
opened_by m None None c ks w = absurd w
opened_by m (Some l) None c ks w = refl
opened_by m None (Some n) c ks w = refl
opened_by m (Some l) (Some n) c ks w = refl

pub actuals_open : (m : Limits) (ks : List Symbol) (label routine : Option (List ℕ)) (c : Within) → depth_of c < m.depth → IsWhole label routine (Mark Open ∷ ks) →
    run m (Mark Open ∷ ks) (Entering label routine c) ≡ run m ks (Wanted (Front (InActuals (entry_at label routine) NoActual c)))
actuals_open m ks label routine c h w =
    opened_by m label routine c ks w
    ∙ ap (λ (b : Bool). turn m ks (Entering label routine c) (Mark Open) (actuals_at label routine c b)) (less_true (depth_of c) m.depth h)

pub actuals_deep : (m : Limits) (ks : List Symbol) (label routine : Option (List ℕ)) (c : Within) → m.depth ≤ depth_of c → IsWhole label routine (Mark Open ∷ ks) →
    run m (Mark Open ∷ ks) (Entering label routine c) ≡ DeepAt (length (Mark Open ∷ ks))
actuals_deep m ks label routine c h w =
    opened_by m label routine c ks w
    ∙ ap (λ (b : Bool). turn m ks (Entering label routine c) (Mark Open) (actuals_at label routine c b)) (less_false (depth_of c) m.depth h)

-- the routine of an entry
pub caret_goes : (m : Limits) (ks : List Symbol) (label : Option (List ℕ)) (word : List ℕ) (c : Within) →
    run m (Mark Caret ∷ Name word ∷ ks) (Entering label None c) ≡ run m ks (Entering label (Some word) c)
caret_goes m ks None word c = refl
caret_goes m ks (Some l) word c = refl

-- ---- refusals by tokens

-- within its limit a word refuses as any other symbol, past it it is too long
pub word_refuses : (b : Bool) (k : Symbol) (ks : List Symbol) (full : Bool) (left : ℕ) → length ks + 1 ≡ left →
    refused_in full (k ∷ ks) ≡ StuckAt (length (k ∷ ks)) → Refuses (cond b (stop.Stuck left) stop.Long) (refused_in full (cond b k Overlong ∷ ks))
word_refuses true k ks full left e h = let n : length (k ∷ ks) ≡ left = omega arith in h ∙ ap StuckAt n
word_refuses false k ks full left e h = refl

pub function_plain : (f : Option Callee) (ks : List Symbol) (full : Bool) → refused_in full (function_symbol f ∷ ks) ≡ StuckAt (length (function_symbol f ∷ ks))
function_plain None ks full = refl
function_plain (Some f) ks full = refl

pub constant_plain : (r : Result ℤ Fault) (ks : List Symbol) (full : Bool) → refused_in full (constant_of r ∷ ks) ≡ StuckAt (length (constant_of r ∷ ks))
constant_plain (Ok z) ks full = refl
constant_plain (Err f) ks full = refl

pub quoted_plain : (b : Bool) (v : List ℕ) (ks : List Symbol) (full : Bool) → refused_in full (cond b (Constant v) Other ∷ ks) ≡ StuckAt (length (cond b (Constant v) Other ∷ ks))
quoted_plain true v ks full = refl
quoted_plain false v ks full = refl

pub refuses_from : (x : ParseError) (o q : Outcome) → o ≡ q → Refuses x q → Refuses x o
refuses_from x o q e h = let P : Outcome → Type 0 = λ v. Refuses x v in subst P (sym e) h

-- a refusal that is passed on
pub reads_err : {X T : Type 0} (tree : X → T) (rest : X → List Lexeme) (r : Result X ParseError) (x : ParseError) (d : ℕ) (ls : List Lexeme) (s : State) (holding : T → State) →
    IsErrAnd r (λ e. e ≡ x) → Refuses x (run (limits d) (symbols_seen ls) s) → ReadsSymbols tree rest r d ls s holding
reads_err tree rest (Ok y) x d ls s holding e h = absurd e
reads_err tree rest (Err y) x d ls s holding e h = let P : ParseError → Type 0 = λ v. Refuses v (run (limits d) (symbols_seen ls) s) in subst P (sym e) h

-- what is read on from one state to another
pub reads_from : {X T : Type 0} (tree : X → T) (rest : X → List Lexeme) (r : Result X ParseError) (d : ℕ) (ls ms : List Lexeme) (s u : State) (holding : T → State) →
    run (limits d) (symbols_seen ls) s ≡ run (limits d) (symbols_seen ms) u → ReadsSymbols tree rest r d ms u holding → ReadsSymbols tree rest r d ls s holding
reads_from tree rest (Ok x) d ls ms s u holding e h = e ∙ h
reads_from tree rest (Err x) d ls ms s u holding e h = refuses_from x _ _ e h

-- a binary operator goes on
pub binary_goes : (m : Limits) (ks rest : List Symbol) (op : Op) (x : Operand) (r : Tails) (o : Outer) → StartsBinary op ks rest →
    run m ks (Held x r o) ≡ run m rest (Wanted (Right x r op o))
binary_goes m ks rest op x r o h =
    ap (λ (k : List Symbol). run m k (Held x r o)) h.starts
    ∙ ap (λ (q : Option Op). turn m rest (Held x r o) (Mark h.sign) (hold_sign m x r o h.sign q)) h.means

-- a list of subscripts opens
pub open_goes : (m : Limits) (ks : List Symbol) (scope : Scope) (word : List ℕ) (p : Place) → place_depth p < m.depth →
    run m (Mark Open ∷ ks) (Named scope word p) ≡ run m ks (Wanted (Front (InList (Subscripts scope word p) No)))
open_goes m ks scope word p h = ap (λ (b : Bool). turn m ks (Named scope word p) (Mark Open)
    (cond b (Go (Wanted (Front (InList (Subscripts scope word p) No)))) Deep)) (less_true (place_depth p) m.depth h)

-- a list with one more is full
pub full_is : (n k most : ℕ) (limited : Bool) → n ≡ k → (limited && not (nat_lt (n + 1) most)) ≡ (limited && nat_le most (k + 1))
full_is n k most true e = grind (arith, nat_tests)
full_is n k most false e = refl

pub kind_full : (w : Owner) (kind : ListKind) (n k : ℕ) → kind_of w ≡ kind → n ≡ k → (is_limited w && not (nat_lt (n + 1) (most_of (limits 0) w))) ≡ (limited_in kind && nat_le (most_in kind) (k + 1))
kind_full w kind n k e h = let P : ListKind → Type 0 = λ v. (is_limited w && not (nat_lt (n + 1) (most_of (limits 0) w))) ≡ (limited_in v && nat_le (most_in v) (k + 1)) in subst P e (by w)
  where
    by : (u : Owner) → (is_limited u && not (nat_lt (n + 1) (most_of (limits 0) u))) ≡ (limited_in (kind_of u) && nat_le (most_in (kind_of u)) (k + 1))
    by (Subscripts scope word p) = full_is n k 31 true h
    by (Arguments f c) = refl

-- an expression that can't go on is whole
pub whole_done : (m : Limits) (e : Expr) (ks : List Symbol) → HasNoBinary ks → run m ks (held e Alone) ≡ Accept (Whole e) ks
whole_done m (Chain x r) [] h = refl
whole_done m (Chain x r) (Constant v ∷ ks) h = refl
whole_done m (Chain x r) (Inherent v ∷ ks) h = refl
whole_done m (Chain x r) (Name w ∷ ks) h = refl
whole_done m (Chain x r) (Applied v ∷ ks) h = refl
whole_done m (Chain x r) (Entry v ∷ ks) h = refl
whole_done m (Chain x r) (Overlong ∷ ks) h = refl
whole_done m (Chain x r) (Other ∷ ks) h = refl
whole_done m (Chain x r) (Mark Close ∷ ks) h = refl
whole_done m (Chain x r) (Mark Comma ∷ ks) h = refl
whole_done m (Chain x r) (Mark Caret ∷ ks) h = refl
whole_done m (Chain x r) (Mark Open ∷ ks) h = refl
whole_done m (Chain x r) (Mark Colon ∷ ks) h = refl
whole_done m (Chain x r) (Mark Dot ∷ ks) h = refl
whole_done m (Chain x r) (Mark Apostrophe ∷ ks) h = refl
whole_done m (Chain x r) (Mark Question ∷ ks) h = refl
whole_done m (Chain x r) (Mark NegatedQuestion ∷ ks) h = refl
whole_done m (Chain x r) (Mark s ∷ ks) h = absurd (some_none _ h)

-- a variable is whole
pub target_done : (m : Limits) (v : Variable) (ks : List Symbol) → run m ks (Got v) ≡ Accept (Target v) ks
target_done m v [] = refl
target_done m v (k ∷ ks) = refl
