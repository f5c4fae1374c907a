-- What the readers of the parts of an expression give, wherever such a part stands. `room` is how many levels may still be opened.
use Rattle.std.specs.Prelude.{ℕ, ◌≡◌, ◌+◌, List, ◌∷◌, Bool, true, false, Option, Some, None, Result, Ok, Err}
use Rattle.mj_ast.specs.declared.expr.Scope.{Scope}
use Rattle.mj_ast.specs.declared.function.NameFunction.{NameFunction}
use Rattle.mj_ast.specs.declared.function.Callee.{Callee}
use Rattle.mj_ast.specs.Expressions.{Symbol}
use Rattle.mj_ast.specs.Syntax.{Expr, Operand, Group, About, Select, Extrinsic, Variable, Exprs, No, More, Choices, Target, Actuals, NoActual}
use Rattle.mj_lex.specs.declared.token.Lexeme.{Lexeme}
use Rattle.mj_expr.specs.Machine.{Outer, Owner, Within, Place, AsNamed, Pairs, Front, InGroup, InList, InOther, InCondition, InChoice, Wanted, Sought, Marked, Named, Calling, Entering, InActuals, State, entry_at, and_given, and_omitted, before_choices, filled, placed, closed, held, outer_depth, owner_depth, depth_of, place_depth, outer_of, is_full, is_full_in}
use Rattle.mj_expr.specs.Reads.{limits, symbols_seen, ReadsSymbols, HasNoBinary, HasNoCaret, HasNoComma, HasNoClose, kind_of}
use Rattle.mj_expr.specs.declared.stop.ParseError.{ParseError}
use Rattle.mj_expr.specs.declared.token.ListKind.{ListKind}

-- an operand is wanted: where an actual may be left out, none is
abbrev pub IsWanted : Within → List Symbol → Type 0
IsWanted (Front (InActuals t before c)) ks = HasNoComma ks × HasNoClose ks
IsWanted c ks = Unit {0}

-- an operand; `full` says that the list of subscripts that it stands in has no room for another
abbrev pub ReadsOperand : {X : Type 0} → (X → Operand) → (X → List Lexeme) → Result X ParseError → ℕ → Bool → List Lexeme → Type 0
ReadsOperand tree rest r room full ls =
    (c : Within) → (d : ℕ) → depth_of c + room ≡ d → is_full (limits 0) (outer_of c) ≡ full → IsWanted c (symbols_seen ls) →
    ReadsSymbols tree rest r d ls (Wanted c) (λ x. filled x c)

-- an expression and the `)` behind it
abbrev pub ReadsGroup : {X : Type 0} → (X → Expr) → (X → List Lexeme) → Result X ParseError → ℕ → List Lexeme → Type 0
ReadsGroup tree rest r room ls =
    (c : Within) → (d : ℕ) → depth_of c + 1 + room ≡ d → ReadsSymbols tree rest r d ls (Wanted (Front (InGroup c))) (λ e. filled (Group e) c)

-- what stands behind the variable of a function, and the `)` behind it
abbrev pub ReadsOther : {X : Type 0} → (X → Expr) → (X → List Lexeme) → Result X ParseError → ℕ → List Lexeme → Type 0
ReadsOther tree rest r room ls =
    (f : NameFunction) → (v : Variable) → (c : Within) → (d : ℕ) → depth_of c + 1 + room ≡ d →
    ReadsSymbols tree rest r d ls (Wanted (Front (InOther f v c))) (λ e. filled (About f v (More e No)) c)

-- a call behind the word of its function
abbrev pub ReadsCall : {X : Type 0} → (X → Operand) → (X → List Lexeme) → Result X ParseError → Callee → ℕ → List Lexeme → Type 0
ReadsCall tree rest r callee room ls =
    (c : Within) → (d : ℕ) → depth_of c + 1 + room ≡ d → ReadsSymbols tree rest r d ls (Calling callee c) (λ x. filled x c)

-- a call of a function of a variable, behind its `(`
abbrev pub ReadsAbout : {X : Type 0} → (X → Operand) → (X → List Lexeme) → Result X ParseError → NameFunction → ℕ → List Lexeme → Type 0
ReadsAbout tree rest r function room ls =
    (c : Within) → (d : ℕ) → depth_of c + 1 + room ≡ d → ReadsSymbols tree rest r d ls (Sought (AsNamed function c)) (λ x. filled x c)

-- choices of `$SELECT`, whichever stand before them, and the `)` behind them
abbrev pub ReadsChoices : {X : Type 0} → (X → Choices) → (X → List Lexeme) → Result X ParseError → ℕ → List Lexeme → Type 0
ReadsChoices tree rest r room ls =
    (before : Pairs) → (c : Within) → (d : ℕ) → depth_of c + 1 + room ≡ d →
    ReadsSymbols tree rest r d ls (Wanted (Front (InCondition before c))) (λ x. filled (Select (before_choices before x)) c)

-- what stands behind a condition of `$SELECT`
abbrev pub ReadsChosen : {X : Type 0} → (Expr → X → Choices) → (X → List Lexeme) → Result X ParseError → ℕ → List Lexeme → Type 0
ReadsChosen tree rest r room ls =
    (before : Pairs) → (a : Expr) → (c : Within) → (d : ℕ) → depth_of c + 1 + room ≡ d →
    ReadsSymbols (tree a) rest r d ls (held a (InCondition before c)) (λ x. filled (Select (before_choices before x)) c)

-- what stands behind a condition of `$SELECT` and its value
abbrev pub ReadsOthers : {X : Type 0} → (Expr → Expr → X → Choices) → (X → List Lexeme) → Result X ParseError → ℕ → List Lexeme → Type 0
ReadsOthers tree rest r room ls =
    (before : Pairs) → (a v : Expr) → (c : Within) → (d : ℕ) → depth_of c + 1 + room ≡ d →
    ReadsSymbols (tree a v) rest r d ls (held v (InChoice before a c)) (λ x. filled (Select (before_choices before x)) c)

-- a variable behind its `^`
abbrev pub ReadsGlobal : {X : Type 0} → (X → Variable) → (X → List Lexeme) → Result X ParseError → ℕ → Bool → List Lexeme → Type 0
ReadsGlobal tree rest r room full ls =
    (p : Place) → (d : ℕ) → place_depth p + room ≡ d → is_full_in (limits 0) p ≡ full → ReadsSymbols tree rest r d ls (Marked p) (λ v. placed v p)

-- a variable behind its name
abbrev pub ReadsNamed : {X : Type 0} → (X → Variable) → (X → List Lexeme) → Result X ParseError → Scope → List ℕ → ℕ → List Lexeme → Type 0
ReadsNamed tree rest r scope word room ls =
    (p : Place) → (d : ℕ) → place_depth p + room ≡ d → ReadsSymbols tree rest r d ls (Named scope word p) (λ v. placed v p)

-- a variable, where none of a list stands
abbrev pub ReadsSought : {X : Type 0} → (X → Variable) → (X → List Lexeme) → Result X ParseError → ℕ → List Lexeme → Type 0
ReadsSought tree rest r room ls =
    (p : Place) → (d : ℕ) → place_depth p + room ≡ d → is_full_in (limits 0) p ≡ false → ReadsSymbols tree rest r d ls (Sought p) (λ v. placed v p)

-- an expression; `full` says that the list of subscripts that it stands in has no room for another
abbrev pub ReadsExpr : {X : Type 0} → (X → Expr) → (X → List Lexeme) → Result X ParseError → ℕ → Bool → List Lexeme → Type 0
ReadsExpr tree rest r room full ls =
    (o : Outer) → (d : ℕ) → outer_depth o + room ≡ d → is_full (limits 0) o ≡ full → IsWanted (Front o) (symbols_seen ls) →
    ReadsSymbols tree rest r d ls (Wanted (Front o)) (λ e. held e o)

-- a list of the kind, behind its `(`
abbrev pub ReadsList : {X : Type 0} → (X → Exprs) → (X → List Lexeme) → Result X ParseError → ListKind → ℕ → List Lexeme → Type 0
ReadsList tree rest r kind room ls =
    (w : Owner) → (d : ℕ) → owner_depth w + 1 + room ≡ d → kind_of w ≡ kind → ReadsSymbols tree rest r d ls (Wanted (Front (InList w No))) (λ es. closed w es)

-- a function behind `$$` and its label, if one stands there; `full` as of an operand
abbrev pub ReadsEntry : {X : Type 0} → (X → Operand) → (X → List Lexeme) → Result X ParseError → Option (List ℕ) → ℕ → Bool → List Lexeme → Type 0
ReadsEntry tree rest r label room full ls =
    (c : Within) → (d : ℕ) → depth_of c + room ≡ d → is_full (limits 0) (outer_of c) ≡ full → ReadsSymbols tree rest r d ls (Entering label None c) (λ x. filled x c)

-- an entry names something, and where no routine stands in it, none stands behind it
abbrev pub IsWhole : Option (List ℕ) → Option (List ℕ) → List Symbol → Type 0
IsWhole None None ks = ⊥
IsWhole (Some l) None ks = HasNoCaret ks
IsWhole label (Some r) ks = Unit {0}

-- the routine of an entry, if one stands there
abbrev pub ReadsRoutine : {X : Type 0} → (X → Option (List ℕ)) → (X → List Lexeme) → Result X ParseError → Option (List ℕ) → Bool → List Lexeme → Type 0
ReadsRoutine routine rest r label full ls =
    (c : Within) → (d : ℕ) → is_full (limits 0) (outer_of c) ≡ full → ReadsSymbols routine rest r d ls (Entering label None c) (λ x. Entering label x c)

-- the actuals behind an entry, if some stand there
abbrev pub ReadsPassed : {X : Type 0} → (X → Actuals) → (X → List Lexeme) → Result X ParseError → ℕ → List Lexeme → Type 0
ReadsPassed tree rest r room ls =
    (label routine : Option (List ℕ)) → (c : Within) → (d : ℕ) → depth_of c + room ≡ d → IsWhole label routine (symbols_seen ls) →
    ReadsSymbols tree rest r d ls (Entering label routine c) (λ es. filled (Extrinsic (entry_at label routine) es) c)

-- behind an actual, which may be left out
abbrev pub behind_actual : Target → Actuals → Within → Option Expr → State
behind_actual t before c None = Wanted (Front (InActuals t before c))
behind_actual t before c (Some e) = held e (InActuals t before c)

-- an actual is left out only where a comma or a `)` stands, and no operator stands behind one that isn't
abbrev pub IsLeft : Option Expr → List Symbol → Type 0
IsLeft None ks = HasNoComma ks → HasNoClose ks → ⊥
IsLeft (Some e) ks = HasNoBinary ks

-- with another actual behind, if it isn't left out
abbrev pub and_actual : Actuals → Option Expr → Actuals
and_actual before None = and_omitted before
and_actual before (Some e) = and_given before e

-- an actual, behind those before it
abbrev pub ReadsActual : {X : Type 0} → (X → Option Expr) → (X → List Lexeme) → Result X ParseError → ℕ → List Lexeme → Type 0
ReadsActual tree rest r room ls =
    (t : Target) → (before : Actuals) → (c : Within) → (d : ℕ) → depth_of c + 1 + room ≡ d →
    ReadsSymbols tree rest r d ls (Wanted (Front (InActuals t before c))) (behind_actual t before c)

-- actuals behind their `(`
abbrev pub ReadsActuals : {X : Type 0} → (X → Actuals) → (X → List Lexeme) → Result X ParseError → ℕ → List Lexeme → Type 0
ReadsActuals tree rest r room ls =
    (t : Target) → (c : Within) → (d : ℕ) → depth_of c + 1 + room ≡ d →
    ReadsSymbols tree rest r d ls (Wanted (Front (InActuals t NoActual c))) (λ es. filled (Extrinsic t es) c)
