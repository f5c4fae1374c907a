-- The values of expressions, strictly from left to right (ISO/IEC 11756:1999, 7).
use Rattle.std.specs.Prelude.{ℕ, List, [], ◌∷◌, Option, None, Some, Bool, true, false, Result, Ok, Err, length, nat_lt, if◌then◌else◌}
use Rattle.mj_text.specs.declared.fault.Fault.{Fault}
use Rattle.mj_text.specs.declared.fault.Fault.TheVariants.{Undefined, Subscript, Limit, Select as NoneTrue}
use Rattle.mj_subs.specs.Name.{Name}
use Rattle.mj_store.specs.declared.access.Access.TheVariants as accesses
use Rattle.mj_oper.specs.Operators.{binary_value, unary_value, truth_value}
use Rattle.mj_ast.specs.declared.expr.Scope.{Scope}
use Rattle.mj_ast.specs.declared.expr.Scope.TheVariants as scopes
use Rattle.mj_ast.specs.declared.function.NameFunction.{NameFunction}
use Rattle.mj_ast.specs.declared.function.NameFunction.TheVariants as names
use Rattle.mj_ast.specs.Syntax.{Expr, Chain, Tails, Done, Then, Operand, Literal, Value, Intrinsic, Unary, Group, Call, About, Select, Extrinsic, Variable, Var, Exprs, No, More, Choices, Last, Before, Actuals, NoActual, Given, Omitted}
use Rattle.mj_semantics.specs.Functions.{call_value, optional}
use Rattle.mj_semantics.specs.Names.{spelled, asks, question, function_told}
use Rattle.mj_semantics.specs.State.{special_value, popped}
use Rattle.mj_semantics.specs.Outcome.{Timed, turn, look, change, need, given, composed, fault}
use Rattle.mj_semantics.specs.Lines.{Here, entry_of}
use Rattle.mj_semantics.specs.Points.{Points, Called}
use Rattle.mj_semantics.specs.Accesses.{access, value_told}

-- whether a list of subscripts has an empty one
abbrev pub has_empty : List (List ℕ) → Bool
has_empty [] = false
has_empty ([] ∷ ss) = true
has_empty ((b ∷ s) ∷ ss) = has_empty ss

abbrev pub is_global : Scope → Bool
is_global scopes.Local = false
is_global scopes.Global = true

-- a name with these subscripts: an empty one among those that have to be filled is SUBSCRIPT, more than 31 are LIMIT (this
-- profile)
abbrev pub named_by : Scope → List ℕ → List (List ℕ) → List (List ℕ) → Result Name Fault
named_by scope word filled ss =
    if has_empty filled then Err Subscript
    else if nat_lt 31 (length ss) then Err Limit
    else Ok (record { global = is_global scope; word = word; subscripts = ss })

-- a name, once all its subscripts have their values
abbrev pub name_of : Scope → List ℕ → List (List ℕ) → Result Name Fault
name_of scope word ss = named_by scope word ss ss

-- all but the last
abbrev pub before_last : List (List ℕ) → List (List ℕ)
before_last [] = []
before_last (s ∷ []) = []
before_last (s ∷ t ∷ ss) = s ∷ before_last (t ∷ ss)

-- the subscripts that a function of a variable wants filled: `$ORDER` and `$QUERY` may begin at an empty last one
abbrev pub filled_for : NameFunction → List (List ℕ) → List (List ℕ)
filled_for names.Data ss = ss
filled_for names.Get ss = ss
filled_for names.Name ss = ss
filled_for names.Order ss = before_last ss
filled_for names.Query ss = before_last ss

-- the name that a function of a variable is about
abbrev pub named_for : NameFunction → Scope → List ℕ → List (List ℕ) → Result Name Fault
named_for f scope word ss = named_by scope word (filled_for f ss) ss

-- the value of a name (7.1.2); without one it is UNDEF
abbrev pub read : Name → (List ℕ → Timed) → Timed
read x rest = access (accesses.Value x) (λ a. need Undefined (value_told a) rest)

-- what a function gives of a name and what stands behind it: the text of the name, or what it makes of an answer
abbrev pub about : NameFunction → Name → Option (List ℕ) → (List ℕ → Timed) → Timed
about f x other rest =
    if asks f then given (question f x other) (λ a. access a (λ r. composed (λ limit. function_told limit f other r) rest))
    else composed (λ limit. spelled limit x) rest

-- the values that a call passes: parentheses with nothing in them are one that is left out, and pass none
abbrev pub plain_values : List (Option (List ℕ)) → List (Option (List ℕ))
plain_values (None ∷ []) = []
plain_values vs = vs

-- where an expression stands is known, and what points lead to, since a call in it goes to a line
module _ (points : Points) (here : Here) where
  abbrev mutual
    -- the value of an expression, and then the rest with it (7.2): each operator is applied once its right side has its
    -- value, to all that stands left of it
    pub ev : Expr → (List ℕ → Timed) → Timed
    ev (Chain x ts) rest = ev_operand x (λ v. ev_tails v ts rest)

    pub ev_tails : List ℕ → Tails → (List ℕ → Timed) → Timed
    ev_tails v Done rest = rest v
    ev_tails v (Then op x ts) rest =
        ev_operand x (λ w. turn (composed (λ limit. binary_value limit op v w) (λ u. ev_tails u ts rest)))

    -- 7.1: a literal, a variable, a special variable, an operator with its operand, an expression in parentheses, a function with its arguments, of
    -- which the first may be a variable. That one's name is complete before the others have their values, and the function asks once
    -- they have (this profile). A function that is written in M (7.1.4.11) is a frame of its own, called once its actuals have their values; the
    -- expression goes on with the value that its QUIT gives.
    pub ev_operand : Operand → (List ℕ → Timed) → Timed
    ev_operand (Literal t) rest = turn (rest t)
    ev_operand (Value v) rest = ev_name v (λ x. read x rest)
    ev_operand (Intrinsic v) rest = turn (look (λ s. rest (special_value v s)))
    ev_operand (Unary op x) rest = ev_operand x (λ v. turn (given (unary_value op v) rest))
    ev_operand (Group e) rest = ev e rest
    ev_operand (Call f es) rest = ev_all es (λ vs. turn (composed (λ limit. call_value limit f vs) rest))
    ev_operand (About f v es) rest = ev_named f v (λ x. ev_all es (λ vs. turn (about f x (optional 0 vs) rest)))
    ev_operand (Select choices) rest = ev_choices choices rest
    ev_operand (Extrinsic t actuals) rest =
        ev_actuals actuals (λ vs. turn (points (Called true (entry_of here t) (plain_values vs) (λ v. change popped (rest v)))))

    -- `$SELECT` (7.1.5.17): the value of the first true condition; later ones aren't looked at. Where none is true it is SELECT.
    -- A condition is tested in a turn of its own (this profile).
    pub ev_choices : Choices → (List ℕ → Timed) → Timed
    ev_choices (Last c e) rest =
        ev c (λ v. turn (given (truth_value v) (λ b. if b then ev e (λ w. turn (rest w)) else turn (fault NoneTrue))))
    ev_choices (Before c e others) rest =
        ev c (λ v. turn (given (truth_value v) (λ b. if b then ev e (λ w. turn (rest w)) else ev_choices others rest)))

    -- the name that a variable is: its subscripts in order, and then the whole
    pub ev_name : Variable → (Name → Timed) → Timed
    ev_name (Var scope word es) rest = ev_all es (λ ss. turn (given (name_of scope word ss) rest))

    -- the name that a function is about, in the same way
    pub ev_named : NameFunction → Variable → (Name → Timed) → Timed
    ev_named f (Var scope word es) rest = ev_all es (λ ss. turn (given (named_for f scope word ss) rest))

    -- the values of expressions, in order
    pub ev_all : Exprs → (List (List ℕ) → Timed) → Timed
    ev_all No rest = rest []
    ev_all (More e es) rest = ev e (λ v. ev_all es (λ vs. rest (v ∷ vs)))

    -- the values of actuals, in order; one that is left out has none, and takes no turn (this profile)
    pub ev_actuals : Actuals → (List (Option (List ℕ)) → Timed) → Timed
    ev_actuals NoActual rest = rest []
    ev_actuals (Given e es) rest = ev e (λ v. ev_actuals es (λ vs. rest (Some v ∷ vs)))
    ev_actuals (Omitted es) rest = ev_actuals es (λ vs. rest (None ∷ vs))

  -- the name of the local of a FOR
  abbrev pub ev_local : Variable → (Name → Timed) → Timed
  ev_local (Var scope word es) rest = ev_all es (λ ss. turn (given (name_of scopes.Local word ss) rest))

  -- one of two rests, by a postcondition (8.1.4), which is tested in a turn of its own
  abbrev pub when : Option Expr → Timed → Timed → Timed
  when None done skipped = done
  when (Some e) done skipped = ev e (λ v. turn (given (truth_value v) (λ b. if b then done else skipped)))
