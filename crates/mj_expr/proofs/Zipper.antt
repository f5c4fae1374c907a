-- What a state has read, and a shortest way to its end.
use Rattle.std.specs.Prelude.{pos}
use Rattle.std.proofs.Common.{◌≡◌, ℕ, suc, zero, ◌+◌, ◌-◌, ◌≤◌, max, List, [], ◌∷◌, ◌++◌, refl, ap, sym, ◌∙◌, append_assoc, append-nil, arith}
use Rattle.mj_ast.specs.declared.sign.Sign.TheVariants.{Open, Close, Comma, Colon}
use Rattle.mj_ast.specs.declared.expr.Scope.{Scope}
use Rattle.mj_ast.specs.declared.expr.Scope.TheVariants.{Local, Global}
use Rattle.mj_oper.specs.declared.op.Op.{Op}
use Rattle.mj_num.specs.Number.{canonic_text}
use Rattle.mj_ast.specs.declared.function.Function.{Function}
use Rattle.mj_ast.specs.declared.function.Function.TheVariants.{Ascii, Char, Extract, Find, Justify, Length, Piece, QLength, QSubscript, Reverse, Translate}
use Rattle.mj_ast.specs.declared.function.NameFunction.{NameFunction}
use Rattle.mj_ast.specs.declared.function.NameFunction.TheVariants as names
use Rattle.mj_ast.specs.declared.function.Callee.{Callee}
use Rattle.mj_ast.specs.declared.function.Callee.TheVariants as callee
use Rattle.mj_ast.specs.Syntax.{Expr, Chain, Tails, Done, Then, Operand, Literal, Value, Unary, Group, Call, About, Select, Variable, Var, Exprs, No, More, Choices, Last, Extrinsic, Actuals, NoActual, Given, Omitted}
use Rattle.mj_ast.specs.Expressions.{Symbol, Constant, Name, Applied, Entry, Mark, routine_symbols, actuals_symbols, further_symbols, actuals_nesting, further_nesting, actuals_width, actuals_misfits, scoped, unary_sign, binary_sign, expr_symbols, tails_symbols, operand_symbols, variable_symbols, list_symbols, more_symbols, choices_symbols, count, least, most, least_subscripts, most_others, levels, expr_nesting, tails_nesting, operand_nesting, variable_nesting, list_nesting, exprs_nesting, choices_nesting, expr_width, tails_width, operand_width, variable_width, exprs_width, choices_width, expr_misfits, tails_misfits, operand_misfits, variable_misfits, exprs_misfits, choices_misfits}
use Rattle.mj_expr.specs.Machine.{Outer, Alone, InGroup, InList, InOther, InCondition, InChoice, InActuals, Owner, Subscripts, Arguments, Within, Front, Right, Under, Place, AsOperand, AsNamed, AsTarget, Pairs, NoPairs, Pair, and_pair, before_choices, State, Wanted, Sought, Limits, Phrase, Whole, Target, and_then, and_more, and_given, and_omitted, least_of, most_of}

-- ---- spelling of what grows at its end

pub tails_symbols-then : (r : Tails) (op : Op) (x : Operand) → tails_symbols (and_then r op x) ≡ tails_symbols r ++ Mark (binary_sign op) ∷ operand_symbols x
tails_symbols-then Done op x = ap (λ (ks : List Symbol). Mark (binary_sign op) ∷ ks) (append-nil (operand_symbols x))
tails_symbols-then (Then o y r) op x =
    ap (λ (ks : List Symbol). Mark (binary_sign o) ∷ (operand_symbols y ++ ks)) (tails_symbols-then r op x)
    ∙ ap (λ (ks : List Symbol). Mark (binary_sign o) ∷ ks) (sym (append_assoc (operand_symbols y) (tails_symbols r) (Mark (binary_sign op) ∷ operand_symbols x)))

-- expressions, each with a comma behind it
abbrev pub listed : Exprs → List Symbol
listed No = []
listed (More e rest) = expr_symbols e ++ Mark Comma ∷ listed rest

pub listed-more : (es : Exprs) (e : Expr) → listed (and_more es e) ≡ listed es ++ (expr_symbols e ++ Mark Comma ∷ [])
listed-more No e = refl
listed-more (More f es) e =
    ap (λ (ks : List Symbol). expr_symbols f ++ Mark Comma ∷ ks) (listed-more es e)
    ∙ sym (append_assoc (expr_symbols f) (Mark Comma ∷ listed es) (expr_symbols e ++ Mark Comma ∷ []))

pub more_symbols-more : (es : Exprs) (e : Expr) → more_symbols (and_more es e) ≡ Mark Comma ∷ (listed es ++ (expr_symbols e ++ Mark Close ∷ []))
more_symbols-more No e = refl
more_symbols-more (More f es) e =
    ap (λ (ks : List Symbol). Mark Comma ∷ (expr_symbols f ++ ks)) (more_symbols-more es e)
    ∙ ap (λ (ks : List Symbol). Mark Comma ∷ ks) (sym (append_assoc (expr_symbols f) (Mark Comma ∷ listed es) (expr_symbols e ++ Mark Close ∷ [])))

pub list_symbols-more : (es : Exprs) (e : Expr) → list_symbols (and_more es e) ≡ Mark Open ∷ (listed es ++ (expr_symbols e ++ Mark Close ∷ []))
list_symbols-more No e = refl
list_symbols-more (More f es) e =
    ap (λ (ks : List Symbol). Mark Open ∷ (expr_symbols f ++ ks)) (more_symbols-more es e)
    ∙ ap (λ (ks : List Symbol). Mark Open ∷ ks) (sym (append_assoc (expr_symbols f) (Mark Comma ∷ listed es) (expr_symbols e ++ Mark Close ∷ [])))

-- with others behind
abbrev pub joined : Exprs → Exprs → Exprs
joined No fs = fs
joined (More e es) fs = More e (joined es fs)

more_symbols-joined : (es : Exprs) (e : Expr) (r : Exprs) → more_symbols (joined (and_more es e) r) ≡ Mark Comma ∷ (listed es ++ (expr_symbols e ++ more_symbols r))
more_symbols-joined No e r = refl
more_symbols-joined (More f es) e r =
    ap (λ (ks : List Symbol). Mark Comma ∷ (expr_symbols f ++ ks)) (more_symbols-joined es e r)
    ∙ ap (λ (ks : List Symbol). Mark Comma ∷ ks) (sym (append_assoc (expr_symbols f) (Mark Comma ∷ listed es) (expr_symbols e ++ more_symbols r)))

list_symbols-joined : (es : Exprs) (e : Expr) (r : Exprs) → list_symbols (joined (and_more es e) r) ≡ Mark Open ∷ (listed es ++ (expr_symbols e ++ more_symbols r))
list_symbols-joined No e r = refl
list_symbols-joined (More f es) e r =
    ap (λ (ks : List Symbol). Mark Open ∷ (expr_symbols f ++ ks)) (more_symbols-joined es e r)
    ∙ ap (λ (ks : List Symbol). Mark Open ∷ ks) (sym (append_assoc (expr_symbols f) (Mark Comma ∷ listed es) (expr_symbols e ++ more_symbols r)))

-- with other actuals behind
abbrev pub continued : Actuals → Actuals → Actuals
continued NoActual fs = fs
continued (Given e es) fs = Given e (continued es fs)
continued (Omitted es) fs = Omitted (continued es fs)

-- conditions, each with a colon, its value and a comma behind it
abbrev pub pairs_symbols : Pairs → List Symbol
pairs_symbols NoPairs = []
pairs_symbols (Pair c e rest) = expr_symbols c ++ Mark Colon ∷ (expr_symbols e ++ Mark Comma ∷ pairs_symbols rest)

pub pairs_symbols-and : (ps : Pairs) (c e : Expr) → pairs_symbols (and_pair ps c e) ≡ pairs_symbols ps ++ (expr_symbols c ++ Mark Colon ∷ (expr_symbols e ++ Mark Comma ∷ []))
pairs_symbols-and NoPairs c e = refl
pairs_symbols-and (Pair a b ps) c e =
    ap (λ (ks : List Symbol). expr_symbols a ++ Mark Colon ∷ (expr_symbols b ++ Mark Comma ∷ ks)) (pairs_symbols-and ps c e) ∙ simp append_assoc

pub choices_symbols-before : (ps : Pairs) (x : Choices) → choices_symbols (before_choices ps x) ≡ pairs_symbols ps ++ choices_symbols x
choices_symbols-before NoPairs x = refl
choices_symbols-before (Pair a b ps) x =
    ap (λ (ks : List Symbol). expr_symbols a ++ Mark Colon ∷ (expr_symbols b ++ Mark Comma ∷ ks)) (choices_symbols-before ps x) ∙ simp append_assoc

-- actuals, each with a comma behind it
abbrev pub passed : Actuals → List Symbol
passed NoActual = []
passed (Given e rest) = expr_symbols e ++ Mark Comma ∷ passed rest
passed (Omitted rest) = Mark Comma ∷ passed rest

pub passed-given : (es : Actuals) (e : Expr) → passed (and_given es e) ≡ passed es ++ (expr_symbols e ++ Mark Comma ∷ [])
passed-given NoActual e = refl
passed-given (Given f es) e =
    ap (λ (ks : List Symbol). expr_symbols f ++ Mark Comma ∷ ks) (passed-given es e)
    ∙ sym (append_assoc (expr_symbols f) (Mark Comma ∷ passed es) (expr_symbols e ++ Mark Comma ∷ []))
passed-given (Omitted es) e = ap (λ (ks : List Symbol). Mark Comma ∷ ks) (passed-given es e)

pub passed-omitted : (es : Actuals) → passed (and_omitted es) ≡ passed es ++ Mark Comma ∷ []
passed-omitted NoActual = refl
passed-omitted (Given f es) =
    ap (λ (ks : List Symbol). expr_symbols f ++ Mark Comma ∷ ks) (passed-omitted es) ∙ sym (append_assoc (expr_symbols f) (Mark Comma ∷ passed es) (Mark Comma ∷ []))
passed-omitted (Omitted es) = ap (λ (ks : List Symbol). Mark Comma ∷ ks) (passed-omitted es)

further_symbols-given : (es : Actuals) (e : Expr) → further_symbols (and_given es e) ≡ Mark Comma ∷ (passed es ++ (expr_symbols e ++ Mark Close ∷ []))
further_symbols-given NoActual e = refl
further_symbols-given (Given f es) e =
    ap (λ (ks : List Symbol). Mark Comma ∷ (expr_symbols f ++ ks)) (further_symbols-given es e)
    ∙ ap (λ (ks : List Symbol). Mark Comma ∷ ks) (sym (append_assoc (expr_symbols f) (Mark Comma ∷ passed es) (expr_symbols e ++ Mark Close ∷ [])))
further_symbols-given (Omitted es) e = ap (λ (ks : List Symbol). Mark Comma ∷ ks) (further_symbols-given es e)

pub actuals_symbols-given : (es : Actuals) (e : Expr) → actuals_symbols (and_given es e) ≡ Mark Open ∷ (passed es ++ (expr_symbols e ++ Mark Close ∷ []))
actuals_symbols-given NoActual e = refl
actuals_symbols-given (Given f es) e =
    ap (λ (ks : List Symbol). Mark Open ∷ (expr_symbols f ++ ks)) (further_symbols-given es e)
    ∙ ap (λ (ks : List Symbol). Mark Open ∷ ks) (sym (append_assoc (expr_symbols f) (Mark Comma ∷ passed es) (expr_symbols e ++ Mark Close ∷ [])))
actuals_symbols-given (Omitted es) e = ap (λ (ks : List Symbol). Mark Open ∷ ks) (further_symbols-given es e)

further_symbols-omitted : (es : Actuals) → further_symbols (and_omitted es) ≡ Mark Comma ∷ (passed es ++ Mark Close ∷ [])
further_symbols-omitted NoActual = refl
further_symbols-omitted (Given f es) =
    ap (λ (ks : List Symbol). Mark Comma ∷ (expr_symbols f ++ ks)) (further_symbols-omitted es)
    ∙ ap (λ (ks : List Symbol). Mark Comma ∷ ks) (sym (append_assoc (expr_symbols f) (Mark Comma ∷ passed es) (Mark Close ∷ [])))
further_symbols-omitted (Omitted es) = ap (λ (ks : List Symbol). Mark Comma ∷ ks) (further_symbols-omitted es)

pub actuals_symbols-omitted : (es : Actuals) → actuals_symbols (and_omitted es) ≡ Mark Open ∷ (passed es ++ Mark Close ∷ [])
actuals_symbols-omitted NoActual = refl
actuals_symbols-omitted (Given f es) =
    ap (λ (ks : List Symbol). Mark Open ∷ (expr_symbols f ++ ks)) (further_symbols-omitted es)
    ∙ ap (λ (ks : List Symbol). Mark Open ∷ ks) (sym (append_assoc (expr_symbols f) (Mark Comma ∷ passed es) (Mark Close ∷ [])))
actuals_symbols-omitted (Omitted es) = ap (λ (ks : List Symbol). Mark Open ∷ ks) (further_symbols-omitted es)

pub scoped-append : (scope : Scope) (xs ys : List Symbol) → scoped scope xs ++ ys ≡ scoped scope (xs ++ ys)
scoped-append Local xs ys = refl
scoped-append Global xs ys = refl

-- ---- limits of what grows at its end

pub tails_nesting-then : (r : Tails) (op : Op) (x : Operand) → tails_nesting (and_then r op x) ≡ max (tails_nesting r) (operand_nesting x)
tails_nesting-then Done op x = omega arith
tails_nesting-then (Then o y r) op x = let h = tails_nesting-then r op x in omega arith

pub tails_width-then : (r : Tails) (op : Op) (x : Operand) → tails_width (and_then r op x) ≡ max (tails_width r) (operand_width x)
tails_width-then Done op x = omega arith
tails_width-then (Then o y r) op x = let h = tails_width-then r op x in omega arith

pub exprs_nesting-more : (es : Exprs) (e : Expr) → exprs_nesting (and_more es e) ≡ max (exprs_nesting es) (expr_nesting e)
exprs_nesting-more No e = omega arith
exprs_nesting-more (More f es) e = let h = exprs_nesting-more es e in omega arith

pub list_nesting-more : (es : Exprs) (e : Expr) → list_nesting (and_more es e) ≡ max (exprs_nesting es) (expr_nesting e) + 1
list_nesting-more No e = omega arith
list_nesting-more (More f es) e = let h = exprs_nesting-more es e in omega arith

pub exprs_width-more : (es : Exprs) (e : Expr) → exprs_width (and_more es e) ≡ max (exprs_width es) (expr_width e)
exprs_width-more No e = omega arith
exprs_width-more (More f es) e = let h = exprs_width-more es e in omega arith

pub count-more : (es : Exprs) (e : Expr) → count (and_more es e) ≡ count es + 1
count-more No e = refl
count-more (More f es) e = let h = count-more es e in omega arith

pub tails_misfits-then : (r : Tails) (op : Op) (x : Operand) → tails_misfits (and_then r op x) ≡ tails_misfits r + operand_misfits x
tails_misfits-then Done op x = omega arith
tails_misfits-then (Then o y r) op x = let h = tails_misfits-then r op x in omega arith

pub exprs_misfits-more : (es : Exprs) (e : Expr) → exprs_misfits (and_more es e) ≡ exprs_misfits es + expr_misfits e
exprs_misfits-more No e = omega arith
exprs_misfits-more (More f es) e = let h = exprs_misfits-more es e in omega arith

pub exprs_nesting-joined : (es fs : Exprs) → exprs_nesting (joined es fs) ≡ max (exprs_nesting es) (exprs_nesting fs)
exprs_nesting-joined No fs = omega arith
exprs_nesting-joined (More f es) fs = let h = exprs_nesting-joined es fs in omega arith

pub exprs_width-joined : (es fs : Exprs) → exprs_width (joined es fs) ≡ max (exprs_width es) (exprs_width fs)
exprs_width-joined No fs = omega arith
exprs_width-joined (More f es) fs = let h = exprs_width-joined es fs in omega arith

pub exprs_misfits-joined : (es fs : Exprs) → exprs_misfits (joined es fs) ≡ exprs_misfits es + exprs_misfits fs
exprs_misfits-joined No fs = omega arith
exprs_misfits-joined (More f es) fs = let h = exprs_misfits-joined es fs in omega arith

pub count-joined : (es fs : Exprs) → count (joined es fs) ≡ count es + count fs
count-joined No fs = omega arith
count-joined (More f es) fs = let h = count-joined es fs in omega arith

pub list_nesting-some : (es : Exprs) → list_nesting es ≤ exprs_nesting es + 1
list_nesting-some No = omega arith
list_nesting-some (More e es) = omega arith

abbrev pub pairs_nesting : Pairs → ℕ
pairs_nesting NoPairs = 0
pairs_nesting (Pair c e rest) = max (max (expr_nesting c) (expr_nesting e)) (pairs_nesting rest)

abbrev pub pairs_width : Pairs → ℕ
pairs_width NoPairs = 0
pairs_width (Pair c e rest) = max (max (expr_width c) (expr_width e)) (pairs_width rest)

abbrev pub pairs_misfits : Pairs → ℕ
pairs_misfits NoPairs = 0
pairs_misfits (Pair c e rest) = expr_misfits c + expr_misfits e + pairs_misfits rest

pub pairs_nesting-and : (ps : Pairs) (c e : Expr) → pairs_nesting (and_pair ps c e) ≡ max (pairs_nesting ps) (max (expr_nesting c) (expr_nesting e))
pairs_nesting-and NoPairs c e = omega arith
pairs_nesting-and (Pair a b ps) c e = let h = pairs_nesting-and ps c e in omega arith

pub pairs_width-and : (ps : Pairs) (c e : Expr) → pairs_width (and_pair ps c e) ≡ max (pairs_width ps) (max (expr_width c) (expr_width e))
pairs_width-and NoPairs c e = omega arith
pairs_width-and (Pair a b ps) c e = let h = pairs_width-and ps c e in omega arith

pub pairs_misfits-and : (ps : Pairs) (c e : Expr) → pairs_misfits (and_pair ps c e) ≡ pairs_misfits ps + expr_misfits c + expr_misfits e
pairs_misfits-and NoPairs c e = omega arith
pairs_misfits-and (Pair a b ps) c e = let h = pairs_misfits-and ps c e in omega arith

pub choices_nesting-before : (ps : Pairs) (x : Choices) → choices_nesting (before_choices ps x) ≡ max (pairs_nesting ps) (choices_nesting x)
choices_nesting-before NoPairs x = omega arith
choices_nesting-before (Pair a b ps) x = let h = choices_nesting-before ps x in omega arith

pub choices_width-before : (ps : Pairs) (x : Choices) → choices_width (before_choices ps x) ≡ max (pairs_width ps) (choices_width x)
choices_width-before NoPairs x = omega arith
choices_width-before (Pair a b ps) x = let h = choices_width-before ps x in omega arith

pub choices_misfits-before : (ps : Pairs) (x : Choices) → choices_misfits (before_choices ps x) ≡ pairs_misfits ps + choices_misfits x
choices_misfits-before NoPairs x = omega arith
choices_misfits-before (Pair a b ps) x = let h = choices_misfits-before ps x in omega arith

-- actuals
further_nesting-given : (es : Actuals) (e : Expr) → further_nesting (and_given es e) ≡ max (further_nesting es) (expr_nesting e)
further_nesting-given NoActual e = omega arith
further_nesting-given (Given f es) e = let h = further_nesting-given es e in omega arith
further_nesting-given (Omitted es) e = further_nesting-given es e

further_nesting-omitted : (es : Actuals) → further_nesting (and_omitted es) ≡ further_nesting es
further_nesting-omitted NoActual = refl
further_nesting-omitted (Given f es) = let h = further_nesting-omitted es in omega arith
further_nesting-omitted (Omitted es) = further_nesting-omitted es

pub nesting-given : (es : Actuals) (e : Expr) →
    (further_nesting (and_given es e) ≡ max (further_nesting es) (expr_nesting e)) × (actuals_nesting (and_given es e) ≡ max (further_nesting es) (expr_nesting e) + 1)
nesting-given es e = (further_nesting-given es e, by es)
  where
    by : (es : Actuals) → actuals_nesting (and_given es e) ≡ max (further_nesting es) (expr_nesting e) + 1
    by NoActual = omega arith
    by (Given f es) = let h = further_nesting-given es e in omega arith
    by (Omitted es) = let h = further_nesting-given es e in omega arith

pub nesting-omitted : (es : Actuals) → (further_nesting (and_omitted es) ≡ further_nesting es) × (actuals_nesting (and_omitted es) ≡ further_nesting es + 1)
nesting-omitted es = (further_nesting-omitted es, by es)
  where
    by : (es : Actuals) → actuals_nesting (and_omitted es) ≡ further_nesting es + 1
    by NoActual = omega arith
    by (Given f es) = let h = further_nesting-omitted es in omega arith
    by (Omitted es) = let h = further_nesting-omitted es in omega arith

pub width-given : (es : Actuals) (e : Expr) → actuals_width (and_given es e) ≡ max (actuals_width es) (expr_width e)
width-given NoActual e = omega arith
width-given (Given f es) e = let h = width-given es e in omega arith
width-given (Omitted es) e = width-given es e

pub width-omitted : (es : Actuals) → actuals_width (and_omitted es) ≡ actuals_width es
width-omitted NoActual = refl
width-omitted (Given f es) = let h = width-omitted es in omega arith
width-omitted (Omitted es) = width-omitted es

pub misfits-given : (es : Actuals) (e : Expr) → actuals_misfits (and_given es e) ≡ actuals_misfits es + expr_misfits e
misfits-given NoActual e = omega arith
misfits-given (Given f es) e = let h = misfits-given es e in omega arith
misfits-given (Omitted es) e = misfits-given es e

pub misfits-omitted : (es : Actuals) → actuals_misfits (and_omitted es) ≡ actuals_misfits es
misfits-omitted NoActual = refl
misfits-omitted (Given f es) = let h = misfits-omitted es in omega arith
misfits-omitted (Omitted es) = misfits-omitted es

-- ---- what fills the places that are left

-- the text of the number that the digit 0 reads, and the expression
abbrev pub zero_text : List ℕ
zero_text = canonic_text (pos 0)

abbrev pub zero_expr : Expr
zero_expr = Chain (Literal zero_text) Done

-- so many of it
abbrev pub pad : ℕ → Exprs
pad zero = No
pad (suc n) = More zero_expr (pad n)

pub pad_count : (n : ℕ) → count (pad n) ≡ n
pad_count zero = refl
pad_count (suc n) = let h = pad_count n in omega arith

pub pad_nesting : (n : ℕ) → exprs_nesting (pad n) ≡ 0
pad_nesting zero = refl
pad_nesting (suc n) = let h = pad_nesting n in omega arith

pub pad_width : (n : ℕ) → exprs_width (pad n) ≡ 0
pad_width zero = refl
pad_width (suc n) = let h = pad_width n in omega arith

pub pad_list : (n : ℕ) → list_nesting (pad n) ≤ n
pad_list zero = omega arith
pad_list (suc n) = let h = pad_nesting n in omega arith

pub pad_misfits : (n : ℕ) → exprs_misfits (pad n) ≡ 0
pad_misfits zero = refl
pad_misfits (suc n) = let h = pad_misfits n in omega arith

-- ---- how many arguments functions take

pub least_some : (f : Function) → 1 ≤ least f
least_some Ascii = omega arith
least_some Char = omega arith
least_some Extract = omega arith
least_some Find = omega arith
least_some Justify = omega arith
least_some Length = omega arith
least_some Piece = omega arith
least_some QLength = omega arith
least_some QSubscript = omega arith
least_some Reverse = omega arith
least_some Translate = omega arith

pub least_most : (f : Function) → least f ≤ most f
least_most Ascii = omega arith
least_most Char = omega arith
least_most Extract = omega arith
least_most Find = omega arith
least_most Justify = omega arith
least_most Length = omega arith
least_most Piece = omega arith
least_most QLength = omega arith
least_most QSubscript = omega arith
least_most Reverse = omega arith
least_most Translate = omega arith

pub owner_least : (m : Limits) (w : Owner) → least_of w ≤ most_of m w
owner_least m (Subscripts scope word p) = omega arith
owner_least m (Arguments f c) = least_most f

-- ---- how many subscripts and other arguments functions of variables take

pub subscripts_few : (f : NameFunction) → least_subscripts f ≤ 1
subscripts_few names.Data = omega arith
subscripts_few names.Get = omega arith
subscripts_few names.Name = omega arith
subscripts_few names.Order = omega arith
subscripts_few names.Query = omega arith

pub others_few : (f : NameFunction) → most_others f ≤ 1
others_few names.Data = omega arith
others_few names.Get = omega arith
others_few names.Name = omega arith
others_few names.Order = omega arith
others_few names.Query = omega arith

pub levels_some : (f : Callee) → 1 ≤ levels f
levels_some (callee.Texts f) = omega arith
levels_some (callee.Names f) = omega arith
levels_some callee.Select = omega arith

pub levels_few : (f : Callee) → levels f ≤ 2
levels_few (callee.Texts f) = omega arith
levels_few (callee.Names f) = omega (arith, subscripts_few f)
levels_few callee.Select = omega arith

-- how many subscripts a variable has at least
abbrev pub least_at : Place → ℕ
least_at (AsOperand c) = 0
least_at (AsNamed f c) = least_subscripts f
least_at AsTarget = 0

pub least_at_few : (p : Place) → least_at p ≤ 1
least_at_few (AsOperand c) = omega arith
least_at_few (AsNamed f c) = subscripts_few f
least_at_few AsTarget = omega arith

-- ---- kinds of phrases

pub data Kind : Type 0 where
  AnExpression : Kind
  AVariable : Kind

abbrev pub IsKind : Kind → Phrase → Type 0
IsKind AnExpression (Whole e) = Unit {0}
IsKind AVariable (Target v) = Unit {0}
IsKind K p = ⊥

abbrev pub ForExpression : Kind → Type 0
ForExpression AnExpression = Unit {0}
ForExpression AVariable = ⊥

abbrev pub ForVariable : Kind → Type 0
ForVariable AnExpression = ⊥
ForVariable AVariable = Unit {0}

abbrev pub phrase_symbols : Phrase → List Symbol
phrase_symbols (Whole e) = expr_symbols e
phrase_symbols (Target v) = variable_symbols v

abbrev pub phrase_nesting : Phrase → ℕ
phrase_nesting (Whole e) = expr_nesting e
phrase_nesting (Target v) = variable_nesting v

abbrev pub phrase_width : Phrase → ℕ
phrase_width (Whole e) = expr_width e
phrase_width (Target v) = variable_width v

abbrev pub phrase_misfits : Phrase → ℕ
phrase_misfits (Whole e) = expr_misfits e
phrase_misfits (Target v) = variable_misfits v

abbrev pub start : Kind → State
start AnExpression = Wanted (Front Alone)
start AVariable = Sought AsTarget

-- ---- contexts

abbrev mutual
  pub outer_before : Outer → List Symbol
  outer_before Alone = []
  outer_before (InGroup c) = before c ++ Mark Open ∷ []
  outer_before (InList w es) = owner_before w ++ Mark Open ∷ listed es
  outer_before (InOther f v c) = before c ++ Applied (callee.Names f) ∷ Mark Open ∷ (variable_symbols v ++ Mark Comma ∷ [])
  outer_before (InCondition ps c) = before c ++ Applied callee.Select ∷ Mark Open ∷ pairs_symbols ps
  outer_before (InActuals t es c) = before c ++ Entry t.label ∷ (routine_symbols t.routine ++ Mark Open ∷ passed es)
  outer_before (InChoice ps e c) = before c ++ Applied callee.Select ∷ Mark Open ∷ (pairs_symbols ps ++ (expr_symbols e ++ Mark Colon ∷ []))

  pub owner_before : Owner → List Symbol
  owner_before (Subscripts scope word p) = place_before p ++ scoped scope (Name word ∷ [])
  owner_before (Arguments f c) = before c ++ Applied (callee.Texts f) ∷ []

  pub before : Within → List Symbol
  before (Front o) = outer_before o
  before (Right first rest op o) = outer_before o ++ (expr_symbols (Chain first rest) ++ Mark (binary_sign op) ∷ [])
  before (Under op c) = before c ++ Mark (unary_sign op) ∷ []

  pub place_before : Place → List Symbol
  place_before (AsOperand c) = before c
  place_before (AsNamed f c) = before c ++ Applied (callee.Names f) ∷ Mark Open ∷ []
  place_before AsTarget = []

abbrev mutual
  pub outer_after : Outer → List Symbol
  outer_after Alone = []
  outer_after (InGroup c) = Mark Close ∷ after c
  outer_after (InList w es) = more_symbols (pad (least_of w - (count es + 1))) ++ owner_after w
  outer_after (InOther f v c) = Mark Close ∷ after c
  outer_after (InCondition ps c) = Mark Colon ∷ Constant zero_text ∷ Mark Close ∷ after c
  outer_after (InChoice ps e c) = Mark Close ∷ after c
  outer_after (InActuals t es c) = Mark Close ∷ after c

  pub owner_after : Owner → List Symbol
  owner_after (Subscripts scope word p) = place_after p
  owner_after (Arguments f c) = after c

  pub after : Within → List Symbol
  after (Front o) = outer_after o
  after (Right first rest op o) = outer_after o
  after (Under op c) = after c

  pub place_after : Place → List Symbol
  place_after (AsOperand c) = after c
  place_after (AsNamed f c) = Mark Close ∷ after c
  place_after AsTarget = []

abbrev mutual
  pub outer_plug : Outer → Expr → Phrase
  outer_plug Alone e = Whole e
  outer_plug (InGroup c) e = plug c (Group e)
  outer_plug (InList w es) e = owner_plug w (joined (and_more es e) (pad (least_of w - (count es + 1))))
  outer_plug (InOther f v c) e = plug c (About f v (More e No))
  outer_plug (InCondition ps c) e = plug c (Select (before_choices ps (Last e zero_expr)))
  outer_plug (InChoice ps a c) e = plug c (Select (before_choices ps (Last a e)))
  outer_plug (InActuals t es c) e = plug c (Extrinsic t (and_given es e))

  pub owner_plug : Owner → Exprs → Phrase
  owner_plug (Subscripts scope word p) es = place_plug p (Var scope word es)
  owner_plug (Arguments f c) es = plug c (Call f es)

  pub plug : Within → Operand → Phrase
  plug (Front o) x = outer_plug o (Chain x Done)
  plug (Right first rest op o) x = outer_plug o (Chain first (and_then rest op x))
  plug (Under op c) x = plug c (Unary op x)

  pub place_plug : Place → Variable → Phrase
  place_plug (AsOperand c) v = plug c (Value v)
  place_plug (AsNamed f c) v = plug c (About f v No)
  place_plug AsTarget v = Target v

mutual
  pub outer_plug_symbols : (o : Outer) (e : Expr) → phrase_symbols (outer_plug o e) ≡ outer_before o ++ (expr_symbols e ++ outer_after o)
  outer_plug_symbols Alone e = sym (append-nil (expr_symbols e))
  outer_plug_symbols (InGroup c) e = plug_symbols c (Group e) ∙ simp append_assoc
  outer_plug_symbols (InList w es) e =
      let r = pad (least_of w - (count es + 1)) in
      owner_plug_symbols w (joined (and_more es e) r)
      ∙ ap (λ (ks : List Symbol). owner_before w ++ (ks ++ owner_after w)) (list_symbols-joined es e r)
      ∙ simp append_assoc
  outer_plug_symbols (InOther f v c) e = plug_symbols c (About f v (More e No)) ∙ simp append_assoc
  outer_plug_symbols (InCondition ps c) e =
      plug_symbols c (Select (before_choices ps (Last e zero_expr)))
      ∙ ap (λ (ks : List Symbol). before c ++ (Applied callee.Select ∷ Mark Open ∷ (ks ++ after c))) (choices_symbols-before ps (Last e zero_expr))
      ∙ simp append_assoc
  outer_plug_symbols (InChoice ps a c) e =
      plug_symbols c (Select (before_choices ps (Last a e)))
      ∙ ap (λ (ks : List Symbol). before c ++ (Applied callee.Select ∷ Mark Open ∷ (ks ++ after c))) (choices_symbols-before ps (Last a e))
      ∙ simp append_assoc
  outer_plug_symbols (InActuals t es c) e =
      plug_symbols c (Extrinsic t (and_given es e))
      ∙ ap (λ (ks : List Symbol). before c ++ ((Entry t.label ∷ (routine_symbols t.routine ++ ks)) ++ after c)) (actuals_symbols-given es e)
      ∙ simp append_assoc

  pub owner_plug_symbols : (w : Owner) (es : Exprs) → phrase_symbols (owner_plug w es) ≡ owner_before w ++ (list_symbols es ++ owner_after w)
  owner_plug_symbols (Subscripts scope word p) es =
      place_plug_symbols p (Var scope word es)
      ∙ ap (λ (ks : List Symbol). place_before p ++ (ks ++ place_after p)) (sym (scoped-append scope (Name word ∷ []) (list_symbols es)))
      ∙ simp append_assoc
  owner_plug_symbols (Arguments f c) es = plug_symbols c (Call f es) ∙ simp append_assoc

  pub plug_symbols : (c : Within) (x : Operand) → phrase_symbols (plug c x) ≡ before c ++ (operand_symbols x ++ after c)
  plug_symbols (Front o) x = outer_plug_symbols o (Chain x Done) ∙ ap (λ (ks : List Symbol). outer_before o ++ (ks ++ outer_after o)) (append-nil (operand_symbols x))
  plug_symbols (Right first rest op o) x =
      outer_plug_symbols o (Chain first (and_then rest op x))
      ∙ ap (λ (ks : List Symbol). outer_before o ++ ((operand_symbols first ++ ks) ++ outer_after o)) (tails_symbols-then rest op x)
      ∙ simp append_assoc
  plug_symbols (Under op c) x = plug_symbols c (Unary op x) ∙ simp append_assoc

  pub place_plug_symbols : (p : Place) (v : Variable) → phrase_symbols (place_plug p v) ≡ place_before p ++ (variable_symbols v ++ place_after p)
  place_plug_symbols (AsOperand c) v = plug_symbols c (Value v)
  place_plug_symbols (AsNamed f c) v = plug_symbols c (About f v No) ∙ simp append_assoc
  place_plug_symbols AsTarget v = sym (append-nil (variable_symbols v))
