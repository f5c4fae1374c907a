-- Rows of the definitions.
use Rattle.std.proofs.Common.{◌≡◌, [], ◌∷◌, Some, None, false, inl, inr, lit≤, refl, codes}
use Rattle.std.specs.Fmt.{digits}
use Rattle.std.specs.List.{IsDistinct}
use Rattle.mj_oper.specs.declared.op.TruthOp.TheVariants.{Equal, SortsAfter, Or}
use Rattle.mj_ast.specs.declared.sign.Sign.TheVariants.{Plus, Star, Caret, Colon, Equals, CloseBracket, CloseBrackets, Exclamation, Apostrophe, Negated, Question, NegatedQuestion, Open, Close, Comma}
use Rattle.mj_ast.specs.Tokens.{Word, Called, Special, Invoked, Numbered, Dollars, Digits, Quoted, Signed, Blank, Comment, Unclosed, Stray, lexemes, tokens, column}
use Rattle.mj_ast.specs.declared.keyword.Keyword.TheVariants as keyword
use Rattle.mj_ast.specs.declared.keyword.Verb.TheVariants.{Of, HaltOrHang}
use Rattle.mj_ast.specs.declared.routine.LockMode.TheVariants.{Whole, Plus as Added, Minus as Taken}
use Rattle.mj_ast.specs.declared.function.Function.TheVariants.{QLength, QSubscript, Reverse, Translate}
use Rattle.mj_ast.specs.declared.function.NameFunction.TheVariants as names
use Rattle.mj_ast.specs.declared.function.Callee.TheVariants.{Texts, Names}
use Rattle.mj_ast.specs.Expressions.{callee_of}
use Rattle.mj_ast.specs.declared.expr.Scope.TheVariants.{Local, Global}
use Rattle.mj_ast.specs.Syntax.{Expr, Variable, Var, No, More, Chain, Done, Literal, Value, Plain, Pieces, One, Several, Gone, Spared, Shown, Single, UpTo, Lone, Together, Fresh, Kept, Set, Write, Halt, Hang, Job, Lock, Kill, If, For, Do, Goto, New, LineCommand}
use Rattle.mj_ast.specs.Commands.{verb_of, bare_of, full_of, Put, Named, Label, PieceCall, Text, Place, Control, command_parts, is_formed, plain, is_conditional, SpellsStep, step_nesting}
use Rattle.mj_ast.specs.Lines.{SpellsWritten, SpellsLine}
use Rattle.mj_ast.specs.Routines.{lines_of}

-- two blanks are two tokens, and a word is a longest one
blanks : tokens (codes " SET  X1=007") ≡ Blank ∷ Word (codes "SET") ∷ Blank ∷ Blank ∷ Word (codes "X1") ∷ Signed Equals ∷ Digits (codes "007") ∷ []
unfolding lexemes
blanks = refl

-- digits end where a letter comes, and `%` is in no word but as its first byte
number : tokens (codes "1A%B") ≡ Digits (codes "1") ∷ Word (codes "A") ∷ Word (codes "%B") ∷ []
unfolding lexemes
number = refl

-- a doubled quote is one of the content
quotes : tokens (codes "\"a\"\"b\",\"\";c \"") ≡ Quoted (codes "a\"b") ∷ Signed Comma ∷ Quoted [] ∷ Comment (codes "c \"") ∷ []
unfolding lexemes
quotes = refl

-- a quote that isn't closed is the token at its opening
unclosed : tokens (codes " WRITE \"abc") ≡ Blank ∷ Word (codes "WRITE") ∷ Blank ∷ Unclosed (codes "abc") ∷ []
unfolding lexemes
unclosed = refl

unclosed_column : column (codes " WRITE \"abc") 3 ≡ 8
unfolding lexemes
unclosed_column = refl

-- a quote that ends in a doubled quote isn't closed
doubled_last : tokens (codes "\"a\"\"") ≡ Unclosed (codes "a\"") ∷ []
unfolding lexemes
doubled_last = refl

-- `$` and a word are one token, by whether a `(` follows at once
dollars : tokens (codes "$L(X)$l (") ≡ Called (codes "L") ∷ Signed Open ∷ Word (codes "X") ∷ Signed Close ∷ Special (codes "l") ∷ Blank ∷ Signed Open ∷ []
unfolding lexemes
dollars = refl

lone_dollars : tokens (codes "$5$") ≡ Stray 36 ∷ Digits (codes "5") ∷ Stray 36 ∷ []
unfolding lexemes
lone_dollars = refl

-- `$$` and a label are one token
two_dollars : tokens (codes "$$A1(X)$$^R$$01$$$L") ≡ Invoked (codes "A1") ∷ Signed Open ∷ Word (codes "X") ∷ Signed Close ∷ Dollars ∷ Signed Caret ∷ Word (codes "R") ∷ Numbered
    (codes "01") ∷ Dollars ∷ Special (codes "L") ∷ []
unfolding lexemes
two_dollars = refl

strays : tokens (codes "**$!(") ≡ Signed Star ∷ Signed Star ∷ Stray 36 ∷ Signed Exclamation ∷ Signed Open ∷ []
unfolding lexemes
strays = refl

-- a sign is a longest one
brackets : tokens (codes "A]]]B") ≡ Word (codes "A") ∷ Signed CloseBrackets ∷ Signed CloseBracket ∷ Word (codes "B") ∷ []
unfolding lexemes
brackets = refl

negated : tokens (codes "']]'='!!'X'") ≡ Signed (Negated SortsAfter) ∷ Signed (Negated Equal) ∷ Signed (Negated Or) ∷ Signed Exclamation ∷ Signed Apostrophe ∷ Word (codes "X") ∷ Signed Apostrophe ∷ []
unfolding lexemes
negated = refl

questions : tokens (codes "'?''?'") ≡ Signed NegatedQuestion ∷ Signed Apostrophe ∷ Signed NegatedQuestion ∷ Signed Apostrophe ∷ []
unfolding lexemes
questions = refl

lone_question : tokens (codes "?'=?") ≡ Signed Question ∷ Signed (Negated Equal) ∷ Signed Question ∷ []
unfolding lexemes
lone_question = refl

-- the line's end is a column past it
end_column : column (codes " H ") 9 ≡ 4
unfolding lexemes
end_column = refl

-- ---- functions

functions : callee_of (codes "tRanslate") ≡ Some (Texts Translate)
functions = refl

short_function : callee_of (codes "re") ≡ Some (Texts Reverse)
short_function = refl

name_length : callee_of (codes "ql") ≡ Some (Texts QLength)
name_length = refl

name_part : callee_of (codes "qSubscript") ≡ Some (Texts QSubscript)
name_part = refl

name_function : callee_of (codes "na") ≡ Some (Names names.Name)
name_function = refl

order_function : callee_of (codes "o") ∷ callee_of (codes "q") ∷ callee_of (codes "Data") ∷ callee_of (codes "G") ∷ [] ≡ Some (Names names.Order) ∷
    Some (Names names.Query) ∷ Some (Names names.Data) ∷ Some (Names names.Get) ∷ []
order_function = refl

no_function : callee_of (codes "LEN") ≡ None
no_function = refl

-- ---- commands and lines

keywords : verb_of (codes "wRiTe") ≡ Some (Of keyword.Write)
keywords = refl

no_keyword : verb_of (codes "HAN") ≡ None
no_keyword = refl

-- `H` is HALT without and HANG with an argument
halt_or_hang : verb_of (codes "h") ≡ Some HaltOrHang
halt_or_hang = refl

bare_h : bare_of HaltOrHang ≡ keyword.Halt
bare_h = refl

full_h : full_of HaltOrHang ≡ keyword.Hang
full_h = refl

kill : verb_of (codes "k") ≡ Some (Of keyword.Kill)
kill = refl

-- `(X,$PIECE(X,Y))=X` and `(A,B),X`
abbrev x : Variable
x = Var Local (codes "X") No

abbrev ex : Expr
ex = Chain (Value x) Done

piece_parts : command_parts (Set (record { targets = Several (Plain x ∷ Pieces x (More ex No) ∷ []); value = ex } ∷ [])) ≡
    Put Open ∷ Place 0 x ∷ Put Comma ∷ PieceCall ∷ Put Open ∷ Place 1 x ∷ Put Comma ∷ Text 1 ex ∷ Put Close ∷ Put Close ∷ Put Equals ∷ Text 0 ex ∷ []
piece_parts = refl

kill_parts : command_parts (Kill (Spared (codes "A" ∷ codes "B" ∷ []) ∷ Gone x ∷ [])) ≡ Put Open ∷ Named (codes "A") ∷ Put Comma ∷ Named (codes "B") ∷ Put Close ∷ Put Comma ∷ Place 0 x ∷ []
kill_parts = refl

-- the subscripts of `$PIECE`'s variable stand two levels deep
piece_depth : step_nesting (record { condition = None; command = Set (record { targets = One (Pieces (Var Local (codes "X") (More ex No)) (More ex No)); value = ex } ∷ []) }) ≡ 2
piece_depth = refl

-- the lines of a file: one byte 13 before a byte 10 is dropped, a last line without byte 10 keeps it
file_lines : lines_of (65 ∷ 13 ∷ 13 ∷ 10 ∷ 10 ∷ 66 ∷ 13 ∷ []) ≡ (65 ∷ 13 ∷ []) ∷ [] ∷ (66 ∷ 13 ∷ []) ∷ []
file_lines = refl

no_line : lines_of [] ≡ []
no_line = refl

one_line : lines_of (65 ∷ 10 ∷ []) ≡ (65 ∷ []) ∷ []
one_line = refl

-- `007` is the number 7, and HALT may stand behind two blanks
abbrev writes_seven : LineCommand
writes_seven = record { condition = None; command = Write (Shown (Chain (Literal (55 ∷ [])) Done) ∷ []) }

abbrev halts : LineCommand
halts = record { condition = None; command = Halt }

spelled_line : SpellsWritten (tokens (codes "A w 007  H ;c")) (record { label = Some (65 ∷ []); formals = []; level = 1; steps = writes_seven ∷ halts ∷ [] })
unfolding lexemes digits
spelled_line = (
  Word (65 ∷ []) ∷ [],
  tokens (codes " w 007  H ;c"),
  0,
  refl,
  record { front = Word (65 ∷ []) ∷ []; names = []; indent = []; cut = refl; label_is = inl (refl, lit≤ tt); formals_are = inl (refl, refl); dots_are = refl },
  refl,
  (
    1,
    tokens (codes "w 007"),
    tokens (codes "  H ;c"),
    lit≤ tt,
    refl,
    (119 ∷ [], [], tokens (codes " 007"), refl, (Of keyword.Write, refl, refl), refl, (tokens (codes "007"), refl, (tokens (codes "007"), [], refl, (refl, refl), refl)), refl, tt),
    (
      2,
      tokens (codes "H"),
      tokens (codes " ;c"),
      lit≤ tt,
      refl,
      (72 ∷ [], [], [], refl, (HaltOrHang, refl, refl), refl, refl, refl, tt),
      inr (1, 99 ∷ [], lit≤ tt, refl),
    ),
  ),
)

-- `5^R:X`, `(A,B),C` and `A(,X)`
goto_parts : command_parts (Goto (record { target = record { label = Some (codes "5"); routine = Some (codes "R") }; condition = Some ex } ∷ [])) ≡
    Label (codes "5") ∷ Put Caret ∷ Named (codes "R") ∷ Put Colon ∷ Text 0 ex ∷ []
goto_parts = refl

new_parts : command_parts (New (Kept (codes "A" ∷ codes "B" ∷ []) ∷ Fresh (codes "C") ∷ [])) ≡ Put Open ∷ Named (codes "A") ∷ Put Comma ∷ Named (codes "B") ∷
    Put Close ∷ Put Comma ∷ Named (codes "C") ∷ []
new_parts = refl

call_parts : command_parts (Do (record { target = record { label = Some (codes "A"); routine = None }; actuals = None ∷ Some ex ∷ []; condition = None } ∷ []))
    ≡ Label (codes "A") ∷ Put Open ∷ Put Comma ∷ Text 1 ex ∷ Put Close ∷ []
call_parts = refl

-- `A()` is `A`
empty_call : plain (Do (record { target = record { label = Some (codes "A"); routine = None }; actuals = None ∷ []; condition = None } ∷ [])) ≡
    Do (record { target = record { label = Some (codes "A"); routine = None }; actuals = []; condition = None } ∷ [])
empty_call = refl

-- `A(X)::X`, `+(X,X):X` and `X`
job_parts : command_parts (Job (record { target = record { label = Some (codes "A"); routine = None }; actuals = Some ex ∷ []; timeout = Some ex } ∷ [])) ≡
    Label (codes "A") ∷ Put Open ∷ Text 1 ex ∷ Put Close ∷ Put Colon ∷ Put Colon ∷ Text 0 ex ∷ []
job_parts = refl

lock_parts : command_parts (Lock (record { mode = Added; names = Together (x ∷ x ∷ []); timeout = Some ex } ∷ record { mode = Whole; names = Lone x; timeout = None } ∷ [])) ≡
    Put Plus ∷ Put Open ∷ Place 0 x ∷ Put Comma ∷ Place 0 x ∷ Put Close ∷ Put Colon ∷ Text 0 ex ∷ Put Comma ∷ Place 0 x ∷ []
lock_parts = refl

-- a list in parentheses isn't empty, and HANG has an argument
no_names : is_formed (Lock (record { mode = Taken; names = Together []; timeout = None } ∷ [])) ≡ false
no_names = refl

no_hang : is_formed (Hang []) ≡ false
no_hang = refl

-- `J A()` starts at `A` without actuals
empty_start : plain (Job (record { target = record { label = Some (codes "A"); routine = None }; actuals = None ∷ []; timeout = None } ∷ [])) ≡
    Job (record { target = record { label = Some (codes "A"); routine = None }; actuals = []; timeout = None } ∷ [])
empty_start = refl

no_condition : is_conditional keyword.Else ≡ false
no_condition = refl

-- IF has a condition, and behind it stands another command
spelled_control : SpellsLine (tokens (codes " I 1 G A")) (record {
  label = None;
  formals = [];
  level = 1;
  steps =
      record { condition = None; command = If (Chain (Literal (49 ∷ [])) Done ∷ []) } ∷
      record { condition = None; command = Goto (record { target = record { label = Some (65 ∷ []); routine = None }; condition = None } ∷ []) } ∷ [];
})
unfolding lexemes digits
spelled_control = (
  record {
    label = None;
    formals = [];
    level = 1;
    steps = record { condition = None; command = If (Chain (Literal (49 ∷ [])) Done ∷ []) } ∷
        record { condition = None; command = Goto (record { target = record { label = Some (65 ∷ []); routine = None }; condition = None } ∷ []) } ∷ [];
  },
  (
    [],
    tokens (codes " I 1 G A"),
    0,
    refl,
    record { front = []; names = []; indent = []; cut = refl; label_is = refl; formals_are = (refl, refl); dots_are = refl },
    refl,
    (
      1,
      tokens (codes "I 1"),
      tokens (codes " G A"),
      lit≤ tt,
      refl,
      (73 ∷ [], [], tokens (codes " 1"), refl, (Of keyword.If, refl, refl), refl, (tokens (codes "1"), refl, (tokens (codes "1"), [], refl, (refl, refl), refl)), refl, tt),
      (
        1,
        tokens (codes "G A"),
        [],
        lit≤ tt,
        refl,
        (71 ∷ [], [], tokens (codes " A"), refl, (Of keyword.Goto, refl, refl), refl, (tokens (codes "A"), refl, (tokens (codes "A"), [], refl, inl (refl, lit≤ tt), refl)), refl, tt),
        inl (0, refl),
      ),
    ),
  ),
  refl,
)

-- the word of FOR, and `X=X:X:X,X`
for_word : verb_of (codes "fOr") ≡ Some (Of keyword.For)
for_word = refl

for_letter : verb_of (codes "F") ≡ Some (Of keyword.For)
for_letter = refl

for_parts : command_parts (For x (UpTo ex ex ex ∷ Single ex ∷ [])) ≡ Control x ∷ Put Equals ∷ Text 0 ex ∷ Put Colon ∷ Text 0 ex ∷ Put Colon ∷ Text 0 ex ∷ Put Comma ∷ Text 0 ex ∷ []
for_parts = refl

-- FOR goes through something, by a local
no_range : is_formed (For x []) ≡ false
no_range = refl

no_global : is_formed (For (Var Global (codes "X") No) (Single ex ∷ [])) ≡ false
no_global = refl

abbrev one : Expr
one = Chain (Literal (49 ∷ [])) Done

spelled_for : SpellsStep (tokens (codes "F X(1)=1,1")) (record { condition = None; command = For (Var Local (codes "X") (More one No)) (Single one ∷ Single one ∷ []) })
unfolding lexemes digits
spelled_for = (
  codes "F",
  [],
  tokens (codes " X(1)=1,1"),
  refl,
  (Of keyword.For, refl, refl),
  refl,
  (
    tokens (codes "X(1)=1,1"),
    refl,
    (
      tokens (codes "X(1)"),
      tokens (codes "=1,1"),
      refl,
      (refl, refl),
      (
        tokens (codes "="),
        tokens (codes "1,1"),
        refl,
        refl,
        (tokens (codes "1"), tokens (codes ",1"), refl, (refl, refl), (tokens (codes ","), tokens (codes "1"), refl, refl, (tokens (codes "1"), [], refl, (refl, refl), refl))),
      ),
    ),
  ),
  refl,
  tt,
)

-- formals stand directly behind the label, and blanks before the first dot; behind dots a command needs none
spelled_block : SpellsWritten (tokens (codes "A(X,Y) . .H")) (record { label = Some (65 ∷ []); formals = (88 ∷ []) ∷ (89 ∷ []) ∷ []; level = 3; steps = halts ∷ [] })
unfolding lexemes IsDistinct
spelled_block = (
  tokens (codes "A(X,Y) . ."),
  tokens (codes "H"),
  2,
  refl,
  record {
    front = Word (65 ∷ []) ∷ [];
    names = tokens (codes "(X,Y)");
    indent = tokens (codes " . .");
    cut = refl;
    label_is = inl (refl, lit≤ tt);
    formals_are = inr (refl, record { short = lit≤ tt; distinct = ((refl, tt), (tt, tt)) });
    dots_are = (1, tokens (codes " ."), lit≤ tt, refl, (1, [], lit≤ tt, refl, refl));
  },
  refl,
  (0, tokens (codes "H"), [], lit≤ tt, refl, (72 ∷ [], [], [], refl, (HaltOrHang, refl, refl), refl, refl, refl, tt), inl (0, refl)),
)

-- parentheses with nothing in them, and dots with a comment behind them
spelled_dots : SpellsWritten (tokens (codes "1()  ..;c")) (record { label = Some (49 ∷ []); formals = []; level = 3; steps = [] })
unfolding lexemes digits IsDistinct
spelled_dots = (
  tokens (codes "1()  .."),
  tokens (codes ";c"),
  2,
  refl,
  record {
    front = Digits (49 ∷ []) ∷ [];
    names = tokens (codes "()");
    indent = tokens (codes "  ..");
    cut = refl;
    label_is = inr refl;
    formals_are = inr (refl, record { short = lit≤ tt; distinct = tt });
    dots_are = (2, tokens (codes "."), lit≤ tt, refl, (0, [], lit≤ tt, refl, refl));
  },
  refl,
  inr (0, 99 ∷ [], lit≤ tt, refl),
)
