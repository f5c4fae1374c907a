-- Rows of the machine: what stands in front of the commands of a line.
use Rattle.std.proofs.Common.{◌≡◌, List, ℕ, [], ◌∷◌, None, refl, codes}
use Rattle.mj_ast.specs.declared.keyword.Keyword.TheVariants as keyword
use Rattle.std.specs.Fmt.{digits}
use Rattle.mj_ast.specs.declared.sign.Sign.TheVariants.{Plus, Star, Open, Close, Comma, Colon}
use Rattle.mj_ast.specs.declared.expr.Scope.TheVariants.{Local}
use Rattle.mj_ast.specs.Syntax.{Chain, Done, Literal, Var, No}
use Rattle.mj_ast.specs.Commands.{Part, Put, Named, Label, SerialWord, Text, Place}
use Rattle.mj_ast.specs.Tokens.{lexemes, tokens}
use Rattle.mj_expr.specs.Reads.{limits}
use Rattle.mj_line.specs.Machine.{Begin, At, Outcome, Accept, StuckAt, TooLong, clause, dotted, empty_line, headed, labelled, with_clause, run}

-- what the machine makes of the bytes
abbrev read : List ℕ → Outcome
read bytes = run (limits 64) (tokens bytes) (At Begin)

formals_and_dots : read (codes "A(X,Y) . .H") ≡ Accept (with_clause (dotted (dotted (headed (codes "A") (codes "X" ∷ codes "Y" ∷ [])))) (clause None keyword.Halt []))
unfolding lexemes
formals_and_dots = refl

no_formals : read (codes "A()") ≡ Accept (labelled (codes "A"))
unfolding lexemes
no_formals = refl

dots_alone : read (codes " . ;c") ≡ Accept (dotted empty_line)
unfolding lexemes
dots_alone = refl

-- a name that stands twice is refused where it stands again, and a `)` where a name is wanted
twice : read (codes "A(X,X)") ≡ StuckAt 2
unfolding lexemes
twice = refl

not_named : read (codes "A(X,)") ≡ StuckAt 1
unfolding lexemes
not_named = refl

-- behind formals stands no comment without a blank, and before them no blank
comment_at_formals : read (codes "A(X);c") ≡ StuckAt 1
unfolding lexemes
comment_at_formals = refl

blank_before_formals : read (codes "A (X)") ≡ StuckAt 3
unfolding lexemes
blank_before_formals = refl

-- the first dot stands behind a blank
dot_at_a_label : read (codes "A.") ≡ StuckAt 1
unfolding lexemes
dot_at_a_label = refl

dot_in_front : read (codes ".H") ≡ StuckAt 2
unfolding lexemes
dot_in_front = refl

-- a formal over its limit is too long
long_formal : read (codes "A(ABCDEFGHIJKLMNOPQRSTUVWXYZ012345)") ≡ TooLong
unfolding lexemes
long_formal = refl

-- `H` is HALT, or HANG where an argument stands behind it
abbrev five : Part
five = Text 0 (Chain (Literal (codes "5")) Done)

abbrev an_a : Part
an_a = Place 0 (Var Local (codes "A") No)

halts : read (codes " H") ≡ Accept (with_clause empty_line (clause None keyword.Halt []))
unfolding lexemes
halts = refl

halts_before_a_comment : read (codes " H ;c") ≡ Accept (with_clause empty_line (clause None keyword.Halt []))
unfolding lexemes
halts_before_a_comment = refl

hangs : read (codes " h 5") ≡ Accept (with_clause empty_line (clause None keyword.Hang (five ∷ [])))
unfolding lexemes digits
hangs = refl

halt_has_no_argument : read (codes " HALT 5") ≡ StuckAt 1
unfolding lexemes
halt_has_no_argument = refl

hang_has_one : read (codes " HANG") ≡ StuckAt 0
unfolding lexemes
hang_has_one = refl

-- behind the first colon of JOB stands a second one
waits : read (codes " J A::5") ≡ Accept (with_clause empty_line (clause None keyword.Job (Label (codes "A") ∷ Put Colon ∷ Put Colon ∷ five ∷ [])))
unfolding lexemes digits
waits = refl

waits_behind_two : read (codes " J A:5") ≡ StuckAt 1
unfolding lexemes
waits_behind_two = refl

-- an argument of LOCK has one sign at most
locks : read (codes " L +(A,A):5") ≡ Accept (with_clause empty_line (clause None keyword.Lock (Put Plus ∷ Put Open ∷ an_a ∷ Put Comma ∷ an_a ∷ Put Close ∷ Put Colon ∷ five ∷ [])))
unfolding lexemes digits
locks = refl

one_sign : read (codes " L +-A") ≡ StuckAt 2
unfolding lexemes
one_sign = refl

-- the argument of TSTART is a name, names in parentheses or `*`, and then perhaps the word of SERIAL
abbrev starts_with : List Part → Outcome
starts_with parts = Accept (with_clause empty_line (clause None keyword.TStart parts))

restores_all : read (codes " TS *:(s)") ≡ starts_with (Put Star ∷ Put Colon ∷ Put Open ∷ SerialWord ∷ Put Close ∷ [])
unfolding lexemes
restores_all = refl

restores_none : read (codes " TSTART ():Serial") ≡ starts_with (Put Open ∷ Put Close ∷ Put Colon ∷ SerialWord ∷ [])
unfolding lexemes
restores_none = refl

restores_two : read (codes " tstart (A,B)") ≡ starts_with (Put Open ∷ Named (codes "A") ∷ Put Comma ∷ Named (codes "B") ∷ Put Close ∷ [])
unfolding lexemes
restores_two = refl

restores_one : read (codes " TS A ;c") ≡ starts_with (Named (codes "A") ∷ [])
unfolding lexemes
restores_one = refl

restarts_not : read (codes " TS") ≡ starts_with []
unfolding lexemes
restarts_not = refl

-- there is one argument, and the word is no other
one_argument : read (codes " TS A,B") ≡ StuckAt 2
unfolding lexemes
one_argument = refl

another_word : read (codes " TS ():SERIALS") ≡ StuckAt 1
unfolding lexemes
another_word = refl

serial_alone : read (codes " TS :S") ≡ StuckAt 2
unfolding lexemes
serial_alone = refl

-- the others have none
break_has_none : read (codes " B X") ≡ StuckAt 1
unfolding lexemes
break_has_none = refl

ends : read (codes " TC  TRO  TRE  B") ≡ Accept (with_clause (with_clause
    (with_clause (with_clause empty_line (clause None keyword.TCommit [])) (clause None keyword.TRollback [])) (clause None keyword.TRestart []))
    (clause None keyword.Break []))
unfolding lexemes
ends = refl
