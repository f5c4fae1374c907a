-- Rows of the definitions of what a line is refused for, and of constructs that are left out where a token may stand: what the machine
-- makes of a line shows them.
use Rattle.std.proofs.Common.{◌≡◌, ℕ, zero, suc, ◌+◌, ◌≤◌, List, [], ◌∷◌, ◌++◌, length, drop, replicate, true, false, Some, None, inl, inr, lit≤, refl, sym, subst, arith, codes}
use Rattle.std.proofs.lemmas.List.{take-append-drop}
use Rattle.std.specs.Fmt.{digits}
use Rattle.mj_oper.specs.declared.op.Op.TheVariants as binary
use Rattle.mj_ast.specs.declared.sign.Sign.TheVariants.{Plus, Star, Underscore, Comma, Colon, Question, Caret, Close, Dot}
use Rattle.mj_ast.specs.declared.routine.Serial.TheVariants as serial
use Rattle.mj_ast.specs.declared.keyword.Keyword.TheVariants as keyword
use Rattle.mj_ast.specs.declared.construct.Construct.TheVariants as construct
use Rattle.mj_ast.specs.declared.expr.Scope.TheVariants.{Local}
use Rattle.mj_ast.specs.declared.function.Special.TheVariants as special
use Rattle.mj_ast.specs.Syntax.{Expr, Exprs, Chain, Done, Then, Literal, Value, Intrinsic, Group, Variable, Var, No, More, Pieces, One, Shown, Command, Set, Write, Halt, Do, Everything, TStart, Line}
use Rattle.mj_ast.specs.Tokens.{Token, Word, Called, Special, Signed, Stray, lexemes, tokens}
use Rattle.mj_ast.specs.Lines.{SpellsLine, IsStuck, IsDeep, HasOverlong, IsLong, HasLabelOf, plain_line}
use Rattle.mj_ast.specs.LeftOut.{StandsFor, MayStand, EndsInCommand}
use Rattle.mj_ast.specs.Routines.{IsRefusalOfLine, Long, Twice, StuckAt, LeftOutAt, DeepAt}
use Rattle.mj_expr.specs.Reads.{limits}
use Rattle.mj_line.specs.Sentences.{sentence_of}
use Rattle.mj_line.specs.Machine.{Begin, At, Accept, run}
use Rattle.mj_line.specs.Machine as machine
use Rattle.mj_line.specs.Said.{IsRead}
use Rattle.mj_line.proofs.Said.{short_stuck}
use Rattle.mj_line.proofs.Outcomes.{said_read, said_stuck, said_deep, said_long}

-- ---- what the machine tells

abbrev read : (ks : List Token) (w : Line) → run (limits 64) ks (At Begin) ≡ Accept (sentence_of w) → IsRead ks (plain_line w)
read ks w e = said_read ks (sentence_of w) w (plain_line w) refl refl e

stands : (front : List Token) (t : Token) (rest : List Token) (w : Line) → run (limits 64) ((front ++ t ∷ []) ++ rest) (At Begin) ≡ Accept (sentence_of w) → MayStand front t
stands front t rest w e = record { rest = rest; line = plain_line w; spells = (read ((front ++ t ∷ []) ++ rest) w e).spells }

stuck_at : (ks : List Token) (n k : ℕ) → run (limits 64) ks (At Begin) ≡ machine.StuckAt n → k + n ≡ length ks → IsStuck ks k
stuck_at ks n k e h =
    let s = said_stuck ks n e in
    let same : s.place ≡ k = let i = s.left_is in omega arith in
    let P : ℕ → Type 0 = λ p. IsStuck ks p in
    subst P same s.stuck

deep_at : (ks : List Token) (n k : ℕ) → run (limits 64) ks (At Begin) ≡ machine.DeepAt n → k + n ≡ length ks → IsDeep ks k
deep_at ks n k e h =
    let d = said_deep ks n e in
    let same : d.place ≡ k = let i = d.left_is in omega arith in
    let P : ℕ → Type 0 = λ p. IsDeep ks p in
    subst P same d.deep

-- what is read is nowhere too deep
not_deep : (ks : List Token) (l : Line) → IsRead ks l → (k : ℕ) → IsDeep ks k → ⊥
not_deep ks l r k d =
    let P : List Token → Type 0 = λ xs. SpellsLine xs l in
    d.beyond 31 (record { rest = drop (k + 1) ks; line = l; spells = subst P (sym (take-append-drop (k + 1) ks)) r.spells; within = r.within })

not_long : (line : List ℕ) → length line ≤ 8192 → (HasOverlong (tokens line) → ⊥) → IsLong line → ⊥
not_long line h s (inl l) = omega arith
not_long line h s (inr o) = s o

no_label : (ks : List Token) → HasLabelOf [] ks → ⊥
no_label ks h = let less = h.2.1 in omega (arith, less)

wrong : false ≡ true → ⊥
wrong e = cc

-- ---- lines

-- a line of one command
abbrev of : Command → Line
of c = record { label = None; formals = []; level = 1; steps = record { condition = None; command = c } ∷ [] }

abbrev x : Variable
x = Var Local (codes "X") No

abbrev ex : Expr
ex = Chain (Value x) Done

abbrev test : Expr
test = Chain (Intrinsic special.Test) Done

abbrev one : Expr
one = Chain (Literal (codes "1")) Done

-- a number in so many parentheses
abbrev nested : ℕ → Expr
nested zero = one
nested (suc n) = Chain (Group (nested n)) Done

-- `A H`
abbrev halts : Line
halts = record { label = Some (codes "A"); formals = []; level = 1; steps = record { condition = None; command = Halt } ∷ [] }

-- ---- what is left out where a name, an operand, an operator, an actual, a destination or a command may stand, or behind a label

indirection : StandsFor construct.Indirection (tokens (codes " W ")) (Stray 64) (tokens (codes "X"))
unfolding lexemes
indirection = (refl, inr (stands (tokens (codes " W ")) (Word (codes "A")) [] (of (Write (Shown (Chain (Value (Var Local (codes "A") No)) Done) ∷ []))) refl))

formal : StandsFor construct.Indirection (tokens (codes "A(")) (Stray 64) (tokens (codes "X)"))
unfolding lexemes
formal = (refl, inl refl)

operand : MayStand (tokens (codes " W ")) (Special (codes "T"))
unfolding lexemes
operand = stands (tokens (codes " W ")) (Special (codes "T")) [] (of (Write (Shown test ∷ []))) refl

fraction : StandsFor construct.Fraction (tokens (codes " W ")) (Signed Dot) (tokens (codes "5"))
unfolding lexemes
fraction = (refl, inr (refl, operand))

point : StandsFor construct.Fraction (tokens (codes " W 1")) (Signed Dot) []
unfolding lexemes
point = (refl, inl refl)

pattern : StandsFor construct.Pattern (tokens (codes " W X")) (Signed Question) (tokens (codes "1N"))
unfolding lexemes
pattern = (refl, stands (tokens (codes " W X")) (Signed Underscore) (tokens (codes "X")) (of (Write (Shown (Chain (Value x) (Then binary.Join (Value x) Done)) ∷ []))) refl)

by_reference : StandsFor construct.ByReference (tokens (codes " D A(")) (Signed Dot) (tokens (codes "X)"))
unfolding lexemes
by_reference = (
  refl,
  (
    stands (tokens (codes " D A(")) (Special (codes "T")) (tokens (codes ")"))
        (of (Do (record { target = record { label = Some (codes "A"); routine = None }; actuals = Some test ∷ []; condition = None } ∷ []))) refl,
    stands (tokens (codes " D A(")) (Signed Close) [] (of (Do (record { target = record { label = Some (codes "A"); routine = None }; actuals = None ∷ []; condition = None } ∷ []))) refl,
  ),
)

entry_offset : StandsFor construct.EntryOffset (tokens (codes " D A")) (Signed Plus) (tokens (codes "1"))
unfolding lexemes
entry_offset = (
  refl,
  (
    refl,
    stands (tokens (codes " D A")) (Signed Caret) (tokens (codes "R"))
        (of (Do (record { target = record { label = Some (codes "A"); routine = Some (codes "R") }; actuals = []; condition = None } ∷ []))) refl,
  ),
)

set_extract : StandsFor construct.SetExtract (tokens (codes " S ")) (Called (codes "E")) (tokens (codes "(X)=1"))
unfolding lexemes
set_extract = (refl, stands (tokens (codes " S ")) (Called (codes "P")) (tokens (codes "(X,X)=X")) (of (Set (record { targets = One (Pieces x (More ex No)); value = ex } ∷ []))) refl)

command : StandsFor construct.Command (tokens (codes " ")) (Word (codes "ABC")) []
unfolding lexemes
command = (refl, (refl, stands (tokens (codes " ")) (Word (codes "W")) (tokens (codes " X")) (of (Write (Shown ex ∷ []))) refl))

-- ---- the argument of TSTART

begun : EndsInCommand keyword.TStart (tokens (codes " TS"))
unfolding lexemes
begun = record { single = refl; line = of (TStart None); spells = (read (tokens (codes " TS")) (of (TStart None)) refl).spells; last = refl }

restored : EndsInCommand keyword.TStart (tokens (codes " TS *"))
unfolding lexemes
restored =
    let c = TStart (Some (record { restored = Everything; serial = serial.No })) in
    record { single = refl; line = of c; spells = (read (tokens (codes " TS *")) (of c) refl).spells; last = refl }

bare_serial : StandsFor construct.BareSerial (tokens (codes " TS ")) (Signed Colon) (tokens (codes "S"))
unfolding lexemes
bare_serial = (refl, ((tokens (codes " TS"), refl, begun), stands (tokens (codes " TS ")) (Signed Star) [] (of (TStart (Some (record { restored = Everything; serial = serial.No })))) refl))

transaction_id : StandsFor construct.TransactionId (tokens (codes " TS *:")) (Word (codes "t")) (tokens (codes "=X"))
unfolding lexemes
transaction_id = (refl, (tokens (codes " TS *"), inl refl, restored))

enclosed_id : StandsFor construct.TransactionId (tokens (codes " TS *:(")) (Word (codes "TRANSACTIONID")) (tokens (codes "=X)"))
unfolding lexemes
enclosed_id = (refl, (tokens (codes " TS *"), inr refl, restored))

-- no colon begins such an argument where a comma stands, and no word but one with a `T`
not_bare_serial : StandsFor construct.BareSerial (tokens (codes " TS ")) (Signed Comma) [] → ⊥
not_bare_serial h = wrong h.0

not_transaction_id : StandsFor construct.TransactionId (tokens (codes " TS *:")) (Word (codes "SERIALS")) [] → ⊥
not_transaction_id h = wrong h.0

-- ---- too deep: the 65th parenthesis, and not the 64th

too_deep : IsDeep (tokens (codes " W " ++ replicate 65 40)) 67
unfolding lexemes
too_deep = deep_at (tokens (codes " W " ++ replicate 65 40)) 1 67 refl refl

deep_enough : (k : ℕ) → IsDeep (tokens (codes " W " ++ (replicate 64 40 ++ 49 ∷ replicate 64 41))) k → ⊥
unfolding lexemes digits
deep_enough = not_deep (tokens (codes " W " ++ (replicate 64 40 ++ 49 ∷ replicate 64 41))) _
    (read (tokens (codes " W " ++ (replicate 64 40 ++ 49 ∷ replicate 64 41))) (of (Write (Shown (nested 64) ∷ []))) refl)

-- ---- over a limit: a word of 32 bytes, and not of 31; the 31st comma of a list, and not the 30th

-- so many subscripts, the last with what stands behind it
abbrev ones : ℕ → List ℕ → List ℕ
ones zero rest = 49 ∷ rest
ones (suc n) rest = 49 ∷ 44 ∷ ones n rest

abbrev counted : ℕ → Exprs
counted zero = No
counted (suc n) = More one (counted n)

long_word : HasOverlong (tokens (codes " W ABCDEFGHIJKLMNOPQRSTUVWXYZ012345"))
unfolding lexemes
long_word = said_long (limits 64) (tokens (codes " W ABCDEFGHIJKLMNOPQRSTUVWXYZ012345")) (lit≤ tt) refl refl

short_word : HasOverlong (tokens (codes " W ABCDEFGHIJKLMNOPQRSTUVWXYZ01234")) → ⊥
unfolding lexemes
short_word = (read (tokens (codes " W ABCDEFGHIJKLMNOPQRSTUVWXYZ01234")) (of (Write (Shown (Chain (Value (Var Local (codes "ABCDEFGHIJKLMNOPQRSTUVWXYZ01234") No)) Done) ∷ []))) refl).short

long_list : HasOverlong (tokens (codes " W X(" ++ ones 31 (codes ")")))
unfolding lexemes digits
long_list = said_long (limits 64) (tokens (codes " W X(" ++ ones 31 (codes ")"))) (lit≤ tt) refl refl

short_list : HasOverlong (tokens (codes " W X(" ++ ones 30 (codes ")"))) → ⊥
unfolding lexemes digits
short_list = (read (tokens (codes " W X(" ++ ones 30 (codes ")"))) (of (Write (Shown (Chain (Value (Var Local (codes "X") (counted 31))) Done) ∷ []))) refl).short

-- ---- refusals of a line

read_halts : IsRead (tokens (codes "A H")) halts
unfolding lexemes
read_halts = read (tokens (codes "A H")) halts refl

refused_long : IsRefusalOfLine [] (codes " W ABCDEFGHIJKLMNOPQRSTUVWXYZ012345") Long
refused_long = inr long_word

not_refused_long : IsRefusalOfLine [] (codes "A H") Long → ⊥
not_refused_long = not_long (codes "A H") (lit≤ tt) read_halts.short

refused_twice : IsRefusalOfLine (codes "B" ∷ codes "A" ∷ []) (codes "A H") Twice
unfolding lexemes
refused_twice = (not_long (codes "A H") (lit≤ tt) read_halts.short, (codes "A", refl, (1, lit≤ tt, refl)))

not_refused_twice : IsRefusalOfLine [] (codes "A H") Twice → ⊥
not_refused_twice h = no_label (tokens (codes "A H")) h.1

-- ` W 1+` is stuck at its end, where nothing stands
refused_stuck : IsRefusalOfLine [] (codes " W 1+") (StuckAt 6)
unfolding lexemes digits
refused_stuck = (
  not_long (codes " W 1+") (lit≤ tt) (said_stuck (tokens (codes " W 1+")) 0 refl).short,
  no_label (tokens (codes " W 1+")),
  (record { place = 5; stuck = stuck_at (tokens (codes " W 1+")) 0 5 refl refl; column_is = refl }, refl),
)

not_refused_stuck : (c : ℕ) → IsRefusalOfLine [] (codes "A H") (StuckAt c) → ⊥
not_refused_stuck c h = h.2.0.stuck.whole halts read_halts.spells

-- ` W X?1N` is stuck at the `?`, which stands for a pattern
refused_left_out : IsRefusalOfLine [] (codes " W X?1N") (LeftOutAt 5 construct.Pattern)
unfolding lexemes
refused_left_out = (
  not_long (codes " W X?1N") (lit≤ tt) (said_stuck (tokens (codes " W X?1N")) 3 refl).short,
  no_label (tokens (codes " W X?1N")),
  (
    record { place = 4; stuck = stuck_at (tokens (codes " W X?1N")) 3 4 refl refl; column_is = refl },
    inr ((λ h. wrong h.0), inr ((λ h. wrong h.0), inr ((λ h. wrong h), inr ((λ h. wrong h), inl (pattern, refl))))),
  ),
)

not_refused_left_out : (c : ℕ) → IsRefusalOfLine [] (codes "A H") (LeftOutAt c construct.Pattern) → ⊥
not_refused_left_out c h = h.2.0.stuck.whole halts read_halts.spells

-- with more levels allowed the line would only end too early, so no limit but that of the levels is met
refused_deep : IsRefusalOfLine [] (codes " W " ++ replicate 65 40) (DeepAt 68)
unfolding lexemes
refused_deep = (
  not_long (codes " W " ++ replicate 65 40) (lit≤ tt) (short_stuck (record { depth = 100; width = 31 }) (tokens (codes " W " ++ replicate 65 40)) 0 (lit≤ tt) refl refl),
  no_label (tokens (codes " W " ++ replicate 65 40)),
  record { place = 67; deep = too_deep; column_is = refl },
)

not_refused_deep : (c : ℕ) → IsRefusalOfLine [] (codes "A H") (DeepAt c) → ⊥
not_refused_deep c h = not_deep (tokens (codes "A H")) halts read_halts h.2.place h.2.deep
