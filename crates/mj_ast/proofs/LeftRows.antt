-- Rows of the table of what is left out: a token that stands for a construct by its row, and one that doesn't.
use Rattle.std.proofs.Common.{◌≡◌, ◌∷◌, ◌++◌, ℕ, List, [], None, true, false, inl, inr, lit≤, refl, codes}
use Rattle.mj_ast.specs.declared.construct.Construct.TheVariants as construct
use Rattle.mj_ast.specs.declared.sign.Sign.TheVariants.{Star, Slash, OpenBracket, Exclamation, Open, Close, Comma, Colon, Dot}
use Rattle.mj_ast.specs.declared.routine.FormatMark.TheVariants.{NewLine}
use Rattle.mj_ast.specs.declared.keyword.Keyword.TheVariants as keyword
use Rattle.mj_ast.specs.declared.keyword.Verb.TheVariants.{Of}
use Rattle.mj_ast.specs.Syntax.{Chain, Done, Literal, Shown, Format, Write, Prompted, Arranged, Read}
use Rattle.mj_ast.specs.Tokens.{Token, Word, Called, Special, Invoked, Digits, Quoted, Signed, Stray, lexemes, tokens}
use Rattle.mj_ast.specs.LeftOut.{StandsFor, MayStand}

wrong : false ≡ true → ⊥
wrong e = cc

-- ---- rows that look at tokens alone

exponent : StandsFor construct.Exponent (tokens (codes " W 1")) (Word (codes "E5")) []
unfolding lexemes
exponent = refl

no_exponent : StandsFor construct.Exponent (tokens (codes " W 1")) (Word (codes "e5")) [] → ⊥
unfolding lexemes
no_exponent h = wrong h

power : StandsFor construct.Power (tokens (codes " W 2*")) (Signed Star) (tokens (codes "3"))
unfolding lexemes
power = refl

no_power : StandsFor construct.Power (tokens (codes " W ")) (Signed Star) (tokens (codes "3")) → ⊥
unfolding lexemes
no_power h = wrong h

naked : StandsFor construct.Naked (tokens (codes " W ^")) (Signed Open) (tokens (codes "1)"))
unfolding lexemes
naked = refl

no_naked : StandsFor construct.Naked (tokens (codes " D ")) (Signed Open) (tokens (codes "1)")) → ⊥
unfolding lexemes
no_naked h = wrong h

environment : StandsFor construct.Environment (tokens (codes " W ^")) (Stray 124) []
unfolding lexemes
environment = refl

no_environment : StandsFor construct.Environment (tokens (codes " W ")) (Signed OpenBracket) [] → ⊥
unfolding lexemes
no_environment h = wrong h

structured : StandsFor construct.Structured (tokens (codes " W ^")) (Special (codes "J")) []
unfolding lexemes
structured = refl

no_structured : StandsFor construct.Structured (tokens (codes " W ")) (Special (codes "J")) [] → ⊥
unfolding lexemes
no_structured h = wrong h

justify_decimals : StandsFor construct.JustifyDecimals (tokens (codes " W $J(X(1,2),2")) (Signed Comma) []
unfolding lexemes
justify_decimals = refl

no_decimals : StandsFor construct.JustifyDecimals (tokens (codes " W $J(X(1,2)")) (Signed Comma) [] → ⊥
unfolding lexemes
no_decimals h = wrong h

query_backward : StandsFor construct.QueryBackward (tokens (codes " W $Q(X(1,2)")) (Signed Comma) []
unfolding lexemes
query_backward = refl

no_backward : StandsFor construct.QueryBackward (tokens (codes " W $Q(X(1")) (Signed Comma) [] → ⊥
unfolding lexemes
no_backward h = wrong h

name_depth : StandsFor construct.NameDepth (tokens (codes " W $NA(X")) (Signed Comma) []
unfolding lexemes
name_depth = refl

no_depth : StandsFor construct.NameDepth (tokens (codes " W $D(X")) (Signed Comma) [] → ⊥
unfolding lexemes
no_depth h = wrong h

order_names : StandsFor construct.OrderNames (tokens (codes " W $O(^X")) (Signed Close) []
unfolding lexemes
order_names = refl

no_names : StandsFor construct.OrderNames (tokens (codes " W $O(X(1)")) (Signed Close) [] → ⊥
unfolding lexemes
no_names h = wrong h

function : StandsFor construct.Function (tokens (codes " W ")) (Called (codes "TEXT")) []
function = refl

no_function : StandsFor construct.Function (tokens (codes " W ")) (Called (codes "L")) [] → ⊥
no_function h = wrong h

variable : StandsFor construct.Variable (tokens (codes " W ")) (Special (codes "H")) []
variable = refl

no_variable : StandsFor construct.Variable (tokens (codes " W ")) (Special (codes "x")) [] → ⊥
no_variable h = wrong h

-- digits are digits as the label of a function too, and `$$` has a `$`
label_exponent : StandsFor construct.Exponent (tokens (codes " W $$1")) (Word (codes "E5")) []
unfolding lexemes
label_exponent = refl

structured_function : StandsFor construct.Structured (tokens (codes " W ^")) (Invoked (codes "A")) []
unfolding lexemes
structured_function = refl

-- a name is wanted behind `$$`
indirect_function : StandsFor construct.Indirection (tokens (codes " W $$")) (Stray 64) (Word (codes "X") ∷ [])
unfolding lexemes
indirect_function = (refl, inl refl)

-- ---- rows that look at what may stand there too: the token alone isn't it

no_indirection : StandsFor construct.Indirection (tokens (codes " W ")) (Stray 63) [] → ⊥
no_indirection h = wrong h.0

no_fraction : StandsFor construct.Fraction (tokens (codes " W 1")) (Signed Comma) [] → ⊥
no_fraction h = wrong h.0

no_pattern : StandsFor construct.Pattern (tokens (codes " W X")) (Stray 64) [] → ⊥
no_pattern h = wrong h.0

no_reference : StandsFor construct.ByReference (tokens (codes " D A(")) (Signed Dot) (Digits (codes "5") ∷ []) → ⊥
no_reference h = wrong h.0

no_offset : StandsFor construct.EntryOffset (tokens (codes " D A^R")) (Signed Comma) [] → ⊥
no_offset h = wrong h.0

no_read_length : StandsFor construct.ReadLength (tokens (codes " R X")) (Signed Colon) [] → ⊥
no_read_length h = wrong h.0

no_extract : StandsFor construct.SetExtract (tokens (codes " S ")) (Called (codes "P")) [] → ⊥
no_extract h = wrong h.0

no_command : StandsFor construct.Command (tokens (codes " ")) (Word (codes "HANG")) [] → ⊥
no_command h = wrong h.0

no_space : StandsFor construct.MnemonicSpace (tokens (codes " W ")) (Signed Star) [] → ⊥
no_space (inl h) = wrong h.0
no_space (inr h) = wrong h.0

-- the last of some tokens
nothing_behind : (k : Token) (ks : List Token) (t : Token) → [] ≡ ks ++ t ∷ [] → ⊥
nothing_behind k [] t e = cc
nothing_behind k (x ∷ ks) t e = cc

last_same : (ks ls : List Token) (s t : Token) → ks ++ s ∷ [] ≡ ls ++ t ∷ [] → s ≡ t
last_same [] [] s t e = cc
last_same [] (l ∷ ls) s t e = absurd (nothing_behind s ls t cc)
last_same (k ∷ ks) [] s t e = absurd (nothing_behind t ks s cc)
last_same (k ∷ ks) (l ∷ ls) s t e = last_same ks ls s t cc

no_colon : (w : List ℕ) → Word w ≡ Signed Colon → ⊥
no_colon w e = cc

-- the `:` itself isn't behind one
no_parameters : StandsFor construct.ProcessParameters (tokens (codes " J A")) (Signed Colon) [] → ⊥
unfolding lexemes
no_parameters h = no_colon (codes "A") (last_same (tokens (codes " J ")) h.0 (Word (codes "A")) (Signed Colon) h.1)

-- behind ` W ` a text in quotes may stand, and so may a run of `!`
text : MayStand (tokens (codes " W ")) (Quoted [])
unfolding lexemes
text = record {
  rest = [];
  line = record { label = None; formals = []; level = 1; steps = record { condition = None; command = Write (Shown (Chain (Literal []) Done) ∷ []) } ∷ [] };
  spells = (
    record { label = None; formals = []; level = 1; steps = record { condition = None; command = Write (Shown (Chain (Literal []) Done) ∷ []) } ∷ [] },
    (
      [],
      tokens (codes " W \"\""),
      0,
      refl,
      record { front = []; names = []; indent = []; cut = refl; label_is = refl; formals_are = (refl, refl); dots_are = refl },
      refl,
      (
        1,
        tokens (codes "W \"\""),
        [],
        lit≤ tt,
        refl,
        (codes "W", [], tokens (codes " \"\""), refl, (Of keyword.Write, refl, refl), refl, (tokens (codes "\"\""), refl, (tokens (codes "\"\""), [], refl, (refl, refl), refl)), refl, tt),
        inl (0, refl),
      ),
    ),
    refl,
  );
}

marks : MayStand (tokens (codes " W ")) (Signed Exclamation)
unfolding lexemes
marks = record {
  rest = [];
  line = record { label = None; formals = []; level = 1; steps = record { condition = None; command = Write (Format (record { marks = NewLine ∷ []; column = None }) ∷ []) } ∷ [] };
  spells = (
    record { label = None; formals = []; level = 1; steps = record { condition = None; command = Write (Format (record { marks = NewLine ∷ []; column = None }) ∷ []) } ∷ [] },
    (
      [],
      tokens (codes " W !"),
      0,
      refl,
      record { front = []; names = []; indent = []; cut = refl; label_is = refl; formals_are = (refl, refl); dots_are = refl },
      refl,
      (
        1,
        tokens (codes "W !"),
        [],
        lit≤ tt,
        refl,
        (codes "W", [], tokens (codes " !"), refl, (Of keyword.Write, refl, refl), refl, (tokens (codes "!"), refl, (tokens (codes "!"), [], refl, refl, refl)), refl, tt),
        inl (0, refl),
      ),
    ),
    refl,
  );
}

mnemonic_space : StandsFor construct.MnemonicSpace (tokens (codes " W ")) (Signed Slash) []
unfolding lexemes
mnemonic_space = inr (refl, (text, marks))

-- behind ` R ` too, where no other operand may stand
prompt : MayStand (tokens (codes " R ")) (Quoted [])
unfolding lexemes
prompt = record {
  rest = [];
  line = record { label = None; formals = []; level = 1; steps = record { condition = None; command = Read (Prompted [] ∷ []) } ∷ [] };
  spells = (
    record { label = None; formals = []; level = 1; steps = record { condition = None; command = Read (Prompted [] ∷ []) } ∷ [] },
    (
      [],
      tokens (codes " R \"\""),
      0,
      refl,
      record { front = []; names = []; indent = []; cut = refl; label_is = refl; formals_are = (refl, refl); dots_are = refl },
      refl,
      (
        1,
        tokens (codes "R \"\""),
        [],
        lit≤ tt,
        refl,
        (codes "R", [], tokens (codes " \"\""), refl, (Of keyword.Read, refl, refl), refl, (tokens (codes "\"\""), refl, (tokens (codes "\"\""), [], refl, (refl, lit≤ tt), refl)), refl, tt),
        inl (0, refl),
      ),
    ),
    refl,
  );
}

read_marks : MayStand (tokens (codes " R ")) (Signed Exclamation)
unfolding lexemes
read_marks = record {
  rest = [];
  line = record { label = None; formals = []; level = 1; steps = record { condition = None; command = Read (Arranged (record { marks = NewLine ∷ []; column = None }) ∷ []) } ∷ [] };
  spells = (
    record { label = None; formals = []; level = 1; steps = record { condition = None; command = Read (Arranged (record { marks = NewLine ∷ []; column = None }) ∷ []) } ∷ [] },
    (
      [],
      tokens (codes " R !"),
      0,
      refl,
      record { front = []; names = []; indent = []; cut = refl; label_is = refl; formals_are = (refl, refl); dots_are = refl },
      refl,
      (
        1,
        tokens (codes "R !"),
        [],
        lit≤ tt,
        refl,
        (codes "R", [], tokens (codes " !"), refl, (Of keyword.Read, refl, refl), refl, (tokens (codes "!"), refl, (tokens (codes "!"), [], refl, refl, refl)), refl, tt),
        inl (0, refl),
      ),
    ),
    refl,
  );
}

read_space : StandsFor construct.MnemonicSpace (tokens (codes " R ")) (Signed Slash) []
unfolding lexemes
read_space = inr (refl, (prompt, read_marks))
