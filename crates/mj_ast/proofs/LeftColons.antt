-- Rows of the table of what is left out that look at an argument of JOB, OPEN, USE or READ before them.
use Rattle.std.specs.Fmt.{digits}
use Rattle.std.proofs.Common.{Some, ◌∷◌, Option, [], None, inl, inr, lit≤, refl, codes}
use Rattle.mj_ast.specs.declared.construct.Construct.TheVariants as construct
use Rattle.mj_ast.specs.declared.sign.Sign.TheVariants.{Hash, Colon}
use Rattle.mj_ast.specs.declared.routine.ReadMode.TheVariants.{Line}
use Rattle.mj_ast.specs.declared.expr.Scope.TheVariants.{Local}
use Rattle.mj_ast.specs.declared.keyword.Keyword.TheVariants as keyword
use Rattle.mj_ast.specs.declared.keyword.Verb.TheVariants.{Of}
use Rattle.mj_ast.specs.Syntax.{Expr, Variable, Var, No, Chain, Done, Literal, Started, Job, Opened, OpenDevice, UseDevice, Into, Read}
use Rattle.mj_ast.specs.Tokens.{Word, Signed, lexemes, tokens}
use Rattle.mj_ast.specs.LeftOut.{StandsFor, MayStand, EndsInCommand}

-- behind ` J A:` a second `:` may stand
abbrev one : Expr
one = Chain (Literal (49 ∷ [])) Done

abbrev start : Option Expr → Started
start timeout = record { target = record { label = Some (codes "A"); routine = None }; actuals = []; timeout = timeout }

second_colon : MayStand (tokens (codes " J A:")) (Signed Colon)
unfolding lexemes digits
second_colon = record {
  rest = tokens (codes "1");
  line = record { label = None; formals = []; level = 1; steps = record { condition = None; command = Job (start (Some one) ∷ []) } ∷ [] };
  spells = (
    record { label = None; formals = []; level = 1; steps = record { condition = None; command = Job (start (Some one) ∷ []) } ∷ [] },
    (
      [],
      tokens (codes " J A::1"),
      0,
      refl,
      record { front = []; names = []; indent = []; cut = refl; label_is = refl; formals_are = (refl, refl); dots_are = refl },
      refl,
      (
        1,
        tokens (codes "J A::1"),
        [],
        lit≤ tt,
        refl,
        (
          codes "J",
          [],
          tokens (codes " A::1"),
          refl,
          (Of keyword.Job, refl, refl),
          refl,
          (
            tokens (codes "A::1"),
            refl,
            (
              tokens (codes "A"),
              tokens (codes "::1"),
              refl,
              inl (refl, lit≤ tt),
              (
                Signed Colon ∷ [],
                tokens (codes ":1"),
                refl,
                refl,
                (
                  Signed Colon ∷ [],
                  tokens (codes "1"),
                  refl,
                  refl,
                  (tokens (codes "1"), [], refl, (refl, refl), refl),
                ),
              ),
            ),
          ),
          refl,
          tt,
        ),
        inl (0, refl),
      ),
    ),
    refl,
  );
}

job : EndsInCommand keyword.Job (tokens (codes " J A"))
unfolding lexemes
job = record {
  single = refl;
  line = record { label = None; formals = []; level = 1; steps = record { condition = None; command = Job (start None ∷ []) } ∷ [] };
  spells = (
    record { label = None; formals = []; level = 1; steps = record { condition = None; command = Job (start None ∷ []) } ∷ [] },
    (
      [],
      tokens (codes " J A"),
      0,
      refl,
      record { front = []; names = []; indent = []; cut = refl; label_is = refl; formals_are = (refl, refl); dots_are = refl },
      refl,
      (
        1,
        tokens (codes "J A"),
        [],
        lit≤ tt,
        refl,
        (codes "J", [], tokens (codes " A"), refl, (Of keyword.Job, refl, refl), refl, (tokens (codes "A"), refl, (tokens (codes "A"), [], refl, inl (refl, lit≤ tt), refl)), refl, tt),
        inl (0, refl),
      ),
    ),
    refl,
  );
  last = refl;
}

process_parameters : StandsFor construct.ProcessParameters (tokens (codes " J A:")) (Word (codes "X")) []
unfolding lexemes
process_parameters = (tokens (codes " J A"), refl, job, second_colon)

-- behind ` O 1:` too
abbrev device : Option Expr → Opened
device timeout = record { device = one; timeout = timeout }

device_colon : MayStand (tokens (codes " O 1:")) (Signed Colon)
unfolding lexemes digits
device_colon = record {
  rest = tokens (codes "1");
  line = record { label = None; formals = []; level = 1; steps = record { condition = None; command = OpenDevice (device (Some one) ∷ []) } ∷ [] };
  spells = (
    record { label = None; formals = []; level = 1; steps = record { condition = None; command = OpenDevice (device (Some one) ∷ []) } ∷ [] },
    (
      [],
      tokens (codes " O 1::1"),
      0,
      refl,
      record { front = []; names = []; indent = []; cut = refl; label_is = refl; formals_are = (refl, refl); dots_are = refl },
      refl,
      (
        1,
        tokens (codes "O 1::1"),
        [],
        lit≤ tt,
        refl,
        (
          codes "O",
          [],
          tokens (codes " 1::1"),
          refl,
          (Of keyword.Open, refl, refl),
          refl,
          (
            tokens (codes "1::1"),
            refl,
            (
              tokens (codes "1"),
              tokens (codes "::1"),
              refl,
              (refl, refl),
              (
                Signed Colon ∷ [],
                tokens (codes ":1"),
                refl,
                refl,
                (
                  Signed Colon ∷ [],
                  tokens (codes "1"),
                  refl,
                  refl,
                  (tokens (codes "1"), [], refl, (refl, refl), refl),
                ),
              ),
            ),
          ),
          refl,
          tt,
        ),
        inl (0, refl),
      ),
    ),
    refl,
  );
}

opening : EndsInCommand keyword.Open (tokens (codes " O 1"))
unfolding lexemes digits
opening = record {
  single = refl;
  line = record { label = None; formals = []; level = 1; steps = record { condition = None; command = OpenDevice (device None ∷ []) } ∷ [] };
  spells = (
    record { label = None; formals = []; level = 1; steps = record { condition = None; command = OpenDevice (device None ∷ []) } ∷ [] },
    (
      [],
      tokens (codes " O 1"),
      0,
      refl,
      record { front = []; names = []; indent = []; cut = refl; label_is = refl; formals_are = (refl, refl); dots_are = refl },
      refl,
      (
        1,
        tokens (codes "O 1"),
        [],
        lit≤ tt,
        refl,
        (codes "O", [], tokens (codes " 1"), refl, (Of keyword.Open, refl, refl), refl, (tokens (codes "1"), refl, (tokens (codes "1"), [], refl, (refl, refl), refl)), refl, tt),
        inl (0, refl),
      ),
    ),
    refl,
  );
  last = refl;
}

device_parameters : StandsFor construct.DeviceParameters (tokens (codes " O 1:")) (Word (codes "X")) []
unfolding lexemes
device_parameters = inr (tokens (codes " O 1"), refl, opening, device_colon)

open_timed : EndsInCommand keyword.Open (tokens (codes " O 1::1"))
unfolding lexemes digits
open_timed = record {
  single = refl;
  line = record { label = None; formals = []; level = 1; steps = record { condition = None; command = OpenDevice (device (Some one) ∷ []) } ∷ [] };
  spells = (
    record { label = None; formals = []; level = 1; steps = record { condition = None; command = OpenDevice (device (Some one) ∷ []) } ∷ [] },
    (
      [],
      tokens (codes " O 1::1"),
      0,
      refl,
      record { front = []; names = []; indent = []; cut = refl; label_is = refl; formals_are = (refl, refl); dots_are = refl },
      refl,
      (
        1,
        tokens (codes "O 1::1"),
        [],
        lit≤ tt,
        refl,
        (
          codes "O",
          [],
          tokens (codes " 1::1"),
          refl,
          (Of keyword.Open, refl, refl),
          refl,
          (
            tokens (codes "1::1"),
            refl,
            (
              tokens (codes "1"),
              tokens (codes "::1"),
              refl,
              (refl, refl),
              (
                Signed Colon ∷ [],
                tokens (codes ":1"),
                refl,
                refl,
                (
                  Signed Colon ∷ [],
                  tokens (codes "1"),
                  refl,
                  refl,
                  (tokens (codes "1"), [], refl, (refl, refl), refl),
                ),
              ),
            ),
          ),
          refl,
          tt,
        ),
        inl (0, refl),
      ),
    ),
    refl,
  );
  last = refl;
}

third_colon : StandsFor construct.MnemonicSpace (tokens (codes " O 1::1")) (Signed Colon) []
unfolding lexemes
third_colon = inl (refl, inr open_timed)

next_colon : StandsFor construct.MnemonicSpace (tokens (codes " O 1::")) (Signed Colon) []
unfolding lexemes
next_colon = inl (refl, inl (tokens (codes " O 1:"), refl, (tokens (codes " O 1"), refl, opening, device_colon)))

-- behind an argument of USE
using : EndsInCommand keyword.Use (tokens (codes " U 1"))
unfolding lexemes digits
using = record {
  single = refl;
  line = record { label = None; formals = []; level = 1; steps = record { condition = None; command = UseDevice (one ∷ []) } ∷ [] };
  spells = (
    record { label = None; formals = []; level = 1; steps = record { condition = None; command = UseDevice (one ∷ []) } ∷ [] },
    (
      [],
      tokens (codes " U 1"),
      0,
      refl,
      record { front = []; names = []; indent = []; cut = refl; label_is = refl; formals_are = (refl, refl); dots_are = refl },
      refl,
      (
        1,
        tokens (codes "U 1"),
        [],
        lit≤ tt,
        refl,
        (codes "U", [], tokens (codes " 1"), refl, (Of keyword.Use, refl, refl), refl, (tokens (codes "1"), refl, (tokens (codes "1"), [], refl, (refl, refl), refl)), refl, tt),
        inl (0, refl),
      ),
    ),
    refl,
  );
  last = refl;
}

use_parameters : StandsFor construct.DeviceParameters (tokens (codes " U 1")) (Signed Colon) []
unfolding lexemes
use_parameters = inl (refl, inl using)

-- a `:` may stand behind ` R X`
abbrev x : Variable
x = Var Local (codes "X") No

timeout : MayStand (tokens (codes " R X")) (Signed Colon)
unfolding lexemes digits
timeout = record {
  rest = tokens (codes "1");
  line = record { label = None; formals = []; level = 1; steps = record { condition = None; command = Read (Into (record { mode = Line; variable = x; timeout = Some one }) ∷ []) } ∷ [] };
  spells = (
    record { label = None; formals = []; level = 1; steps = record { condition = None; command = Read (Into (record { mode = Line; variable = x; timeout = Some one }) ∷ []) } ∷ [] },
    (
      [],
      tokens (codes " R X:1"),
      0,
      refl,
      record { front = []; names = []; indent = []; cut = refl; label_is = refl; formals_are = (refl, refl); dots_are = refl },
      refl,
      (
        1,
        tokens (codes "R X:1"),
        [],
        lit≤ tt,
        refl,
        (
          codes "R",
          [],
          tokens (codes " X:1"),
          refl,
          (Of keyword.Read, refl, refl),
          refl,
          (
            tokens (codes "X:1"),
            refl,
            (
              tokens (codes "X"),
              tokens (codes ":1"),
              refl,
              (refl, refl),
              (Signed Colon ∷ [], tokens (codes "1"), refl, refl, (tokens (codes "1"), [], refl, (refl, refl), refl)),
            ),
          ),
          refl,
          tt,
        ),
        inl (0, refl),
      ),
    ),
    refl,
  );
}

read : EndsInCommand keyword.Read (tokens (codes " R X"))
unfolding lexemes
read = record {
  single = refl;
  line = record { label = None; formals = []; level = 1; steps = record { condition = None; command = Read (Into (record { mode = Line; variable = x; timeout = None }) ∷ []) } ∷ [] };
  spells = (
    record { label = None; formals = []; level = 1; steps = record { condition = None; command = Read (Into (record { mode = Line; variable = x; timeout = None }) ∷ []) } ∷ [] },
    (
      [],
      tokens (codes " R X"),
      0,
      refl,
      record { front = []; names = []; indent = []; cut = refl; label_is = refl; formals_are = (refl, refl); dots_are = refl },
      refl,
      (
        1,
        tokens (codes "R X"),
        [],
        lit≤ tt,
        refl,
        (codes "R", [], tokens (codes " X"), refl, (Of keyword.Read, refl, refl), refl, (tokens (codes "X"), refl, (tokens (codes "X"), [], refl, (refl, refl), refl)), refl, tt),
        inl (0, refl),
      ),
    ),
    refl,
  );
  last = refl;
}

read_length : StandsFor construct.ReadLength (tokens (codes " R X")) (Signed Hash) []
unfolding lexemes
read_length = (refl, (read, timeout))
