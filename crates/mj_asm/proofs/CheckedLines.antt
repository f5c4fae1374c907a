-- The code of lines has at each place the operands and the FORs that it needs there, and leads to places of its own.
use Rattle.std.proofs.Common.{◌≡◌, ℕ, ◌+◌, ◌-◌, ◌≤◌, List, [], ◌∷◌, ◌++◌, length, Option, Some, None, refl, sym, ap, subst, arith, length-append}
use Rattle.mj_ast.specs.Syntax.{Expr, Variable, Range, Single, Endless, UpTo, Command, If, Else, For, Forever, LineCommand, Line}
use Rattle.mj_semantics.specs.Lines.{Here, next_line}
use Rattle.mj_pcode.specs.declared.instr.Span.TheVariants as span
use Rattle.mj_pcode.specs.declared.instr.Instr.{Instr}
use Rattle.mj_pcode.specs.declared.instr.Instr.TheVariants as instr
use Rattle.mj_pcode.specs.Checked.{Footing, footing, bare, Holds}
use Rattle.mj_asm.specs.Code.{reference, expr_code, subscripts_code, code_if, ifs_code, if_code, else_code, range_code, ranges_code, body_code, for_code, command_code, and_then, obey_code, steps_code, line_code, lines_code}
use Rattle.mj_asm.proofs.CheckedExpressions.{Laid, Goes, laid_here, laid_front, laid_back, nothing, both, led, one, expr_goes, subscripts_go, Passes, tested, code_if_goes}
use Rattle.mj_asm.proofs.CheckedCommands.{Closes, command_goes}

module _ (fs : List Footing) where
  module _ (k : ℕ) where
    -- the rest of a line behind conditions
    ifs_go : (es : List Expr) (rest : ℕ → List Instr) → Passes fs k rest → Passes fs k (λ pc. ifs_code pc es rest)
    ifs_go [] rest goes pc = goes pc
    ifs_go (e ∷ es) rest goes pc =
        let at_body = pc + length (expr_code pc e) + 1 in
        tested fs k pc e (instr.SetTest (at_body + length (ifs_code at_body es rest))) (ifs_code at_body es rest) refl (λ h. (omega arith, h)) (ifs_go es rest goes at_body)

    if_goes : (es : List Expr) (rest : ℕ → List Instr) → Passes fs k rest → Passes fs k (λ pc. if_code pc es rest)
    if_goes [] rest goes pc = led fs pc (footing 0 k) (footing 0 k) (footing 0 k) (instr.JumpUnlessTest (pc + 1 + length (rest (pc + 1)))) (rest (pc + 1)) refl (λ l h. (tt, h)) (goes (pc + 1))
    if_goes (e ∷ es) rest goes pc = ifs_go (e ∷ es) rest goes pc

    else_goes : (rest : ℕ → List Instr) → Passes fs k rest → Passes fs k (λ pc. else_code pc rest)
    else_goes rest goes pc = led fs pc (footing 0 k) (footing 0 k) (footing 0 k) (instr.JumpIfTest (pc + 1 + length (rest (pc + 1)))) (rest (pc + 1)) refl (λ l h. (tt, h)) (goes (pc + 1))

    -- what a FOR goes through
    range_goes : 1 ≤ k → (r : Range) → Passes fs k (λ pc. range_code pc r)
    range_goes some (Single a) pc =
        let ca = expr_code pc a in
        both fs pc (footing 0 k) (footing (0 + 1) k) (footing 0 k) ca (instr.ForBegin span.One ∷ []) (expr_goes fs k a pc 0)
        (one fs (pc + length ca) (footing (0 + 1) k) (footing 0 k) (instr.ForBegin span.One) refl ((omega arith, some), tt))
    range_goes some (Endless a b) pc =
        let ca = expr_code pc a in
        let cb = expr_code (pc + length ca) b in
        let last = instr.ForBegin span.Endless in
        both fs pc (footing 0 k) (footing (0 + 1) k) (footing 0 k) ca (cb ++ last ∷ []) (expr_goes fs k a pc 0)
        (both fs (pc + length ca) (footing (0 + 1) k) (footing (0 + 1 + 1) k) (footing 0 k) cb (last ∷ []) (expr_goes fs k b (pc + length ca) (0 + 1))
        (one fs (pc + length ca + length cb) (footing (0 + 1 + 1) k) (footing 0 k) last refl ((omega arith, some), tt)))
    range_goes some (UpTo a b c) pc =
        let ca = expr_code pc a in
        let cb = expr_code (pc + length ca) b in
        let cc = expr_code (pc + length ca + length cb) c in
        let last = instr.ForBegin span.UpTo in
        both fs pc (footing 0 k) (footing (0 + 1) k) (footing 0 k) ca (cb ++ (cc ++ last ∷ [])) (expr_goes fs k a pc 0)
        (both fs (pc + length ca) (footing (0 + 1) k) (footing (0 + 1 + 1) k) (footing 0 k) cb (cc ++ last ∷ []) (expr_goes fs k b (pc + length ca) (0 + 1))
        (both fs (pc + length ca + length cb) (footing (0 + 1 + 1) k) (footing (0 + 1 + 1 + 1) k) (footing 0 k) cc (last ∷ []) (expr_goes fs k c (pc + length ca + length cb) (0 + 1 + 1))
        (one fs (pc + length ca + length cb + length cc) (footing (0 + 1 + 1 + 1) k) (footing 0 k) last refl ((omega arith, some), tt))))

    ranges_go : 1 ≤ k → (rs : List Range) → Passes fs k (λ pc. ranges_code pc rs)
    ranges_go some [] pc = nothing fs pc (footing 0 k)
    ranges_go some (r ∷ rs) pc =
        let cr = range_code pc r in
        both fs pc (footing 0 k) (footing 0 k) (footing 0 k) cr (ranges_code (pc + length cr) rs) (range_goes some r pc) (ranges_go some rs (pc + length cr))

  -- the rest of a line, in each FOR
  abbrev pub Rest : (ℕ → Option ℕ → List Instr) → Type 0
  Rest rest = (k : ℕ) (out : Option ℕ) → Closes fs k out → (pc : ℕ) → Goes fs pc (rest pc out) (footing 0 k) (footing 0 k)

  -- passes of a FOR
  body_goes : (rest : ℕ → Option ℕ → List Instr) → Rest rest → (k close : ℕ) → Goes fs close (body_code close rest) (footing 0 (k + 1)) (footing 0 k)
  body_goes rest goes k close laid =
      let cr = rest (close + 1) (Some close) in
      let more : footing 0 (k + 1 - 1) ≡ footing 0 k = ap (λ n. footing 0 n) (omega arith) in
      let target = close + 1 + length cr + 1 in
      let e : close + 1 + length (cr ++ instr.ForAgain ∷ []) ≡ target = omega (arith, length-append cr (instr.ForAgain ∷ [])) in
      led fs close (footing 0 (k + 1)) (footing 0 (k + 1)) (footing 0 k) (instr.ForClose target) (cr ++ instr.ForAgain ∷ []) refl
      (λ l h. ((refl, omega arith), subst (Holds fs target) (sym more) (subst (λ p. Holds fs p (footing 0 k)) e h)))
      (both fs (close + 1) (footing 0 (k + 1)) (footing 0 (k + 1)) (footing 0 k) cr (instr.ForAgain ∷ []) (goes (k + 1) (Some close) laid.0 (close + 1))
      (one fs (close + 1 + length cr) (footing 0 (k + 1)) (footing 0 k) instr.ForAgain more ((refl, omega arith), tt))) laid

  for_goes : (v : Variable) (rs : List Range) (rest : ℕ → Option ℕ → List Instr) → Rest rest → (k pc : ℕ) → Goes fs pc (for_code pc v rs rest) (footing 0 k) (footing 0 k)
  for_goes v rs rest goes k pc =
      let cs = subscripts_code pc v in
      let n = (reference v).count in
      let first = pc + length cs + 1 in
      let cr = ranges_code first rs in
      let close = first + length cr in
      let cb = body_code close rest in
      let opens = instr.ForOpen (reference v).word n (close + 1) in
      let inside = footing 0 (k + 1) in
      let ranges : Goes fs first cr inside inside = ranges_go (k + 1) (omega arith) rs first in
      both fs pc (footing 0 k) (footing (0 + n) k) (footing 0 k) cs (opens ∷ (cr ++ cb)) (subscripts_go fs k v pc 0)
      (led fs (pc + length cs) (footing (0 + n) k) inside (footing 0 k) opens (cr ++ cb) refl
      (λ l h. (
        omega arith,
        let back : Laid fs close inside cb = subst (λ x. Laid fs close x cb) (ranges (laid_front fs first inside cr cb l)).0 (laid_back fs first inside cr cb l) in
            laid_here fs (close + 1) inside (rest (close + 1) (Some close) ++ instr.ForAgain ∷ []) back.1,
      ))
      (both fs first inside inside (footing 0 k) cr cb ranges (body_goes rest goes k close)))

  forever_goes : (rest : ℕ → Option ℕ → List Instr) → Rest rest → (k pc : ℕ) → Goes fs pc (instr.ForForever ∷ body_code (pc + 1) rest) (footing 0 k) (footing 0 k)
  forever_goes rest goes k pc =
      let inside = footing 0 (k + 1) in
      let e : pc + 1 + 1 ≡ pc + 2 = omega arith in
      led fs pc (footing 0 k) inside (footing 0 k) instr.ForForever (body_code (pc + 1) rest) refl
      (λ l h. (refl, subst (λ p. Holds fs p inside) e (laid_here fs (pc + 1 + 1) inside (rest (pc + 1 + 1) (Some (pc + 1)) ++ instr.ForAgain ∷ []) l.1)))
      (body_goes rest goes k (pc + 1))

  then_goes : (here : Here) (c : Option Expr) (command : Command) (rest : ℕ → Option ℕ → List Instr)
      → Rest rest → (k : ℕ) (out : Option ℕ) → Closes fs k out → (pc : ℕ) → Goes fs pc (and_then here pc out c command rest) (footing 0 k) (footing 0 k)
  then_goes here c command rest goes k out closes pc =
      let cc = code_if pc c (λ p. command_code here p out command) in
      both fs pc (footing 0 k) (footing 0 k) (footing 0 k) cc (rest (pc + length cc) out)
      (code_if_goes fs k c (λ p. command_code here p out command) (command_goes fs k here out command closes) pc) (goes k out closes (pc + length cc))

  obey_goes : (here : Here) (command : Command) (c : Option Expr) (rest : ℕ → Option ℕ → List Instr)
      → Rest rest → (k : ℕ) (out : Option ℕ) → Closes fs k out → (pc : ℕ) → Goes fs pc (obey_code here pc out command c rest) (footing 0 k) (footing 0 k)
  obey_goes here (If es) c rest goes k out closes pc = if_goes k es (λ p. rest p out) (goes k out closes) pc
  obey_goes here Else c rest goes k out closes pc = else_goes k (λ p. rest p out) (goes k out closes) pc
  obey_goes here (For v rs) c rest goes k out closes pc = for_goes v rs rest goes k pc
  obey_goes here Forever c rest goes k out closes pc = forever_goes rest goes k pc
  obey_goes here command c rest goes k out closes pc = then_goes here c command rest goes k out closes pc

  steps_go : (here : Here) (steps : List LineCommand) → Rest (λ p o. steps_code here p o steps)
  steps_go here [] k out closes pc = nothing fs pc (footing 0 k)
  steps_go here (step ∷ steps) k out closes pc =
      obey_goes here step.command step.condition (λ p o. steps_code here p o steps) (steps_go here steps) k out closes pc

  pub line_goes : (here : Here) (line : Line) (pc : ℕ) → Goes fs pc (line_code pc here line) bare bare
  line_goes here line pc =
      let cs = steps_code here (pc + 1) None line.steps in
      led fs pc bare bare bare (instr.Line (record { line = here.line; level = line.level; next = pc + 1 + length cs })) cs refl
      (λ l h. ((refl, refl), h)) (steps_go here line.steps 0 None tt (pc + 1))

  pub lines_go : (here : Here) (lines : List Line) (pc : ℕ) → Goes fs pc (lines_code pc here lines) bare bare
  lines_go here [] pc = nothing fs pc bare
  lines_go here (line ∷ lines) pc =
      let cl = line_code pc here line in
      both fs pc bare bare bare cl (lines_code (pc + length cl) (next_line here) lines) (line_goes here line pc) (lines_go (next_line here) lines (pc + length cl))
