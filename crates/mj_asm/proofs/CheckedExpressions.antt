-- The code of expressions has at each place the operands and the FORs that it needs there, and leads to places of its own.
use Rattle.std.proofs.Common.{◌≡◌, ℕ, ◌+◌, ◌-◌, List, [], ◌∷◌, ◌++◌, length, Option, Some, None, refl, sym, ap, ◌∙◌, subst, arith}
use Rattle.std.specs.Prelude.{⊤}
use Rattle.mj_ast.specs.Syntax.{Expr, Chain, Tails, Done, Then, Operand, Literal, Value, Intrinsic, Unary, Group, Call, Select, Variable, Var, Exprs, No, More, Choices, Last, Before, About, Extrinsic, Actuals, NoActual, Given, Omitted}
use Rattle.mj_pcode.specs.declared.instr.Instr.{Instr}
use Rattle.mj_pcode.specs.declared.instr.Instr.TheVariants as instr
use Rattle.mj_pcode.specs.Machine.{given_count, wait_size}
use Rattle.mj_pcode.specs.Checked.{Footing, footing, footing_behind, Holds, InstrFits}
use Rattle.mj_asm.specs.Code.{count, reference, expr_code, tails_code, operand_code, choices_code, subscripts_code, exprs_code, actuals_code, shape_of, plain_shape, kept_target, timeout_code, wait_of, name_code, code_if}
use Rattle.mj_asm.proofs.Actuals.{plain_count}

-- what the place behind code holds
abbrev pub reached : Footing → List Instr → Footing
reached f [] = f
reached f (i ∷ is) = reached (footing_behind i f) is

pub reached_both : (f : Footing) (a b : List Instr) → reached f (a ++ b) ≡ reached (reached f a) b
reached_both f [] b = refl
reached_both f (i ∷ a) b = reached_both (footing_behind i f) a b

pub same : (k d d' : ℕ) → d ≡ d' → footing d k ≡ footing d' k
same k d d' e = ap (λ n. footing n k) e

module _ (fs : List Footing) where
  -- the places of code that begins here hold what the code leaves
  abbrev pub Laid : ℕ → Footing → List Instr → Type 0
  Laid pc f [] = Holds fs pc f
  Laid pc f (i ∷ is) = Holds fs pc f × Laid (pc + 1) (footing_behind i f) is

  -- its instructions have what they need, and so have the places that they lead to
  abbrev pub Fit : ℕ → Footing → List Instr → Type 0
  Fit pc f [] = ⊤
  Fit pc f (i ∷ is) = InstrFits fs pc i f × Fit (pc + 1) (footing_behind i f) is

  -- code that begins here leads from this to that
  abbrev pub Goes : ℕ → List Instr → Footing → Footing → Type 0
  Goes pc c f g = Laid pc f c → (reached f c ≡ g) × Fit pc f c

  pub laid_here : (pc : ℕ) (f : Footing) (c : List Instr) → Laid pc f c → Holds fs pc f
  laid_here pc f [] h = h
  laid_here pc f (i ∷ is) h = h.0

  pub laid_front : (pc : ℕ) (f : Footing) (a b : List Instr) → Laid pc f (a ++ b) → Laid pc f a
  laid_front pc f [] b h = laid_here pc f b h
  laid_front pc f (i ∷ a) b h = (h.0, laid_front (pc + 1) (footing_behind i f) a b h.1)

  pub laid_back : (pc : ℕ) (f : Footing) (a b : List Instr) → Laid pc f (a ++ b) → Laid (pc + length a) (reached f a) b
  laid_back pc f [] b h = let e : pc ≡ pc + 0 = omega arith in subst (λ n. Laid n f b) e h
  laid_back pc f (i ∷ a) b h =
      let e : pc + 1 + length a ≡ pc + length (i ∷ a) = omega arith in
      subst (λ n. Laid n (reached (footing_behind i f) a) b) e (laid_back (pc + 1) (footing_behind i f) a b h.1)

  pub laid_end : (pc : ℕ) (f : Footing) (c : List Instr) → Laid pc f c → Holds fs (pc + length c) (reached f c)
  laid_end pc f [] h = let e : pc ≡ pc + 0 = omega arith in subst (λ n. Holds fs n f) e h
  laid_end pc f (i ∷ is) h =
      let e : pc + 1 + length is ≡ pc + length (i ∷ is) = omega arith in
      subst (λ n. Holds fs n (reached (footing_behind i f) is)) e (laid_end (pc + 1) (footing_behind i f) is h.1)

  fit_both : (pc : ℕ) (f : Footing) (a b : List Instr) → Fit pc f a → Fit (pc + length a) (reached f a) b → Fit pc f (a ++ b)
  fit_both pc f [] b h k = let e : pc + 0 ≡ pc = omega arith in subst (λ n. Fit n f b) e k
  fit_both pc f (i ∷ a) b h k =
      let e : pc + length (i ∷ a) ≡ pc + 1 + length a = omega arith in
      (h.0, fit_both (pc + 1) (footing_behind i f) a b h.1 (subst (λ n. Fit n (reached (footing_behind i f) a) b) e k))

  pub nothing : (pc : ℕ) (f : Footing) → Goes pc [] f f
  nothing pc f h = (refl, tt)

  -- one code behind another
  pub both : (pc : ℕ) (f g h : Footing) (a b : List Instr) → Goes pc a f g → Goes (pc + length a) b g h → Goes pc (a ++ b) f h
  both pc f g h a b p q laid =
      let one = p (laid_front pc f a b laid) in
      let two = q (subst (λ x. Laid (pc + length a) x b) one.0 (laid_back pc f a b laid)) in (
        reached_both f a b ∙ ap (λ x. reached x b) one.0 ∙ two.0,
        fit_both pc f a b one.1 (subst (λ x. Fit (pc + length a) x b) (sym one.0) two.1),
      )

  -- an instruction, by the code behind it
  pub led : (pc : ℕ) (f g h : Footing) (i : Instr) (rest : List Instr) → footing_behind i f ≡ g
      → (Laid (pc + 1) g rest → Holds fs (pc + 1 + length rest) h → InstrFits fs pc i f) → Goes (pc + 1) rest g h → Goes pc (i ∷ rest) f h
  led pc f g h i rest e fits goes laid =
      let next : Laid (pc + 1) g rest = subst (λ x. Laid (pc + 1) x rest) e laid.1 in
      let r = goes next in
      let end : Holds fs (pc + 1 + length rest) h = subst (Holds fs (pc + 1 + length rest)) r.0 (laid_end (pc + 1) g rest next) in
      (ap (λ x. reached x rest) e ∙ r.0, (fits next end, subst (λ x. Fit (pc + 1) x rest) (sym e) r.1))

  -- one that leads on only to the next
  pub on : (pc : ℕ) (f g h : Footing) (i : Instr) (rest : List Instr) → footing_behind i f ≡ g → InstrFits fs pc i f → Goes (pc + 1) rest g h → Goes pc (i ∷ rest) f h
  on pc f g h i rest e fits goes = led pc f g h i rest e (λ l k. fits) goes

  pub one : (pc : ℕ) (f g : Footing) (i : Instr) → footing_behind i f ≡ g → InstrFits fs pc i f → Goes pc (i ∷ []) f g
  one pc f g i e fits = on pc f g g i [] e fits (nothing (pc + 1) g)

  pub goes_as : (pc : ℕ) (f g h : Footing) (c : List Instr) → g ≡ h → Goes pc c f g → Goes pc c f h
  goes_as pc f g h c e q = subst (Goes pc c f) e q

  module _ (k : ℕ) where
    -- so many operands
    abbrev pub at : ℕ → Footing
    at d = footing d k

    -- a condition, its value, and the choices behind it
    choice_goes : (pc d : ℕ) (cc ce more : List Instr) → Goes pc cc (at d) (at (d + 1)) → Goes (pc + length cc + 1) ce (at d) (at (d + 1))
        → Goes (pc + length cc + 1 + length ce + 1) more (at d) (at (d + 1))
        → Goes pc (cc ++ instr.JumpUnless (pc + length cc + 1 + length ce + 1) ∷ (ce ++ instr.Jump (pc + length cc + 1 + length ce + 1 + length more) ∷ more)) (at d) (at (d + 1))
    choice_goes pc d cc ce more gc ge gm =
        let value = pc + length cc + 1 in
        let others = value + length ce + 1 in
        let jump = instr.Jump (others + length more) in
        let less : at (d + 1 - 1) ≡ at d = same k (d + 1 - 1) d (omega arith) in
        let rest : Goes value (ce ++ jump ∷ more) (at d) (at (d + 1)) =
        both value (at d) (at (d + 1)) (at (d + 1)) ce (jump ∷ more) ge (led (value + length ce) (at (d + 1)) (at d) (at (d + 1)) jump more less (λ l e. (tt, e)) gm) in
        both pc (at d) (at (d + 1)) (at (d + 1)) cc (instr.JumpUnless others ∷ (ce ++ jump ∷ more)) gc
        (led (pc + length cc) (at (d + 1)) (at d) (at (d + 1)) (instr.JumpUnless others) (ce ++ jump ∷ more) less
        (λ l e. (
          omega arith,
          subst (λ x. Holds fs others (footing_behind jump x)) (ge (laid_front value (at d) ce (jump ∷ more) l)).0
              (laid_here others (footing_behind jump (reached (at d) ce)) more (laid_back value (at d) ce (jump ∷ more) l).1),
        )) rest)

    mutual
      pub expr_goes : (e : Expr) (pc d : ℕ) → Goes pc (expr_code pc e) (at d) (at (d + 1))
      expr_goes (Chain x ts) pc d =
          let cx = operand_code pc x in
          both pc (at d) (at (d + 1)) (at (d + 1)) cx (tails_code (pc + length cx) ts) (operand_goes x pc d) (tails_goes ts (pc + length cx) d)

      tails_goes : (ts : Tails) (pc d : ℕ) → Goes pc (tails_code pc ts) (at (d + 1)) (at (d + 1))
      tails_goes Done pc d = nothing pc (at (d + 1))
      tails_goes (Then op x ts) pc d =
          let cx = operand_code pc x in
          let ct = tails_code (pc + length cx + 1) ts in
          both pc (at (d + 1)) (at (d + 1 + 1)) (at (d + 1)) cx (instr.Binary op ∷ ct) (operand_goes x pc (d + 1))
          (on (pc + length cx) (at (d + 1 + 1)) (at (d + 1)) (at (d + 1)) (instr.Binary op) ct (same k (d + 1 + 1 - 1) (d + 1) (omega arith)) (omega arith, tt)
          (tails_goes ts (pc + length cx + 1) d))

      operand_goes : (x : Operand) (pc d : ℕ) → Goes pc (operand_code pc x) (at d) (at (d + 1))
      operand_goes (Literal t) pc d = one pc (at d) (at (d + 1)) (instr.Push t) refl (tt, tt)
      operand_goes (Value v) pc d =
          let cs = subscripts_code pc v in
          let n = (reference v).count in
          both pc (at d) (at (d + n)) (at (d + 1)) cs (instr.Load (reference v) ∷ []) (subscripts_go v pc d)
          (one (pc + length cs) (at (d + n)) (at (d + 1)) (instr.Load (reference v)) (same k (d + n - n + 1) (d + 1) (omega arith)) (omega arith, tt))
      operand_goes (Intrinsic v) pc d = one pc (at d) (at (d + 1)) (instr.PushSpecial v) refl (tt, tt)
      operand_goes (Unary op x) pc d =
          let cx = operand_code pc x in
          both pc (at d) (at (d + 1)) (at (d + 1)) cx (instr.Unary op ∷ []) (operand_goes x pc d)
          (one (pc + length cx) (at (d + 1)) (at (d + 1)) (instr.Unary op) refl (omega arith, tt))
      operand_goes (Group e) pc d = expr_goes e pc d
      operand_goes (Call g es) pc d =
          let ce = exprs_code pc es in
          let n = count es in
          both pc (at d) (at (d + n)) (at (d + 1)) ce (instr.CallFunction g n ∷ []) (exprs_go es pc d)
          (one (pc + length ce) (at (d + n)) (at (d + 1)) (instr.CallFunction g n) (same k (d + n - n + 1) (d + 1) (omega arith)) (omega arith, tt))
      operand_goes (About g v es) pc d =
          let cs = subscripts_code pc v in
          let n = (reference v).count in
          let m = count es in
          let ce = exprs_code (pc + length cs + 1) es in
          let last = instr.CallNameFunction g (reference v) (n + m) in
          both pc (at d) (at (d + n)) (at (d + 1)) cs (instr.CheckNamed g (reference v) ∷ (ce ++ last ∷ [])) (subscripts_go v pc d)
          (on (pc + length cs) (at (d + n)) (at (d + n)) (at (d + 1)) (instr.CheckNamed g (reference v)) (ce ++ last ∷ []) refl (omega arith, tt)
          (both (pc + length cs + 1) (at (d + n)) (at (d + n + m)) (at (d + 1)) ce (last ∷ []) (exprs_go es (pc + length cs + 1) (d + n))
          (one (pc + length cs + 1 + length ce) (at (d + n + m)) (at (d + 1)) last (same k (d + n + m - (n + m) + 1) (d + 1) (omega arith)) ((omega arith, omega arith), tt))))
      operand_goes (Select choices) pc d = choices_go choices pc d
      operand_goes (Extrinsic t es) pc d =
          let ca = actuals_code pc es in
          let n = given_count (plain_shape (shape_of es)) in
          let i = instr.Invoke (kept_target t) (plain_shape (shape_of es)) in
          let passed : at (d + given_count (shape_of es)) ≡ at (d + n) = ap (λ m. at (d + m)) (sym (plain_count (shape_of es))) in
          both pc (at d) (at (d + n)) (at (d + 1)) ca (i ∷ []) (goes_as pc (at d) (at (d + given_count (shape_of es))) (at (d + n)) ca passed (actuals_go es pc d))
          (one (pc + length ca) (at (d + n)) (at (d + 1)) i (same k (d + n - n + 1) (d + 1) (omega arith)) (omega arith, tt))

      pub actuals_go : (es : Actuals) (pc d : ℕ) → Goes pc (actuals_code pc es) (at d) (at (d + given_count (shape_of es)))
      actuals_go NoActual pc d = goes_as pc (at d) (at d) (at (d + 0)) [] (same k d (d + 0) (omega arith)) (nothing pc (at d))
      actuals_go (Omitted es) pc d = actuals_go es pc d
      actuals_go (Given e es) pc d =
          let ce = expr_code pc e in
          let cr = actuals_code (pc + length ce) es in
          let n = given_count (shape_of es) in
          both pc (at d) (at (d + 1)) (at (d + (n + 1))) ce cr (expr_goes e pc d)
          (goes_as (pc + length ce) (at (d + 1)) (at (d + 1 + n)) (at (d + (n + 1))) cr (same k (d + 1 + n) (d + (n + 1)) (omega arith)) (actuals_go es (pc + length ce) (d + 1)))

      pub subscripts_go : (v : Variable) (pc d : ℕ) → Goes pc (subscripts_code pc v) (at d) (at (d + (reference v).count))
      subscripts_go (Var scope word es) pc d = exprs_go es pc d

      pub exprs_go : (es : Exprs) (pc d : ℕ) → Goes pc (exprs_code pc es) (at d) (at (d + count es))
      exprs_go No pc d = goes_as pc (at d) (at d) (at (d + 0)) [] (same k d (d + 0) (omega arith)) (nothing pc (at d))
      exprs_go (More e es) pc d =
          let ce = expr_code pc e in
          let cr = exprs_code (pc + length ce) es in
          both pc (at d) (at (d + 1)) (at (d + (count es + 1))) ce cr (expr_goes e pc d)
          (goes_as (pc + length ce) (at (d + 1))
          (at (d + 1 + count es)) (at (d + (count es + 1))) cr (same k (d + 1 + count es) (d + (count es + 1)) (omega arith)) (exprs_go es (pc + length ce) (d + 1)))

      choices_go : (x : Choices) (pc d : ℕ) → Goes pc (choices_code pc x) (at d) (at (d + 1))
      choices_go (Last c e) pc d =
          let cc = expr_code pc c in
          let value = pc + length cc + 1 in
          let ce = expr_code value e in
          let others = value + length ce + 1 in
          choice_goes pc d cc ce (instr.SelectFails ∷ []) (expr_goes c pc d) (expr_goes e value d) (one others (at d) (at (d + 1)) instr.SelectFails refl (tt, tt))
      choices_go (Before c e rest) pc d =
          let cc = expr_code pc c in
          let value = pc + length cc + 1 in
          let ce = expr_code value e in
          let others = value + length ce + 1 in
          choice_goes pc d cc ce (choices_code others rest) (expr_goes c pc d) (expr_goes e value d) (choices_go rest others d)

    pub name_goes : (v : Variable) (pc d : ℕ) → Goes pc (name_code pc v) (at d) (at (d + (reference v).count))
    name_goes v pc d =
        let cs = subscripts_code pc v in
        let n = (reference v).count in
        both pc (at d) (at (d + n)) (at (d + n)) cs (instr.CheckName (reference v) ∷ []) (subscripts_go v pc d)
        (one (pc + length cs) (at (d + n)) (at (d + n)) (instr.CheckName (reference v)) refl (omega arith, tt))

    pub timeout_goes : (o : Option Expr) (pc d : ℕ) → Goes pc (timeout_code pc o) (at d) (at (d + wait_size (wait_of o)))
    timeout_goes None pc d = goes_as pc (at d) (at d) (at (d + 0)) [] (same k d (d + 0) (omega arith)) (nothing pc (at d))
    timeout_goes (Some e) pc d =
        let ce = expr_code pc e in
        both pc (at d) (at (d + 1)) (at (d + 1)) ce (instr.CheckNumber ∷ []) (expr_goes e pc d) (one (pc + length ce) (at (d + 1)) (at (d + 1)) instr.CheckNumber refl (omega arith, tt))

    -- code of commands: nothing lies on the stack before it, and nothing behind it
    abbrev pub Passes : (ℕ → List Instr) → Type 0
    Passes code = (pc : ℕ) → Goes pc (code pc) (at 0) (at 0)

    -- a value, and an instruction that takes it off and leads only to the next
    pub taken_goes : (e : Expr) (i : Instr) → footing_behind i (at (0 + 1)) ≡ at (0 + 1 - 1) → ((pc : ℕ) → InstrFits fs pc i (at (0 + 1))) → Passes (λ pc. expr_code pc e ++ i ∷ [])
    taken_goes e i leaves fits pc =
        let ce = expr_code pc e in
        both pc (at 0) (at (0 + 1)) (at 0) ce (i ∷ []) (expr_goes e pc 0)
        (one (pc + length ce) (at (0 + 1)) (at 0) i (leaves ∙ same k (0 + 1 - 1) 0 (omega arith)) (fits (pc + length ce)))

    -- code behind a test, which leads past it
    pub tested : (pc : ℕ) (e : Expr) (i : Instr) (rest : List Instr) → footing_behind i (at (0 + 1)) ≡ at (0 + 1 - 1)
        → (Holds fs (pc + length (expr_code pc e) + 1 + length rest) (at (0 + 1 - 1)) → InstrFits fs (pc + length (expr_code pc e)) i (at (0 + 1)))
        → Goes (pc + length (expr_code pc e) + 1) rest (at 0) (at 0) → Goes pc (expr_code pc e ++ i ∷ rest) (at 0) (at 0)
    tested pc e i rest is fits goes =
        let ce = expr_code pc e in
        let less : at (0 + 1 - 1) ≡ at 0 = same k (0 + 1 - 1) 0 (omega arith) in
        both pc (at 0) (at (0 + 1)) (at 0) ce (i ∷ rest) (expr_goes e pc 0)
        (led (pc + length ce) (at (0 + 1)) (at 0) (at 0) i rest (is ∙ less) (λ l h. fits (subst (Holds fs (pc + length ce + 1 + length rest)) (sym less) h)) goes)

    pub code_if_goes : (c : Option Expr) (code : ℕ → List Instr) → Passes code → Passes (λ pc. code_if pc c code)
    code_if_goes None code goes pc = goes pc
    code_if_goes (Some e) code goes pc =
        let at_body = pc + length (expr_code pc e) + 1 in
        tested pc e (instr.JumpUnless (at_body + length (code at_body))) (code at_body) refl (λ h. (omega arith, h)) (goes at_body)
