-- The code of expressions does what they do: from a place on, the machine does what the expression and the rest do, with as many turns as are left.
use Rattle.std.proofs.Common.{◌≡◌, ℕ, zero, suc, ◌+◌, ◌<◌, ◌≤◌, List, [], ◌∷◌, ◌++◌, length, drop, true, Option, Some, None, refl, sym, ap, ◌∙◌, subst, arith, length-append}
use Rattle.std.specs.Prelude.{ℤ, slice_get, Ok, ◌-◌}
use Rattle.mj_num.specs.Number.{reading}
use Rattle.mj_subs.specs.Name.{Name}
use Rattle.mj_oper.specs.Operators.{binary_value, unary_value, truth_value}
use Rattle.mj_text.specs.declared.fault.Fault.TheVariants.{Select as NoTrue}
use Rattle.mj_ast.specs.Syntax.{Expr, Chain, Tails, Done, Then, Operand, Literal, Value, Intrinsic, Unary, Group, Call, Select, Variable, Var, Exprs, No, More, Choices, Last, Before, About, Extrinsic, Target, Actuals, NoActual, Given, Omitted}
use Rattle.mj_semantics.specs.Functions.{call_value, optional}
use Rattle.mj_semantics.specs.State.{special_value, popped}
use Rattle.mj_semantics.specs.Outcome.{Timed, turn, change, given, composed, fault}
use Rattle.mj_semantics.specs.Lines.{Here, entry_in, entry_of}
use Rattle.mj_semantics.specs.Points.{Points, Called}
use Rattle.mj_semantics.specs.Evaluation.{ev, ev_tails, ev_operand, ev_choices, ev_name, ev_all, name_of, read, when, ev_named, ev_local, ev_actuals, plain_values, named_for, about}
use Rattle.mj_ast.specs.declared.function.NameFunction.{NameFunction}
use Rattle.mj_ast.specs.declared.expr.Scope.TheVariants.{Local}
use Rattle.mj_semantics.specs.Commands.{ev_timeout}
use Rattle.mj_pcode.specs.declared.instr.Instr.{Instr}
use Rattle.mj_pcode.specs.declared.instr.Instr.TheVariants as instr
use Rattle.mj_pcode.specs.declared.instr.Unit as unit
use Rattle.mj_pcode.specs.Found.{found}
use Rattle.mj_pcode.specs.Context.{Context, awaiting}
use Rattle.mj_pcode.specs.Machine as machine
use Rattle.mj_pcode.specs.Machine.{Stack, act, act_in, exec, operands, spread, given_count}
use Rattle.mj_asm.specs.Code.{count, reference, expr_code, tails_code, operand_code, choices_code, subscripts_code, exprs_code, code_if, actuals_code, shape_of, plain_shape, kept_target, timeout_code}
use Rattle.mj_asm.specs.Correct.{Agree}
use Rattle.mj_pcode.proofs.Agree.{if_at, look_at, given_at, composed_at, read_at, about_at}
use Rattle.mj_asm.proofs.Lies.{onto, rest_below, operands_are, both_below, LiesWait}
use Rattle.mj_asm.proofs.Actuals.{plain_spread, plain_count}

-- the instructions stand in the code at this place
abbrev pub HasAt : List Instr → ℕ → List Instr → Type 0
HasAt code pc [] = Unit {0}
HasAt code pc (i ∷ is) = (slice_get code pc ≡ Some i) × HasAt code (pc + 1) is

pub has_front : (code : List Instr) (pc : ℕ) (a b : List Instr) → HasAt code pc (a ++ b) → HasAt code pc a
has_front code pc [] b h = tt
has_front code pc (i ∷ a) b h = (h.0, has_front code (pc + 1) a b h.1)

pub has_back : (code : List Instr) (pc : ℕ) (a b : List Instr) → HasAt code pc (a ++ b) → HasAt code (pc + length a) b
has_back code pc [] b h = let e : pc ≡ pc + 0 = omega arith in subst (λ n. HasAt code n b) e h
has_back code pc (i ∷ a) b h =
    let e : pc + 1 + length a ≡ pc + length (i ∷ a) = omega arith in
    subst (λ n. HasAt code n b) e (has_back code (pc + 1) a b h.1)

-- where code ends that has one more instruction behind it
pub end_of : (pc : ℕ) (is : List Instr) (i : Instr) → pc + length is + 1 ≡ pc + length (is ++ i ∷ [])
end_of pc is i = omega (arith, length-append is (i ∷ []))

-- and that has more code behind it
pub seam : (pc : ℕ) (a c : List Instr) → pc + length a + length c ≡ pc + length (a ++ c)
seam pc a c = omega (arith, length-append a c)

module _ (units : List unit.Unit) (u : unit.Unit) (ctx : Context) (there : slice_get units ctx.unit ≡ Some u) where
  abbrev code : List Instr
  code = u.instrs.items

  -- the machine from a place on
  abbrev pub from : ℕ → Stack → Timed
  from pc stack n = exec units n ctx pc stack n

  -- one instruction, and then the machine for n turns
  abbrev pub acts : Instr → ℕ → Stack → ℕ → Timed
  acts i pc stack n = act units u (Some i) (exec units n) ctx pc stack

  module _ (b : ℕ) where
    -- an instruction is a turn
    pub one : (pc : ℕ) (stack : Stack) {i : Instr} (rest : Timed) → slice_get code pc ≡ Some i → ((n : ℕ) → n < b → acts i pc stack n n ≡ rest n) → Agree b (from pc stack) (turn rest)
    one pc stack rest h k = record { by = λ n le. at n le }
      where
        at : (n : ℕ) → n ≤ b → exec units n ctx pc stack n ≡ turn rest n
        at zero le = refl
        at (suc m) le =
            ap (λ o. act_in units o (exec units m) ctx pc stack m) there
            ∙ ap (λ o. act units u o (exec units m) ctx pc stack m) h ∙ k m (omega arith)

    -- from another place that is the same
    pub moved : (pc pc' : ℕ) (stack : Stack) (rest : Timed) → pc ≡ pc' → Agree b (from pc' stack) rest → Agree b (from pc stack) rest
    moved pc pc' stack rest e h = record { by = λ n le. ap (λ p. exec units n ctx p stack n) e ∙ h.by n le }

    -- with another stack that is the same
    pub over : (pc : ℕ) (stack stack' : Stack) (rest : Timed) → stack ≡ stack' → Agree b (from pc stack') rest → Agree b (from pc stack) rest
    over pc stack stack' rest e h = record { by = λ n le. ap (λ st. exec units n ctx pc st n) e ∙ h.by n le }

    -- a function that an instruction calls does what points lead to, and gives its value to the half-done expression
    abbrev pub DoesCalls : Points → Here → Type 0
    DoesCalls points here =
        (t : Target) (vs : List (Option (List ℕ))) (pc n : ℕ) (stack : Stack) (rest : List ℕ → Timed) → n < b → ((v : List ℕ) → Agree b (from pc (v ∷ stack)) (rest v))
        → machine.calls true (found units (entry_in u.name t)) vs (awaiting ctx pc stack) (exec units n) n ≡ points (Called true (entry_of here t) vs (λ v. change popped (rest v))) n

    -- what stands in a line, whatever points lead to, if functions do what they lead to
    module _ (points : Points) (here : Here) (invoked : DoesCalls points here) where
      mutual
        pub expr_follows : (e : Expr) (pc : ℕ) (stack : Stack) (rest : List ℕ → Timed)
            → HasAt code pc (expr_code pc e) → ((v : List ℕ) → Agree b (from (pc + length (expr_code pc e)) (v ∷ stack)) (rest v)) → Agree b (from pc stack) (ev points here e rest)
        expr_follows (Chain x ts) pc stack rest has k =
            let cx = operand_code pc x in
            operand_follows x pc stack _ (has_front code pc cx _ has) (λ v.
            tails_follow ts (pc + length cx) v stack rest (has_back code pc cx _ has) (λ w.
            moved _ _ (w ∷ stack) (rest w) (seam pc cx (tails_code (pc + length cx) ts)) (k w)))

        tails_follow : (ts : Tails) (pc : ℕ) (v : List ℕ) (stack : Stack) (rest : List ℕ → Timed) → HasAt code pc (tails_code pc ts)
            → ((w : List ℕ) → Agree b (from (pc + length (tails_code pc ts)) (w ∷ stack)) (rest w)) → Agree b (from pc (v ∷ stack)) (ev_tails points here v ts rest)
        tails_follow Done pc v stack rest has k = moved pc (pc + 0) (v ∷ stack) (rest v) (omega arith) (k v)
        tails_follow (Then op x ts) pc v stack rest has k =
            let cx = operand_code pc x in
            let i = instr.Binary op in
            let ct = tails_code (pc + length cx + 1) ts in
            let back = has_back code pc cx (i ∷ ct) has in
            let len : pc + length cx + 1 + length ct ≡ pc + length (cx ++ i ∷ ct) = omega (arith, length-append cx (i ∷ ct)) in
            operand_follows x pc (v ∷ stack) _ (has_front code pc cx _ has) (λ w.
            one (pc + length cx) (w ∷ v ∷ stack) _ back.0 (λ n lt.
            composed_at n (λ limit. binary_value limit op v w) _ _ (λ r.
            (tails_follow ts (pc + length cx + 1) r stack rest back.1 (λ q. moved _ _ (q ∷ stack) (rest q) len (k q))).by n (omega arith))))

        operand_follows : (x : Operand) (pc : ℕ) (stack : Stack) (rest : List ℕ → Timed) → HasAt code pc (operand_code pc x)
            → ((v : List ℕ) → Agree b (from (pc + length (operand_code pc x)) (v ∷ stack)) (rest v)) → Agree b (from pc stack) (ev_operand points here x rest)
        operand_follows (Literal t) pc stack rest has k = one pc stack _ has.0 (λ n lt. (k t).by n (omega arith))
        operand_follows (Value v) pc stack rest has k =
            let cs = subscripts_code pc v in
            let i = instr.Load (reference v) in
            name_follows v i pc stack _ (has_front code pc cs _ has) (has_back code pc cs _ has).0 (λ ss n lt many.
            ap (λ l. given (name_of (reference v).scope (reference v).word l) (λ x. read x (λ w. exec units n ctx (pc + length cs + 1) (w ∷ drop (reference v).count (onto ss stack)))) n)
            (operands_are ss stack _ many)
            ∙ ap (λ st. given (name_of (reference v).scope (reference v).word ss) (λ x. read x (λ w. exec units n ctx (pc + length cs + 1) (w ∷ st))) n) (rest_below ss stack _ many)
            ∙ given_at n (name_of (reference v).scope (reference v).word ss) _ _ (λ x e.
            read_at n x _ _ (λ w. (moved _ _ (w ∷ stack) (rest w) (end_of pc cs i) (k w)).by n (omega arith))))
        operand_follows (Intrinsic v) pc stack rest has k =
            one pc stack _ has.0 (λ n lt.
            look_at n (λ s. exec units n ctx (pc + 1) (special_value v s ∷ stack)) (λ s. rest (special_value v s)) (λ s. (k (special_value v s)).by n (omega arith)))
        operand_follows (Unary op x) pc stack rest has k =
            let cx = operand_code pc x in
            let i = instr.Unary op in
            operand_follows x pc stack _ (has_front code pc cx _ has) (λ v.
            one (pc + length cx) (v ∷ stack) _ (has_back code pc cx _ has).0 (λ n lt.
            given_at n (unary_value op v) _ _ (λ r e. (moved _ _ (r ∷ stack) (rest r) (end_of pc cx i) (k r)).by n (omega arith))))
        operand_follows (Group e) pc stack rest has k = expr_follows e pc stack rest has k
        operand_follows (Call f es) pc stack rest has k =
            let ce = exprs_code pc es in
            let i = instr.CallFunction f (count es) in
            all_follow es pc stack _ (has_front code pc ce _ has) (λ vs many.
            one (pc + length ce) (onto vs stack) _ (has_back code pc ce _ has).0 (λ n lt.
            ap (λ l. composed (λ limit. call_value limit f l) (λ w. exec units n ctx (pc + length ce + 1) (w ∷ drop (count es) (onto vs stack))) n) (operands_are vs stack _ many)
            ∙ ap (λ st. composed (λ limit. call_value limit f vs) (λ w. exec units n ctx (pc + length ce + 1) (w ∷ st)) n) (rest_below vs stack _ many)
            ∙ composed_at n (λ limit. call_value limit f vs) _ _ (λ r. (moved _ _ (r ∷ stack) (rest r) (end_of pc ce i) (k r)).by n (omega arith))))
        operand_follows (About f v es) pc stack rest has k =
            let r = reference v in
            let total = r.count + count es in
            let cs = subscripts_code pc v in
            let pv = pc + length cs + 1 in
            let ce = exprs_code pv es in
            let i = instr.CallNameFunction f r total in
            let back = has_back code pc cs (instr.CheckNamed f r ∷ (ce ++ i ∷ [])) has in
            let len : pv + length ce + 1 ≡ pc + length (cs ++ instr.CheckNamed f r ∷ (ce ++ i ∷ [])) =
            omega (arith, length-append cs (instr.CheckNamed f r ∷ (ce ++ i ∷ [])), length-append ce (i ∷ [])) in
            let few : total - r.count ≡ count es = omega arith in
            named_follows f v (instr.CheckNamed f r) pc stack _ (has_front code pc cs _ has) back.0 (λ ss n lt many.
            ap (λ l. given (named_for f r.scope r.word l) (λ x. exec units n ctx pv (onto ss stack)) n) (operands_are ss stack _ many)
            ∙ given_at n (named_for f r.scope r.word ss) _ _ (λ x e.
            (all_follow es pv (onto ss stack) (λ vs. turn (about f x (optional 0 vs) rest)) (has_front code pv ce _ back.1) (λ vs some.
            let st = onto vs (onto ss stack) in
            one (pv + length ce) st _ (has_back code pv ce _ back.1).0 (λ m lt'.
            ap (λ j. given (named_for f r.scope r.word (operands r.count (drop j st))) (λ y. about f y (optional 0 (operands j st)) (λ w. exec units m ctx (pv + length ce + 1) (w ∷ drop total st))) m)
            few
            ∙ ap (λ l. given (named_for f r.scope r.word (operands r.count l))
            (λ y. about f y (optional 0 (operands (count es) st)) (λ w. exec units m ctx (pv + length ce + 1) (w ∷ drop total st))) m) (rest_below vs (onto ss stack) _ some)
            ∙ ap (λ l. given (named_for f r.scope r.word l) (λ y. about f y (optional 0 (operands (count es) st)) (λ w. exec units m ctx (pv + length ce + 1) (w ∷ drop total st))) m)
            (operands_are ss stack _ many)
            ∙ ap (λ l. given (named_for f r.scope r.word ss) (λ y. about f y (optional 0 l) (λ w. exec units m ctx (pv + length ce + 1) (w ∷ drop total st))) m)
            (operands_are vs (onto ss stack) _ some)
            ∙ ap (λ l. given (named_for f r.scope r.word ss) (λ y. about f y (optional 0 vs) (λ w. exec units m ctx (pv + length ce + 1) (w ∷ l))) m)
            (both_below ss vs stack total (omega (arith, many, some)))
            ∙ ap (λ o. given o (λ y. about f y (optional 0 vs) (λ w. exec units m ctx (pv + length ce + 1) (w ∷ stack))) m) e
            ∙ about_at m f x (optional 0 vs) (λ w. exec units m ctx (pv + length ce + 1) (w ∷ stack)) rest (λ w. (moved _ _ (w ∷ stack) (rest w) len (k w)).by m (omega arith))))).by n (omega arith)))
        operand_follows (Select choices) pc stack rest has k = choices_follow choices pc stack rest has k
        operand_follows (Extrinsic t es) pc stack rest has k =
            let ca = actuals_code pc es in
            let shape = plain_shape (shape_of es) in
            let i = instr.Invoke (kept_target t) shape in
            let behind = pc + length ca + 1 in
            actuals_follow es pc stack _ (has_front code pc ca _ has) (λ vs many.
            let few : length vs ≡ given_count shape = many ∙ sym (plain_count (shape_of es)) in
            let begins : List (Option (List ℕ)) → Stack → ℕ → Timed = λ xs st n. machine.calls true (found units (entry_in u.name t)) xs (awaiting ctx behind st) (exec units n) in
            one (pc + length ca) (onto vs stack) _ (has_back code pc ca _ has).0 (λ n lt.
            ap (λ l. begins (spread shape l) (drop (given_count shape) (onto vs stack)) n n) (operands_are vs stack _ few)
            ∙ ap (λ st. begins (spread shape vs) st n n) (rest_below vs stack _ few)
            ∙ ap (λ xs. begins xs stack n n) (plain_spread (shape_of es) vs)
            ∙ invoked t (plain_values (spread (shape_of es) vs)) behind n stack rest lt (λ v. moved _ _ (v ∷ stack) (rest v) (end_of pc ca i) (k v))))

        -- actuals, of which those that are given lie on the stack
        pub actuals_follow : (es : Actuals) (pc : ℕ) (stack : Stack) (rest : List (Option (List ℕ)) → Timed) → HasAt code pc (actuals_code pc es)
            → ((vs : List (List ℕ)) → length vs ≡ given_count (shape_of es) → Agree b (from (pc + length (actuals_code pc es)) (onto vs stack)) (rest (spread (shape_of es) vs)))
            → Agree b (from pc stack) (ev_actuals points here es rest)
        actuals_follow NoActual pc stack rest has k = moved pc (pc + 0) stack (rest []) (omega arith) (k [] refl)
        actuals_follow (Omitted es) pc stack rest has k = actuals_follow es pc stack (λ vs. rest (None ∷ vs)) has k
        actuals_follow (Given e es) pc stack rest has k =
            let ce = expr_code pc e in
            let cr = actuals_code (pc + length ce) es in
            expr_follows e pc stack _ (has_front code pc ce _ has) (λ v.
            actuals_follow es (pc + length ce) (v ∷ stack) (λ vs. rest (Some v ∷ vs)) (has_back code pc ce _ has) (λ vs many.
            moved _ _ (onto vs (v ∷ stack)) (rest (Some v ∷ spread (shape_of es) vs)) (seam pc ce cr) (k (v ∷ vs) (omega (arith, many)))))

        choices_follow : (x : Choices) (pc : ℕ) (stack : Stack) (rest : List ℕ → Timed) → HasAt code pc (choices_code pc x)
            → ((v : List ℕ) → Agree b (from (pc + length (choices_code pc x)) (v ∷ stack)) (rest v)) → Agree b (from pc stack) (ev_choices points here x rest)
        choices_follow (Last c e) pc stack rest has k =
            let cc' = expr_code pc c in
            let value = pc + length cc' + 1 in
            let ce = expr_code value e in
            let others = value + length ce + 1 in
            let j = instr.Jump (others + 1) in
            let i = instr.JumpUnless others in
            let back = has_back code pc cc' (i ∷ (ce ++ j ∷ instr.SelectFails ∷ [])) has in
            let back' = has_back code value ce (j ∷ instr.SelectFails ∷ []) back.1 in
            let end : others + 1 ≡ pc + length (cc' ++ i ∷ (ce ++ j ∷ instr.SelectFails ∷ [])) =
            omega (arith, length-append cc' (i ∷ (ce ++ j ∷ instr.SelectFails ∷ [])), length-append ce (j ∷ instr.SelectFails ∷ [])) in
            expr_follows c pc stack _ (has_front code pc cc' _ has) (λ v.
            one (pc + length cc') (v ∷ stack) _ back.0 (λ n lt.
            given_at n (truth_value v) _ _ (λ t q.
            if_at n t (exec units n ctx value stack) _ (exec units n ctx others stack) _
            ((expr_follows e value stack (λ w. turn (rest w)) (has_front code value ce _ back.1) (λ w.
            one (value + length ce) (w ∷ stack) (rest w) back'.0 (λ m lt'. (moved _ _ (w ∷ stack) (rest w) end (k w)).by m (omega arith)))).by n (omega arith))
            ((one others stack (fault NoTrue) back'.1.0 (λ m lt'. refl)).by n (omega arith)))))
        choices_follow (Before c e x) pc stack rest has k =
            let cc' = expr_code pc c in
            let value = pc + length cc' + 1 in
            let ce = expr_code value e in
            let others = value + length ce + 1 in
            let co = choices_code others x in
            let j = instr.Jump (others + length co) in
            let i = instr.JumpUnless others in
            let back = has_back code pc cc' (i ∷ (ce ++ j ∷ co)) has in
            let back' = has_back code value ce (j ∷ co) back.1 in
            let end : others + length co ≡ pc + length (cc' ++ i ∷ (ce ++ j ∷ co)) = omega (arith, length-append cc' (i ∷ (ce ++ j ∷ co)), length-append ce (j ∷ co)) in
            expr_follows c pc stack _ (has_front code pc cc' _ has) (λ v.
            one (pc + length cc') (v ∷ stack) _ back.0 (λ n lt.
            given_at n (truth_value v) _ _ (λ t q.
            if_at n t (exec units n ctx value stack) _ (exec units n ctx others stack) _
            ((expr_follows e value stack (λ w. turn (rest w)) (has_front code value ce _ back.1) (λ w.
            one (value + length ce) (w ∷ stack) (rest w) back'.0 (λ m lt'. (moved _ _ (w ∷ stack) (rest w) end (k w)).by m (omega arith)))).by n (omega arith))
            ((choices_follow x others stack rest back'.1 (λ w. moved _ _ (w ∷ stack) (rest w) end (k w))).by n (omega arith)))))

        -- a variable's subscripts, and an instruction that takes its name
        pub name_follows : (v : Variable) (i : Instr) (pc : ℕ) (stack : Stack) (rest : Name → Timed) → HasAt code pc (subscripts_code pc v)
            → slice_get code (pc + length (subscripts_code pc v)) ≡ Some i
            → ((ss : List (List ℕ)) (n : ℕ) → n < b → length ss ≡ (reference v).count → acts i (pc + length (subscripts_code pc v)) (onto ss stack) n n
            ≡ given (name_of (reference v).scope (reference v).word ss) rest n) → Agree b (from pc stack) (ev_name points here v rest)
        name_follows (Var scope word es) i pc stack rest has at k =
            all_follow es pc stack _ has (λ ss many. one _ (onto ss stack) _ at (λ n lt. k ss n lt many))

        -- and one that takes the name for a function
        named_follows : (f : NameFunction) (v : Variable) (i : Instr) (pc : ℕ) (stack : Stack) (rest : Name → Timed)
            → HasAt code pc (subscripts_code pc v) → slice_get code (pc + length (subscripts_code pc v)) ≡ Some i → ((ss : List (List ℕ)) (n : ℕ) → n < b
            → length ss ≡ (reference v).count → acts i (pc + length (subscripts_code pc v)) (onto ss stack) n n ≡ given (named_for f (reference v).scope (reference v).word ss) rest n)
            → Agree b (from pc stack) (ev_named points here f v rest)
        named_follows f (Var scope word es) i pc stack rest has at k =
            all_follow es pc stack _ has (λ ss many. one _ (onto ss stack) _ at (λ n lt. k ss n lt many))

        pub all_follow : (es : Exprs) (pc : ℕ) (stack : Stack) (rest : List (List ℕ) → Timed)
            → HasAt code pc (exprs_code pc es) → ((vs : List (List ℕ)) → length vs ≡ count es → Agree b (from (pc + length (exprs_code pc es)) (onto vs stack)) (rest vs))
            → Agree b (from pc stack) (ev_all points here es rest)
        all_follow No pc stack rest has k = moved pc (pc + 0) stack (rest []) (omega arith) (k [] refl)
        all_follow (More e es) pc stack rest has k =
            let ce = expr_code pc e in
            let cr = exprs_code (pc + length ce) es in
            expr_follows e pc stack _ (has_front code pc ce _ has) (λ v.
            all_follow es (pc + length ce) (v ∷ stack) _ (has_back code pc ce _ has) (λ vs many.
            moved _ _ (onto vs (v ∷ stack)) (rest (v ∷ vs)) (seam pc ce cr) (k (v ∷ vs) (omega (arith, many)))))

      -- a name that is looked at, and then what comes behind it
      pub checked : (v : Variable) (pc : ℕ) (stack : Stack) (rest : Name → Timed) → HasAt code pc (subscripts_code pc v)
          → slice_get code (pc + length (subscripts_code pc v)) ≡ Some (instr.CheckName (reference v))
          → ((x : Name) (ss : List (List ℕ)) → length ss ≡ (reference v).count
          → name_of (reference v).scope (reference v).word ss ≡ Ok x → Agree b (from (pc + length (subscripts_code pc v) + 1) (onto ss stack)) (rest x))
          → Agree b (from pc stack) (ev_name points here v rest)
      checked v pc stack rest has at k =
          let r = reference v in
          let behind = pc + length (subscripts_code pc v) + 1 in
          name_follows v (instr.CheckName r) pc stack rest has at (λ ss n lt many.
          ap (λ l. given (name_of r.scope r.word l) (λ x. exec units n ctx behind (onto ss stack)) n) (operands_are ss stack _ many)
          ∙ given_at n (name_of r.scope r.word ss) (λ x. exec units n ctx behind (onto ss stack)) rest (λ x e. (k x ss many e).by n (omega arith)))

      pub timeout_follows : (o : Option Expr) (pc : ℕ) (stack : Stack) (rest : Option ℤ → Timed) → HasAt code pc (timeout_code pc o)
          → ((t : Option ℤ) (st : Stack) → LiesWait o t st stack → Agree b (from (pc + length (timeout_code pc o)) st) (rest t)) → Agree b (from pc stack) (ev_timeout points here o rest)
      timeout_follows None pc stack rest has k = moved pc (pc + 0) stack (rest None) (omega arith) (k None stack refl)
      timeout_follows (Some e) pc stack rest has k =
          let ce = expr_code pc e in
          expr_follows e pc stack _ (has_front code pc ce _ has) (λ v.
          one (pc + length ce) (v ∷ stack) _ (has_back code pc ce _ has).0 (λ n lt.
          given_at n (reading v) (λ i. exec units n ctx (pc + length ce + 1) (v ∷ stack)) (λ i. rest (Some i)) (λ i q.
          (moved _ _ (v ∷ stack) (rest (Some i)) (end_of pc ce instr.CheckNumber) (k (Some i) (v ∷ stack) (v, refl, q))).by n (omega arith))))

      -- the subscripts of a FOR's local, and the instruction that takes its name
      pub local_follows : (v : Variable) (i : Instr) (pc : ℕ) (stack : Stack) (rest : Name → Timed)
          → HasAt code pc (subscripts_code pc v) → slice_get code (pc + length (subscripts_code pc v)) ≡ Some i → ((ss : List (List ℕ)) (n : ℕ) → n < b → length ss ≡ (reference v).count
          → acts i (pc + length (subscripts_code pc v)) (onto ss stack) n n ≡ given (name_of Local (reference v).word ss) rest n) → Agree b (from pc stack) (ev_local points here v rest)
      local_follows (Var scope word es) i pc stack rest has at k =
          all_follow es pc stack _ has (λ ss many. one _ (onto ss stack) _ at (λ n lt. k ss n lt many))

      -- code behind a postcondition, and what comes after it
      pub when_follows : (o : Option Expr) (made : ℕ → List Instr) (done rest : Timed) (pc : ℕ) (stack : Stack) → HasAt code pc (code_if pc o made)
          → ((p : ℕ) → HasAt code p (made p) → Agree b (from (p + length (made p)) stack) rest → Agree b (from p stack) done)
          → Agree b (from (pc + length (code_if pc o made)) stack) rest → Agree b (from pc stack) (when points here o done rest)
      when_follows None made done rest pc stack has f k = f pc has k
      when_follows (Some e) made done rest pc stack has f k =
          let ce = expr_code pc e in
          let behind = pc + length ce + 1 in
          let past = behind + length (made behind) in
          let back = has_back code pc ce (instr.JumpUnless past ∷ made behind) has in
          let len : past ≡ pc + length (ce ++ instr.JumpUnless past ∷ made behind) = omega (arith, length-append ce (instr.JumpUnless past ∷ made behind)) in
          let after = moved past _ stack rest len k in
          expr_follows e pc stack _ (has_front code pc ce _ has) (λ v.
          one (pc + length ce) (v ∷ stack) _ back.0 (λ n lt.
          given_at n (truth_value v) _ _ (λ t q.
          if_at n t (exec units n ctx behind stack) done (exec units n ctx past stack) rest
          ((f behind back.1 after).by n (omega arith))
          (after.by n (omega arith)))))
