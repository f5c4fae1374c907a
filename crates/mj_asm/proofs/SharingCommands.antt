-- The code of HANG, JOB and LOCK does what they say.
use Rattle.std.proofs.Common.{◌≡◌, ℕ, ◌+◌, ◌<◌, List, [], ◌∷◌, ◌++◌, length, drop, map, Option, Some, refl, ap, ◌∙◌, arith, length-append}
use Rattle.std.specs.Prelude.{ℤ, slice_get}
use Rattle.mj_subs.specs.Name.{Name}
use Rattle.mj_ast.specs.Syntax.{as_actuals, Expr, Variable, Started, LockNames, Lone, Together, Locked}
use Rattle.mj_semantics.specs.Outcome.{Timed, turn, given}
use Rattle.mj_semantics.specs.Lines.{Here, entry_of}
use Rattle.mj_semantics.specs.Sharing.{start_job, take_names, give_names, lock}
use Rattle.mj_semantics.specs.Points.{Points}
use Rattle.mj_semantics.specs.Evaluation.{ev_actuals}
use Rattle.mj_semantics.specs.Commands.{ev_timeout, hang_all, start_all, ev_names, ev_lock_names, lock_list, lock_all}
use Rattle.mj_pcode.specs.declared.instr.Reference.{Reference}
use Rattle.mj_pcode.specs.declared.instr.Wait.{Wait}
use Rattle.mj_ast.specs.declared.routine.LockMode.{LockMode}
use Rattle.mj_ast.specs.declared.routine.LockMode.TheVariants as mode
use Rattle.mj_pcode.specs.declared.instr.Instr.{Instr}
use Rattle.mj_pcode.specs.declared.instr.Instr.TheVariants as instr
use Rattle.mj_pcode.specs.declared.instr.Unit as unit
use Rattle.mj_pcode.specs.Context.{Context}
use Rattle.mj_pcode.specs.Machine.{Stack, exec, operands, spread, given_count, wait_size, waits, counts, names_on}
use Rattle.mj_asm.specs.Code.{reference, expr_code, subscripts_code, actuals_code, shape_of, timeout_code, wait_of, hang_code, hangs_code, start_code, jobs_code, name_code, variables_code, lock_variables, taking_code, lock_code, locks_code, lock_all_code}
use Rattle.mj_asm.specs.Correct.{Agree}
use Rattle.mj_pcode.proofs.Agree.{hang_at, start_job_at, unlock_all_at, take_names_at, give_names_at}
use Rattle.mj_asm.proofs.Lies.{onto, rest_below, operands_are, LiesWait, waited, below_wait, below_more, LieNames, below_names, names_are}
use Rattle.mj_asm.proofs.Expressions.{HasAt, DoesCalls, has_front, has_back, end_of, seam, from, one, moved, over, expr_follows, checked, actuals_follow, timeout_follows}

module _ (units : List unit.Unit) (u : unit.Unit) (ctx : Context) (there : slice_get units ctx.unit ≡ Some u) (b : ℕ) where
  abbrev code : List Instr
  code = u.instrs.items

  -- the machine from a place on
  abbrev runs : ℕ → Stack → Timed
  runs pc stack = from units u ctx there pc stack

  module _ (points : Points) (here : Here) (invoked : DoesCalls units u ctx there b points here) where
    pub hangs_follow : (es : List Expr) (pc : ℕ) (stack : Stack) (rest : Timed)
        → HasAt code pc (hangs_code pc es) → Agree b (runs (pc + length (hangs_code pc es)) stack) rest → Agree b (runs pc stack) (hang_all points here es rest)
    hangs_follow [] pc stack rest has k = moved units u ctx there b pc (pc + 0) stack rest (omega arith) k
    hangs_follow (e ∷ es) pc stack rest has k =
        let ce = expr_code pc e in
        let ch = hang_code pc e in
        let front = has_front code pc ch _ has in
        expr_follows units u ctx there b points here invoked e pc stack _ (has_front code pc ce _ front) (λ v.
        one units u ctx there b (pc + length ce) (v ∷ stack) _ (has_back code pc ce _ front).0 (λ n lt.
        hang_at n v (exec units n ctx (pc + length ce + 1) stack) (hang_all points here es rest)
        ((moved units u ctx there b _ _ stack (hang_all points here es rest) (end_of pc ce instr.Hang)
        (hangs_follow es (pc + length ch) stack rest (has_back code pc ch _ has) (moved units u ctx there b _ _ stack rest (seam pc ch (hangs_code (pc + length ch) es)) k))).by n (omega arith))))

    start_follows : (s : Started) (pc : ℕ) (stack : Stack) (rest : Timed) → HasAt code pc (start_code here pc s) → Agree b (runs (pc + length (start_code here pc s)) stack) rest
        → Agree b (runs pc stack) (ev_actuals points here (as_actuals s.actuals) (λ vs. ev_timeout points here s.timeout (λ t. turn (start_job (entry_of here s.target) vs t rest))))
    start_follows s pc stack rest has k =
        let actuals = as_actuals s.actuals in
        let ca = actuals_code pc actuals in
        let pw = pc + length ca in
        let cw = timeout_code pw s.timeout in
        let w = wait_of s.timeout in
        let shape = shape_of actuals in
        let entry = entry_of here s.target in
        let i = instr.StartJob entry shape w in
        let back = has_back code pc ca (cw ++ i ∷ []) has in
        let at = pw + length cw in
        let taken = given_count shape + wait_size w in
        let len : at + 1 ≡ pc + length (ca ++ (cw ++ i ∷ [])) = omega (arith, length-append ca (cw ++ i ∷ []), length-append cw (i ∷ [])) in
        actuals_follow units u ctx there b points here invoked actuals pc stack _ (has_front code pc ca _ has) (λ vs many.
        timeout_follows units u ctx there b points here invoked s.timeout pw (onto vs stack) _ (has_front code pw cw _ back) (λ t st l.
        one units u ctx there b at st (start_job entry (spread shape vs) t rest) (has_back code pw cw _ back).0 (λ n lt.
        let behind : Timed = exec units n ctx (at + 1) (drop taken st) in
        waited s.timeout t st (onto vs stack) l (λ z. start_job entry (spread shape (operands (given_count shape) (drop (wait_size w) st))) z behind) n
        ∙ ap (λ base. start_job entry (spread shape (operands (given_count shape) base)) t behind n) (below_wait s.timeout t st (onto vs stack) l)
        ∙ ap (λ ws. start_job entry (spread shape ws) t behind n) (operands_are vs stack _ many)
        ∙ start_job_at n entry (spread shape vs) t behind rest
        ((over units u ctx there b (at + 1) (drop taken st) stack rest (below_more s.timeout t st (onto vs stack) (given_count shape) l ∙ rest_below vs stack _ many)
        (moved units u ctx there b _ _ stack rest len k)).by n (omega arith)))))

    pub jobs_follow : (list : List Started) (pc : ℕ) (stack : Stack) (rest : Timed)
        → HasAt code pc (jobs_code here pc list) → Agree b (runs (pc + length (jobs_code here pc list)) stack) rest → Agree b (runs pc stack) (start_all points here list rest)
    jobs_follow [] pc stack rest has k = moved units u ctx there b pc (pc + 0) stack rest (omega arith) k
    jobs_follow (s ∷ list) pc stack rest has k =
        let cs = start_code here pc s in
        start_follows s pc stack (start_all points here list rest) (has_front code pc cs _ has)
        (jobs_follow list (pc + length cs) stack rest (has_back code pc cs _ has) (moved units u ctx there b _ _ stack rest (seam pc cs (jobs_code here (pc + length cs) list)) k))

    variables_follow : (vs : List Variable) (pc : ℕ) (stack : Stack) (rest : List Name → Timed) → HasAt code pc (variables_code pc vs)
        → ((xs : List Name) (st : Stack) → LieNames vs xs st stack → Agree b (runs (pc + length (variables_code pc vs)) st) (rest xs))
        → Agree b (runs pc stack) (ev_names points here vs rest)
    variables_follow [] pc stack rest has k = moved units u ctx there b pc (pc + 0) stack (rest []) (omega arith) (k [] stack refl)
    variables_follow (v ∷ vs) pc stack rest has k =
        let cs = subscripts_code pc v in
        let i = instr.CheckName (reference v) in
        let cn = name_code pc v in
        let front = has_front code pc cn _ has in
        checked units u ctx there b points here invoked v pc stack _ (has_front code pc cs _ front) (has_back code pc cs _ front).0 (λ x ss many e.
        moved units u ctx there b _ _ (onto ss stack) (ev_names points here vs (λ xs. rest (x ∷ xs))) (end_of pc cs i)
        (variables_follow vs (pc + length cn) (onto ss stack) (λ xs. rest (x ∷ xs)) (has_back code pc cn _ has) (λ xs st l.
        moved units u ctx there b _ _ st (rest (x ∷ xs)) (seam pc cn (variables_code (pc + length cn) vs)) (k (x ∷ xs) st (ss, many, e, l)))))

    lock_names_follow : (o : LockNames) (pc : ℕ) (stack : Stack) (rest : List Name → Timed) → HasAt code pc (variables_code pc (lock_variables o))
        → ((xs : List Name) (st : Stack) → LieNames (lock_variables o) xs st stack → Agree b (runs (pc + length (variables_code pc (lock_variables o))) st) (rest xs))
        → Agree b (runs pc stack) (ev_lock_names points here o rest)
    lock_names_follow (Lone v) pc stack rest has k = variables_follow (v ∷ []) pc stack rest has k
    lock_names_follow (Together vs) pc stack rest has k = variables_follow vs pc stack rest has k

    -- names that lie on the stack are asked for, below how long that may take
    module _ (o : Option Expr) (t : Option ℤ) (vs : List Variable) (xs : List Name) (st mid base : Stack) (l : LiesWait o t st mid) (named : LieNames vs xs mid base) (rest : Timed) where
      abbrev rs : List Reference
      rs = map reference vs

      abbrev w : Wait
      w = wait_of o

      abbrev taken : ℕ
      taken = counts rs + wait_size w

      all_gone : (pc n : ℕ) → n < b → Agree b (runs pc base) rest → exec units n ctx pc (drop taken st) n ≡ rest n
      all_gone pc n lt k = (over units u ctx there b pc (drop taken st) base rest (below_more o t st mid (counts rs) l ∙ below_names vs xs mid base named) k).by n (omega arith)

      -- what is done with them
      asked_for : (f : List Name → Option ℤ → Timed) (n : ℕ) → waits w st (λ z. given (names_on rs (drop (wait_size w) st)) (λ ys. f ys z)) n ≡ f xs t n
      asked_for f n =
          waited o t st mid l (λ z. given (names_on rs (drop (wait_size w) st)) (λ ys. f ys z)) n
          ∙ ap (λ s. given (names_on rs s) (λ ys. f ys t) n) (below_wait o t st mid l)
          ∙ ap (λ q. given q (λ ys. f ys t) n) (names_are vs xs mid base named)

      taken_follow : (pc : ℕ) → slice_get code pc ≡ Some (instr.Lock rs w) → Agree b (runs (pc + 1) base) rest → Agree b (runs pc st) (turn (take_names xs t rest))
      taken_follow pc has k =
          one units u ctx there b pc st _ has (λ n lt.
          let behind : Timed = exec units n ctx (pc + 1) (drop taken st) in
          asked_for (λ ys z. take_names ys z behind) n ∙ take_names_at n xs t behind rest (all_gone (pc + 1) n lt k))

      given_follow : (pc : ℕ) → slice_get code pc ≡ Some (instr.Unlock rs w) → Agree b (runs (pc + 1) base) rest → Agree b (runs pc st) (turn (give_names xs t rest))
      given_follow pc has k =
          one units u ctx there b pc st _ has (λ n lt.
          let behind : Timed = exec units n ctx (pc + 1) (drop taken st) in
          asked_for (λ ys z. give_names ys z behind) n ∙ give_names_at n xs t behind rest (all_gone (pc + 1) n lt k))

      taking_follows : (m : LockMode) (pc : ℕ) → HasAt code pc (taking_code m rs w) → Agree b (runs (pc + length (taking_code m rs w)) base) rest → Agree b (runs pc st) (lock m xs t rest)
      taking_follows mode.Whole pc has k =
          one units u ctx there b pc st _ has.0 (λ n lt.
          unlock_all_at n (exec units n ctx (pc + 1) st) (turn (take_names xs t rest))
          ((taken_follow (pc + 1) has.1.0 (moved units u ctx there b (pc + 1 + 1) _ base rest (omega arith) k)).by n (omega arith)))
      taking_follows mode.Plus pc has k = taken_follow pc has.0 k
      taking_follows mode.Minus pc has k = given_follow pc has.0 k

    locks_follow : (list : List Locked) (pc : ℕ) (stack : Stack) (rest : Timed)
        → HasAt code pc (locks_code pc list) → Agree b (runs (pc + length (locks_code pc list)) stack) rest → Agree b (runs pc stack) (lock_list points here list rest)
    locks_follow [] pc stack rest has k = moved units u ctx there b pc (pc + 0) stack rest (omega arith) k
    locks_follow (l ∷ list) pc stack rest has k =
        let vs = lock_variables l.names in
        let cv = variables_code pc vs in
        let pw = pc + length cv in
        let cw = timeout_code pw l.timeout in
        let ct = taking_code l.mode (map reference vs) (wait_of l.timeout) in
        let cl = lock_code pc l in
        let front = has_front code pc cl _ has in
        let back = has_back code pc cv (cw ++ ct) front in
        let later : Timed = lock_list points here list rest in
        let len : pw + length cw + length ct ≡ pc + length cl = omega (arith, length-append cv (cw ++ ct), length-append cw ct) in
        lock_names_follow l.names pc stack _ (has_front code pc cv _ front) (λ xs mid named.
        timeout_follows units u ctx there b points here invoked l.timeout pw mid _ (has_front code pw cw _ back) (λ t st wait.
        taking_follows l.timeout t vs xs st mid stack wait named later l.mode (pw + length cw) (has_back code pw cw _ back)
        (moved units u ctx there b _ _ stack later len
        (locks_follow list (pc + length cl) stack rest (has_back code pc cl _ has) (moved units u ctx there b _ _ stack rest (seam pc cl (locks_code (pc + length cl) list)) k)))))

    pub lock_all_follows : (list : List Locked) (pc : ℕ) (stack : Stack) (rest : Timed)
        → HasAt code pc (lock_all_code pc list) → Agree b (runs (pc + length (lock_all_code pc list)) stack) rest → Agree b (runs pc stack) (lock_all points here list rest)
    lock_all_follows [] pc stack rest has k =
        one units u ctx there b pc stack _ has.0 (λ n lt. unlock_all_at n (exec units n ctx (pc + 1) stack) rest (k.by n (omega arith)))
    lock_all_follows (l ∷ list) pc stack rest has k = locks_follow (l ∷ list) pc stack rest has k
