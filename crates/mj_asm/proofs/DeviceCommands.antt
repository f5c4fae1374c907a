-- The code of WRITE, OPEN, USE, CLOSE and READ does what they say.
use Rattle.std.proofs.Common.{◌≡◌, ℕ, ◌+◌, List, [], ◌∷◌, ◌++◌, length, drop, map, Option, Some, None, refl, ap, ◌∙◌, arith, length-append}
use Rattle.std.specs.Prelude.{slice_get}
use Rattle.mj_text.specs.declared.fault.Fault.TheVariants.{Device}
use Rattle.mj_ast.specs.Syntax.{Expr, Output, Shown, Format, Coded, Opened, Received, Input, Prompted, Arranged, Into}
use Rattle.mj_semantics.specs.Outcome.{Timed, turn, fault}
use Rattle.mj_semantics.specs.Lines.{Here}
use Rattle.mj_semantics.specs.Devices.{request_device, begin_session, open_device, give_up, close, read_input}
use Rattle.mj_semantics.specs.Points.{Points}
use Rattle.mj_semantics.specs.Evaluation.{ev}
use Rattle.mj_semantics.specs.Commands.{store, ev_timeout, open_all, use_all, close_all, receive, input, read_all, mark_byte, write, arrange, output, output_all}
use Rattle.mj_pcode.specs.declared.instr.Depth.{Depth}
use Rattle.mj_ast.specs.declared.routine.FormatMark.{FormatMark}
use Rattle.mj_pcode.specs.declared.instr.Instr.{Instr}
use Rattle.mj_pcode.specs.declared.instr.Instr.TheVariants as instr
use Rattle.mj_pcode.specs.declared.instr.Unit as unit
use Rattle.mj_pcode.specs.Context.{Context}
use Rattle.mj_pcode.specs.Machine.{Stack, top, exec, wait_size}
use Rattle.mj_asm.specs.Code.{reference, expr_code, subscripts_code, format_code, output_code, outputs_code, timeout_code, wait_of, name_code, open_code, opens_code, use_code, uses_code, close_code, closes_code, taken_code, receive_code, input_code, inputs_code}
use Rattle.mj_asm.specs.Correct.{Agree}
use Rattle.mj_pcode.proofs.Agree.{write_at, tab_at, write_code_at, obtain_at, begin_session_at, use_device_at, end_session_at, give_up_at, read_input_at}
use Rattle.mj_asm.proofs.Lies.{onto, rest_below, drop_more, waited, below_wait, below_more}
use Rattle.mj_asm.proofs.Expressions.{HasAt, DoesCalls, has_front, has_back, end_of, seam, from, one, moved, over, expr_follows, checked, timeout_follows}
use Rattle.mj_asm.proofs.VariableCommands.{stored}

module _ (units : List unit.Unit) (u : unit.Unit) (ctx : Context) (there : slice_get units ctx.unit ≡ Some u) (b : ℕ) where
  abbrev code : List Instr
  code = u.instrs.items

  -- the machine from a place on
  abbrev runs : ℕ → Stack → Timed
  runs pc stack = from units u ctx there pc stack

  module _ (points : Points) (here : Here) (invoked : DoesCalls units u ctx there b points here) where
    format_follows : (marks : List FormatMark) (o : Option Expr) (pc : ℕ) (stack : Stack) (rest : Timed)
        → HasAt code pc (format_code pc marks o) → Agree b (runs (pc + length (format_code pc marks o)) stack) rest → Agree b (runs pc stack) (arrange points here marks o rest)
    format_follows marks None pc stack rest has k =
        one units u ctx there b pc stack _ has.0 (λ n lt. write_at n (map mark_byte marks) (exec units n ctx (pc + 1) stack) rest (k.by n (omega arith)))
    format_follows marks (Some e) pc stack rest has k =
        let ce = expr_code pc e in
        expr_follows units u ctx there b points here invoked e pc stack _ (has_front code pc ce _ has) (λ v.
        one units u ctx there b (pc + length ce) (v ∷ stack) _ (has_back code pc ce _ has).0 (λ n lt.
        tab_at n marks v (exec units n ctx (pc + length ce + 1) stack) rest ((moved units u ctx there b _ _ stack rest (end_of pc ce (instr.WriteTab marks)) k).by n (omega arith))))

    output_follows : (o : Output) (pc : ℕ) (stack : Stack) (rest : Timed) → HasAt code pc (output_code pc o) → Agree b (runs (pc + length (output_code pc o)) stack) rest
        → Agree b (runs pc stack) (output points here o rest)
    output_follows (Shown e) pc stack rest has k =
        let ce = expr_code pc e in
        expr_follows units u ctx there b points here invoked e pc stack _ (has_front code pc ce _ has) (λ v.
        one units u ctx there b (pc + length ce) (v ∷ stack) _ (has_back code pc ce _ has).0 (λ n lt.
        write_at n v (exec units n ctx (pc + length ce + 1) stack) rest ((moved units u ctx there b _ _ stack rest (end_of pc ce instr.Write) k).by n (omega arith))))
    output_follows (Format l) pc stack rest has k = format_follows l.marks l.column pc stack rest has k
    output_follows (Coded e) pc stack rest has k =
        let ce = expr_code pc e in
        expr_follows units u ctx there b points here invoked e pc stack _ (has_front code pc ce _ has) (λ v.
        one units u ctx there b (pc + length ce) (v ∷ stack) _ (has_back code pc ce _ has).0 (λ n lt.
        write_code_at n v (exec units n ctx (pc + length ce + 1) stack) rest ((moved units u ctx there b _ _ stack rest (end_of pc ce instr.WriteByte) k).by n (omega arith))))

    pub outputs_follow : (list : List Output) (pc : ℕ) (stack : Stack) (rest : Timed)
        → HasAt code pc (outputs_code pc list) → Agree b (runs (pc + length (outputs_code pc list)) stack) rest → Agree b (runs pc stack) (output_all points here list rest)
    outputs_follow [] pc stack rest has k = moved units u ctx there b pc (pc + 0) stack rest (omega arith) k
    outputs_follow (o ∷ list) pc stack rest has k =
        let co = output_code pc o in
        output_follows o pc stack _ (has_front code pc co _ has)
        (outputs_follow list (pc + length co) stack rest (has_back code pc co _ has) (moved units u ctx there b _ _ stack rest (seam pc co (outputs_code (pc + length co) list)) k))

    open_follows : (o : Opened) (pc : ℕ) (stack : Stack) (rest : Timed) → HasAt code pc (open_code pc o) → Agree b (runs (pc + length (open_code pc o)) stack) rest
        → Agree b (runs pc stack) (ev points here o.device (λ v. ev_timeout points here o.timeout (λ t. turn (open_device v t rest))))
    open_follows o pc stack rest has k =
        let ce = expr_code pc o.device in
        let pw = pc + length ce in
        let cw = timeout_code pw o.timeout in
        let w = wait_of o.timeout in
        let i = instr.OpenDevice w in
        let last = i ∷ instr.BeginSession ∷ [] in
        let back = has_back code pc ce (cw ++ last) has in
        let there_is = has_back code pw cw last back in
        let at = pw + length cw in
        let len : at + 2 ≡ pc + length (ce ++ (cw ++ last)) = omega (arith, length-append ce (cw ++ last), length-append cw last) in
        let len' : at + 1 + 1 ≡ pc + length (ce ++ (cw ++ last)) = omega (arith, len) in
        expr_follows units u ctx there b points here invoked o.device pc stack _ (has_front code pc ce _ has) (λ v.
        timeout_follows units u ctx there b points here invoked o.timeout pw (v ∷ stack) _ (has_front code pw cw _ back) (λ t st l.
        one units u ctx there b at st (open_device v t rest) there_is.0 (λ n lt.
        let past : Timed = exec units n ctx (at + 2) (drop (1 + wait_size w) st) in
        let begun : Stack → Timed = λ base. exec units n ctx (at + 1) base in
        waited o.timeout t st (v ∷ stack) l (λ z. request_device (top (drop (wait_size w) st)) z past (begun (drop (wait_size w) st))) n
        ∙ ap (λ base. request_device (top base) t past (begun base) n) (below_wait o.timeout t st (v ∷ stack) l)
        ∙ obtain_at n v t past rest (begun (v ∷ stack)) (turn (begin_session v rest))
        ((over units u ctx there b (at + 2) (drop (1 + wait_size w) st) stack rest (below_more o.timeout t st (v ∷ stack) 1 l) (moved units u ctx there b _ _ stack rest len k)).by n (omega arith))
        ((one units u ctx there b (at + 1) (v ∷ stack) (begin_session v rest) there_is.1.0 (λ m lt'.
        begin_session_at m v (exec units m ctx (at + 1 + 1) stack) rest ((moved units u ctx there b _ _ stack rest len' k).by m (omega arith)))).by n (omega arith)))))

    pub opens_follow : (list : List Opened) (pc : ℕ) (stack : Stack) (rest : Timed)
        → HasAt code pc (opens_code pc list) → Agree b (runs (pc + length (opens_code pc list)) stack) rest → Agree b (runs pc stack) (open_all points here list rest)
    opens_follow [] pc stack rest has k = moved units u ctx there b pc (pc + 0) stack rest (omega arith) k
    opens_follow (o ∷ list) pc stack rest has k =
        let co = open_code pc o in
        open_follows o pc stack (open_all points here list rest) (has_front code pc co _ has)
        (opens_follow list (pc + length co) stack rest (has_back code pc co _ has) (moved units u ctx there b _ _ stack rest (seam pc co (opens_code (pc + length co) list)) k))

    pub uses_follow : (es : List Expr) (pc : ℕ) (stack : Stack) (rest : Timed)
        → HasAt code pc (uses_code pc es) → Agree b (runs (pc + length (uses_code pc es)) stack) rest → Agree b (runs pc stack) (use_all points here es rest)
    uses_follow [] pc stack rest has k = moved units u ctx there b pc (pc + 0) stack rest (omega arith) k
    uses_follow (e ∷ es) pc stack rest has k =
        let ce = expr_code pc e in
        let cu = use_code pc e in
        let front = has_front code pc cu _ has in
        expr_follows units u ctx there b points here invoked e pc stack _ (has_front code pc ce _ front) (λ v.
        one units u ctx there b (pc + length ce) (v ∷ stack) _ (has_back code pc ce _ front).0 (λ n lt.
        use_device_at n v (exec units n ctx (pc + length ce + 1) stack) (use_all points here es rest)
        ((moved units u ctx there b _ _ stack (use_all points here es rest) (end_of pc ce instr.UseDevice)
        (uses_follow es (pc + length cu) stack rest (has_back code pc cu _ has) (moved units u ctx there b _ _ stack rest (seam pc cu (uses_code (pc + length cu) es)) k))).by n (omega arith))))

    close_follows : (e : Expr) (pc : ℕ) (stack : Stack) (rest : Timed) → HasAt code pc (close_code pc e) → Agree b (runs (pc + length (close_code pc e)) stack) rest
        → Agree b (runs pc stack) (ev points here e (λ v. turn (close v rest)))
    close_follows e pc stack rest has k =
        let ce = expr_code pc e in
        let pe = pc + length ce in
        let last = instr.EndSession ∷ instr.GiveUpFailedDevice ∷ instr.GiveUpDevice ∷ [] in
        let there_is = has_back code pc ce last has in
        let len : pe + 3 ≡ pc + length (ce ++ last) = omega (arith, length-append ce last) in
        let len' : pe + 1 + 1 + 1 ≡ pc + length (ce ++ last) = omega (arith, len) in
        expr_follows units u ctx there b points here invoked e pc stack _ (has_front code pc ce _ has) (λ v.
        one units u ctx there b pe (v ∷ stack) (close v rest) there_is.0 (λ n lt.
        end_session_at n v (exec units n ctx (pe + 3) stack) rest
        (exec units n ctx (pe + 1) (v ∷ stack)) (turn (give_up v (fault Device)))
        (exec units n ctx (pe + 2) (v ∷ stack)) (turn (give_up v rest))
        ((moved units u ctx there b _ _ stack rest len k).by n (omega arith))
        ((one units u ctx there b (pe + 1) (v ∷ stack) (give_up v (fault Device)) there_is.1.0 (λ m lt'. refl)).by n (omega arith))
        ((moved units u ctx there b (pe + 2) (pe + 1 + 1) (v ∷ stack) (turn (give_up v rest)) (omega arith)
        (one units u ctx there b (pe + 1 + 1) (v ∷ stack) (give_up v rest) there_is.1.1.0 (λ m lt'.
        give_up_at m v (exec units m ctx (pe + 1 + 1 + 1) stack) rest ((moved units u ctx there b _ _ stack rest len' k).by m (omega arith))))).by n (omega arith))))

    pub closes_follow : (es : List Expr) (pc : ℕ) (stack : Stack) (rest : Timed)
        → HasAt code pc (closes_code pc es) → Agree b (runs (pc + length (closes_code pc es)) stack) rest → Agree b (runs pc stack) (close_all points here es rest)
    closes_follow [] pc stack rest has k = moved units u ctx there b pc (pc + 0) stack rest (omega arith) k
    closes_follow (e ∷ es) pc stack rest has k =
        let cc = close_code pc e in
        close_follows e pc stack (close_all points here es rest) (has_front code pc cc _ has)
        (closes_follow es (pc + length cc) stack rest (has_back code pc cc _ has) (moved units u ctx there b _ _ stack rest (seam pc cc (closes_code (pc + length cc) es)) k))

    receive_follows : (r : Received) (pc : ℕ) (stack : Stack) (rest : Timed)
        → HasAt code pc (receive_code pc r) → Agree b (runs (pc + length (receive_code pc r)) stack) rest → Agree b (runs pc stack) (receive points here r rest)
    receive_follows r pc stack rest has k =
        let v = r.variable in
        let ref = reference v in
        let cs = subscripts_code pc v in
        let cn = name_code pc v in
        let pw = pc + length cn in
        let cw = timeout_code pw r.timeout in
        let w = wait_of r.timeout in
        let depth : Depth = record { above = 1; taken = ref.count + 1 } in
        let last = taken_code r.mode w ref in
        let front = has_front code pc cn (cw ++ last) has in
        let back = has_back code pc cn (cw ++ last) has in
        let there_is = has_back code pw cw last back in
        let at = pw + length cw in
        let len : at + 1 + 1 ≡ pc + length (cn ++ (cw ++ last)) = omega (arith, length-append cn (cw ++ last), length-append cw last) in
        checked units u ctx there b points here invoked v pc stack _ (has_front code pc cs _ front) (has_back code pc cs _ front).0 (λ x ss many e.
        moved units u ctx there b _ _ (onto ss stack) _ (end_of pc cs (instr.CheckName ref))
        (timeout_follows units u ctx there b points here invoked r.timeout pw (onto ss stack) _ (has_front code pw cw _ back) (λ t st l.
        one units u ctx there b at st (read_input r.mode t (λ text. turn (store x text rest))) there_is.0 (λ n lt.
        let behind : Stack → List ℕ → Timed = λ base text. exec units n ctx (at + 1) (text ∷ base) in
        waited r.timeout t st (onto ss stack) l (λ z. read_input r.mode z (behind (drop (wait_size w) st))) n
        ∙ ap (λ base. read_input r.mode t (behind base) n) (below_wait r.timeout t st (onto ss stack) l)
        ∙ read_input_at n r.mode t (behind (onto ss stack)) (λ text. turn (store x text rest)) (λ text.
        (stored units u ctx there b points here invoked ref depth x ss (at + 1) (text ∷ onto ss stack) stack rest many e refl there_is.1.0
        (over units u ctx there b (at + 1 + 1) (drop (ref.count + 1) (text ∷ onto ss stack)) stack rest (drop_more ref.count text (onto ss stack) ∙ rest_below ss stack ref.count many)
        (moved units u ctx there b _ _ stack rest len k))).by n
        (omega arith))))))

    input_follows : (i : Input) (pc : ℕ) (stack : Stack) (rest : Timed) → HasAt code pc (input_code pc i)
        → Agree b (runs (pc + length (input_code pc i)) stack) rest → Agree b (runs pc stack) (input points here i rest)
    input_follows (Prompted text) pc stack rest has k =
        one units u ctx there b pc stack (turn (write text rest)) has.0 (λ n lt.
        (one units u ctx there b (pc + 1) (text ∷ stack) (write text rest) has.1.0 (λ m lt'.
        write_at m text (exec units m ctx (pc + 1 + 1) stack) rest ((moved units u ctx there b (pc + 1 + 1) _ stack rest (omega arith) k).by m (omega arith)))).by n (omega arith))
    input_follows (Arranged l) pc stack rest has k = format_follows l.marks l.column pc stack rest has k
    input_follows (Into r) pc stack rest has k = receive_follows r pc stack rest has k

    pub inputs_follow : (list : List Input) (pc : ℕ) (stack : Stack) (rest : Timed)
        → HasAt code pc (inputs_code pc list) → Agree b (runs (pc + length (inputs_code pc list)) stack) rest → Agree b (runs pc stack) (read_all points here list rest)
    inputs_follow [] pc stack rest has k = moved units u ctx there b pc (pc + 0) stack rest (omega arith) k
    inputs_follow (i ∷ list) pc stack rest has k =
        let ci = input_code pc i in
        input_follows i pc stack (read_all points here list rest) (has_front code pc ci _ has)
        (inputs_follow list (pc + length ci) stack rest (has_back code pc ci _ has) (moved units u ctx there b _ _ stack rest (seam pc ci (inputs_code (pc + length ci) list)) k))
