-- The code of commands has at each place the operands and the FORs that it needs there, and leads to places of its own.
use Rattle.std.proofs.Common.{◌≡◌, ℕ, ◌+◌, ◌-◌, ◌≤◌, List, [], ◌∷◌, ◌++◌, length, map, Option, Some, None, refl, subst, arith}
use Rattle.std.specs.Prelude.{⊤}
use Rattle.mj_ast.specs.Syntax.{Expr, Variable, as_actuals, Destination, Plain, Pieces, Targets, One, Several, Assignment, Killed, Gone, Spared, Merged, Output, Shown, Format, Coded, Called, Jumped, Started, Locked, Opened, Received, Input, Prompted, Arranged, Into, Renewed, Fresh, Kept, Restartable, Command, Set, Write, Halt, Hang, Job, Lock, OpenDevice, UseDevice, CloseDevice, Read, Kill, Merge, If, Else, For, Forever, Do, Goto, Quit, New, TStart, TCommit, TRestart, TRollback, Break}
use Rattle.mj_semantics.specs.Lines.{Here, entry_of}
use Rattle.mj_semantics.specs.Transactions.{listed_by, serial_by}
use Rattle.mj_pcode.specs.declared.instr.Depth.{Depth}
use Rattle.mj_pcode.specs.declared.instr.Reference.{Reference}
use Rattle.mj_pcode.specs.declared.instr.Wait.{Wait}
use Rattle.mj_ast.specs.declared.routine.FormatMark.{FormatMark}
use Rattle.mj_ast.specs.declared.routine.ReadMode.{ReadMode}
use Rattle.mj_ast.specs.declared.routine.LockMode.{LockMode}
use Rattle.mj_ast.specs.declared.routine.LockMode.TheVariants.{Whole, Plus, Minus}
use Rattle.mj_pcode.specs.declared.instr.Instr.TheVariants as instr
use Rattle.mj_pcode.specs.Machine.{given_count, wait_size, counts}
use Rattle.mj_pcode.specs.Checked.{Footing, footing, Holds}
use Rattle.mj_asm.specs.Code.{count, reference, expr_code, subscripts_code, exprs_code, size, sizes, destination_code, destinations_code, store_code, stores_code, targets_code, assignment_code, assignments_code, names_code, kill_code, kills_code, kill_all_code, merge_code, merges_code, format_code, output_code, outputs_code, set_piece_code, news_code, new_all_code, actuals_code, shape_of, timeout_code, wait_of, hang_code, hangs_code, start_code, jobs_code, name_code, variables_code, lock_variables, taking_code, lock_code, locks_code, lock_all_code, open_code, opens_code, use_code, uses_code, close_code, closes_code, taken_code, receive_code, input_code, inputs_code, code_if, call_code, calls_code, do_code, jump_code, jumps_code, quit_code, restores_by, begin_code, transaction_code, commit_code, restart_code, command_code}
use Rattle.mj_asm.proofs.CheckedExpressions.{Goes, laid_here, nothing, both, led, on, one, goes_as, same, expr_goes, subscripts_go, exprs_go, name_goes, actuals_go, timeout_goes, Passes, taken_goes, code_if_goes}

module _ (fs : List Footing) (k : ℕ) where
  -- so many operands
  abbrev at : ℕ → Footing
  at d = footing d k

  -- destinations, and what is assigned to them
  destination_goes : (x : Destination) (pc d : ℕ) → Goes fs pc (destination_code pc x) (at d) (at (d + size x))
  destination_goes (Plain v) pc d =
      let cs = subscripts_code pc v in
      let n = (reference v).count in
      both fs pc (at d) (at (d + n)) (at (d + n)) cs (instr.CheckName (reference v) ∷ []) (subscripts_go fs k v pc d)
      (one fs (pc + length cs) (at (d + n)) (at (d + n)) (instr.CheckName (reference v)) refl (omega arith, tt))
  destination_goes (Pieces v es) pc d =
      let cs = subscripts_code pc v in
      let n = (reference v).count in
      let ce = exprs_code (pc + length cs + 1) es in
      both fs pc (at d) (at (d + n)) (at (d + (n + count es))) cs (instr.CheckName (reference v) ∷ ce) (subscripts_go fs k v pc d)
      (on fs (pc + length cs) (at (d + n)) (at (d + n)) (at (d + (n + count es))) (instr.CheckName (reference v)) ce refl (omega arith, tt)
      (goes_as fs (pc + length cs + 1) (at (d + n))
      (at (d + n + count es)) (at (d + (n + count es))) ce (same k (d + n + count es) (d + (n + count es)) (omega arith)) (exprs_go fs k es (pc + length cs + 1) (d + n))))

  destinations_go : (list : List Destination) (pc d : ℕ) → Goes fs pc (destinations_code pc list) (at d) (at (d + sizes list))
  destinations_go [] pc d = goes_as fs pc (at d) (at d) (at (d + 0)) [] (same k d (d + 0) (omega arith)) (nothing fs pc (at d))
  destinations_go (x ∷ list) pc d =
      let cx = destination_code pc x in
      let cr = destinations_code (pc + length cx) list in
      both fs pc (at d) (at (d + size x)) (at (d + (size x + sizes list))) cx cr (destination_goes x pc d)
      (goes_as fs (pc + length cx) (at (d + size x)) (at (d + size x + sizes list))
      (at (d + (size x + sizes list))) cr (same k (d + size x + sizes list) (d + (size x + sizes list)) (omega arith)) (destinations_go list (pc + length cx) (d + size x)))

  store_goes : (x : Destination) (depth : Depth) (pc d : ℕ) → 1 ≤ d → depth.above + size x ≤ d → depth.taken ≤ d → Goes fs pc (store_code x depth) (at d) (at (d - depth.taken))
  store_goes (Plain v) depth pc d some deep few =
      one fs pc (at d) (at (d - depth.taken)) (instr.Store (reference v) depth) refl ((some, deep, few), tt)
  store_goes (Pieces v es) depth pc d some deep few =
      let n = (reference v).count in
      let m = count es in
      let under : Depth = record { above = depth.above + m + 1; taken = depth.taken + 1 } in
      let e : pc + 1 + length (instr.Store (reference v) under ∷ []) ≡ pc + 2 = omega arith in
      led fs pc (at d) (at (d + 1)) (at (d - depth.taken)) (instr.SetPiece (reference v) m depth) (instr.Store (reference v) under ∷ []) refl
      (λ l h. ((some, omega (arith, deep), few), subst (λ p. Holds fs p (at (d - depth.taken))) e h))
      (one fs (pc + 1) (at (d + 1)) (at (d - depth.taken)) (instr.Store (reference v) under) (same k (d + 1 - (depth.taken + 1)) (d - depth.taken) (omega arith))
      ((omega arith, omega (arith, deep), omega (arith, few)), tt))

  stores_go : (list : List Destination) (pc d : ℕ) → sizes list + 1 ≤ d → Goes fs pc (stores_code list) (at d) (at d)
  stores_go [] pc d few = nothing fs pc (at d)
  stores_go (x ∷ list) pc d few =
      let depth : Depth = record { above = sizes list + 1; taken = 0 } in
      let cx = store_code x depth in
      both fs pc (at d) (at d) (at d) cx (stores_code list)
      (goes_as fs pc (at d) (at (d - 0)) (at d) cx (same k (d - 0) d (omega arith)) (store_goes x depth pc d (omega (arith, few)) (omega (arith, few)) (omega arith)))
      (stores_go list (pc + length cx) d (omega (arith, few)))

  targets_go : (x : Targets) (e : Expr) (pc d : ℕ) → Goes fs pc (targets_code pc x e) (at d) (at d)
  targets_go (One x) e pc d =
      let n = size x in
      let cx = destination_code pc x in
      let ce = expr_code (pc + length cx) e in
      let depth : Depth = record { above = 1; taken = n + 1 } in
      let cs = store_code x depth in
      both fs pc (at d) (at (d + n)) (at d) cx (ce ++ cs) (destination_goes x pc d)
      (both fs (pc + length cx) (at (d + n)) (at (d + n + 1)) (at d) ce cs (expr_goes fs k e (pc + length cx) (d + n))
      (goes_as fs (pc + length cx + length ce) (at (d + n + 1)) (at (d + n + 1 - (n + 1))) (at d) cs (same k (d + n + 1 - (n + 1)) d (omega arith))
      (store_goes x depth (pc + length cx + length ce) (d + n + 1) (omega arith) (omega arith) (omega arith))))
  targets_go (Several list) e pc d =
      let n = sizes list in
      let cx = destinations_code pc list in
      let ce = expr_code (pc + length cx) e in
      let cs = stores_code list in
      let last = instr.Discard (n + 1) in
      both fs pc (at d) (at (d + n)) (at d) cx (ce ++ (cs ++ last ∷ [])) (destinations_go list pc d)
      (both fs (pc + length cx) (at (d + n)) (at (d + n + 1)) (at d) ce (cs ++ last ∷ []) (expr_goes fs k e (pc + length cx) (d + n))
      (both fs (pc + length cx + length ce) (at (d + n + 1)) (at (d + n + 1)) (at d) cs (last ∷ []) (stores_go list (pc + length cx + length ce) (d + n + 1) (omega arith))
      (one fs (pc + length cx + length ce + length cs) (at (d + n + 1)) (at d) last (same k (d + n + 1 - (n + 1)) d (omega arith)) (omega arith, tt))))

  assignments_go : (list : List Assignment) → Passes fs k (λ pc. assignments_code pc list)
  assignments_go [] pc = nothing fs pc (at 0)
  assignments_go (a ∷ list) pc =
      let ca = assignment_code pc a in
      both fs pc (at 0) (at 0) (at 0) ca (assignments_code (pc + length ca) list) (targets_go a.targets a.value pc 0) (assignments_go list (pc + length ca))

  format_goes : (marks : List FormatMark) (o : Option Expr) → Passes fs k (λ pc. format_code pc marks o)
  format_goes marks None pc = one fs pc (at 0) (at 0) (instr.WriteFormat marks) refl (tt, tt)
  format_goes marks (Some e) pc = taken_goes fs k e (instr.WriteTab marks) refl (λ q. (omega arith, tt)) pc

  output_goes : (o : Output) → Passes fs k (λ pc. output_code pc o)
  output_goes (Shown e) pc =
      let ce = expr_code pc e in
      both fs pc (at 0) (at (0 + 1)) (at 0) ce (instr.Write ∷ []) (expr_goes fs k e pc 0)
      (one fs (pc + length ce) (at (0 + 1)) (at 0) instr.Write (same k (0 + 1 - 1) 0 (omega arith)) (omega arith, tt))
  output_goes (Format l) pc = format_goes l.marks l.column pc
  output_goes (Coded e) pc = taken_goes fs k e instr.WriteByte refl (λ q. (omega arith, tt)) pc

  outputs_go : (list : List Output) → Passes fs k (λ pc. outputs_code pc list)
  outputs_go [] pc = nothing fs pc (at 0)
  outputs_go (o ∷ list) pc =
      let co = output_code pc o in
      both fs pc (at 0) (at 0) (at 0) co (outputs_code (pc + length co) list) (output_goes o pc) (outputs_go list (pc + length co))

  names_go : (words : List (List ℕ)) → Passes fs k (λ pc. names_code words)
  names_go [] pc = nothing fs pc (at 0)
  names_go (word ∷ words) pc = on fs pc (at 0) (at 0) (at 0) (instr.Discard 0) (names_code words) refl (omega arith, tt) (names_go words (pc + 1))

  kill_goes : (x : Killed) → Passes fs k (λ pc. kill_code pc x)
  kill_goes (Gone v) pc =
      let cs = subscripts_code pc v in
      let n = (reference v).count in
      both fs pc (at 0) (at (0 + n)) (at 0) cs (instr.CheckName (reference v) ∷ instr.Kill (reference v) ∷ []) (subscripts_go fs k v pc 0)
      (on fs (pc + length cs) (at (0 + n)) (at (0 + n)) (at 0) (instr.CheckName (reference v)) (instr.Kill (reference v) ∷ []) refl (omega arith, tt)
      (one fs (pc + length cs + 1) (at (0 + n)) (at 0) (instr.Kill (reference v)) (same k (0 + n - n) 0 (omega arith)) (omega arith, tt)))
  kill_goes (Spared words) pc =
      let cn = names_code words in
      both fs pc (at 0) (at 0) (at 0) cn (instr.KillExcept words ∷ []) (names_go words pc) (one fs (pc + length cn) (at 0) (at 0) (instr.KillExcept words) refl (tt, tt))

  kills_go : (list : List Killed) → Passes fs k (λ pc. kills_code pc list)
  kills_go [] pc = nothing fs pc (at 0)
  kills_go (x ∷ list) pc =
      let cx = kill_code pc x in
      both fs pc (at 0) (at 0) (at 0) cx (kills_code (pc + length cx) list) (kill_goes x pc) (kills_go list (pc + length cx))

  kill_all_goes : (list : List Killed) → Passes fs k (λ pc. kill_all_code pc list)
  kill_all_goes [] pc = one fs pc (at 0) (at 0) (instr.KillExcept []) refl (tt, tt)
  kill_all_goes (x ∷ list) pc = kills_go (x ∷ list) pc

  merge_goes : (m : Merged) → Passes fs k (λ pc. merge_code pc m)
  merge_goes m pc =
      let ci = subscripts_code pc m.into in
      let n = (reference m.into).count in
      let j = (reference m.from).count in
      let cf = subscripts_code (pc + length ci + 1) m.from in
      let take = instr.MergeTake (reference m.into) (reference m.from) in
      let put = instr.MergePut (reference m.into) in
      let last = pc + length ci + 1 + length cf in
      both fs pc (at 0) (at (0 + n)) (at 0) ci (instr.CheckName (reference m.into) ∷ (cf ++ take ∷ put ∷ [])) (subscripts_go fs k m.into pc 0)
      (on fs (pc + length ci) (at (0 + n)) (at (0 + n)) (at 0) (instr.CheckName (reference m.into)) (cf ++ take ∷ put ∷ []) refl (omega arith, tt)
      (both fs (pc + length ci + 1) (at (0 + n)) (at (0 + n + j)) (at 0) cf (take ∷ put ∷ []) (subscripts_go fs k m.from (pc + length ci + 1) (0 + n))
      (on fs last (at (0 + n + j)) (at (0 + n)) (at 0) take (put ∷ []) (same k (0 + n + j - j) (0 + n) (omega arith)) (omega arith, tt)
      (one fs (last + 1) (at (0 + n)) (at 0) put (same k (0 + n - n) 0 (omega arith)) (omega arith, tt)))))

  merges_go : (list : List Merged) → Passes fs k (λ pc. merges_code pc list)
  merges_go [] pc = nothing fs pc (at 0)
  merges_go (m ∷ list) pc =
      let cm = merge_code pc m in
      both fs pc (at 0) (at 0) (at 0) cm (merges_code (pc + length cm) list) (merge_goes m pc) (merges_go list (pc + length cm))

  renewed_goes : (r : Renewed) → Passes fs k (λ pc. set_piece_code r)
  renewed_goes (Fresh word) pc = one fs pc (at 0) (at 0) (instr.New (word ∷ [])) refl (tt, tt)
  renewed_goes (Kept words) pc =
      let cn = names_code words in
      both fs pc (at 0) (at 0) (at 0) cn (instr.NewExcept words ∷ []) (names_go words pc) (one fs (pc + length cn) (at 0) (at 0) (instr.NewExcept words) refl (tt, tt))

  news_go : (list : List Renewed) → Passes fs k (λ pc. news_code list)
  news_go [] pc = nothing fs pc (at 0)
  news_go (r ∷ list) pc =
      let cr = set_piece_code r in
      both fs pc (at 0) (at 0) (at 0) cr (news_code list) (renewed_goes r pc) (news_go list (pc + length cr))

  new_all_goes : (list : List Renewed) → Passes fs k (λ pc. new_all_code list)
  new_all_goes [] pc = one fs pc (at 0) (at 0) (instr.NewExcept []) refl (tt, tt)
  new_all_goes (r ∷ list) pc = news_go (r ∷ list) pc

  hang_goes : (e : Expr) → Passes fs k (λ pc. hang_code pc e)
  hang_goes e pc =
      let ce = expr_code pc e in
      both fs pc (at 0) (at (0 + 1)) (at 0) ce (instr.Hang ∷ []) (expr_goes fs k e pc 0) (one fs (pc + length ce) (at (0 + 1)) (at 0) instr.Hang (same k (0 + 1 - 1) 0 (omega arith)) (omega arith, tt))

  hangs_go : (es : List Expr) → Passes fs k (λ pc. hangs_code pc es)
  hangs_go [] pc = nothing fs pc (at 0)
  hangs_go (e ∷ es) pc =
      let ch = hang_code pc e in
      both fs pc (at 0) (at 0) (at 0) ch (hangs_code (pc + length ch) es) (hang_goes e pc) (hangs_go es (pc + length ch))

  start_goes : (here : Here) (s : Started) → Passes fs k (λ pc. start_code here pc s)
  start_goes here s pc =
      let actuals = as_actuals s.actuals in
      let ca = actuals_code pc actuals in
      let n = given_count (shape_of actuals) in
      let pw = pc + length ca in
      let cw = timeout_code pw s.timeout in
      let w = wait_size (wait_of s.timeout) in
      let i = instr.StartJob (entry_of here s.target) (shape_of actuals) (wait_of s.timeout) in
      both fs pc (at 0) (at (0 + n)) (at 0) ca (cw ++ i ∷ []) (actuals_go fs k actuals pc 0)
      (both fs pw (at (0 + n)) (at (0 + n + w)) (at 0) cw (i ∷ []) (timeout_goes fs k s.timeout pw (0 + n))
      (one fs (pw + length cw) (at (0 + n + w)) (at 0) i (same k (0 + n + w - (n + w)) 0 (omega arith)) (omega arith, tt)))

  jobs_go : (here : Here) (list : List Started) → Passes fs k (λ pc. jobs_code here pc list)
  jobs_go here [] pc = nothing fs pc (at 0)
  jobs_go here (s ∷ list) pc =
      let cs = start_code here pc s in
      both fs pc (at 0) (at 0) (at 0) cs (jobs_code here (pc + length cs) list) (start_goes here s pc) (jobs_go here list (pc + length cs))

  variables_go : (vs : List Variable) (pc d : ℕ) → Goes fs pc (variables_code pc vs) (at d) (at (d + counts (map reference vs)))
  variables_go [] pc d = goes_as fs pc (at d) (at d) (at (d + 0)) [] (same k d (d + 0) (omega arith)) (nothing fs pc (at d))
  variables_go (v ∷ vs) pc d =
      let cn = name_code pc v in
      let cr = variables_code (pc + length cn) vs in
      let n = (reference v).count in
      let m = counts (map reference vs) in
      both fs pc (at d) (at (d + n)) (at (d + (n + m))) cn cr (name_goes fs k v pc d)
      (goes_as fs (pc + length cn) (at (d + n)) (at (d + n + m)) (at (d + (n + m))) cr (same k (d + n + m) (d + (n + m)) (omega arith)) (variables_go vs (pc + length cn) (d + n)))

  taking_goes : (m : LockMode) (rs : List Reference) (w : Wait) (pc d : ℕ) → d ≡ counts rs + wait_size w → Goes fs pc (taking_code m rs w) (at d) (at 0)
  taking_goes Whole rs w pc d e =
      on fs pc (at d) (at d) (at 0) instr.UnlockAll (instr.Lock rs w ∷ []) refl (tt, tt)
      (one fs (pc + 1) (at d) (at 0) (instr.Lock rs w) (same k (d - (counts rs + wait_size w)) 0 (omega (arith, e))) (omega (arith, e), tt))
  taking_goes Plus rs w pc d e = one fs pc (at d) (at 0) (instr.Lock rs w) (same k (d - (counts rs + wait_size w)) 0 (omega (arith, e))) (omega (arith, e), tt)
  taking_goes Minus rs w pc d e = one fs pc (at d) (at 0) (instr.Unlock rs w) (same k (d - (counts rs + wait_size w)) 0 (omega (arith, e))) (omega (arith, e), tt)

  lock_goes : (l : Locked) → Passes fs k (λ pc. lock_code pc l)
  lock_goes l pc =
      let vs = lock_variables l.names in
      let rs = map reference vs in
      let cv = variables_code pc vs in
      let pw = pc + length cv in
      let cw = timeout_code pw l.timeout in
      let w = wait_of l.timeout in
      let ct = taking_code l.mode rs w in
      both fs pc (at 0) (at (0 + counts rs)) (at 0) cv (cw ++ ct) (variables_go vs pc 0)
      (both fs pw (at (0 + counts rs)) (at (0 + counts rs + wait_size w)) (at 0) cw ct (timeout_goes fs k l.timeout pw (0 + counts rs))
      (taking_goes l.mode rs w (pw + length cw) (0 + counts rs + wait_size w) (omega arith)))

  locks_go : (list : List Locked) → Passes fs k (λ pc. locks_code pc list)
  locks_go [] pc = nothing fs pc (at 0)
  locks_go (l ∷ list) pc =
      let cl = lock_code pc l in
      both fs pc (at 0) (at 0) (at 0) cl (locks_code (pc + length cl) list) (lock_goes l pc) (locks_go list (pc + length cl))

  lock_all_goes : (list : List Locked) → Passes fs k (λ pc. lock_all_code pc list)
  lock_all_goes [] pc = one fs pc (at 0) (at 0) instr.UnlockAll refl (tt, tt)
  lock_all_goes (l ∷ list) pc = locks_go (l ∷ list) pc

  open_goes : (o : Opened) → Passes fs k (λ pc. open_code pc o)
  open_goes o pc =
      let ce = expr_code pc o.device in
      let pw = pc + length ce in
      let cw = timeout_code pw o.timeout in
      let w = wait_of o.timeout in
      let n = wait_size w in
      let d = 0 + 1 + n in
      let i = instr.OpenDevice w in
      let at_begin = pw + length cw + 1 in
      let e : at_begin + length (instr.BeginSession ∷ []) ≡ pw + length cw + 2 = omega arith in
      let gone : at 0 ≡ at (d - (1 + n)) = same k 0 (d - (1 + n)) (omega arith) in
      both fs pc (at 0) (at (0 + 1)) (at 0) ce (cw ++ i ∷ instr.BeginSession ∷ []) (expr_goes fs k o.device pc 0)
      (both fs pw (at (0 + 1)) (at d) (at 0) cw (i ∷ instr.BeginSession ∷ []) (timeout_goes fs k o.timeout pw (0 + 1))
      (led fs (pw + length cw) (at d) (at (0 + 1)) (at 0) i (instr.BeginSession ∷ []) (same k (d - n) (0 + 1) (omega arith))
      (λ l h. (omega arith, subst (λ f. Holds fs (pw + length cw + 2) f) gone (subst (λ p. Holds fs p (at 0)) e h)))
      (one fs at_begin (at (0 + 1)) (at 0) instr.BeginSession (same k (0 + 1 - 1) 0 (omega arith)) (omega arith, tt))))

  opens_go : (list : List Opened) → Passes fs k (λ pc. opens_code pc list)
  opens_go [] pc = nothing fs pc (at 0)
  opens_go (o ∷ list) pc =
      let co = open_code pc o in
      both fs pc (at 0) (at 0) (at 0) co (opens_code (pc + length co) list) (open_goes o pc) (opens_go list (pc + length co))

  uses_go : (es : List Expr) → Passes fs k (λ pc. uses_code pc es)
  uses_go [] pc = nothing fs pc (at 0)
  uses_go (e ∷ es) pc =
      let cu = use_code pc e in
      both fs pc (at 0) (at 0) (at 0) cu (uses_code (pc + length cu) es) (taken_goes fs k e instr.UseDevice refl (λ q. (omega arith, tt)) pc) (uses_go es (pc + length cu))

  close_goes : (e : Expr) → Passes fs k (λ pc. close_code pc e)
  close_goes e pc =
      let ce = expr_code pc e in
      let pe = pc + length ce in
      let rest = instr.GiveUpFailedDevice ∷ instr.GiveUpDevice ∷ [] in
      let well : pe + 1 + 1 ≡ pe + 2 = omega arith in
      let past : pe + 1 + length rest ≡ pe + 3 = omega arith in
      let gone : at 0 ≡ at (0 + 1 - 1) = same k 0 (0 + 1 - 1) (omega arith) in
      both fs pc (at 0) (at (0 + 1)) (at 0) ce (instr.EndSession ∷ rest) (expr_goes fs k e pc 0)
      (led fs pe (at (0 + 1)) (at (0 + 1)) (at 0) instr.EndSession rest refl
      (λ l h. (
        omega arith,
        (
          subst (λ p. Holds fs p (at (0 + 1))) well (laid_here fs (pe + 1 + 1) (at (0 + 1)) (instr.GiveUpDevice ∷ []) l.1),
          subst (λ f. Holds fs (pe + 3) f) gone (subst (λ p. Holds fs p (at 0)) past h),
        ),
      ))
      (on fs (pe + 1) (at (0 + 1)) (at (0 + 1)) (at 0) instr.GiveUpFailedDevice (instr.GiveUpDevice ∷ []) refl (omega arith, tt)
      (one fs (pe + 1 + 1) (at (0 + 1)) (at 0) instr.GiveUpDevice (same k (0 + 1 - 1) 0 (omega arith)) (omega arith, tt))))

  closes_go : (es : List Expr) → Passes fs k (λ pc. closes_code pc es)
  closes_go [] pc = nothing fs pc (at 0)
  closes_go (e ∷ es) pc =
      let cc = close_code pc e in
      both fs pc (at 0) (at 0) (at 0) cc (closes_code (pc + length cc) es) (close_goes e pc) (closes_go es (pc + length cc))

  taking_off : (m : ReadMode) (w : Wait) (r : Reference) (pc d : ℕ) → d ≡ r.count + wait_size w → Goes fs pc (taken_code m w r) (at d) (at 0)
  taking_off m w r pc d e =
      let n = r.count in
      let depth : Depth = record { above = 1; taken = n + 1 } in
      on fs pc (at d) (at (n + 1)) (at 0) (instr.Read m w) (instr.Store r depth ∷ []) (same k (d - wait_size w + 1) (n + 1) (omega (arith, e))) (omega (arith, e), tt)
      (one fs (pc + 1) (at (n + 1)) (at 0) (instr.Store r depth) (same k (n + 1 - (n + 1)) 0 (omega arith)) ((omega arith, omega arith, omega arith), tt))

  receive_goes : (r : Received) → Passes fs k (λ pc. receive_code pc r)
  receive_goes r pc =
      let v = r.variable in
      let n = (reference v).count in
      let cv = name_code pc v in
      let pw = pc + length cv in
      let cw = timeout_code pw r.timeout in
      let w = wait_of r.timeout in
      let ct = taken_code r.mode w (reference v) in
      both fs pc (at 0) (at (0 + n)) (at 0) cv (cw ++ ct) (name_goes fs k v pc 0)
      (both fs pw (at (0 + n)) (at (0 + n + wait_size w)) (at 0) cw ct (timeout_goes fs k r.timeout pw (0 + n))
      (taking_off r.mode w (reference v) (pw + length cw) (0 + n + wait_size w) (omega arith)))

  input_goes : (i : Input) → Passes fs k (λ pc. input_code pc i)
  input_goes (Prompted text) pc =
      on fs pc (at 0) (at (0 + 1)) (at 0) (instr.Push text) (instr.Write ∷ []) refl (tt, tt)
      (one fs (pc + 1) (at (0 + 1)) (at 0) instr.Write (same k (0 + 1 - 1) 0 (omega arith)) (omega arith, tt))
  input_goes (Arranged l) pc = format_goes l.marks l.column pc
  input_goes (Into r) pc = receive_goes r pc

  inputs_go : (list : List Input) → Passes fs k (λ pc. inputs_code pc list)
  inputs_go [] pc = nothing fs pc (at 0)
  inputs_go (i ∷ list) pc =
      let ci = input_code pc i in
      both fs pc (at 0) (at 0) (at 0) ci (inputs_code (pc + length ci) list) (input_goes i pc) (inputs_go list (pc + length ci))

  call_goes : (here : Here) (c : Called) → Passes fs k (call_code here c)
  call_goes here c pc =
      let actuals = as_actuals c.actuals in
      let ca = actuals_code pc actuals in
      let n = given_count (shape_of actuals) in
      let i = instr.Do (entry_of here c.target) (shape_of actuals) in
      both fs pc (at 0) (at (0 + n)) (at 0) ca (i ∷ []) (actuals_go fs k actuals pc 0) (one fs (pc + length ca) (at (0 + n)) (at 0) i refl (omega arith, tt))

  calls_go : (here : Here) (list : List Called) → Passes fs k (λ pc. calls_code here pc list)
  calls_go here [] pc = nothing fs pc (at 0)
  calls_go here (c ∷ list) pc =
      let cc = code_if pc c.condition (call_code here c) in
      both fs pc (at 0) (at 0) (at 0) cc (calls_code here (pc + length cc) list) (code_if_goes fs k c.condition (call_code here c) (call_goes here c) pc) (calls_go here list (pc + length cc))

  do_goes : (here : Here) (list : List Called) → Passes fs k (λ pc. do_code here pc list)
  do_goes here [] pc = one fs pc (at 0) (at 0) (instr.DoBlock here.line) refl (refl, tt)
  do_goes here (c ∷ list) pc = calls_go here (c ∷ list) pc

  jumps_go : (here : Here) (list : List Jumped) → Passes fs k (λ pc. jumps_code here pc list)
  jumps_go here [] pc = nothing fs pc (at 0)
  jumps_go here (j ∷ list) pc =
      let cj = code_if pc j.condition (jump_code here j) in
      both fs pc (at 0) (at 0) (at 0) cj (jumps_code here (pc + length cj) list)
      (code_if_goes fs k j.condition (jump_code here j) (λ p. one fs p (at 0) (at 0) (instr.Goto (entry_of here j.target)) refl (refl, tt)) pc) (jumps_go here list (pc + length cj))

  -- what closes the FOR that a QUIT leaves, if it leaves one
  abbrev pub Closes : Option ℕ → Type 0
  Closes None = ⊤
  Closes (Some close) = Holds fs close (at 0)

  quit_goes : (out : Option ℕ) (value : Option Expr) → Closes out → Passes fs k (λ pc. quit_code pc out value)
  quit_goes None None closes pc = one fs pc (at 0) (at 0) instr.Quit refl (refl, tt)
  quit_goes (Some close) None closes pc = one fs pc (at 0) (at 0) (instr.Jump close) refl (tt, closes)
  quit_goes None (Some e) closes pc =
      let ce = expr_code (pc + 1) e in
      on fs pc (at 0) (at 0) (at 0) instr.CheckFunction (ce ++ instr.GiveValue ∷ []) refl (tt, tt)
      (both fs (pc + 1) (at 0) (at (0 + 1)) (at 0) ce (instr.GiveValue ∷ []) (expr_goes fs k e (pc + 1) 0)
      (one fs (pc + 1 + length ce) (at (0 + 1)) (at 0) instr.GiveValue refl (refl, tt)))
  quit_goes (Some close) (Some e) closes pc = one fs pc (at 0) (at 0) instr.FailQuit refl (tt, tt)

  transaction_goes : (a : Option Restartable) → Passes fs k (λ pc. transaction_code a)
  transaction_goes a pc =
      let cn = names_code (listed_by a) in
      let p = pc + length cn in
      let e : p + 1 + length (instr.MarkRestart ∷ []) ≡ p + 2 = omega arith in
      both fs pc (at 0) (at 0) (at 0) cn (begin_code (restores_by a) (serial_by a)) (names_go (listed_by a) pc)
      (led fs p (at 0) (at 0) (at 0) (instr.StartTransaction (restores_by a) (serial_by a)) (instr.MarkRestart ∷ []) refl (λ l h. (refl, subst (λ q. Holds fs q (at 0)) e h))
      (one fs (p + 1) (at 0) (at 0) instr.MarkRestart refl (refl, tt)))

  again_goes : Passes fs k (λ pc. instr.BeginRestart ∷ [])
  again_goes pc = one fs pc (at 0) (at 0) instr.BeginRestart refl (tt, tt)

  commit_goes : Passes fs k (λ pc. commit_code)
  commit_goes pc =
      let e : pc + 1 + length (instr.BeginRestart ∷ []) ≡ pc + 2 = omega arith in
      led fs pc (at 0) (at 0) (at 0) instr.Commit (instr.BeginRestart ∷ []) refl (λ l h. (tt, subst (λ q. Holds fs q (at 0)) e h)) (again_goes (pc + 1))

  restart_goes : Passes fs k (λ pc. restart_code)
  restart_goes pc = on fs pc (at 0) (at 0) (at 0) instr.RollBackForRestart (instr.BeginRestart ∷ []) refl (tt, tt) (again_goes (pc + 1))

  pub command_goes : (here : Here) (out : Option ℕ) (command : Command) → Closes out → Passes fs k (λ pc. command_code here pc out command)
  command_goes here out (Set list) closes pc = assignments_go list pc
  command_goes here out (Write list) closes pc = outputs_go list pc
  command_goes here out Halt closes pc = one fs pc (at 0) (at 0) instr.Halt refl (tt, tt)
  command_goes here out (Hang es) closes pc = hangs_go es pc
  command_goes here out (Job list) closes pc = jobs_go here list pc
  command_goes here out (Lock list) closes pc = lock_all_goes list pc
  command_goes here out (OpenDevice list) closes pc = opens_go list pc
  command_goes here out (UseDevice es) closes pc = uses_go es pc
  command_goes here out (CloseDevice es) closes pc = closes_go es pc
  command_goes here out (Read list) closes pc = inputs_go list pc
  command_goes here out (Kill list) closes pc = kill_all_goes list pc
  command_goes here out (Merge list) closes pc = merges_go list pc
  command_goes here out (If es) closes pc = nothing fs pc (at 0)
  command_goes here out Else closes pc = nothing fs pc (at 0)
  command_goes here out (For v rs) closes pc = nothing fs pc (at 0)
  command_goes here out Forever closes pc = nothing fs pc (at 0)
  command_goes here out (Do list) closes pc = do_goes here list pc
  command_goes here out (Goto list) closes pc = jumps_go here list pc
  command_goes here out (Quit value) closes pc = quit_goes out value closes pc
  command_goes here out (New list) closes pc = new_all_goes list pc
  command_goes here out (TStart a) closes pc = transaction_goes a pc
  command_goes here out TCommit closes pc = commit_goes pc
  command_goes here out TRestart closes pc = restart_goes pc
  command_goes here out TRollback closes pc = one fs pc (at 0) (at 0) instr.RollBack refl (tt, tt)
  command_goes here out Break closes pc = one fs pc (at 0) (at 0) (instr.Discard 0) refl (omega arith, tt)
