-- The code of SET, KILL, MERGE and NEW does what they say.
use Rattle.std.proofs.Common.{◌≡◌, ℕ, ◌+◌, List, [], ◌∷◌, ◌++◌, length, drop, Some, refl, sym, ap, ◌∙◌, subst, arith, length-append}
use Rattle.std.proofs.Math.Seq.{drop-drop}
use Rattle.std.specs.Prelude.{slice_get, Ok}
use Rattle.mj_subs.specs.Name.{Name}
use Rattle.mj_ast.specs.Syntax.{Expr, Destination, Plain, Pieces, Targets, One, Several, Assignment, Killed, Gone, Spared, Merged, Renewed, Fresh, Kept}
use Rattle.mj_semantics.specs.State.{Only, AllBut, kill_except, newed}
use Rattle.mj_semantics.specs.Outcome.{Timed, turn, given}
use Rattle.mj_semantics.specs.Lines.{Here}
use Rattle.mj_semantics.specs.Points.{Points}
use Rattle.mj_semantics.specs.Evaluation.{name_of}
use Rattle.mj_semantics.specs.Commands.{Aim, Whole, Part, ev_destination, ev_destinations, store, assign_piece, put, put_all, assign_to, assign, assign_all, remove, named, kill, kill_list, kill_all, take_nodes, put_nodes, merge, merge_all, renewal, new_list, new_all}
use Rattle.mj_pcode.specs.declared.instr.Reference.{Reference}
use Rattle.mj_pcode.specs.declared.instr.Depth.{Depth}
use Rattle.mj_pcode.specs.declared.instr.Instr.{Instr}
use Rattle.mj_pcode.specs.declared.instr.Instr.TheVariants as instr
use Rattle.mj_pcode.specs.declared.instr.Unit as unit
use Rattle.mj_pcode.specs.Context.{Context}
use Rattle.mj_pcode.specs.Machine.{Stack, top, exec, operands}
use Rattle.mj_asm.specs.Code.{count, reference, expr_code, subscripts_code, exprs_code, size, sizes, destination_code, destinations_code, store_code, stores_code, targets_code, assignment_code, assignments_code, kill_code, kills_code, kill_all_code, merge_code, merges_code, names_code, set_piece_code, news_code, new_all_code}
use Rattle.mj_asm.specs.Correct.{Agree}
use Rattle.mj_pcode.proofs.Agree.{change_at, given_at, store_at, renew_at, remove_at, take_nodes_at, put_nodes_at}
use Rattle.mj_asm.proofs.Lies.{onto, rest_below, operands_are, drop_more, Lies, LieAll, below_one, below_all}
use Rattle.mj_asm.proofs.Expressions.{HasAt, DoesCalls, has_front, has_back, end_of, seam, from, one, moved, over, expr_follows, name_follows, all_follow, checked}

module _ (units : List unit.Unit) (u : unit.Unit) (ctx : Context) (there : slice_get units ctx.unit ≡ Some u) (b : ℕ) where
  abbrev code : List Instr
  code = u.instrs.items

  -- the machine from a place on
  abbrev runs : ℕ → Stack → Timed
  runs pc stack = from units u ctx there pc stack

  pub names_follow : (words : List (List ℕ)) (pc : ℕ) (stack : Stack) (rest : Timed)
      → HasAt code pc (names_code words) → Agree b (runs (pc + length (names_code words)) stack) rest → Agree b (runs pc stack) (named words rest)
  names_follow [] pc stack rest has k = moved units u ctx there b pc (pc + 0) stack rest (omega arith) k
  names_follow (word ∷ words) pc stack rest has k =
      let len : pc + 1 + length (names_code words) ≡ pc + length (names_code (word ∷ words)) = omega arith in
      one units u ctx there b pc stack _ has.0 (λ n lt. (names_follow words (pc + 1) stack rest has.1 (moved units u ctx there b _ _ stack rest len k)).by n (omega arith))

  module _ (points : Points) (here : Here) (invoked : DoesCalls units u ctx there b points here) where
    destination_follows : (d : Destination) (pc : ℕ) (stack : Stack) (rest : Aim → Timed) → HasAt code pc (destination_code pc d)
        → ((t : Aim) (st : Stack) → Lies d t st stack → Agree b (runs (pc + length (destination_code pc d)) st) (rest t))
        → Agree b (runs pc stack) (ev_destination points here d rest)
    destination_follows (Plain v) pc stack rest has k =
        let cs = subscripts_code pc v in
        let i = instr.CheckName (reference v) in
        checked units u ctx there b points here invoked v pc stack _ (has_front code pc cs _ has) (has_back code pc cs _ has).0 (λ x ss many e.
        moved units u ctx there b _ _ (onto ss stack) (rest (Whole x)) (end_of pc cs i) (k (Whole x) (onto ss stack) (ss, many, e, refl)))
    destination_follows (Pieces v es) pc stack rest has k =
        let cs = subscripts_code pc v in
        let i = instr.CheckName (reference v) in
        let ce = exprs_code (pc + length cs + 1) es in
        let len : pc + length cs + 1 + length ce ≡ pc + length (cs ++ i ∷ ce) = omega (arith, length-append cs (i ∷ ce)) in
        let back = has_back code pc cs (i ∷ ce) has in
        checked units u ctx there b points here invoked v pc stack _ (has_front code pc cs _ has) back.0 (λ x ss many e.
        all_follow units u ctx there b points here invoked es (pc + length cs + 1) (onto ss stack) _ back.1 (λ ts many'.
        moved units u ctx there b _ _ (onto ts (onto ss stack)) (rest (Part x ts)) len (k (Part x ts) (onto ts (onto ss stack)) (ss, many, e, many', refl))))

    destinations_follow : (list : List Destination) (pc : ℕ) (stack : Stack) (rest : List Aim → Timed) → HasAt code pc (destinations_code pc list)
        → ((ts : List Aim) (st : Stack) → LieAll list ts st stack → Agree b (runs (pc + length (destinations_code pc list)) st) (rest ts))
        → Agree b (runs pc stack) (ev_destinations points here list rest)
    destinations_follow [] pc stack rest has k = moved units u ctx there b pc (pc + 0) stack (rest []) (omega arith) (k [] stack refl)
    destinations_follow (d ∷ list) pc stack rest has k =
        let cd = destination_code pc d in
        destination_follows d pc stack _ (has_front code pc cd _ has) (λ t mid l.
        destinations_follow list (pc + length cd) mid _ (has_back code pc cd _ has) (λ ts st ls.
        moved units u ctx there b _ _ st (rest (t ∷ ts)) (seam pc cd (destinations_code (pc + length cd) list)) (k (t ∷ ts) st (mid, l, ls))))

    -- the topmost operand is assigned to a name whose subscripts lie at a depth
    pub stored : (r : Reference) (depth : Depth) (x : Name) (ss : List (List ℕ)) (pc : ℕ) (stack base : Stack) (rest : Timed)
        → length ss ≡ r.count → name_of r.scope r.word ss ≡ Ok x → drop depth.above stack ≡ onto ss base
        → slice_get code pc ≡ Some (instr.Store r depth) → Agree b (runs (pc + 1) (drop depth.taken stack)) rest
        → Agree b (runs pc stack) (turn (store x (top stack) rest))
    stored r depth x ss pc stack base rest many e under at k =
        one units u ctx there b pc stack _ at (λ n lt.
        ap (λ l. given (name_of r.scope r.word (operands r.count l)) (λ y. store y (top stack) (exec units n ctx (pc + 1) (drop depth.taken stack))) n) under
        ∙ ap (λ l. given (name_of r.scope r.word l) (λ y. store y (top stack) (exec units n ctx (pc + 1) (drop depth.taken stack))) n) (operands_are ss base r.count many)
        ∙ ap (λ o. given o (λ y. store y (top stack) (exec units n ctx (pc + 1) (drop depth.taken stack))) n) e
        ∙ store_at n x (top stack) (exec units n ctx (pc + 1) (drop depth.taken stack)) rest (k.by n (omega arith)))

    store_follows : (d : Destination) (t : Aim) (depth : Depth) (pc : ℕ) (stack base : Stack) (rest : Timed)
        → Lies d t (drop depth.above stack) base → HasAt code pc (store_code d depth)
        → Agree b (runs (pc + length (store_code d depth)) (drop depth.taken stack)) rest
        → Agree b (runs pc stack) (turn (put t (top stack) rest))
    store_follows (Plain v) (Whole x) depth pc stack base rest l has k =
        stored (reference v) depth x l.0 pc stack base rest l.1 l.2 l.3 has.0 k
    store_follows (Plain v) (Part x ts) depth pc stack base rest l has k = absurd l
    store_follows (Pieces v es) (Whole x) depth pc stack base rest l has k = absurd l
    store_follows (Pieces v es) (Part x ts) depth pc stack base rest l has k =
        let r = reference v in
        let n = count es in
        let behind : ℕ → List ℕ → Timed = λ m w. exec units m ctx (pc + 1) (w ∷ stack) in
        let past : ℕ → Timed = λ m. exec units m ctx (pc + 2) (drop depth.taken stack) in
        let under : drop n (drop depth.above stack) ≡ onto l.0 base = ap (drop n) l.4 ∙ rest_below ts (onto l.0 base) n l.3 in
        let args : operands n (drop depth.above stack) ≡ ts = ap (operands n) l.4 ∙ operands_are ts (onto l.0 base) n l.3 in
        let deeper : (w : List ℕ) → drop (depth.above + n + 1) (w ∷ stack) ≡ onto l.0 base = λ w. drop_more (depth.above + n) w stack ∙ sym (drop-drop n depth.above stack) ∙ under in
        one units u ctx there b pc stack _ has.0 (λ m lt.
        ap (λ st. given (name_of r.scope r.word (operands r.count st)) (λ y. assign_piece y (operands n (drop depth.above stack)) (top stack) (past m) (behind m)) m) under
        ∙ ap (λ ss. given (name_of r.scope r.word ss) (λ y. assign_piece y (operands n (drop depth.above stack)) (top stack) (past m) (behind m)) m) (operands_are l.0 base r.count l.1)
        ∙ ap (λ o. given o (λ y. assign_piece y (operands n (drop depth.above stack)) (top stack) (past m) (behind m)) m) l.2
        ∙ ap (λ l. assign_piece x l (top stack) (past m) (behind m) m) args
        ∙ renew_at m x ts (top stack) (past m) rest (behind m) (λ w. turn (store x w rest)) ((moved units u ctx there b (pc + 2) _ _ rest (omega arith) k).by m (omega arith))
        (λ w. (stored r (record { above = depth.above + n + 1; taken = depth.taken + 1 }) x l.0 (pc + 1) (w ∷ stack) base rest l.1 l.2 (deeper w) has.1.0
        (over units u ctx there b (pc + 1 + 1) (drop (depth.taken + 1) (w ∷ stack)) (drop depth.taken stack) rest (drop_more depth.taken w stack)
        (moved units u ctx there b (pc + 1 + 1) _ _ rest (omega arith) k))).by m (omega arith)))

    stores_follow : (list : List Destination) (ts : List Aim) (pc : ℕ) (e : List ℕ) (full base : Stack) (rest : Timed)
        → LieAll list ts full base → HasAt code pc (stores_code list)
        → Agree b (runs (pc + length (stores_code list)) (e ∷ full)) rest → Agree b (runs pc (e ∷ full)) (put_all ts e rest)
    stores_follow [] [] pc e full base rest l has k = moved units u ctx there b pc (pc + 0) (e ∷ full) rest (omega arith) k
    stores_follow [] (t ∷ ts) pc e full base rest l has k = absurd l
    stores_follow (d ∷ list) [] pc e full base rest l has k = absurd l
    stores_follow (d ∷ list) (t ∷ ts) pc e full base rest l has k =
        let depth : Depth = record { above = sizes list + 1; taken = 0 } in
        let cs = store_code d depth in
        let under : drop (sizes list + 1) (e ∷ full) ≡ l.0 = drop_more (sizes list) e full ∙ below_all list ts full l.0 l.2 in
        store_follows d t depth pc (e ∷ full) base (put_all ts e rest) (subst (λ st. Lies d t st base) (sym under) l.1) (has_front code pc cs _ has)
        (stores_follow list ts (pc + length cs) e full l.0 rest l.2 (has_back code pc cs _ has) (moved units u ctx there b _ _ (e ∷ full) rest (seam pc cs (stores_code list)) k))

    targets_follow : (targets : Targets) (e : Expr) (pc : ℕ) (stack : Stack) (rest : Timed)
        → HasAt code pc (targets_code pc targets e) → Agree b (runs (pc + length (targets_code pc targets e)) stack) rest → Agree b (runs pc stack) (assign_to points here targets e rest)
    targets_follow (One d) e pc stack rest has k =
        let depth : Depth = record { above = 1; taken = size d + 1 } in
        let cd = destination_code pc d in
        let ce = expr_code (pc + length cd) e in
        let cs = store_code d depth in
        let back = has_back code pc cd (ce ++ cs) has in
        let len : pc + length cd + length ce + length cs ≡ pc + length (cd ++ (ce ++ cs)) = omega (arith, length-append cd (ce ++ cs), length-append ce cs) in
        destination_follows d pc stack _ (has_front code pc cd _ has) (λ t st l.
        expr_follows units u ctx there b points here invoked e (pc + length cd) st (λ v. turn (put t v rest)) (has_front code (pc + length cd) ce _ back) (λ v.
        store_follows d t depth (pc + length cd + length ce) (v ∷ st) stack rest l (has_back code (pc + length cd) ce _ back)
        (over units u ctx there b _ (drop (size d + 1) (v ∷ st)) stack rest (drop_more (size d) v st ∙ below_one d t st stack l) (moved units u ctx there b _ _ stack rest len k))))
    targets_follow (Several list) e pc stack rest has k =
        let i = instr.Discard (sizes list + 1) in
        let cd = destinations_code pc list in
        let ce = expr_code (pc + length cd) e in
        let cs = stores_code list in
        let back = has_back code pc cd (ce ++ (cs ++ i ∷ [])) has in
        let back' = has_back code (pc + length cd) ce (cs ++ i ∷ []) back in
        let at = pc + length cd + length ce in
        let len : at + length cs + 1 ≡ pc + length (cd ++ (ce ++ (cs ++ i ∷ []))) =
        omega (arith, length-append cd (ce ++ (cs ++ i ∷ [])), length-append ce (cs ++ i ∷ []), length-append cs (i ∷ [])) in
        destinations_follow list pc stack _ (has_front code pc cd _ has) (λ ts st l.
        expr_follows units u ctx there b points here invoked e (pc + length cd) st (λ v. put_all ts v (turn rest)) (has_front code (pc + length cd) ce _ back) (λ v.
        stores_follow list ts at v st stack (turn rest) l (has_front code at cs _ back')
        (one units u ctx there b (at + length cs) (v ∷ st) rest (has_back code at cs _ back').0 (λ n lt.
        (over units u ctx there b (at + length cs + 1) (drop (sizes list + 1) (v ∷ st)) stack rest (drop_more (sizes list) v st ∙ below_all list ts st stack l)
        (moved units u ctx there b _ _ stack rest len k)).by n (omega arith)))))

    assign_follows : (a : Assignment) (pc : ℕ) (stack : Stack) (rest : Timed)
        → HasAt code pc (assignment_code pc a) → Agree b (runs (pc + length (assignment_code pc a)) stack) rest → Agree b (runs pc stack) (assign points here a rest)
    assign_follows a pc stack rest has k = targets_follow a.targets a.value pc stack rest has k

    pub assigns_follow : (list : List Assignment) (pc : ℕ) (stack : Stack) (rest : Timed)
        → HasAt code pc (assignments_code pc list) → Agree b (runs (pc + length (assignments_code pc list)) stack) rest → Agree b (runs pc stack) (assign_all points here list rest)
    assigns_follow [] pc stack rest has k = moved units u ctx there b pc (pc + 0) stack rest (omega arith) k
    assigns_follow (a ∷ list) pc stack rest has k =
        let ca = assignment_code pc a in
        assign_follows a pc stack _ (has_front code pc ca _ has)
        (assigns_follow list (pc + length ca) stack rest (has_back code pc ca _ has) (moved units u ctx there b _ _ stack rest (seam pc ca (assignments_code (pc + length ca) list)) k))

    kill_follows : (x : Killed) (pc : ℕ) (stack : Stack) (rest : Timed) → HasAt code pc (kill_code pc x)
        → Agree b (runs (pc + length (kill_code pc x)) stack) rest → Agree b (runs pc stack) (kill points here x rest)
    kill_follows (Gone v) pc stack rest has k =
        let r = reference v in
        let cs = subscripts_code pc v in
        let i = instr.CheckName r in
        let j = instr.Kill r in
        let behind = pc + length cs + 1 in
        let back = has_back code pc cs (i ∷ j ∷ []) has in
        let len : behind + 1 ≡ pc + length (cs ++ i ∷ j ∷ []) = omega (arith, length-append cs (i ∷ j ∷ [])) in
        checked units u ctx there b points here invoked v pc stack _ (has_front code pc cs _ has) back.0 (λ x ss many e.
        one units u ctx there b behind (onto ss stack) _ back.1.0 (λ n lt.
        ap (λ l. given (name_of r.scope r.word l) (λ y. remove y (exec units n ctx (behind + 1) (drop r.count (onto ss stack)))) n) (operands_are ss stack _ many)
        ∙ ap (λ o. given o (λ y. remove y (exec units n ctx (behind + 1) (drop r.count (onto ss stack)))) n) e
        ∙ remove_at n x (exec units n ctx (behind + 1) (drop r.count (onto ss stack))) rest
        ((over units u ctx there b (behind + 1) (drop r.count (onto ss stack)) stack rest (rest_below ss stack _ many) (moved units u ctx there b _ _ stack rest len k)).by n (omega arith))))
    kill_follows (Spared words) pc stack rest has k =
        let cn = names_code words in
        names_follow words pc stack _ (has_front code pc cn _ has)
        (one units u ctx there b (pc + length cn) stack _ (has_back code pc cn _ has).0 (λ n lt.
        change_at n (kill_except words) (exec units n ctx (pc + length cn + 1) stack) rest ((moved units u ctx there b _ _ stack rest (end_of pc cn (instr.KillExcept words)) k).by n (omega arith))))

    kills_follow : (list : List Killed) (pc : ℕ) (stack : Stack) (rest : Timed)
        → HasAt code pc (kills_code pc list) → Agree b (runs (pc + length (kills_code pc list)) stack) rest → Agree b (runs pc stack) (kill_list points here list rest)
    kills_follow [] pc stack rest has k = moved units u ctx there b pc (pc + 0) stack rest (omega arith) k
    kills_follow (x ∷ list) pc stack rest has k =
        let cx = kill_code pc x in
        kill_follows x pc stack _ (has_front code pc cx _ has)
        (kills_follow list (pc + length cx) stack rest (has_back code pc cx _ has) (moved units u ctx there b _ _ stack rest (seam pc cx (kills_code (pc + length cx) list)) k))

    pub kill_all_follows : (list : List Killed) (pc : ℕ) (stack : Stack) (rest : Timed)
        → HasAt code pc (kill_all_code pc list) → Agree b (runs (pc + length (kill_all_code pc list)) stack) rest → Agree b (runs pc stack) (kill_all points here list rest)
    kill_all_follows [] pc stack rest has k =
        one units u ctx there b pc stack _ has.0 (λ n lt. change_at n (kill_except []) (exec units n ctx (pc + 1) stack) rest (k.by n (omega arith)))
    kill_all_follows (x ∷ list) pc stack rest has k = kills_follow (x ∷ list) pc stack rest has k

    merge_follows : (m : Merged) (pc : ℕ) (stack : Stack) (rest : Timed) → HasAt code pc (merge_code pc m)
        → Agree b (runs (pc + length (merge_code pc m)) stack) rest → Agree b (runs pc stack) (merge points here m rest)
    merge_follows m pc stack rest has k =
        let a = reference m.into in
        let f = reference m.from in
        let ca = subscripts_code pc m.into in
        let behind = pc + length ca + 1 in
        let cf = subscripts_code behind m.from in
        let i = instr.CheckName a in
        let j = instr.MergeTake a f in
        let p = instr.MergePut a in
        let at = behind + length cf in
        let back = has_back code pc ca (i ∷ (cf ++ j ∷ p ∷ [])) has in
        let back' = has_back code behind cf (j ∷ p ∷ []) back.1 in
        let len : at + 1 + 1 ≡ pc + length (ca ++ i ∷ (cf ++ j ∷ p ∷ [])) = omega (arith, length-append ca (i ∷ (cf ++ j ∷ p ∷ [])), length-append cf (j ∷ p ∷ [])) in
        checked units u ctx there b points here invoked m.into pc stack _ (has_front code pc ca _ has) back.0 (λ x ss many e.
        name_follows units u ctx there b points here invoked m.from j behind (onto ss stack) _ (has_front code behind cf _ back.1) back'.0 (λ qs n lt many'.
        ap (λ l. given (name_of f.scope f.word l) (λ y. given (name_of a.scope a.word (operands a.count (drop f.count (onto qs (onto ss stack)))))
        (λ z. take_nodes z y (exec units n ctx (at + 1) (drop f.count (onto qs (onto ss stack)))))) n) (operands_are qs (onto ss stack) _ many')
        ∙ ap (λ st. given (name_of f.scope f.word qs) (λ y. given (name_of a.scope a.word (operands a.count st)) (λ z. take_nodes z y (exec units n ctx (at + 1) st))) n)
        (rest_below qs (onto ss stack) _ many')
        ∙ given_at n (name_of f.scope f.word qs) (λ y. given (name_of a.scope a.word (operands a.count (onto ss stack))) (λ z. take_nodes z y (exec units n ctx (at + 1) (onto ss stack))))
        (λ y. take_nodes x y (turn (put_nodes x rest))) (λ y e'.
        ap (λ l. given (name_of a.scope a.word l) (λ z. take_nodes z y (exec units n ctx (at + 1) (onto ss stack))) n) (operands_are ss stack _ many)
        ∙ ap (λ o. given o (λ z. take_nodes z y (exec units n ctx (at + 1) (onto ss stack))) n) e
        ∙ take_nodes_at n x y (exec units n ctx (at + 1) (onto ss stack)) (turn (put_nodes x rest))
        ((one units u ctx there b (at + 1) (onto ss stack) (put_nodes x rest) back'.1.0 (λ o lt'.
        ap (λ l. given (name_of a.scope a.word l) (λ z. put_nodes z (exec units o ctx (at + 1 + 1) (drop a.count (onto ss stack)))) o) (operands_are ss stack _ many)
        ∙ ap (λ r. given r (λ z. put_nodes z (exec units o ctx (at + 1 + 1) (drop a.count (onto ss stack)))) o) e
        ∙ put_nodes_at o x (exec units o ctx (at + 1 + 1) (drop a.count (onto ss stack))) rest
        ((over units u ctx there b (at + 1 + 1) (drop a.count (onto ss stack)) stack rest (rest_below ss stack _ many) (moved units u ctx there b _ _ stack rest len k)).by o (omega arith)))).by n
        (omega arith)))))

    pub merges_follow : (list : List Merged) (pc : ℕ) (stack : Stack) (rest : Timed)
        → HasAt code pc (merges_code pc list) → Agree b (runs (pc + length (merges_code pc list)) stack) rest → Agree b (runs pc stack) (merge_all points here list rest)
    merges_follow [] pc stack rest has k = moved units u ctx there b pc (pc + 0) stack rest (omega arith) k
    merges_follow (m ∷ list) pc stack rest has k =
        let cm = merge_code pc m in
        merge_follows m pc stack _ (has_front code pc cm _ has)
        (merges_follow list (pc + length cm) stack rest (has_back code pc cm _ has) (moved units u ctx there b _ _ stack rest (seam pc cm (merges_code (pc + length cm) list)) k))

    renewal_follows : (x : Renewed) (pc : ℕ) (stack : Stack) (rest : Timed) → HasAt code pc (set_piece_code x)
        → Agree b (runs (pc + length (set_piece_code x)) stack) rest → Agree b (runs pc stack) (renewal x rest)
    renewal_follows (Fresh word) pc stack rest has k =
        one units u ctx there b pc stack _ has.0 (λ n lt. change_at n (newed (Only (word ∷ []))) (exec units n ctx (pc + 1) stack) rest (k.by n (omega arith)))
    renewal_follows (Kept words) pc stack rest has k =
        let cn = names_code words in
        names_follow words pc stack _ (has_front code pc cn _ has)
        (one units u ctx there b (pc + length cn) stack _ (has_back code pc cn _ has).0 (λ n lt.
        change_at n (newed (AllBut words)) (exec units n ctx (pc + length cn + 1) stack) rest ((moved units u ctx there b _ _ stack rest (end_of pc cn (instr.NewExcept words)) k).by n (omega arith))))

    news_follow : (list : List Renewed) (pc : ℕ) (stack : Stack) (rest : Timed) → HasAt code pc (news_code list)
        → Agree b (runs (pc + length (news_code list)) stack) rest → Agree b (runs pc stack) (new_list list rest)
    news_follow [] pc stack rest has k = moved units u ctx there b pc (pc + 0) stack rest (omega arith) k
    news_follow (x ∷ list) pc stack rest has k =
        let cx = set_piece_code x in
        renewal_follows x pc stack _ (has_front code pc cx _ has)
        (news_follow list (pc + length cx) stack rest (has_back code pc cx _ has) (moved units u ctx there b _ _ stack rest (seam pc cx (news_code list)) k))

    pub new_all_follows : (list : List Renewed) (pc : ℕ) (stack : Stack) (rest : Timed)
        → HasAt code pc (new_all_code list) → Agree b (runs (pc + length (new_all_code list)) stack) rest → Agree b (runs pc stack) (new_all list rest)
    new_all_follows [] pc stack rest has k =
        one units u ctx there b pc stack _ has.0 (λ n lt. change_at n (newed (AllBut [])) (exec units n ctx (pc + 1) stack) rest (k.by n (omega arith)))
    new_all_follows (x ∷ list) pc stack rest has k = news_follow (x ∷ list) pc stack rest has k
