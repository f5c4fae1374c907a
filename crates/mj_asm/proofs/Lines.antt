-- The lines of a routine stand in its unit, one behind the other, and do what they do.
use Rattle.std.proofs.Common.{◌≡◌, ℕ, zero, suc, ◌+◌, ◌-◌, ◌<◌, ◌≤◌, ◌^◌, List, [], ◌∷◌, ◌++◌, length, map, Option, Some, None, refl, sym, ap, ◌∙◌, subst, arith, append_assoc, length-append}
use Rattle.std.proofs.Math.Seq.{get_or-append_seam}
use Rattle.std.proofs.lemmas.Option.{slice_get-get_or, slice_get_past}
use Rattle.std.specs.Prelude.{slice_get, nat_lt, if◌then◌else◌}
use Rattle.std.specs.Option.{unwrap_or}
use Rattle.mj_ast.specs.Syntax.{Line, Routine}
use Rattle.mj_semantics.specs.State.{level_of, at_place}
use Rattle.mj_semantics.specs.Outcome.{Timed, turn, change}
use Rattle.mj_semantics.specs.Lines.{Here, place_at, next_line, lines_of}
use Rattle.mj_semantics.specs.Points.{Leave, Ways, AtLine}
use Rattle.mj_semantics.specs.Commands.{quit_frame, obey_all}
use Rattle.mj_semantics.specs.Job.{points_of, obey_line, quit_before}
use Rattle.mj_pcode.specs.declared.instr.Head.{Head}
use Rattle.mj_pcode.specs.declared.instr.Instr.{Instr}
use Rattle.mj_pcode.specs.declared.instr.Unit as unit
use Rattle.mj_pcode.specs.Labels.{Labels, line_with}
use Rattle.mj_pcode.specs.Found.{start_of, levels_in}
use Rattle.mj_pcode.specs.Context.{Call, Context}
use Rattle.mj_pcode.specs.Machine.{act, act_in, exec, quits, place_in}
use Rattle.mj_asm.specs.Code.{steps_code, line_code, lines_code, starts}
use Rattle.mj_asm.specs.Correct.{Agree, line_of, with_labels, DoLines, LeadAlike, IsUnitOf}
use Rattle.mj_pcode.proofs.Agree.{if_at, look_at, change_at}
use Rattle.mj_asm.proofs.Expressions.{HasAt, has_front, has_back, from, moved}
use Rattle.mj_asm.proofs.Flow.{steps_follow, fewer_leaves, quits_same}
use Rattle.mj_asm.specs.Laws.{Leaves}
use Rattle.mj_asm.proofs.Labels.{finds}

has_all : (is pre : List Instr) → HasAt (pre ++ is) (length pre) is
has_all [] pre = tt
has_all (i ∷ is) pre =
    let within : length pre < length (pre ++ i ∷ is) = omega (arith, length-append pre (i ∷ is)) in
    let here = slice_get-get_or (pre ++ i ∷ is) (length pre) i within ∙ ap Some (get_or-append_seam pre i is i) in
    let n : length (pre ++ i ∷ []) ≡ length pre + 1 = omega (arith, length-append pre (i ∷ [])) in
    let rest = has_all is (pre ++ i ∷ []) in
    let rest' = subst (λ l. HasAt l (length (pre ++ i ∷ [])) is) (append_assoc pre (i ∷ []) is) rest in
    (here, subst (λ m. HasAt (pre ++ i ∷ is) m is) n rest')

-- the start at place j, or the end
abbrev start_in : List ℕ → ℕ → ℕ → ℕ
start_in sts last j = elim (slice_get sts j) [ None ↦ last | Some pc ↦ pc ]

-- line k of the routine with this name
abbrev pub line_at : List ℕ → ℕ → Here
line_at r k = record { routine = r; line = k }

-- what stands where the line with number n does, which is at place j; `past` is the number after the last line's
abbrev StandsAt : List ℕ → List Instr → List ℕ → ℕ → ℕ → ℕ → Option Line → Type 0
StandsAt r code sts past j n None = (start_in sts (length code) j ≡ length code) × (past ≤ n)
StandsAt r code sts past j n (Some line) =
    HasAt code (start_in sts (length code) j) (line_code (start_in sts (length code) j) (line_at r n) line)
    × (start_in sts (length code) (suc j) ≡ start_in sts (length code) j + length (line_code (start_in sts (length code) j) (line_at r n) line))
    × (n < past)

first : (r : List ℕ) (code : List Instr) (lines : List Line) (pc k : ℕ) → pc + length (lines_code pc (line_at r k) lines) ≡ length code → start_in (starts pc (line_at r k) lines) (length code) 0 ≡ pc
first r code [] pc k e = omega (arith, e)
first r code (line ∷ lines) pc k e = refl

stands : (r : List ℕ) (code : List Instr) (lines : List Line) (pc k j : ℕ) → HasAt code pc (lines_code pc (line_at r k) lines)
    → pc + length (lines_code pc (line_at r k) lines) ≡ length code → StandsAt r code (starts pc (line_at r k) lines) (k + length lines) j (k + j) (slice_get lines j)
stands r code [] pc k j has e = (refl, omega arith)
stands r code (line ∷ lines) pc k zero has e =
    let cl = line_code pc (line_at r k) line in
    let next = pc + length cl in
    let len : next + length (lines_code next (line_at r (k + 1)) lines) ≡ length code = omega (arith, e, length-append cl (lines_code next (line_at r (k + 1)) lines)) in
    let same : k ≡ k + 0 = omega arith in (
      subst (λ n. HasAt code pc (line_code pc (line_at r n) line)) same (has_front code pc cl _ has),
      first r code lines next (k + 1) len ∙ ap (λ n. pc + length (line_code pc (line_at r n) line)) same,
      omega arith,
    )
stands r code (line ∷ lines) pc k (suc j) has e =
    let cl = line_code pc (line_at r k) line in
    let next = pc + length cl in
    let len : next + length (lines_code next (line_at r (k + 1)) lines) ≡ length code = omega (arith, e, length-append cl (lines_code next (line_at r (k + 1)) lines)) in
    let same : k + 1 + j ≡ k + suc j = omega arith in
    let past : k + 1 + length lines ≡ k + length (line ∷ lines) = omega arith in
    subst (λ n. StandsAt r code (pc ∷ starts next (line_at r (k + 1)) lines) (k + length (line ∷ lines)) (suc j) n (slice_get lines j)) same
    (subst (λ q. StandsAt r code (pc ∷ starts next (line_at r (k + 1)) lines) q (suc j) (k + 1 + j) (slice_get lines j)) past
    (stands r code lines next (k + 1) j (has_back code pc cl _ has) len))

start_mapped : (heads : List Head) (last j : ℕ) → elim (slice_get heads j) as (λ v. ℕ) [ None ↦ last | Some head ↦ head.start ] ≡ start_in (map (λ h. h.start) heads) last j
start_mapped [] last j = refl
start_mapped (h ∷ heads) last zero = refl
start_mapped (h ∷ heads) last (suc j) = start_mapped heads last j

mapped_length : {A B : Type 0} → (f : A → B) (l : List A) → length (map f l) ≡ length l
mapped_length f [] = refl
mapped_length f (x ∷ l) = ap suc (mapped_length f l)

module _ (routine : Routine) (u : unit.Unit) (name : u.name ≡ routine.name) (has_code : u.instrs.items ≡ lines_code 0 (line_of routine 1) routine.lines)
    (has_starts : map (λ h. h.start) u.heads.items ≡ starts 0 (line_of routine 1) routine.lines) (has_levels : levels_in u ≡ map (λ line. line.level) routine.lines) where
  pub many : length u.heads.items ≡ length routine.lines
  many = sym (mapped_length {A = Head} {B = ℕ} (λ h. h.level) u.heads.items) ∙ ap length has_levels ∙ mapped_length {A = Line} {B = ℕ} (λ line. line.level) routine.lines

  start_is : (k : ℕ) → start_of u k ≡ start_in (starts 0 (line_of routine 1) routine.lines) (length u.instrs.items) (k - 1)
  start_is k = start_mapped u.heads.items (length u.instrs.items) (k - 1) ∙ ap (λ l. start_in l (length u.instrs.items) (k - 1)) has_starts

  -- what stands at the start of line k, in the words of the unit
  abbrev pub LineStands : ℕ → Option Line → Type 0
  LineStands k None = (start_of u k ≡ length u.instrs.items) × (1 + length routine.lines ≤ k)
  LineStands k (Some line) =
      HasAt u.instrs.items (start_of u k) (line_code (start_of u k) (line_at u.name k) line)
      × (start_of u (k + 1) ≡ start_of u k + length (line_code (start_of u k) (line_at u.name k) line)) × (k < 1 + length routine.lines)

  renamed : (k : ℕ) (o : Option Line) → 1 ≤ k → StandsAt routine.name u.instrs.items (starts 0 (line_of routine 1) routine.lines) (1 + length routine.lines) (k - 1) k o → LineStands k o
  renamed k None some h = (start_is k ∙ h.0, h.1)
  renamed k (Some line) some h =
      let pc = start_in (starts 0 (line_of routine 1) routine.lines) (length u.instrs.items) (k - 1) in
      let e : suc (k - 1) ≡ k + 1 - 1 = omega arith in
      let code : HasAt u.instrs.items (start_of u k) (line_code (start_of u k) (line_at u.name k) line) =
      subst (λ p. HasAt u.instrs.items p (line_code p (line_at u.name k) line)) (sym (start_is k)) (subst (λ r. HasAt u.instrs.items pc (line_code pc (line_at r k) line)) (sym name) h.0) in
      let next : start_of u (k + 1) ≡ start_of u k + length (line_code (start_of u k) (line_at u.name k) line) =
      start_is (k + 1) ∙ ap (start_in (starts 0 (line_of routine 1) routine.lines) (length u.instrs.items)) (sym e) ∙ h.1
      ∙ ap (λ p. p + length (line_code p (line_at routine.name k) line)) (sym (start_is k))
      ∙ ap (λ r. start_of u k + length (line_code (start_of u k) (line_at r k) line)) (sym name) in
      (code, next, h.2)

  pub lines_stand : (k : ℕ) → 1 ≤ k → LineStands k (slice_get routine.lines (k - 1))
  lines_stand k some =
      let e : 1 + (k - 1) ≡ k = omega arith in
      let whole : HasAt u.instrs.items 0 (lines_code 0 (line_of routine 1) routine.lines) =
      subst (λ is. HasAt is 0 (lines_code 0 (line_of routine 1) routine.lines)) (sym has_code) (has_all (lines_code 0 (line_of routine 1) routine.lines) []) in
      let len : 0 + length (lines_code 0 (line_of routine 1) routine.lines) ≡ length u.instrs.items = omega (arith, ap length has_code) in
      renamed k (slice_get routine.lines (k - 1)) some
      (subst (λ n. StandsAt routine.name u.instrs.items (starts 0 (line_of routine 1) routine.lines) (1 + length routine.lines) (k - 1) n (slice_get routine.lines (k - 1))) e
      (stands routine.name u.instrs.items routine.lines 0 1 (k - 1) whole len))

  module _ (image : List Routine) (units : List unit.Unit)
      (found : lines_of image routine.name ≡ routine.lines) (alike : LeadAlike image units) (j : ℕ) (at : slice_get units j ≡ Some u) (below : List Call) (leave : Leave) where
    abbrev ctx : Context
    ctx = record { unit = j; loops = []; calls = below }

    -- a line, or the end, by what stands there, with n turns left
    line_follows : (d n k : ℕ) (o : Option Line) → 1 ≤ k → k ≤ length routine.lines + 1 → n ≤ d → LineStands k o → ((m : ℕ) → m < suc n → DoLines image units m) → Leaves units n below leave
        → act units u (slice_get u.instrs.items (start_of u k)) (exec units n) ctx (start_of u k) [] n ≡ obey_line (points_of image d) (line_at u.name k) o leave n
    line_follows d n k None some last deep s lines leaves =
        let there : slice_get u.instrs.items (start_of u k) ≡ None = ap (slice_get u.instrs.items) s.0 ∙ slice_get_past u.instrs.items (length u.instrs.items) (omega arith) in
        let number : length u.heads.items ≡ k - 1 = omega (arith, many, s.1) in
        ap (λ i. act units u i (exec units n) ctx (start_of u k) [] n) there
        ∙ ap (λ l. change (at_place (place_in u l)) (quits (exec units n) below) n) number
        ∙ change_at n (at_place (place_in u (k - 1))) (quits (exec units n) below) (quit_frame (leave [])) (quits_same units n below leave leaves)
    line_follows d n k (Some line) some last deep s lines leaves =
        let pc = start_of u k in
        let here : Here = line_at u.name k in
        let commands = steps_code here (pc + 1) None line.steps in
        let next : Timed = turn (points_of image d (AtLine (next_line here) leave)) in
        let ways : Ways = record { line_end = next; for_quit = None; leave = leave } in
        let len : pc + 1 + length commands ≡ start_of u (k + 1) = omega (arith, s.1) in
        let on : Agree n (from units u ctx at (pc + 1 + length commands) []) next =
        moved units u ctx at n _ _ [] next len (lines n (omega arith) j u at (k + 1) (omega arith) (omega (arith, many, s.2)) below leave leaves d deep) in
        let body : Agree n (from units u ctx at (pc + 1) []) (obey_all (points_of image d) here line.steps ways) =
        steps_follow image units alike u j k at some (omega (arith, many, s.2)) below line.steps n d deep (λ m lt. lines m (omega arith)) [] None ways (pc + 1) s.0.1 on tt leaves in
        let over : Timed = change (at_place (place_in u (k - 1))) (quits (exec units n) below) in
        let passes_over : Timed = exec units n ctx (pc + 1 + length commands) [] in
        let goes_in : Timed = change (at_place (place_in u k)) (exec units n ctx (pc + 1) []) in
        ap (λ i. act units u i (exec units n) ctx pc [] n) s.0.0
        ∙ look_at n (λ s'. if nat_lt line.level (level_of s') then over else if nat_lt (level_of s') line.level then passes_over else goes_in)
        (λ s'. if nat_lt line.level (level_of s') then quit_before here leave else if nat_lt
        (level_of s') line.level then next else change (at_place (place_at here)) (obey_all (points_of image d) here line.steps ways))
        (λ s'. if_at n (nat_lt line.level (level_of s')) over (quit_before here leave) (if nat_lt (level_of s') line.level then passes_over else goes_in)
        (if nat_lt (level_of s') line.level then next else change (at_place (place_at here)) (obey_all (points_of image d) here line.steps ways))
        (change_at n (at_place (place_in u (k - 1))) (quits (exec units n) below) (quit_frame (leave [])) (quits_same units n below leave leaves))
        (if_at n (nat_lt (level_of s') line.level) passes_over next goes_in (change (at_place (place_at here)) (obey_all (points_of image d) here line.steps ways))
        (on.by n (omega arith))
        (change_at n (at_place (place_in u k)) (exec units n ctx (pc + 1) []) (obey_all (points_of image d) here line.steps ways) (body.by n (omega arith)))))

    does_line : (b k : ℕ) → 1 ≤ k → k ≤ length routine.lines + 1 → ((m : ℕ) → m < b → DoLines image units m) → Leaves units b below leave → (depth : ℕ) → b ≤ depth
        → (n : ℕ) → n ≤ b → exec units n ctx (start_of u k) [] n ≡ turn (points_of image depth (AtLine (line_at u.name k) leave)) n
    does_line b k some last lines leaves depth deep zero le = refl
    does_line b k some last lines leaves zero deep (suc n) le = absurd (omega (arith, le, deep))
    does_line b k some last lines leaves (suc d) deep (suc n) le =
        ap (λ o. act_in units o (exec units n) ctx (start_of u k) [] n) at
        ∙ line_follows d n k (slice_get routine.lines (k - 1)) some last (omega (arith, le, deep)) (lines_stand k some)
        (λ m lt. lines m (omega (arith, lt, le))) (fewer_leaves units b n below leave (omega (arith, le)) leaves)
        ∙ ap (λ l. obey_line (points_of image d) (line_at u.name k) (slice_get l (k - 1)) leave n) (sym (ap (lines_of image) name ∙ found))

  after_last : length u.heads.items + 1 ≡ 1 + length routine.lines
  after_last = omega (arith, many)

  pub is_unit : length routine.lines < 2 ^ 32 → map (λ h. h.formals) u.heads.items ≡ map (λ line. line.formals) routine.lines → u.labels ≡ with_labels [] 1 routine.lines → IsUnitOf routine u
  is_unit few has_formals has_labels = record {
    name = name;
    few = few;
    levels = has_levels;
    formals = has_formals;
    labels = has_labels;
    finds = λ l.
        ap (λ (ls : Labels). unwrap_or (line_with l ls) (length u.heads.items + 1)) has_labels
        ∙ ap (λ n. unwrap_or (line_with l (with_labels [] 1 routine.lines)) n) after_last
        ∙ finds l 1 routine.lines;
    does = λ image units found alike j at b lines k some last below leave leaves depth deep.
        record { by = λ n le. does_line image units found alike j at below leave b k some last lines leaves depth deep n le };
  }
