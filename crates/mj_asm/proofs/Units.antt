-- The unit of a routine is checked.
use Rattle.std.proofs.Common.{◌≡◌, ℕ, zero, suc, ◌+◌, ◌-◌, ◌<◌, List, [], ◌∷◌, ◌++◌, length, map, Option, Some, None, refl, sym, ap, ◌∙◌, subst, arith, append_assoc, length-append}
use Rattle.std.proofs.Math.Seq.{get_or-append_seam}
use Rattle.std.proofs.lemmas.Option.{none-some, slice_get-get_or, slice_get-map, slice_get_within}
use Rattle.std.specs.Prelude.{slice_get}
use Rattle.mj_ast.specs.Syntax.{Line, Routine}
use Rattle.mj_semantics.specs.Lines.{Here, next_line}
use Rattle.mj_pcode.specs.declared.instr.Head.{Head}
use Rattle.mj_pcode.specs.declared.instr.Instr.{Instr}
use Rattle.mj_pcode.specs.declared.instr.Instr.TheVariants as instr
use Rattle.mj_pcode.specs.declared.instr.Unit as unit
use Rattle.mj_pcode.specs.Found.{start_of, levels_in}
use Rattle.mj_pcode.specs.Checked.{Footing, bare, footing_behind, footings, Holds, InstrFits, footings_in, IsChecked}
use Rattle.mj_asm.specs.Code.{steps_code, line_code, lines_code, starts}
use Rattle.mj_asm.specs.Correct.{line_of}
use Rattle.mj_asm.proofs.Lines.{line_at, many, LineStands, lines_stand}
use Rattle.mj_asm.proofs.CheckedExpressions.{Laid, Fit, Goes, laid_here, laid_front, laid_back, laid_end}
use Rattle.mj_asm.proofs.CheckedLines.{line_goes, lines_go}

some_is : {A : Type 0} (a b : A) → Some a ≡ Some b → a ≡ b
some_is a b e = ap (λ o. elim o [ None ↦ a | Some x ↦ x ]) e

-- the places of code hold what its instructions leave, one after the other
laid_all : (c : List Instr) (f : Footing) (pre : List Footing) → Laid (pre ++ footings f c) (length pre) f c
laid_all [] f pre =
    let within : length pre < length (pre ++ f ∷ []) = omega (arith, length-append pre (f ∷ [])) in
    slice_get-get_or (pre ++ f ∷ []) (length pre) f within ∙ ap Some (get_or-append_seam pre f [] f)
laid_all (i ∷ c) f pre =
    let rest = footings (footing_behind i f) c in
    let within : length pre < length (pre ++ f ∷ rest) = omega (arith, length-append pre (f ∷ rest)) in
    let here = slice_get-get_or (pre ++ f ∷ rest) (length pre) f within ∙ ap Some (get_or-append_seam pre f rest f) in
    let n : length (pre ++ f ∷ []) ≡ length pre + 1 = omega (arith, length-append pre (f ∷ [])) in
    let later = subst (λ l. Laid l (length (pre ++ f ∷ [])) (footing_behind i f) c) (append_assoc pre (f ∷ []) rest) (laid_all c (footing_behind i f) (pre ++ f ∷ [])) in
    (here, subst (λ m. Laid (pre ++ f ∷ rest) m (footing_behind i f) c) n later)

-- an instruction of code that fits
fits_at : (fs : List Footing) (pc : ℕ) (f : Footing) (c : List Instr) → Laid fs pc f c → Fit fs pc f c
    → (j : ℕ) (i : Instr) (g : Footing) → slice_get c j ≡ Some i → Holds fs (pc + j) g → InstrFits fs (pc + j) i g
fits_at fs pc f [] l h j i g e k = absurd (none-some i e)
fits_at fs pc f (x ∷ c) l h zero i g e k =
    let n : pc + 0 ≡ pc = omega arith in
    let n' : pc ≡ pc + 0 = omega arith in
    let same : f ≡ g = some_is f g (sym l.0 ∙ subst (λ m. slice_get fs m ≡ Some g) n k) in
    subst (λ m. InstrFits fs m i g) n' (subst (λ y. InstrFits fs pc y g) (some_is x i e) (subst (λ y. InstrFits fs pc x y) same h.0))
fits_at fs pc f (x ∷ c) l h (suc j) i g e k =
    let n : pc + 1 + j ≡ pc + suc j = omega arith in
    subst (λ m. InstrFits fs m i g) n (fits_at fs (pc + 1) (footing_behind x f) c l.1 h.1 j i g e (subst (λ m. Holds fs m g) (sym n) k))

-- nothing lies where lines begin
lines_begin : (fs : List Footing) (here : Here) (lines : List Line) (pc : ℕ) → Laid fs pc bare (lines_code pc here lines) → (j p : ℕ) → slice_get (starts pc here lines) j ≡ Some p → Holds fs p bare
lines_begin fs here [] pc l j p e = absurd (none-some p e)
lines_begin fs here (line ∷ lines) pc l zero p e = subst (λ q. Holds fs q bare) (some_is pc p e) (laid_here fs pc bare (lines_code pc here (line ∷ lines)) l)
lines_begin fs here (line ∷ lines) pc l (suc j) p e =
    let cl = line_code pc here line in
    let rest = lines_code (pc + length cl) (next_line here) lines in
    let back = laid_back fs pc bare cl rest l in
    let f = (line_goes fs here line pc (laid_front fs pc bare cl rest l)).0 in
    lines_begin fs (next_line here) lines (pc + length cl) (subst (λ x. Laid fs (pc + length cl) x rest) f back) j p e

module _ (routine : Routine) (u : unit.Unit) (name : u.name ≡ routine.name) (has_code : u.instrs.items ≡ lines_code 0 (line_of routine 1) routine.lines)
    (has_starts : map (λ h. h.start) u.heads.items ≡ starts 0 (line_of routine 1) routine.lines) (has_levels : levels_in u ≡ map (λ line. line.level) routine.lines) where
  all_laid : Laid (footings_in u) 0 bare u.instrs.items
  all_laid = laid_all u.instrs.items bare []

  all_goes : Goes (footings_in u) 0 u.instrs.items bare bare
  all_goes = subst (λ c. Goes (footings_in u) 0 c bare bare) (sym has_code) (lines_go (footings_in u) (line_of routine 1) routine.lines 0)

  begins : (k : ℕ) (h : Head) → slice_get u.heads.items k ≡ Some h → Holds (footings_in u) h.start bare
  begins k h e =
      let at : slice_get (starts 0 (line_of routine 1) routine.lines) k ≡ Some h.start =
      ap (λ l. slice_get l k) (sym has_starts) ∙ slice_get-map (λ x. x.start) u.heads.items k ∙ ap (λ o. elim o [ None ↦ None | Some x ↦ Some x.start ]) e in
      lines_begin (footings_in u) (line_of routine 1) routine.lines 0 (subst (Laid (footings_in u) 0 bare) has_code all_laid) k h.start at

  start_at : (k : ℕ) (h : Head) → slice_get u.heads.items k ≡ Some h → start_of u (k + 1) ≡ h.start
  start_at k h e =
      let n : k + 1 - 1 ≡ k = omega arith in
      ap (λ j. elim (slice_get u.heads.items j) [ None ↦ length u.instrs.items | Some x ↦ x.start ]) n
      ∙ ap (λ o. elim o [ None ↦ length u.instrs.items | Some x ↦ x.start ]) e

  abbrev entered : ℕ → ℕ → ℕ → Instr
  entered line level next = instr.Line (record { line = line; level = level; next = next })

  line_enters : (k : ℕ) (h : Head) → slice_get u.heads.items k ≡ Some h → (o : Option Line) → slice_get routine.lines k ≡ o → LineStands routine u name has_code has_starts has_levels (k + 1) o
      → slice_get u.instrs.items h.start ≡ Some (entered (k + 1) h.level (start_of u (k + 2)))
  line_enters k h e None is s = absurd (omega (arith, s.1, slice_get_within u.heads.items k h e, many routine u name has_code has_starts has_levels))
  line_enters k h e (Some line) is s =
      let pc = start_of u (k + 1) in
      let commands = steps_code (line_at u.name (k + 1)) (pc + 1) None line.steps in
      let m : k + 1 + 1 ≡ k + 2 = omega arith in
      let next : pc + 1 + length commands ≡ start_of u (k + 2) = (let a : pc + 1 + length commands ≡ start_of u (k + 1 + 1) = omega (arith, s.1) in a) ∙ ap (start_of u) m in
      let option_level : Option Head → Option ℕ = λ o. elim o [ None ↦ None | Some x ↦ Some x.level ] in
      let line_level : Option Line → Option ℕ = λ o. elim o [ None ↦ None | Some x ↦ Some x.level ] in
      let levels : Some line.level ≡ Some h.level =
      sym (ap line_level is) ∙ sym (slice_get-map (λ x. x.level) routine.lines k) ∙ ap (λ l. slice_get l k) (sym has_levels) ∙ slice_get-map (λ x. x.level) u.heads.items k ∙ ap option_level e in
      ap (slice_get u.instrs.items) (sym (start_at k h e)) ∙ s.0.0
      ∙ ap (λ l. Some (entered (k + 1) l (pc + 1 + length commands))) (some_is line.level h.level levels)
      ∙ ap (λ n. Some (entered (k + 1) h.level n)) next

  pub is_checked : IsChecked u
  is_checked =
      let done = all_goes all_laid in
      record {
        fits = λ pc i f at holds.
            let n : pc ≡ 0 + pc = omega arith in
            subst (λ m. InstrFits (footings_in u) m i f) (sym n) (fits_at (footings_in u) 0 bare u.instrs.items all_laid done.1 pc i f at (subst (λ m. Holds (footings_in u) m f) n holds));
        lines = λ k h e.
            let n : k + 1 - 1 ≡ k = omega arith in
            line_enters k h e (slice_get routine.lines k) refl
            (subst (λ j. LineStands routine u name has_code has_starts has_levels (k + 1) (slice_get routine.lines j)) n
            (lines_stand routine u name has_code has_starts has_levels (k + 1) (omega arith)));
        starts = begins;
        last =
            let n : 0 + length u.instrs.items ≡ length u.instrs.items = omega arith in
            subst (λ m. Holds (footings_in u) m bare) n (subst (Holds (footings_in u) (0 + length u.instrs.items)) done.0 (laid_end (footings_in u) 0 bare u.instrs.items all_laid));
      }
