-- Breakpoints stay where jobs begin again.
use Rattle.std.specs.Prelude.{slice_get, if◌then◌else◌, ◌==◌, ◌&&◌, ◌⊎◌}
use Rattle.std.specs.Str.{bytes_eq}
use Rattle.std.proofs.lemmas.Slice.Eq.{bytes_eq-Decides}
use Rattle.std.proofs.Common.{◌≡◌, ℕ, zero, suc, ◌+◌, ◌<◌, ◌≤◌, List, [], ◌∷◌, ◌++◌, length, drop, Bool, true, false, Some, Result, refl, sym, ap, subst, ◌∙◌, arith, inl, inr}
use Rattle.std.proofs.lemmas.Option.{same_Some}
use Rattle.mj_ast.specs.declared.routine.Line.{Line}
use Rattle.mj_ast.specs.declared.routine.Routine.{Routine}
use Rattle.mj_semantics.specs.State.{Place}
use Rattle.mj_load.specs.Image.{Loaded}
use Rattle.mj_sys.specs.Shared.{Shared}
use Rattle.mj_core.specs.declared.seen.Seen.{Seen}
use Rattle.mj_core.specs.Shown.{Shown}
use Rattle.mj_steps.specs.declared.step.Step.{Step}
use Rattle.mj_debug.specs.declared.breaks.BreakMark.{BreakMark}
use Rattle.mj_debug.specs.declared.debugger.WalkRefusal.{WalkRefusal}
use Rattle.mj_debug.specs.Breaks.{is_same, is_breakpoint, AreMarked}
use Rattle.mj_debug.specs.Walks.{Walk, StepGives}
use Rattle.mj_remade.specs.declared.marks.Mark.{Mark}
use Rattle.mj_remade.specs.Marks.{spot_of, put_over, all_over, holds_break, differs, mark_of, marks_from, marks_in, AreMarksOf}

-- ---- lines that are one

both : (b c : Bool) → (b && c) ≡ true → (b ≡ true) × (c ≡ true)
both true c e = (refl, e)
both false c e = absurd (let no : false ≡ true = e in cc)

all_true : (b c : Bool) → b ≡ true → c ≡ true → (b && c) ≡ true
all_true b c e f = ap (λ d. d && c) e ∙ f

same_is : (p q : Place) → is_same p q ≡ true → p ≡ q
same_is p q e =
    let two = both (bytes_eq p.routine q.routine) (p.line == q.line) e in
    let routine : p.routine ≡ q.routine = (bytes_eq-Decides p.routine q.routine).0 two.0 in
    let line : p.line ≡ q.line = (let t = two.1 in grind (arith, t)) in
    λ i. record { routine = routine i; line = line i }

same_line : (n : ℕ) → (n == n) ≡ true
same_line n = grind arith

is_itself : (p : Place) → is_same p p ≡ true
is_itself p = all_true (bytes_eq p.routine p.routine) (p.line == p.line) ((bytes_eq-Decides p.routine p.routine).1 refl) (same_line p.line)

-- ---- marks of lines

-- each mark is right
abbrev AreRight : (Place → Bool) → List Mark → Type 0
AreRight right [] = Unit {0}
AreRight right (mark ∷ marks) = (mark.on ≡ right (spot_of mark)) × AreRight right marks

-- one of them is of this line
abbrev Has : Place → List Mark → Type 0
Has line [] = ⊥
Has line (mark ∷ marks) = (is_same (spot_of mark) line ≡ true) ⊎ Has line marks

right_both : (right : Place → Bool) (xs ys : List Mark) → AreRight right xs → AreRight right ys → AreRight right (xs ++ ys)
right_both right [] ys one other = other
right_both right (x ∷ xs) ys one other = (one.0, right_both right xs ys one.1 other)

has_before : (line : Place) (xs ys : List Mark) → Has line xs → Has line (xs ++ ys)
has_before line [] ys has = absurd has
has_before line (x ∷ xs) ys (inl here) = inl here
has_before line (x ∷ xs) ys (inr there) = inr (has_before line xs ys there)

has_behind : (line : Place) (xs ys : List Mark) → Has line ys → Has line (xs ++ ys)
has_behind line [] ys has = has
has_behind line (x ∷ xs) ys has = inr (has_behind line xs ys has)

-- right marks over what is right, or of what they are of, leave what is right
over_right : (right was : Place → Bool) (line : Place) (marks : List Mark) → AreRight right marks → (was line ≡ right line) ⊎ Has line marks
    → all_over was marks line ≡ right line
over_right right was line [] are (inl same) = same
over_right right was line [] are (inr never) = absurd never
over_right right was line (mark ∷ marks) are is = over_right right (put_over was mark) line marks are.1 (next is)
  where
    here : is_same (spot_of mark) line ≡ true → put_over was mark line ≡ right line
    here e = ap (λ b. if b then mark.on else was line) e ∙ are.0 ∙ ap right (same_is (spot_of mark) line e)

    by : (b : Bool) → is_same (spot_of mark) line ≡ b → was line ≡ right line → put_over was mark line ≡ right line
    by true e same = here e
    by false e same = ap (λ b. if b then mark.on else was line) e ∙ same

    next : (was line ≡ right line) ⊎ ((is_same (spot_of mark) line ≡ true) ⊎ Has line marks) → (put_over was mark line ≡ right line) ⊎ Has line marks
    next (inl same) = inl (by (is_same (spot_of mark) line) refl same)
    next (inr (inl e)) = inl (here e)
    next (inr (inr there)) = inr there

-- marks over what is the same leave the same
pub over_same : (was now : Place → Bool) (marks : List Mark) → ((line : Place) → now line ≡ was line) → (line : Place) → all_over now marks line ≡ all_over was marks line
over_same was now [] same line = same line
over_same was now (mark ∷ marks) same line =
    over_same (put_over was mark) (put_over now mark) marks (λ p. ap (λ b. if is_same (spot_of mark) p then mark.on else b) (same p)) line

module _ (image : Loaded) (old : List BreakMark) where
  abbrev right : Place → Bool
  right line = is_breakpoint image old line

  -- the line needs no mark, or these have one of it
  abbrev IsCovered : Place → List Mark → Type 0
  IsCovered line marks = (holds_break image line ≡ right line) ⊎ Has line marks

  covered_before : (line : Place) (xs ys : List Mark) → IsCovered line xs → IsCovered line (xs ++ ys)
  covered_before line xs ys (inl same) = inl same
  covered_before line xs ys (inr has) = inr (has_before line xs ys has)

  covered_behind : (line : Place) (xs ys : List Mark) → IsCovered line ys → IsCovered line (xs ++ ys)
  covered_behind line xs ys (inl same) = inl same
  covered_behind line xs ys (inr has) = inr (has_behind line xs ys has)

  abbrev mark : Place → Mark
  mark line = record { routine = line.routine; line = line.line; on = right line }

  mark_right : (line : Place) → AreRight right (mark_of image old line)
  mark_right line = by (differs (right line) (holds_break image line))
    where
      by : (b : Bool) → AreRight right (if b then mark line ∷ [] else [])
      by true = (refl, tt)
      by false = tt

  mark_covers : (line : Place) → IsCovered line (mark_of image old line)
  mark_covers line = by (right line) (holds_break image line) refl refl
    where
      has : differs (right line) (holds_break image line) ≡ true → Has line (mark_of image old line)
      has e = subst (λ b. Has line (if b then mark line ∷ [] else [])) (sym e) (inl (is_itself line))

      by : (b c : Bool) → right line ≡ b → holds_break image line ≡ c → IsCovered line (mark_of image old line)
      by true true e f = inl (f ∙ sym e)
      by false false e f = inl (f ∙ sym e)
      by true false e f = inr (has (ap (λ b. differs b (holds_break image line)) e ∙ ap (differs true) f))
      by false true e f = inr (has (ap (λ b. differs b (holds_break image line)) e ∙ ap (differs false) f))

  from_right : (routine : List ℕ) (number : ℕ) (lines : List Line) → AreRight right (marks_from image old routine number lines)
  from_right routine number [] = tt
  from_right routine number (l ∷ lines) =
      right_both right (mark_of image old (record { routine = routine; line = number })) (marks_from image old routine (number + 1) lines)
      (mark_right (record { routine = routine; line = number })) (from_right routine (number + 1) lines)

  -- a number from another one on is this one, or beyond it
  from_on : (a b : ℕ) → a ≤ b → (b ≡ a) ⊎ (a + 1 ≤ b)
  from_on zero zero le = inl refl
  from_on zero (suc b) le = inr (omega arith)
  from_on (suc a) zero le = absurd (omega (arith, le))
  from_on (suc a) (suc b) le = by (from_on a b (omega (arith, le)))
    where
      by : (b ≡ a) ⊎ (a + 1 ≤ b) → (suc b ≡ suc a) ⊎ (suc a + 1 ≤ suc b)
      by (inl same) = inl (ap suc same)
      by (inr more) = inr (omega (arith, more))

  from_covers : (routine : List ℕ) (number : ℕ) (lines : List Line) (k : ℕ) → number ≤ k → k < number + length lines
      → IsCovered (record { routine = routine; line = k }) (marks_from image old routine number lines)
  from_covers routine number [] k lo hi = absurd (omega (arith, lo, hi))
  from_covers routine number (l ∷ lines) k lo hi =
      by (λ more. from_covers routine (number + 1) lines k more (omega (arith, hi))) (from_on number k lo)
    where
      this : List Mark
      this = mark_of image old (record { routine = routine; line = number })

      rest : List Mark
      rest = marks_from image old routine (number + 1) lines

      by : (number + 1 ≤ k → IsCovered (record { routine = routine; line = k }) rest) → (k ≡ number) ⊎ (number + 1 ≤ k)
          → IsCovered (record { routine = routine; line = k }) (this ++ rest)
      by behind (inl here) =
          subst (λ n. IsCovered (record { routine = routine; line = n }) (this ++ rest)) (sym here)
          (covered_before (record { routine = routine; line = number }) this rest (mark_covers (record { routine = routine; line = number })))
      by behind (inr more) = covered_behind (record { routine = routine; line = k }) this rest (behind more)

  in_right : (routines : List Routine) → AreRight right (marks_in image old routines)
  in_right [] = tt
  in_right (r ∷ routines) =
      right_both right (marks_from image old r.name 1 r.lines.items) (marks_in image old routines) (from_right r.name 1 r.lines.items) (in_right routines)

  in_covers : (routines : List Routine) (at : ℕ) (r : Routine) (k : ℕ) → slice_get routines at ≡ Some r → 1 ≤ k → k ≤ length r.lines.items
      → IsCovered (record { routine = r.name; line = k }) (marks_in image old routines)
  in_covers [] at r k there some within = cc
  in_covers (s ∷ routines) zero r k there some within =
      subst (λ (r : Routine). IsCovered (record { routine = r.name; line = k }) (marks_in image old (s ∷ routines))) is
      (covered_before (record { routine = s.name; line = k }) (marks_from image old s.name 1 s.lines.items) (marks_in image old routines)
      (from_covers s.name 1 s.lines.items k some (omega (arith, fits))))
    where
      is : s ≡ r
      is = same_Some s r there

      fits : k ≤ length s.lines.items
      fits = subst (λ (r : Routine). k ≤ length r.lines.items) (sym is) within
  in_covers (s ∷ routines) (suc at) r k there some within =
      covered_behind (record { routine = r.name; line = k }) (marks_from image old s.name 1 s.lines.items) (marks_in image old routines)
      (in_covers routines at r k there some within)

  -- the marks of all lines
  pub kept_in : (marks : List Mark) → marks ≡ marks_in image old image.routines → AreMarksOf image old marks
  kept_in marks is line of =
      subst (λ marks. all_over (holds_break image) marks line ≡ right line) (sym is)
      (over_right right (holds_break image) line (marks_in image old image.routines) (in_right image.routines)
      (subst (λ routine. IsCovered (record { routine = routine; line = line.line }) (marks_in image old image.routines)) (sym of.named)
      (in_covers image.routines of.at of.routine line.line of.there of.some of.within)))

-- ---- marks that are put

-- one more is put
pub put_next : (image here : Loaded) (start was now : List BreakMark) (marks : List Mark) (i : ℕ) (m : Mark) → here ≡ image → drop i marks ≡ m ∷ drop (i + 1) marks
    → AreMarked here (spot_of m) m.on was now
    → ((line : Place) → all_over (is_breakpoint image was) (drop i marks) line ≡ all_over (is_breakpoint image start) marks line)
    → (line : Place) → all_over (is_breakpoint image now) (drop (i + 1) marks) line ≡ all_over (is_breakpoint image start) marks line
put_next image here start was now marks i m same is marked before line =
    over_same (put_over (is_breakpoint image was) m) (is_breakpoint image now) (drop (i + 1) marks)
    (subst (λ image. AreMarked image (spot_of m) m.on was now) same marked) line
    ∙ ap (λ ms. all_over (is_breakpoint image was) ms line) (sym is) ∙ before line

-- they are put behind steps, which leave the marks
pub put_behind : (mid new : Shown) (old left now : List BreakMark) (given marks : List Mark) → new ≡ mid → left ≡ old → given ≡ marks
    → ((line : Place) → is_breakpoint mid.image now line ≡ all_over (is_breakpoint mid.image left) given line)
    → (line : Place) → is_breakpoint new.image now line ≡ all_over (is_breakpoint new.image old) marks line
put_behind mid new old left now given marks core was are put line =
    subst (λ (core : Shown). is_breakpoint core.image now line ≡ all_over (is_breakpoint core.image old) marks line) (sym core)
    (put line ∙ ap (λ was. all_over (is_breakpoint mid.image was) given line) was ∙ ap (λ ms. all_over (is_breakpoint mid.image old) ms line) are)

-- a step leaves the marks
pub step_marks : (opening : Shared) (old new : Walk) (step : Step) (answer : Result Seen WalkRefusal) → StepGives opening old step answer new → new.marks ≡ old.marks
step_marks opening old new step answer (inl (before, why, same)) = ap (λ (w : Walk). w.marks) same
step_marks opening old new step answer (inr (at, (seen, is, gives, on))) = ap (λ (w : Walk). w.marks) on
