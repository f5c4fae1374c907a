-- A line is marked, and no other line is another.
use borrow.Author.Tests.{ltb-false}
use Rattle.std.specs.Prelude.{slice_index_or, slice_set, position, if◌then◌else◌, ◌==◌, ◌&&◌}
use Rattle.std.specs.List.{position_or_len}
use Rattle.std.specs.Str.{bytes_eq}
use Rattle.std.proofs.lemmas.Slice.Eq.{bytes_eq-Decides}
use Rattle.std.proofs.lemmas.Option.{none-some}
use Rattle.std.proofs.lemmas.List.Sums.{fails_before_first, prefix_len-le-length}
use Rattle.std.proofs.Common.{◌≡◌, ℕ, zero, suc, ◌<◌, ◌≤◌, List, [], ◌∷◌, ◌++◌, length, Bool, true, false, Option, Some, None, cond, nat_lt, refl, sym, ap, ◌∙◌, arith}
use Rattle.mj_semantics.specs.State.{Place}
use Rattle.mj_load.specs.Image.{Loaded}
use Rattle.mj_debug.specs.declared.breaks.BreakMark.{BreakMark}
use Rattle.mj_debug.specs.Breaks.{is_same, line_of, is_breakpoint}

-- lines that are one are equal
both : (b c : Bool) → (b && c) ≡ true → (b ≡ true) × (c ≡ true)
both true c e = (refl, e)
both false c e = absurd (let no : false ≡ true = e in cc)

same_is : (p q : Place) → is_same p q ≡ true → p ≡ q
same_is p q e =
    let two = both (bytes_eq p.routine q.routine) (p.line == q.line) e in
    let routine : p.routine ≡ q.routine = (bytes_eq-Decides p.routine q.routine).0 two.0 in
    let line : p.line ≡ q.line = (let t = two.1 in grind (arith, t)) in
    λ i. record { routine = routine i; line = line i }

module _ (image : Loaded) (line : Place) (on : Bool) (other : Place) where
  abbrev now : Bool → Bool
  now was = if is_same line other then on else was

  -- a mark of another line stays
  beside : (mark : Place) (was_on was : Bool) → is_same mark line ≡ false → (rest : Bool) → rest ≡ now was
      → (if is_same mark other then was_on else rest) ≡ now (if is_same mark other then was_on else was)
  beside mark was_on was apart rest is = by (is_same mark other) (is_same line other) refl refl where
    by : (b c : Bool) → is_same mark other ≡ b → is_same line other ≡ c
        → (if is_same mark other then was_on else rest) ≡ now (if is_same mark other then was_on else was)
    by true true e f = absurd (
        let here : mark ≡ line = same_is mark other e ∙ sym (same_is line other f) in
        let no : false ≡ true = sym apart ∙ ap (λ p. is_same p line) here ∙ ap (λ p. is_same line p) (same_is line other f) ∙ f in cc)
    by true false e f = ap (λ b. if b then was_on else rest) e ∙ sym (ap (λ b. if b then on else (if is_same mark other then was_on else was)) f ∙ ap (λ b. if b then was_on else was) e)
    by false c e f = ap (λ b. if b then was_on else rest) e ∙ is ∙ ap (λ b. now (if b then was_on else was)) (sym e)

  -- the mark of the line is changed
  pub changed : (marks : List BreakMark) (k : ℕ) (d mark : BreakMark) → k < length marks → is_same (line_of (slice_index_or marks k d)) line ≡ true
      → ((j : ℕ) → j < k → is_same (line_of (slice_index_or marks j d)) line ≡ false)
      → line_of mark ≡ line_of (slice_index_or marks k d) → mark.on ≡ on
      → is_breakpoint image (slice_set marks k mark) other ≡ now (is_breakpoint image marks other)
  changed [] k d mark within here before same is_on = absurd (omega (arith, within))
  changed (m ∷ marks) zero d mark within here before same is_on =
      let new : line_of mark ≡ line = same ∙ same_is (line_of m) line here in
      let old : line_of m ≡ line = same_is (line_of m) line here in
      by (is_same line other) refl
      (ap (λ p. if is_same p other then mark.on else is_breakpoint image marks other) new) (ap (λ p. if is_same p other then m.on else is_breakpoint image marks other) old) where
        by : (c : Bool) → is_same line other ≡ c
            → (if is_same (line_of mark) other then mark.on else is_breakpoint image marks other) ≡ (if is_same line other then mark.on else is_breakpoint image marks other)
            → (if is_same (line_of m) other then m.on else is_breakpoint image marks other) ≡ (if is_same line other then m.on else is_breakpoint image marks other)
            → (if is_same (line_of mark) other then mark.on else is_breakpoint image marks other) ≡ now (if is_same (line_of m) other then m.on else is_breakpoint image marks other)
        by true e new old =
            new ∙ ap (λ b. if b then mark.on else is_breakpoint image marks other) e ∙ is_on
            ∙ sym (ap (λ b. if b then on else (if is_same (line_of m) other then m.on else is_breakpoint image marks other)) e)
        by false e new old =
            new ∙ ap (λ b. if b then mark.on else is_breakpoint image marks other) e
            ∙ sym (ap (λ b. if b then on else (if is_same (line_of m) other then m.on else is_breakpoint image marks other)) e ∙ old ∙ ap (λ b. if b then m.on else is_breakpoint image marks other) e)
  changed (m ∷ marks) (suc k) d mark within here before same is_on =
      beside (line_of m) m.on (is_breakpoint image marks other) (before 0 (omega arith)) (is_breakpoint image (slice_set marks k mark) other)
      (changed marks k d mark (omega (arith, within)) here (λ j below. before (suc j) (omega (arith, below))) same is_on)

  -- a line without a mark gets one
  pub marked : (marks : List BreakMark) (mark : BreakMark)
      → line_of mark ≡ line → mark.on ≡ on → ((j : ℕ) (d : BreakMark) → j < length marks → is_same (line_of (slice_index_or marks j d)) line ≡ false)
      → is_breakpoint image (marks ++ mark ∷ []) other ≡ now (is_breakpoint image marks other)
  marked [] mark new is_on none =
      ap (λ p. if is_same p other then mark.on else is_breakpoint image [] other) new ∙ ap (λ b. if is_same line other then b else is_breakpoint image [] other) is_on
  marked (m ∷ marks) mark new is_on none =
      beside (line_of m) m.on (is_breakpoint image marks other) (none 0 m (omega arith)) (is_breakpoint image (marks ++ mark ∷ []) other)
      (marked marks mark new is_on (λ j d below. none (suc j) d (omega (arith, below))))

-- where no element passes a test
ends : {X : Type 0} (p : X → Bool) (xs : List X) → position p xs ≡ None → position_or_len p xs ≡ length xs
ends p xs none = by (nat_lt (position_or_len p xs) (length xs)) refl none where
  by : (b : Bool) → nat_lt (position_or_len p xs) (length xs) ≡ b → cond {A = Option ℕ} b (Some (position_or_len p xs)) None ≡ None → position_or_len p xs ≡ length xs
  by true e q = absurd (none-some (position_or_len p xs) (sym q))
  by false e q = let at_most : position_or_len p xs ≤ length xs = prefix_len-le-length _ xs in omega (arith, ltb-false, e, at_most)

-- a line that isn't found has no mark
pub unmarked : (line : Place) (marks : List BreakMark) → position (λ m. is_same (line_of m) line) marks ≡ None
    → (j : ℕ) (d : BreakMark) → j < length marks → is_same (line_of (slice_index_or marks j d)) line ≡ false
unmarked line marks none j d below =
    let end = ends (λ m. is_same (line_of m) line) marks none in
    fails_before_first (λ m. is_same (line_of m) line) marks j d (omega (arith, end, below))
