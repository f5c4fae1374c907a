-- Entries lead to the same lines among routines as among their units, and from there on the units do what the routines do.
use Rattle.std.proofs.Common.{◌≡◌, ℕ, zero, suc, ◌+◌, ◌-◌, ◌<◌, ◌≤◌, List, [], ◌∷◌, ◌++◌, Bool, true, false, Option, Some, None, length, map, option_map, refl, sym, ap, ◌∙◌, subst, arith}
use Rattle.std.proofs.lemmas.List.{length-map}
use Rattle.std.proofs.lemmas.Option.{slice_get_within, get_or_from_slice_get}
use Rattle.std.proofs.lemmas.Slice.Eq.{bytes_eq-Decides}
use Rattle.std.specs.Prelude.{slice_get, All, ◌||◌, nat_lt, nat_eq, if◌then◌else◌}
use Rattle.std.specs.List.{list_any}
use Rattle.std.specs.Str.{bytes_eq}
use Rattle.mj_ask.specs.declared.bounds.Bounds.{Bounds}
use Rattle.mj_ask.specs.declared.entry.Entry.{Entry}
use Rattle.mj_ast.specs.declared.routine.Routine.{Routine}
use Rattle.mj_ast.specs.Trees.{routine_of}
use Rattle.mj_ast.specs.Syntax as syntax
use Rattle.mj_semantics.specs.Outcome.{Timed, change, fault, end}
use Rattle.mj_semantics.specs.Lines.{Here, has_label, labelled, lines_of, entered, levels_of}
use Rattle.mj_pcode.specs.declared.instr.Head.{Head}
use Rattle.mj_pcode.specs.declared.instr.Unit as unit
use Rattle.mj_pcode.specs.Found.{Found, found, found_in, found_from, line_in, start_of, levels_in}
use Rattle.mj_pcode.specs.Machine.{calls, tallies, place_in}
use Rattle.mj_pcode.specs.Checked.{IsChecked}
use Rattle.mj_pcode.specs.Sound.{AreChecked}
use Rattle.mj_asm.specs.Correct.{next_of, DoLines, IsFound, LeadAlike, IsUnitOf}
use Rattle.mj_pcode.proofs.Agree.{if_at, change_at, deeper_at}
use Rattle.mj_asm.specs.Laws.{Leaves, call_follows, after_one}
use Rattle.mj_semantics.specs.State.{State, passed, pushed}
use Rattle.mj_semantics.specs.Commands.{deeper}
use Rattle.mj_pcode.specs.Context.{at_unit}
use Rattle.mj_text.specs.declared.fault.Fault.TheVariants.{NoLine, Params}
use Rattle.mj_load.specs.Image.{IsWithinLimits, repeated, names_of, AreUnits, IsSmall, DoesEntries}

-- the number of the line of a routine that a label leads to
abbrev number_in : Option (List ℕ) → List syntax.Line → ℕ
number_in label lines = elim label [ None ↦ 1 | Some l ↦ labelled l 1 lines ]

many : (r : syntax.Routine) (u : unit.Unit) → IsUnitOf r u → length u.heads.items ≡ length r.lines
many r u code = sym (length-map u.heads.items (λ h. h.level)) ∙ ap length code.levels ∙ length-map r.lines (λ line. line.level)

same_number : (r : syntax.Routine) (u : unit.Unit) → IsUnitOf r u → (label : Option (List ℕ)) → line_in u label ≡ number_in label r.lines
same_number r u code None = refl
same_number r u code (Some l) = code.finds l

-- numbers of lines are from 1 on
labelled_from : (l : List ℕ) (k : ℕ) (lines : List syntax.Line) → k ≤ labelled l k lines
labelled_from l k [] = omega arith
labelled_from l k (line ∷ lines) = go (has_label l line) (labelled_from l (k + 1) lines)
  where
    go : (t : Bool) → k + 1 ≤ labelled l (k + 1) lines → k ≤ (if t then k else labelled l (k + 1) lines)
    go true later = omega arith
    go false later = omega (arith, later)

from_one : (label : Option (List ℕ)) (lines : List syntax.Line) → 1 ≤ number_in label lines
from_one None lines = omega arith
from_one (Some l) lines = labelled_from l 1 lines

-- what stands at a place of a list that was mapped
mapped_at : {A B : Type 0} → (f : A → B) (xs : List A) (j : ℕ) → slice_get (map f xs) j ≡ option_map f (slice_get xs j)
mapped_at f [] j = refl
mapped_at f (x ∷ xs) zero = refl
mapped_at f (x ∷ xs) (suc j) = mapped_at f xs j

within_list : {A : Type 0} → (xs : List A) (j : ℕ) (x : A) → slice_get xs j ≡ Some x → j < length xs
within_list [] j x e = cc
within_list (y ∷ xs) zero x e = omega arith
within_list (y ∷ xs) (suc j) x e = omega (arith, within_list xs j x e)

-- the first unit with a name, and the lines of the first routine with it
pub record Placed (rs : List Routine) (us : List unit.Unit) (i : ℕ) (entry : Entry) : Type 0 where
  j : ℕ
  routine : Routine
  u : unit.Unit
  at : slice_get us j ≡ Some u
  code : IsUnitOf (routine_of routine) u
  same : u.name ≡ entry.routine
  lines : lines_of (map routine_of rs) entry.routine ≡ (routine_of routine).lines
  there : found_from i us entry ≡ found_in (i + j) u (line_in u entry.label)

pub record Absent (rs : List Routine) (us : List unit.Unit) (i : ℕ) (entry : Entry) : Type 0 where
  lines : lines_of (map routine_of rs) entry.routine ≡ []
  there : found_from i us entry ≡ None

pub data Lookup (rs : List Routine) (us : List unit.Unit) (i : ℕ) (entry : Entry) : Type 0 where
  is_there : Placed rs us i entry → Lookup rs us i entry
  is_absent : Absent rs us i entry → Lookup rs us i entry

-- the routine in front has the unit's name
lines_front : (r : Routine) (rs : List Routine) (u : unit.Unit) (name : List ℕ) (t : Bool)
    → IsUnitOf (routine_of r) u → bytes_eq u.name name ≡ t → lines_of (map routine_of (r ∷ rs)) name ≡ (if t then (routine_of r).lines else lines_of (map routine_of rs) name)
lines_front r rs u name t code e =
    ap (λ q. if bytes_eq q name then (routine_of r).lines else lines_of (map routine_of rs) name) (sym code.name)
    ∙ ap (λ v. if v then (routine_of r).lines else lines_of (map routine_of rs) name) e

units_front : (u : unit.Unit) (us : List unit.Unit) (i : ℕ) (entry : Entry) (t : Bool)
    → bytes_eq u.name entry.routine ≡ t → found_from i (u ∷ us) entry ≡ (if t then found_in i u (line_in u entry.label) else found_from (i + 1) us entry)
units_front u us i entry t e = ap (λ v. if v then found_in i u (line_in u entry.label) else found_from (i + 1) us entry) e

looked_up : (rs : List Routine) (us : List unit.Unit) (i : ℕ) (entry : Entry) → AreUnits rs us → Lookup rs us i entry
looked_up [] [] i entry h = is_absent (record { lines = refl; there = refl })
looked_up [] (u ∷ us) i entry h = absurd h
looked_up (r ∷ rs) [] i entry h = absurd h
looked_up (r ∷ rs) (u ∷ us) i entry h = go (bytes_eq u.name entry.routine) refl (looked_up rs us (i + 1) entry h.1)
  where
    go : (t : Bool) → bytes_eq u.name entry.routine ≡ t → Lookup rs us (i + 1) entry → Lookup (r ∷ rs) (u ∷ us) i entry
    go true e later =
        let n : i ≡ i + 0 = omega arith in
        is_there (record {
          j = 0;
          routine = r;
          u = u;
          at = refl;
          code = h.0;
          same = (bytes_eq-Decides u.name entry.routine).0 e;
          lines = lines_front r rs u entry.routine true h.0 e;
          there = units_front u us i entry true e ∙ ap (λ m. found_in m u (line_in u entry.label)) n;
        })
    go false e (is_there p) =
        let n : i + 1 + p.j ≡ i + suc p.j = omega arith in
        is_there (record {
          j = suc p.j;
          routine = p.routine;
          u = p.u;
          at = p.at;
          code = p.code;
          same = p.same;
          lines = lines_front r rs u entry.routine false h.0 e ∙ p.lines;
          there = units_front u us i entry false e ∙ p.there ∙ ap (λ m. found_in m p.u (line_in p.u entry.label)) n;
        })
    go false e (is_absent a) =
        is_absent (record { lines = lines_front r rs u entry.routine false h.0 e ∙ a.lines; there = units_front u us i entry false e ∙ a.there })

module _ (image : List syntax.Routine) (units : List unit.Unit) where
  -- a line and its head at the same place
  alike_at : (r : syntax.Routine) (u : unit.Unit) (name : List ℕ) (at k : ℕ) (o : Option syntax.Line) (h : Option Head)
      → IsUnitOf r u → u.name ≡ name → lines_of image name ≡ r.lines → slice_get units at ≡ Some u → 1 ≤ k
      → slice_get u.heads.items (k - 1) ≡ h → option_map (λ x. x.level) h ≡ option_map (λ x. x.level) o → option_map (λ x. x.formals) h ≡ option_map (λ x. x.formals) o → IsChecked u
      → IsFound image units (elim o [
        | None ↦ None
        | Some line ↦ Some (record { routine = name; line = k }, line)
      ]) (elim h [ None ↦ None | Some head ↦ Some (record { at = at; unit = u; line = k; head = head }) ])
  alike_at r u name at k None None code same lines there some e l f checked = tt
  alike_at r u name at k None (Some head) code same lines there some e l f checked = let p : ◌≡◌ {A = Option ℕ} (Some head.level) None = l in cc
  alike_at r u name at k (Some line) None code same lines there some e l f checked = let p : ◌≡◌ {A = Option ℕ} None (Some line.level) = l in cc
  alike_at r u name at k (Some line) (Some head) code same lines there some e l f checked =
      let within : k - 1 < length u.heads.items = within_list u.heads.items (k - 1) head e in
      let level : line.level ≡ head.level = some_is head.level line.level l in
      let formals : line.formals ≡ head.formals = somes_are head.formals line.formals f in
      let start : head.start ≡ start_of u k = sym (ap (λ v. elim v as (λ w. ℕ) [ None ↦ length u.instrs.items | Some x ↦ x.start ]) e) in
      let levels : levels_of image u.name ≡ levels_in u = ap (λ n. map (λ x. x.level) (lines_of image n)) same ∙ ap (map (λ x. x.level)) lines ∙ sym code.levels in
      (there, sym same, refl, some, omega (arith, within), start, level, formals, levels, record { line = _; is = checked.lines (k - 1) head e })
    where
      some_is : (a c : ℕ) → ◌≡◌ {A = Option ℕ} (Some a) (Some c) → c ≡ a
      some_is a c p = cc

      somes_are : (a c : List (List ℕ)) → ◌≡◌ {A = Option (List (List ℕ))} (Some a) (Some c) → c ≡ a
      somes_are a c p = cc

abbrev entered_in : Entry → List syntax.Line → Option (Here × syntax.Line)
entered_in entry lines = elim (slice_get lines (number_in entry.label lines - 1)) [ None ↦ None | Some line ↦ Some (record { routine = entry.routine; line = number_in entry.label lines }, line) ]

entered_is : (image : List syntax.Routine) (entry : Entry) → entered image entry ≡ entered_in entry (lines_of image entry.routine)
entered_is image entry = refl

alike_if : (rs : List Routine) (us : List unit.Unit) (entry : Entry) → AreChecked us → Lookup rs us 0 entry → IsFound (map routine_of rs) us (entered (map routine_of rs) entry) (found us entry)
alike_if rs us entry checked (is_absent a) =
    subst (λ o. IsFound (map routine_of rs) us o (found us entry)) (sym (ap (entered_in entry) a.lines)) (subst (IsFound (map routine_of rs) us None) (sym a.there) tt)
alike_if rs us entry checked (is_there p) =
    let image = map routine_of rs in
    let r = routine_of p.routine in
    let u = p.u in
    let k = number_in entry.label r.lines in
    let n : line_in u entry.label ≡ k = same_number r u p.code entry.label in
    let at : 0 + p.j ≡ p.j = omega arith in
    let levels : option_map (λ x. x.level) (slice_get u.heads.items (k - 1)) ≡ option_map (λ x. x.level) (slice_get r.lines (k - 1)) =
    sym (mapped_at (λ h. h.level) u.heads.items (k - 1)) ∙ ap (λ l. slice_get l (k - 1)) p.code.levels ∙ mapped_at (λ x. x.level) r.lines (k - 1) in
    let formals : option_map (λ x. x.formals) (slice_get u.heads.items (k - 1)) ≡ option_map (λ x. x.formals) (slice_get r.lines (k - 1)) =
    sym (mapped_at (λ h. h.formals) u.heads.items (k - 1)) ∙ ap (λ l. slice_get l (k - 1)) p.code.formals ∙ mapped_at (λ x. x.formals) r.lines (k - 1) in
    let there : found us entry ≡ found_in p.j u k = p.there ∙ ap (λ m. found_in m u (line_in u entry.label)) at ∙ ap (found_in p.j u) n in
    subst (λ o. IsFound image us o (found us entry)) (sym (ap (entered_in entry) p.lines))
    (subst (IsFound image us (entered_in entry r.lines)) (sym there)
    (alike_at image us r u entry.routine p.j k
    (slice_get r.lines (k - 1)) (slice_get u.heads.items (k - 1)) p.code p.same p.lines p.at (from_one entry.label r.lines) refl levels formals (checked p.j u p.at)))

pub lead_alike : (rs : List Routine) (us : List unit.Unit) → AreUnits rs us → AreChecked us → LeadAlike (map routine_of rs) us
lead_alike rs us h checked entry = alike_if rs us entry checked (looked_up rs us 0 entry h)

-- ---- each unit does what its routine does

neither : (a b : Bool) → (a || b) ≡ false → (a ≡ false) × (b ≡ false)
neither false b h = (refl, h)
neither true b h = let p : true ≡ false = h in cc

none_of : (p : List ℕ → Bool) (xs : List (List ℕ)) (y : List ℕ) → list_any p (xs ++ y ∷ []) ≡ false → (list_any p xs ≡ false) × (p y ≡ false)
none_of p [] y h = (refl, (neither (p y) false h).0)
none_of p (x ∷ xs) y h =
    let both = neither (p x) (list_any p (xs ++ y ∷ [])) h in
    let later = none_of p xs y both.1 in
    (ap (λ t. t || list_any p xs) both.0 ∙ later.0, later.1)

-- the next name is none of the earlier ones, and none comes again behind it
next_apart : (earlier : List (List ℕ)) (name : List ℕ) (names : List (List ℕ)) → repeated earlier (name ∷ names) ≡ None
    → (list_any (λ e. bytes_eq e name) earlier ≡ false) × (repeated (earlier ++ name ∷ []) names ≡ None)
next_apart earlier name names h = go (list_any (λ e. bytes_eq e name) earlier) refl
  where
    go : (t : Bool) → list_any (λ e. bytes_eq e name) earlier ≡ t → (list_any (λ e. bytes_eq e name) earlier ≡ false) × (repeated (earlier ++ name ∷ []) names ≡ None)
    go true a = let p : ◌≡◌ {A = Option (List ℕ)} (Some name) None = sym (ap (λ v. if v then Some name else repeated (earlier ++ name ∷ []) names) a) ∙ h in cc
    go false a = (a, sym (ap (λ v. if v then Some name else repeated (earlier ++ name ∷ []) names) a) ∙ h)

same_routine : (q r : Routine) → ◌≡◌ {A = Option Routine} (Some q) (Some r) → q ≡ r
same_routine q r e = cc

-- a routine has none of the names before it
unlike : (rs : List Routine) (earlier : List (List ℕ)) → repeated earlier (names_of rs) ≡ None → (j : ℕ) (r : Routine) → slice_get rs j ≡ Some r → list_any (λ e. bytes_eq e r.name) earlier ≡ false
unlike [] earlier h j r there = let p : ◌≡◌ {A = Option Routine} None (Some r) = there in cc
unlike (q ∷ rs) earlier h zero r there =
    ap (λ x. list_any (λ e. bytes_eq e x.name) earlier) (sym (same_routine q r there)) ∙ (next_apart earlier q.name (names_of rs) h).0
unlike (q ∷ rs) earlier h (suc j) r there =
    (none_of (λ e. bytes_eq e r.name) earlier q.name (unlike rs (earlier ++ q.name ∷ []) (next_apart earlier q.name (names_of rs) h).1 j r there)).0

-- a unit with its routine, whose name leads to its lines
record Owned (rs : List Routine) (u : unit.Unit) : Type 0 where
  routine : Routine
  code : IsUnitOf (routine_of routine) u
  lines : lines_of (map routine_of rs) routine.name ≡ (routine_of routine).lines

front_lines : (q : Routine) (rs : List Routine) (name : List ℕ) (t : Bool) → bytes_eq q.name name ≡ t
    → lines_of (map routine_of (q ∷ rs)) name ≡ (if t then (routine_of q).lines else lines_of (map routine_of rs) name)
front_lines q rs name t e = ap (λ v. if v then (routine_of q).lines else lines_of (map routine_of rs) name) e

record Owner (rs : List Routine) (us : List unit.Unit) (j : ℕ) (u : unit.Unit) : Type 0 where
  routine : Routine
  at : slice_get rs j ≡ Some routine
  code : IsUnitOf (routine_of routine) u
  lines : lines_of (map routine_of rs) routine.name ≡ (routine_of routine).lines

same_unit : (v u : unit.Unit) → ◌≡◌ {A = Option unit.Unit} (Some v) (Some u) → v ≡ u
same_unit v u e = cc

owner : (rs : List Routine) (us : List unit.Unit) (earlier : List (List ℕ)) → AreUnits rs us
    → repeated earlier (names_of rs) ≡ None → (j : ℕ) (u : unit.Unit) → slice_get us j ≡ Some u → Owner rs us j u
owner [] [] earlier h a j u there = let p : ◌≡◌ {A = Option unit.Unit} None (Some u) = there in cc
owner [] (v ∷ us) earlier h a j u there = absurd h
owner (q ∷ rs) [] earlier h a j u there = absurd h
owner (q ∷ rs) (v ∷ us) earlier h a zero u there =
    record {
      routine = q;
      at = refl;
      code = subst (IsUnitOf (routine_of q)) (same_unit v u there) h.0;
      lines = front_lines q rs q.name true ((bytes_eq-Decides q.name q.name).1 refl);
    }
owner (q ∷ rs) (v ∷ us) earlier h a (suc j) u there =
    let next = (next_apart earlier q.name (names_of rs) a).1 in
    let later = owner rs us (earlier ++ q.name ∷ []) h.1 next j u there in
    record {
      routine = later.routine;
      at = later.at;
      code = later.code;
      lines = front_lines q rs later.routine.name false (none_of (λ e. bytes_eq e later.routine.name) earlier q.name (unlike rs (earlier ++ q.name ∷ []) next j later.routine later.at)).1
          ∙ later.lines;
    }

module _ (rs : List Routine) (us : List unit.Unit) (h : AreUnits rs us) (apart : repeated [] (names_of rs) ≡ None) (checked : AreChecked us) where
  do_lines : (b : ℕ) → ((m : ℕ) → m < b → DoLines (map routine_of rs) us m) → DoLines (map routine_of rs) us b
  do_lines b fewer j u there k some last =
      let o = owner rs us [] h apart j u there in
      o.code.does (map routine_of rs) us o.lines (lead_alike rs us h checked) j there b fewer k some (omega (arith, last, many (routine_of o.routine) u o.code))

  all_below : (b m : ℕ) → m < b → DoLines (map routine_of rs) us m
  all_below zero m lt = absurd (omega (arith, lt))
  all_below (suc b) m lt = do_lines m (λ q lt'. all_below b q (omega (arith, lt, lt')))

  same_leave : (n : ℕ) → Leaves us n [] (λ v. end None)
  same_leave n v = record { by = λ m le. refl }

  calls_same : (n : ℕ) (f : Option Found) (vs : List (Option (List ℕ))) → calls false f vs [] (next_of us) n ≡ calls false f vs [] (after_one us n) n
  calls_same n None vs = refl
  calls_same n (Some to) vs =
      let enters : State → State = λ s. passed to.head.formals vs (pushed (place_in to.unit to.line) 1 false None s) in
      let f : Timed = next_of us (at_unit to.at []) to.head.start (tallies (length to.head.formals)) in
      let g : Timed = after_one us n (at_unit to.at []) to.head.start (tallies (length to.head.formals)) in
      if_at n (nat_eq to.head.level 1)
      (if nat_lt (length to.head.formals) (length vs) then fault Params else deeper (change enters f))
      (if nat_lt (length to.head.formals) (length vs) then fault Params else deeper (change enters g))
      (fault NoLine) (fault NoLine)
      (if_at n (nat_lt (length to.head.formals) (length vs)) (fault Params) (fault Params) (deeper (change enters f)) (deeper (change enters g)) refl
      (deeper_at n (change enters f) (change enters g) (change_at n enters f g refl)))
      refl

  pub does_entries : (bounds : Bounds) → DoesEntries (record { routines = rs; units = us; bounds = bounds })
  does_entries bounds entry vs depth n le =
      calls_same n (found us entry) vs ∙
      call_follows (map routine_of rs) us false depth n (entered (map routine_of rs) entry) (found us entry) vs [] (λ v. end None) le (lead_alike rs us h checked entry)
      (all_below (suc n) n (omega arith)) (same_leave n)

pub are_checked : (us : List unit.Unit) → All IsChecked us → AreChecked us
are_checked us all j u there = subst IsChecked (get_or_from_slice_get us j u u there) (all j u (slice_get_within us j u there))

both_small : (u : unit.Unit) (us : List unit.Unit) → IsSmall u → All IsSmall us → All IsSmall (u ∷ us)
both_small u us one others zero d lt = one
both_small u us one others (suc j) d lt = others j d (omega (arith, lt))

pub are_small : (rs : List Routine) (us : List unit.Unit) → All IsWithinLimits rs → AreUnits rs us → All IsSmall us
are_small [] [] w h = λ j d lt. absurd (omega (arith, lt))
are_small [] (u ∷ us) w h = absurd h
are_small (r ∷ rs) [] w h = absurd h
are_small (r ∷ rs) (u ∷ us) w h =
    let limits = w 0 r (omega arith) in
    both_small u us (record { short = omega (arith, limits.short, ap length h.0.name); few = omega (arith, many (routine_of r) u h.0, h.0.few) })
    (are_small rs us (λ j d lt. w (suc j) d (omega (arith, lt))) h.1)
