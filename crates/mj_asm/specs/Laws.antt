-- That a call among units does what it does among routines, as long as the units do what the routines do from each line on.
use Rattle.std.proofs.Common.{◌≡◌, ℕ, zero, suc, ◌≤◌, List, [], length, Bool, Option, Some, None, refl, sym, ap, ◌∙◌, arith}
use Rattle.std.specs.Prelude.{nat_lt, nat_eq, if◌then◌else◌}
use Rattle.mj_text.specs.declared.fault.Fault.TheVariants.{NoLine, Params}
use Rattle.mj_ast.specs.Syntax.{Line, Routine}
use Rattle.mj_semantics.specs.State.{State, Place, passed, pushed}
use Rattle.mj_semantics.specs.Outcome.{Timed, turn, turns, change, fault}
use Rattle.mj_semantics.specs.Lines.{Here, place_at}
use Rattle.mj_semantics.specs.Points.{Leave, AtLine}
use Rattle.mj_semantics.specs.Commands.{deeper}
use Rattle.mj_semantics.specs.Job.{points_of, call}
use Rattle.mj_pcode.specs.declared.instr.Unit as unit
use Rattle.mj_pcode.specs.Found.{Found}
use Rattle.mj_pcode.specs.Context.{Call, at_unit}
use Rattle.mj_pcode.specs.Machine as machine
use Rattle.mj_pcode.specs.Machine.{Next, act, act_in, exec, tallies, returns, place_in}
use Rattle.mj_pcode.proofs.Agree.{if_at, change_at, deeper_at}
use Rattle.mj_asm.specs.Correct.{Agree, next_of, DoLines, IsFound}

-- the machine with the turns that are left
abbrev pub after_one : List unit.Unit → ℕ → Next
after_one units n = exec units n

-- what the frames below are to do that a QUIT leads to is the same for at most n turns, with whatever value
abbrev pub Leaves : List unit.Unit → ℕ → List Call → Leave → Type 0
Leaves units n below leave = (v : List ℕ) → Agree n (returns (next_of units) below v) (leave v)

pub same_here : (r r' : List ℕ) (k k' : ℕ) → r ≡ r' → k ≡ k' → ◌≡◌ {A = Here} (record { routine = r; line = k }) (record { routine = r'; line = k' })
same_here r r' k k' e e' = ap (λ x. record { routine = x; line = k }) e ∙ ap (λ x. record { routine = r'; line = x }) e'

pub same_place : (r r' : List ℕ) (k k' : ℕ) → r ≡ r' → k ≡ k' → ◌≡◌ {A = Place} (record { routine = r; line = k }) (record { routine = r'; line = k' })
same_place r r' k k' e e' = ap (λ x. record { routine = x; line = k }) e ∙ ap (λ x. record { routine = r'; line = x }) e'

module _ (image : List Routine) (units : List unit.Unit) where
  -- the machine at the line that was found, where so many tallies lie, and the routines at theirs after as many turns
  pub at_found : (formals d n m : ℕ) (to : Here × Line) (f : Found) (below : List Call) (leave : Leave)
      → m ≤ n → n ≤ d → IsFound image units (Some to) (Some f) → DoLines image units n → Leaves units n below leave
      → exec units m (at_unit f.at below) f.head.start (tallies formals) m ≡ turns formals (turn (points_of image d (AtLine to.0 leave))) m
  at_found zero d n m to f below leave fewer le is lines k =
      let h : to.0 ≡ record { routine = f.unit.name; line = f.line } = same_here to.0.routine f.unit.name to.0.line f.line is.1 is.2 in
      ap (λ p. exec units m (at_unit f.at below) p [] m) is.5
      ∙ (lines f.at f.unit is.0 f.line is.3 is.4 below leave k d le).by m fewer
      ∙ ap (λ x. turn (points_of image d (AtLine x leave)) m) (sym h)
  at_found (suc formals) d n zero to f below leave fewer le is lines k = refl
  at_found (suc formals) d n (suc m) to f below leave fewer le is lines k =
      ap (λ o. act_in units o (after_one units m) (at_unit f.at below) f.head.start (tallies (suc formals)) m) is.0
      ∙ ap (λ i. act units f.unit i (after_one units m) (at_unit f.at below) f.head.start (tallies (suc formals)) m) is.9.is
      ∙ at_found formals d n m to f below leave (omega (arith, fewer)) le is lines k

  pub call_follows : (function : Bool) (d n : ℕ) (o : Option (Here × Line)) (f : Option Found) (vs : List (Option (List ℕ))) (below : List Call) (leave : Leave)
      → n ≤ d → IsFound image units o f → DoLines image units n → Leaves units n below leave
      → machine.calls function f vs below (after_one units n) n ≡ call (points_of image d) function o vs leave n
  call_follows function d n None None vs below leave le is lines k = refl
  call_follows function d n None (Some f) vs below leave le is lines k = absurd is
  call_follows function d n (Some to) None vs below leave le is lines k = absurd is
  call_follows function d n (Some to) (Some f) vs below leave le is lines k =
      let level : to.1.level ≡ f.head.level = is.6 in
      let formals : to.1.formals ≡ f.head.formals = is.7 in
      let place : place_at to.0 ≡ place_in f.unit f.line = same_place to.0.routine f.unit.name to.0.line f.line is.1 is.2 in
      let line : Timed = turn (points_of image d (AtLine to.0 leave)) in
      let there : Timed = exec units n (at_unit f.at below) f.head.start (tallies (length f.head.formals)) in
      let after_formals : Timed = turns (length f.head.formals) line in
      let whole : ℕ → List (List ℕ) → Place → Timed → Timed = λ l xs p rest.
      if nat_eq l 1 then if nat_lt (length xs) (length vs) then fault Params else deeper
      (change (λ s. passed xs vs (pushed p 1 function (if function then Some s.test else None) s)) (turns (length xs) rest)) else fault NoLine in
      let enters : List (List ℕ) → State → State = λ xs s. passed xs vs (pushed (place_in f.unit f.line) 1 function (if function then Some s.test else None) s) in
      if_at n (nat_eq f.head.level 1)
      (if nat_lt (length f.head.formals) (length vs) then fault Params else deeper (change (enters f.head.formals) there))
      (if nat_lt (length f.head.formals) (length vs) then fault Params else deeper (change (enters f.head.formals) after_formals))
      (fault NoLine) (fault NoLine)
      (if_at n (nat_lt (length f.head.formals) (length vs)) (fault Params) (fault Params) (deeper (change (enters f.head.formals) there)) (deeper (change (enters f.head.formals) after_formals)) refl
      (deeper_at n (change (enters f.head.formals) there) (change (enters f.head.formals) after_formals)
      (change_at n (enters f.head.formals) there after_formals (at_found (length f.head.formals) d n n to f below leave (omega arith) le is lines k))))
      refl
      ∙ ap (λ p. whole f.head.level f.head.formals p line n) (sym place)
      ∙ ap (λ xs. whole f.head.level xs (place_at to.0) line n) (sym formals)
      ∙ ap (λ l. whole l to.1.formals (place_at to.0) line n) (sym level)
