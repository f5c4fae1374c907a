-- Rows of what code holds, of what is not checked, and of the turns of a call.
use Rattle.std.proofs.Common.{arith, ap, ◌∙◌}
use Rattle.std.proofs.lemmas.Option.{none-some}
use Rattle.std.specs.Prelude.{◌≡◌, refl, ℕ, suc, List, [], ◌∷◌, Some, None, Bool, true, false, codes, slice_get}
use Rattle.mj_text.specs.declared.limit.Limit.TheVariants.{V2}
use Rattle.mj_ask.specs.declared.ask.Ask.TheVariants as asks
use Rattle.mj_ask.specs.declared.ask.DeviceAsk.TheVariants as device_asks
use Rattle.mj_oper.specs.declared.op.Op.TheVariants.{Add}
use Rattle.mj_semantics.specs.State.{State, principal, passed, pushed, popped, places}
use Rattle.mj_semantics.specs.Outcome.{Outcome, Needs, More, no_restart, change, end}
use Rattle.mj_semantics.specs.Job.{opening}
use Rattle.mj_pcode.specs.declared.instr.Span.TheVariants as span
use Rattle.mj_pcode.specs.declared.instr.Instr.{Instr}
use Rattle.mj_pcode.specs.declared.instr.Instr.TheVariants.{Line, Push, Binary, Write, JumpUnless, Jump, SelectFails, ForOpen, ForBegin, ForClose, ForAgain, Quit}
use Rattle.mj_pcode.specs.declared.instr.Unit.{Unit}
use Rattle.mj_pcode.specs.Found.{Found}
use Rattle.mj_pcode.specs.Context.{Call, Context, at_unit}
use Rattle.mj_pcode.specs.Machine.{Stack, Next, returns, act, calls, exec, place_in}
use Rattle.mj_pcode.specs.Checked.{footing, bare, footings, IsEnough, TargetsHold}

abbrev text : List ℕ
text = codes "1"

-- the first line, up to an instruction
abbrev line : ℕ → Instr
line next = Line (record { line = 1; level = 1; next = next })

-- WRITE 1+1
sum : footings bare (line 5 ∷ Push text ∷ Push text ∷ Binary Add ∷ Write ∷ []) ≡ footing 0 0 ∷ footing 0 0 ∷ footing 1 0 ∷ footing 2 0 ∷ footing 1 0 ∷ footing 0 0 ∷ []
sum = refl

-- WRITE $SELECT(1:1): behind the jump stands what is there without a value
choice : footings bare (line 7 ∷ Push text ∷ JumpUnless 5 ∷ Push text ∷ Jump 6 ∷ SelectFails ∷ Write ∷ [])
    ≡ footing 0 0 ∷ footing 0 0 ∷ footing 1 0 ∷ footing 0 0 ∷ footing 1 0 ∷ footing 0 0 ∷ footing 1 0 ∷ footing 0 0 ∷ []
choice = refl

-- FOR I=1 WRITE 1
passes : footings bare (line 8 ∷ ForOpen (codes "I") 0 5 ∷ Push text ∷ ForBegin span.One ∷ ForClose 8 ∷ Push text ∷ Write ∷ ForAgain ∷ [])
    ≡ footing 0 0 ∷ footing 0 0 ∷ footing 0 1 ∷ footing 1 1 ∷ footing 0 1 ∷ footing 0 1 ∷ footing 1 1 ∷ footing 0 1 ∷ footing 0 0 ∷ []
passes = refl

-- an operator between operands of which there is one
lacks_one : IsEnough (Binary Add) (footing 1 0) → ⊥
lacks_one h = omega (arith, h)

-- a pass that is over, in no FOR
lacks_for : IsEnough ForAgain bare → ⊥
lacks_for h = omega (arith, h.1)

-- a jump one beyond the end, to which one may lead
beyond : TargetsHold (footings bare (Jump 2 ∷ [])) 0 (Jump 2) bare → ⊥
beyond h = none-some bare h

to_the_end : TargetsHold (footings bare (Jump 1 ∷ [])) 0 (Jump 1) bare
to_the_end = refl

-- A unit that begins with a line of level 1, A(X,Y) QUIT, is called.
module _ (u : Unit) (is_line : slice_get u.instrs.items 0 ≡ Some (line 2)) (is_quit : slice_get u.instrs.items 1 ≡ Some Quit) where
  abbrev first_line : Found
  first_line = record { at = 0; unit = u; line = 1; head = record { start = 0; level = 1; formals = codes "X" ∷ codes "Y" ∷ [] } }

  abbrev c : Context
  c = at_unit 0 []

  abbrev next : ℕ → Next
  next n = exec (u ∷ []) n

  abbrev opened : State
  opened = opening (record { limit = V2; events = 1000000 }) 1

  -- with n turns
  abbrev run : ℕ → Outcome
  run n = calls false (Some first_line) [] [] (next n) n no_restart opened []

  abbrev begun : State
  begun = passed (codes "X" ∷ codes "Y" ∷ []) [] (pushed (place_in u 1) 1 false None opened)

  abbrev from : ℕ → Stack → ℕ → Outcome
  from pc stack n = exec (u ∷ []) n c pc stack n no_restart begun []

  counted : (v : List ℕ) (stack : Stack) (n : ℕ) → from 0 (v ∷ stack) (suc n) ≡ from 0 stack n
  counted v stack n = ap (λ i. act (u ∷ []) u i (next n) c 0 (v ∷ stack) n no_restart begun []) is_line

  entered : (n : ℕ) → from 0 [] (suc n) ≡ from 1 [] n
  entered n = ap (λ i. act (u ∷ []) u i (next n) c 0 [] n no_restart begun []) is_line

  over : (n : ℕ) → from 1 [] (suc n) ≡ end None n no_restart begun []
  over n = ap (λ i. act (u ∷ []) u i (next n) c 1 [] n no_restart begun []) is_quit

  -- the two formals, the line and the QUIT
  four_turns : run 4 ≡ More
  four_turns = counted [] ([] ∷ []) 3 ∙ counted [] [] 2 ∙ entered 1 ∙ over 0

  five_turns : run 5 ≡ Needs (asks.Device principal device_asks.End) begun.locals (places begun)
  five_turns = counted [] ([] ∷ []) 4 ∙ counted [] [] 3 ∙ entered 2 ∙ over 1

-- A frame is over whose caller waits for the value of a function, with an operand that was kept, and one whose caller waits for none.
module _ (next : Next) (v : List ℕ) where
  abbrev caller : Bool → List (List ℕ) → Call
  caller function kept = record { unit = 0; pc = 3; loops = []; operands = kept; function = function }

  value_upon_operands : returns next (caller true (text ∷ []) ∷ []) v ≡ change popped (next (at_unit 0 []) 3 (v ∷ text ∷ []))
  value_upon_operands = refl

  no_value : returns next (caller false [] ∷ []) v ≡ change popped (next (at_unit 0 []) 3 [])
  no_value = refl
