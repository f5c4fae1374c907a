-- What holds of every run of the machine.
use Rattle.std.specs.Prelude.{◌≡◌, ℕ, ◌≤◌, List}
use Rattle.mj_ask.specs.declared.ask.Reply.{Reply}
use Rattle.mj_semantics.specs.State.{State}
use Rattle.mj_semantics.specs.Outcome.{Handler}
use Rattle.mj_pcode.specs.declared.instr.Unit.{Unit}
use Rattle.mj_pcode.specs.Context.{Context}
use Rattle.mj_pcode.specs.Machine.{Stack, exec}

-- with instructions as deep as there are turns a run comes to what it comes to deeper
abbrev pub IsDeepEnough : Type 0
IsDeepEnough =
    (units : List Unit) (depth n : ℕ) (c : Context) (pc : ℕ) (stack : Stack) → n ≤ depth
    → exec units depth c pc stack n ≡ exec units n c pc stack n

-- a run with some turns hands no more turns than these to what a restart goes on with: where two restarts go on alike for as many, it
-- comes to the same
abbrev pub HandsOnAtMost : Type 0
HandsOnAtMost =
    (units : List Unit) (n : ℕ) (c : Context) (pc : ℕ) (stack : Stack) (h k : Handler) (s : State) (replies : List Reply)
    → ((m : ℕ) → m ≤ n → h m ≡ k m) → exec units n c pc stack n h s replies ≡ exec units n c pc stack n k s replies
