-- The code of the commands of transactions does what they say.
use Rattle.std.proofs.Common.{◌≡◌, ℕ, zero, suc, ◌+◌, ◌≤◌, List, [], ◌++◌, length, Option, Some, None, refl, ap, ◌∙◌, arith, length-append}
use Rattle.std.specs.Prelude.{slice_get}
use Rattle.mj_ast.specs.Syntax.{Restored, Alone, Listed, Everything, Restartable, Routine}
use Rattle.mj_semantics.specs.Outcome.{Timed, turn}
use Rattle.mj_semantics.specs.Lines.{Here}
use Rattle.mj_semantics.specs.Points.{Started}
use Rattle.mj_semantics.specs.Transactions.{restored_by, words_of, listed_by, serial_by, begin_transaction, commit, roll_back, roll_back_for_restart, begin_restart}
use Rattle.mj_semantics.specs.Commands.{start_transaction, commit_transaction, restart_transaction}
use Rattle.mj_semantics.specs.Job.{points_of}
use Rattle.mj_pcode.specs.declared.instr.Instr.{Instr}
use Rattle.mj_pcode.specs.declared.instr.Instr.TheVariants as instr
use Rattle.mj_pcode.specs.declared.instr.Unit as unit
use Rattle.mj_pcode.specs.Context.{Context}
use Rattle.mj_pcode.specs.Machine.{restored_of, act, act_in, exec}
use Rattle.mj_asm.specs.Code.{names_code, restores_of, restores_by, begin_code, transaction_code, commit_code, restart_code}
use Rattle.mj_asm.specs.Correct.{Agree}
use Rattle.mj_pcode.proofs.Agree.{restartable_at, begin_transaction_at, commit_at, roll_back_at, give_back_at}
use Rattle.mj_pcode.proofs.Deep.{deep_enough}
use Rattle.mj_asm.proofs.Expressions.{HasAt, has_front, has_back, from, one, moved}
use Rattle.mj_asm.proofs.VariableCommands.{names_follow}

-- the instruction says which locals the command restores
same_words : (r : Restored) → restored_of (restores_of r) ≡ Some (words_of r)
same_words (Alone word) = refl
same_words (Listed words) = refl
same_words Everything = refl

same_restored : (a : Option Restartable) → restored_of (restores_by a) ≡ restored_by a
same_restored None = refl
same_restored (Some r) = same_words r.restored

module _ (image : List Routine) (units : List unit.Unit) (u : unit.Unit) (ctx : Context) (there : slice_get units ctx.unit ≡ Some u) where
  abbrev code : List Instr
  code = u.instrs.items

  abbrev at : ℕ → Timed
  at pc = from units u ctx there pc []

  -- A restart goes on at the mark again, for as many turns as are left: it does there what the rest behind the mark does, with a mark again.
  marked_at : (b d n pc : ℕ) (rest : Timed) → b ≤ d → n ≤ b → slice_get code pc ≡ Some instr.MarkRestart → ((m : ℕ) → m ≤ b → at (pc + 1) m ≡ rest m)
      → at pc n ≡ turn (points_of image d (Started rest)) n
  marked_at b d zero pc rest deep le has k = refl
  marked_at zero d (suc m) pc rest deep le has k = absurd (omega (arith, le))
  marked_at (suc b) zero (suc m) pc rest deep le has k = absurd (omega (arith, deep))
  marked_at (suc b) (suc d) (suc m) pc rest deep le has k =
      ap (λ o. act_in units o (exec units m) ctx pc [] m) there
      ∙ ap (λ o. act units u o (exec units m) ctx pc [] m) has
      ∙ restartable_at m (exec units m ctx pc []) (turn (points_of image d (Started rest))) (exec units m ctx (pc + 1) []) rest
      (λ i few. deep_enough units m i ctx pc [] few ∙ marked_at b d i pc rest (omega (arith, deep)) (omega (arith, few, le)) has (λ j less. k j (omega (arith, less))))
      (k m (omega (arith, le)))

  module _ (b d : ℕ) (deep : b ≤ d) (here : Here) where
    pub transaction_follows : (a : Option Restartable) (pc : ℕ) (rest : Timed) → HasAt code pc (transaction_code a) → Agree b (at (pc + length (transaction_code a))) rest
        → Agree b (at pc) (start_transaction (points_of image d) here a rest)
    transaction_follows a pc rest has k =
        let cn = names_code (listed_by a) in
        let p = pc + length cn in
        let last = begin_code (restores_by a) (serial_by a) in
        let back = has_back code pc cn last has in
        let len : p + 2 ≡ pc + length (cn ++ last) = omega (arith, length-append cn last) in
        let len' : p + 1 + 1 ≡ pc + length (cn ++ last) = omega (arith, len) in
        let inner : Agree b (at (p + 2)) rest = moved units u ctx there b _ _ [] rest len k in
        let behind : Agree b (at (p + 1 + 1)) rest = moved units u ctx there b _ _ [] rest len' k in
        let marked : Timed = turn (points_of image d (Started rest)) in
        names_follow units u ctx there b (listed_by a) pc [] _ (has_front code pc cn _ has)
        (one units u ctx there b p [] (begin_transaction (restored_by a) (serial_by a) rest marked) back.0 (λ n lt.
        ap (λ o. begin_transaction o (serial_by a) (exec units n ctx (p + 2) []) (exec units n ctx (p + 1) []) n) (same_restored a)
        ∙ begin_transaction_at n (restored_by a) (serial_by a) (exec units n ctx (p + 2) []) rest (exec units n ctx (p + 1) []) marked
        (inner.by n (omega arith)) (marked_at b d n (p + 1) rest deep (omega arith) back.1.0 (λ m le. behind.by m le))))

    -- a transaction that begins once more
    again_follows : (pc : ℕ) → slice_get code pc ≡ Some instr.BeginRestart → Agree b (at pc) (turn begin_restart)
    again_follows pc has = one units u ctx there b pc [] begin_restart has (λ n lt. refl)

    pub commit_follows : (pc : ℕ) (rest : Timed) → HasAt code pc commit_code → Agree b (at (pc + length commit_code)) rest
        → Agree b (at pc) (commit_transaction (points_of image d) here rest)
    commit_follows pc rest has k =
        one units u ctx there b pc [] (commit (turn begin_restart) rest) has.0 (λ n lt.
        commit_at n (exec units n ctx (pc + 1) []) (turn begin_restart) (exec units n ctx (pc + 2) []) rest
        ((again_follows (pc + 1) has.1.0).by n (omega arith)) (k.by n (omega arith)))

    pub restart_follows : (pc : ℕ) → HasAt code pc restart_code → Agree b (at pc) (restart_transaction (points_of image d) here)
    restart_follows pc has =
        one units u ctx there b pc [] (roll_back_for_restart (turn begin_restart)) has.0 (λ n lt.
        give_back_at n (exec units n ctx (pc + 1) []) (turn begin_restart) ((again_follows (pc + 1) has.1.0).by n (omega arith)))

    pub roll_back_follows : (pc : ℕ) (rest : Timed) → slice_get code pc ≡ Some instr.RollBack → Agree b (at (pc + 1)) rest → Agree b (at pc) (turn (roll_back rest))
    roll_back_follows pc rest has k =
        one units u ctx there b pc [] (roll_back rest) has (λ n lt. roll_back_at n (exec units n ctx (pc + 1) []) rest (k.by n (omega arith)))

    -- BREAK does nothing
    pub break_follows : (pc : ℕ) (rest : Timed) → slice_get code pc ≡ Some (instr.Discard 0) → Agree b (at (pc + 1)) rest → Agree b (at pc) (turn rest)
    break_follows pc rest has k = one units u ctx there b pc [] rest has (λ n lt. k.by n (omega arith))
