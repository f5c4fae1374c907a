-- What the instructions of devices come to, once it is known what is open.
use Rattle.std.proofs.Common.{◌≡◌, ℕ, ◌<◌, ◌≤◌, List, [], ◌∷◌, map, length, true, false, refl, ap, ◌∙◌, arith, length-append, ◌-◌}
use Rattle.std.specs.Prelude.{ℤ, ◌==◌, Option, nat_lt, replicate, if◌then◌else◌}
use Rattle.std.proofs.lemmas.Bool.{le-ltb, lt-ltb}
use Rattle.std.proofs.lemmas.List.{length-replicate}
use Rattle.mj_strfn.specs.Functions.{place}
use Rattle.mj_text.specs.declared.fault.Fault.TheVariants.{Limit}
use Rattle.mj_ask.specs.declared.ask.Ask.TheVariants as asks
use Rattle.mj_ask.specs.declared.ask.SharedAsk.TheVariants as shared_asks
use Rattle.mj_ask.specs.declared.ask.Reply.{Reply}
use Rattle.mj_ast.specs.declared.routine.FormatMark.{FormatMark}
use Rattle.mj_ast.specs.declared.routine.FormatMark.TheVariants.{NewLine, NewPage}
use Rattle.mj_semantics.specs.State.{State, devices_limit, is_open, column_after}
use Rattle.mj_semantics.specs.Outcome.{Handler, Timed, change, ask, fault}
use Rattle.mj_semantics.specs.Sharing.{in_time}
use Rattle.mj_semantics.specs.Devices.{obtained, request_device}
use Rattle.mj_semantics.specs.Commands.{mark_byte, tab_bytes}

-- OPEN, of what is open, where too much is open, and else.

module _ (name : List ℕ) (timeout : Option ℤ) (as_it_was got : Timed) (n : ℕ) (back : Handler) (s : State) (replies : List Reply) where
  -- the ask for it
  abbrev asks_for : Timed
  asks_for = ask (asks.Shared (shared_asks.Open name timeout)) (λ r. obtained name timeout r as_it_was got)

  -- what isn't open yet
  abbrev more : Timed
  more = if nat_lt devices_limit (length s.devices) then fault Limit else asks_for

  pub obtain_open : is_open name s ≡ true → request_device name timeout as_it_was got n back s replies ≡ change (in_time timeout true) as_it_was n back s replies
  obtain_open e = ap (λ b. (if b then change (in_time timeout true) as_it_was else more) n back s replies) e

  obtain_new : is_open name s ≡ false → request_device name timeout as_it_was got n back s replies ≡ more n back s replies
  obtain_new e = ap (λ b. (if b then change (in_time timeout true) as_it_was else more) n back s replies) e

  pub obtain_limit : is_open name s ≡ false → 16 < length s.devices → request_device name timeout as_it_was got n back s replies ≡ fault Limit n back s replies
  obtain_limit e over =
      obtain_new e
      ∙ ap (λ b. (if b then fault Limit else asks_for) n back s replies) (lt-ltb 16 (length s.devices) over)

  pub obtain_asks : is_open name s ≡ false → length s.devices ≤ 16
      → request_device name timeout as_it_was got n back s replies ≡ asks_for n back s replies
  obtain_asks e few =
      obtain_new e
      ∙ ap (λ b. (if b then fault Limit else asks_for) n back s replies) (le-ltb 16 (length s.devices) few)

-- a mark leads to a line's start
from_start : (marks : List FormatMark) → column_after 0 (map mark_byte marks) ≡ 0
from_start [] = refl
from_start (NewLine ∷ marks) = from_start marks
from_start (NewPage ∷ marks) = from_start marks

pub marks_lead : (column : ℕ) (marks : List FormatMark) → (length marks == 0) ≡ false → column_after column (map mark_byte marks) ≡ 0
marks_lead column [] some = cc
marks_lead column (NewLine ∷ marks) some = from_start marks
marks_lead column (NewPage ∷ marks) some = from_start marks

-- how many spaces a tab writes behind its marks
abbrev pub gap : List FormatMark → ℤ → ℕ → ℕ
gap marks n column = place n - column_after column (map mark_byte marks)

pub tab_long : (most : ℕ) (marks : List FormatMark) (n : ℤ) (column : ℕ) → most < gap marks n column → most < length (tab_bytes marks n column)
tab_long most marks n column over =
    let k : ℕ = gap marks n column in
    omega (arith, over, length-append (map mark_byte marks) (replicate k 32), length-replicate {A = ℕ} k 32)
