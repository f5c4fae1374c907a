-- What the parts of the calls answer.
use Rattle.std.specs.Prelude.{◌≡◌, ℕ, ◌+◌, ◌-◌, List, Option, Result, Ok, Err, take, drop}
use Rattle.std.specs.Option.{option_to_list}
use Rattle.mj_text.specs.declared.fault.Fault.{Fault}
use Rattle.mj_text.specs.declared.fault.Failure.{Failure}
use Rattle.mj_text.specs.declared.fault.Failure.TheVariants.{Fault as FaultFailure, Memory}
use Rattle.mj_strfn.specs.Pieces.{pieces, joined}

-- a byte or none, or the fault; no memory is wanted
abbrev pub AnswersByte : Result (List ℕ) Fault → Result (Option ℕ) Failure → Type 0
AnswersByte value (Ok byte) = value ≡ Ok (option_to_list byte)
AnswersByte value (Err (FaultFailure fault)) = value ≡ Err fault
AnswersByte value (Err Memory) = ⊥

-- the pieces from `first` to `last`, with the separator between them
abbrev pub pieces_between : List ℕ → List ℕ → ℕ → ℕ → List ℕ
pieces_between d s first last = joined d (take (last + 1 - first) (drop (first - 1) (pieces d s)))
