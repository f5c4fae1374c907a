-- The lines of some bytes, and a device in memory that gives them.
use Rattle.std.specs.Prelude.{ℕ, ◌+◌, ◌<◌, ◌≤◌, ◌==◌, ◌≡◌, Bool, List, [], length, take, drop}
use Rattle.std.specs.List.{position_or_len}
use Rattle.mj_text.specs.declared.text.TheConstants.{TEXT_LIMIT}
use Rattle.mj_dev.specs.declared.device.Input.{Input}
use Rattle.mj_dev.specs.declared.device.Input.TheVariants as input

-- some bytes whose lines weren't read yet, and the lines that were
pub record Supplied : Type 0 where
  pub ahead : List ℕ
  pub given : List (List ℕ)

-- a device in memory: the bytes of its lines that weren't read yet, how many calls failed, the bytes that it took and the lines that it gave
pub record Supply : Type 0 where
  pub ahead : List ℕ
  pub failures : ℕ
  pub taken : List ℕ
  pub given : List (List ℕ)

-- a byte that ends a line
abbrev pub is_line_end : ℕ → Bool
is_line_end byte = byte == 10

-- the first line of some bytes: those before the first that ends a line, or all where there is none
abbrev pub first_line : List ℕ → List ℕ
first_line bytes = take (position_or_len is_line_end bytes) bytes

-- the bytes behind the first line and its end
abbrev pub behind_line : List ℕ → List ℕ
behind_line bytes = drop (position_or_len is_line_end bytes + 1) bytes

-- a line is read of some bytes; one that is longer than a text is a failure
abbrev pub ReadsAhead : List ℕ → Input → List ℕ → Type 0
ReadsAhead bytes (input.Line line) left = (¬ (bytes ≡ [])) × (line ≡ first_line bytes) × (left ≡ behind_line bytes)
ReadsAhead bytes input.End left = (bytes ≡ []) × (left ≡ [])
ReadsAhead bytes input.NotYet left = ⊥
ReadsAhead bytes input.Failed left = (TEXT_LIMIT < length (first_line bytes)) × (left ≡ bytes)
ReadsAhead bytes input.Memory left = (¬ (bytes ≡ [])) × (length (first_line bytes) ≤ TEXT_LIMIT) × (left ≡ bytes)
