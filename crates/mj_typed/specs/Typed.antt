-- A device over what is typed, and what each call to it does.
use Rattle.std.specs.Prelude.{◌≡◌, ℕ, ◌<◌, Bool, true, List, [], ◌∷◌, ◌++◌, length, Option, Some, IfSome, ◌⊎◌, if◌then◌else◌}
use Rattle.std.specs.Io.KnownBytes.{prepend_known, IsAtEnd}
use Rattle.std.specs.List.{position_or_len}
use Rattle.mj_text.specs.declared.text.TheConstants.{TEXT_LIMIT}
use Rattle.mj_dev.specs.declared.device.Input.{Input}
use Rattle.mj_dev.specs.declared.device.Input.TheVariants as input
use Rattle.mj_dev.specs.Supply.{is_line_end, first_line, behind_line}

-- A device: the bytes of its lines that weren't given yet, those that its reader has left among them, where they are known; how many calls failed, the bytes
-- that it took and the lines that it gave.
pub record Typing : Type 0 where
  pub ahead : Option (List ℕ)
  pub failures : ℕ
  pub taken : List ℕ
  pub given : List (List ℕ)

-- bytes of one line, without its end
abbrev pub IsOfOneLine : List ℕ → Type 0
IsOfOneLine bytes = position_or_len is_line_end bytes ≡ length bytes

-- the bytes of a line that was begun: with its end, once that was read
abbrev pub begun_bytes : List ℕ → Bool → List ℕ
begun_bytes bytes whole = bytes ++ (if whole then 10 ∷ [] else [])

-- the bytes that a reader has left, behind those of a line that was begun, where they are known
abbrev pub ahead_of : List ℕ → Bool → Option (List ℕ) → Option (List ℕ)
ahead_of bytes whole left = prepend_known (begun_bytes bytes whole) left

-- where bytes are known they are known still, and are the same
abbrev pub AreKept : Option (List ℕ) → Option (List ℕ) → Type 0
AreKept old new = IfSome old (λ bytes. new ≡ Some bytes)

-- a line was begun, and goes on no further: its end was read, or it is longer than a text, or the reader has nothing left, as far as that is known
abbrev pub IsReadUp : List ℕ → Bool → Option (List ℕ) → Type 0
IsReadUp bytes whole left = (whole ≡ true) ⊎ (TEXT_LIMIT < length bytes) ⊎ IsAtEnd left

-- A line is read of bytes that are known. It is the first, without its end, and only the bytes behind it are left; there is none where there are no bytes; and
-- where the device fails, or memory is refused, all are left.
abbrev pub ReadsKnown : List ℕ → Input → Option (List ℕ) → Type 0
ReadsKnown bytes (input.Line line) left = (¬ (bytes ≡ [])) × (line ≡ first_line bytes) × (left ≡ Some (behind_line bytes))
ReadsKnown bytes input.End left = (bytes ≡ []) × (left ≡ Some [])
ReadsKnown bytes input.NotYet left = ⊥
ReadsKnown bytes input.Failed left = left ≡ Some bytes
ReadsKnown bytes input.Memory left = left ≡ Some bytes

-- and of any: of what isn't known nothing is said
abbrev pub ReadsTyped : Option (List ℕ) → Input → Option (List ℕ) → Type 0
ReadsTyped ahead read left = IfSome ahead (λ bytes. ReadsKnown bytes read left)
