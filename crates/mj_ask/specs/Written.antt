-- Entries as they are written (this profile): `label^ROUTINE`, or `^ROUTINE` for the routine's first line.
use Rattle.std.specs.Prelude.{◌↔◌, ◌≡◌, ℕ, ◌==◌, ◌+◌, List, [], ◌∷◌, ◌++◌, Option, Some, None, Bool, true, false, ◌&&◌, ◌||◌, length, nat_le, take, drop, position, if◌then◌else◌}
use Rattle.std.specs.List.{list_all}
use Rattle.std.specs.Char.{is_ascii_digit}
use Rattle.mj_text.specs.declared.text.TheConstants.{TEXT_LIMIT}
use Rattle.mj_subs.specs.Name.{is_word}
use Rattle.mj_ask.specs.declared.entry.Entry.{Entry}

-- a label: a word, or digits, no more than a text holds (6.2.1)
abbrev pub is_label : List ℕ → Bool
is_label [] = false
is_label (b ∷ bytes) = is_word (b ∷ bytes) || (list_all is_ascii_digit (b ∷ bytes) && nat_le (length (b ∷ bytes)) TEXT_LIMIT)

-- an entry that can be written
abbrev pub is_entry : Entry → Bool
is_entry entry = elim entry.label [ None ↦ true | Some l ↦ is_label l ] && is_word entry.routine

-- how an entry is written
abbrev pub entry_text : Entry → List ℕ
entry_text entry = elim entry.label [ None ↦ [] | Some l ↦ l ] ++ 94 ∷ entry.routine

abbrev pub is_caret : ℕ → Bool
is_caret b = b == 94

-- what stands before the caret and after it
abbrev pub entry_from : List ℕ → List ℕ → Option Entry
entry_from [] routine = if is_word routine then Some (record { label = None; routine = routine }) else None
entry_from (b ∷ label) routine =
    if is_label (b ∷ label) && is_word routine then Some (record { label = Some (b ∷ label); routine = routine }) else None

-- the entry that is written so, if one is
abbrev pub entry_of : List ℕ → Option Entry
entry_of bytes = elim (position is_caret bytes) [ None ↦ None | Some i ↦ entry_from (take i bytes) (drop (i + 1) bytes) ]

-- r is the entry that the bytes spell: it is some entry exactly where the bytes are how that entry is written, and it can be written
pub record IsReading (bytes : List ℕ) (r : Option Entry) : Type 0 where
  pub spells : (e : Entry) → (r ≡ Some e) ↔ ((bytes ≡ entry_text e) × (is_entry e ≡ true))
