-- What stands in a store, with a stamp for each word: what is seen of it.
use Rattle.std.specs.Prelude.{◌≡◌, ◌≤◌, ◌<◌, ℕ, Bool, true, false, ◌&&◌, nat_eq, nat_lt, List, None, if◌then◌else◌}
use Rattle.std.specs.Option.{unwrap_or}
use Rattle.std.specs.Map.{lookup}
use Rattle.std.specs.BTreeMap.{is_at}
use Rattle.std.specs.Ordering.{nat_cmp}
use Rattle.std.specs.Cmp.Lexicographic.{slice_cmp}
use Rattle.std.specs.Str.{bytes_eq}
use Rattle.mj_subs.specs.Name.{Name}
use Rattle.mj_store.specs.Questions.{Content, value_at, same_word}

-- Words of globals with their stamps. A word's stamp rises when a global of that word changes, and never falls, also where the word's last name goes.
abbrev pub Stamps : Type 0
Stamps = List (List ℕ × ℕ)

-- the texts of a store by their names, and its stamps
pub record Stamped : Type 0 where
  pub content : Content
  pub stamps : Stamps

-- the greatest stamp (this profile). It rises no more, and counts as changed
abbrev pub stamp_limit : ℕ
stamp_limit = 18446744073709551615

-- the stamp of a word, 0 as long as it has none
abbrev pub stamp_of : Stamps → List ℕ → ℕ
stamp_of stamps word = unwrap_or (lookup (is_at (slice_cmp nat_cmp word)) stamps) 0

-- the stamp of a name's word. Changes of locals aren't stamped, so a local always counts as changed
abbrev pub stamp_at : Stamps → Name → ℕ
stamp_at stamps n = if n.global then stamp_of stamps n.word else stamp_limit

-- whether nothing has changed from the one stamp to the other
abbrev pub is_still : ℕ → ℕ → Bool
is_still old new = nat_eq old new && nat_lt new stamp_limit

-- the stamp of this word rises, if it has one, and no other does
pub record IsRaised (word : List ℕ) (old new : Stamps) : Type 0 where
  pub up : stamp_of old word ≤ stamp_of new word
  pub further : 0 < stamp_of old word → stamp_of old word < stamp_limit → stamp_of old word < stamp_of new word
  pub others : (w : List ℕ) → bytes_eq word w ≡ false → stamp_of new w ≡ stamp_of old w

-- the same, told of names: the stamp of this name's word rises, if it has one, and no other does
pub record IsRaisedAt (n : Name) (old new : Stamps) : Type 0 where
  pub up : (m : Name) → stamp_at old m ≤ stamp_at new m
  pub further : (m : Name) → same_word n m ≡ true → 0 < stamp_at old m → stamp_at old m < stamp_limit → stamp_at old m < stamp_at new m
  pub others : (m : Name) → same_word n m ≡ false → stamp_at new m ≡ stamp_at old m

-- the stamp of this name's word has risen
abbrev pub IsCounted : Name → Stamps → Stamps → Type 0
IsCounted n old new = (m : Name) → same_word n m ≡ true → stamp_at old m < stamp_limit → stamp_at old m < stamp_at new m

-- No stamp falls, and as long as the stamp of a word stands still, the texts of its names are the same.
pub record Rises (old new : Stamped) : Type 0 where
  pub up : (n : Name) → stamp_at old.stamps n ≤ stamp_at new.stamps n
  pub still : (n : Name) → is_still (stamp_at old.stamps n) (stamp_at new.stamps n) ≡ true → value_at new.content n ≡ value_at old.content n

-- the stamps stay of all names but these
abbrev pub KeepsStamps : (Name → Bool) → Stamps → Stamps → Type 0
KeepsStamps changed old new = (n : Name) → changed n ≡ false → stamp_at new n ≡ stamp_at old n

-- a name whose word was never changed has no text
abbrev pub AreStamped : Stamped → Type 0
AreStamped s = (n : Name) → stamp_at s.stamps n ≡ 0 → value_at s.content n ≡ None
