-- What is read as an entry can be written, and starts that words name give no values.
use Rattle.std.specs.Borrow.{Bor}
use Rattle.std.proofs.Common.{◌≡◌, ◌∙◌, true, ℕ, List, [], ◌∷◌, Option, Some, None, refl, sym, ap, map, ◌&&◌}
use Rattle.std.specs.List.{list_all}
use Rattle.mj_ask.specs.Started.{Started}
use Rattle.mj_ask.specs.Written.{is_entry, IsReading}
use Rattle.mj_ask.specs.declared.entry.Entry.{Entry}
use Rattle.mj_sys.specs.Opening.{are_bare}
use Rattle.mj_sys.proofs.Bare.{bare_all}
use Rattle.mj_replay.specs.Traces.{bare_start}
use Rattle.mj_recorded.specs.Traces.{entries_of}
use Rattle.mj_subs.specs.Name.{is_word}
use Rattle.mj_begin.specs.Names.{name_at}
use Rattle.mj_begin.specs.Words.{StartsAtFirst, WereStarts, WereBegun}

pub can_be_read : (bytes : List ℕ) (r : Option Entry) (e : Entry) → IsReading bytes r → r ≡ Some e → is_entry e ≡ true
can_be_read bytes r e is there = ((is.spells e).0 there).1

-- ---- where no words say where jobs start

word_so : (w : List ℕ) → is_word w ≡ true → list_all is_entry (record { label = None; routine = w } ∷ []) ≡ true
word_so w is = ap (λ b. b && true) is

entries_first : (files : List (Bor (List ℕ))) (starts : List Started) → StartsAtFirst files starts → list_all is_entry (entries_of starts) ≡ true
entries_first [] starts at = absurd at
entries_first (file ∷ files) starts at = ap (λ s. list_all is_entry (entries_of s)) at.1 ∙ word_so (name_at file.now) at.0

bare_first : (files : List (Bor (List ℕ))) (starts : List Started) → StartsAtFirst files starts → starts ≡ map bare_start (entries_of starts)
bare_first [] starts at = absurd at
bare_first (file ∷ files) starts at = at.1 ∙ sym (ap (λ s. map bare_start (entries_of s)) at.1)

-- what words say of starts, or what holds without words

pub entries_so : (words files : List (Bor (List ℕ))) (starts : List Started) → WereBegun words files starts → list_all is_entry (entries_of starts) ≡ true
entries_so [] files starts at = entries_first files starts at
entries_so (word ∷ words) files starts were = were.entries

pub bare_so : (words files : List (Bor (List ℕ))) (starts : List Started) → WereBegun words files starts → starts ≡ map bare_start (entries_of starts)
bare_so [] files starts at = bare_first files starts at
bare_so (word ∷ words) files starts were = were.bare

pub are_bare_so : (words files : List (Bor (List ℕ))) (starts : List Started) → WereBegun words files starts → are_bare starts ≡ true
are_bare_so words files starts were = ap are_bare (bare_so words files starts were) ∙ bare_all bare_start (entries_of starts) (λ e. refl)
