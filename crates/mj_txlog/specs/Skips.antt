-- What the reads of a transaction have passed over: runs of subscripts below names, of which nothing in the globals is to be seen.
use Rattle.std.specs.Prelude.{◌≡◌, ℕ, Bool, true, false, cond, List, [], ◌∷◌, Option, Some, None}
use Rattle.std.specs.List.{fold}
use Rattle.std.specs.Ordering.{is_lt}
use Rattle.mj_subs.specs.Name.{Name}
use Rattle.mj_subs.specs.Collation.{subscript_cmp}
use Rattle.mj_store.specs.Nodes.{along, last_of}
use Rattle.mj_store.specs.Questions.{Content, with_subscripts, same_word, value_at}
use Rattle.mj_store.specs.Changes.{followed_by}
use Rattle.mj_store.specs.declared.store.Direction.{Direction}
use Rattle.mj_store.specs.declared.store.Direction.TheVariants as way
use Rattle.mj_txlog.specs.declared.entry.Entry.{Entry}
use Rattle.mj_txlog.specs.declared.entry.Entry.TheVariants as entry
use Rattle.mj_txlog.specs.Accesses.{Accesses, front_of}
use Rattle.mj_txlog.specs.Laid.{Laid, IsLaid, went, gone_after}

-- the names that went, after an entry of the list
abbrev pub gone_more : Content → Entry → Content
gone_more gone (entry.Access a r) = gone_after a gone
gone_more gone (entry.Unlock u) = gone

-- the names that these accesses killed, each with an empty text
abbrev pub gone_by : Accesses → Content
gone_by accesses = fold gone_more [] accesses

-- Nothing that the globals have at a name with this subscript more, or below that, is left where these names went.
abbrev pub IsBare : Content → Content → Name → List ℕ → Type 0
IsBare globals gone front u =
    (below : List (List ℕ)) → went gone (followed_by front (u ∷ below)) ≡ false → value_at globals (followed_by front (u ∷ below)) ≡ None

-- nor with any subscript more
abbrev pub AreAllBare : Content → Content → Name → Type 0
AreAllBare globals gone front = (u : List ℕ) → IsBare globals gone front u

-- nor of any subscript from the one to the other
abbrev pub AreBare : Content → Content → Name → List ℕ → List ℕ → Type 0
AreBare globals gone front c d = (u : List ℕ) → is_lt (subscript_cmp u c) ≡ false → is_lt (subscript_cmp d u) ≡ false → IsBare globals gone front u

-- nor of any from the one to the other in a direction
abbrev pub AreBareAlong : Content → Content → Name → Direction → List ℕ → List ℕ → Type 0
AreBareAlong globals gone front way a b =
    (u : List ℕ) → is_lt (along way subscript_cmp u a) ≡ false → is_lt (along way subscript_cmp b u) ≡ false → IsBare globals gone front u

-- from the one subscript to the other, which isn't before it in that direction, nothing is left
pub record IsJump (globals : Content) (gone : Content) (front : Name) (way : Direction) (a : List ℕ) (b : List ℕ) : Type 0 where
  pub ahead : is_lt (along way subscript_cmp b a) ≡ false
  pub bare : AreBareAlong globals gone front way a b

-- a name without its last subscript, and that
abbrev pub front : Name → Name
front n = with_subscripts n (front_of n.subscripts)

abbrev pub last : List (List ℕ) → List ℕ
last [] = []
last (s ∷ p) = last_of s p

-- What was passed over, as runs: at the name with a run's first subscript stands its last one. Each of them is so.
abbrev pub AreSkips : Content → Content → Content → Type 0
AreSkips globals gone runs = (n : Name) (d : List ℕ) → value_at runs n ≡ Some d → AreBare globals gone (front n) (last n.subscripts) d

-- they are so for what went of own writes, whatever accesses made these
abbrev pub KeepSkips : Content → Laid → Content → Type 0
KeepSkips globals o runs = (accesses : Accesses) → IsLaid o accesses → AreSkips globals o.gone runs

-- A subscript lies in a run from the one to the other.
pub record LiesInRun (runs : Content) (f : Name) (u c d : List ℕ) : Type 0 where
  pub there : value_at runs (followed_by f (c ∷ [])) ≡ Some d
  pub from : is_lt (subscript_cmp u c) ≡ false
  pub to : is_lt (subscript_cmp d u) ≡ false

-- the far end of a run, in a direction
abbrev pub far_end : Direction → List ℕ → List ℕ → List ℕ
far_end way.Forward c d = d
far_end way.Backward c d = c

-- It is the far end of a run in which the subscript lies.
abbrev pub IsFar : Content → Name → List ℕ → Direction → List ℕ → Type 0
IsFar runs f u way far = (c d : List ℕ) × LiesInRun runs f u c d × (far ≡ far_end way c d)

-- what is kept has runs of old ones, and this one besides, wherever all are so
abbrev pub Joins : Content → Name → List ℕ → List ℕ → Content → Type 0
Joins old f c d new = (globals gone : Content) → AreSkips globals gone old → AreBare globals gone f c d → AreSkips globals gone new

-- the later one of two subscripts
abbrev pub later_of : List ℕ → List ℕ → List ℕ
later_of a b = cond (is_lt (subscript_cmp b a)) a b

-- a run that begins no later than a subscript stands at the name, with this last one
pub record IsNextRun (runs : Content) (f : Name) (to : List ℕ) (n : Name) (d : List ℕ) : Type 0 where
  pub first : List ℕ
  pub at : n ≡ followed_by f (first ∷ [])
  pub there : value_at runs n ≡ Some d
  pub from : is_lt (subscript_cmp to first) ≡ false

-- what is kept stays true, where nothing is left from the one subscript to the other in a direction
abbrev pub KeepsAlong : Content → Name → Direction → List ℕ → List ℕ → Content → Type 0
KeepsAlong old f way a b new = (globals gone : Content) → AreSkips globals gone old → AreBareAlong globals gone f way a b → AreSkips globals gone new

-- it does where nothing is left from the next subscript to the far one, nor from where the step began, if something was passed before
abbrev pub KeepsPassed : Content → Name → Direction → Bool → List ℕ → List ℕ → List ℕ → Content → Type 0
KeepsPassed old f way is_passed at next far new =
    (globals gone : Content) → AreSkips globals gone old → (is_passed ≡ true → AreBareAlong globals gone f way at far)
    → AreBareAlong globals gone f way next far → AreSkips globals gone new

-- all runs are below names of this name's word
abbrev pub AreWithin : Name → Content → Type 0
AreWithin n runs = (m : Name) (d : List ℕ) → value_at runs m ≡ Some d → same_word n m ≡ true

-- so they are where a name of that word is at hand, and there are none where it isn't
abbrev pub AreOf : Option Name → Content → Type 0
AreOf None runs = runs ≡ []
AreOf (Some n) runs = AreWithin n runs
