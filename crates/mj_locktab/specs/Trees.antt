-- Trees of names: what stands at a list of subscripts of a word, and how a name more or less changes it.
use Rattle.std.specs.Prelude.{◌≡◌, ℕ, ◌+◌, ◌-◌, ◌≤◌, ◌==◌, nat_lt, Bool, true, false, ◌&&◌, ◌||◌, List, [], ◌∷◌, ◌++◌, map, length, Option, Some, None, unwrap_or, min, if◌then◌else◌, Vec}
use Rattle.std.specs.Global.{Global}
use Rattle.std.specs.declared.cmp.Ordering.{Ordering}
use Rattle.std.specs.Ordering.{nat_cmp}
use Rattle.std.specs.Map.{lookup}
use Rattle.std.specs.BTreeMap.{is_at}
use Rattle.std.specs.Str.{bytes_eq}
use Rattle.std.specs.Cmp.Lexicographic.{pointwise, slice_cmp}
use Rattle.mj_subs.specs.Name.{Name, kinds_eq}
use Rattle.mj_subs.specs.Collation.{subscript_cmp}
use Rattle.mj_locktab.specs.declared.tally.Tallies.{Tallies as Kept}
use Rattle.mj_locktab.specs.declared.tally.Tallies.TheVariants.{Empty, One, More}

-- How many of its names each job has at a node or below it. A job that isn't told has none
abbrev pub Tallies : Type 0
Tallies = List (ℕ × ℕ)

-- those that are kept: of no job, of one, or of any number of jobs in a map
abbrev pub tallies_of : Kept → Tallies
tallies_of Empty = []
tallies_of (One own count) = (own, count) ∷ []
tallies_of (More map) = map.entries

-- what stands at a node: the job that holds its name, if one does, and the tallies
abbrev pub Stand : Type 0
Stand = Option ℕ × Tallies

-- a node's own stand and those of the nodes below it, each by the subscripts that lead there
abbrev pub Stands : Type 0
Stands = List (List (List ℕ) × Stand)

-- the stands of a child, each with the child's subscript before its own
abbrev pub under : List ℕ → Stands → Stands
under s stands = map (λ e. (s ∷ e.0, e.1)) stands

-- those of all children, one after the other
abbrev pub below : List (List ℕ × Stands) → Stands
below [] = []
below (k ∷ ks) = under k.0 k.1 ++ below ks

-- a number that is greater for a node than for each of its children
abbrev pub weight : Stands → ℕ
weight [] = 0
weight (e ∷ es) = length e.0 + 1 + weight es

-- whether two lists of subscripts are one
abbrev pub paths_eq : List (List ℕ) → List (List ℕ) → Bool
paths_eq = pointwise bytes_eq

-- what stands at a list of subscripts
abbrev pub stand_at : Stands → List (List ℕ) → Option Stand
stand_at [] p = None
stand_at (e ∷ es) p = if paths_eq p e.0 then Some e.1 else stand_at es p

-- a job's tally
abbrev pub tally : Tallies → ℕ → ℕ
tally tallies job = unwrap_or (lookup (is_at (nat_cmp job)) tallies) 0

-- the job that holds the name there, and a job's tally there
abbrev pub holder_of : Option Stand → Option ℕ
holder_of None = None
holder_of (Some s) = s.0

abbrev pub tally_of : Option Stand → ℕ → ℕ
tally_of None job = 0
tally_of (Some s) job = tally s.1 job

-- what stands at a child, of which there is none where there is no child
abbrev pub stand_in : Option Stands → List (List ℕ) → Option Stand
stand_in None p = None
stand_in (Some stands) p = stand_at stands p

-- trees by their keys: the children of a node by their subscripts, or the trees of a kind by their words
abbrev pub Kids : Type 0
Kids = List (List ℕ × Stands)

-- what stands at a place of the tree of a key
abbrev pub kid_at : (List ℕ → List ℕ → Ordering) → Kids → List ℕ → List (List ℕ) → Option Stand
kid_at R ks s p = stand_in (lookup (is_at (R s)) ks) p

-- of these trees that of a key is written over, put there or taken away, and nothing else changes
abbrev pub IsWritten : (List ℕ → List ℕ → Ordering) → Kids → Kids → List ℕ → Option Stands → Type 0
IsWritten R old new s child = (q : List ℕ) → lookup (is_at (R q)) new ≡ (if is_at (R s) q then child else lookup (is_at (R q)) old)

-- whether a list of subscripts is a front of another, or all of it
abbrev pub is_front : List (List ℕ) → List (List ℕ) → Bool
is_front [] ts = true
is_front (s ∷ ss) [] = false
is_front (s ∷ ss) (t ∷ ts) = bytes_eq s t && is_front ss ts

-- whether a name is above another, or is that name
abbrev pub is_at_or_above : Name → Name → Bool
is_at_or_above m n = kinds_eq m.global n.global && bytes_eq m.word n.word && is_front m.subscripts n.subscripts

-- What stands at each place is told alike.
pub record AreAlike {P : Type 0} (old new : P → Option Stand) : Type 0 where
  pub holders : (p : P) → holder_of (new p) ≡ holder_of (old p)
  pub tallies : (p : P) (j : ℕ) → tally_of (new p) j ≡ tally_of (old p) j

-- no name is held at a node or below it
abbrev pub IsBare : Stands → Type 0
IsBare stands = AreAlike (λ p. None) (stand_at stands)

-- no node of these trees is bare
abbrev pub NoneBare : (List ℕ → List ℕ → Ordering) → Kids → Type 0
NoneBare R ks = (s : List ℕ) (child : Stands) → lookup (is_at (R s)) ks ≡ Some child → IsBare child → ⊥

-- no job is told with no name
abbrev pub AreCounted : Tallies → Type 0
AreCounted tallies = (job : ℕ) → lookup (is_at (nat_cmp job)) tallies ≡ Some 0 → ⊥

-- The job holds one name more: the one at this place, which each of these places is above.
pub record HasOneMore {P : Type 0} (old new : P → Option Stand) (is_place is_within : P → Bool) (job : ℕ) : Type 0 where
  pub holders : (p : P) → holder_of (new p) ≡ (if is_place p then Some job else holder_of (old p))
  pub tallies : (p : P) (j : ℕ) → tally_of (new p) j ≡ tally_of (old p) j + (if is_within p && j == job then 1 else 0)

-- It holds the name no more.
pub record HasOneLess {P : Type 0} (old new : P → Option Stand) (is_place is_within : P → Bool) (job : ℕ) : Type 0 where
  pub holders : (p : P) → holder_of (new p) ≡ (if is_place p then None else holder_of (old p))
  pub tallies : (p : P) (j : ℕ) → tally_of (new p) j ≡ tally_of (old p) j - (if is_within p && j == job then 1 else 0)

-- a child is put at a subscript, below which the job holds the one name at a list of subscripts
pub record IsGrown (old new : Kids) (s : List ℕ) (rest : List (List ℕ)) (job : ℕ) : Type 0 where
  pub child : Stands
  pub written : IsWritten subscript_cmp old new s (Some child)
  pub holds : HasOneMore (λ p. None) (stand_at child) (λ p. paths_eq p rest) (λ p. is_front p rest) job

-- ---- which jobs are in the way

-- whether it is this job
abbrev pub is_job : Option ℕ → ℕ → Bool
is_job None job = false
is_job (Some j) job = j == job

-- whether a job has a name in the way of a list of subscripts: at a proper front of it, or there or below
abbrev pub is_in_way : (List (List ℕ) → Option Stand) → List (List ℕ) → ℕ → Bool
is_in_way stands [] job = nat_lt 0 (tally_of (stands []) job)
is_in_way stands (s ∷ p) job = is_job (holder_of (stands [])) job || is_in_way (λ q. stands (s ∷ q)) p job

-- the lesser of two jobs, if there is one
abbrev pub lesser : Option ℕ → Option ℕ → Option ℕ
lesser None other = other
lesser (Some one) None = Some one
lesser (Some one) (Some other) = Some (min one other)

-- no other job passes
abbrev pub NoOther : (ℕ → Bool) → ℕ → Type 0
NoOther passes job = (j : ℕ) → (j ≡ job → ⊥) → passes j ≡ false

-- this is the least other job that passes
pub record IsLeastOther (passes : ℕ → Bool) (job least : ℕ) : Type 0 where
  pub other : least ≡ job → ⊥
  pub passing : passes least ≡ true
  pub first : (j : ℕ) → (j ≡ job → ⊥) → passes j ≡ true → least ≤ j

-- ---- the trees of all words

-- the order of words, by their bytes
abbrev pub word_cmp : List ℕ → List ℕ → Ordering
word_cmp = slice_cmp nat_cmp

-- the words, each as its bytes
abbrev pub spelled : List (Vec ℕ Global × Stands) → Kids
spelled es = map (λ k. (k.0.items, k.1)) es

-- what stands at the places of each word, and which place of a word's tree is that of a name, or is above it
abbrev pub at_words : Kids → List ℕ × List (List ℕ) → Option Stand
at_words words q = kid_at word_cmp words q.0 q.1

abbrev pub is_place_of : Name → List ℕ × List (List ℕ) → Bool
is_place_of n q = bytes_eq q.0 n.word && paths_eq q.1 n.subscripts

abbrev pub is_place_above : Name → List ℕ × List (List ℕ) → Bool
is_place_above n q = bytes_eq q.0 n.word && is_front q.1 n.subscripts

-- the words of globals and those of locals
pub record Kinds : Type 0 where
  pub globals : Kids
  pub locals : Kids

-- what stands at a name, of the words of globals and those of locals
abbrev pub at_name : Kids → Kids → Name → Option Stand
at_name globals locals n = kid_at word_cmp (if n.global then globals else locals) n.word n.subscripts

-- what stands at the places of a name's word
abbrev pub along : (Name → Option Stand) → Name → List (List ℕ) → Option Stand
along stands n p = stands (record { global = n.global; word = n.word; subscripts = p })
