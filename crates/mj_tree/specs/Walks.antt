-- The nodes of a word, by the names that they have in a store.
use Rattle.std.specs.Prelude.{◌≡◌, ℕ, Bool, List, ◌++◌, map}
use Rattle.mj_subs.specs.Name.{Name}
use Rattle.mj_store.specs.Questions.{Content, Subtree}
use Rattle.mj_tree.specs.declared.sink.SinkStop.{SinkStop}
use Rattle.mj_tree.specs.declared.sink.SinkStop.TheVariants as stops

-- the name of a kind with a word and subscripts
abbrev pub name : Bool → List ℕ → List (List ℕ) → Name
name g w p = record { global = g; word = w; subscripts = p }

-- the nodes of a word of this kind, by their names
abbrev pub named : Bool → List ℕ → Subtree → Content
named g w nodes = map (λ e. (name g w e.0, e.1)) nodes

-- Of these names a sink was to take, it took some and closed at the last of them: what it is then it was brought to by them. None of the rest came to it.
pub record ClosesAmong {A : Type 0} (closes : A → Content → A → Type 0) (first : A) (all : Content) (last : A) : Type 0 where
  pub walked : Content
  pub left : Content
  pub are_all : all ≡ walked ++ left
  pub closed : closes first walked last

-- A walk over these names may stop so: it is told that the sink closed only where that did
abbrev pub StopsSo : {A : Type 0} → (A → Content → A → Type 0) → A → Content → A → SinkStop → Type 0
StopsSo closes first all last stop = stop ≡ stops.Closed → ClosesAmong closes first all last
