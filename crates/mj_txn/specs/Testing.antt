-- What a commit comes to, as it is found: the reads are asked again one after the other, and the first that is answered otherwise is named.
use Rattle.std.specs.Prelude.{ℕ, ◌+◌, ◌==◌, Bool, true, false, ◌&&◌, ◌||◌, List, [], ◌∷◌, ◌++◌, length, Option, Some, None, if◌then◌else◌}
use Rattle.std.specs.Option.{option_or}
use Rattle.std.specs.Str.{bytes_eq}
use Rattle.std.specs.Cmp.Lexicographic.{pointwise}
use Rattle.mj_subs.specs.Name.{names_eq}
use Rattle.mj_store.specs.Questions.{Content, Subtree}
use Rattle.mj_store.specs.Runs.{answer_of}
use Rattle.mj_store.specs.declared.access.Answer.{Answer}
use Rattle.mj_store.specs.declared.access.Answer.TheVariants as answer
use Rattle.mj_txlog.specs.declared.entry.Entry.{Entry}
use Rattle.mj_txlog.specs.declared.entry.Entry.TheVariants as entry
use Rattle.mj_txlog.specs.Accesses.{Accesses, is_write, seen, Transaction}
use Rattle.mj_txn.specs.declared.changed.Changed.{Changed}
use Rattle.mj_txn.specs.declared.committing.Outcome.{Outcome}
use Rattle.mj_txn.specs.declared.committing.Outcome.TheVariants as outcome

-- both are there and pass the test, or neither is
abbrev pub both_or_none : {A : Type 0} → (A → A → Bool) → Option A → Option A → Bool
both_or_none test None None = true
both_or_none test (Some a) (Some b) = test a b
both_or_none test _ _ = false

-- the same subscripts with the same text
abbrev pub is_same_node : List (List ℕ) × List ℕ → List (List ℕ) × List ℕ → Bool
is_same_node a b = pointwise bytes_eq a.0 b.0 && bytes_eq a.1 b.1

-- the same nodes, in the same order
abbrev pub are_same_nodes : Subtree → Subtree → Bool
are_same_nodes = pointwise is_same_node

-- the same answer
abbrev pub is_same_answer : Answer → Answer → Bool
is_same_answer (answer.Value a) (answer.Value b) = both_or_none bytes_eq a b
is_same_answer (answer.Data a) (answer.Data b) = a == b
is_same_answer (answer.Order a) (answer.Order b) = both_or_none bytes_eq a b
is_same_answer (answer.Query a) (answer.Query b) = both_or_none names_eq a b
is_same_answer (answer.Subtree a) (answer.Subtree b) = are_same_nodes a b
is_same_answer answer.Done answer.Done = true
is_same_answer answer.Limit answer.Limit = true
is_same_answer _ _ = false

-- An access after these, where it is a read that is answered otherwise by now, on the globals with the own writes before it: its place, from
-- 1 on, what it was answered, and what it would be answered now
abbrev pub changed_at : Content → Accesses → Entry → Option Changed
changed_at globals earlier (entry.Unlock u) = None
changed_at globals earlier (entry.Access a r) =
    if is_write a || is_same_answer (answer_of a (seen globals earlier)) r then None
    else Some (record { place = length earlier + 1; then = r; now = answer_of a (seen globals earlier) })

-- the first such read of some accesses that come after others
abbrev pub first_changed : Content → Accesses → Accesses → Option Changed
first_changed globals earlier [] = None
first_changed globals earlier (e ∷ rest) = option_or (changed_at globals earlier e) (first_changed globals (earlier ++ e ∷ []) rest)

-- what such a read makes of a commit
abbrev pub outcome_by : Option Changed → Outcome
outcome_by None = outcome.Done
outcome_by (Some c) = outcome.Clash c

-- What comes of a commit (ISO/IEC 11756:1999, 8.2.19: TCOMMIT). It clashes where the transaction is SERIAL and one of its reads is answered
-- otherwise by now (this profile)
abbrev pub outcome_of : Transaction → Content → Outcome
outcome_of t globals = if t.serial then outcome_by (first_changed globals [] t.accesses) else outcome.Done
