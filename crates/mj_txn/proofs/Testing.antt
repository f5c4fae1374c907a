-- The test of a commit finds what it says.
use Rattle.std.proofs.Common.{◌≡◌, ℕ, ◌+◌, Bool, true, false, cond, ◌&&◌, ◌||◌, List, [], ◌∷◌, ◌++◌, length, Option, Some, None, Result, Ok, Err, refl, sym, ap, ◌∙◌, subst, append_assoc}
use Rattle.std.specs.Prelude.{if◌then◌else◌}
use Rattle.std.specs.Bool.{Decides}
use Rattle.std.specs.Result.{IfOk}
use Rattle.std.specs.Option.{option_or}
use Rattle.std.specs.Str.{bytes_eq}
use Rattle.std.specs.Cmp.Lexicographic.{pointwise}
use Rattle.std.proofs.lemmas.Option.{same_Some}
use Rattle.std.proofs.lemmas.Bool.Decides.{Decides-eqb}
use Rattle.std.proofs.lemmas.Slice.Eq.{bytes_eq-Decides, slice_eq-Decides}
use Rattle.mj_subs.specs.Name.{names_eq}
use Rattle.mj_subs.specs.Laws.Tests.{names_eq-Decides}
use Rattle.mj_store.specs.Questions.{Content, Subtree}
use Rattle.mj_store.specs.Runs.{answer_of}
use Rattle.mj_store.specs.declared.access.Answer.{Answer}
use Rattle.mj_store.specs.declared.access.Answer.TheVariants as answer
use Rattle.mj_txlog.specs.declared.entry.Entry.{Entry}
use Rattle.mj_txlog.specs.declared.entry.Entry.TheVariants as entry
use Rattle.mj_txlog.specs.Accesses.{Accesses, is_write, seen, Transaction}
use Rattle.mj_txn.specs.declared.changed.Changed.{Changed}
use Rattle.mj_txn.specs.declared.committing.Outcome.{Outcome}
use Rattle.mj_txn.specs.declared.committing.Outcome.TheVariants as outcome
use Rattle.mj_txn.specs.Commits.{HoldsNow, Hold, DiffersNow, Differs, CommitsAs}
use Rattle.mj_txn.specs.Testing.{both_or_none, is_same_node, are_same_nodes, is_same_answer, changed_at, first_changed, outcome_by, outcome_of}
use Rattle.mj_txn.proofs.Replies.{append_nil}

-- ---- the tests of the same

first_true : (a b : Bool) → (a && b) ≡ true → a ≡ true
first_true true b e = refl
first_true false b e = absurd cc

rest_true : (a b : Bool) → (a && b) ≡ true → b ≡ true
rest_true true b e = e
rest_true false b e = absurd cc

option_decides : {A : Type 0} (test : A → A → Bool) → ((a b : A) → Decides (test a b) (a ≡ b)) → (o p : Option A) → Decides (both_or_none test o p) (o ≡ p)
option_decides test d None None = (λ e. refl, λ e. refl)
option_decides test d None (Some b) = (λ e. absurd cc, λ e. absurd cc)
option_decides test d (Some a) None = (λ e. absurd cc, λ e. absurd cc)
option_decides test d (Some a) (Some b) = (λ e. ap Some ((d a b).0 e), λ e. (d a b).1 (same_Some a b e))

lists_decide : (ss ts : List (List ℕ)) → Decides (pointwise bytes_eq ss ts) (ss ≡ ts)
lists_decide ss ts = slice_eq-Decides bytes_eq-Decides ss ts (pointwise bytes_eq ss ts) refl

node_decides : (a b : List (List ℕ) × List ℕ) → Decides (is_same_node a b) (a ≡ b)
node_decides a b =
    let d = lists_decide a.0 b.0 in
    let t = bytes_eq-Decides a.1 b.1 in (
      λ e. let p = d.0 (first_true (pointwise bytes_eq a.0 b.0) (bytes_eq a.1 b.1) e) in let q = t.0 (rest_true (pointwise bytes_eq a.0 b.0) (bytes_eq a.1 b.1) e) in λ i. (p i, q i),
      λ e. let p = d.1 (ap (λ (x : List (List ℕ) × List ℕ). x.0) e) in let q = t.1 (ap (λ (x : List (List ℕ) × List ℕ). x.1) e) in λ i. p i && q i,
    )

nodes_decide : (m n : Subtree) → Decides (are_same_nodes m n) (m ≡ n)
nodes_decide m n = slice_eq-Decides node_decides m n (are_same_nodes m n) refl

pub answer_decides : (x y : Answer) → Decides (is_same_answer x y) (x ≡ y)
answer_decides (answer.Value a) (answer.Value b) = let d = option_decides bytes_eq bytes_eq-Decides a b in (λ e. ap answer.Value (d.0 e), λ e. d.1 (let same : a ≡ b = cc in same))
answer_decides (answer.Value a) (answer.Data b) = (λ e. absurd cc, λ e. absurd cc)
answer_decides (answer.Value a) (answer.Order b) = (λ e. absurd cc, λ e. absurd cc)
answer_decides (answer.Value a) (answer.Query b) = (λ e. absurd cc, λ e. absurd cc)
answer_decides (answer.Value a) (answer.Subtree b) = (λ e. absurd cc, λ e. absurd cc)
answer_decides (answer.Value a) answer.Done = (λ e. absurd cc, λ e. absurd cc)
answer_decides (answer.Value a) answer.Limit = (λ e. absurd cc, λ e. absurd cc)
answer_decides (answer.Data a) (answer.Value b) = (λ e. absurd cc, λ e. absurd cc)
answer_decides (answer.Data a) (answer.Data b) = let d = Decides-eqb a b in (λ e. ap answer.Data (d.0 e), λ e. d.1 (let same : a ≡ b = cc in same))
answer_decides (answer.Data a) (answer.Order b) = (λ e. absurd cc, λ e. absurd cc)
answer_decides (answer.Data a) (answer.Query b) = (λ e. absurd cc, λ e. absurd cc)
answer_decides (answer.Data a) (answer.Subtree b) = (λ e. absurd cc, λ e. absurd cc)
answer_decides (answer.Data a) answer.Done = (λ e. absurd cc, λ e. absurd cc)
answer_decides (answer.Data a) answer.Limit = (λ e. absurd cc, λ e. absurd cc)
answer_decides (answer.Order a) (answer.Value b) = (λ e. absurd cc, λ e. absurd cc)
answer_decides (answer.Order a) (answer.Data b) = (λ e. absurd cc, λ e. absurd cc)
answer_decides (answer.Order a) (answer.Order b) = let d = option_decides bytes_eq bytes_eq-Decides a b in (λ e. ap answer.Order (d.0 e), λ e. d.1 (let same : a ≡ b = cc in same))
answer_decides (answer.Order a) (answer.Query b) = (λ e. absurd cc, λ e. absurd cc)
answer_decides (answer.Order a) (answer.Subtree b) = (λ e. absurd cc, λ e. absurd cc)
answer_decides (answer.Order a) answer.Done = (λ e. absurd cc, λ e. absurd cc)
answer_decides (answer.Order a) answer.Limit = (λ e. absurd cc, λ e. absurd cc)
answer_decides (answer.Query a) (answer.Value b) = (λ e. absurd cc, λ e. absurd cc)
answer_decides (answer.Query a) (answer.Data b) = (λ e. absurd cc, λ e. absurd cc)
answer_decides (answer.Query a) (answer.Order b) = (λ e. absurd cc, λ e. absurd cc)
answer_decides (answer.Query a) (answer.Query b) = let d = option_decides names_eq names_eq-Decides a b in (λ e. ap answer.Query (d.0 e), λ e. d.1 (let same : a ≡ b = cc in same))
answer_decides (answer.Query a) (answer.Subtree b) = (λ e. absurd cc, λ e. absurd cc)
answer_decides (answer.Query a) answer.Done = (λ e. absurd cc, λ e. absurd cc)
answer_decides (answer.Query a) answer.Limit = (λ e. absurd cc, λ e. absurd cc)
answer_decides (answer.Subtree a) (answer.Value b) = (λ e. absurd cc, λ e. absurd cc)
answer_decides (answer.Subtree a) (answer.Data b) = (λ e. absurd cc, λ e. absurd cc)
answer_decides (answer.Subtree a) (answer.Order b) = (λ e. absurd cc, λ e. absurd cc)
answer_decides (answer.Subtree a) (answer.Query b) = (λ e. absurd cc, λ e. absurd cc)
answer_decides (answer.Subtree a) (answer.Subtree b) = let d = nodes_decide a b in (λ e. ap answer.Subtree (d.0 e), λ e. d.1 (let same : a ≡ b = cc in same))
answer_decides (answer.Subtree a) answer.Done = (λ e. absurd cc, λ e. absurd cc)
answer_decides (answer.Subtree a) answer.Limit = (λ e. absurd cc, λ e. absurd cc)
answer_decides answer.Done (answer.Value b) = (λ e. absurd cc, λ e. absurd cc)
answer_decides answer.Done (answer.Data b) = (λ e. absurd cc, λ e. absurd cc)
answer_decides answer.Done (answer.Order b) = (λ e. absurd cc, λ e. absurd cc)
answer_decides answer.Done (answer.Query b) = (λ e. absurd cc, λ e. absurd cc)
answer_decides answer.Done (answer.Subtree b) = (λ e. absurd cc, λ e. absurd cc)
answer_decides answer.Done answer.Done = (λ e. refl, λ e. refl)
answer_decides answer.Done answer.Limit = (λ e. absurd cc, λ e. absurd cc)
answer_decides answer.Limit (answer.Value b) = (λ e. absurd cc, λ e. absurd cc)
answer_decides answer.Limit (answer.Data b) = (λ e. absurd cc, λ e. absurd cc)
answer_decides answer.Limit (answer.Order b) = (λ e. absurd cc, λ e. absurd cc)
answer_decides answer.Limit (answer.Query b) = (λ e. absurd cc, λ e. absurd cc)
answer_decides answer.Limit (answer.Subtree b) = (λ e. absurd cc, λ e. absurd cc)
answer_decides answer.Limit answer.Done = (λ e. absurd cc, λ e. absurd cc)
answer_decides answer.Limit answer.Limit = (λ e. refl, λ e. refl)

-- ---- one access

not_true : (b : Bool) → (b ≡ true → ⊥) → b ≡ false
not_true true h = absurd (h refl)
not_true false h = refl

holds_none : (g : Content) (earlier : Accesses) (e : Entry) → HoldsNow g earlier e → changed_at g earlier e ≡ None
holds_none g earlier (entry.Unlock u) h = refl
holds_none g earlier (entry.Access a r) h = by (is_write a) refl
  where
    by : (b : Bool) → is_write a ≡ b → changed_at g earlier (entry.Access a r) ≡ None
    by true w =
        let now = answer_of a (seen g earlier) in
        let of : Bool → Option Changed = λ b. cond b None (Some (record { place = length earlier + 1; then = r; now = now })) in
        ap (λ b. of (b || is_same_answer now r)) w
    by false w =
        let now = answer_of a (seen g earlier) in
        let of : Bool → Option Changed = λ b. cond b None (Some (record { place = length earlier + 1; then = r; now = now })) in
        ap (λ b. of (b || is_same_answer now r)) w ∙ ap of ((answer_decides now r).1 (h w))

differs_some : (g : Content) (earlier : Accesses) (e : Entry) (c : Changed) → DiffersNow g earlier e c.place c.then c.now → changed_at g earlier e ≡ Some c
differs_some g earlier (entry.Unlock u) c d = absurd d
differs_some g earlier (entry.Access a r) c d =
    let o = d.1 in
    let now = answer_of a (seen g earlier) in
    let other : is_same_answer now r ≡ false = not_true (is_same_answer now r) (λ h. o.differ (o.now ∙ (answer_decides now r).0 h ∙ sym o.then)) in
    let of : Bool → Option Changed = λ b. cond b None (Some (record { place = length earlier + 1; then = r; now = now })) in
    ap (λ b. of (b || is_same_answer now r)) d.0 ∙ ap of other ∙ (λ i. Some (record { place = sym o.place i; then = sym o.then i; now = sym o.now i }))

-- ---- all of them

first_none : (g : Content) (front xs : Accesses) → Hold g front xs → first_changed g front xs ≡ None
first_none g front [] h = refl
first_none g front (e ∷ xs) h =
    ap (λ o. option_or o (first_changed g (front ++ e ∷ []) xs)) (holds_none g front e h.0) ∙ first_none g (front ++ e ∷ []) xs h.1

first_some : (g : Content) (front xs : Accesses) (e : Entry) (later : Accesses) (c : Changed) → Hold g front xs
    → DiffersNow g (front ++ xs) e c.place c.then c.now → first_changed g front (xs ++ e ∷ later) ≡ Some c
first_some g front [] e later c h d =
    ap (λ o. option_or o (first_changed g (front ++ e ∷ []) later))
    (differs_some g front e c (subst (λ (f : Accesses). DiffersNow g f e c.place c.then c.now) (append_nil front) d))
first_some g front (x ∷ xs) e later c h d =
    ap (λ o. option_or o (first_changed g (front ++ x ∷ []) (xs ++ e ∷ later))) (holds_none g front x h.0)
    ∙ first_some g (front ++ x ∷ []) xs e later c h.1 (subst (λ (f : Accesses). DiffersNow g f e c.place c.then c.now) (sym (append_assoc front (x ∷ []) xs)) d)

-- what may come of a commit is what its test gives
pub found : (t : Transaction) (g : Content) (r : Outcome) → CommitsAs t g r → r ≡ outcome_of t g
found t g outcome.Done h = by t.serial refl
  where
    by : (b : Bool) → t.serial ≡ b → outcome.Done ≡ outcome_of t g
    by true e = sym (ap (λ b. if b then outcome_by (first_changed g [] t.accesses) else outcome.Done) e ∙ ap outcome_by (first_none g [] t.accesses (h e)))
    by false e = sym (ap (λ b. if b then outcome_by (first_changed g [] t.accesses) else outcome.Done) e)
found t g (outcome.Clash c) h =
    let d : Differs g t.accesses c.place c.then c.now = h.1 in
    sym (ap (λ b. if b then outcome_by (first_changed g [] t.accesses) else outcome.Done) h.0
    ∙ ap outcome_by (ap (first_changed g []) d.is ∙ first_some g [] d.earlier d.e d.later c d.hold d.differs))

pub found_if : {E : Type 0} (t : Transaction) (g : Content) (r : Result Outcome E) → IfOk r (λ o. CommitsAs t g o) → IfOk r (λ o. o ≡ outcome_of t g)
found_if t g (Ok o) h = found t g o h
found_if t g (Err e) h = tt
