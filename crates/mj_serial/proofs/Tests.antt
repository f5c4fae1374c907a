-- What the test of a commit finds is so.
use Rattle.std.proofs.Common.{◌≡◌, ℕ, ◌+◌, Bool, true, false, ◌&&◌, ◌||◌, List, [], ◌∷◌, ◌++◌, length, Option, Some, None, refl, sym, ap, ◌∙◌, subst, append_assoc, append-nil}
use Rattle.std.specs.Prelude.{if◌then◌else◌}
use Rattle.std.specs.Bool.{Decides}
use Rattle.std.specs.Option.{option_or}
use Rattle.std.specs.Str.{bytes_eq}
use Rattle.std.specs.Cmp.Lexicographic.{pointwise}
use Rattle.std.proofs.lemmas.Option.{same_Some}
use Rattle.std.proofs.lemmas.Bool.Decides.{Decides-eqb}
use Rattle.std.proofs.lemmas.Slice.Eq.{bytes_eq-Decides, slice_eq-Decides}
use Rattle.mj_subs.specs.Name.{names_eq}
use Rattle.mj_subs.specs.Laws.Tests.{names_eq-Decides}
use Rattle.mj_store.specs.Questions.{Content, Subtree}
use Rattle.mj_store.specs.Runs.{answer_of}
use Rattle.mj_store.specs.declared.access.Access.{Access}
use Rattle.mj_store.specs.declared.access.Answer.{Answer}
use Rattle.mj_store.specs.declared.access.Answer.TheVariants as answer
use Rattle.mj_txlog.specs.Accesses.{Accesses, is_write, seen}
use Rattle.mj_txlog.specs.declared.entry.Entry.{Entry}
use Rattle.mj_txlog.specs.declared.entry.Entry.TheVariants as entry
use Rattle.mj_txn.specs.declared.changed.Changed.{Changed}
use Rattle.mj_txn.specs.Commits.{HoldsNow, Hold, DiffersNow, Differs}
use Rattle.mj_txn.specs.Testing.{both_or_none, is_same_node, are_same_nodes, is_same_answer, changed_at, first_changed}

-- ---- the tests of the same

first_true : (a b : Bool) → (a && b) ≡ true → a ≡ true
first_true true b e = refl
first_true false b e = absurd cc

rest_true : (a b : Bool) → (a && b) ≡ true → b ≡ true
rest_true true b e = e
rest_true false b e = absurd cc

option_decides : {A : Type 0} (test : A → A → Bool) → ((a b : A) → Decides (test a b) (a ≡ b)) → (o p : Option A) → Decides (both_or_none test o p) (o ≡ p)
option_decides test d None None = (λ e. refl, λ e. refl)
option_decides test d None (Some b) = (λ e. absurd cc, λ e. absurd cc)
option_decides test d (Some a) None = (λ e. absurd cc, λ e. absurd cc)
option_decides test d (Some a) (Some b) = (λ e. ap Some ((d a b).0 e), λ e. (d a b).1 (same_Some a b e))

lists_decide : (ss ts : List (List ℕ)) → Decides (pointwise bytes_eq ss ts) (ss ≡ ts)
lists_decide ss ts = slice_eq-Decides bytes_eq-Decides ss ts (pointwise bytes_eq ss ts) refl

node_decides : (a b : List (List ℕ) × List ℕ) → Decides (is_same_node a b) (a ≡ b)
node_decides a b =
    let d = lists_decide a.0 b.0 in
    let t = bytes_eq-Decides a.1 b.1 in (
      λ e. let p = d.0 (first_true (pointwise bytes_eq a.0 b.0) (bytes_eq a.1 b.1) e) in let q = t.0 (rest_true (pointwise bytes_eq a.0 b.0) (bytes_eq a.1 b.1) e) in λ i. (p i, q i),
      λ e. let p = d.1 (ap (λ (x : List (List ℕ) × List ℕ). x.0) e) in let q = t.1 (ap (λ (x : List (List ℕ) × List ℕ). x.1) e) in λ i. p i && q i,
    )

nodes_decide : (m n : Subtree) → Decides (are_same_nodes m n) (m ≡ n)
nodes_decide m n = slice_eq-Decides node_decides m n (are_same_nodes m n) refl

answer_decides : (x y : Answer) → Decides (is_same_answer x y) (x ≡ y)
answer_decides (answer.Value a) (answer.Value b) = let d = option_decides bytes_eq bytes_eq-Decides a b in (λ e. ap answer.Value (d.0 e), λ e. d.1 (let same : a ≡ b = cc in same))
answer_decides (answer.Data a) (answer.Data b) = let d = Decides-eqb a b in (λ e. ap answer.Data (d.0 e), λ e. d.1 (let same : a ≡ b = cc in same))
answer_decides (answer.Order a) (answer.Order b) = let d = option_decides bytes_eq bytes_eq-Decides a b in (λ e. ap answer.Order (d.0 e), λ e. d.1 (let same : a ≡ b = cc in same))
answer_decides (answer.Query a) (answer.Query b) = let d = option_decides names_eq names_eq-Decides a b in (λ e. ap answer.Query (d.0 e), λ e. d.1 (let same : a ≡ b = cc in same))
answer_decides (answer.Subtree a) (answer.Subtree b) = let d = nodes_decide a b in (λ e. ap answer.Subtree (d.0 e), λ e. d.1 (let same : a ≡ b = cc in same))
answer_decides answer.Done answer.Done = (λ e. refl, λ e. refl)
answer_decides answer.Limit answer.Limit = (λ e. refl, λ e. refl)
answer_decides x y = (λ e. absurd cc, λ e. absurd cc)

-- ---- one access

-- the read, by the answers to whether it is a change and is the same
holds_by : (g : Content) (earlier : Accesses) (a : Access) (v : Answer) (write same : Bool) → is_write a ≡ write → is_same_answer (answer_of a (seen g earlier)) v ≡ same
    → ◌≡◌ {A = Option Changed} (if write || same then None else Some (record { place = length earlier + 1; then = v; now = answer_of a (seen g earlier) })) None
    → HoldsNow g earlier (entry.Access a v)
holds_by g earlier a v true same w s e k = absurd cc
holds_by g earlier a v false true w s e k = (answer_decides (answer_of a (seen g earlier)) v).0 s
holds_by g earlier a v false false w s e k = absurd cc

none_holds : (g : Content) (earlier : Accesses) (e : Entry) → changed_at g earlier e ≡ None → HoldsNow g earlier e
none_holds g earlier (entry.Unlock u) h = tt
none_holds g earlier (entry.Access a v) h =
    holds_by g earlier a v (is_write a) (is_same_answer (answer_of a (seen g earlier)) v) refl refl h

differs_by : (g : Content) (earlier : Accesses) (a : Access) (v : Answer) (c : Changed) (write same : Bool) → is_write a ≡ write
    → is_same_answer (answer_of a (seen g earlier)) v ≡ same
    → ◌≡◌ {A = Option Changed} (if write || same then None else Some (record { place = length earlier + 1; then = v; now = answer_of a (seen g earlier) })) (Some c)
    → DiffersNow g earlier (entry.Access a v) c.place c.then c.now
differs_by g earlier a v c true same w s e = absurd cc
differs_by g earlier a v c false true w s e = absurd cc
differs_by g earlier a v c false false w s e =
    let is : ◌≡◌ {A = Changed} (record { place = length earlier + 1; then = v; now = answer_of a (seen g earlier) }) c = same_Some _ c e in (
      w,
      record {
        place = sym (ap (λ (x : Changed). x.place) is);
        then = sym (ap (λ (x : Changed). x.then) is);
        now = sym (ap (λ (x : Changed). x.now) is);
        differ = λ q.
            let same : answer_of a (seen g earlier) ≡ v = ap (λ (x : Changed). x.now) is ∙ q ∙ sym (ap (λ (x : Changed). x.then) is) in
            let yes : is_same_answer (answer_of a (seen g earlier)) v ≡ true = (answer_decides (answer_of a (seen g earlier)) v).1 same in
            absurd cc;
      },
    )

some_differs : (g : Content) (earlier : Accesses) (e : Entry) (c : Changed) → changed_at g earlier e ≡ Some c → DiffersNow g earlier e c.place c.then c.now
some_differs g earlier (entry.Unlock u) c h = absurd cc
some_differs g earlier (entry.Access a v) c h =
    differs_by g earlier a v c (is_write a) (is_same_answer (answer_of a (seen g earlier)) v) refl refl h

-- ---- all of them

pub first_none : (g : Content) (front xs : Accesses) → first_changed g front xs ≡ None → Hold g front xs
first_none g front [] h = tt
first_none g front (e ∷ xs) h = by (changed_at g front e) refl h (first_none g (front ++ e ∷ []) xs)
  where
    by : (o : Option Changed) → changed_at g front e ≡ o → option_or o (first_changed g (front ++ e ∷ []) xs) ≡ None
        → (first_changed g (front ++ e ∷ []) xs ≡ None → Hold g (front ++ e ∷ []) xs) → HoldsNow g front e × Hold g (front ++ e ∷ []) xs
    by None is k rest = (none_holds g front e is, rest k)
    by (Some c) is k rest = absurd cc

-- the first of them that differs, among those behind others
record DiffersBehind (g : Content) (front xs : Accesses) (c : Changed) : Type 0 where
  earlier : Accesses
  e : Entry
  later : Accesses
  is : xs ≡ earlier ++ e ∷ later
  hold : Hold g front earlier
  differs : DiffersNow g (front ++ earlier) e c.place c.then c.now

first_some : (g : Content) (front xs : Accesses) (c : Changed) → first_changed g front xs ≡ Some c → DiffersBehind g front xs c
first_some g front [] c h = absurd cc
first_some g front (e ∷ xs) c h = by (changed_at g front e) refl h (first_some g (front ++ e ∷ []) xs c)
  where
    by : (o : Option Changed) → changed_at g front e ≡ o → option_or o (first_changed g (front ++ e ∷ []) xs) ≡ Some c
        → (first_changed g (front ++ e ∷ []) xs ≡ Some c → DiffersBehind g (front ++ e ∷ []) xs c) → DiffersBehind g front (e ∷ xs) c
    by (Some d) is k rest = record {
      earlier = [];
      e = e;
      later = xs;
      is = refl;
      hold = tt;
      differs = subst (λ l. DiffersNow g l e c.place c.then c.now) (sym (append-nil front)) (some_differs g front e c (is ∙ k));
    }
    by None is k rest =
        let d : DiffersBehind g (front ++ e ∷ []) xs c = rest k in
        record {
          earlier = e ∷ d.earlier;
          e = d.e;
          later = d.later;
          is = ap (λ l. e ∷ l) d.is;
          hold = (none_holds g front e is, d.hold);
          differs = subst (λ l. DiffersNow g l d.e c.place c.then c.now) (append_assoc front (e ∷ []) d.earlier) d.differs;
        }

pub some_first : (g : Content) (xs : Accesses) (c : Changed) → first_changed g [] xs ≡ Some c → Differs g xs c.place c.then c.now
some_first g xs c h =
    let d : DiffersBehind g [] xs c = first_some g [] xs c h in
    record { earlier = d.earlier; e = d.e; later = d.later; is = d.is; hold = d.hold; differs = d.differs }
