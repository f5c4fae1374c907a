-- A listing has names of globals alone.
use Rattle.std.proofs.Common.{◌≡◌, ℕ, Bool, true, false, ◌&&◌, List, [], ◌∷◌, length, refl}
use Rattle.std.specs.Prelude.{Result, Ok, Err, nat_le}
use Rattle.std.specs.Result.{IfOk}
use Rattle.std.specs.List.{list_all}
use Rattle.mj_text.specs.declared.limit.Limit.{Limit}
use Rattle.mj_text.specs.Limit.{smaller}
use Rattle.mj_subs.specs.Name.{Name, is_word}
use Rattle.mj_store.specs.Questions.{Content}
use Rattle.mj_gfile.specs.declared.error.ReadError.{ReadError}
use Rattle.mj_gfile.specs.Listing.{is_node, is_subscript, IsListed}
use Rattle.mj_subs.specs.declared.subs.TheConstants.{SUBSCRIPTS_LIMIT}

first_true : (a b : Bool) → (a && b) ≡ true → a ≡ true
first_true true b e = refl
first_true false b e = absurd cc

rest_true : (a b : Bool) → (a && b) ≡ true → b ≡ true
rest_true true b e = e
rest_true false b e = absurd cc

and_true : (a b : Bool) → a ≡ true → b ≡ true → (a && b) ≡ true
and_true a b p q = λ i. p i && q i

node_global : (limit : Limit) (e : Name × List ℕ) → is_node limit e ≡ true → e.0.global ≡ true
node_global limit e h =
    let kind = e.0.global in
    let word = is_word e.0.word in
    let few = nat_le (length e.0.subscripts) SUBSCRIPTS_LIMIT in
    let filled = list_all (is_subscript limit) e.0.subscripts in
    let a = first_true (((kind && word) && few) && filled) _ h in
    let b = first_true ((kind && word) && few) filled a in
    let c = first_true (kind && word) few b in
    first_true kind word c

nodes_global : (limit : Limit) (es : Content) → list_all (is_node limit) es ≡ true → list_all (λ e. e.0.global) es ≡ true
nodes_global limit [] h = refl
nodes_global limit (e ∷ es) h =
    and_true e.0.global (list_all (λ d. d.0.global) es) (node_global limit e (first_true (is_node limit e) (list_all (is_node limit) es) h))
    (nodes_global limit es (rest_true (is_node limit e) (list_all (is_node limit) es) h))

pub all_global : (limit : Limit) (bs : List ℕ) (r : Result Content ReadError) → IfOk r (IsListed limit bs) → IfOk r (λ g. list_all (λ e. e.0.global) g ≡ true)
all_global limit bs (Ok g) h = nodes_global (smaller h.0 limit) g h.2.nodes
all_global limit bs (Err e) h = tt
