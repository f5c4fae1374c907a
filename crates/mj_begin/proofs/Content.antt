-- Globals that can be listed can be written in a trace.
use Rattle.std.proofs.Common.{◌≡◌, Bool, true, false, ◌&&◌, List, [], ◌∷◌, length, refl}
use Rattle.std.specs.Prelude.{ℕ, nat_le}
use Rattle.std.specs.List.{list_all}
use Rattle.std.specs.FinMap.{is_sorted}
use Rattle.mj_text.specs.declared.limit.Limit.{Limit}
use Rattle.mj_text.specs.declared.limit.Limit.TheVariants.{V1, V2}
use Rattle.mj_text.specs.Limit.{smaller, is_within, are_within}
use Rattle.mj_subs.specs.Name.{Name, is_word}
use Rattle.mj_subs.specs.Collation.{name_cmp}
use Rattle.mj_store.specs.Questions.{Content}
use Rattle.mj_ask.specs.Formed.{is_filled, are_filled, is_global_name}
use Rattle.mj_ask.specs.Fitting.{is_content}
use Rattle.mj_ask.proofs.Lists.{both_true, is_true}
use Rattle.mj_globs.specs.Within.{is_entry_within, is_content_within}
use Rattle.mj_gfile.specs.Listing.{are_bytes, is_short, is_subscript, is_node, is_text, IsListed}

filled : (limit : Limit) (s : List ℕ) → is_subscript limit s ≡ true → is_filled s ≡ true
filled limit [] h = h
filled limit (c ∷ s) h = refl

all_filled : (limit : Limit) (subs : List (List ℕ)) → list_all (is_subscript limit) subs ≡ true → are_filled subs ≡ true
all_filled limit [] h = refl
all_filled limit (s ∷ subs) h =
    let k = both_true (is_subscript limit s) (list_all (is_subscript limit) subs) h in
    let first = filled limit s k.0 in
    let rest = all_filled limit subs k.1 in
    λ i. first i && rest i

-- the parts of a node, one after the other
global_named : (global word few subs text : Bool) (filled : Bool) → (global && word && few && subs && text) ≡ true → (subs ≡ true → filled ≡ true)
    → (global && (word && few && filled)) ≡ true
global_named true true true true text filled h k = k refl
global_named true true true false text filled h k = absurd cc
global_named true true false subs text filled h k = absurd cc
global_named true false few subs text filled h k = absurd cc
global_named false word few subs text filled h k = absurd cc

all_named : (limit : Limit) (content : Content) → list_all (is_node limit) content ≡ true → list_all (λ e. is_global_name e.0) content ≡ true
all_named limit [] h = refl
all_named limit (e ∷ content) h =
    let k = both_true (is_node limit e) (list_all (is_node limit) content) h in
    let n : Name = e.0 in
    let first : is_global_name n ≡ true =
    global_named n.global (is_word n.word) (nat_le (length n.subscripts) 31) (list_all (is_subscript limit) n.subscripts) (is_text limit e.1) (are_filled n.subscripts) k.0
    (all_filled limit n.subscripts) in
    let rest = all_named limit content k.1 in
    λ i. first i && rest i

pub can_be_written : (limit : Limit) (bytes : List ℕ) (content : Content) → IsListed limit bytes content → is_content content ≡ true
can_be_written limit bytes content is =
    let globals = is.2 in
    let sorted = is_true (is_sorted name_cmp content) globals.rise in
    let named = all_named (smaller is.0 limit) content globals.nodes in
    λ i. sorted i && named i

-- ---- the limit

subscript_within : (s : List ℕ) → is_subscript V1 s ≡ true → is_within V1 s ≡ true
subscript_within [] h = refl
subscript_within (c ∷ s) h = (both_true (is_short V1 (c ∷ s)) (are_bytes (c ∷ s)) h).0

subscripts_within : (subs : List (List ℕ)) → list_all (is_subscript V1) subs ≡ true → are_within V1 subs ≡ true
subscripts_within [] h = refl
subscripts_within (s ∷ subs) h =
    let k = both_true (is_subscript V1 s) (list_all (is_subscript V1) subs) h in
    let first = subscript_within s k.0 in
    let rest = subscripts_within subs k.1 in
    λ i. first i && rest i

-- the subscripts of a node, and its text
parts_within : (global word few subs short bytes : Bool) → (global && word && few && subs && (short && bytes)) ≡ true → (subs ≡ true) × (short ≡ true)
parts_within true true true true true bytes h = (refl, refl)
parts_within true true true true false bytes h = absurd cc
parts_within true true true false short bytes h = absurd cc
parts_within true true false subs short bytes h = absurd cc
parts_within true false few subs short bytes h = absurd cc
parts_within false word few subs short bytes h = absurd cc

nodes_within : (content : Content) → list_all (is_node V1) content ≡ true → list_all (is_entry_within V1) content ≡ true
nodes_within [] h = refl
nodes_within (e ∷ content) h =
    let k = both_true (is_node V1 e) (list_all (is_node V1) content) h in
    let n : Name = e.0 in
    let parts = parts_within n.global (is_word n.word) (nat_le (length n.subscripts) 31) (list_all (is_subscript V1) n.subscripts) (is_short V1 e.1) (are_bytes e.1) k.0 in
    let subs = subscripts_within n.subscripts parts.0 in
    let text : is_within V1 e.1 ≡ true = parts.1 in
    let first : is_entry_within V1 e ≡ true = λ i. subs i && text i in
    let rest = nodes_within content k.1 in
    λ i. first i && rest i

listed_within : (version : Limit) (content : Content) → list_all (is_node (smaller version V1)) content ≡ true → list_all (is_entry_within V1) content ≡ true
listed_within V1 content h = nodes_within content h
listed_within V2 content h = nodes_within content h

-- what is listed within a limit is within it
pub texts_within : (limit : Limit) (bytes : List ℕ) (content : Content) → IsListed limit bytes content → is_content_within limit content ≡ true
texts_within V1 bytes content is = listed_within is.0 content is.2.nodes
texts_within V2 bytes content is = refl

-- there is nothing that could be above it
pub none_within : (limit : Limit) → is_content_within limit [] ≡ true
none_within V1 = refl
none_within V2 = refl
