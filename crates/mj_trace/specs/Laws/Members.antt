-- Lists of names, nodes and values, and timeouts, are found as they are spelled.
use Rattle.std.proofs.Common.{◌≡◌, ◌∙◌, ◌+◌, ◌≤◌, ℕ, ℤ, Bool, true, false, cond, ◌&&◌, List, [], ◌∷◌, ◌++◌, length, Option, Some, None, refl, ap, append_assoc, arith}
use Rattle.std.specs.Prelude.{nat_le}
use Rattle.std.specs.Option.{option_map}
use Rattle.std.specs.List.{list_all}
use Rattle.std.specs.Fmt.{signed_decimal}
use Rattle.std.proofs.lemmas.Bool.Decides.{nat_tests}
use Rattle.mj_subs.specs.Name.{Name, is_word}
use Rattle.mj_store.specs.Questions.{Subtree}
use Rattle.mj_ask.specs.Formed.{is_name, are_filled}
use Rattle.mj_gfile.specs.Spelling.{listed_text, listed_subscript, listed_rest, listed_name}
use Rattle.mj_text.specs.declared.limit.Limit.TheVariants.{V2}
use Rattle.mj_gfile.specs.Listing.{is_text}
use Rattle.mj_gfile.specs.Laws.Texts.{both_true}
use Rattle.mj_trace.specs.Spelling.{rest_of_names, names_text, node_text, rest_of_nodes, subtree_text, value_text, rest_of_values, values_text, timeout_text}
use Rattle.mj_trace.specs.Reading.{onward, skipped, begins_with, number_in, appended, continued, all_more, closed, subscripts_in, name_in, name_more, names_in, node_with, node_in, node_more, subtree_in, value_in, value_more, values_in, timed, timeout_in}
use Rattle.mj_trace.specs.Sized.{are_texts, name_fits, nodes_fit, timeout_fits, value_fits}
use Rattle.mj_trace.specs.Laws.Found.{if_not, Ends, number_found, text_found, all_found, subscripts_found, name_found}

-- ---- names

-- a name that can be written, within the limits
abbrev pub is_sized_name : Name → Bool
is_sized_name n = is_name n && name_fits n

pub few : (n m : ℕ) → nat_le n m ≡ true → n ≤ m
few n m h = grind (arith, nat_tests)

-- a name is found
pub name_is_found : (n : Name) (r : List ℕ) → is_sized_name n ≡ true → Ends r → name_in (listed_name n ++ r) ≡ Some (n, r)
name_is_found n r h e =
    let a = both_true (is_name n) (name_fits n) h in
    let b = both_true (is_word n.word && nat_le (length n.subscripts) 31) (are_filled n.subscripts) a.0 in
    let c = both_true (is_word n.word) (nat_le (length n.subscripts) 31) b.0 in
    name_found n r c.0 (few (length n.subscripts) 31 c.1) a.1 e

abbrev AreSized : List Name → List Name → Type 0
AreSized acc ns = list_all is_sized_name ns ≡ true

name_reads : (acc : List Name) (n : Name) (ns : List Name) (r : List ℕ) → AreSized acc (n ∷ ns) → Ends r → name_more acc (listed_name n ++ r) ≡ Some (acc ++ n ∷ [], r)
name_reads acc n ns r h e = ap (appended true acc) (name_is_found n r (both_true (is_sized_name n) (list_all is_sized_name ns) h).0 e)

name_on : (acc : List Name) (n : Name) (ns : List Name) → AreSized acc (n ∷ ns) → AreSized (acc ++ n ∷ []) ns
name_on acc n ns h = (both_true (is_sized_name n) (list_all is_sized_name ns) h).1

abbrev name_tail : List ℕ → List Name → List ℕ
name_tail r ns = rest_of_names ns ++ r

pub names_found : (n : Name) (ns : List Name) (r : List ℕ) → list_all is_sized_name (n ∷ ns) ≡ true → Ends r → begins_with 44 r ≡ false → names_in (names_text (n ∷ ns) ++ r) ≡ Some (n ∷ ns, r)
names_found n [] r h e c =
    ap names_in (append_assoc (listed_name n) [] r)
    ∙ ap (continued (λ names rest. all_more name_more (length rest + 1) names rest)) (name_reads [] n [] r h e)
    ∙ ap (λ b. cond b (all_more name_more (length (skipped r) + 1) (n ∷ []) (skipped r)) (Some (n ∷ [], r))) c
names_found n (m ∷ ms) r h e c =
    ap names_in (append_assoc (listed_name n) (rest_of_names (m ∷ ms)) r ∙ ap (λ l. listed_name n ++ 44 ∷ l) (append_assoc (listed_name m) (rest_of_names ms) r))
    ∙ ap (continued (λ names rest. all_more name_more (length rest + 1) names rest)) (name_reads [] n (m ∷ ms) (44 ∷ (listed_name m ++ name_tail r ms)) h (refl, refl, refl, refl))
    ∙ all_found name_more listed_name (name_tail r) AreSized name_reads name_on e c (λ x xs. append_assoc (44 ∷ listed_name x) (rest_of_names xs) r) (n ∷ []) m ms (name_on [] n (m ∷ ms) h)

-- ---- nodes

abbrev is_sized_node : List (List ℕ) × List ℕ → Bool
is_sized_node e = nat_le (length e.0) 31 && are_texts e.0 && is_text V2 e.1

node_of : (place : List (List ℕ)) (t r : List ℕ) → nat_le (length place) 31 ≡ true → are_texts place ≡ true → is_text V2 t ≡ true → Ends r → node_in (node_text (place, t) ++ r) ≡ Some ((place, t), r)
node_of [] t r a b c e = ap (option_map (λ p. (([], p.0), p.1))) (text_found t r c e)
node_of (s ∷ ss) t r a b c e =
    ap (λ l. onward node_with (subscripts_in l)) (append_assoc (listed_subscript s ++ listed_rest ss) (61 ∷ listed_text t) r)
    ∙ ap (onward node_with) (subscripts_found s ss (61 ∷ (listed_text t ++ r)) (few (length (s ∷ ss)) 31 a) b)
    ∙ ap (option_map (λ p. ((s ∷ ss, p.0), p.1))) (text_found t r c e)

AreNodes : Subtree → Subtree → Type 0
AreNodes acc es = list_all is_sized_node es ≡ true

node_reads : (acc : Subtree) (x : List (List ℕ) × List ℕ) (xs : Subtree) (r : List ℕ) → AreNodes acc (x ∷ xs) → Ends r → node_more acc (node_text x ++ r) ≡ Some (acc ++ x ∷ [], r)
unfolding AreNodes
node_reads acc x xs r h e =
    let a = both_true (is_sized_node x) (list_all is_sized_node xs) h in
    let b = both_true (nat_le (length x.0) 31 && are_texts x.0) (is_text V2 x.1) a.0 in
    let c = both_true (nat_le (length x.0) 31) (are_texts x.0) b.0 in
    ap (appended true acc) (node_of x.0 x.1 r c.0 c.1 b.1 e)

node_on : (acc : Subtree) (x : List (List ℕ) × List ℕ) (xs : Subtree) → AreNodes acc (x ∷ xs) → AreNodes (acc ++ x ∷ []) xs
unfolding AreNodes
node_on acc x xs h = (both_true (is_sized_node x) (list_all is_sized_node xs) h).1

abbrev node_tail : List ℕ → Subtree → List ℕ
node_tail r es = (rest_of_nodes es ++ 125 ∷ []) ++ r

no_brace : (x : List (List ℕ) × List ℕ) (r : List ℕ) → begins_with 125 (node_text x ++ r) ≡ false
no_brace ([], t) r = refl
no_brace (s ∷ ss, t) r = refl

node_step : (r : List ℕ) (x : List (List ℕ) × List ℕ) (xs : Subtree) → node_tail r (x ∷ xs) ≡ 44 ∷ (node_text x ++ node_tail r xs)
node_step r x xs =
    ap (λ l. l ++ r) (append_assoc (44 ∷ node_text x) (rest_of_nodes xs) (125 ∷ [])) ∙ append_assoc (44 ∷ node_text x) (rest_of_nodes xs ++ 125 ∷ []) r

pub subtree_found : (nodes : Subtree) (r : List ℕ) → nodes_fit nodes ≡ true → Ends r → subtree_in (subtree_text nodes ++ r) ≡ Some (nodes, r)
unfolding AreNodes
subtree_found [] r h e = refl
subtree_found (x ∷ xs) r h e =
    ap (closed node_more 125 []) (ap (λ l. l ++ r) (append_assoc (node_text x) (rest_of_nodes xs) (125 ∷ [])) ∙ append_assoc (node_text x) (rest_of_nodes xs ++ 125 ∷ []) r)
    ∙ if_not _ (option_map (λ p. (p.0, skipped p.1)) (all_more node_more (length (node_text x ++ node_tail r xs) + 1) [] (node_text x ++ node_tail r xs))) (no_brace x (node_tail r xs))
    ∙ ap (option_map (λ p. (p.0, skipped p.1))) (all_found node_more node_text (node_tail r) AreNodes node_reads node_on (refl, refl, refl, refl) refl (node_step r) [] x xs h)

-- ---- values

value_found : (v : Option (List ℕ)) (r : List ℕ) → value_fits v ≡ true → Ends r → value_in (value_text v ++ r) ≡ Some (v, r)
value_found None r h e = refl
value_found (Some t) r h e = ap (option_map (λ p. (Some p.0, p.1))) (text_found t r h e)

AreValues : List (Option (List ℕ)) → List (Option (List ℕ)) → Type 0
AreValues acc vs = list_all value_fits vs ≡ true

value_reads : (acc : List (Option (List ℕ))) (x : Option (List ℕ)) (xs : List (Option (List ℕ))) (r : List ℕ) → AreValues acc (x ∷ xs) → Ends r
    → value_more acc (value_text x ++ r) ≡ Some (acc ++ x ∷ [], r)
unfolding AreValues
value_reads acc x xs r h e = ap (appended true acc) (value_found x r (both_true (value_fits x) (list_all value_fits xs) h).0 e)

value_on : (acc : List (Option (List ℕ))) (x : Option (List ℕ)) (xs : List (Option (List ℕ))) → AreValues acc (x ∷ xs) → AreValues (acc ++ x ∷ []) xs
unfolding AreValues
value_on acc x xs h = (both_true (value_fits x) (list_all value_fits xs) h).1

abbrev value_tail : List ℕ → List (Option (List ℕ)) → List ℕ
value_tail r vs = (rest_of_values vs ++ 41 ∷ []) ++ r

no_parenthesis : (v : Option (List ℕ)) (r : List ℕ) → begins_with 41 (value_text v ++ r) ≡ false
no_parenthesis None r = refl
no_parenthesis (Some t) r = refl

value_step : (r : List ℕ) (x : Option (List ℕ)) (xs : List (Option (List ℕ))) → value_tail r (x ∷ xs) ≡ 44 ∷ (value_text x ++ value_tail r xs)
value_step r x xs =
    ap (λ l. l ++ r) (append_assoc (44 ∷ value_text x) (rest_of_values xs) (41 ∷ [])) ∙ append_assoc (44 ∷ value_text x) (rest_of_values xs ++ 41 ∷ []) r

pub values_found : (values : List (Option (List ℕ))) (r : List ℕ) → list_all value_fits values ≡ true → values_in (values_text values ++ r) ≡ Some (values, r)
unfolding AreValues
values_found [] r h = refl
values_found (x ∷ xs) r h =
    ap (closed value_more 41 []) (ap (λ l. l ++ r) (append_assoc (value_text x) (rest_of_values xs) (41 ∷ [])) ∙ append_assoc (value_text x) (rest_of_values xs ++ 41 ∷ []) r)
    ∙ if_not _ (option_map (λ p. (p.0, skipped p.1)) (all_more value_more (length (value_text x ++ value_tail r xs) + 1) [] (value_text x ++ value_tail r xs)))
    (no_parenthesis x (value_tail r xs))
    ∙ ap (option_map (λ p. (p.0, skipped p.1))) (all_found value_more value_text (value_tail r) AreValues value_reads value_on (refl, refl, refl, refl) refl (value_step r) [] x xs h)

-- ---- timeouts

pub timeout_found : (timeout : Option ℤ) (r : List ℕ) → timeout_fits timeout ≡ true → Ends r → begins_with 58 (skipped r) ≡ false → timeout_in (timeout_text timeout ++ r) ≡ (timeout, r)
timeout_found None r h e c = ap (λ b. cond b (timed r (number_in (skipped (skipped r)))) (None, r)) c
timeout_found (Some n) r h e c = ap (timed (32 ∷ 58 ∷ (signed_decimal n ++ r))) (number_found n r h e)
