-- An ask is found as it is spelled.
use Rattle.std.proofs.Common.{◌≡◌, ◌∙◌, ℕ, ℤ, Bool, true, false, cond, ◌&&◌, ◌||◌, eqb, List, [], ◌∷◌, ◌++◌, length, Option, Some, None, refl, ap, append_assoc, arith}
use Rattle.std.specs.Prelude.{nat_lt, nat_le, codes}
use Rattle.std.specs.Option.{option_map}
use Rattle.std.specs.List.{list_all}
use Rattle.std.specs.Str.{bytes_eq}
use Rattle.std.specs.Char.{is_ascii_digit, is_ascii_lowercase}
use Rattle.std.proofs.lemmas.List.Folds.{list_all-append}
use Rattle.std.proofs.lemmas.Bool.Decides.{nat_tests}
use Rattle.mj_text.specs.Fault.{code_of}
use Rattle.mj_text.specs.declared.text.TheConstants.{TEXT_LIMIT}
use Rattle.mj_text.specs.declared.fault.Fault.{Fault}
use Rattle.mj_text.specs.declared.fault.Fault.TheVariants as faults
use Rattle.mj_subs.specs.Name.{Name, is_word}
use Rattle.mj_store.specs.Questions.{Subtree}
use Rattle.mj_store.specs.declared.store.Direction.TheVariants as directions
use Rattle.mj_store.specs.declared.access.Access.{Access}
use Rattle.mj_store.specs.declared.access.Access.TheVariants as accesses
use Rattle.mj_ask.specs.Written.{is_label, is_entry, entry_text, entry_of}
use Rattle.mj_ask.specs.declared.entry.Entry.{Entry}
use Rattle.mj_ask.specs.declared.ask.Kind.TheVariants as kinds
use Rattle.mj_ask.specs.declared.ask.Ask.{Ask}
use Rattle.mj_ask.specs.declared.ask.Ask.TheVariants as asks
use Rattle.mj_ask.specs.declared.ask.SharedAsk.{SharedAsk}
use Rattle.mj_ask.specs.declared.ask.SharedAsk.TheVariants as shared_asks
use Rattle.mj_ask.specs.declared.ask.DeviceAsk.{DeviceAsk}
use Rattle.mj_ask.specs.declared.ask.DeviceAsk.TheVariants as device_asks
use Rattle.mj_ask.specs.Fits.{device_timeout}
use Rattle.mj_ask.specs.Formed.{is_name, is_global_name, is_search_name, are_filled_before_last, is_subtree, is_access, are_names, is_shared_ask, is_ask}
use Rattle.mj_ask.proofs.Entries.{reading}
use Rattle.mj_gfile.specs.Spelling.{listed_text, listed_subscripts, listed_name}
use Rattle.mj_gfile.specs.Reading.{is_word_byte}
use Rattle.mj_text.specs.declared.limit.Limit.TheVariants.{V2}
use Rattle.mj_gfile.specs.Listing.{is_text}
use Rattle.mj_gfile.specs.Laws.Texts.{both_true}
use Rattle.mj_gfile.specs.Laws.Names.{Stops, more_pass}
use Rattle.mj_trace.specs.declared.run.Run.TheVariants as runs
use Rattle.mj_nref.specs.Spelling.{word_text}
use Rattle.mj_trace.specs.Spelling.{rest_of_names, names_text, subtree_text, values_text, timeout_text, access_text, fault_text, shared_text, device_text, ask_text}
use Rattle.mj_trace.specs.Reading.{onward, is_in, front, behind_bytes, skipped, begins_with, count_in, name_in, names_in, values_in, timed_by, started, start_in, fault_of, halted, halt_in, access_with, access_in}
use Rattle.mj_trace.specs.Reading.{begin_in, unlock_in, try_in, open_in, close_in, timeout_in, device_with, device_in, asked_of, on_device, on_shared, ask_in}
use Rattle.mj_trace.specs.Sized.{is_count, name_fits, nodes_fit, access_fits, timeout_fits, value_fits, shared_fits, device_fits, ask_fits}
use Rattle.mj_trace.specs.Devices.{device_word, writes, timed_ask, word_letters, word_back}
use Rattle.mj_trace.specs.Laws.Found.{Ends, if_not, front_all, rest_all, number_found, count_found, text_found, name_found, word_bytes}
use Rattle.mj_trace.specs.Laws.Members.{is_sized_name, few, name_is_found, names_found, subtree_found, values_found, timeout_found}

-- what follows an ask is no timeout, no fault, and not the kind of a transaction
pub record FollowsAsk (r : List ℕ) : Type 0 where
  pub untimed : begins_with 58 r ≡ false
  pub unfaulted : begins_with 70 r ≡ false
  pub plain : begins_with 115 r ≡ false

-- an ask that its timeout ends is found
timed_found : {A : Type 0} (ask : Option ℤ → A) (timeout : Option ℤ) (r : List ℕ) → timeout_fits timeout ≡ true → FollowsAsk r
    → timed_by ask (timeout_text timeout ++ 32 ∷ r) ≡ Some (ask timeout, 32 ∷ r)
timed_found ask timeout r h w = ap (λ q. Some (ask q.0, q.1)) (timeout_found timeout (32 ∷ r) h (refl, refl, refl, refl) w.untimed)

-- ---- devices

-- a timeout and what follows it don't begin with a letter
letters_stop : (timeout : Option ℤ) (r : List ℕ) → Stops (is_in runs.Letters) (timeout_text timeout ++ 32 ∷ r)
letters_stop None r = refl
letters_stop (Some n) r = refl

-- by a word that isn't that of what writes, a timeout is read
with_word : (a : DeviceAsk) (rest : List ℕ) → writes a ≡ false → device_with (device_word a) rest ≡ option_map (λ b. (b, (timeout_in rest).1)) (timed_ask (device_word a) (timeout_in rest).0)
with_word (device_asks.Write t) rest h = absurd cc
with_word _ rest h = refl

-- what writes nothing is found
timed_ask_found : (a : DeviceAsk) (r : List ℕ) → writes a ≡ false → timeout_fits (device_timeout a) ≡ true → FollowsAsk r
    → device_in ((device_word a ++ timeout_text (device_timeout a)) ++ 32 ∷ r) ≡ Some (a, 32 ∷ r)
timed_ask_found a r n k w =
    let rest = timeout_text (device_timeout a) ++ 32 ∷ r in
    let f : front runs.Letters (device_word a ++ rest) ≡ device_word a = front_all (is_in runs.Letters) (device_word a) rest (word_letters a) (letters_stop (device_timeout a) r) in
    let b : behind_bytes runs.Letters (device_word a ++ rest) ≡ rest = rest_all (is_in runs.Letters) (device_word a) rest (word_letters a) (letters_stop (device_timeout a) r) in
    ap device_in (append_assoc (device_word a) (timeout_text (device_timeout a)) (32 ∷ r))
    ∙ (λ i. device_with (f i) (b i)) ∙ with_word a rest n
    ∙ ap (λ (q : Option ℤ × List ℕ). option_map (λ b. (b, q.1)) (timed_ask (device_word a) q.0)) (timeout_found (device_timeout a) (32 ∷ r) k (refl, refl, refl, refl) w.untimed)
    ∙ ap (option_map (λ b. (b, 32 ∷ r))) (word_back a n)

-- what is asked of a session of a device is found
device_found : (a : DeviceAsk) (r : List ℕ) → device_fits a ≡ true → FollowsAsk r → device_in (device_text a ++ 32 ∷ r) ≡ Some (a, 32 ∷ r)
device_found (device_asks.Write t) r k w = ap (option_map (λ p. (device_asks.Write p.0, p.1))) (text_found t (32 ∷ r) k (refl, refl, refl, refl))
device_found a r k w = timed_ask_found a r refl k w

on_device_found : (d : List ℕ) (a : DeviceAsk) (r : List ℕ) → is_text V2 d ≡ true → device_fits a ≡ true → FollowsAsk r
    → ask_in (ask_text (asks.Device d a) ++ 32 ∷ r) ≡ Some (asks.Device d a, 32 ∷ r)
on_device_found d a r h k w =
    ap on_device (append_assoc (listed_text d) (32 ∷ device_text a) (32 ∷ r))
    ∙ ap (onward asked_of) (text_found d (32 ∷ (device_text a ++ 32 ∷ r)) h (refl, refl, refl, refl))
    ∙ ap (option_map (λ p. (asks.Device d p.0, p.1))) (device_found a r k w)

-- ---- accesses

pub global_sized : (n : Name) → is_global_name n ≡ true → name_fits n ≡ true → is_sized_name n ≡ true
global_sized n h k = λ i. (both_true n.global (is_name n) h).1 i && k i

-- what is found of an access
abbrev accessed : Option (Access × List ℕ) → Option (SharedAsk × List ℕ)
accessed o = option_map (λ p. (shared_asks.Access p.0, p.1)) o

-- an access whose name is found
named : (word : List ℕ) (n : Name) (r : List ℕ) → name_in (listed_name n ++ r) ≡ Some (n, r)
    → on_shared (access_in word (listed_name n ++ r)) ≡ on_shared (accessed (access_with word n r))
named word n r e = ap (λ o. on_shared (accessed (onward (access_with word) o))) e

search_found : (n : Name) (r : List ℕ) → is_search_name n ≡ true → name_fits n ≡ true → Ends r → name_in (listed_name n ++ r) ≡ Some (n, r)
search_found n r h k e =
    let a = both_true (n.global && is_word n.word && nat_le (length n.subscripts) 31) (are_filled_before_last n.subscripts) h in
    let b = both_true (n.global && is_word n.word) (nat_le (length n.subscripts) 31) a.0 in
    name_found n r (both_true n.global (is_word n.word) b.0).1 (few (length n.subscripts) 31 b.1) k e

global_found : (n : Name) (r : List ℕ) → is_global_name n ≡ true → name_fits n ≡ true → Ends r → name_in (listed_name n ++ r) ≡ Some (n, r)
global_found n r h k e = name_is_found n r (global_sized n h k) e

access_found : (a : Access) (r : List ℕ) → is_access a ≡ true → access_fits a ≡ true → ask_in (access_text a ++ 32 ∷ r) ≡ Some (asks.Shared (shared_asks.Access a), 32 ∷ r)
access_found (accesses.Value n) r h k = named (codes "value") n (32 ∷ r) (global_found n (32 ∷ r) h k (refl, refl, refl, refl))
access_found (accesses.Data n) r h k = named (codes "data") n (32 ∷ r) (global_found n (32 ∷ r) h k (refl, refl, refl, refl))
access_found (accesses.Query n) r h k = named (codes "query") n (32 ∷ r) (search_found n (32 ∷ r) h k (refl, refl, refl, refl))
access_found (accesses.Subtree n) r h k = named (codes "subtree") n (32 ∷ r) (global_found n (32 ∷ r) h k (refl, refl, refl, refl))
access_found (accesses.Kill n) r h k = named (codes "kill") n (32 ∷ r) (global_found n (32 ∷ r) h k (refl, refl, refl, refl))
access_found (accesses.Order n directions.Forward) r h k =
    ap (λ l. on_shared (access_in (codes "order") l)) (append_assoc (listed_name n) (32 ∷ codes "1") (32 ∷ r))
    ∙ named (codes "order") n (32 ∷ 49 ∷ 32 ∷ r) (search_found n (32 ∷ 49 ∷ 32 ∷ r) h k (refl, refl, refl, refl))
access_found (accesses.Order n directions.Backward) r h k =
    ap (λ l. on_shared (access_in (codes "order") l)) (append_assoc (listed_name n) (32 ∷ codes "-1") (32 ∷ r))
    ∙ named (codes "order") n (32 ∷ 45 ∷ 49 ∷ 32 ∷ r) (search_found n (32 ∷ 45 ∷ 49 ∷ 32 ∷ r) h k (refl, refl, refl, refl))
access_found (accesses.Set n t) r h k =
    let q = both_true (name_fits n) (is_text V2 t) k in
    ap (λ l. on_shared (access_in (codes "set") l)) (append_assoc (listed_name n) (32 ∷ listed_text t) (32 ∷ r))
    ∙ named (codes "set") n (32 ∷ (listed_text t ++ 32 ∷ r)) (global_found n (32 ∷ (listed_text t ++ 32 ∷ r)) h q.0 (refl, refl, refl, refl))
    ∙ ap (λ (o : Option (List ℕ × List ℕ)). on_shared (accessed (option_map (λ p. (accesses.Set n p.0, p.1)) o))) (text_found t (32 ∷ r) q.1 (refl, refl, refl, refl))
access_found (accesses.Put n nodes) r h k =
    let q = both_true (name_fits n) (nodes_fit nodes) k in
    let g = both_true (is_global_name n) (is_subtree nodes) h in
    ap (λ l. on_shared (access_in (codes "put") l)) (append_assoc (listed_name n) (32 ∷ subtree_text nodes) (32 ∷ r))
    ∙ named (codes "put") n (32 ∷ (subtree_text nodes ++ 32 ∷ r)) (global_found n (32 ∷ (subtree_text nodes ++ 32 ∷ r)) g.0 q.0 (refl, refl, refl, refl))
    ∙ ap (λ (o : Option (Subtree × List ℕ)). on_shared (accessed (option_map (λ p. (accesses.Put n p.0, p.1)) o))) (subtree_found nodes (32 ∷ r) q.1 (refl, refl, refl, refl))

-- ---- names to lock

both_all : {A : Type 0} (p q : A → Bool) (xs : List A) → list_all p xs ≡ true → list_all q xs ≡ true → list_all (λ x. p x && q x) xs ≡ true
both_all p q [] h k = refl
both_all p q (x ∷ xs) h k =
    let a = both_true (p x) (list_all p xs) h in
    let b = both_true (q x) (list_all q xs) k in
    λ i. (a.0 i && b.0 i) && both_all p q xs a.1 b.1 i

ends_timed : (timeout : Option ℤ) (r : List ℕ) → Ends (timeout_text timeout ++ 32 ∷ r) × (begins_with 44 (timeout_text timeout ++ 32 ∷ r) ≡ false)
ends_timed None r = ((refl, refl, refl, refl), refl)
ends_timed (Some n) r = ((refl, refl, refl, refl), refl)

try_found : (names : List Name) (timeout : Option ℤ) (r : List ℕ) → are_names names ≡ true → list_all name_fits names ≡ true → timeout_fits timeout ≡ true → FollowsAsk r
    → try_in ((names_text names ++ timeout_text timeout) ++ 32 ∷ r) ≡ Some (shared_asks.Try names timeout, 32 ∷ r)
try_found [] timeout r h k t w = absurd cc
try_found (n ∷ ns) timeout r h k t w =
    let e = ends_timed timeout r in
    let all = both_all is_name name_fits (n ∷ ns) (both_true (nat_lt 0 (length (n ∷ ns))) (list_all is_name (n ∷ ns)) h).1 k in
    ap try_in (append_assoc (names_text (n ∷ ns)) (timeout_text timeout) (32 ∷ r))
    ∙ ap (onward (λ names. timed_by (shared_asks.Try names))) (names_found n ns (timeout_text timeout ++ 32 ∷ r) all e.0 e.1)
    ∙ timed_found (shared_asks.Try (n ∷ ns)) timeout r t w

no_star : (n : Name) (r : List ℕ) → is_name n ≡ true → begins_with 42 (listed_name n ++ r) ≡ false
no_star n r h = by n.global n.word (both_true (is_word n.word) (nat_le (length n.subscripts) 31) (both_true (is_word n.word && nat_le (length n.subscripts) 31) _ h).0).0
  where
    other : (d : ℕ) → is_word_byte d ≡ true → eqb d 42 ≡ false
    other d e = grind (arith, nat_tests)

    by : (g : Bool) (w : List ℕ) → is_word w ≡ true → begins_with 42 ((word_text g w ++ listed_subscripts n.subscripts) ++ r) ≡ false
    by true w k = refl
    by false [] k = absurd cc
    by false (c ∷ cs) k = other c (both_true (is_word_byte c) (list_all is_word_byte cs) (word_bytes (c ∷ cs) k)).0

unlock_found : (names : List Name) (r : List ℕ) → are_names names ≡ true → list_all name_fits names ≡ true → unlock_in (names_text names ++ 32 ∷ r) ≡ Some (shared_asks.Unlock names, 32 ∷ r)
unlock_found [] r h k = absurd cc
unlock_found (n ∷ ns) r h k =
    let named = (both_true (nat_lt 0 (length (n ∷ ns))) (list_all is_name (n ∷ ns)) h).1 in
    let all = both_all is_name name_fits (n ∷ ns) named k in
    if_not _ (option_map (λ p. (shared_asks.Unlock p.0, p.1)) (names_in (names_text (n ∷ ns) ++ 32 ∷ r)))
    (ap (begins_with 42) (append_assoc (listed_name n) (rest_of_names ns) (32 ∷ r)) ∙ no_star n (rest_of_names ns ++ 32 ∷ r) (both_true (is_name n) (list_all is_name ns) named).0)
    ∙ ap (option_map (λ p. (shared_asks.Unlock p.0, p.1))) (names_found n ns (32 ∷ r) all (refl, refl, refl, refl) refl)

-- ---- transactions

-- what doesn't begin with an `s` isn't the word for them
not_serial : (r : List ℕ) → begins_with 115 r ≡ false → bytes_eq (front runs.Letters r) (codes "serial") ≡ false
not_serial [] h = refl
not_serial (c ∷ cs) h = by (is_ascii_lowercase c)
  where
    by : (b : Bool) → bytes_eq (cond b (c ∷ front runs.Letters cs) []) (codes "serial") ≡ false
    by true = ap (λ b. b && bytes_eq (front runs.Letters cs) (codes "erial")) h
    by false = refl

begin_found : (r : List ℕ) → FollowsAsk r → begin_in (32 ∷ r) (front runs.Letters r) (behind_bytes runs.Letters r) ≡ Some (shared_asks.Begin kinds.Plain, 32 ∷ r)
begin_found r w = if_not _ (Some (shared_asks.Begin kinds.Plain, 32 ∷ r)) (not_serial r w.plain)

-- ---- devices that are opened and closed

open_found : (d : List ℕ) (timeout : Option ℤ) (r : List ℕ) → is_text V2 d ≡ true → timeout_fits timeout ≡ true → FollowsAsk r
    → open_in ((listed_text d ++ timeout_text timeout) ++ 32 ∷ r) ≡ Some (shared_asks.Open d timeout, 32 ∷ r)
open_found d timeout r h t w =
    ap open_in (append_assoc (listed_text d) (timeout_text timeout) (32 ∷ r))
    ∙ ap (onward (λ device. timed_by (shared_asks.Open device))) (text_found d (timeout_text timeout ++ 32 ∷ r) h (ends_timed timeout r).0)
    ∙ timed_found (shared_asks.Open d) timeout r t w

close_found : (d r : List ℕ) → is_text V2 d ≡ true → close_in (listed_text d ++ 32 ∷ r) ≡ Some (shared_asks.Close d, 32 ∷ r)
close_found d r h = ap (option_map (λ p. (shared_asks.Close p.0, p.1))) (text_found d (32 ∷ r) h (refl, refl, refl, refl))

-- ---- starts

pub entry_read : (e : Entry) → is_entry e ≡ true → entry_of (entry_text e) ≡ Some e
entry_read e h = ((reading (entry_text e) (entry_of (entry_text e)) refl).spells e).1 (refl, h)

word_filled : (c : ℕ) → is_word_byte c ≡ true → is_in runs.Filled c ≡ true
word_filled c h = grind (arith, nat_tests)

digit_filled : (c : ℕ) → is_ascii_digit c ≡ true → is_in runs.Filled c ≡ true
digit_filled c h = grind (arith, nat_tests)

label_filled : (l : List ℕ) → is_label l ≡ true → list_all (is_in runs.Filled) l ≡ true
label_filled [] h = refl
label_filled (c ∷ cs) h = by (is_word (c ∷ cs)) refl h
  where
    by : (b : Bool) → is_word (c ∷ cs) ≡ b → (b || (list_all is_ascii_digit (c ∷ cs) && nat_le (length (c ∷ cs)) TEXT_LIMIT)) ≡ true → list_all (is_in runs.Filled) (c ∷ cs) ≡ true
    by true w k = more_pass is_word_byte (is_in runs.Filled) word_filled (c ∷ cs) (word_bytes (c ∷ cs) w)
    by false w k = more_pass is_ascii_digit (is_in runs.Filled) digit_filled (c ∷ cs) (both_true (list_all is_ascii_digit (c ∷ cs)) (nat_le (length (c ∷ cs)) TEXT_LIMIT) k).0

front_filled : (label : Option (List ℕ)) → (elim label [ None ↦ true | Some l ↦ is_label l ]) ≡ true → list_all (is_in runs.Filled) (elim label [ None ↦ [] | Some l ↦ l ]) ≡ true
front_filled None h = refl
front_filled (Some l) h = label_filled l h

entry_filled : (e : Entry) → is_entry e ≡ true → list_all (is_in runs.Filled) (entry_text e) ≡ true
entry_filled e h =
    let p = both_true (elim e.label [ None ↦ true | Some l ↦ is_label l ]) (is_word e.routine) h in
    list_all-append (is_in runs.Filled) (elim e.label [ None ↦ [] | Some l ↦ l ]) (94 ∷ e.routine)
    ∙ (λ i. front_filled e.label p.0 i && (more_pass is_word_byte (is_in runs.Filled) word_filled e.routine (word_bytes e.routine p.1) i))

-- a start at this entry, behind its values
abbrev started_at : Entry → List ℕ → Option (SharedAsk × List ℕ)
started_at e bs = onward (λ values. timed_by (shared_asks.Start (record { entry = e; values = values }))) (values_in bs)

start_found : (e : Entry) (values : List (Option (List ℕ))) (timeout : Option ℤ) (r : List ℕ) → is_entry e ≡ true → list_all value_fits values ≡ true → timeout_fits timeout ≡ true → FollowsAsk r
    → start_in ((entry_text e ++ 32 ∷ (values_text values ++ timeout_text timeout)) ++ 32 ∷ r) ≡ Some (shared_asks.Start (record { entry = e; values = values }) timeout, 32 ∷ r)
start_found e values timeout r h v t w =
    let rest = (values_text values ++ timeout_text timeout) ++ 32 ∷ r in
    let all = entry_filled e h in
    let f : front runs.Filled (entry_text e ++ 32 ∷ rest) ≡ entry_text e = front_all (is_in runs.Filled) (entry_text e) (32 ∷ rest) all refl in
    let b : behind_bytes runs.Filled (entry_text e ++ 32 ∷ rest) ≡ 32 ∷ rest = rest_all (is_in runs.Filled) (entry_text e) (32 ∷ rest) all refl in
    ap start_in (append_assoc (entry_text e) (32 ∷ (values_text values ++ timeout_text timeout)) (32 ∷ r))
    ∙ (λ i. started (entry_of (f i)) (b i)) ∙ ap (λ o. started o (32 ∷ rest)) (entry_read e h)
    ∙ ap (started_at e) (append_assoc (values_text values) (timeout_text timeout) (32 ∷ r))
    ∙ ap (onward (λ values. timed_by (shared_asks.Start (record { entry = e; values = values })))) (values_found values (timeout_text timeout ++ 32 ∷ r) v)
    ∙ timed_found (shared_asks.Start (record { entry = e; values = values })) timeout r t w

-- ---- ends

pub code_small : (f : Fault) → is_count (code_of f) ≡ true
code_small faults.Undefined = refl
code_small _ = refl

fault_back : (f : Fault) → fault_of (code_of f) ≡ Some f
fault_back faults.Undefined = refl
fault_back _ = refl

halt_found : (f : Option Fault) (r : List ℕ) → FollowsAsk r → halt_in (fault_text f ++ 32 ∷ r) ≡ Some (shared_asks.Halt f, 32 ∷ r)
halt_found None r w = if_not (onward halted (count_in (skipped r))) (Some (shared_asks.Halt None, 32 ∷ r)) w.unfaulted
halt_found (Some f) r w =
    ap (onward halted) (count_found (code_of f) (32 ∷ r) (code_small f) (refl, refl, refl, refl)) ∙ ap (option_map (λ fault. (shared_asks.Halt (Some fault), 32 ∷ r))) (fault_back f)

-- ---- all

-- what is asked of what all share is found
shared_found : (a : SharedAsk) (r : List ℕ) → is_shared_ask a ≡ true → shared_fits a ≡ true → FollowsAsk r → ask_in (shared_text a ++ 32 ∷ r) ≡ Some (asks.Shared a, 32 ∷ r)
shared_found (shared_asks.Access a) r h k w = access_found a r h k
shared_found (shared_asks.Try names timeout) r h k w = let q = both_true (list_all name_fits names) (timeout_fits timeout) k in ap on_shared (try_found names timeout r h q.0 q.1 w)
shared_found (shared_asks.Unlock names) r h k w = ap on_shared (unlock_found names r h k)
shared_found (shared_asks.Begin kinds.Plain) r h k w = ap on_shared (begin_found r w)
shared_found (shared_asks.Open d timeout) r h k w = let q = both_true (is_text V2 d) (timeout_fits timeout) k in ap on_shared (open_found d timeout r q.0 q.1 w)
shared_found (shared_asks.Close d) r h k w = ap on_shared (close_found d r k)
shared_found (shared_asks.Start start timeout) r h k w =
    let q = both_true (list_all value_fits start.values) (timeout_fits timeout) k in ap on_shared (start_found start.entry start.values timeout r h q.0 q.1 w)
shared_found (shared_asks.Halt None) r h k w = ap on_shared (halt_found None r w)
shared_found (shared_asks.Halt (Some f)) r h k w = ap on_shared (halt_found (Some f) r w)
shared_found _ r h k w = refl

-- an ask that can be written, within the limits, is found
pub ask_found : (a : Ask) (r : List ℕ) → is_ask a ≡ true → ask_fits a ≡ true → FollowsAsk r → ask_in (ask_text a ++ 32 ∷ r) ≡ Some (a, 32 ∷ r)
ask_found (asks.Shared a) r h k w = shared_found a r h k w
ask_found (asks.Device d a) r h k w = let q = both_true (is_text V2 d) (device_fits a) k in on_device_found d a r q.0 q.1 w
ask_found (asks.Rest n) r h k w = ap (option_map (λ p. (asks.Rest p.0, p.1))) (number_found n (32 ∷ r) k (refl, refl, refl, refl))
