-- What is found in a line is within the sizes of its values.
use Rattle.std.proofs.Common.{◌≡◌, ◌∙◌, ◌+◌, zero, suc, ℕ, ℤ, pos, negsuc, Bool, true, false, cond, ◌&&◌, List, [], ◌∷◌, length, length-append, Option, Some, None, Ok, Err, refl, ap, arith}
use Rattle.std.specs.Prelude.{nat_lt, nat_le, ◌^◌, codes}
use Rattle.std.specs.Option.{option_map}
use Rattle.std.specs.List.{list_all}
use Rattle.std.specs.Str.{bytes_eq}
use Rattle.std.proofs.lemmas.List.Folds.{list_all-append}
use Rattle.std.proofs.lemmas.Bool.Decides.{nat_tests}
use Rattle.mj_text.specs.declared.fault.Fault.TheVariants as faults
use Rattle.mj_num.specs.Number.{number_of, is_in_range}
use Rattle.mj_subs.specs.Name.{Name, is_word}
use Rattle.mj_store.specs.declared.access.Access.{Access}
use Rattle.mj_store.specs.declared.access.Access.TheVariants as accesses
use Rattle.mj_store.specs.declared.access.Answer.TheVariants as answers_are
use Rattle.mj_ask.specs.Fits.{device_timeout}
use Rattle.mj_ask.specs.Written.{entry_of}
use Rattle.mj_ask.specs.declared.entry.Entry.{Entry}
use Rattle.mj_ask.specs.declared.ask.Kind.TheVariants as kinds
use Rattle.mj_ask.specs.declared.clash.Kept.TheVariants as kepts
use Rattle.mj_ask.specs.declared.ask.Ask.{Ask}
use Rattle.mj_ask.specs.declared.ask.Ask.TheVariants as asks
use Rattle.mj_ask.specs.declared.ask.SharedAsk.{SharedAsk}
use Rattle.mj_ask.specs.declared.ask.SharedAsk.TheVariants as shared_asks
use Rattle.mj_ask.specs.declared.ask.DeviceAsk.{DeviceAsk}
use Rattle.mj_ask.specs.declared.ask.DeviceAsk.TheVariants as device_asks
use Rattle.mj_ask.specs.declared.ask.Reply.{Reply}
use Rattle.mj_ask.specs.declared.ask.Reply.TheVariants as replies
use Rattle.mj_gfile.specs.Reading.{text_at, subscript_at}
use Rattle.mj_text.specs.declared.limit.Limit.TheVariants.{V2}
use Rattle.mj_gfile.specs.Listing.{is_short, limited, text_field, are_bytes, is_text}
use Rattle.mj_gfile.specs.Laws.Texts.{both_true, IsTextAt, text_at-IsTextAt}
use Rattle.mj_gfile.specs.Laws.Names.{IsSubscriptAt, subscript_at-IsSubscriptAt}
use Rattle.mj_trace.specs.Devices.{writes, timed_ask, given_by, AreTimed, timed_alone}
use Rattle.mj_trace.specs.declared.devices.Given.{Given}
use Rattle.mj_trace.specs.declared.devices.Given.TheVariants as givens
use Rattle.mj_trace.specs.declared.run.Run.TheVariants as runs
use Rattle.mj_trace.specs.declared.piece.Piece.{Piece}
use Rattle.mj_trace.specs.declared.piece.Piece.TheVariants as pieces
use Rattle.mj_trace.specs.Reading.{onward, front, behind_bytes, skipped, begins_with, number_read, number_in, below, count_in, code_in, within, text_in, subscript_in, appended, continued, all_more, closed, subscript_more, subscripts_in, with_subscripts, name_of, name_on, name_in, name_more, names_in, node_with, node_in, node_more, subtree_in, value_in, value_more, values_in, timed, timeout_in, timed_by, started, start_in, fault_of, halted, halt_in, way_of, access_with, access_in, begin_in, unlock_in, try_in, open_in, close_in, shared_with, device_with, device_in, asked_of, on_device, rest_in, on_shared, ask_with, ask_in, is_absent, answer_in, number_kept, kept_in, clash_now, clash_then, clash_in, job_in, given_as, given_in, done_of, limit_of, reply_in}
use Rattle.mj_ask.specs.declared.noted.Spot.{Spot}
use Rattle.mj_trace.specs.declared.form.Form.{Form}
use Rattle.mj_trace.specs.declared.form.Form.TheVariants.{First, Second}
use Rattle.mj_trace.specs.Reading.{line_of, line_behind, spot_in}
use Rattle.mj_trace.specs.Lines.{piece_text, is_piece, replied, told_in, asked, placed, event_in, counted, pooled, starting, piece_with, piece_in, respelled, piece_of}
use Rattle.mj_trace.specs.Sized.{is_count, is_code, are_texts, name_fits, nodes_fit, access_fits, timeout_fits, value_fits, shared_fits, device_fits, ask_fits, answer_fits, kept_fits, reply_fits, spot_fits}
use Rattle.mj_trace.specs.Refused.{is_sized}

-- ---- what passes a test, if there is anything

abbrev Passes : {A : Type 0} → (A → Bool) → Option A → Type 0
Passes p None = Unit {0}
Passes p (Some x) = p x ≡ true

-- what is found passes a test, if anything is
abbrev Finds : {A : Type 0} → (A → Bool) → Option (A × List ℕ) → Type 0
Finds {A} p o = Passes {A = A × List ℕ} (λ x. p x.0) o

passes_any : {A : Type 0} (o : Option A) → Passes (λ x. true) o
passes_any None = tt
passes_any (Some x) = refl

passes_on : {A B : Type 0} (p : A → Bool) (q : B → Bool) (f : A → List ℕ → Option B) (o : Option (A × List ℕ)) → Finds p o
    → ((a : A) (r : List ℕ) → p a ≡ true → Passes q (f a r)) → Passes q (onward f o)
passes_on p q f None h k = tt
passes_on p q f (Some x) h k = k x.0 x.1 h

passes_as : {A B : Type 0} (p : A → Bool) (q : B → Bool) (f : A → B) (o : Option A) → Passes p o → ((a : A) → p a ≡ true → q (f a) ≡ true) → Passes q (option_map f o)
passes_as p q f None h k = tt
passes_as p q f (Some x) h k = k x h

passes_if : {A : Type 0} (q : A → Bool) (b : Bool) (x y : Option A) → Passes q x → Passes q y → Passes q (cond b x y)
passes_if q true x y h k = h
passes_if q false x y h k = k

-- ---- numbers

number_passes : (z : ℤ) (rest : List ℕ) (b : Bool) → is_in_range z ≡ b → Finds is_in_range (number_read (cond b (Ok z) (Err faults.Range)) rest)
number_passes z rest true h = h
number_passes z rest false h = tt

number_fits : (bs : List ℕ) → Finds is_in_range (number_in bs)
number_fits bs = let z = number_of (front runs.Number bs) in number_passes z (behind_bytes runs.Number bs) (is_in_range z) refl

below_if : (limit n : ℕ) (rest : List ℕ) (b : Bool) → nat_lt n limit ≡ b → Finds (λ n. nat_lt n limit) (cond b (Some (n, rest)) None)
below_if limit n rest true h = h
below_if limit n rest false h = tt

below_passes : (limit : ℕ) (o : Option (ℤ × List ℕ)) → Finds (λ n. nat_lt n limit) (onward (below limit) o)
below_passes limit None = tt
below_passes limit (Some (pos n, rest)) = below_if limit n rest (nat_lt n limit) refl
below_passes limit (Some (negsuc n, rest)) = tt

count_fits : (bs : List ℕ) → Finds is_count (count_in bs)
count_fits bs = below_passes (2 ^ 32) (number_in bs)

code_fits : (bs : List ℕ) → Finds is_code (code_in bs)
code_fits bs = below_passes 256 (number_in bs)

-- ---- texts and subscripts

short_if : (t rest : List ℕ) (b : Bool) → are_bytes t ≡ true → is_short V2 t ≡ b → Finds (is_text V2) (within (Some (limited b t, rest)))
short_if t rest true h k = λ i. k i && h i
short_if t rest false h k = tt

short_passes : (o : Option (List ℕ × List ℕ)) → Finds are_bytes o → Finds (is_text V2) (within (text_field V2 o))
short_passes None h = tt
short_passes (Some x) h = short_if x.0 x.1 (is_short V2 x.0) h refl

text_bytes : (bs : List ℕ) (o : Option (List ℕ × List ℕ)) → IsTextAt bs o → Finds are_bytes o
text_bytes bs None h = tt
text_bytes bs (Some x) h = h.1

subscript_bytes : (bs : List ℕ) (o : Option (List ℕ × List ℕ)) → IsSubscriptAt bs o → Finds are_bytes o
subscript_bytes bs None h = tt
subscript_bytes bs (Some x) h = h.1.bytes

text_fits : (bs : List ℕ) → Finds (is_text V2) (text_in bs)
text_fits bs = short_passes (text_at bs) (text_bytes bs (text_at bs) (text_at-IsTextAt bs))

subscript_fits : (bs : List ℕ) → Finds (is_text V2) (subscript_in bs)
subscript_fits bs =
    passes_if (λ x. is_text V2 x.0) (begins_with 34 bs) (text_in bs) (within (text_field V2 (subscript_at bs))) (text_fits bs)
    (short_passes (subscript_at bs) (subscript_bytes bs (subscript_at bs) (subscript_at-IsSubscriptAt bs)))

-- ---- lists

-- a list to which what is found is put passes a test
module _ {A : Type 0} (q : A → Bool) (one : A → List ℕ → Option (A × List ℕ)) (step : (a : A) (bs : List ℕ) → q a ≡ true → Finds q (one a bs)) where
  on_passes : (more : A → List ℕ → Option (A × List ℕ)) → ((a : A) (bs : List ℕ) → q a ≡ true → Finds q (more a bs)) → (o : Option (A × List ℕ)) → Finds q o
      → Finds q (continued more o)
  on_passes more k None h = tt
  on_passes more k (Some x) h = passes_if (λ y. q y.0) (begins_with 44 x.1) (more x.0 (skipped x.1)) (Some x) (k x.0 (skipped x.1) h) h

  all_pass : (k : ℕ) (a : A) (bs : List ℕ) → q a ≡ true → Finds q (all_more one k a bs)
  unfolding all_more
  all_pass zero a bs h = tt
  all_pass (suc k) a bs h = on_passes (all_more one k) (λ b r. all_pass k b r) (one a bs) (step a bs h)

  closed_passes : (close : ℕ) (none : A) (bs : List ℕ) → q none ≡ true → Finds q (closed one close none bs)
  closed_passes close none bs h =
      passes_if (λ x. q x.0) (begins_with close bs) (Some (none, skipped bs)) (option_map (λ p. (p.0, skipped p.1)) (all_more one (length bs + 1) none bs)) h
      (passes_as (λ x. q x.0) (λ x. q x.0) (λ p. (p.0, skipped p.1)) (all_more one (length bs + 1) none bs) (all_pass (length bs + 1) none bs h) (λ x k. k))

-- one more that passes is put to a list of which all pass
appended_passes : {A : Type 0} (p : A → Bool) (xs : List A) (o : Option (A × List ℕ)) → list_all p xs ≡ true → Finds p o → Finds (list_all p) (appended true xs o)
appended_passes p xs None h k = tt
appended_passes p xs (Some x) h k = list_all-append p xs (x.0 ∷ []) ∙ (λ i. h i && (k i && true))

-- subscripts of a name: no more than there may be
are_few : List (List ℕ) → Bool
are_few ss = nat_le (length ss) 31 && are_texts ss

one_more : (n : ℕ) → nat_lt n 31 ≡ true → nat_le (n + 1) 31 ≡ true
one_more n h = grind (arith, nat_tests)

few_if : (ss : List (List ℕ)) (b : Bool) → nat_lt (length ss) 31 ≡ b → are_few ss ≡ true → (o : Option (List ℕ × List ℕ)) → Finds (is_text V2) o → Finds are_few (appended b ss o)
unfolding are_few
few_if ss b h k None t = tt
few_if ss false h k (Some x) t = tt
few_if ss true h k (Some x) t =
    let p = both_true (nat_le (length ss) 31) (are_texts ss) k in
    let long = ap (λ n. nat_le n 31) (length-append ss (x.0 ∷ [])) ∙ one_more (length ss) h in
    let all = list_all-append (is_text V2) ss (x.0 ∷ []) ∙ (λ i. p.1 i && (t i && true)) in
    λ i. long i && all i

subscripts_fit : (bs : List ℕ) → Finds are_few (subscripts_in bs)
unfolding are_few
subscripts_fit bs =
    closed_passes are_few subscript_more (λ ss r h. few_if ss (nat_lt (length ss) 31) refl h (subscript_in r) (subscript_fits r)) 41 [] bs refl

-- ---- names

name_has : (ss : List (List ℕ)) → are_few ss ≡ true → are_texts ss ≡ true
unfolding are_few
name_has ss h = (both_true (nat_le (length ss) 31) (are_texts ss) h).1

of_word : (global : Bool) (word rest : List ℕ) → Finds name_fits (name_of global word rest)
of_word global word rest =
    let listed = onward (with_subscripts global word) (subscripts_in (skipped rest)) in
    let bare = with_subscripts global word [] rest in
    passes_if (λ x. name_fits x.0) (is_word word) (cond (begins_with 40 rest) listed bare) None
    (passes_if (λ x. name_fits x.0) (begins_with 40 rest) listed bare
    (passes_on are_few (λ x. name_fits x.0) (with_subscripts global word) (subscripts_in (skipped rest)) (subscripts_fit (skipped rest)) (λ ss r h. name_has ss h)) refl) tt

name_found_fits : (bs : List ℕ) → Finds name_fits (name_in bs)
name_found_fits bs =
    passes_if (λ x. name_fits x.0) (begins_with 94 bs) (name_on true (skipped bs)) (name_on false bs)
    (of_word true (front runs.Word (skipped bs)) (behind_bytes runs.Word (skipped bs))) (of_word false (front runs.Word bs) (behind_bytes runs.Word bs))

names_more : (names : List Name) (bs : List ℕ) → list_all name_fits names ≡ true → Finds (list_all name_fits) (name_more names bs)
names_more names bs h = appended_passes name_fits names (name_in bs) h (name_found_fits bs)

names_fit : (bs : List ℕ) → Finds (list_all name_fits) (names_in bs)
names_fit bs =
    on_passes (list_all name_fits) name_more names_more (λ names rest. all_more name_more (length rest + 1) names rest)
    (λ names rest h. all_pass (list_all name_fits) name_more names_more (length rest + 1) names rest h) (name_more [] bs) (names_more [] bs refl)

-- ---- nodes and values

is_node_sized : List (List ℕ) × List ℕ → Bool
is_node_sized e = nat_le (length e.0) 31 && are_texts e.0 && is_text V2 e.1

node_fits : (bs : List ℕ) → Finds is_node_sized (node_in bs)
unfolding is_node_sized are_few
node_fits bs =
    passes_on are_few (λ x. is_node_sized x.0) node_with (subscripts_in (skipped bs)) (subscripts_fit (skipped bs))
    (λ place r h. passes_as (λ x. is_text V2 x.0) (λ x. is_node_sized x.0) (λ p. ((place, p.0), p.1)) (text_in (skipped r)) (text_fits (skipped r)) (λ t k. λ i. h i && k i))

subtree_fits : (bs : List ℕ) → Finds nodes_fit (subtree_in bs)
unfolding is_node_sized
subtree_fits bs = closed_passes nodes_fit node_more (λ nodes r h. appended_passes is_node_sized nodes (node_in r) h (node_fits r)) 125 [] (skipped bs) refl

value_found_fits : (bs : List ℕ) → Finds value_fits (value_in bs)
value_found_fits bs =
    let given = option_map (λ p. (Some p.0, p.1)) (text_in bs) in
    passes_if (λ x. value_fits x.0) (begins_with 45 bs) (Some (None, skipped bs)) given refl
    (passes_as (λ x. is_text V2 x.0) (λ x. value_fits x.0) (λ p. (Some p.0, p.1)) (text_in bs) (text_fits bs) (λ t k. k))

values_fit : (bs : List ℕ) → Finds (list_all value_fits) (values_in bs)
values_fit bs = closed_passes (list_all value_fits) value_more (λ values r h. appended_passes value_fits values (value_in r) h (value_found_fits r)) 41 [] (skipped bs) refl

-- ---- timeouts

timed_fits : (bs : List ℕ) (o : Option (ℤ × List ℕ)) → Finds is_in_range o → timeout_fits (timed bs o).0 ≡ true
timed_fits bs None h = refl
timed_fits bs (Some x) h = h

timeout_found_fits : (bs : List ℕ) → timeout_fits (timeout_in bs).0 ≡ true
timeout_found_fits bs = by (begins_with 58 (skipped bs))
  where
    by : (b : Bool) → timeout_fits (cond b (timed bs (number_in (skipped (skipped bs)))) (None, bs)).0 ≡ true
    by true = timed_fits bs (number_in (skipped (skipped bs))) (number_fits (skipped (skipped bs)))
    by false = refl

timed_passes : {A : Type 0} (q : A → Bool) (ask : Option ℤ → A) (bs : List ℕ) → ((t : Option ℤ) → timeout_fits t ≡ true → q (ask t) ≡ true) → Finds q (timed_by ask bs)
timed_passes q ask bs k = k (timeout_in bs).0 (timeout_found_fits bs)

-- ---- what is asked of what all jobs share

start_with : (o : Option Entry) (rest : List ℕ) → Finds shared_fits (started o rest)
start_with None rest = tt
start_with (Some entry) rest =
    passes_on (list_all value_fits) (λ x. shared_fits x.0) (λ values. timed_by (shared_asks.Start (record { entry = entry; values = values }))) (values_in (skipped rest)) (values_fit (skipped rest))
    (λ values r h. timed_passes shared_fits (shared_asks.Start (record { entry = entry; values = values })) r (λ t k. λ i. h i && k i))

halt_fits : (bs : List ℕ) → Finds shared_fits (halt_in bs)
halt_fits bs =
    let numbered = onward halted (count_in (skipped (skipped bs))) in
    passes_if (λ x. shared_fits x.0) (begins_with 70 (skipped bs)) numbered (Some (shared_asks.Halt None, bs))
    (passes_on is_count (λ x. shared_fits x.0) halted (count_in (skipped (skipped bs))) (count_fits (skipped (skipped bs)))
    (λ n r h. passes_as (λ fault. true) (λ x. shared_fits x.0) (λ fault. (shared_asks.Halt (Some fault), r)) (fault_of n) (passes_any (fault_of n)) (λ fault k. refl)))
    refl

module _ (word : List ℕ) (name : Name) (rest : List ℕ) (h : name_fits name ≡ true) where
  put_fits : Finds access_fits (cond (bytes_eq word (codes "put")) (option_map (λ p. (accesses.Put name p.0, p.1)) (subtree_in (skipped rest))) None)
  put_fits =
      passes_if (λ x. access_fits x.0) (bytes_eq word (codes "put")) (option_map (λ p. (accesses.Put name p.0, p.1)) (subtree_in (skipped rest))) None
      (passes_as (λ x. nodes_fit x.0) (λ x. access_fits x.0) (λ p. (accesses.Put name p.0, p.1)) (subtree_in (skipped rest)) (subtree_fits (skipped rest)) (λ x k. λ i. h i && k i)) tt

  set_fits : Finds access_fits (option_map (λ p. (accesses.Set name p.0, p.1)) (text_in (skipped rest)))
  set_fits = passes_as (λ x. is_text V2 x.0) (λ x. access_fits x.0) (λ p. (accesses.Set name p.0, p.1)) (text_in (skipped rest)) (text_fits (skipped rest)) (λ x k. λ i. h i && k i)

  order_fits : Finds access_fits (option_map (λ p. (accesses.Order name (way_of p.0), p.1)) (number_in (skipped rest)))
  order_fits = passes_as (λ x. true) (λ x. access_fits x.0) (λ p. (accesses.Order name (way_of p.0), p.1)) (number_in (skipped rest)) (passes_any (number_in (skipped rest))) (λ x k. h)

  -- each way to go on, by the word
  chosen : (a b c d e f g : Bool) (put : Option (Access × List ℕ)) → Finds access_fits put
      → Finds access_fits
      (cond a (Some (accesses.Value name, rest))
      (cond b (Some (accesses.Data name, rest))
      (cond c (Some (accesses.Query name, rest))
      (cond d (Some (accesses.Subtree name, rest))
      (cond e (Some (accesses.Kill name, rest))
      (cond f (option_map (λ p. (accesses.Order name (way_of p.0), p.1)) (number_in (skipped rest)))
      (cond g (option_map (λ p. (accesses.Set name p.0, p.1)) (text_in (skipped rest))) put)))))))
  chosen true b c d e f g put k = h
  chosen false true c d e f g put k = h
  chosen false false true d e f g put k = h
  chosen false false false true e f g put k = h
  chosen false false false false true f g put k = h
  chosen false false false false false true g put k = order_fits
  chosen false false false false false false true put k = set_fits
  chosen false false false false false false false put k = k

  access_word_fits : Finds access_fits (access_with word name rest)
  access_word_fits =
      chosen (bytes_eq word (codes "value")) (bytes_eq word (codes "data")) (bytes_eq word (codes "query")) (bytes_eq word (codes "subtree")) (bytes_eq word (codes "kill"))
      (bytes_eq word (codes "order")) (bytes_eq word (codes "set"))
      (cond (bytes_eq word (codes "put")) (option_map (λ p. (accesses.Put name p.0, p.1)) (subtree_in (skipped rest))) None) put_fits

access_found_fits : (word bs : List ℕ) → Finds shared_fits (access_in word bs)
access_found_fits word bs =
    passes_as (λ x. access_fits x.0) (λ x. shared_fits x.0) (λ p. (shared_asks.Access p.0, p.1)) (onward (access_with word) (name_in bs))
    (passes_on name_fits (λ x. access_fits x.0) (access_with word) (name_in bs) (name_found_fits bs) (λ n r h. access_word_fits word n r h)) (λ x k. k)

begin_fits : (rest word more : List ℕ) → Finds shared_fits (begin_in rest word more)
begin_fits rest word more =
    passes_if (λ x. shared_fits x.0) (bytes_eq word (codes "serial")) (Some (shared_asks.Begin kinds.Serial, more)) (Some (shared_asks.Begin kinds.Plain, rest)) refl refl

unlock_fits : (bs : List ℕ) → Finds shared_fits (unlock_in bs)
unlock_fits bs =
    passes_if (λ x. shared_fits x.0) (begins_with 42 bs) _ (option_map (λ p. (shared_asks.Unlock p.0, p.1)) (names_in bs)) refl
    (passes_as (λ x. list_all name_fits x.0) (λ x. shared_fits x.0) (λ p. (shared_asks.Unlock p.0, p.1)) (names_in bs) (names_fit bs) (λ x k. k))

try_fits : (bs : List ℕ) → Finds shared_fits (try_in bs)
try_fits bs =
    passes_on (list_all name_fits) (λ x. shared_fits x.0) (λ names. timed_by (shared_asks.Try names)) (names_in bs) (names_fit bs)
    (λ names r h. timed_passes shared_fits (shared_asks.Try names) r (λ t k. λ i. h i && k i))

open_fits : (bs : List ℕ) → Finds shared_fits (open_in bs)
open_fits bs =
    passes_on (is_text V2) (λ x. shared_fits x.0) (λ device. timed_by (shared_asks.Open device)) (text_in bs) (text_fits bs)
    (λ device r h. timed_passes shared_fits (shared_asks.Open device) r (λ t k. λ i. h i && k i))

close_fits : (bs : List ℕ) → Finds shared_fits (close_in bs)
close_fits bs = passes_as (λ x. is_text V2 x.0) (λ x. shared_fits x.0) (λ p. (shared_asks.Close p.0, p.1)) (text_in bs) (text_fits bs) (λ x k. k)

shared_found_fits : (word rest : List ℕ) → Finds shared_fits (shared_with word rest)
shared_found_fits word rest =
    chosen_word (bytes_eq word (codes "try")) (bytes_eq word (codes "unlock")) (bytes_eq word (codes "begin")) (bytes_eq word (codes "commit")) (bytes_eq word (codes "rollback"))
    (bytes_eq word (codes "open")) (bytes_eq word (codes "close")) (bytes_eq word (codes "start")) (bytes_eq word (codes "halt"))
  where
    chosen_word : (a b c d e f g h j : Bool) → Finds shared_fits
        (cond a (try_in (skipped rest))
        (cond b (unlock_in (skipped rest))
        (cond c (begin_in rest (front runs.Letters (skipped rest)) (behind_bytes runs.Letters (skipped rest)))
        (cond d (Some (shared_asks.Commit, rest))
        (cond e (Some (shared_asks.Rollback, rest))
        (cond f (open_in (skipped rest))
        (cond g (close_in (skipped rest))
        (cond h (start_in (skipped rest))
        (cond j (halt_in rest) (access_in word (skipped rest)))))))))))
    chosen_word true b c d e f g h j = try_fits (skipped rest)
    chosen_word false true c d e f g h j = unlock_fits (skipped rest)
    chosen_word false false true d e f g h j = begin_fits rest (front runs.Letters (skipped rest)) (behind_bytes runs.Letters (skipped rest))
    chosen_word false false false true e f g h j = refl
    chosen_word false false false false true f g h j = refl
    chosen_word false false false false false true g h j = open_fits (skipped rest)
    chosen_word false false false false false false true h j = close_fits (skipped rest)
    chosen_word false false false false false false false true j = start_with (entry_of (front runs.Filled (skipped rest))) (behind_bytes runs.Filled (skipped rest))
    chosen_word false false false false false false false false true = halt_fits rest
    chosen_word false false false false false false false false false = access_found_fits word (skipped rest)

-- ---- what is asked of a session of a device, and asks

-- what writes nothing is within its sizes by its timeout
fits_timed : (a : DeviceAsk) → writes a ≡ false → timeout_fits (device_timeout a) ≡ true → device_fits a ≡ true
fits_timed (device_asks.Write t) n k = absurd cc
fits_timed _ n k = k

timed_fit : (o : Option DeviceAsk) → AreTimed timeout_fits o → Passes device_fits o
timed_fit None h = tt
timed_fit (Some a) h = fits_timed a h.0 h.1

device_word_fits : (word rest : List ℕ) → Finds device_fits (device_with word rest)
device_word_fits word rest =
    let timed = timed_ask word (timeout_in rest).0 in
    passes_if (λ x. device_fits x.0) (bytes_eq word (codes "write")) (option_map (λ p. (device_asks.Write p.0, p.1)) (text_in (skipped rest))) (option_map (λ a. (a, (timeout_in rest).1)) timed)
    (passes_as (λ x. is_text V2 x.0) (λ x. device_fits x.0) (λ p. (device_asks.Write p.0, p.1)) (text_in (skipped rest)) (text_fits (skipped rest)) (λ x k. k))
    (passes_as device_fits (λ x. device_fits x.0) (λ a. (a, (timeout_in rest).1)) timed
    (timed_fit timed (timed_alone timeout_fits word (timeout_in rest).0 refl (timeout_found_fits rest))) (λ a k. k))

on_device_fits : (bs : List ℕ) → Finds ask_fits (on_device bs)
on_device_fits bs =
    passes_on (is_text V2) (λ x. ask_fits x.0) asked_of (text_in bs) (text_fits bs)
    (λ device r h. passes_as (λ x. device_fits x.0) (λ x. ask_fits x.0) (λ p. (asks.Device device p.0, p.1)) (device_in (skipped r))
    (device_word_fits (front runs.Letters (skipped r)) (behind_bytes runs.Letters (skipped r))) (λ x k. λ i. h i && k i))

rest_fits : (bs : List ℕ) → Finds ask_fits (rest_in bs)
rest_fits bs = passes_as (λ x. is_in_range x.0) (λ x. ask_fits x.0) (λ p. (asks.Rest p.0, p.1)) (number_in bs) (number_fits bs) (λ x k. k)

on_shared_fits : (o : Option (SharedAsk × List ℕ)) → Finds shared_fits o → Finds ask_fits (on_shared o)
on_shared_fits o h = passes_as (λ x. shared_fits x.0) (λ x. ask_fits x.0) (λ p. (asks.Shared p.0, p.1)) o h (λ x k. k)

ask_word_fits : (word rest : List ℕ) → Finds ask_fits (ask_with word rest)
ask_word_fits word rest = by (bytes_eq word (codes "dev")) (bytes_eq word (codes "rest"))
  where
    by : (a b : Bool) → Finds ask_fits (cond a (on_device (skipped rest)) (cond b (rest_in (skipped rest)) (on_shared (shared_with word rest))))
    by true b = on_device_fits (skipped rest)
    by false true = rest_fits (skipped rest)
    by false false = on_shared_fits (shared_with word rest) (shared_found_fits word rest)

ask_found_fits : (bs : List ℕ) → Finds ask_fits (ask_in bs)
ask_found_fits bs = ask_word_fits (front runs.Letters bs) (behind_bytes runs.Letters bs)

-- ---- replies

answer_found_fits : (a : Access) (bs : List ℕ) → Passes answer_fits (answer_in a bs)
answer_found_fits (accesses.Value n) bs =
    passes_if answer_fits (is_absent bs) (Some (answers_are.Value None)) (option_map (λ p. answers_are.Value (Some p.0)) (text_in bs)) refl
    (passes_as (λ x. is_text V2 x.0) answer_fits (λ p. answers_are.Value (Some p.0)) (text_in bs) (text_fits bs) (λ x k. k))
answer_found_fits (accesses.Data n) bs = passes_as (λ x. is_code x.0) answer_fits (λ p. answers_are.Data p.0) (code_in bs) (code_fits bs) (λ x k. k)
answer_found_fits (accesses.Order n way) bs =
    passes_if answer_fits (is_absent bs) (Some (answers_are.Order None)) (option_map (λ p. answers_are.Order (Some p.0)) (subscript_in bs)) refl
    (passes_as (λ x. is_text V2 x.0) answer_fits (λ p. answers_are.Order (Some p.0)) (subscript_in bs) (subscript_fits bs) (λ x k. k))
answer_found_fits (accesses.Query n) bs =
    passes_if answer_fits (is_absent bs) (Some (answers_are.Query None)) (option_map (λ p. answers_are.Query (Some p.0)) (name_in bs)) refl
    (passes_as (λ x. name_fits x.0) answer_fits (λ p. answers_are.Query (Some p.0)) (name_in bs) (name_found_fits bs) (λ x k. k))
answer_found_fits (accesses.Subtree n) bs = passes_as (λ x. nodes_fit x.0) answer_fits (λ p. answers_are.Subtree p.0) (subtree_in bs) (subtree_fits bs) (λ x k. k)
answer_found_fits (accesses.Set n t) bs = tt
answer_found_fits (accesses.Kill n) bs = tt
answer_found_fits (accesses.Put n nodes) bs = tt

number_kept_fits : (bs : List ℕ) → Finds kept_fits (number_kept bs)
number_kept_fits bs =
    passes_if (λ x. kept_fits x.0) (is_absent (front runs.Number bs)) (Some (kepts.Nothing, behind_bytes runs.Number bs)) (option_map (λ p. (kepts.Number p.0, p.1)) (number_in bs)) refl
    (passes_as (λ x. is_in_range x.0) (λ x. kept_fits x.0) (λ p. (kepts.Number p.0, p.1)) (number_in bs) (number_fits bs) (λ x k. k))

kept_found_fits : (bs : List ℕ) → Finds kept_fits (kept_in bs)
kept_found_fits bs = by (begins_with 34 bs) (begins_with 94 bs) (begins_with 123 bs)
  where
    by : (a b c : Bool) → Finds kept_fits
        (cond a (option_map (λ p. (kepts.Text p.0, p.1)) (text_in bs))
        (cond b (option_map (λ p. (kepts.Name p.0, p.1)) (name_in bs))
        (cond c (option_map (λ p. (kepts.Subtree p.0, p.1)) (subtree_in bs)) (number_kept bs))))
    by true b c = passes_as (λ x. is_text V2 x.0) (λ x. kept_fits x.0) (λ p. (kepts.Text p.0, p.1)) (text_in bs) (text_fits bs) (λ x k. k)
    by false true c = passes_as (λ x. name_fits x.0) (λ x. kept_fits x.0) (λ p. (kepts.Name p.0, p.1)) (name_in bs) (name_found_fits bs) (λ x k. k)
    by false false true = passes_as (λ x. nodes_fit x.0) (λ x. kept_fits x.0) (λ p. (kepts.Subtree p.0, p.1)) (subtree_in bs) (subtree_fits bs) (λ x k. k)
    by false false false = number_kept_fits bs

clash_fits : (bs : List ℕ) → Passes reply_fits (clash_in bs)
clash_fits bs =
    let at = skipped (behind_bytes runs.Letters bs) in
    passes_on is_count reply_fits clash_then (count_in at) (count_fits at)
    (λ place r h. passes_on kept_fits reply_fits (clash_now place) (kept_in (skipped r)) (kept_found_fits (skipped r))
    (λ kept s k. passes_as (λ x. kept_fits x.0) reply_fits (λ p. replies.Clash (record { place = place; then = kept; now = p.0 })) (kept_in (skipped s)) (kept_found_fits (skipped s))
    (λ x j. λ i. (h i && k i) && j i)))

job_fits : (bs : List ℕ) → Passes reply_fits (job_in bs)
job_fits bs = let at = skipped (behind_bytes runs.Letters bs) in passes_as (λ x. is_count x.0) reply_fits (λ p. replies.Job p.0) (count_in at) (count_fits at) (λ x k. k)

device_given_fits : (given : Given) (bs : List ℕ) → Passes reply_fits (given_as given bs)
device_given_fits givens.Nothing bs = tt
device_given_fits givens.Text bs = passes_as (λ x. is_text V2 x.0) reply_fits (λ p. replies.Line p.0) (text_in bs) (text_fits bs) (λ x k. k)
device_given_fits givens.Code bs = passes_as (λ x. is_code x.0) reply_fits (λ p. replies.Byte p.0) (code_in bs) (code_fits bs) (λ x k. k)

given_fits : (a : Ask) (bs : List ℕ) → Passes reply_fits (given_in a bs)
given_fits (asks.Shared (shared_asks.Access a)) bs = passes_as answer_fits reply_fits replies.Answer (answer_in a bs) (answer_found_fits a bs) (λ x k. k)
given_fits (asks.Device device a) bs = device_given_fits (given_by a) bs
given_fits (asks.Shared (shared_asks.Start start timeout)) bs = job_fits bs
given_fits (asks.Shared shared_asks.Commit) bs = clash_fits bs
given_fits _ bs = tt

done_fits : (a : Ask) → reply_fits (done_of a) ≡ true
done_fits (asks.Shared (shared_asks.Access a)) = refl
done_fits _ = refl

limit_fits : (a : Ask) → reply_fits (limit_of a) ≡ true
limit_fits (asks.Shared (shared_asks.Access a)) = refl
limit_fits _ = refl

reply_found_fits : (a : Ask) (bs : List ℕ) → Passes reply_fits (reply_in a bs)
reply_found_fits a bs =
    chosen_word (bytes_eq bs (codes "done")) (bytes_eq bs (codes "limit")) (bytes_eq bs (codes "got")) (bytes_eq bs (codes "late")) (bytes_eq bs (codes "none"))
    (bytes_eq bs (codes "failed")) (bytes_eq bs (codes "end"))
  where
    chosen_word : (b c d e f g h : Bool) → Passes reply_fits
        (cond b (Some (done_of a))
        (cond c (Some (limit_of a))
        (cond d (Some replies.Got)
        (cond e (Some replies.Late)
        (cond f (Some replies.NoSession)
        (cond g (Some replies.Failed)
        (cond h (Some replies.End) (given_in a bs))))))))
    chosen_word true c d e f g h = done_fits a
    chosen_word false true d e f g h = limit_fits a
    chosen_word false false true e f g h = refl
    chosen_word false false false true f g h = refl
    chosen_word false false false false true g h = refl
    chosen_word false false false false false true h = refl
    chosen_word false false false false false false true = refl
    chosen_word false false false false false false false = given_fits a bs

-- ---- lines

spot_found_fits : (bs : List ℕ) → Finds spot_fits (spot_in bs)
spot_found_fits bs =
    passes_if (λ x. spot_fits x.0) (begins_with 45 bs) (Some (None, skipped bs)) (line_behind (front runs.Word bs) (behind_bytes runs.Word bs)) refl
    (passes_if (λ x. spot_fits x.0) (is_word (front runs.Word bs)) (option_map (line_of (front runs.Word bs)) (count_in (skipped (behind_bytes runs.Word bs)))) None
    (passes_as (λ x. is_count x.0) (λ x. spot_fits x.0) (line_of (front runs.Word bs)) (count_in (skipped (behind_bytes runs.Word bs)))
    (count_fits (skipped (behind_bytes runs.Word bs))) (λ p k. k)) tt)

-- an ask and its reply
both_fit : Ask × Reply → Bool
both_fit told = ask_fits told.0 && reply_fits told.1

told_fits : (bs : List ℕ) → Passes both_fit (told_in bs)
unfolding both_fit
told_fits bs = passes_on ask_fits both_fit replied (ask_in bs) (ask_found_fits bs)
    (λ ask s k. passes_as reply_fits both_fit (λ reply. (ask, reply)) (reply_in ask (skipped s)) (reply_found_fits ask (skipped s)) (λ reply j. λ i. k i && j i))

asked_fits : (job : ℕ) (spot : Option Spot) (bs : List ℕ) → is_count job ≡ true → spot_fits spot ≡ true → Passes is_sized (asked job spot bs)
unfolding both_fit
asked_fits job spot bs h k =
    passes_as both_fit is_sized (λ told. pieces.Event (record { job = job; spot = spot; ask = told.0; reply = told.1 })) (told_in (skipped bs)) (told_fits (skipped bs))
    (λ told j. let p = both_true (ask_fits told.0) (reply_fits told.1) j in λ i. ((h i && k i) && p.0 i) && p.1 i)

placed_fits : (form : Form) (job : ℕ) (bs : List ℕ) → is_count job ≡ true → Passes is_sized (placed form job bs)
placed_fits First job bs h = asked_fits job None bs h refl
placed_fits (Second limit) job bs h = passes_on spot_fits is_sized (asked job) (spot_in (skipped bs)) (spot_found_fits (skipped bs)) (λ spot r k. asked_fits job spot r h k)

event_fits : (form : Form) (line : List ℕ) → Passes is_sized (event_in form line)
event_fits form line = passes_on is_count is_sized (placed form) (count_in line) (count_fits line) (λ job r h. placed_fits form job r h)

device_piece_fits : (bs : List ℕ) → Passes is_sized (pooled bs)
device_piece_fits bs =
    passes_on (is_text V2) is_sized counted (text_in bs) (text_fits bs)
    (λ name r h. passes_as (λ x. is_count x.0) is_sized (λ p. pieces.Device name p.0) (count_in (skipped r)) (count_fits (skipped r)) (λ x k. λ i. h i && k i))

start_piece_fits : (bs : List ℕ) → Passes is_sized (starting bs)
start_piece_fits bs = passes_as (λ entry. true) is_sized pieces.Start (entry_of bs) (passes_any (entry_of bs)) (λ entry k. refl)

any_piece_fits : (form : Form) (line word rest : List ℕ) → Passes is_sized (piece_with form line word rest)
any_piece_fits form line word rest = by (bytes_eq word (codes "pool")) (bytes_eq word (codes "start"))
  where
    by : (a b : Bool) → Passes is_sized (cond a (pooled (skipped rest)) (cond b (starting (skipped rest)) (event_in form line)))
    by true b = device_piece_fits (skipped rest)
    by false true = start_piece_fits (skipped rest)
    by false false = event_fits form line

respelled_fits : (form : Form) (line : List ℕ) (o : Option Piece) → Passes is_sized o → Passes is_sized (respelled form line o)
respelled_fits form line None h = tt
respelled_fits form line (Some p) h = passes_if is_sized (is_piece form p && bytes_eq (piece_text form p) line) (Some p) None h tt

found_is : (p : Piece) (o : Option Piece) → Passes is_sized o → o ≡ Some p → is_sized p ≡ true
found_is p None h e = absurd cc
found_is p (Some q) h e = ap is_sized (let same : p ≡ q = cc in same) ∙ h

-- what a line says is within the sizes of its values
pub piece_fits : (form : Form) (line : List ℕ) (p : Piece) → piece_of form line ≡ Some p → is_sized p ≡ true
piece_fits form line p e =
    found_is p (piece_of form line) (respelled_fits form line (piece_in form line) (any_piece_fits form line (front runs.Letters line) (behind_bytes runs.Letters line))) e
