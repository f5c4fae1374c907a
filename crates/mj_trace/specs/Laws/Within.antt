-- No line that is spelled holds byte 10.
use Rattle.std.proofs.Common.{◌≡◌, ℕ, ℤ, pos, Bool, true, false, ◌&&◌, List, [], ◌∷◌, ◌++◌, length, Option, Some, None, refl, arith}
use Rattle.std.specs.Prelude.{◌||◌, nat_lt, nat_le, decimal}
use Rattle.std.specs.List.{list_all}
use Rattle.std.specs.Fmt.{signed_decimal}
use Rattle.std.specs.Char.{is_ascii_digit}
use Rattle.std.proofs.lemmas.Bool.Decides.{nat_tests}
use Rattle.mj_text.specs.Fault.{code_of}
use Rattle.mj_text.specs.declared.text.TheConstants.{TEXT_LIMIT}
use Rattle.mj_num.specs.Number.{is_in_range}
use Rattle.mj_subs.specs.Name.{Name, is_word}
use Rattle.mj_nref.specs.Spelling.{word_text}
use Rattle.mj_store.specs.Questions.{Subtree}
use Rattle.mj_store.specs.declared.store.Direction.{Direction}
use Rattle.mj_store.specs.declared.store.Direction.TheVariants as directions
use Rattle.mj_store.specs.declared.access.Access.{Access}
use Rattle.mj_store.specs.declared.access.Access.TheVariants as accesses
use Rattle.mj_store.specs.declared.access.Answer.{Answer}
use Rattle.mj_store.specs.declared.access.Answer.TheVariants as answers_are
use Rattle.mj_ask.specs.Written.{is_label, is_entry, entry_text}
use Rattle.mj_ask.specs.declared.entry.Entry.{Entry}
use Rattle.mj_ask.specs.declared.ask.Kind.TheVariants as kinds
use Rattle.mj_ask.specs.declared.clash.Kept.{Kept}
use Rattle.mj_ask.specs.declared.clash.Kept.TheVariants as kepts
use Rattle.mj_ask.specs.declared.clash.Clash.{Clash}
use Rattle.mj_ask.specs.declared.ask.Ask.{Ask}
use Rattle.mj_ask.specs.declared.ask.Ask.TheVariants as asks
use Rattle.mj_ask.specs.declared.ask.SharedAsk.{SharedAsk}
use Rattle.mj_ask.specs.declared.ask.SharedAsk.TheVariants as shared_asks
use Rattle.mj_ask.specs.declared.ask.DeviceAsk.{DeviceAsk}
use Rattle.mj_ask.specs.declared.ask.DeviceAsk.TheVariants as device_asks
use Rattle.mj_ask.specs.declared.ask.Reply.{Reply}
use Rattle.mj_ask.specs.declared.ask.Reply.TheVariants as replies
use Rattle.mj_ask.specs.Fits.{device_timeout}
use Rattle.mj_ask.specs.Formed.{is_name, is_global_name, is_search_name, are_filled, are_filled_before_last, is_subtree, is_access, are_names, is_shared_ask, is_ask, is_kept, is_clash, is_answer, is_reply}
use Rattle.mj_gfile.specs.Spelling.{listed_text, listed_subscripts, listed_name}
use Rattle.mj_gfile.specs.Reading.{is_word_byte, is_number_byte}
use Rattle.mj_text.specs.declared.limit.Limit.TheVariants.{V2}
use Rattle.mj_gfile.specs.Listing.{is_text}
use Rattle.mj_gfile.specs.Laws.Texts.{both_true}
use Rattle.mj_gfile.specs.Laws.Names.{more_pass}
use Rattle.mj_gfile.specs.Laws.Listings.{no_end, AreWithin, within-append, above_ten, number_above, text_within, subscript_within, subscripts_within}
use Rattle.mj_trace.specs.Devices.{device_word}
use Rattle.mj_trace.specs.Spelling.{rest_of_names, names_text, place_text, node_text, rest_of_nodes, nodes_between, subtree_text, value_text, rest_of_values, values_between, values_text, timeout_text, direction_text, access_text, shared_text, device_text, ask_text, answer_text, kept_text, clash_text, reply_text, spot_text, spot_part, told_text, event_text}
use Rattle.mj_ask.specs.declared.noted.Spot.{Spot}
use Rattle.mj_ask.specs.declared.noted.Noted.{Noted}
use Rattle.mj_trace.specs.declared.form.Form.{Form}
use Rattle.mj_trace.specs.declared.form.Form.TheVariants.{First, Second}
use Rattle.mj_trace.specs.Sized.{is_count, name_fits, value_fits, timeout_fits, shared_fits, device_fits, ask_fits, answer_fits, kept_fits, reply_fits, spot_fits}
use Rattle.mj_trace.specs.Laws.Found.{number_bytes, word_bytes, IsWordSpot}
use Rattle.mj_trace.specs.Laws.Asked.{code_small}
use Rattle.mj_trace.specs.Laws.Told.{count_ranged, code_ranged}

-- ---- fields

number_within : (z : ℤ) → is_in_range z ≡ true → AreWithin (signed_decimal z)
number_within z h = more_pass is_number_byte no_end number_above (signed_decimal z) (number_bytes z h)

pub count_within : (n : ℕ) → is_count n ≡ true → AreWithin (decimal n)
count_within n h = number_within (pos n) (count_ranged n h)

word_byte_above : (c : ℕ) → is_word_byte c ≡ true → no_end c ≡ true
word_byte_above c h = above_ten c (grind (arith, nat_tests))

digit_above : (c : ℕ) → is_ascii_digit c ≡ true → no_end c ≡ true
digit_above c h = above_ten c (grind (arith, nat_tests))

word_within : (w : List ℕ) → is_word w ≡ true → AreWithin w
word_within w h = more_pass is_word_byte no_end word_byte_above w (word_bytes w h)

name_within : (n : Name) → is_word n.word ≡ true → AreWithin (listed_name n)
unfolding no_end
name_within n h = within-append (word_text n.global n.word) (listed_subscripts n.subscripts) (by n.global) (subscripts_within n.subscripts)
  where
    by : (g : Bool) → AreWithin (word_text g n.word)
    by true = word_within n.word h
    by false = word_within n.word h

word_of_name : (n : Name) → is_name n ≡ true → is_word n.word ≡ true
word_of_name n h = (both_true (is_word n.word) (nat_le (length n.subscripts) 31) (both_true (is_word n.word && nat_le (length n.subscripts) 31) (are_filled n.subscripts) h).0).0

word_of_global : (n : Name) → is_global_name n ≡ true → is_word n.word ≡ true
word_of_global n h = word_of_name n (both_true n.global (is_name n) h).1

word_of_search : (n : Name) → is_search_name n ≡ true → is_word n.word ≡ true
word_of_search n h =
    let few = both_true (n.global && is_word n.word && nat_le (length n.subscripts) 31) (are_filled_before_last n.subscripts) h in
    (both_true n.global (is_word n.word) (both_true (n.global && is_word n.word) (nat_le (length n.subscripts) 31) few.0).0).1

rest_names_within : (ns : List Name) → list_all is_name ns ≡ true → AreWithin (rest_of_names ns)
unfolding no_end
rest_names_within [] h = refl
rest_names_within (n ∷ ns) h =
    let p = both_true (is_name n) (list_all is_name ns) h in within-append (listed_name n) (rest_of_names ns) (name_within n (word_of_name n p.0)) (rest_names_within ns p.1)

names_within : (ns : List Name) → list_all is_name ns ≡ true → AreWithin (names_text ns)
names_within [] h = refl
names_within (n ∷ ns) h =
    let p = both_true (is_name n) (list_all is_name ns) h in within-append (listed_name n) (rest_of_names ns) (name_within n (word_of_name n p.0)) (rest_names_within ns p.1)

place_within : (p : List (List ℕ)) → AreWithin (place_text p)
unfolding no_end
place_within [] = refl
place_within (s ∷ ss) = subscripts_within (s ∷ ss)

node_within : (e : List (List ℕ) × List ℕ) → AreWithin (node_text e)
unfolding no_end
node_within e = within-append (place_text e.0) (61 ∷ listed_text e.1) (place_within e.0) (text_within e.1)

rest_nodes_within : (es : Subtree) → AreWithin (rest_of_nodes es)
unfolding no_end
rest_nodes_within [] = refl
rest_nodes_within (e ∷ es) = within-append (node_text e) (rest_of_nodes es) (node_within e) (rest_nodes_within es)

nodes_within : (es : Subtree) → AreWithin (nodes_between es)
nodes_within [] = refl
nodes_within (e ∷ es) = within-append (node_text e) (rest_of_nodes es) (node_within e) (rest_nodes_within es)

subtree_within : (es : Subtree) → AreWithin (subtree_text es)
unfolding no_end
subtree_within es = within-append (nodes_between es) (125 ∷ []) (nodes_within es) refl

value_within : (v : Option (List ℕ)) → AreWithin (value_text v)
unfolding no_end
value_within None = refl
value_within (Some t) = text_within t

rest_values_within : (vs : List (Option (List ℕ))) → AreWithin (rest_of_values vs)
unfolding no_end
rest_values_within [] = refl
rest_values_within (v ∷ vs) = within-append (value_text v) (rest_of_values vs) (value_within v) (rest_values_within vs)

between_within : (vs : List (Option (List ℕ))) → AreWithin (values_between vs)
between_within [] = refl
between_within (v ∷ vs) = within-append (value_text v) (rest_of_values vs) (value_within v) (rest_values_within vs)

values_within : (vs : List (Option (List ℕ))) → AreWithin (values_text vs)
unfolding no_end
values_within vs = within-append (values_between vs) (41 ∷ []) (between_within vs) refl

timeout_within : (t : Option ℤ) → timeout_fits t ≡ true → AreWithin (timeout_text t)
unfolding no_end
timeout_within None h = refl
timeout_within (Some n) h = number_within n h

label_within : (l : List ℕ) → is_label l ≡ true → AreWithin l
label_within [] h = absurd cc
label_within (c ∷ cs) h = by (is_word (c ∷ cs)) refl h
  where
    by : (b : Bool) → is_word (c ∷ cs) ≡ b → (b || (list_all is_ascii_digit (c ∷ cs) && nat_le (length (c ∷ cs)) TEXT_LIMIT)) ≡ true → AreWithin (c ∷ cs)
    by true w k = word_within (c ∷ cs) w
    by false w k = more_pass is_ascii_digit no_end digit_above (c ∷ cs) (both_true (list_all is_ascii_digit (c ∷ cs)) (nat_le (length (c ∷ cs)) TEXT_LIMIT) k).0

front_within : (label : Option (List ℕ)) → (elim label [ None ↦ true | Some l ↦ is_label l ]) ≡ true → AreWithin (elim label [ None ↦ [] | Some l ↦ l ])
front_within None h = refl
front_within (Some l) h = label_within l h

pub entry_within : (e : Entry) → is_entry e ≡ true → AreWithin (entry_text e)
unfolding no_end
entry_within e h =
    let p = both_true (elim e.label [ None ↦ true | Some l ↦ is_label l ]) (is_word e.routine) h in
    within-append (elim e.label [ None ↦ [] | Some l ↦ l ]) (94 ∷ e.routine) (front_within e.label p.0) (word_within e.routine p.1)

-- ---- asks

direction_within : (d : Direction) → AreWithin (direction_text d)
unfolding no_end
direction_within directions.Forward = refl
direction_within directions.Backward = refl

access_within : (a : Access) → is_access a ≡ true → AreWithin (access_text a)
unfolding no_end
access_within (accesses.Value n) h = name_within n (word_of_global n h)
access_within (accesses.Data n) h = name_within n (word_of_global n h)
access_within (accesses.Order n way) h = within-append (listed_name n) (32 ∷ direction_text way) (name_within n (word_of_search n h)) (direction_within way)
access_within (accesses.Query n) h = name_within n (word_of_search n h)
access_within (accesses.Subtree n) h = name_within n (word_of_global n h)
access_within (accesses.Set n t) h = within-append (listed_name n) (32 ∷ listed_text t) (name_within n (word_of_global n h)) (text_within t)
access_within (accesses.Kill n) h = name_within n (word_of_global n h)
access_within (accesses.Put n nodes) h =
    within-append (listed_name n) (32 ∷ subtree_text nodes) (name_within n (word_of_global n (both_true (is_global_name n) (is_subtree nodes) h).0)) (subtree_within nodes)

all_names : (ns : List Name) → are_names ns ≡ true → list_all is_name ns ≡ true
all_names ns h = (both_true (nat_lt 0 (length ns)) (list_all is_name ns) h).1

shared_within : (a : SharedAsk) → is_shared_ask a ≡ true → shared_fits a ≡ true → AreWithin (shared_text a)
unfolding no_end
shared_within (shared_asks.Access a) h k = access_within a h
shared_within (shared_asks.Try names timeout) h k =
    let q = both_true (list_all name_fits names) (timeout_fits timeout) k in
    within-append (names_text names) (timeout_text timeout) (names_within names (all_names names h)) (timeout_within timeout q.1)
shared_within (shared_asks.Unlock names) h k = names_within names (all_names names h)
shared_within (shared_asks.Begin kinds.Plain) h k = refl
shared_within (shared_asks.Open d timeout) h k =
    within-append (listed_text d) (timeout_text timeout) (text_within d) (timeout_within timeout (both_true (is_text V2 d) (timeout_fits timeout) k).1)
shared_within (shared_asks.Close d) h k = text_within d
shared_within (shared_asks.Start start timeout) h k =
    let q = both_true (list_all value_fits start.values) (timeout_fits timeout) k in
    within-append (entry_text start.entry) (32 ∷ (values_text start.values ++ timeout_text timeout)) (entry_within start.entry h)
    (within-append (values_text start.values) (timeout_text timeout) (values_within start.values) (timeout_within timeout q.1))
shared_within (shared_asks.Halt None) h k = refl
shared_within (shared_asks.Halt (Some f)) h k = count_within (code_of f) (code_small f)
shared_within _ h k = refl

device_word_within : (a : DeviceAsk) → AreWithin (device_word a)
unfolding no_end
device_word_within device_asks.Begin = refl
device_word_within _ = refl

device_within : (a : DeviceAsk) → device_fits a ≡ true → AreWithin (device_text a)
unfolding no_end
device_within (device_asks.Write t) k = text_within t
device_within a k = within-append (device_word a) (timeout_text (device_timeout a)) (device_word_within a) (timeout_within (device_timeout a) k)

pub ask_within : (a : Ask) → is_ask a ≡ true → ask_fits a ≡ true → AreWithin (ask_text a)
unfolding no_end
ask_within (asks.Shared a) h k = shared_within a h k
ask_within (asks.Device d a) h k = within-append (listed_text d) (32 ∷ device_text a) (text_within d) (device_within a (both_true (is_text V2 d) (device_fits a) k).1)
ask_within (asks.Rest n) h k = number_within n k

-- ---- replies

answer_within : (x : Answer) → is_answer x ≡ true → answer_fits x ≡ true → AreWithin (answer_text x)
unfolding no_end
answer_within (answers_are.Value None) h k = refl
answer_within (answers_are.Value (Some t)) h k = text_within t
answer_within (answers_are.Data d) h k = number_within (pos d) (code_ranged d k)
answer_within (answers_are.Order None) h k = refl
answer_within (answers_are.Order (Some s)) h k = subscript_within s
answer_within (answers_are.Query None) h k = refl
answer_within (answers_are.Query (Some n)) h k = name_within n (word_of_global n h)
answer_within (answers_are.Subtree nodes) h k = subtree_within nodes
answer_within answers_are.Done h k = refl
answer_within answers_are.Limit h k = refl

kept_within : (x : Kept) → is_kept x ≡ true → kept_fits x ≡ true → AreWithin (kept_text x)
unfolding no_end
kept_within kepts.Nothing h k = refl
kept_within (kepts.Text t) h k = text_within t
kept_within (kepts.Number n) h k = number_within n k
kept_within (kepts.Name n) h k = name_within n (word_of_global n h)
kept_within (kepts.Subtree nodes) h k = subtree_within nodes

clash_within : (clash : Clash) → is_clash clash ≡ true → reply_fits (replies.Clash clash) ≡ true → AreWithin (clash_text clash)
unfolding no_end
clash_within clash h f =
    let a = both_true (nat_lt 0 clash.place && is_kept clash.then) (is_kept clash.now) h in
    let b = both_true (nat_lt 0 clash.place) (is_kept clash.then) a.0 in
    let p = both_true (is_count clash.place && kept_fits clash.then) (kept_fits clash.now) f in
    let q = both_true (is_count clash.place) (kept_fits clash.then) p.0 in
    within-append (decimal clash.place) (32 ∷ (kept_text clash.then ++ 32 ∷ kept_text clash.now)) (count_within clash.place q.0)
    (within-append (kept_text clash.then) (32 ∷ kept_text clash.now) (kept_within clash.then b.1 q.1) (kept_within clash.now a.1 p.1))

pub reply_within : (r : Reply) → is_reply r ≡ true → reply_fits r ≡ true → AreWithin (reply_text r)
unfolding no_end
reply_within replies.Done h k = refl
reply_within (replies.Answer x) h k = answer_within x h k
reply_within replies.Limit h k = refl
reply_within replies.Got h k = refl
reply_within replies.Late h k = refl
reply_within replies.NoSession h k = refl
reply_within replies.Failed h k = refl
reply_within replies.End h k = refl
reply_within (replies.Line t) h k = text_within t
reply_within (replies.Byte b) h k = number_within (pos b) (code_ranged b k)
reply_within (replies.Job n) h k = count_within n k
reply_within (replies.Clash clash) h k = clash_within clash h k

-- ---- lines

spot_within : (spot : Option Spot) → IsWordSpot spot → spot_fits spot ≡ true → AreWithin (spot_text spot)
unfolding no_end
spot_within None h k = refl
spot_within (Some s) h k = within-append s.routine (58 ∷ decimal s.line) (word_within s.routine h) (count_within s.line k)

part_within : (form : Form) (spot : Option Spot) → IsWordSpot spot → spot_fits spot ≡ true → AreWithin (spot_part form spot)
unfolding no_end
part_within First spot h k = refl
part_within (Second limit) spot h k = within-append (spot_text spot) (32 ∷ []) (spot_within spot h k) refl

pub event_within : (form : Form) (e : Noted) → is_count e.job ≡ true → IsWordSpot e.spot → spot_fits e.spot ≡ true → is_ask e.ask ≡ true → ask_fits e.ask ≡ true
    → is_reply e.reply ≡ true → reply_fits e.reply ≡ true → AreWithin (event_text form e)
unfolding no_end
event_within form e j w s h k m f =
    within-append (decimal e.job) (32 ∷ (spot_part form e.spot ++ told_text e.ask e.reply)) (count_within e.job j)
    (within-append (spot_part form e.spot) (told_text e.ask e.reply) (part_within form e.spot w s)
    (within-append (ask_text e.ask) (32 ∷ reply_text e.reply) (ask_within e.ask h k) (reply_within e.reply m f)))

pub device_line_within : (name : List ℕ) (count : ℕ) → is_count count ≡ true → AreWithin (listed_text name ++ 32 ∷ decimal count)
unfolding no_end
device_line_within name count h = within-append (listed_text name) (32 ∷ decimal count) (text_within name) (count_within count h)
