-- A reply is found as it is spelled.
use Rattle.std.proofs.Common.{◌≡◌, ◌∙◌, ℕ, ℤ, pos, Bool, true, false, cond, ◌&&◌, eqb, List, [], ◌∷◌, ◌++◌, Option, Some, None, refl, sym, ap, subst, append-nil, arith}
use Rattle.std.specs.Prelude.{◌||◌, nat_lt, codes, decimal}
use Rattle.std.specs.Option.{option_map}
use Rattle.std.specs.List.{list_all}
use Rattle.std.specs.Str.{bytes_eq}
use Rattle.std.specs.Fmt.{signed_decimal}
use Rattle.std.specs.Cmp.Lexicographic.{bytes_decides}
use Rattle.std.proofs.lemmas.Bool.Decides.{nat_tests}
use Rattle.mj_num.specs.Number.{is_canonic, is_in_range}
use Rattle.mj_num.proofs.Laws.{is_canonic-canonic_text, IsInRange-from}
use Rattle.mj_subs.specs.Name.{Name}
use Rattle.mj_nref.specs.Spelling.{word_text}
use Rattle.mj_store.specs.Questions.{Subtree}
use Rattle.mj_store.specs.declared.store.Direction.{Direction}
use Rattle.mj_store.specs.declared.access.Access.{Access}
use Rattle.mj_store.specs.declared.access.Access.TheVariants as accesses
use Rattle.mj_store.specs.declared.access.Answer.{Answer}
use Rattle.mj_store.specs.declared.access.Answer.TheVariants as answers_are
use Rattle.mj_ask.specs.declared.clash.Kept.{Kept}
use Rattle.mj_ask.specs.declared.clash.Kept.TheVariants as kepts
use Rattle.mj_ask.specs.declared.clash.Clash.{Clash}
use Rattle.mj_ask.specs.declared.ask.Ask.{Ask}
use Rattle.mj_ask.specs.declared.ask.Ask.TheVariants as asks
use Rattle.mj_ask.specs.declared.ask.SharedAsk.TheVariants as shared_asks
use Rattle.mj_ask.specs.declared.ask.DeviceAsk.TheVariants as device_asks
use Rattle.mj_ask.specs.declared.ask.Reply.{Reply}
use Rattle.mj_ask.specs.declared.ask.Reply.TheVariants as replies
use Rattle.mj_ask.specs.Formed.{is_global_name, is_name, is_kept, is_clash, is_answer, is_reply}
use Rattle.mj_ask.specs.Fits.{is_reply_to, answers}
use Rattle.mj_gfile.specs.Spelling.{listed_text, listed_subscript, listed_subscripts, listed_name}
use Rattle.mj_gfile.specs.Reading.{is_number_byte}
use Rattle.mj_text.specs.declared.limit.Limit.TheVariants.{V2}
use Rattle.mj_gfile.specs.Listing.{is_text}
use Rattle.mj_gfile.specs.Laws.Texts.{both_true}
use Rattle.mj_gfile.specs.Laws.Names.{canonic_numbers}
use Rattle.mj_trace.specs.Devices.{text_given, code_given}
use Rattle.mj_trace.specs.declared.run.Run.TheVariants as runs
use Rattle.mj_trace.specs.Spelling.{subtree_text, answer_text, kept_text, clash_text, reply_text}
use Rattle.mj_trace.specs.Reading.{onward, front, behind_bytes, number_in, count_in, code_in, text_in, subscript_in, name_in, subtree_in, is_absent, number_kept, kept_in, clash_now, clash_then, given_as, given_in, done_of, limit_of, reply_in}
use Rattle.mj_trace.specs.Sized.{is_count, is_code, name_fits, nodes_fit, answer_fits, kept_fits, reply_fits}
use Rattle.mj_trace.specs.Laws.Found.{if_not, Ends, front_all, rest_all, no_number, number_bytes, number_found, count_found, code_found, text_found, subscript_found}
use Rattle.mj_trace.specs.Laws.Members.{name_is_found, subtree_found}
use Rattle.mj_trace.specs.Laws.Asked.{FollowsAsk, global_sized}

-- ---- which bytes begin what

-- a byte that begins a number, a text, a name, nodes, or nothing
abbrev pub is_mark : ℕ → Bool
is_mark c = is_number_byte c || eqb c 34 || eqb c 94 || eqb c 123

-- the bytes begin so
abbrev pub IsGiven : List ℕ → Type 0
IsGiven [] = ⊥
IsGiven (c ∷ cs) = is_mark c ≡ true

-- what such a byte isn't
record IsApart (c : ℕ) : Type 0 where
  colon : eqb c 58 ≡ false
  fault : eqb c 70 ≡ false
  serial : eqb c 115 ≡ false
  done : eqb c 100 ≡ false
  limit : eqb c 108 ≡ false
  got : eqb c 103 ≡ false
  none : eqb c 110 ≡ false
  failed : eqb c 102 ≡ false
  end : eqb c 101 ≡ false

apart : (c : ℕ) → is_mark c ≡ true → IsApart c
apart c h = record {
  colon = grind (arith, nat_tests);
  fault = grind (arith, nat_tests);
  serial = grind (arith, nat_tests);
  done = grind (arith, nat_tests);
  limit = grind (arith, nat_tests);
  got = grind (arith, nat_tests);
  none = grind (arith, nat_tests);
  failed = grind (arith, nat_tests);
  end = grind (arith, nat_tests);
}

given_told : (bs : List ℕ) → IsGiven bs → FollowsAsk bs
given_told [] h = absurd h
given_told (c ∷ cs) h = let p = apart c h in record { untimed = p.colon; unfaulted = p.fault; plain = p.serial }

passed : {A : Type 0} {b : Bool} {z : A} (x k : A) → b ≡ false → k ≡ z → cond b x k ≡ z
passed x k e f = if_not x k e ∙ f

other_word : (c : ℕ) (cs : List ℕ) (w : ℕ) (ws : List ℕ) → eqb c w ≡ false → bytes_eq (c ∷ cs) (w ∷ ws) ≡ false
other_word c cs w ws e = ap (λ b. b && bytes_eq cs ws) e

given_when : (a : Ask) (bs : List ℕ) → IsGiven bs → reply_in a bs ≡ given_in a bs
given_when a [] h = absurd h
given_when a (c ∷ cs) h =
    let p = apart c h in
    passed _ _ (other_word c cs 100 (codes "one") p.done) (passed _ _ (other_word c cs 108 (codes "imit") p.limit) (passed _ _ (other_word c cs 103 (codes "ot") p.got)
    (passed _ _ (other_word c cs 108 (codes "ate") p.limit) (passed _ _ (other_word c cs 110 (codes "one") p.none) (passed _ _ (other_word c cs 102 (codes "ailed") p.failed)
    (passed _ _ (other_word c cs 101 (codes "nd") p.end) refl))))))

canonic_mark : (s : List ℕ) → is_canonic s ≡ true → IsGiven s
canonic_mark [] h = absurd cc
canonic_mark (c ∷ cs) h = ap (λ b. b || eqb c 34 || eqb c 94 || eqb c 123) (both_true (is_number_byte c) (list_all is_number_byte cs) (canonic_numbers (c ∷ cs) h)).0

pub number_mark : (z : ℤ) → is_in_range z ≡ true → IsGiven (signed_decimal z)
number_mark z h = canonic_mark (signed_decimal z) (is_canonic-canonic_text z (IsInRange-from z h))

pub count_ranged : (n : ℕ) → is_count n ≡ true → is_in_range (pos n) ≡ true
count_ranged n h = grind (arith, nat_tests)

pub code_ranged : (n : ℕ) → is_code n ≡ true → is_in_range (pos n) ≡ true
code_ranged n h = grind (arith, nat_tests)

subscript_mark : (s : List ℕ) → IsGiven (listed_subscript s)
subscript_mark s = by (is_canonic s) refl
  where
    by : (b : Bool) → is_canonic s ≡ b → IsGiven (cond b s (listed_text s))
    by true k = canonic_mark s k
    by false k = refl

name_mark : (n : Name) → n.global ≡ true → IsGiven (listed_name n)
name_mark n g = subst (λ b. IsGiven (word_text b n.word ++ listed_subscripts n.subscripts)) (sym g) refl

-- a canonic text isn't a sign alone
canonic_there : (s : List ℕ) → is_canonic s ≡ true → is_absent s ≡ false
canonic_there s h = by (is_absent s) refl
  where
    by : (b : Bool) → is_absent s ≡ b → b ≡ false
    by false e = refl
    by true e = absurd (no (subst (λ x. is_canonic x ≡ true) ((bytes_decides s (codes "-")).0 e) h))
      where
        no : is_canonic (codes "-") ≡ true → ⊥
        no k = absurd cc

subscript_there : (s : List ℕ) → is_absent (listed_subscript s) ≡ false
subscript_there s = by (is_canonic s) refl
  where
    by : (b : Bool) → is_canonic s ≡ b → is_absent (cond b s (listed_text s)) ≡ false
    by true k = canonic_there s k
    by false k = refl

-- ---- what ends the line

text_all : (t : List ℕ) → is_text V2 t ≡ true → text_in (listed_text t) ≡ Some (t, [])
text_all t h = ap text_in (sym (append-nil (listed_text t))) ∙ text_found t [] h tt

pub count_all : (n : ℕ) → is_count n ≡ true → count_in (decimal n) ≡ Some (n, [])
count_all n h = ap count_in (sym (append-nil (decimal n))) ∙ count_found n [] h tt

code_all : (n : ℕ) → is_code n ≡ true → code_in (decimal n) ≡ Some (n, [])
code_all n h = ap code_in (sym (append-nil (decimal n))) ∙ code_found n [] h tt

subscript_all : (s : List ℕ) → is_text V2 s ≡ true → subscript_in (listed_subscript s) ≡ Some (s, [])
subscript_all s h = ap subscript_in (sym (append-nil (listed_subscript s))) ∙ subscript_found s [] h tt

name_all : (n : Name) → is_global_name n ≡ true → name_fits n ≡ true → name_in (listed_name n) ≡ Some (n, [])
name_all n h k = ap name_in (sym (append-nil (listed_name n))) ∙ name_is_found n [] (global_sized n h k) tt

subtree_all : (nodes : Subtree) → nodes_fit nodes ≡ true → subtree_in (subtree_text nodes) ≡ Some (nodes, [])
subtree_all nodes h = ap subtree_in (sym (append-nil (subtree_text nodes))) ∙ subtree_found nodes [] h tt

-- ---- answers

text_answer : (n : Name) (t : List ℕ) → is_text V2 t ≡ true → reply_in (asks.Shared (shared_asks.Access (accesses.Value n))) (listed_text t) ≡ Some (replies.Answer (answers_are.Value (Some t)))
text_answer n t h =
    given_when (asks.Shared (shared_asks.Access (accesses.Value n))) (listed_text t) refl
    ∙ ap (λ (o : Option (List ℕ × List ℕ)). option_map replies.Answer (option_map (λ p. answers_are.Value (Some p.0)) o)) (text_all t h)

data_answer : (n : Name) (d : ℕ) → is_code d ≡ true → reply_in (asks.Shared (shared_asks.Access (accesses.Data n))) (decimal d) ≡ Some (replies.Answer (answers_are.Data d))
data_answer n d h =
    given_when (asks.Shared (shared_asks.Access (accesses.Data n))) (decimal d) (number_mark (pos d) (code_ranged d h))
    ∙ ap (λ (o : Option (ℕ × List ℕ)). option_map replies.Answer (option_map (λ p. answers_are.Data p.0) o)) (code_all d h)

order_answer : (n : Name) (way : Direction) (s : List ℕ) → is_text V2 s ≡ true
    → reply_in (asks.Shared (shared_asks.Access (accesses.Order n way))) (listed_subscript s) ≡ Some (replies.Answer (answers_are.Order (Some s)))
order_answer n way s h =
    given_when (asks.Shared (shared_asks.Access (accesses.Order n way))) (listed_subscript s) (subscript_mark s)
    ∙ ap (λ b. option_map replies.Answer (cond b (Some (answers_are.Order None)) (option_map (λ p. answers_are.Order (Some p.0)) (subscript_in (listed_subscript s))))) (subscript_there s)
    ∙ ap (λ (o : Option (List ℕ × List ℕ)). option_map replies.Answer (option_map (λ p. answers_are.Order (Some p.0)) o)) (subscript_all s h)

name_there : (n : Name) → n.global ≡ true → is_absent (listed_name n) ≡ false
name_there n g = subst (λ b. is_absent (word_text b n.word ++ listed_subscripts n.subscripts) ≡ false) (sym g) refl

global_is : (n : Name) → is_global_name n ≡ true → n.global ≡ true
global_is n h = (both_true n.global (is_name n) h).0

query_answer : (n m : Name) → is_global_name m ≡ true → name_fits m ≡ true
    → reply_in (asks.Shared (shared_asks.Access (accesses.Query n))) (listed_name m) ≡ Some (replies.Answer (answers_are.Query (Some m)))
query_answer n m h k =
    given_when (asks.Shared (shared_asks.Access (accesses.Query n))) (listed_name m) (name_mark m (global_is m h))
    ∙ ap (λ b. option_map replies.Answer (cond b (Some (answers_are.Query None)) (option_map (λ p. answers_are.Query (Some p.0)) (name_in (listed_name m))))) (name_there m (global_is m h))
    ∙ ap (λ (o : Option (Name × List ℕ)). option_map replies.Answer (option_map (λ p. answers_are.Query (Some p.0)) o)) (name_all m h k)

subtree_answer : (n : Name) (nodes : Subtree) → nodes_fit nodes ≡ true
    → reply_in (asks.Shared (shared_asks.Access (accesses.Subtree n))) (subtree_text nodes) ≡ Some (replies.Answer (answers_are.Subtree nodes))
subtree_answer n nodes h =
    given_when (asks.Shared (shared_asks.Access (accesses.Subtree n))) (subtree_text nodes) refl
    ∙ ap (λ (o : Option (Subtree × List ℕ)). option_map replies.Answer (option_map (λ p. answers_are.Subtree p.0) o)) (subtree_all nodes h)

answer_found : (a : Access) (x : Answer) → answers a x ≡ true → is_answer x ≡ true → answer_fits x ≡ true → reply_in (asks.Shared (shared_asks.Access a)) (answer_text x) ≡ Some (replies.Answer x)
answer_found a answers_are.Done h k f = refl
answer_found a answers_are.Limit h k f = refl
answer_found (accesses.Value n) (answers_are.Value None) h k f = refl
answer_found (accesses.Value n) (answers_are.Value (Some v)) h k f = text_answer n v f
answer_found (accesses.Data n) (answers_are.Data d) h k f = data_answer n d f
answer_found (accesses.Order n way) (answers_are.Order None) h k f = refl
answer_found (accesses.Order n way) (answers_are.Order (Some s)) h k f = order_answer n way s f
answer_found (accesses.Query n) (answers_are.Query None) h k f = refl
answer_found (accesses.Query n) (answers_are.Query (Some m)) h k f = query_answer n m k f
answer_found (accesses.Subtree n) (answers_are.Subtree es) h k f = subtree_answer n es f
answer_found _ _ h k f = absurd cc

-- ---- clashes

-- a number that a clash keeps
kept_number : (n : ℤ) (r : List ℕ) → is_in_range n ≡ true → Ends r → kept_in (signed_decimal n ++ r) ≡ Some (kepts.Number n, r)
kept_number n r h e = by (signed_decimal n) refl (number_mark n h)
  where
    f : front runs.Number (signed_decimal n ++ r) ≡ signed_decimal n
    f = front_all is_number_byte (signed_decimal n) r (number_bytes n h) (no_number r e)

    there : number_kept (signed_decimal n ++ r) ≡ Some (kepts.Number n, r)
    there =
        ap (λ s. cond (is_absent s) (Some (kepts.Nothing, behind_bytes runs.Number (signed_decimal n ++ r))) (option_map (λ p. (kepts.Number p.0, p.1)) (number_in (signed_decimal n ++ r)))) f
        ∙ ap (λ b. cond b (Some (kepts.Nothing, behind_bytes runs.Number (signed_decimal n ++ r))) (option_map (λ p. (kepts.Number p.0, p.1)) (number_in (signed_decimal n ++ r))))
        (canonic_there (signed_decimal n) (is_canonic-canonic_text n (IsInRange-from n h)))
        ∙ ap (option_map (λ p. (kepts.Number p.0, p.1))) (number_found n r h e)

    digit : (c : ℕ) → is_number_byte c ≡ true → (eqb c 34 ≡ false) × (eqb c 94 ≡ false) × (eqb c 123 ≡ false)
    digit c k = (grind (arith, nat_tests), grind (arith, nat_tests), grind (arith, nat_tests))

    by : (s : List ℕ) → s ≡ signed_decimal n → IsGiven (signed_decimal n) → kept_in (signed_decimal n ++ r) ≡ Some (kepts.Number n, r)
    by [] i m = absurd (subst IsGiven (sym i) m)
    by (c ∷ cs) i m =
        let d = digit c (both_true (is_number_byte c) (list_all is_number_byte cs) (subst (λ s. list_all is_number_byte s ≡ true) (sym i) (number_bytes n h))).0 in
        subst (λ s. number_kept (s ++ r) ≡ Some (kepts.Number n, r) → kept_in (s ++ r) ≡ Some (kepts.Number n, r)) i (λ t. passed _ _ d.0 (passed _ _ d.1 (passed _ _ d.2 t))) there

kept_found : (k : Kept) (r : List ℕ) → is_kept k ≡ true → kept_fits k ≡ true → Ends r → kept_in (kept_text k ++ r) ≡ Some (k, r)
kept_found kepts.Nothing r h f e =
    let at = front_all is_number_byte (45 ∷ []) r refl (no_number r e) in
    let past = rest_all is_number_byte (45 ∷ []) r refl (no_number r e) in
    (λ i. cond (is_absent (at i)) (Some (kepts.Nothing, past i)) (option_map (λ p. (kepts.Number p.0, p.1)) (number_in (45 ∷ r))))
kept_found (kepts.Text t) r h f e = ap (option_map (λ p. (kepts.Text p.0, p.1))) (text_found t r f e)
kept_found (kepts.Number n) r h f e = kept_number n r f e
kept_found (kepts.Name n) r h f e =
    let found = name_is_found n r (global_sized n h f) e in
    by n.global (global_is n h) found
  where
    by : (g : Bool) → g ≡ true → name_in ((word_text g n.word ++ listed_subscripts n.subscripts) ++ r) ≡ Some (n, r)
        → kept_in ((word_text g n.word ++ listed_subscripts n.subscripts) ++ r) ≡ Some (kepts.Name n, r)
    by true i found = ap (option_map (λ p. (kepts.Name p.0, p.1))) found
    by false i found = absurd cc
kept_found (kepts.Subtree nodes) r h f e = ap (option_map (λ p. (kepts.Subtree p.0, p.1))) (subtree_found nodes r f e)

clash_found : (clash : Clash) → is_clash clash ≡ true → reply_fits (replies.Clash clash) ≡ true
    → reply_in (asks.Shared shared_asks.Commit) (codes "clash " ++ clash_text clash) ≡ Some (replies.Clash clash)
clash_found clash h f =
    let a = both_true (nat_lt 0 clash.place && is_kept clash.then) (is_kept clash.now) h in
    let b = both_true (nat_lt 0 clash.place) (is_kept clash.then) a.0 in
    let p = both_true (is_count clash.place && kept_fits clash.then) (kept_fits clash.now) f in
    let q = both_true (is_count clash.place) (kept_fits clash.then) p.0 in
    ap (onward clash_then) (count_found clash.place (32 ∷ (kept_text clash.then ++ 32 ∷ kept_text clash.now)) q.0 (refl, refl, refl, refl))
    ∙ ap (onward (clash_now clash.place)) (kept_found clash.then (32 ∷ kept_text clash.now) b.1 q.1 (refl, refl, refl, refl))
    ∙ ap (option_map (λ p. replies.Clash (record { place = clash.place; then = clash.then; now = p.0 })))
    (ap kept_in (sym (append-nil (kept_text clash.now))) ∙ kept_found clash.now [] a.1 p.1 tt)

-- ---- replies

done_is : (a : Ask) → is_reply_to a replies.Done ≡ true → done_of a ≡ replies.Done
done_is (asks.Shared (shared_asks.Access a)) h = absurd cc
done_is _ h = refl

limit_is : (a : Ask) → is_reply_to a replies.Limit ≡ true → limit_of a ≡ replies.Limit
limit_is (asks.Shared (shared_asks.Access a)) h = absurd cc
limit_is _ h = refl

line_found : (a : Ask) (t : List ℕ) → is_reply_to a (replies.Line t) ≡ true → is_text V2 t ≡ true → reply_in a (listed_text t) ≡ Some (replies.Line t)
line_found (asks.Device d a) t h f =
    given_when (asks.Device d a) (listed_text t) refl ∙ ap (λ g. given_as g (listed_text t)) (text_given a t h) ∙ ap (option_map (λ p. replies.Line p.0)) (text_all t f)
line_found (asks.Shared (shared_asks.Access a)) t h f = absurd cc
line_found _ t h f = absurd cc

byte_found : (a : Ask) (b : ℕ) → is_reply_to a (replies.Byte b) ≡ true → is_code b ≡ true → reply_in a (decimal b) ≡ Some (replies.Byte b)
byte_found (asks.Device d a) b h f =
    given_when (asks.Device d a) (decimal b) (number_mark (pos b) (code_ranged b f)) ∙ ap (λ g. given_as g (decimal b)) (code_given a b h) ∙ ap (option_map (λ p. replies.Byte p.0)) (code_all b f)
byte_found (asks.Shared (shared_asks.Access a)) b h f = absurd cc
byte_found _ b h f = absurd cc

job_found : (a : Ask) (j : ℕ) → is_reply_to a (replies.Job j) ≡ true → is_count j ≡ true → reply_in a (codes "job " ++ decimal j) ≡ Some (replies.Job j)
job_found (asks.Shared (shared_asks.Start start timeout)) j h f = ap (option_map (λ p. replies.Job p.0)) (count_all j f)
job_found (asks.Device d device_asks.Begin) j h f = absurd cc
job_found _ j h f = absurd cc

clashes_found : (a : Ask) (clash : Clash) → is_reply_to a (replies.Clash clash) ≡ true → is_clash clash ≡ true → reply_fits (replies.Clash clash) ≡ true
    → reply_in a (codes "clash " ++ clash_text clash) ≡ Some (replies.Clash clash)
clashes_found (asks.Shared shared_asks.Commit) clash h k f = clash_found clash k f
clashes_found (asks.Device d device_asks.Begin) clash h k f = absurd cc
clashes_found _ clash h k f = absurd cc

answers_found : (a : Ask) (x : Answer) → is_reply_to a (replies.Answer x) ≡ true → is_answer x ≡ true → answer_fits x ≡ true → reply_in a (answer_text x) ≡ Some (replies.Answer x)
answers_found (asks.Shared (shared_asks.Access a)) x h k f = answer_found a x h k f
answers_found (asks.Device d device_asks.Begin) x h k f = absurd cc
answers_found _ x h k f = absurd cc

-- a reply of the table, within the limits, is found
pub reply_found : (a : Ask) (r : Reply) → is_reply_to a r ≡ true → is_reply r ≡ true → reply_fits r ≡ true → reply_in a (reply_text r) ≡ Some r
reply_found a replies.Done h k f = ap Some (done_is a h)
reply_found a (replies.Answer x) h k f = answers_found a x h k f
reply_found a replies.Limit h k f = ap Some (limit_is a h)
reply_found a replies.Got h k f = refl
reply_found a replies.Late h k f = refl
reply_found a replies.NoSession h k f = refl
reply_found a replies.Failed h k f = refl
reply_found a replies.End h k f = refl
reply_found a (replies.Line t) h k f = line_found a t h f
reply_found a (replies.Byte b) h k f = byte_found a b h f
reply_found a (replies.Job n) h k f = job_found a n h f
reply_found a (replies.Clash clash) h k f = clashes_found a clash h k f

answer_told : (x : Answer) → is_answer x ≡ true → answer_fits x ≡ true → FollowsAsk (answer_text x)
answer_told answers_are.Done k f = record { untimed = refl; unfaulted = refl; plain = refl }
answer_told answers_are.Limit k f = record { untimed = refl; unfaulted = refl; plain = refl }
answer_told (answers_are.Value None) k f = record { untimed = refl; unfaulted = refl; plain = refl }
answer_told (answers_are.Value (Some t)) k f = given_told (listed_text t) refl
answer_told (answers_are.Data d) k f = given_told (decimal d) (number_mark (pos d) (code_ranged d f))
answer_told (answers_are.Order None) k f = record { untimed = refl; unfaulted = refl; plain = refl }
answer_told (answers_are.Order (Some s)) k f = given_told (listed_subscript s) (subscript_mark s)
answer_told (answers_are.Query None) k f = record { untimed = refl; unfaulted = refl; plain = refl }
answer_told (answers_are.Query (Some n)) k f = given_told (listed_name n) (name_mark n (global_is n k))
answer_told (answers_are.Subtree nodes) k f = given_told (subtree_text nodes) refl

-- no reply goes on with the ask before it
pub reply_told : (r : Reply) → is_reply r ≡ true → reply_fits r ≡ true → FollowsAsk (reply_text r)
reply_told replies.Done k f = record { untimed = refl; unfaulted = refl; plain = refl }
reply_told (replies.Answer x) k f = answer_told x k f
reply_told replies.Limit k f = record { untimed = refl; unfaulted = refl; plain = refl }
reply_told replies.Got k f = record { untimed = refl; unfaulted = refl; plain = refl }
reply_told replies.Late k f = record { untimed = refl; unfaulted = refl; plain = refl }
reply_told replies.NoSession k f = record { untimed = refl; unfaulted = refl; plain = refl }
reply_told replies.Failed k f = record { untimed = refl; unfaulted = refl; plain = refl }
reply_told replies.End k f = record { untimed = refl; unfaulted = refl; plain = refl }
reply_told (replies.Line t) k f = given_told (listed_text t) refl
reply_told (replies.Byte b) k f = given_told (decimal b) (number_mark (pos b) (code_ranged b f))
reply_told (replies.Job n) k f = record { untimed = refl; unfaulted = refl; plain = refl }
reply_told (replies.Clash clash) k f = record { untimed = refl; unfaulted = refl; plain = refl }
