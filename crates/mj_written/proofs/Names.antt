-- Names of trees are names that can be written, and so are the names that a job makes of them.
use Rattle.std.proofs.Common.{◌≡◌, ℕ, suc, ◌==◌, ◌≤◌, Bool, true, false, cond, ◌&&◌, ◌||◌, List, [], ◌∷◌, length, Option, Some, None, Result, Ok, Err, inl, inr, refl, subst, arith}
use Rattle.std.specs.Prelude.{nat_lt, nat_le, IsTrue}
use Rattle.std.specs.List.{list_all, All}
use Rattle.std.specs.Char.{is_ascii_alphanumeric, is_ascii_digit}
use Rattle.std.proofs.lemmas.Bool.{ltb-false, lt-ltb, le-leb}
use Rattle.mj_text.specs.declared.fault.Fault.{Fault}
use Rattle.mj_text.specs.declared.fault.Fault.TheVariants.{Subscript, Limit}
use Rattle.mj_text.specs.declared.text.TheConstants.{TEXT_LIMIT}
use Rattle.mj_subs.specs.Name.{Name, is_word}
use Rattle.mj_ask.specs.Written.{is_label, is_entry}
use Rattle.mj_ask.specs.Formed.{are_filled, are_filled_before_last, is_name, is_global_name, is_search_name}
use Rattle.mj_ask.proofs.Lists.{and_true}
use Rattle.mj_ast.specs.declared.expr.Scope.{Scope}
use Rattle.mj_ast.specs.declared.function.NameFunction.{NameFunction}
use Rattle.mj_ast.specs.declared.function.NameFunction.TheVariants as names
use Rattle.mj_ast.specs.Tokens.{is_digit, continues_word}
use Rattle.mj_ast.specs.Routines.{IsName}
use Rattle.mj_ast.specs.Syntax.{Target}
use Rattle.mj_ast.specs.Expressions.{routine_symbols}
use Rattle.mj_ast.specs.Commands.{entry_parts, target_parts}
use Rattle.mj_semantics.specs.Lines.{Here, entry_of}
use Rattle.mj_semantics.specs.Evaluation.{has_empty, is_global, before_last, named_by, name_of, named_for}
use Rattle.mj_rou.specs.Words.{Each, IsWorded, IsLabel, IsPartWorded}
use Rattle.mj_written.proofs.Locals.{local_whole}
use Rattle.mj_written.specs.Formed.{is_local_name}

-- ---- words

turned : (u l d : Bool) → ((u || l) || d) ≡ true → ((d || u) || l) ≡ true
turned true l true h = refl
turned true l false h = refl
turned false true true h = refl
turned false true false h = refl
turned false false true h = refl
turned false false false h = absurd cc

goes_on : (b : ℕ) → IsTrue (continues_word b) → is_ascii_alphanumeric b ≡ true
goes_on b h = turned (nat_le 65 b && nat_le b 90) (nat_le 97 b && nat_le b 122) (nat_le 48 b && nat_le b 57) h

all_go_on : (bs : List ℕ) → All (λ c. IsTrue (continues_word c)) bs → list_all is_ascii_alphanumeric bs ≡ true
all_go_on [] h = refl
all_go_on (b ∷ bs) h = and_true (is_ascii_alphanumeric b) (list_all is_ascii_alphanumeric bs) (goes_on b (h 0 0 (omega arith))) (all_go_on bs (λ k d lt. h (suc k) d (omega (arith, lt))))

pub word_is : (w : List ℕ) → IsName w → is_word w ≡ true
word_is [] h = absurd h.spelled
word_is (b ∷ bs) h =
    let begins : ((nat_le 65 b && nat_le b 90 || nat_le 97 b && nat_le b 122) || b == 37) ≡ true = h.spelled.0 in
    let short : length (b ∷ bs) ≤ 31 = h.short in
    let few : nat_lt (length bs) 31 ≡ true = lt-ltb (length bs) 31 (omega (arith, short)) in
    λ i. (begins i && all_go_on bs h.spelled.1 i) && few i

are_digits : (bs : List ℕ) → All (λ c. IsTrue (is_digit c)) bs → list_all is_ascii_digit bs ≡ true
are_digits [] h = refl
are_digits (b ∷ bs) h = and_true (is_ascii_digit b) (list_all is_ascii_digit bs) (h 0 0 (omega arith)) (are_digits bs (λ k d lt. h (suc k) d (omega (arith, lt))))

either : (a b : Bool) → b ≡ true → (a || b) ≡ true
either true b h = refl
either false b h = h

first : (a b : Bool) → a ≡ true → (a || b) ≡ true
first true b h = refl
first false b h = absurd cc

label_is : (l : List ℕ) → IsLabel l → is_label l ≡ true
label_is [] (inl h) = absurd h.spelled
label_is [] (inr h) = absurd h.0
label_is (b ∷ bs) (inl h) = first (is_word (b ∷ bs)) (list_all is_ascii_digit (b ∷ bs) && nat_le (length (b ∷ bs)) TEXT_LIMIT) (word_is (b ∷ bs) h)
label_is (b ∷ bs) (inr h) =
    either (is_word (b ∷ bs)) (list_all is_ascii_digit (b ∷ bs) && nat_le (length (b ∷ bs)) TEXT_LIMIT)
    (and_true (list_all is_ascii_digit (b ∷ bs)) (nat_le (length (b ∷ bs)) TEXT_LIMIT) (are_digits (b ∷ bs) h.0) (le-leb (length (b ∷ bs)) TEXT_LIMIT h.1))

-- the entry that an argument names, in a routine whose name is a word
pub entry_is : (here : Here) (t : Target) → is_word here.routine ≡ true → Each IsPartWorded (target_parts t) → is_entry (entry_of here t) ≡ true
entry_is here t w h = by t.label t.routine h
  where
    by : (l r : Option (List ℕ)) → Each IsPartWorded (entry_parts l r) → is_entry (record { label = l; routine = elim r [ None ↦ here.routine | Some x ↦ x ] }) ≡ true
    by None None h = w
    by None (Some r) h = word_is r h.1.0
    by (Some l) None h = and_true (is_label l) (is_word here.routine) (label_is l h.0) w
    by (Some l) (Some r) h = and_true (is_label l) (is_word r) (label_is l h.0) (word_is r h.1.1.0)

pub routine_is : (here : Here) (t : Target) → is_word here.routine ≡ true → Each IsPartWorded (target_parts t) → is_word (entry_of here t).routine ≡ true
routine_is here t w h = by t.label t.routine h
  where
    by : (l r : Option (List ℕ)) → Each IsPartWorded (entry_parts l r) → is_word (elim r [ None ↦ here.routine | Some x ↦ x ]) ≡ true
    by l None h = w
    by None (Some r) h = word_is r h.1.0
    by (Some l) (Some r) h = word_is r h.1.1.0

-- where a function begins
pub function_routine : (here : Here) (t : Target) → is_word here.routine ≡ true → Each IsWorded (routine_symbols t.routine) → is_word (entry_of here t).routine ≡ true
function_routine here t w h = by t.routine h
  where
    by : (r : Option (List ℕ)) → Each IsWorded (routine_symbols r) → is_word (elim r [ None ↦ here.routine | Some x ↦ x ]) ≡ true
    by None h = w
    by (Some r) h = word_is r h.1.0

-- ---- names

-- a name: its word is one, and it has at most 31 subscripts, each with a byte
pub record IsNamed (x : Name) : Type 0 where
  pub word : is_word x.word ≡ true
  pub few : nat_le (length x.subscripts) 31 ≡ true
  pub filled : are_filled x.subscripts ≡ true

-- the same, but that the last subscript may have none
pub record IsSought (x : Name) : Type 0 where
  pub word : is_word x.word ≡ true
  pub few : nat_le (length x.subscripts) 31 ≡ true
  pub filled : are_filled_before_last x.subscripts ≡ true

pub name_is : (x : Name) → IsNamed x → is_name x ≡ true
name_is x h = λ i. (h.word i && h.few i) && h.filled i

pub global_is : (x : Name) → x.global ≡ true → IsNamed x → is_global_name x ≡ true
global_is x g h = λ i. g i && ((h.word i && h.few i) && h.filled i)

pub search_is : (x : Name) → x.global ≡ true → IsSought x → is_search_name x ≡ true
search_is x g h = λ i. ((g i && h.word i) && h.few i) && h.filled i

pub local_is : (x : Name) → x.global ≡ false → IsNamed x → is_local_name x ≡ true
local_is x g h = local_whole x (record { kind = g; word = h.word; few = h.few; filled = h.filled })

filled_is : (ss : List (List ℕ)) → has_empty ss ≡ false → are_filled ss ≡ true
filled_is [] h = refl
filled_is ([] ∷ ss) h = absurd cc
filled_is ((b ∷ s) ∷ ss) h = filled_is ss h

filled_before : (ss : List (List ℕ)) → has_empty (before_last ss) ≡ false → are_filled_before_last ss ≡ true
filled_before [] h = refl
filled_before (s ∷ []) h = refl
filled_before ([] ∷ t ∷ ss) h = absurd cc
filled_before ((b ∷ s) ∷ t ∷ ss) h = filled_before (t ∷ ss) h

ok : (r : Result Name Fault) (y z : Name) → r ≡ Ok y → r ≡ Ok z → y ≡ z
ok r y z p e = cc

-- what a name that there is says of its subscripts
record Made (scope : Scope) (word : List ℕ) (filled ss : List (List ℕ)) (x : Name) : Type 0 where
  whole : has_empty filled ≡ false
  few : nat_le (length ss) 31 ≡ true
  same : record { global = is_global scope; word = word; subscripts = ss } ≡ x

made : (scope : Scope) (word : List ℕ) (filled ss : List (List ℕ)) (x : Name) → named_by scope word filled ss ≡ Ok x → Made scope word filled ss x
made scope word filled ss x e = by (has_empty filled) (nat_lt 31 (length ss)) refl refl e
  where
    n : Name
    n = record { global = is_global scope; word = word; subscripts = ss }

    by : (a b : Bool) → has_empty filled ≡ a → nat_lt 31 (length ss) ≡ b → cond a (Err Subscript) (cond b (Err Limit) (Ok n)) ≡ Ok x → Made scope word filled ss x
    by true b p q e = absurd cc
    by false true p q e = absurd cc
    by false false p q e = record { whole = p; few = le-leb (length ss) 31 (ltb-false 31 (length ss) q); same = ok (Ok n) n x refl e }

-- a name that is whole
pub named : (scope : Scope) (word : List ℕ) (ss : List (List ℕ)) (x : Name) → is_word word ≡ true → name_of scope word ss ≡ Ok x → IsNamed x
named scope word ss x w e =
    let m = made scope word ss ss x e in
    let P : Name → Type 0 = λ y. IsNamed y in
    subst P m.same (record { word = w; few = m.few; filled = filled_is ss m.whole })

-- what a function wants of its name
abbrev pub Suits : NameFunction → Name → Type 0
Suits names.Data x = IsNamed x
Suits names.Get x = IsNamed x
Suits names.Name x = IsNamed x
Suits names.Order x = IsSought x
Suits names.Query x = IsSought x

sought : (scope : Scope) (word : List ℕ) (ss : List (List ℕ)) (x : Name) → is_word word ≡ true → named_by scope word (before_last ss) ss ≡ Ok x → IsSought x
sought scope word ss x w e =
    let m = made scope word (before_last ss) ss x e in
    let P : Name → Type 0 = λ y. IsSought y in
    subst P m.same (record { word = w; few = m.few; filled = filled_before ss m.whole })

pub suits : (f : NameFunction) (scope : Scope) (word : List ℕ) (ss : List (List ℕ)) (x : Name) → is_word word ≡ true → named_for f scope word ss ≡ Ok x → Suits f x
suits names.Data scope word ss x w e = named scope word ss x w e
suits names.Get scope word ss x w e = named scope word ss x w e
suits names.Name scope word ss x w e = named scope word ss x w e
suits names.Order scope word ss x w e = sought scope word ss x w e
suits names.Query scope word ss x w e = sought scope word ss x w e
