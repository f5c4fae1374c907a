-- What a search for the separator says of the pieces, and the pieces put together again.
use Rattle.std.proofs.Common.{◌≡◌, ℕ, zero, suc, ◌+◌, ◌-◌, ◌<◌, ◌≤◌, Bool, true, false, Option, List, [], ◌∷◌, ◌++◌, Some, None, length, take, drop, get_or, replicate, refl, sym, ap, subst, ◌∙◌, arith, lit<, nat_eq, length-drop, length-append, drop-drop, take-append-drop, take-take, append_assoc, ⊎_elim, zero-add, add-one, zero-le, max, ◌*◌, ℤ, zero-mul, suc-mul, Result, Ok, Err}
use Rattle.std.specs.List.{starts_with, onto_first, repeat}
use Rattle.std.proofs.Math.Nat.{mul-le-mul_right}
use Rattle.std.proofs.lemmas.Bool.{eqb-true, eq-eqb, cond-true, cond-false, cond_both, cases_lt, le-leb, lt-leb, false≢true, false_from_ne_true}
use Rattle.std.proofs.lemmas.List.{drop-take, take_all, drop_all, append-nil, length-take, take_at, drop_at, take-append-le, take-replicate}
use Rattle.std.proofs.lemmas.Slice.Eq.{bytes_eq-Decides}
use Rattle.memchr.specs.Find.{OccursAt, FindsNeedle, IsFirstByte, Nowhere, Passes, is_byte}
use Rattle.mj_text.proofs.FindLemmas.{FindsNeedle-later}
use Rattle.memchr.proofs.lemmas.MatchLemmas.{OccursAt-part, OccursAt-from_part, OccursAt-split}
use Rattle.mj_strfn.specs.Pieces.{pieces_behind, pieces, joined, ended, IsBehind, IsBehindFirst}
use Rattle.mj_text.specs.Failing.{Answers}
use Rattle.mj_strfn.specs.Functions.{place, piece_count, some_pieces, set_piece_value, with_pieces}
use Rattle.mj_text.specs.declared.limit.Limit.{Limit}
use Rattle.mj_text.specs.Limit.{most_bytes, within_limit}
use Rattle.mj_text.proofs.LimitLemmas as limits
use Rattle.std.specs.Result.{is_ok}
use Rattle.mj_text.specs.declared.fault.Fault.{Fault}
use Rattle.mj_text.specs.declared.fault.Fault.TheVariants.{Length}
use Rattle.mj_text.specs.declared.fault.Failure.{Failure}
use Rattle.mj_text.specs.declared.fault.Failure.TheVariants.{Memory}
use Rattle.mj_strfn.specs.Parts.{pieces_between}

-- ---- where the separator stands

-- the separator stands at place k
abbrev pub stands : List ℕ → List ℕ → ℕ → Bool
stands d s k = starts_with nat_eq (drop k s) d

pub stands_from : (d s : List ℕ) (k : ℕ) → OccursAt s d k → stands d s k ≡ true
stands_from d s k h = (bytes_eq-Decides d _).1 (sym (OccursAt-part s d k h))

pub occurs_from : (d s : List ℕ) (k : ℕ) → 0 < length d → stands d s k ≡ true → OccursAt s d k
occurs_from d s k some h =
    let is : d ≡ take (length d) (drop k s) = (bytes_eq-Decides d _).0 h in
    let long : length d ≡ length (take (length d) (drop k s)) = ap length is in
    let cut = length-take (length d) (drop k s) in
    let rest = length-drop k s in
    OccursAt-from_part s d k (omega arith) (sym is)

-- ---- the pieces, one after the other

pieces_behind_is : (d : List ℕ) (n : ℕ) (s : List ℕ) → pieces_behind d n s ≡ pieces d (drop n s)
pieces_behind_is d zero s = refl
pieces_behind_is d (suc n) [] = refl
pieces_behind_is d (suc n) (x ∷ xs) = pieces_behind_is d n xs

-- the separator stands at the front: an empty piece, and the pieces behind it
pieces_at_front : (d s : List ℕ) → 0 < length d → stands d s 0 ≡ true → OccursAt s d 0 → pieces d s ≡ [] ∷ pieces d (drop (length d) s)
pieces_at_front d [] some h at =
    let fits = at.fits in
    absurd (omega arith)
pieces_at_front [] (x ∷ xs) some h at = absurd (omega arith)
pieces_at_front (c ∷ d) (x ∷ xs) some h at =
    cond-true _ _ _ h ∙ ap (λ ps. [] ∷ ps) (ap (λ n. pieces_behind (c ∷ d) n xs) (omega arith) ∙ pieces_behind_is (c ∷ d) (length d) xs)

-- the first occurrence ends the first piece
pub pieces_first : (d s : List ℕ) (k : ℕ) → 0 < length d → OccursAt s d k → ((j : ℕ) → j < k → stands d s j ≡ false) → pieces d s ≡ take k s ∷ pieces d (drop (k + length d) s)
pieces_first d s zero some at before = rw zero-add (pieces_at_front d s some (stands_from d s 0 at) at)
pieces_first d [] (suc k) some at before =
    let fits = at.fits in
    absurd (omega arith)
pieces_first d (x ∷ xs) (suc k) some at before =
    let here : OccursAt xs d k = occurs_from d xs k some (stands_from d (x ∷ xs) (suc k) at) in
    let rest = pieces_first d xs k some here (λ j l. before (suc j) (omega arith)) in
    cond-false _ _ _ (before 0 (omega arith)) ∙ ap (onto_first x) rest ∙ ap (λ n. (x ∷ take k xs) ∷ pieces d (drop n (x ∷ xs))) (let e : suc (k + length d) ≡ suc k + length d = omega arith in e)

-- no occurrence: one piece
pub pieces_alone : (d s : List ℕ) → ((j : ℕ) → stands d s j ≡ false) → pieces d s ≡ s ∷ []
pieces_alone d [] none = refl
pieces_alone d (x ∷ xs) none = cond-false _ _ _ (none 0) ∙ ap (onto_first x) (pieces_alone d xs (λ j. none (suc j)))

-- ---- what a search says

pub pieces_found : (d s : List ℕ) (k : ℕ) → 0 < length d → FindsNeedle s d 0 (Some k) → pieces d s ≡ take k s ∷ pieces d (drop (k + length d) s)
pieces_found d s k some found =
    pieces_first d s k some found.1 (λ j l. false_from_ne_true _ (λ h. found.0.before j (omega arith) l (occurs_from d s j some h)))

pub pieces_not_found : (d s : List ℕ) → 0 < length d → FindsNeedle s d 0 None → pieces d s ≡ s ∷ []
pieces_not_found d s some found =
    pieces_alone d s (λ j. false_from_ne_true _ (λ h. let at = occurs_from d s j some h in let fits = at.fits in found j (omega arith) (omega arith) at))

-- ---- pieces with the separator behind each

pub ended-append : (d : List ℕ) (ps qs : List (List ℕ)) → ended d (ps ++ qs) ≡ ended d ps ++ ended d qs
ended-append d [] qs = refl
ended-append d (p ∷ ps) qs = ap (λ r. p ++ d ++ r) (ended-append d ps qs) ∙ sym (append_assoc (p ++ d) (ended d ps) (ended d qs))

-- a piece at least: the separator behind all of them
pub ended_is_joined : (d p : List ℕ) (ps : List (List ℕ)) → ended d (p ∷ ps) ≡ joined d (p ∷ ps) ++ d
ended_is_joined d p [] = append-nil (p ++ d)
ended_is_joined d p (q ∷ ps) = ap (λ r. p ++ d ++ r) (ended_is_joined d q ps) ∙ sym (append_assoc (p ++ d) (joined d (q ∷ ps)) d)

pub joined-append : (d q : List ℕ) (ps qs : List (List ℕ)) → joined d (ps ++ q ∷ qs) ≡ ended d ps ++ joined d (q ∷ qs)
joined-append d q [] qs = refl
joined-append d q (p ∷ []) qs = ap (λ r. r ++ joined d (q ∷ qs)) (sym (append-nil (p ++ d)))
joined-append d q (p ∷ p' ∷ ps) qs = ap (λ r. p ++ d ++ r) (joined-append d q (p' ∷ ps) qs) ∙ sym (append_assoc (p ++ d) (ended d (p' ∷ ps)) (joined d (q ∷ qs)))

pub ended-empty : (d : List ℕ) (n : ℕ) → ended d (replicate n []) ≡ repeat n d
ended-empty d zero = refl
ended-empty d (suc n) = ap (λ r. d ++ r) (ended-empty d n)

-- ---- what stands behind the first pieces

pub behind_none : (d s : List ℕ) → IsBehind d s 0 s
behind_none d s = record { rest = refl; whole = refl }

take-add : {A : Type 0} (n m : ℕ) (l : List A) → take (n + m) l ≡ take n l ++ take m (drop n l)
take-add n m l = sym (take-append-drop n (take (n + m) l)) ∙ ap (λ r. r ++ drop n (take (n + m) l)) (take-take n (n + m) l (omega arith)) ∙ ap (λ r. take n l ++ r) (drop-take n m l)

-- what a search finds
pub first_found : (d s : List ℕ) (p : ℕ) → 0 < length d → FindsNeedle s d 0 (Some p) → IsBehindFirst d s (drop (p + length d) s)
first_found d s p some found =
    let at = found.1 in
    let fits = at.fits in
    let less = length-drop (p + length d) s in
    record {
      piece = take p s;
      first = pieces_found d s p some found;
      whole = sym (take-append-drop p s) ∙ ap (λ l. take p s ++ l) (OccursAt-split s d p at) ∙ sym (append_assoc (take p s) d _);
      less = omega arith;
    }

pub none_found : (d s : List ℕ) → 0 < length d → FindsNeedle s d 0 None → length (pieces d s) ≡ 1
none_found d s some found = ap length (pieces_not_found d s some found)

-- ---- a separator of one byte

-- where the byte stands, the separator of that byte alone does
byte_occurs : (b : ℕ) (s : List ℕ) (k : ℕ) → k < length s → is_byte b (get_or s k 0) ≡ true → OccursAt s (b ∷ []) k
byte_occurs b s k l h = record {
  fits = omega arith;
  reads = λ j m.
      let first : j ≡ 0 = omega arith in
      ap (λ n. get_or s n 0) (let e : k + j ≡ k = omega arith in e) ∙ eqb-true (get_or s k 0) b h ∙ sym (ap (λ n. get_or (b ∷ []) n 0) first);
}

occurs_byte : (b : ℕ) (s : List ℕ) (k : ℕ) → OccursAt s (b ∷ []) k → is_byte b (get_or s k 0) ≡ true
occurs_byte b s k at = eq-eqb (get_or s k 0) b (ap (λ n. get_or s n 0) (let e : k ≡ k + 0 = omega arith in e) ∙ at.reads 0 (lit< tt))

-- a search for the byte is one for the separator
needle_of_byte : (b : ℕ) (s : List ℕ) (r : Option ℕ) → IsFirstByte (is_byte b) s r → FindsNeedle s (b ∷ []) 0 r
needle_of_byte b s None h = λ k low high at.
    let fits = at.fits in
    h k low (omega arith) (occurs_byte b s k at)
needle_of_byte b s (Some k) h = (
  record {
    low = h.0.low;
    high =
        let high = h.0.high in
        omega arith;
    before = λ j low below at. h.0.before j low below (occurs_byte b s j at);
  },
  byte_occurs b s k h.0.high h.1,
)

byte_found : (b : ℕ) (s : List ℕ) (p : ℕ) → IsFirstByte (is_byte b) s (Some p) → IsBehindFirst (b ∷ []) s (drop (p + 1) s)
byte_found b s p found = first_found (b ∷ []) s p (lit< tt) (needle_of_byte b s (Some p) found)

-- a search of what follows the places that were looked at, and where none of those has the byte
from_near : (b : ℕ) (s : List ℕ) (near : ℕ) (r : Option ℕ) → Nowhere (Passes (is_byte b) s) 0 near → FindsNeedle s (b ∷ []) near r → FindsNeedle s (b ∷ []) 0 r
from_near b s near None before h = λ k low high at. ⊎_elim (λ below. before k low below (occurs_byte b s k at)) (λ from. h k from high at) (cases_lt k near)
from_near b s near (Some p) before h = (
  record {
    low = zero-le;
    high = h.0.high;
    before = λ k low below at. ⊎_elim (λ less. before k low less (occurs_byte b s k at)) (λ from. h.0.before k from below at) (cases_lt k near);
  },
  h.1,
)

pub near_found : (b : ℕ) (s : List ℕ) (p : ℕ) → p < length s → get_or s p 0 ≡ b → Nowhere (Passes (is_byte b) s) 0 p → IsBehindFirst (b ∷ []) s (drop (p + 1) s)
near_found b s p within here before = byte_found b s p (record { low = zero-le; high = within; before = before }, eq-eqb _ _ here)

pub near_more : (b : ℕ) (s : List ℕ) (p n : ℕ) → n ≡ p + 1 → (get_or s p 0 ≡ b → ⊥) → Nowhere (Passes (is_byte b) s) 0 p → Nowhere (Passes (is_byte b) s) 0 n
near_more b s p n next other before = λ k low high h.
    ⊎_elim (λ below. before k low below h) (λ from. let same : k ≡ p = omega arith in other (ap (λ j. get_or s j 0) (sym same) ∙ eqb-true (get_or s k 0) b h)) (cases_lt k p)

pub far_found : (b : ℕ) (s rest : List ℕ) (near p place : ℕ) → near ≤ length s → rest ≡ drop near s → Nowhere (Passes (is_byte b) s) 0 near → IsFirstByte (is_byte b) rest (Some p) → place ≡ near + p
    → IsBehindFirst (b ∷ []) s (drop (place + 1) s)
far_found b s rest near p place within is before found at =
    let later = FindsNeedle-later (b ∷ []) s near within (Some p) (needle_of_byte b (drop near s) (Some p) (subst (λ (l : List ℕ). IsFirstByte (is_byte b) l (Some p)) is found)) in
    subst (λ (k : ℕ). IsBehindFirst (b ∷ []) s (drop (k + 1) s)) (let e : p + near ≡ place = omega arith in e)
    (first_found (b ∷ []) s (p + near) (lit< tt) (from_near b s near (Some (p + near)) before later))

pub none_far : (b : ℕ) (s rest : List ℕ) (near : ℕ) → near ≤ length s → rest ≡ drop near s → Nowhere (Passes (is_byte b) s) 0 near → IsFirstByte (is_byte b) rest None → length (pieces (b ∷ []) s) ≡ 1
none_far b s rest near within is before found =
    let later = FindsNeedle-later (b ∷ []) s near within None (needle_of_byte b (drop near s) None (subst (λ (l : List ℕ). IsFirstByte (is_byte b) l None) is found)) in
    none_found (b ∷ []) s (lit< tt) (from_near b s near None before later)

-- one piece more
pub behind_more : (d s r q : List ℕ) (k : ℕ) → IsBehind d s k r → IsBehindFirst d r q → IsBehind d s (k + 1) q
behind_more d s r q k h f =
    let next : drop k (pieces d s) ≡ f.piece ∷ pieces d q = sym h.rest ∙ f.first in
    record {
      rest = sym (ap (drop 1) next) ∙ drop-drop 1 k (pieces d s);
      whole =
          let up : take (k + 1) (pieces d s) ≡ take k (pieces d s) ++ f.piece ∷ [] = take-add k 1 (pieces d s) ∙ ap (λ l. take k (pieces d s) ++ take 1 l) next in
          let front = ended d (take k (pieces d s)) in
          h.whole
          ∙ ap (λ l. front ++ l) f.whole
          ∙ sym (append_assoc front (f.piece ++ d) q)
          ∙ sym (ap (λ l. ended d l ++ q) up ∙ ap (λ l. l ++ q) (ended-append d (take k (pieces d s)) (f.piece ∷ []) ∙ ap (λ l. front ++ l) (append-nil (f.piece ++ d))));
    }

-- the last piece of all stands behind the others
pub behind_last : (d s r : List ℕ) (k : ℕ) → IsBehind d s k r → length (pieces d r) ≡ 1 → length (pieces d s) ≤ k + 1
behind_last d s r k h one =
    let same : length (pieces d r) ≡ length (drop k (pieces d s)) = ap length h.rest in
    let m = length-drop k (pieces d s) in
    omega arith

pub count_more : (d s q : List ℕ) → IsBehindFirst d s q → length (pieces d s) ≡ length (pieces d q) + 1
count_more d s q f = ap length f.first ∙ sym (add-one _)

onto_first_some : (x : ℕ) (ps : List (List ℕ)) → 0 < length (onto_first x ps)
onto_first_some x [] = lit< tt
onto_first_some x (p ∷ ps) = omega arith

some_behind : (d : List ℕ) (n : ℕ) (s : List ℕ) → 0 < length (pieces_behind d n s)
some_behind d zero [] = lit< tt
some_behind d (suc n) [] = lit< tt
some_behind d (suc n) (x ∷ xs) = some_behind d n xs
some_behind d zero (x ∷ xs) =
    cond_both (stands d (x ∷ xs) 0) _ _ (λ (ps : List (List ℕ)). 0 < length ps) (λ _. omega arith) (λ _. onto_first_some x (pieces d xs))

-- a text has a piece at least
pub some_piece : (d s : List ℕ) → 0 < length (pieces d s)
some_piece d s = some_behind d 0 s

joined_after : (d e : List ℕ) (ps : List (List ℕ)) → 0 < length ps → joined d (e ∷ ps) ≡ e ++ d ++ joined d ps
joined_after d e [] some = absurd (omega arith)
joined_after d e (p ∷ ps) some = refl

joined-onto_first : (d : List ℕ) (x : ℕ) (ps : List (List ℕ)) → 0 < length ps → joined d (onto_first x ps) ≡ x ∷ joined d ps
joined-onto_first d x [] some = absurd (omega arith)
joined-onto_first d x (p ∷ []) some = refl
joined-onto_first d x (p ∷ q ∷ ps) some = refl

joined_behind : (d : List ℕ) (n : ℕ) (s : List ℕ) → 0 < length d → joined d (pieces_behind d n s) ≡ drop n s
joined_behind d zero [] some = refl
joined_behind d (suc n) [] some = refl
joined_behind d (suc n) (x ∷ xs) some = joined_behind d n xs some
joined_behind [] zero (x ∷ xs) some = absurd (omega arith)
joined_behind (c ∷ d) zero (x ∷ xs) some =
    let d' = c ∷ d in
    let yes = pieces_behind d' (length d' - 1) xs in
    let no = pieces_behind d' 0 xs in
    cond_both (stands d' (x ∷ xs) 0) ([] ∷ yes) (onto_first x no) (λ (ps : List (List ℕ)). joined d' ps ≡ x ∷ xs) (
    λ h. joined_after d' [] yes (some_behind d' _ xs)
    ∙ ap (λ l. d' ++ l) (joined_behind d' (length d' - 1) xs some)
    ∙ ap (λ n. d' ++ drop n xs) (let e : length d' - 1 ≡ length d = omega arith in e)
    ∙ sym (OccursAt-split (x ∷ xs) d' 0 (occurs_from d' (x ∷ xs) 0 some h) ∙ ap (λ n. d' ++ drop n (x ∷ xs)) (zero-add (length d')))
    ) (λ h. joined-onto_first d' x no (some_behind d' 0 xs) ∙ ap (λ l. x ∷ l) (joined_behind d' 0 xs some))

pub joined-pieces : (d s : List ℕ) → 0 < length d → joined d (pieces d s) ≡ s
joined-pieces d s some = joined_behind d 0 s some

-- ---- some of the pieces as a part of the text

ended_some : (d : List ℕ) (ps : List (List ℕ)) → 0 < length ps → ended d ps ≡ joined d ps ++ d
ended_some d [] full = absurd (omega arith)
ended_some d (p ∷ ps) full = ended_is_joined d p ps

joined_take_ended : (d : List ℕ) (n : ℕ) (ps : List (List ℕ)) → 0 < n → 0 < length ps → ended d (take n ps) ≡ joined d (take n ps) ++ d
joined_take_ended d zero ps some full = absurd (omega arith)
joined_take_ended d (suc n) [] some full = absurd (omega arith)
joined_take_ended d (suc n) (p ∷ ps) some full = ended_is_joined d p (take n ps)

-- the first n pieces are what stands before the separator before the rest
pub front_is : (d s r : List ℕ) (n : ℕ) → 0 < n → IsBehind d s n r → take (length s - length r - length d) s ≡ joined d (take n (pieces d s))
front_is d s r n some h =
    let front = joined d (take n (pieces d s)) in
    let is : s ≡ front ++ (d ++ r) =
    h.whole ∙ ap (λ l. l ++ r) (joined_take_ended d n (pieces d s) some (some_piece d s)) ∙ append_assoc front d r in
    let long : length s ≡ length front + length (d ++ r) = ap length is ∙ length-append front (d ++ r) in
    let more = length-append d r in
    ap (λ l. take (length s - length r - length d) l) is ∙ take_at front (d ++ r) _ (omega arith)

-- where there are no more than n pieces, the first n are the text
pub front_all : (d s : List ℕ) (n : ℕ) → 0 < length d → length (pieces d s) ≤ n → joined d (take n (pieces d s)) ≡ s
front_all d s n some few = ap (joined d) (take_all n (pieces d s) few) ∙ joined-pieces d s some

-- ---- a piece set

pub behind_below : (d s r : List ℕ) (k : ℕ) → IsBehind d s k r → k < length (pieces d s)
behind_below d s r k h =
    let some = some_piece d r in
    let same : length (pieces d r) ≡ length (drop k (pieces d s)) = ap length h.rest in
    let rest = length-drop k (pieces d s) in
    omega arith

-- the pieces before a piece that there is, and then others
pub set_within : (d s r e : List ℕ) (k : ℕ) (others : List (List ℕ)) → IsBehind d s k r
    → joined d (take k (pieces d s ++ replicate k []) ++ e ∷ others) ≡ take (length s - length r) s ++ joined d (e ∷ others)
set_within d s r e k others h =
    let front = ended d (take k (pieces d s)) in
    let below = behind_below d s r k h in
    let same : take k (pieces d s ++ replicate k []) ≡ take k (pieces d s) = take-append-le k (pieces d s) _ (omega arith) in
    let long : length s ≡ length front + length r = ap length h.whole ∙ length-append front r in
    let cut : take (length s - length r) s ≡ front = ap (λ l. take (length s - length r) l) h.whole ∙ take_at front r _ (omega arith) in
    ap (λ l. joined d (l ++ e ∷ others)) same ∙ joined-append d e (take k (pieces d s)) others ∙ ap (λ l. l ++ joined d (e ∷ others)) (sym cut)

-- the pieces before a piece that there isn't: as many empty ones as are wanted
pub set_past : (d s e : List ℕ) (k : ℕ) → 0 < length d → length (pieces d s) ≤ k → joined d (take k (pieces d s ++ replicate k []) ++ e ∷ []) ≡ s ++ repeat (k + 1 - length (pieces d s)) d ++ e
set_past d s e k some few =
    let ps = pieces d s in
    let n = k - length ps in
    let split : k ≡ length ps + n = omega arith in
    let padded : take k (ps ++ replicate k []) ≡ ps ++ replicate n [] =
    ap (λ m. take m (ps ++ replicate k [])) split
    ∙ take-add (length ps) n (ps ++ replicate k [])
    ∙ ap (λ l. l ++ take n (drop (length ps) (ps ++ replicate k []))) (take_at ps (replicate k []) (length ps) refl)
    ∙ ap (λ l. ps ++ take n l) (drop_at ps (replicate k []) (length ps) refl)
    ∙ ap (λ l. ps ++ l) (take-replicate n k [] (omega arith)) in
    let front : ended d (ps ++ replicate n []) ≡ s ++ repeat (suc n) d =
    ended-append d ps (replicate n [])
    ∙ ap (λ l. l ++ ended d (replicate n [])) (ended_some d ps (some_piece d s) ∙ ap (λ l. l ++ d) (joined-pieces d s some))
    ∙ ap (λ l. s ++ d ++ l) (ended-empty d n)
    ∙ append_assoc s d (repeat n d) in
    ap (λ l. joined d (l ++ e ∷ [])) padded
    ∙ joined-append d e (ps ++ replicate n []) []
    ∙ ap (λ l. l ++ e) front
    ∙ ap (λ m. s ++ repeat m d ++ e) (let same : suc n ≡ k + 1 - length ps = omega arith in same)

-- nothing behind the last piece, or the rest of the text
pub rest_none : (d e : List ℕ) (k : ℕ) (ps : List (List ℕ)) → length ps ≤ k → joined d (e ∷ drop k ps) ≡ e
rest_none d e k ps few = ap (λ l. joined d (e ∷ l)) (drop_all k ps few)

pub rest_some : (d s r e : List ℕ) (k : ℕ) → 0 < length d → IsBehind d s k r → joined d (e ∷ drop k (pieces d s)) ≡ e ++ d ++ r
rest_some d s r e k some h = ap (λ l. joined d (e ∷ l)) (sym h.rest) ∙ joined_after d e (pieces d r) (some_piece d r) ∙ ap (λ l. e ++ d ++ l) (joined-pieces d r some)

-- ---- room

-- the first pieces, the separator and the rest are the text
pub front_room : (d s r : List ℕ) (n : ℕ) → 0 < n → IsBehind d s n r → length r + length d ≤ length s
front_room d s r n some h =
    let front = joined d (take n (pieces d s)) in
    let is : s ≡ front ++ (d ++ r) =
    h.whole ∙ ap (λ l. l ++ r) (joined_take_ended d n (pieces d s) some (some_piece d s)) ∙ append_assoc front d r in
    let long : length s ≡ length front + length (d ++ r) = ap length is ∙ length-append front (d ++ r) in
    let more = length-append d r in
    omega arith

pub behind_room : (d s r : List ℕ) (k : ℕ) → IsBehind d s k r → length r ≤ length s
behind_room d s r k h =
    let front = ended d (take k (pieces d s)) in
    let long : length s ≡ length front + length r = ap length h.whole ∙ length-append front r in
    omega arith

-- what stands behind the first n pieces, with the separator before it
pub back_is : (d s r : List ℕ) (n : ℕ) → 0 < n → IsBehind d s n r → drop (length s - length r - length d) s ≡ d ++ r
back_is d s r n some h =
    let front = joined d (take n (pieces d s)) in
    let is : s ≡ front ++ (d ++ r) =
    h.whole ∙ ap (λ l. l ++ r) (joined_take_ended d n (pieces d s) some (some_piece d s)) ∙ append_assoc front d r in
    let long : length s ≡ length front + length (d ++ r) = ap length is ∙ length-append front (d ++ r) in
    let more = length-append d r in
    ap (λ l. drop (length s - length r - length d) l) is ∙ drop_at front (d ++ r) _ (omega arith)

-- ---- the calls

pub piece_count_is : (s d : List ℕ) → 0 < length d → piece_count s d ≡ length (pieces d s)
piece_count_is s [] some = absurd (omega arith)
piece_count_is s (x ∷ d) some = refl

pub some_pieces_is : (s d : List ℕ) (a b : ℤ) → 0 < length d → some_pieces s d a b ≡ pieces_between d s (max 1 (place a)) (place b)
some_pieces_is s [] a b some = absurd (omega arith)
some_pieces_is s (x ∷ d) a b some = refl

pub set_piece_is : (limit : Limit) (old d e : List ℕ) (range : ℕ × ℕ) → 0 < length d → set_piece_value limit old d range e ≡ within_limit limit (with_pieces old d range e)
set_piece_is limit old [] e range some = absurd (omega arith)
set_piece_is limit old (x ∷ d) e range some = refl

-- nothing from the last piece to one before it, or behind the last piece
pub between_nothing : (d s : List ℕ) (first last : ℕ) → last < first → pieces_between d s first last ≡ []
between_nothing d s first last l = ap (λ n. joined d (take n (drop (first - 1) (pieces d s)))) (let e : last + 1 - first ≡ 0 = omega arith in e)

pub between_past : (d s : List ℕ) (first last : ℕ) → length (pieces d s) ≤ first - 1 → pieces_between d s first last ≡ []
between_past d s first last few =
    ap (λ l. joined d (take (last + 1 - first) l)) (drop_all (first - 1) (pieces d s) few) ∙ ap (joined d) (take_all (last + 1 - first) [] zero-le)

pub between_behind : (d s r : List ℕ) (first last : ℕ) → IsBehind d s (first - 1) r → pieces_between d s first last ≡ joined d (take (last + 1 - first) (pieces d r))
between_behind d s r first last h = ap (λ l. joined d (take (last + 1 - first) l)) (sym h.rest)

-- the new value of a SET: too few pieces, pieces within, pieces at the end
pub set_pads : (d s e : List ℕ) (first last : ℕ) → 0 < length d → 0 < first → first ≤ last → length (pieces d s) ≤ first - 1
    → with_pieces s d (first, last) e ≡ s ++ repeat (first - length (pieces d s)) d ++ e ++ []
set_pads d s e first last some one order few =
    let before = first - 1 in
    ap (λ l. joined d (take before (pieces d s ++ replicate before []) ++ e ∷ l)) (drop_all last (pieces d s) (omega arith))
    ∙ set_past d s e before some few
    ∙ ap (λ n. s ++ repeat n d ++ e) (let same : before + 1 - length (pieces d s) ≡ first - length (pieces d s) = omega arith in same)
    ∙ sym (append-nil _)

set_behind : (d s r e : List ℕ) (first last : ℕ) → IsBehind d s (first - 1) r → with_pieces s d (first, last) e ≡ take (length s - length r) s ++ joined d (e ∷ drop last (pieces d s))
set_behind d s r e first last h = set_within d s r e (first - 1) (drop last (pieces d s)) h

rest_behind : (d s r : List ℕ) (first last : ℕ) → 0 < first → first ≤ last → IsBehind d s (first - 1) r → drop last (pieces d s) ≡ drop (last - (first - 1)) (pieces d r)
rest_behind d s r first last one order h =
    sym (ap (drop (last - (first - 1))) h.rest ∙ drop-drop (last - (first - 1)) (first - 1) (pieces d s)
    ∙ ap (λ n. drop n (pieces d s)) (let e : first - 1 + (last - (first - 1)) ≡ last = omega arith in e))

pub set_inside : (d s r q e : List ℕ) (first last : ℕ) → 0 < length d → 0 < first → first ≤ last → IsBehind d s (first - 1) r → IsBehind d r (last - (first - 1)) q
    → with_pieces s d (first, last) e ≡ take (length s - length r) s ++ repeat 0 d ++ e ++ drop (length r - length q - length d) r
set_inside d s r q e first last some one order h g =
    let front = take (length s - length r) s in
    set_behind d s r e first last h
    ∙ ap (λ l. front ++ joined d (e ∷ l)) (rest_behind d s r first last one order h)
    ∙ ap (λ l. front ++ l) (rest_some d r q e (last - (first - 1)) some g)
    ∙ ap (λ l. front ++ l) (append_assoc e d q ∙ ap (λ l. e ++ l) (sym (back_is d r q (last - (first - 1)) (omega arith) g)))
    ∙ sym (append_assoc front e _)
    ∙ ap (λ l. l ++ e ++ drop (length r - length q - length d) r) (sym (append-nil front))

pub set_last : (d s r e : List ℕ) (first last : ℕ) → 0 < length d → 0 < first → first ≤ last → IsBehind d s (first - 1) r → length (pieces d r) ≤ last - (first - 1)
    → with_pieces s d (first, last) e ≡ take (length s - length r) s ++ repeat 0 d ++ e ++ []
set_last d s r e first last some one order h few =
    let front = take (length s - length r) s in
    set_behind d s r e first last h
    ∙ ap (λ l. front ++ joined d (e ∷ l)) (rest_behind d s r first last one order h)
    ∙ ap (λ l. front ++ l) (rest_none d e (last - (first - 1)) (pieces d r) few)
    ∙ ap (λ l. l ++ e) (sym (append-nil front))
    ∙ sym (append-nil _)

-- ---- a text put together

pub length-repeat : (n : ℕ) (d : List ℕ) → length (repeat n d) ≡ n * length d
length-repeat zero d = sym (zero-mul (length d))
length-repeat (suc n) d =
    let rest = length-repeat n d in
    let all = length-append d (repeat n d) in
    let one = suc-mul n (length d) in
    omega arith

pub repeat_more : (n : ℕ) (d : List ℕ) → repeat n d ++ d ≡ repeat (n + 1) d
repeat_more n d = rw add-one (more n)
  where
    more : (n : ℕ) → repeat n d ++ d ≡ repeat (suc n) d
    more zero = sym (append-nil d)
    more (suc n) = append_assoc d (repeat n d) d ∙ ap (λ l. d ++ l) (more n)

pub length_assembled : (front d middle back : List ℕ) (n : ℕ) → length (front ++ repeat n d ++ middle ++ back) ≡ length front + length middle + length back + n * length d
length_assembled front d middle back n =
    let a = length-append (front ++ repeat n d ++ middle) back in
    let b = length-append (front ++ repeat n d) middle in
    let c = length-append front (repeat n d) in
    let e = length-repeat n d in
    omega arith

-- whether all of it fits
pub assembled_fits : (limit : Limit) (front d middle back : List ℕ) (n : ℕ) → length front + length middle + length back + n * length d ≤ most_bytes limit
    → within_limit limit (front ++ repeat n d ++ middle ++ back) ≡ Ok (front ++ repeat n d ++ middle ++ back)
assembled_fits limit front d middle back n h =
    let long = length_assembled front d middle back n in
    let small : length (front ++ repeat n d ++ middle ++ back) ≤ most_bytes limit = omega arith in
    limits.fits_limit limit _ small

pub assembled_long : (limit : Limit) (front d middle back : List ℕ) (n : ℕ) → most_bytes limit < length front + length middle + length back + n * length d
    → within_limit limit (front ++ repeat n d ++ middle ++ back) ≡ Err Length
assembled_long limit front d middle back n h =
    let long = length_assembled front d middle back n in
    let large : most_bytes limit < length (front ++ repeat n d ++ middle ++ back) = omega arith in
    limits.above_limit limit _ large

pub assembled_within : (front d middle back : List ℕ) (n limit : ℕ) → length front + length middle + length back + n * length d ≤ limit → length (front ++ repeat n d ++ middle ++ back) ≤ limit
assembled_within front d middle back n limit h =
    let long = length_assembled front d middle back n in
    omega arith

-- what is put into a room: the filling once more, the middle, and the back
pub room_more : (room front d middle back : List ℕ) (n times limit : ℕ) → room ≡ front ++ repeat n d → n < times → length front + length middle + length back + times * length d ≤ limit
    → length room + length d ≤ limit
room_more room front d middle back n times limit is less h =
    let more : suc n * length d ≤ times * length d = mul-le-mul_right (length d) (let l : suc n ≤ times = omega arith in l) in
    let size : length room ≡ length (front ++ repeat n d) = ap length is in
    let long = length-append front (repeat n d) in
    let filled = length-repeat n d in
    let one = suc-mul n (length d) in
    omega arith

pub room_middle : (room front d middle back : List ℕ) (n times limit : ℕ) → room ≡ front ++ repeat n d → n ≡ times → length front + length middle + length back + times * length d ≤ limit
    → length room + length middle ≤ limit
room_middle room front d middle back n times limit is end h =
    let size : length room ≡ length (front ++ repeat times d) = ap length (is ∙ ap (λ k. front ++ repeat k d) end) in
    let long = length-append front (repeat times d) in
    let filled = length-repeat times d in
    omega arith

pub room_back : (made room front d middle back : List ℕ) (n times limit : ℕ) → made ≡ room ++ middle → room ≡ front ++ repeat n d → n ≡ times
    → length front + length middle + length back + times * length d ≤ limit → length made + length back ≤ limit
room_back made room front d middle back n times limit more is end h =
    let size : length room ≡ length (front ++ repeat times d) = ap length (is ∙ ap (λ k. front ++ repeat k d) end) in
    let all : length made ≡ length (room ++ middle) = ap length more in
    let both = length-append room middle in
    let long = length-append front (repeat times d) in
    let filled = length-repeat times d in
    omega arith

pub room_all : (all made room front d middle back : List ℕ) (n times : ℕ) → all ≡ made ++ back → made ≡ room ++ middle → room ≡ front ++ repeat n d → n ≡ times
    → all ≡ front ++ repeat times d ++ middle ++ back
room_all all made room front d middle back n times last more is end = last ∙ ap (λ l. l ++ back) (more ∙ ap (λ l. l ++ middle) (is ∙ ap (λ k. front ++ repeat k d) end))

-- a call that wants memory for a text that there is
pub wants_memory : (v : Result (List ℕ) Fault) (t : List ℕ) (r : Result (List ℕ) Failure) → v ≡ Ok t → r ≡ Err Memory → Answers v r
wants_memory v t r is ends = rw ends (ap is_ok is)

-- what isn't at most the limit is above it
pub not_within : (most n : ℕ) → (n ≤ most → false ≡ true) → most < n
not_within most n h = ⊎_elim (λ l. l) (λ l. absurd (false≢true (h l))) (cases_lt most n)

pub answers_as : (v w : Result (List ℕ) Fault) (r : Result (List ℕ) Failure) → v ≡ w → Answers w r → Answers v r
answers_as v w r is h = rw is h

some_text : (d : List ℕ) → (d ≡ [] → false ≡ true) → 0 < length d
some_text [] h = absurd (false≢true (h refl))
some_text (x ∷ d) h = omega arith

pub set_answers : (limit : Limit) (old d e old' d' e' : List ℕ) (range range' : ℕ × ℕ) (r : Result (List ℕ) Failure) → old' ≡ old → d' ≡ d → e' ≡ e → range' ≡ range → (d ≡ [] → false ≡ true)
    → Answers (within_limit limit (with_pieces old' d' range' e')) r → Answers (set_piece_value limit old d range e) r
set_answers limit old d e old' d' e' range range' r same_old same_d same_e same_range some h =
    answers_as _ _ r (set_piece_is limit old d e range (some_text d some)) (
    subst (λ (l : List ℕ). Answers (within_limit limit (with_pieces l d range e)) r) same_old (
    subst (λ (l : List ℕ). Answers (within_limit limit (with_pieces old' l range e)) r) same_d (
    subst (λ (l : List ℕ). Answers (within_limit limit (with_pieces old' d' range l)) r) same_e (
    subst (λ (p : ℕ × ℕ). Answers (within_limit limit (with_pieces old' d' p e')) r) same_range h
    )
    )
    )
    )
