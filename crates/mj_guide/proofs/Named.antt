-- A name is read as what it spells, and nothing else is read as one.
use Rattle.std.proofs.Common.{◌≡◌, ◌∙◌, ℕ, Bool, true, false, ◌&&◌, eqb, eqb-true, List, [], ◌∷◌, ◌++◌, length, Option, Some, None, refl, sym, ap, subst, append-nil, arith}
use Rattle.std.specs.Borrow.{Bor}
use Rattle.std.specs.Option.{option_map}
use Rattle.std.specs.Prelude.{nat_le}
use Rattle.std.specs.List.{list_all}
use Rattle.mj_text.specs.declared.limit.Limit.TheVariants.{V2}
use Rattle.mj_subs.specs.Name.{Name, is_word}
use Rattle.mj_subs.specs.declared.subs.TheConstants.{SUBSCRIPTS_LIMIT}
use Rattle.mj_subs.specs.declared.word.TheConstants.{WORD_LIMIT}
use Rattle.mj_nref.specs.Spelling.{is_filled}
use Rattle.mj_gfile.specs.declared.field.Field.{Field}
use Rattle.mj_gfile.specs.declared.field.Field.TheVariants.{Within, Over}
use Rattle.mj_gfile.specs.Listing.{are_bytes, are_small, is_short, is_small, is_subscript, is_text, limited, name_field}
use Rattle.mj_gfile.specs.Reading.{name_at}
use Rattle.mj_gfile.specs.Spelling.{is_any_word, listed_name}
use Rattle.mj_gfile.specs.Laws.Texts.{both_true}
use Rattle.mj_gfile.specs.Laws.Names.{AreSubs, IsNamedOf, IsNameOf, name_at-IsNamedOf, name_at-listed}
use Rattle.mj_guide.specs.Requests.{is_named}

any_word : (w : List ℕ) → is_word w ≡ (is_any_word w && nat_le (length w) WORD_LIMIT)
any_word [] = refl
any_word (c ∷ cs) = refl

subs_of : (ss : List (List ℕ)) → list_all (is_subscript V2) ss ≡ true → AreSubs ss × (list_all (is_short V2) ss ≡ true)
subs_of [] h = (tt, refl)
subs_of (s ∷ ss) h =
    let p = both_true (is_subscript V2 s) (list_all (is_subscript V2) ss) h in
    let q = both_true (is_filled s) (is_text V2 s) p.0 in
    let r = both_true (is_short V2 s) (are_bytes s) q.1 in
    let more = subs_of ss p.1 in
    ((record { filled = q.0; bytes = r.1 }, more.0), (λ i. r.0 i && more.1 i))

of_subs : (ss : List (List ℕ)) → AreSubs ss → list_all (is_short V2) ss ≡ true → list_all (is_subscript V2) ss ≡ true
of_subs [] k h = refl
of_subs (s ∷ ss) k h =
    let p = both_true (is_short V2 s) (list_all (is_short V2) ss) h in λ i. (k.0.filled i && (p.0 i && k.0.bytes i)) && of_subs ss k.1 p.1 i

-- a name that can be given is spelled, and within the limits
named_parts : (n : Name) → is_named n ≡ true → (is_any_word n.word ≡ true) × AreSubs n.subscripts × (is_small V2 n ≡ true)
named_parts n h =
    let a = both_true (is_word n.word && nat_le (length n.subscripts) SUBSCRIPTS_LIMIT) (list_all (is_subscript V2) n.subscripts) h in
    let b = both_true (is_word n.word) (nat_le (length n.subscripts) SUBSCRIPTS_LIMIT) a.0 in
    let w = both_true (is_any_word n.word) (nat_le (length n.word) WORD_LIMIT) (sym (any_word n.word) ∙ b.0) in
    let s = subs_of n.subscripts a.1 in
    (w.0, s.0, (λ i. w.1 i && (b.1 i && s.1 i)))

parts_named : (n : Name) → is_any_word n.word ≡ true → AreSubs n.subscripts → is_small V2 n ≡ true → is_named n ≡ true
parts_named n w f h =
    let a = both_true (nat_le (length n.word) WORD_LIMIT) (are_small V2 n.subscripts) h in
    let b = both_true (nat_le (length n.subscripts) SUBSCRIPTS_LIMIT) (list_all (is_short V2) n.subscripts) a.1 in
    let c : is_word n.word ≡ true = any_word n.word ∙ (λ i. w i && a.0 i) in
    λ i. (c i && b.0 i) && of_subs n.subscripts f b.1 i

-- ---- what is read, with what follows it

abbrev pub found : Field Name → List ℕ → Option (Field Name × List ℕ)
found read rest = Some (read, rest)

some_same : (p q : Field Name × List ℕ) → Some p ≡ Some q → p ≡ q
some_same p q e = cc

parts : (a b : Field Name) (r s : List ℕ) → found a r ≡ found b s → (a ≡ b) × (r ≡ s)
parts a b r s e =
    let f = some_same (a, r) (b, s) e in (ap (λ (p : Field Name × List ℕ). p.0) f, ap (λ (p : Field Name × List ℕ). p.1) f)

-- what a name spells is read as it
pub named_read : (bytes : List ℕ) (n : Name) → is_named n ≡ true → bytes ≡ listed_name n → name_field V2 (name_at bytes) ≡ found (Within n) []
named_read bytes n h is =
    let p = named_parts n h in
    let at : name_at bytes ≡ Some (n, []) = ap name_at (is ∙ sym (append-nil (listed_name n))) ∙ name_at-listed n [] p.0 p.1 tt in
    ap (name_field V2) at ∙ ap (λ (b : Bool). found (limited b n) []) p.2

whole : (bytes : List ℕ) (n m : Name) (r : List ℕ) (b : Bool) → is_small V2 m ≡ b → IsNameOf bytes m r → found (limited b m) r ≡ found (Within n) []
    → (is_named n ≡ true) × (bytes ≡ listed_name n)
whole bytes n m r true small k e =
    let both = parts (Within m) (Within n) r [] e in
    let first : Within m ≡ Within n = both.0 in
    let same : m ≡ n = cc in
    let P : Name → Type 0 = λ x. (is_named x ≡ true) × (bytes ≡ listed_name x) in
    subst P same (parts_named m k.word k.subs small, k.spells ∙ ap (λ (l : List ℕ). listed_name m ++ l) both.1 ∙ append-nil (listed_name m))
whole bytes n m r false small k e =
    let both = parts Over (Within n) r [] e in
    let first : Over ≡ Within n = both.0 in
    absurd cc

-- what is read as a name spells it
pub read_named : (bytes : List ℕ) (n : Name) → name_field V2 (name_at bytes) ≡ found (Within n) [] → (is_named n ≡ true) × (bytes ≡ listed_name n)
read_named bytes n e = by (name_at bytes) (name_at-IsNamedOf bytes) e
  where
    by : (o : Option (Name × List ℕ)) → IsNamedOf bytes o → name_field V2 o ≡ found (Within n) [] → (is_named n ≡ true) × (bytes ≡ listed_name n)
    by None k e = absurd cc
    by (Some p) k e = whole bytes n p.0 p.1 (is_small V2 p.0) refl k e

-- ---- by the reader of a name

-- what it gives, without what ties the rest to the bytes
abbrev pub seen : Option (Field Name × Bor (List ℕ)) → Option (Field Name × List ℕ)
seen o = option_map (λ p. (p.0, p.1.now)) o

-- it finds none
pub reads_none : (bytes : List ℕ) (o : Option (Field Name × Bor (List ℕ))) → seen o ≡ name_field V2 (name_at bytes) → o ≡ None
    → (n : Name) → is_named n ≡ true → ¬ (bytes ≡ listed_name n)
reads_none bytes None says none n is same = let e : name_field V2 (name_at bytes) ≡ found (Within n) [] = named_read bytes n is same in cc
reads_none bytes (Some p) says none n is same = absurd cc

-- it finds one, with the rest
pub reads_some : (bytes : List ℕ) (o : Option (Field Name × Bor (List ℕ))) (read : Field Name) (rest : Bor (List ℕ)) → seen o ≡ name_field V2 (name_at bytes)
    → o ≡ Some (read, rest) → name_field V2 (name_at bytes) ≡ found read rest.now
reads_some bytes o read rest says is = sym says ∙ ap seen is

-- it is over the limits
pub reads_over : (bytes : List ℕ) (read : Field Name) (rest : List ℕ) → name_field V2 (name_at bytes) ≡ found read rest → read ≡ Over
    → (n : Name) → is_named n ≡ true → ¬ (bytes ≡ listed_name n)
reads_over bytes read rest says over n is same =
    let both = parts read (Within n) rest [] (sym says ∙ named_read bytes n is same) in
    let first : read ≡ Within n = both.0 in
    cc

-- more follows it
pub reads_more : (bytes : List ℕ) (read : Field Name) (rest : List ℕ) → name_field V2 (name_at bytes) ≡ found read rest → eqb (length rest) 0 ≡ false
    → (n : Name) → is_named n ≡ true → ¬ (bytes ≡ listed_name n)
reads_more bytes read rest says more n is same =
    let both = parts read (Within n) rest [] (sym says ∙ named_read bytes n is same) in
    let none : eqb (length rest) 0 ≡ true = ap (λ (l : List ℕ). eqb (length l) 0) both.1 in
    cc

-- it stands alone
pub reads_named : (bytes : List ℕ) (read : Field Name) (rest : List ℕ) (n : Name) → name_field V2 (name_at bytes) ≡ found read rest → read ≡ Within n
    → eqb (length rest) 0 ≡ true → (is_named n ≡ true) × (bytes ≡ listed_name n)
reads_named bytes read [] n says within none = read_named bytes n (says ∙ ap (λ (r : Field Name). found r []) within)
reads_named bytes read (c ∷ rest) n says within none = absurd (let more = eqb-true (length (c ∷ rest)) 0 none in omega arith)
