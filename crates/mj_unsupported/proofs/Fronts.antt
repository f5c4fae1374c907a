-- The tokens before the one at which a line is stuck, with another one behind them.
use Rattle.std.proofs.Common.{◌≡◌, ◌==◌, ◌∙◌, ◌⊎◌, inl, inr, refl, sym, ap, subst, ℕ, zero, suc, ◌+◌, ◌≤◌, ◌<◌, List, [], ◌∷◌, ◌++◌, length, take, drop, append_assoc, append-nil, length-append, arith, Bool, true, false, Option, Some, None}
use Rattle.std.proofs.lemmas.List.{reverse-append, take-append-drop, take-append-le, take_all}
use Rattle.std.proofs.lemmas.Bool.Decides.{nat_tests}
use Rattle.mj_ast.specs.declared.sign.Sign.TheVariants.{Colon, Comma, Open}
use Rattle.mj_ast.specs.Syntax.{Line}
use Rattle.mj_ast.specs.Tokens.{Token, Word, Called, Special, Invoked, Digits, Signed, Blank}
use Rattle.mj_ast.specs.Lines.{SpellsLine, BeginsLine, BeginsLineWithin, IsStuck, IsDeep, IsOverlong, HasOverlong}
use Rattle.mj_ast.specs.declared.keyword.Keyword.{Keyword}
use Rattle.mj_ast.specs.declared.keyword.Keyword.TheVariants as keyword
use Rattle.mj_ast.specs.LeftOut.{EndsInCommand, IsBehindColon, IsBehindColons, IsBehindCommand, IsLast, IsBehindSerial, ends_in, starts, is_blank_token, is_open, last_keyword}
use Rattle.mj_expr.specs.declared.stop.ParseError.{ParseError}
use Rattle.mj_expr.specs.declared.stop.ParseError.TheVariants as stop
use Rattle.mj_cmd.specs.Heads.{IsLabelShort}
use Rattle.mj_cmd.specs.Said.{IsRead, IsStuckWith, IsDeepWith, RefusalSays}
use Rattle.mj_unsupported.specs.Fronts.{IsBehindStart, IsFront, IsProbe, Says}

false_true : false ≡ true → ⊥
false_true e = cc

-- ---- fewer tokens

pub begins_less : (ks ls : List Token) → BeginsLine (ks ++ ls) → BeginsLine ks
begins_less ks ls b =
    let P : List Token → Type 0 = λ xs. SpellsLine xs b.line in
    record { rest = ls ++ b.rest; line = b.line; spells = subst P (append_assoc ks ls b.rest) b.spells }

within_less : (d w : ℕ) (ks ls : List Token) → BeginsLineWithin d w (ks ++ ls) → BeginsLineWithin d w ks
within_less d w ks ls b =
    let P : List Token → Type 0 = λ xs. SpellsLine xs b.line in
    record { rest = ls ++ b.rest; line = b.line; spells = subst P (append_assoc ks ls b.rest) b.spells; within = b.within }

overlong_more : (ks ls : List Token) → HasOverlong ks → HasOverlong (ks ++ ls)
overlong_more ks ls h = record {
  front = h.front;
  token = h.token;
  rest = h.rest ++ ls;
  cut = ap (λ (xs : List Token). xs ++ ls) h.cut ∙ append_assoc h.front (h.token ∷ h.rest) ls;
  begins = h.begins;
  overlong = h.overlong;
}

-- a label is short by itself
label_first : (k : Token) (xs ys : List Token) → IsLabelShort (k ∷ xs) → IsLabelShort (k ∷ ys)
label_first (Digits d) xs ys h = h
label_first k xs ys h = tt

label_less : (ks ls : List Token) → IsLabelShort (ks ++ ls) → IsLabelShort ks
label_less [] ls h = tt
label_less (k ∷ ks) ls h = label_first k (ks ++ ls) ks h

pub front_part : (ks ls : List Token) → IsLabelShort (ks ++ ls) → BeginsLineWithin 64 31 ks → (HasOverlong (ks ++ ls) → ⊥) → IsFront ks
front_part ks ls l b s = record { label = label_less ks ls l; begins = b; short = λ h. s (overlong_more ks ls h) }

pub front_less : (ks ls : List Token) → IsFront (ks ++ ls) → IsFront ks
front_less ks ls f = front_part ks ls f.label (within_less 64 31 ks ls f.begins) f.short

-- ---- one token more

probe_short : (front : List Token) (t : Token) → IsProbe t → IsOverlong front t → ⊥
probe_short front (Word w) p o = omega arith
probe_short front (Called w) p o = omega arith
probe_short front (Special w) p o = omega arith
probe_short front (Invoked w) p o = omega arith
probe_short front (Signed Comma) p o = absurd p
probe_short front t p o = absurd o

-- the last of these tokens, or one before it
Found : List Token → Token → List Token → Token → Type 0
Found ks last front t = ((front ≡ ks) × (t ≡ last)) ⊎ ((back : List Token) × (ks ≡ front ++ t ∷ back))

first_same : (x y : Token) (xs ys : List Token) → x ∷ xs ≡ y ∷ ys → x ≡ y
first_same x y xs ys e = cc

rest_same : (x y : Token) (xs ys : List Token) → x ∷ xs ≡ y ∷ ys → xs ≡ ys
rest_same x y xs ys e = cc

none_some : (x : Token) (xs : List Token) → [] ≡ x ∷ xs → ⊥
none_some x xs e = cc

nothing_behind : (front : List Token) (x : Token) (back : List Token) → [] ≡ front ++ x ∷ back → ⊥
nothing_behind [] x back e = none_some x back e
nothing_behind (f ∷ front) x back e = none_some f (front ++ x ∷ back) e

found_more : (ks : List Token) (last l f t : Token) (front : List Token) → Found ks last front t → l ≡ f → Found (l ∷ ks) last (f ∷ front) t
unfolding Found
found_more ks last l f t front (inl h) i = inl (ap (λ (y : Token). y ∷ front) (sym i) ∙ ap (λ (ys : List Token). l ∷ ys) h.0, h.1)
found_more ks last l f t front (inr h) i = inr (h.0, ap (λ (y : Token). y ∷ ks) i ∙ ap (λ (ys : List Token). f ∷ ys) h.1)

found : (ks : List Token) (last : Token) (front : List Token) (t : Token) (back : List Token) → ks ++ last ∷ [] ≡ front ++ t ∷ back → Found ks last front t
unfolding Found
found [] last [] t back e = inl (refl, sym (first_same last t [] back e))
found [] last (f ∷ front) t back e = absurd (nothing_behind front t back (rest_same last f [] (front ++ t ∷ back) e))
found (k ∷ ks) last [] t back e = inr (ks, ap (λ (y : Token). y ∷ ks) (first_same k t (ks ++ last ∷ []) back e))
found (k ∷ ks) last (f ∷ front) t back e = found_more ks last k f t front (found ks last front t back (rest_same k f (ks ++ last ∷ []) (front ++ t ∷ back) e))
    (first_same k f (ks ++ last ∷ []) (front ++ t ∷ back) e)

-- nothing is over its limit
pub probe_fits : (front : List Token) (t : Token) → IsFront front → IsProbe t → HasOverlong (front ++ t ∷ []) → ⊥
unfolding Found
probe_fits front t f p h = by (found front t h.front h.token h.rest h.cut)
  where
    by : Found front t h.front h.token → ⊥
    by (inl e) = let P : Token → Type 0 = λ x. IsOverlong h.front x in probe_short h.front t p (subst P e.1 h.overlong)
    by (inr e) = f.short (record { front = h.front; token = h.token; rest = e.0; cut = e.1; begins = h.begins; overlong = h.overlong })

begins_as : (ks ls : List Token) → ks ≡ ls → BeginsLine ks → BeginsLine ls
begins_as ks ls e b = let P : List Token → Type 0 = λ xs. BeginsLine xs in subst P e b

pub read_begins : (ks : List Token) (l : Line) → SpellsLine ks l → BeginsLine ks
read_begins ks l s = let P : List Token → Type 0 = λ xs. SpellsLine xs l in record { rest = []; line = l; spells = subst P (sym (append-nil ks)) s }

end_begins : (ks : List Token) (p : ℕ) → p ≡ length ks → IsStuck ks p → BeginsLine ks
end_begins ks p e s =
    let b : BeginsLine (take p ks) = record { rest = s.before.rest; line = s.before.line; spells = s.before.spells } in
    begins_as (take p ks) ks (take_all p ks (omega arith)) b

inside_stuck : (ks : List Token) (p : ℕ) → p < length ks → IsStuck ks p → BeginsLine ks → ⊥
inside_stuck ks p h s b = s.at h (begins_less (take (p + 1) ks) (drop (p + 1) ks) (begins_as ks (take (p + 1) ks ++ drop (p + 1) ks) (sym (take-append-drop (p + 1) ks)) b))

stuck_by : (ks : List Token) (left : ℕ) (b : Bool) → (left == 0) ≡ b → IsStuckWith ks left → Says b (BeginsLine ks)
stuck_by ks left true e s = end_begins ks s.place (let i = s.left_is in grind (arith, nat_tests)) s.stuck
stuck_by ks left false e s = inside_stuck ks s.place (let i = s.left_is in grind (arith, nat_tests)) s.stuck

-- where the line with the token is stuck
pub stuck_says : (ks : List Token) (left : ℕ) → IsStuckWith ks left → Says (left == 0) (BeginsLine ks)
stuck_says ks left s = stuck_by ks left (left == 0) refl s

deep_by : (front : List Token) (t : Token) (p left : ℕ) → p + left ≡ length front + 1 → IsDeep (front ++ t ∷ []) p → IsFront front → BeginsLine (front ++ t ∷ [])
deep_by front t p zero e d f = absurd (let i = d.inside in let n = length-append front (t ∷ []) in omega arith)
deep_by front t p (suc zero) e d f =
    begins_as (take (p + 1) (front ++ t ∷ [])) (front ++ t ∷ []) (take_all (p + 1) (front ++ t ∷ []) (let n = length-append front (t ∷ []) in omega arith)) d.at
deep_by front t p (suc (suc left)) e d f =
    let short : p + 1 ≤ length front = omega arith in
    let P : List Token → Type 0 = λ xs. BeginsLineWithin 64 31 xs in
    let b = within_less 64 31 (take (p + 1) front) (drop (p + 1) front) (subst P (sym (take-append-drop (p + 1) front)) f.begins) in
    absurd (d.beyond 31 (subst P (sym (take-append-le (p + 1) front (t ∷ []) short)) b))

-- a level too many is that of the token
pub deep_begins : (front : List Token) (t : Token) (left : ℕ) → IsDeepWith (front ++ t ∷ []) left → IsFront front → BeginsLine (front ++ t ∷ [])
deep_begins front t left d f = deep_by front t d.place left (let i = d.left_is in let n = length-append front (t ∷ []) in omega arith) d.deep f

-- ---- the front of a line that is stuck

pub stuck_front : (ks : List Token) (p : ℕ) → IsLabelShort ks → IsStuck ks p → (HasOverlong ks → ⊥) → IsFront (take p ks)
stuck_front ks p l s o =
    let e = sym (take-append-drop p ks) in
    let P : List Token → Type 0 = λ xs. IsLabelShort xs in
    let Q : List Token → Type 0 = λ xs. HasOverlong xs in
    front_part (take p ks) (drop p ks) (subst P e l) s.before (λ h. o (subst Q (sym e) h))

-- ---- a line that isn't read

-- not for want of memory
abbrev pub IsSpoken : ParseError → Type 0
IsSpoken stop.Memory = ⊥
IsSpoken e = Unit {0}

none_spelled : (ks : List Token) (e : ParseError) (l : Line) → IsFront ks → RefusalSays ks e → IsSpoken e → SpellsLine ks l → ⊥
none_spelled ks stop.Memory l f r m s = m
none_spelled ks (stop.Stuck left) l f r m s = r.stuck.whole l s
none_spelled ks stop.Long l f r m s = f.short r
none_spelled ks (stop.Deep left) l f r m s =
    let P : List Token → Type 0 = λ xs. BeginsLineWithin 64 31 xs in
    let p = r.place in
    r.deep.beyond 31 (within_less 64 31 (take (p + 1) ks) (drop (p + 1) ks) (subst P (sym (take-append-drop (p + 1) ks)) f.begins))

-- within the limits only a line that is none isn't read, unless there is no memory
pub no_line : (ks : List Token) (e g : ParseError) (l : Line) → IsFront ks → e ≡ g → IsSpoken g → RefusalSays ks e → SpellsLine ks l → ⊥
no_line ks e g l f i m r s = let P : ParseError → Type 0 = λ x. RefusalSays ks x in none_spelled ks g l f (subst P i r) m s

-- ---- the command that stands last

pub before_same : (xs ys : List Token) (a b : Token) → xs ++ a ∷ [] ≡ ys ++ b ∷ [] → xs ≡ ys
before_same [] [] a b e = refl
before_same [] (y ∷ ys) a b e = absurd (nothing_behind ys b [] (rest_same a y [] (ys ++ b ∷ []) e))
before_same (x ∷ xs) [] a b e = absurd (nothing_behind xs a [] (sym (rest_same x b (xs ++ a ∷ []) [] e)))
before_same (x ∷ xs) (y ∷ ys) a b e =
    ap (λ (k : Token). k ∷ xs) (first_same x y (xs ++ a ∷ []) (ys ++ b ∷ []) e) ∙ ap (λ (ks : List Token). y ∷ ks) (before_same xs ys a b (rest_same x y (xs ++ a ∷ []) (ys ++ b ∷ []) e))

pub last_said : (ks : List Token) (l : Line) (last : Option Keyword) → last ≡ last_keyword l.steps → ends_in is_blank_token ks ≡ false → IsRead ks l → IsLast ks last
last_said ks l last e s r = record {
  found = λ k f. record { single = s; line = l; spells = r.spells; last = sym e ∙ f };
  only = λ k q. e ∙ ap (λ (x : Line). last_keyword x.steps) (sym (r.only q.line q.spells)) ∙ q.last;
}

no_keyword : (k : Keyword) → None ≡ Some k → ⊥
no_keyword k e = cc

pub last_none : (ks : List Token) → ((k : Keyword) → EndsInCommand k ks → ⊥) → IsLast ks None
last_none ks n = record { found = λ k f. absurd (no_keyword k f); only = λ k q. absurd (n k q) }

pub blank_last : (ks : List Token) → ends_in is_blank_token ks ≡ true → IsLast ks None
blank_last ks e = last_none ks (λ k q. false_true (sym q.single ∙ e))

-- no line is read
pub unread_last : (ks : List Token) (e g : ParseError) → IsFront ks → e ≡ g → IsSpoken g → RefusalSays ks e → IsLast ks None
unread_last ks e g f i m r = last_none ks (λ k q. no_line ks e g q.line f i m r q.spells)

-- one blank behind it
pub behind_on : (k : Keyword) (front before : List Token) (last : Option Keyword) → front ≡ before ++ Blank ∷ [] → IsLast before last → last ≡ Some k → IsBehindCommand k front
behind_on k front before last e h f = (before, e, h.found k f)

pub behind_off : (k : Keyword) (front before : List Token) (last : Option Keyword) → front ≡ before ++ Blank ∷ [] → IsLast before last → IsBehindCommand k front → last ≡ Some k
behind_off k front before last e h q = let P : List Token → Type 0 = λ ks. EndsInCommand k ks in h.only k (subst P (before_same q.0 before Blank Blank (sym q.1 ∙ e)) q.2)

-- two colons behind it
pub colons_off : (front before : List Token) → front ≡ before ++ Signed Colon ∷ [] → IsBehindColons front → IsBehindColon keyword.Open before
colons_off front before e q = let P : List Token → Type 0 = λ ks. IsBehindColon keyword.Open ks in subst P (before_same q.0 before (Signed Colon) (Signed Colon) (sym q.1 ∙ e)) q.2

-- one colon behind it
pub start_off : (front before : List Token) → front ≡ before ++ Signed Colon ∷ [] → IsBehindStart front → EndsInCommand keyword.TStart before
start_off front before e q = let P : List Token → Type 0 = λ ks. EndsInCommand keyword.TStart ks in subst P (before_same q.0 before (Signed Colon) (Signed Colon) (sym q.1 ∙ e)) q.2

-- one blank
pub word_off : (front before : List Token) → front ≡ before ++ Blank ∷ [] → IsBehindCommand keyword.TStart front → EndsInCommand keyword.TStart before
word_off front before e q = let P : List Token → Type 0 = λ ks. EndsInCommand keyword.TStart ks in subst P (before_same q.0 before Blank Blank (sym q.1 ∙ e)) q.2

-- the last token
last_same : (xs ys : List Token) (a b : Token) → xs ++ a ∷ [] ≡ ys ++ b ∷ [] → a ≡ b
last_same [] [] a b e = first_same a b [] [] e
last_same [] (y ∷ ys) a b e = absurd (nothing_behind ys b [] (rest_same a y [] (ys ++ b ∷ []) e))
last_same (x ∷ xs) [] a b e = absurd (nothing_behind xs a [] (sym (rest_same x b (xs ++ a ∷ []) [] e)))
last_same (x ∷ xs) (y ∷ ys) a b e = last_same xs ys a b (rest_same x y (xs ++ a ∷ []) (ys ++ b ∷ []) e)

not_open : Signed Colon ≡ Signed Open → ⊥
not_open e = cc

-- behind a `(` the word of SERIAL is wanted where it is before it
pub enclosed_on : (front before : List Token) → front ≡ before ++ Signed Open ∷ [] → IsBehindStart before → IsBehindSerial front
enclosed_on front before e s = (s.0, inr (e ∙ ap (λ (ks : List Token). ks ++ Signed Open ∷ []) s.1 ∙ append_assoc s.0 (Signed Colon ∷ []) (Signed Open ∷ [])), s.2)

pub enclosed_off : (front before : List Token) → front ≡ before ++ Signed Open ∷ [] → IsBehindSerial front → IsBehindStart before
enclosed_off front before e q = by q.1
  where
    by : (front ≡ q.0 ++ Signed Colon ∷ []) ⊎ (front ≡ q.0 ++ Signed Colon ∷ Signed Open ∷ []) → IsBehindStart before
    by (inl f) = absurd (not_open (last_same q.0 before (Signed Colon) (Signed Open) (sym f ∙ e)))
    by (inr f) = (
      q.0,
      before_same before (q.0 ++ Signed Colon ∷ []) (Signed Open) (Signed Open) (sym e ∙ f ∙ sym (append_assoc q.0 (Signed Colon ∷ []) (Signed Open ∷ []))),
      q.2,
    )

-- elsewhere behind the `:` itself
pub bare_on : (front : List Token) → IsBehindStart front → IsBehindSerial front
bare_on front s = (s.0, inl s.1, s.2)

ends_open : (front before : List Token) → front ≡ before ++ Signed Open ∷ [] → ends_in is_open front ≡ true
ends_open front before e = ap (ends_in is_open) e ∙ ap (starts is_open) (reverse-append before (Signed Open ∷ []))

pub bare_off : (front : List Token) → ends_in is_open front ≡ false → IsBehindSerial front → IsBehindStart front
bare_off front n q = by q.1
  where
    by : (front ≡ q.0 ++ Signed Colon ∷ []) ⊎ (front ≡ q.0 ++ Signed Colon ∷ Signed Open ∷ []) → IsBehindStart front
    by (inl f) = (q.0, f, q.2)
    by (inr f) = absurd (false_true (sym n ∙ ends_open front (q.0 ++ Signed Colon ∷ []) (f ∙ sym (append_assoc q.0 (Signed Colon ∷ []) (Signed Open ∷ [])))))
