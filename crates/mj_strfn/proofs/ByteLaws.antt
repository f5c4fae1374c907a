-- Bytes by their place, the bytes of codes, and the table of `$TRANSLATE`.
use Rattle.std.proofs.Common.{◌≡◌, ℕ, zero, suc, ◌+◌, ◌-◌, ◌<◌, ◌≤◌, List, [], ◌∷◌, ◌++◌, length, take, drop, get_or, set, Ok, Err, Result, Option, ℤ, pos, negsuc, refl, sym, subst, ◌∙◌, ap, arith, append_assoc, take-append-drop, length-append, ⊎_elim, ◌⊎◌, lit≤, eqb, Bool, true, false, cond, nat_lt, replicate, IfOk, IsOkUnless}
use Rattle.std.specs.List.{flat_map}
use Rattle.std.proofs.lemmas.Bool.{cond-true, cond-false, cond_both, eq-eqb, ne_eqb, cases_eq}
use Rattle.std.proofs.lemmas.List.{append-nil, take_more, drop_more, take_all, drop_all, get_or-set_same, get_or-set_other, flat_map_more, take-set, take_more_set, length-replicate}
use Rattle.mj_text.specs.declared.fault.Fault.{Fault}
use Rattle.mj_text.specs.declared.fault.Fault.TheVariants.{Char, Length}
use Rattle.mj_text.specs.declared.limit.Limit.{Limit}
use Rattle.mj_text.specs.Limit.{most_bytes, within_limit}
use Rattle.mj_text.proofs.LimitLemmas.{most_above, fits_limit, above_limit}
use Rattle.mj_text.specs.declared.fault.Failure.{Failure}
use Rattle.mj_text.specs.declared.fault.Failure.TheVariants.{Fault as FaultFailure, Memory}
use Rattle.mj_num.specs.Number.{canonic_text, reading}
use Rattle.mj_strfn.specs.declared.translation.Becomes.{Becomes}
use Rattle.mj_strfn.specs.declared.translation.Becomes.TheVariants.{Itself, Byte, Nothing}
use Rattle.mj_text.specs.Failing.{then_value, failing, Answers}
use Rattle.mj_strfn.specs.Functions.{number_or, ascii_value, place, code_behind, code_at, byte_of, byte_of_text, bytes_of_codes, char_value, justify_value, becomes, AnswersOrMemory}
use Rattle.mj_strfn.specs.Parts.{AnswersByte}
use Rattle.mj_strfn.specs.Table.{bytes_of, IsTable, translated_by}

-- ---- codes by place

code_behind_in : (k : ℕ) (s : List ℕ) (d : ℕ) → k < length s → code_behind k s ≡ pos (get_or s k d)
code_behind_in k [] d h = absurd (omega arith)
code_behind_in zero (x ∷ xs) d h = refl
code_behind_in (suc k) (x ∷ xs) d h = code_behind_in k xs d (omega arith)

code_behind_past : (k : ℕ) (s : List ℕ) → length s ≤ k → code_behind k s ≡ negsuc 0
code_behind_past k [] h = refl
code_behind_past zero (x ∷ xs) h = absurd (omega arith)
code_behind_past (suc k) (x ∷ xs) h = code_behind_past k xs (omega arith)

pub code_at_0 : (z : ℤ) (s : List ℕ) → place z ≡ 0 → code_at z s ≡ negsuc 0
code_at_0 (pos zero) s h = refl
code_at_0 (pos (suc n)) s h = absurd (omega arith)
code_at_0 (negsuc n) s h = refl

pub code_at_past : (z : ℤ) (s : List ℕ) → length s < place z → code_at z s ≡ negsuc 0
code_at_past (pos zero) s h = refl
code_at_past (pos (suc n)) s h = code_behind_past n s (omega arith)
code_at_past (negsuc n) s h = refl

pub code_at_in : (z : ℤ) (s : List ℕ) (d : ℕ) → 0 < place z → place z ≤ length s → code_at z s ≡ pos (get_or s (place z - 1) d)
code_at_in (pos zero) s d some h = absurd (omega arith)
code_at_in (pos (suc n)) s d some h = code_behind_in n s d (omega arith) ∙ ap (λ k. pos (get_or s k d)) (let e : n ≡ suc n - 1 = omega arith in e)
code_at_in (negsuc n) s d some h = absurd (omega arith)

-- ---- $ASCII

ok_from_failing : {A : Type 0} (r : Result A Fault) (a : A) → failing r ≡ Ok a → r ≡ Ok a
ok_from_failing (Ok b) a h = cc
ok_from_failing (Err e) a h = cc

ascii_is : (s : List ℕ) (k : Option (List ℕ)) (d m z : ℤ) → d ≡ pos 1 → failing (number_or d k) ≡ Ok m → code_at m s ≡ z → failing (ascii_value s k) ≡ Ok (canonic_text z)
ascii_is s k d m z one is here =
    ap (λ r. failing (then_value r (λ m. Ok (canonic_text (code_at m s))))) (ap (λ d. number_or d k) (sym one) ∙ ok_from_failing (number_or d k) m is)
    ∙ ap (λ z. Ok (canonic_text z)) here

pub ascii_none : (s b : List ℕ) (k : Option (List ℕ)) (d m : ℤ) (at : ℕ) (t : List ℕ) → b ≡ s → d ≡ pos 1 → failing (number_or d k) ≡ Ok m → at ≡ place m → (at ≡ 0) ⊎ ((at ≡ 0 → ⊥) × (length b < at))
    → t ≡ canonic_text (negsuc 0) → Ok t ≡ failing (ascii_value s k)
ascii_none s b k d m at t same one is there out text =
    let long : length b ≡ length s = ap length same in
    let none : code_at m s ≡ negsuc 0 = ⊎_elim (λ e. code_at_0 m s (sym there ∙ e)) (λ p. code_at_past m s (let far = p.1 in omega arith)) out in
    ap Ok text ∙ sym (ascii_is s k d m (negsuc 0) one is none)

pub ascii_some : (s b : List ℕ) (k : Option (List ℕ)) (d m : ℤ) (at x : ℕ) (t : List ℕ) → b ≡ s → d ≡ pos 1 → failing (number_or d k) ≡ Ok m → at ≡ place m → (at ≡ 0 → ⊥) → at ≤ length b
    → x ≡ get_or b (at - 1) 0 → t ≡ canonic_text (pos x) → Ok t ≡ failing (ascii_value s k)
ascii_some s b k d m at x t same one is there some within here text =
    let long : length b ≡ length s = ap length same in
    let code : code_at m s ≡ pos x =
    code_at_in m s 0 (omega arith) (omega arith)
    ∙ ap (λ n. pos (get_or s (n - 1) 0)) (sym there)
    ∙ ap (λ l. pos (get_or l (at - 1) 0)) (sym same)
    ∙ ap pos (sym here) in
    ap Ok text ∙ sym (ascii_is s k d m (pos x) one is code)

-- ---- the bytes of codes

then_ok : (r : Result (List ℕ) Fault) → then_value r (λ bs. Ok bs) ≡ r
then_ok (Ok bs) = refl
then_ok (Err e) = refl

then_then : (r q p : Result (List ℕ) Fault) → then_value r (λ b. then_value (then_value q (λ bs. then_value p (λ cs. Ok (bs ++ cs)))) (λ x. Ok (b ++ x)))
    ≡ then_value (then_value r (λ b. then_value q (λ bs. Ok (b ++ bs)))) (λ bs. then_value p (λ cs. Ok (bs ++ cs)))
then_then (Err e) q p = refl
then_then (Ok b) (Err e) p = refl
then_then (Ok b) (Ok bs) (Err e) = refl
then_then (Ok b) (Ok bs) (Ok cs) = ap Ok (sym (append_assoc b bs cs))

codes-append : (xs ys : List (List ℕ)) → bytes_of_codes (xs ++ ys) ≡ then_value (bytes_of_codes xs) (λ bs. then_value (bytes_of_codes ys) (λ cs. Ok (bs ++ cs)))
codes-append [] ys = sym (then_ok (bytes_of_codes ys))
codes-append (t ∷ xs) ys =
    ap (λ r. then_value (byte_of_text t) (λ b. then_value r (λ x. Ok (b ++ x)))) (codes-append xs ys)
    ∙ then_then (byte_of_text t) (bytes_of_codes xs) (bytes_of_codes ys)

codes_after : (xs ys : List (List ℕ)) (bs : List ℕ) → bytes_of_codes xs ≡ Ok bs → bytes_of_codes (xs ++ ys) ≡ then_value (bytes_of_codes ys) (λ cs. Ok (bs ++ cs))
codes_after xs ys bs h = codes-append xs ys ∙ ap (λ r. then_value r (λ bs. then_value (bytes_of_codes ys) (λ cs. Ok (bs ++ cs)))) h

one_code : (x b : List ℕ) → byte_of_text x ≡ Ok b → bytes_of_codes (x ∷ []) ≡ Ok b
one_code x b h = ap (λ r. then_value r (λ b. Ok (b ++ []))) h ∙ ap Ok (append-nil b)

-- one code more
pub codes_more : (xs : List (List ℕ)) (i : ℕ) (x bs b : List ℕ) → i < length xs → x ≡ get_or xs i x → bytes_of_codes (take i xs) ≡ Ok bs → byte_of_text x ≡ Ok b
    → bytes_of_codes (take (i + 1) xs) ≡ Ok (bs ++ b)
codes_more xs i x bs b l is before here =
    ap bytes_of_codes (take_more xs i x l ∙ ap (λ y. take i xs ++ y ∷ []) (sym is))
    ∙ codes_after (take i xs) (x ∷ []) bs before
    ∙ ap (λ r. then_value r (λ cs. Ok (bs ++ cs))) (one_code x b here)

codes_fault : (xs : List (List ℕ)) (i : ℕ) (x bs : List ℕ) (e : Fault) → i < length xs → x ≡ get_or xs i x → bytes_of_codes (take i xs) ≡ Ok bs → byte_of_text x ≡ Err e → bytes_of_codes xs ≡ Err e
codes_fault xs i x bs e l is before here =
    let rest : drop i xs ≡ x ∷ drop (i + 1) xs = drop_more xs i x l ∙ ap (λ y. y ∷ drop (i + 1) xs) (sym is) in
    ap bytes_of_codes (sym (take-append-drop i xs) ∙ ap (λ l. take i xs ++ l) rest)
    ∙ codes_after (take i xs) (x ∷ drop (i + 1) xs) bs before
    ∙ ap (λ r. then_value (then_value r (λ b. then_value (bytes_of_codes (drop (i + 1) xs)) (λ cs. Ok (b ++ cs)))) (λ cs. Ok (bs ++ cs))) here

-- a code that gives no byte ends the call
pub char_exit : (limit : Limit) (xs : List (List ℕ)) (i : ℕ) (x bs : List ℕ) (e : Failure) → i < length xs → x ≡ get_or xs i x → bytes_of_codes (take i xs) ≡ Ok bs
    → AnswersByte (byte_of_text x) (Err e) → AnswersOrMemory (char_value limit xs) (Err e)
char_exit limit xs i x bs (FaultFailure f) l is before here = ap (λ r. then_value r (within_limit limit)) (codes_fault xs i x bs f l is before here)
char_exit limit xs i x bs Memory l is before here = absurd here

pub char_all : (limit : Limit) (xs : List (List ℕ)) (n : ℕ) (bs : List ℕ) → length xs ≤ n → bytes_of_codes (take n xs) ≡ Ok bs → char_value limit xs ≡ within_limit limit bs
char_all limit xs n bs l h = ap (λ r. then_value r (within_limit limit)) (ap bytes_of_codes (sym (take_all n xs l)) ∙ h)

-- the byte of one code is within each limit
abbrev bytes_in : Result (List ℕ) Fault → ℕ
bytes_in (Ok b) = length b
bytes_in (Err e) = 0

byte_short : (b : Bool) (n : ℕ) → bytes_in (cond b (Ok (n ∷ [])) (Err Char)) ≤ 1
byte_short true n = lit≤ tt
byte_short false n = lit≤ tt

code_short : (z : Result ℤ Fault) → bytes_in (then_value z byte_of) ≤ 1
code_short (Err e) = lit≤ tt
code_short (Ok (pos n)) = byte_short (nat_lt n 256) n
code_short (Ok (negsuc n)) = lit≤ tt

one_byte : (limit : Limit) (r : Result (List ℕ) Fault) → bytes_in r ≤ 1 → then_value (then_value r (λ b. Ok (b ++ []))) (within_limit limit) ≡ r
one_byte limit (Err e) few = refl
one_byte limit (Ok b) few =
    let short : length b ≤ 1 = few in
    let most = most_above limit in
    ap (within_limit limit) (append-nil b) ∙ fits_limit limit b (omega arith)

pub one_char : (limit : Limit) (t : List ℕ) → char_value limit (t ∷ []) ≡ byte_of_text t
one_char limit t = one_byte limit (byte_of_text t) (code_short (reading t))

-- ---- $JUSTIFY

-- a text with blanks before it, up to a width, has the greater of the two lengths
length_justified : (s : List ℕ) (w : ℕ) → length (replicate (w - length s) 32 ++ s) ≡ w - length s + length s
length_justified s w = length-append (replicate (w - length s) 32) s ∙ ap (λ n. n + length s) (length-replicate (w - length s) 32)

pub justify_above : (limit : Limit) (s w : List ℕ) (m : ℤ) → reading w ≡ Ok m → (most_bytes limit < place m) ⊎ (most_bytes limit < length s) → justify_value limit s w ≡ Err Length
justify_above limit s w m is above =
    let long = length_justified s (place m) in
    let more : most_bytes limit < length (replicate (place m - length s) 32 ++ s) = ⊎_elim (λ (h : most_bytes limit < place m). omega arith) (λ h. omega arith) above in
    ap (λ r. then_value r (λ m. within_limit limit (replicate (place m - length s) 32 ++ s))) is ∙ above_limit limit _ more

pub justify_fits : (limit : Limit) (s w : List ℕ) (m : ℤ) → reading w ≡ Ok m → place m ≤ most_bytes limit → length s ≤ most_bytes limit
    → justify_value limit s w ≡ Ok (replicate (place m - length s) 32 ++ s)
justify_fits limit s w m is width small =
    let long = length_justified s (place m) in
    ap (λ r. then_value r (λ m. within_limit limit (replicate (place m - length s) 32 ++ s))) is ∙ fits_limit limit _ (omega arith)

-- ---- the table of `$TRANSLATE`

pub table_byte : (x y : ℕ) (a b : List ℕ) (t : List Becomes) → x < length t → IsTable a b t → IsTable (x ∷ a) (y ∷ b) (set t x (Byte y))
table_byte x y a b t fits h c l =
    ⊎_elim (
    λ e. ap (λ k. bytes_of (get_or (set t x (Byte y)) k Itself) k) (sym e)
    ∙ ap (λ v. bytes_of v x) (get_or-set_same t x (Byte y) Itself fits)
    ∙ sym (cond-true _ _ _ (eq-eqb x c e))
    ) (λ n. ap (λ v. bytes_of v c) (get_or-set_other t x c (Byte y) Itself (λ q. n (sym q))) ∙ h c l ∙ sym (cond-false _ _ _ (ne_eqb x c n))) (cases_eq x c)

pub table_nothing : (x : ℕ) (a : List ℕ) (t : List Becomes) → x < length t → IsTable a [] t → IsTable (x ∷ a) [] (set t x Nothing)
table_nothing x a t fits h c l =
    ⊎_elim (
    λ e. ap (λ k. bytes_of (get_or (set t x Nothing) k Itself) k) (sym e)
    ∙ ap (λ v. bytes_of v x) (get_or-set_same t x Nothing Itself fits)
    ∙ sym (cond-true _ _ _ (eq-eqb x c e))
    ) (λ n. ap (λ v. bytes_of v c) (get_or-set_other t x c Nothing Itself (λ q. n (sym q))) ∙ h c l ∙ sym (cond-false _ _ _ (ne_eqb x c n))) (cases_eq x c)

pub table_step_byte : (from to : List ℕ) (p n x y : ℕ) (t : List Becomes) → n ≡ p + 1 → p < length from → p < length to → x ≡ get_or from p 0 → y ≡ get_or to p y → x < length t
    → IsTable (drop n from) (drop n to) t → IsTable (drop p from) (drop p to) (set t x (Byte y))
table_step_byte from to p n x y t next in_from in_to here there fits h =
    let P : List ℕ → List ℕ → Type 0 = λ a b. IsTable a b (set t x (Byte y)) in
    let a : drop p from ≡ x ∷ drop n from = drop_more from p 0 in_from ∙ ap (λ z. z ∷ drop (p + 1) from) (sym here) ∙ ap (λ k. x ∷ drop k from) (sym next) in
    let b : drop p to ≡ y ∷ drop n to = drop_more to p y in_to ∙ ap (λ z. z ∷ drop (p + 1) to) (sym there) ∙ ap (λ k. y ∷ drop k to) (sym next) in
    subst (λ l. P l (drop p to)) (sym a) (subst (P (x ∷ drop n from)) (sym b) (table_byte x y (drop n from) (drop n to) t fits h))

pub table_step_nothing : (from to : List ℕ) (p n x : ℕ) (t : List Becomes) → n ≡ p + 1 → p < length from → length to ≤ p → x ≡ get_or from p 0 → x < length t → IsTable (drop n from) (drop n to) t
    → IsTable (drop p from) (drop p to) (set t x Nothing)
table_step_nothing from to p n x t next in_from past here fits h =
    let P : List ℕ → List ℕ → Type 0 = λ a b. IsTable a b (set t x Nothing) in
    let a : drop p from ≡ x ∷ drop n from = drop_more from p 0 in_from ∙ ap (λ z. z ∷ drop (p + 1) from) (sym here) ∙ ap (λ k. x ∷ drop k from) (sym next) in
    let b : drop p to ≡ [] = drop_all p to past in
    let c : drop n to ≡ [] = drop_all n to (omega arith) in
    subst (λ l. P l (drop p to)) (sym a) (subst (P (x ∷ drop n from)) (sym b) (table_nothing x (drop n from) t fits (subst (λ l. IsTable (drop n from) l t) c h)))

pub table_none : (b : List ℕ) (t : List Becomes) → ((c : ℕ) → c < 256 → get_or t c Itself ≡ Itself) → IsTable [] b t
table_none b t h c l = ap (λ v. bytes_of v c) (h c l)

becomes_short : (a b : List ℕ) (c : ℕ) → length (becomes a b c) ≤ 1
becomes_short [] b c = lit≤ tt
becomes_short (x ∷ a) [] c = cond_both (eqb x c) [] (becomes a [] c) (λ (l : List ℕ). length l ≤ 1) (λ _. lit≤ tt) (λ _. becomes_short a [] c)
becomes_short (x ∷ a) (y ∷ b) c = cond_both (eqb x c) (y ∷ []) (becomes a b c) (λ (l : List ℕ). length l ≤ 1) (λ _. lit≤ tt) (λ _. becomes_short a b c)

-- what is translated doesn't grow
pub length-translated-le : (a b s : List ℕ) → length (flat_map (becomes a b) s) ≤ length s
length-translated-le a b [] = lit≤ tt
length-translated-le a b (x ∷ xs) =
    let rest = length-translated-le a b xs in
    let here = becomes_short a b x in
    let all = length-append (becomes a b x) (flat_map (becomes a b) xs) in
    omega arith

-- a byte is written behind those that are kept, and counts or doesn't
take_written : (made : List ℕ) (kept n w : ℕ) → kept < length made → n ≤ 1 → take (kept + n) (set made kept w) ≡ take kept made ++ take n (w ∷ [])
take_written made kept zero w l m = ap (λ k. take k (set made kept w)) (let e : kept + 0 ≡ kept = omega arith in e) ∙ take-set made kept w ∙ sym (append-nil _)
take_written made kept (suc zero) w l m = take_more_set made kept w l
take_written made kept (suc (suc n)) w l m = absurd (omega arith)

-- one byte more
pub written_more : (f : ℕ → List ℕ) (s made : List ℕ) (i x kept n w : ℕ) → i < length s → x ≡ get_or s i x → kept < length made → n ≤ 1 → take kept made ≡ flat_map f (take i s) → take n (w ∷ []) ≡ f x
    → take (kept + n) (set made kept w) ≡ flat_map f (take (i + 1) s)
written_more f s made i x kept n w l is room m before here =
    take_written made kept n w room m
    ∙ ap (λ v. v ++ take n (w ∷ [])) before
    ∙ ap (λ v. flat_map f (take i s) ++ v) here
    ∙ flat_map_more f [] (take i s) x
    ∙ ap (flat_map f) (sym (take_more s i x l ∙ ap (λ y. take i s ++ y ∷ []) (sym is)))

pub written_all : (f : ℕ → List ℕ) (s made : List ℕ) (kept n : ℕ) → length s ≤ n → take kept made ≡ flat_map f (take n s) → take kept made ≡ flat_map f s
written_all f s made kept n l h = h ∙ ap (flat_map f) (take_all n s l)

-- by a table that has what becomes of each byte
pub table_translates : (a b : List ℕ) (t : List Becomes) (s : List ℕ) → IsTable a b t → ((i : ℕ) → i < length s → get_or s i 0 < 256) → translated_by t s ≡ flat_map (becomes a b) s
table_translates a b t [] h bytes = refl
table_translates a b t (x ∷ xs) h bytes =
    ap (λ v. v ++ translated_by t xs) (h x (bytes 0 (omega arith)))
    ∙ ap (λ v. becomes a b x ++ v) (table_translates a b t xs h (λ i l. bytes (suc i) (omega arith)))

pub translated_answers : (a b s : List ℕ) (t : List Becomes) (r : Result (List ℕ) Failure) → IsTable a b t → ((i : ℕ) → i < length s → get_or s i 0 < 256) → Answers (Ok (translated_by t s)) r
    → Answers (Ok (flat_map (becomes a b) s)) r
translated_answers a b s t r h bytes made = subst (λ (l : List ℕ). Answers (Ok l) r) (table_translates a b t s h bytes) made

-- each byte becomes one at most
pub length-translated_by : (t : List Becomes) (s : List ℕ) → length (translated_by t s) ≤ length s
length-translated_by t [] = lit≤ tt
length-translated_by t (x ∷ xs) =
    let rest = length-translated_by t xs in
    let here = one_at_most (get_or t x Itself) x in
    let all = length-append (bytes_of (get_or t x Itself) x) (translated_by t xs) in
    omega arith
  where
    one_at_most : (v : Becomes) (c : ℕ) → length (bytes_of v c) ≤ 1
    one_at_most Itself c = lit≤ tt
    one_at_most (Byte y) c = lit≤ tt
    one_at_most Nothing c = lit≤ tt

-- a text made of bytes that a text has room for
pub made_answers : (v made : List ℕ) (r : Result (List ℕ) Failure) → made ≡ v → length v ≤ 1048576 → IfOk r (λ t. t ≡ made) → (length made ≤ 1048576 → IsOkUnless r Memory) → Answers (Ok v) r
made_answers v made (Ok t) same room ok within = ap Ok (sym (ok ∙ same))
made_answers v made (Err (FaultFailure f)) same room ok within =
    let is = within (subst (λ (l : List ℕ). length l ≤ 1048576) (sym same) room) in
    cc
made_answers v made (Err Memory) same room ok within = refl
