-- A quoted text is read from the left: its content so far, and how many bytes that took.
use Rattle.std.proofs.Common.{◌≡◌, ◌≢◌, ℕ, suc, ◌+◌, ◌-◌, ◌<◌, ◌≤◌, Bool, true, false, List, [], ◌∷◌, ◌++◌, length, take, drop, get_or, refl, ap, sym, ◌∙◌, subst, arith, append_assoc, append-nil}
use Rattle.std.specs.Prelude.{◌==◌, ◌||◌, cond}
use Rattle.std.specs.List.{list_any}
use Rattle.std.proofs.Math.Seq.{take-suc, drop-cons}
use Rattle.std.proofs.lemmas.Bool.{ne_eqb, eqb-true, true≢false}
use Rattle.std.proofs.lemmas.List.{take_all, length-drop}
use Rattle.mj_ast.specs.Tokens.{Quoted, Unclosed, quoted_token, Quotation, quotation, behind_quote, with_byte, doubled}
use Rattle.mj_lex.specs.Seen.{is_quote, undoubled, undoubled_behind}

-- with content in front, which takes n bytes
abbrev pub extended : List ℕ → ℕ → Quotation → Quotation
extended content n q = record { closed = q.closed; content = content ++ q.content; width = n + q.width }

-- so many bytes are read, and their content is this
pub record IsReadTo (bytes : List ℕ) (at : ℕ) (content : List ℕ) : Type 0 where
  pub taken : take at bytes ≡ doubled content
  pub goes : quotation bytes ≡ extended content at (quotation (drop at bytes))

abbrev doubled_on : Bool → ℕ → List ℕ → List ℕ
doubled_on e b bs = cond e (34 ∷ 34 ∷ bs) (b ∷ bs)

doubled_on-append : (e : Bool) (b : ℕ) (xs ys : List ℕ) → doubled_on e b (xs ++ ys) ≡ doubled_on e b xs ++ ys
doubled_on-append true b xs ys = refl
doubled_on-append false b xs ys = refl

pub doubled-append : (xs ys : List ℕ) → doubled (xs ++ ys) ≡ doubled xs ++ doubled ys
doubled-append [] ys = refl
doubled-append (x ∷ xs) ys = ap (doubled_on (x == 34) x) (doubled-append xs ys) ∙ doubled_on-append (x == 34) x (doubled xs) (doubled ys)

abbrev undoubled_on : Bool → List ℕ → List ℕ
undoubled_on e bs = elim e [ true ↦ undoubled_behind bs | false ↦ undoubled bs ]

undoubled_back : (b : ℕ) (bs : List ℕ) (e : Bool) → (b == 34) ≡ e → undoubled (doubled bs) ≡ bs → undoubled (doubled_on e b (doubled bs)) ≡ b ∷ bs
undoubled_back b bs true h g = ap (λ (x : ℕ). x ∷ undoubled (doubled bs)) (sym (eqb-true b 34 h)) ∙ ap (λ (xs : List ℕ). b ∷ xs) g
undoubled_back b bs false h g = ap (λ (x : Bool). b ∷ undoubled_on x (doubled bs)) h ∙ ap (λ (xs : List ℕ). b ∷ xs) g

-- the content comes back
pub undoubled-doubled : (bs : List ℕ) → undoubled (doubled bs) ≡ bs
undoubled-doubled [] = refl
undoubled-doubled (b ∷ bs) = undoubled_back b bs (b == 34) refl (undoubled-doubled bs)

plain_on : (b : ℕ) (bs : List ℕ) (e : Bool) → (b == 34) ≡ e → (e || list_any is_quote bs) ≡ false → (list_any is_quote bs ≡ false → undoubled bs ≡ bs) → undoubled (b ∷ bs) ≡ b ∷ bs
plain_on b bs true h g k = absurd (true≢false g)
plain_on b bs false h g k = ap (λ (x : Bool). b ∷ undoubled_on x bs) h ∙ ap (λ (xs : List ℕ). b ∷ xs) (k g)

-- content without a quote stands as it is
pub undoubled-plain : (bs : List ℕ) → list_any is_quote bs ≡ false → undoubled bs ≡ bs
undoubled-plain [] h = refl
undoubled-plain (b ∷ bs) h = plain_on b bs (b == 34) refl h (undoubled-plain bs)

abbrev quotation_on : Bool → ℕ → List ℕ → Quotation
quotation_on e b bs = elim e [ true ↦ behind_quote bs | false ↦ with_byte b 1 (quotation bs) ]

abbrev behind_on : Bool → List ℕ → Quotation
behind_on e bs = elim e [ true ↦ with_byte 34 2 (quotation bs) | false ↦ record { closed = true; content = []; width = 1 } ]

extended_again : (xs : List ℕ) (b n k : ℕ) (q : Quotation) → extended xs n (with_byte b k q) ≡ extended (xs ++ b ∷ []) (n + k) q
extended_again xs b n k q =
    let w : n + (k + q.width) ≡ n + k + q.width = omega arith in
    ap (λ (ys : List ℕ). record { closed = q.closed; content = ys; width = n + (k + q.width) }) (sym (append_assoc xs (b ∷ []) q.content))
    ∙ ap (λ (m : ℕ). record { closed = q.closed; content = (xs ++ b ∷ []) ++ q.content; width = m }) w

-- nothing is read yet
pub read_nothing : (bytes : List ℕ) → IsReadTo bytes 0 []
read_nothing bytes = record {
  taken = refl;
  goes = ap (λ (n : ℕ). record { closed = (quotation bytes).closed; content = (quotation bytes).content; width = n })
      (let e : (quotation bytes).width ≡ 0 + (quotation bytes).width = omega arith in e);
}

other_byte : (bytes : List ℕ) (at : ℕ) (content : List ℕ) (b : ℕ) → drop at bytes ≡ b ∷ drop (suc at) bytes → (b == 34) ≡ false →
    take (suc at) bytes ≡ take at bytes ++ b ∷ [] → IsReadTo bytes at content → IsReadTo bytes (at + 1) (content ++ b ∷ [])
other_byte bytes at content b d e t r =
    let one : suc at ≡ at + 1 = omega arith in
    let P : ℕ → Type 0 = λ n. take n bytes ≡ doubled (content ++ b ∷ []) in
    let Q : ℕ → Type 0 = λ n. quotation bytes ≡ extended (content ++ b ∷ []) (at + 1) (quotation (drop n bytes)) in
    record {
      taken = subst P one (t ∙ ap (λ (xs : List ℕ). xs ++ b ∷ []) r.taken ∙ ap (λ (x : Bool). doubled content ++ doubled_on x b []) (sym e) ∙ sym (doubled-append content (b ∷ [])));
      goes = subst Q one (r.goes ∙ ap (λ (xs : List ℕ). extended content at (quotation xs)) d ∙
          ap (λ (x : Bool). extended content at (quotation_on x b (drop (suc at) bytes))) e ∙ extended_again content b at 1 (quotation (drop (suc at) bytes)));
    }

-- a byte that is no quote
pub read_byte : (bytes : List ℕ) (at : ℕ) (content : List ℕ) → at < length bytes → get_or bytes at 0 ≢ 34 → IsReadTo bytes at content → IsReadTo bytes (at + 1) (content ++ get_or bytes at 0 ∷ [])
read_byte bytes at content l h r = other_byte bytes at content (get_or bytes at 0) (drop-cons bytes at 0 l) (ne_eqb (get_or bytes at 0) 34 h) (take-suc bytes at 0 l) r

quote_at : (bytes : List ℕ) (at : ℕ) → at < length bytes → get_or bytes at 0 ≡ 34 → drop at bytes ≡ 34 ∷ drop (suc at) bytes
quote_at bytes at l h = drop-cons bytes at 0 l ∙ ap (λ (x : ℕ). x ∷ drop (suc at) bytes) h

-- two quotes
pub read_quotes : (bytes : List ℕ) (at : ℕ) (content : List ℕ) → at + 1 < length bytes → get_or bytes at 0 ≡ 34 → get_or bytes (at + 1) 0 ≡ 34 →
    IsReadTo bytes at content → IsReadTo bytes (at + 2) (content ++ 34 ∷ [])
read_quotes bytes at content l h g r =
    let near : at < length bytes = omega arith in
    let next : suc at < length bytes = omega arith in
    let one : at + 1 ≡ suc at = omega arith in
    let two : suc (suc at) ≡ at + 2 = omega arith in
    let G : ℕ → Type 0 = λ n. get_or bytes n 0 ≡ 34 in
    let second : get_or bytes (suc at) 0 ≡ 34 = subst G one g in
    let P : ℕ → Type 0 = λ n. take n bytes ≡ doubled (content ++ 34 ∷ []) in
    let Q : ℕ → Type 0 = λ n. quotation bytes ≡ extended (content ++ 34 ∷ []) (at + 2) (quotation (drop n bytes)) in
    record {
      taken = subst P two (
          take-suc bytes (suc at) 0 next ∙ ap (λ (xs : List ℕ). xs ++ get_or bytes (suc at) 0 ∷ []) (take-suc bytes at 0 near)
          ∙ ap (λ (x : ℕ). (take at bytes ++ get_or bytes at 0 ∷ []) ++ x ∷ []) second ∙ ap (λ (x : ℕ). (take at bytes ++ x ∷ []) ++ 34 ∷ []) h
          ∙ append_assoc (take at bytes) (34 ∷ []) (34 ∷ []) ∙ ap (λ (xs : List ℕ). xs ++ 34 ∷ 34 ∷ []) r.taken ∙ sym (doubled-append content (34 ∷ [])));
      goes = subst Q two (
          r.goes ∙ ap (λ (xs : List ℕ). extended content at (quotation xs)) (quote_at bytes at near h)
          ∙ ap (λ (xs : List ℕ). extended content at (behind_quote xs)) (quote_at bytes (suc at) next second)
          ∙ extended_again content 34 at 2 (quotation (drop (suc (suc at)) bytes)));
    }

closed_at : (b : ℕ) (bs : List ℕ) → b ≢ 34 → behind_quote (b ∷ bs) ≡ record { closed = true; content = []; width = 1 }
closed_at b bs h = ap (λ (x : Bool). behind_on x bs) (ne_eqb b 34 h)

closed_behind : (bytes rest : List ℕ) (at : ℕ) → drop (suc at) bytes ≡ rest → (at + 1 < length bytes → get_or bytes (at + 1) 0 ≢ 34) →
    behind_quote rest ≡ record { closed = true; content = []; width = 1 }
closed_behind bytes [] at e g = refl
closed_behind bytes (x ∷ xs) at e g =
    let n : length (drop (suc at) bytes) ≡ suc (length xs) = ap length e in
    let less : suc at < length bytes = omega (arith, n, length-drop (suc at) bytes) in
    let near : at + 1 < length bytes = omega arith in
    let one : suc at ≡ at + 1 = omega arith in
    let d : drop (suc at) bytes ≡ get_or bytes (suc at) 0 ∷ drop (suc (suc at)) bytes = drop-cons bytes (suc at) 0 less in
    let same : get_or bytes (suc at) 0 ≡ x = cc in
    closed_at x xs (λ i. let G : ℕ → Type 0 = λ k. get_or bytes k 0 ≡ 34 in g near (subst G one (same ∙ i)))

closed_whole : (bytes : List ℕ) (at : ℕ) (content : List ℕ) → at < length bytes → get_or bytes at 0 ≡ 34 →
    behind_quote (drop (suc at) bytes) ≡ record { closed = true; content = []; width = 1 } → IsReadTo bytes at content →
    quotation bytes ≡ record { closed = true; content = content; width = at + 1 }
closed_whole bytes at content l h g r =
    r.goes ∙ ap (λ (xs : List ℕ). extended content at (quotation xs)) (quote_at bytes at l h)
    ∙ ap (extended content at) g
    ∙ ap (λ (xs : List ℕ). record { closed = true; content = xs; width = at + 1 }) (append-nil content)

-- a quote, behind which there is no second one, closes it
pub read_closed : (bytes : List ℕ) (at : ℕ) (content : List ℕ) → at < length bytes → get_or bytes at 0 ≡ 34 →
    (at + 1 < length bytes → get_or bytes (at + 1) 0 ≢ 34) → IsReadTo bytes at content →
    quotation bytes ≡ record { closed = true; content = content; width = at + 1 }
read_closed bytes at content l h g r = closed_whole bytes at content l h (closed_behind bytes (drop (suc at) bytes) at refl g) r

-- the token of a closed one, and what follows it
pub closed_token : (bytes : List ℕ) (at : ℕ) (content : List ℕ) → quotation bytes ≡ record { closed = true; content = content; width = at + 1 } → take at bytes ≡ doubled content
    → Quoted (undoubled (take at bytes)) ≡ quoted_token (quotation bytes)
closed_token bytes at content q t = ap (λ (xs : List ℕ). Quoted (undoubled xs)) t ∙ ap Quoted (undoubled-doubled content) ∙ ap quoted_token (sym q)

pub closed_rest : (bytes : List ℕ) (at : ℕ) (content : List ℕ) → quotation bytes ≡ record { closed = true; content = content; width = at + 1 } →
    drop (at + 1) bytes ≡ drop (quotation bytes).width bytes
closed_rest bytes at content q = ap (λ (x : Quotation). drop x.width bytes) (sym q)

open_whole : (bytes rest : List ℕ) (at : ℕ) (content : List ℕ) → drop at bytes ≡ rest → length bytes ≤ at → IsReadTo bytes at content →
    quotation bytes ≡ record { closed = false; content = content; width = at + 0 }
open_whole bytes [] at content e l r =
    r.goes ∙ ap (λ (xs : List ℕ). extended content at (quotation xs)) e ∙ ap (λ (xs : List ℕ). record { closed = false; content = xs; width = at + 0 }) (append-nil content)
open_whole bytes (x ∷ xs) at content e l r = absurd (let n : length (drop at bytes) ≡ suc (length xs) = ap length e in omega (arith, n, length-drop at bytes))

-- the token of one that isn't closed, and that nothing follows it
pub open_token : (bytes : List ℕ) (at : ℕ) (content : List ℕ) → length bytes ≤ at → IsReadTo bytes at content → Unclosed (undoubled bytes) ≡ quoted_token (quotation bytes)
open_token bytes at content l r =
    ap (λ (xs : List ℕ). Unclosed (undoubled xs)) (sym (take_all at bytes l) ∙ r.taken) ∙ ap Unclosed (undoubled-doubled content)
    ∙ ap quoted_token (sym (open_whole bytes (drop at bytes) at content refl l r))

pub open_rest : (bytes : List ℕ) (at : ℕ) (content : List ℕ) → length bytes ≤ at → at ≤ length bytes → IsReadTo bytes at content → drop (length bytes) bytes ≡ drop (quotation bytes).width bytes
open_rest bytes at content l g r =
    let n : length bytes ≡ at + 0 = omega arith in
    ap (λ (k : ℕ). drop k bytes) n ∙ ap (λ (x : Quotation). drop x.width bytes) (sym (open_whole bytes (drop at bytes) at content refl l r))

-- what stands from a place on
pub take_rest : (n : ℕ) (bytes : List ℕ) → take (length bytes - n) (drop n bytes) ≡ drop n bytes
take_rest n bytes = take_all (length bytes - n) (drop n bytes) (omega (arith, length-drop n bytes))
