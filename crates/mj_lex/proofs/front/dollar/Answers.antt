use Rattle.std.proofs.Common.{◌≡◌, ◌==◌, ◌∙◌, ◌∷◌, ◌+◌, ◌-◌, ◌≤◌, ℕ, List, suc, true, length, take, drop, take_while, cond, ap, sym, arith, take_all, length-drop}
use Rattle.mj_ast.specs.Tokens.{Token, Stray, begins_word, continues_word, dollar_word, dollars_front, dollar_front}
use Rattle.mj_lex.proofs.Fronts.{first_and_front}
use Rattle.mj_lex.proofs.Longest.{cond_true}
use Rattle.mj_lex.proofs.front.dollar.Goals as goal

-- `$` and a word
dollar_fits : (bytes behind : List ℕ) (b n : ℕ) → bytes ≡ b ∷ behind → begins_word b ≡ true → n ≡ length (take_while continues_word behind) →
    dollar_front bytes ≡ (dollar_word (b ∷ take_while continues_word behind) (drop n behind), 1 + n)
dollar_fits bytes behind b n e h m =
    let w = take_while continues_word behind in
    let word : Token × ℕ = (dollar_word (b ∷ w) (drop (length w) behind), 1 + length w) in
    let other : Token × ℕ = cond (b == 36) ((dollars_front behind).0, 1 + (dollars_front behind).1) (Stray 36, 0) in
    let f : ℕ → Token × ℕ = λ k. (dollar_word (b ∷ w) (drop k behind), 1 + k) in
    ap dollar_front e ∙ cond_true (begins_word b) word other h ∙ ap f (sym m)

all_behind : (xs : List ℕ) (n : ℕ) → take (length xs - n) (drop n xs) ≡ drop n xs
all_behind xs n = take_all (length xs - n) (drop n xs) (omega (arith, length-drop n xs))

pub returns-then-begins_word_byte-clause-token : goal.returns-then-begins_word_byte-clause-token
returns-then-begins_word_byte-clause-token c =
    let bs = c.args.bytes.now in
    let xs = c.in-Some.behind.now in
    let n = c.word_length-n.result in
    let e = dollar_fits bs xs c.in-Some.byte n c.in-Some.ensures (sym c.begins_word_byte.ensures ∙ c.if-begins_word_byte.true) c.word_length-n.ensures.value in
    c.dollar_token.ensures
    ∙ ap (λ (ys : List ℕ). dollar_word (take (n + 1) bs) ys) (all_behind xs n)
    ∙ ap (λ (ys : List ℕ). dollar_word ys (drop n xs)) (first_and_front continues_word bs c.in-Some.byte xs n c.in-Some.ensures c.word_length-n.ensures.value)
    ∙ sym (ap (λ (f : Token × ℕ). f.0) e)

pub returns-then-begins_word_byte-clause-rest : goal.returns-then-begins_word_byte-clause-rest
returns-then-begins_word_byte-clause-rest c =
    let bs = c.args.bytes.now in
    let xs = c.in-Some.behind.now in
    let n = c.word_length-n.result in
    let e = dollar_fits bs xs c.in-Some.byte n c.in-Some.ensures (sym c.begins_word_byte.ensures ∙ c.if-begins_word_byte.true) c.word_length-n.ensures.value in
    let more : suc n ≡ 1 + n = omega arith in
    all_behind xs n
    ∙ ap (λ (k : ℕ). drop k (c.in-Some.byte ∷ xs)) more
    ∙ ap (drop (1 + n)) (sym c.in-Some.ensures)
    ∙ sym (ap (λ (f : Token × ℕ). drop f.1 bs) e)
