-- Bytes are cut at their first blank, since no number has one.
use Rattle.std.proofs.Common.{◌≡◌, ℕ, suc, ◌+◌, ◌-◌, ◌<◌, ◌%◌, ◌^◌, Bool, true, false, cond, eqb, eqb-true, ne_eqb, List, [], ◌∷◌, ◌++◌, length, take, drop, get_or, drop-cons, Option, Some, None, refl, sym, ap, ◌∙◌, decimal, arith}
use Rattle.std.proofs.Math.Seq.{take-append_seam}
use Rattle.std.proofs.lemmas.Fmt.{decimal_by_steps}
use Rattle.std.proofs.lemmas.List.{take_all, length-drop, take-append-drop}
use Rattle.std.proofs.lemmas.List.Quantifiers.{position-Some}
use Rattle.std.proofs.lemmas.Iterator.Adapters.{position_from-zero}
use Rattle.std.specs.List.{position, position_from}
use Rattle.mj_steps.specs.Steps.{IsJob}
use Rattle.mj_guide.specs.Requests.{is_blank}

-- ---- no blank in a number

-- no byte is a blank
abbrev HasNone : List ℕ → Type 0
HasNone [] = Unit {0}
HasNone (c ∷ cs) = (is_blank c ≡ false) × HasNone cs

joined_none : (a b : List ℕ) → HasNone a → HasNone b → HasNone (a ++ b)
joined_none [] b h k = k
joined_none (c ∷ a) b h k = (h.0, joined_none a b h.1 k)

digit_none : (n : ℕ) → is_blank (48 + n) ≡ false
digit_none n = ne_eqb (48 + n) 32 (λ e. omega arith)

number_none : (n : ℕ) → n < 2 ^ 64 → HasNone (decimal n)
number_none n small =
    decimal_by_steps (λ n digits. HasNone digits) (λ n less. (digit_none n, tt)) (λ n digits more h. joined_none digits _ h (digit_none (n % 10), tt)) n small

job_none : (job : ℕ) → IsJob job → HasNone (decimal job)
job_none job is = number_none job (omega (arith, is))

-- ---- the first blank

first_at : (n : ℕ) (front rest : List ℕ) → HasNone front → position_from is_blank n (front ++ 32 ∷ rest) ≡ Some (n + length front)
first_at n [] rest h = let e : n ≡ n + 0 = omega arith in ap (λ (m : ℕ). Some m) e
first_at n (c ∷ cs) rest h =
    let e : (n + 1) + length cs ≡ n + suc (length cs) = omega arith in
    ap (λ (b : Bool). cond b (Some n) (position_from is_blank (n + 1) (cs ++ 32 ∷ rest))) h.0
    ∙ first_at (n + 1) cs rest h.1
    ∙ ap (λ (m : ℕ). Some m) e

first_blank : (front rest : List ℕ) → HasNone front → position is_blank (front ++ 32 ∷ rest) ≡ Some (length front)
first_blank front rest none =
    let e : 0 + length front ≡ length front = omega arith in
    position_from-zero is_blank (front ++ 32 ∷ rest) ∙ first_at 0 front rest none ∙ ap (λ (m : ℕ). Some m) e

some_same : (o : Option ℕ) (m n : ℕ) → o ≡ Some m → o ≡ Some n → m ≡ n
some_same o m n e f = cc

-- bytes without a blank don't begin with a job's number and one
pub no_blank : (bytes behind : List ℕ) (job : ℕ) → position is_blank bytes ≡ None → IsJob job → ¬ (bytes ≡ decimal job ++ 32 ∷ behind)
no_blank bytes behind job none is same =
    let first : position is_blank bytes ≡ Some (length (decimal job)) = ap (position is_blank) same ∙ first_blank (decimal job) behind (job_none job is) in
    absurd cc

-- the first blank of bytes that begin with a job's number and one stands behind that number
pub cut_number : (bytes behind : List ℕ) (k job : ℕ) → position is_blank bytes ≡ Some k → IsJob job → bytes ≡ decimal job ++ 32 ∷ behind → take k bytes ≡ decimal job
cut_number bytes behind k job some is same =
    let first : position is_blank bytes ≡ Some (length (decimal job)) = ap (position is_blank) same ∙ first_blank (decimal job) behind (job_none job is) in
    let at : k ≡ length (decimal job) = some_same (position is_blank bytes) k (length (decimal job)) some first in
    ap (λ (n : ℕ). take n bytes) at ∙ ap (λ (l : List ℕ). take (length (decimal job)) l) same ∙ take-append_seam (decimal job) (32 ∷ behind)

behind_same : (a b s t : List ℕ) → HasNone a → HasNone b → a ++ 32 ∷ s ≡ b ++ 32 ∷ t → s ≡ t
behind_same [] [] s t h k e = cc
behind_same [] (c ∷ b) s t h k e =
    let here : c ≡ 32 = cc in
    let yes : is_blank c ≡ true = ap is_blank here in
    absurd (let no : is_blank c ≡ false = k.0 in cc)
behind_same (c ∷ a) [] s t h k e =
    let here : c ≡ 32 = cc in
    let yes : is_blank c ≡ true = ap is_blank here in
    absurd (let no : is_blank c ≡ false = h.0 in cc)
behind_same (c ∷ a) (d ∷ b) s t h k e = behind_same a b s t h.1 k.1 cc

-- what stands behind a job's number and a blank is one thing
pub behind_job : (bytes s t : List ℕ) (job other : ℕ) → IsJob job → IsJob other → bytes ≡ decimal job ++ 32 ∷ s → bytes ≡ decimal other ++ 32 ∷ t → s ≡ t
behind_job bytes s t job other is are one two = behind_same (decimal job) (decimal other) s t (job_none job is) (job_none other are) (sym one ∙ two)

-- bytes are what is before their first blank, it, and what is behind it
pub joined : (bytes front : List ℕ) (k : ℕ) → position is_blank bytes ≡ Some k → take k bytes ≡ front
    → bytes ≡ front ++ 32 ∷ take (length bytes - (k + 1)) (drop (k + 1) bytes)
joined bytes front k some before =
    let at = position-Some is_blank bytes k 0 some in
    let blank : get_or bytes k 0 ≡ 32 = eqb-true (get_or bytes k 0) 32 at.1 in
    let next : suc k ≡ k + 1 = omega arith in
    let behind : List ℕ = take (length bytes - (k + 1)) (drop (k + 1) bytes) in
    let all : behind ≡ drop (k + 1) bytes = take_all (length bytes - (k + 1)) (drop (k + 1) bytes) (omega (arith, length-drop (k + 1) bytes)) in
    sym (take-append-drop k bytes)
    ∙ ap (λ (l : List ℕ). take k bytes ++ l) (drop-cons bytes k 0 at.0)
    ∙ ap (λ (b : ℕ). take k bytes ++ b ∷ drop (suc k) bytes) blank
    ∙ ap (λ (n : ℕ). take k bytes ++ 32 ∷ drop n bytes) next
    ∙ ap (λ (l : List ℕ). take k bytes ++ 32 ∷ l) (sym all)
    ∙ ap (λ (l : List ℕ). l ++ 32 ∷ behind) before
