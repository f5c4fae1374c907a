-- Where the operands of what a line says lie on the stack.
use Rattle.std.proofs.Common.{◌≡◌, ℕ, suc, ◌+◌, List, [], ◌∷◌, ◌++◌, length, reverse, take, drop, map, Option, Some, None, refl, sym, ap, ◌∙◌, arith, append_assoc, length-append}
use Rattle.std.proofs.lemmas.List.{reverse-append, reverse-reverse, length-reverse}
use Rattle.std.proofs.Math.Seq.{drop-append_seam, take-append_seam, drop-drop}
use Rattle.std.specs.Prelude.{ℤ, Ok}
use Rattle.mj_num.specs.Number.{reading}
use Rattle.mj_subs.specs.Name.{Name}
use Rattle.mj_text.specs.Failing.{then_value}
use Rattle.mj_ast.specs.Syntax.{Expr, Variable, Destination, Plain, Pieces}
use Rattle.mj_semantics.specs.Outcome.{Timed, given}
use Rattle.mj_semantics.specs.Evaluation.{name_of}
use Rattle.mj_semantics.specs.Commands.{Aim, Whole, Part}
use Rattle.mj_pcode.specs.Machine.{Stack, top, operands, wait_size, waits, counts, names_on}
use Rattle.mj_asm.specs.Code.{count, reference, size, sizes, wait_of}

-- values that were put on the stack in order
abbrev pub onto : List (List ℕ) → Stack → Stack
onto [] stack = stack
onto (v ∷ vs) stack = onto vs (v ∷ stack)

onto_is : (vs : List (List ℕ)) (stack : Stack) → onto vs stack ≡ reverse vs ++ stack
onto_is [] stack = refl
onto_is (v ∷ vs) stack =
    onto_is vs (v ∷ stack) ∙ sym (append_assoc (reverse vs) (v ∷ []) stack) ∙ ap (λ l. l ++ stack) (sym (reverse-append (v ∷ []) vs))

pub rest_below : (vs : List (List ℕ)) (stack : Stack) (n : ℕ) → length vs ≡ n → drop n (onto vs stack) ≡ stack
rest_below vs stack n e =
    ap (drop n) (onto_is vs stack) ∙ ap (λ k. drop k (reverse vs ++ stack)) (sym (length-reverse vs ∙ e)) ∙ drop-append_seam (reverse vs) stack

pub operands_are : (vs : List (List ℕ)) (stack : Stack) (n : ℕ) → length vs ≡ n → operands n (onto vs stack) ≡ vs
operands_are vs stack n e =
    ap (λ l. reverse (take n l)) (onto_is vs stack) ∙ ap (λ k. reverse (take k (reverse vs ++ stack))) (sym (length-reverse vs ∙ e))
    ∙ ap reverse (take-append_seam (reverse vs) stack) ∙ reverse-reverse vs

-- one more is taken off
pub drop_more : (k : ℕ) (v : List ℕ) (stack : Stack) → drop (k + 1) (v ∷ stack) ≡ drop k stack
drop_more k v stack = let e : k + 1 ≡ suc k = omega arith in ap (λ j. drop j (v ∷ stack)) e

-- the operands of a destination lie on a stack
abbrev pub Lies : Destination → Aim → Stack → Stack → Type 0
Lies (Plain v) (Whole x) stack base =
    (ss : List (List ℕ)) × (length ss ≡ (reference v).count) × (name_of (reference v).scope (reference v).word ss ≡ Ok x)
    × (stack ≡ onto ss base)
Lies (Plain v) (Part x ts) stack base = ⊥
Lies (Pieces v es) (Whole x) stack base = ⊥
Lies (Pieces v es) (Part x ts) stack base =
    (ss : List (List ℕ)) × (length ss ≡ (reference v).count) × (name_of (reference v).scope (reference v).word ss ≡ Ok x)
    × (length ts ≡ count es) × (stack ≡ onto ts (onto ss base))

-- and those of a list of them, one upon the other
abbrev pub LieAll : List Destination → List Aim → Stack → Stack → Type 0
LieAll [] [] stack base = stack ≡ base
LieAll [] (t ∷ ts) stack base = ⊥
LieAll (d ∷ list) [] stack base = ⊥
LieAll (d ∷ list) (t ∷ ts) stack base = (mid : Stack) × Lies d t mid base × LieAll list ts stack mid

pub below_one : (d : Destination) (t : Aim) (stack base : Stack) → Lies d t stack base → drop (size d) stack ≡ base
below_one (Plain v) (Whole x) stack base l = ap (drop (reference v).count) l.3 ∙ rest_below l.0 base (reference v).count l.1
below_one (Plain v) (Part x ts) stack base l = absurd l
below_one (Pieces v es) (Whole x) stack base l = absurd l
below_one (Pieces v es) (Part x ts) stack base l =
    let n = (reference v).count in
    let e : n + count es ≡ count es + n = omega arith in
    ap (λ k. drop k stack) e ∙ sym (drop-drop n (count es) stack)
    ∙ ap (λ st. drop n (drop (count es) st)) l.4 ∙ ap (drop n) (rest_below ts (onto l.0 base) (count es) l.3) ∙ rest_below l.0 base n l.1

pub below_all : (list : List Destination) (ts : List Aim) (stack base : Stack) → LieAll list ts stack base → drop (sizes list) stack ≡ base
below_all [] [] stack base l = l
below_all [] (t ∷ ts) stack base l = absurd l
below_all (d ∷ list) [] stack base l = absurd l
below_all (d ∷ list) (t ∷ ts) stack base l =
    let e : size d + sizes list ≡ sizes list + size d = omega arith in
    ap (λ k. drop k stack) e ∙ sym (drop-drop (size d) (sizes list) stack)
    ∙ ap (drop (size d)) (below_all list ts stack l.0 l.2) ∙ below_one d t l.0 base l.1

pub both_below : (ss vs : List (List ℕ)) (stack : Stack) (n : ℕ) → length ss + length vs ≡ n → drop n (onto vs (onto ss stack)) ≡ stack
both_below ss vs stack n e =
    let all : onto vs (onto ss stack) ≡ (reverse vs ++ reverse ss) ++ stack =
    onto_is vs (onto ss stack) ∙ ap (λ l. reverse vs ++ l) (onto_is ss stack) ∙ sym (append_assoc (reverse vs) (reverse ss) stack) in
    let len : n ≡ length (reverse vs ++ reverse ss) = omega (arith, e, length-append (reverse vs) (reverse ss), length-reverse vs, length-reverse ss) in
    ap (drop n) all ∙ ap (λ k. drop k ((reverse vs ++ reverse ss) ++ stack)) len ∙ drop-append_seam (reverse vs ++ reverse ss) stack

-- how long an argument may wait: its number lies on a stack, if it has one
abbrev pub LiesWait : Option Expr → Option ℤ → Stack → Stack → Type 0
LiesWait None None stack base = stack ≡ base
LiesWait None (Some n) stack base = ⊥
LiesWait (Some e) None stack base = ⊥
LiesWait (Some e) (Some n) stack base = (v : List ℕ) × (stack ≡ v ∷ base) × (reading v ≡ Ok n)

pub waited : (o : Option Expr) (t : Option ℤ) (stack base : Stack) → LiesWait o t stack base → (f : Option ℤ → Timed) (n : ℕ) → waits (wait_of o) stack f n ≡ f t n
waited None None stack base l f n = refl
waited None (Some i) stack base l f n = absurd l
waited (Some e) None stack base l f n = absurd l
waited (Some e) (Some i) stack base l f n =
    ap (λ st. given (reading (top st)) (λ j. f (Some j)) n) l.1 ∙ ap (λ r. given r (λ j. f (Some j)) n) l.2

pub below_wait : (o : Option Expr) (t : Option ℤ) (stack base : Stack) → LiesWait o t stack base → drop (wait_size (wait_of o)) stack ≡ base
below_wait None None stack base l = l
below_wait None (Some i) stack base l = absurd l
below_wait (Some e) None stack base l = absurd l
below_wait (Some e) (Some i) stack base l = ap (drop 1) l.1

-- and so many more
pub below_more : (o : Option Expr) (t : Option ℤ) (stack base : Stack) (k : ℕ) → LiesWait o t stack base → drop (k + wait_size (wait_of o)) stack ≡ drop k base
below_more o t stack base k l =
    let w = wait_size (wait_of o) in
    let e : k + w ≡ w + k = omega arith in
    ap (λ j. drop j stack) e ∙ sym (drop-drop k w stack) ∙ ap (drop k) (below_wait o t stack base l)

-- the subscripts of names lie on a stack, those of the last one on top
abbrev pub LieNames : List Variable → List Name → Stack → Stack → Type 0
LieNames [] [] stack base = stack ≡ base
LieNames [] (x ∷ xs) stack base = ⊥
LieNames (v ∷ vs) [] stack base = ⊥
LieNames (v ∷ vs) (x ∷ xs) stack base =
    (ss : List (List ℕ)) × (length ss ≡ (reference v).count) × (name_of (reference v).scope (reference v).word ss ≡ Ok x)
    × LieNames vs xs stack (onto ss base)

pub below_names : (vs : List Variable) (xs : List Name) (stack base : Stack) → LieNames vs xs stack base → drop (counts (map reference vs)) stack ≡ base
below_names [] [] stack base l = l
below_names [] (x ∷ xs) stack base l = absurd l
below_names (v ∷ vs) [] stack base l = absurd l
below_names (v ∷ vs) (x ∷ xs) stack base l =
    let n = (reference v).count in
    let m = counts (map reference vs) in
    let e : n + m ≡ m + n = omega arith in
    ap (λ k. drop k stack) e ∙ sym (drop-drop n m stack) ∙ ap (drop n) (below_names vs xs stack (onto l.0 base) l.3) ∙ rest_below l.0 base n l.1

pub names_are : (vs : List Variable) (xs : List Name) (stack base : Stack) → LieNames vs xs stack base → names_on (map reference vs) stack ≡ Ok xs
names_are [] [] stack base l = refl
names_are [] (x ∷ xs) stack base l = absurd l
names_are (v ∷ vs) [] stack base l = absurd l
names_are (v ∷ vs) (x ∷ xs) stack base l =
    let r = reference v in
    let rs = map reference vs in
    ap (λ st. then_value (name_of r.scope r.word (operands r.count st)) (λ y. then_value (names_on rs stack) (λ ys. Ok (y ∷ ys)))) (below_names vs xs stack (onto l.0 base) l.3)
    ∙ ap (λ ss. then_value (name_of r.scope r.word ss) (λ y. then_value (names_on rs stack) (λ ys. Ok (y ∷ ys)))) (operands_are l.0 base r.count l.1)
    ∙ ap (λ o. then_value o (λ y. then_value (names_on rs stack) (λ ys. Ok (y ∷ ys)))) l.2
    ∙ ap (λ o. then_value o (λ ys. Ok (x ∷ ys))) (names_are vs xs stack (onto l.0 base) l.3)
