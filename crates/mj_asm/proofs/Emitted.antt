-- A jump past a command, whose place was kept until the command was there.
use Rattle.std.proofs.Common.{◌≡◌, ℕ, ◌+◌, List, [], ◌∷◌, Option, Some, ◌++◌, length, ap, sym, ◌∙◌, arith, append_assoc, length-append}
use Rattle.std.specs.Prelude.{slice_set}
use Rattle.std.proofs.Math.Seq.{set-append_seam}
use Rattle.mj_pcode.specs.declared.instr.Instr.{Instr}
use Rattle.mj_pcode.specs.declared.instr.Instr.TheVariants.{JumpUnless, Jump, ForClose, ForAgain}
use Rattle.mj_asm.specs.Code.{body_code}

-- a jump that gets its target once there is code behind it
pub aimed : (c1 c2 c3 behind : List Instr) (y z : Instr) (at : ℕ) → at ≡ length c1 → c2 ≡ c1 ++ y ∷ [] → c3 ≡ c2 ++ behind → slice_set c3 at z ≡ c1 ++ z ∷ behind
aimed c1 c2 c3 behind y z at m e2 e3 =
    let whole : c3 ≡ c1 ++ y ∷ behind = e3 ∙ ap (λ l. l ++ behind) e2 ∙ append_assoc c1 (y ∷ []) behind in
    ap (λ k. slice_set c3 k z) m ∙ ap (λ l. slice_set l (length c1) z) whole ∙ set-append_seam c1 y behind z

-- an instruction, which gets the end of the code behind it
pub led : (c1 : List Instr) (z : ℕ → Instr) (body : ℕ → List Instr) (c2 c3 c4 : List Instr) (y : Instr) (at : ℕ)
    → at ≡ length c1 → c2 ≡ c1 ++ y ∷ [] → c3 ≡ c2 ++ body (length c2) → c4 ≡ slice_set c3 at (z (length c3)) →
    c4 ≡ c1 ++ z (length c1 + 1 + length (body (length c1 + 1))) ∷ body (length c1 + 1)
led c1 z body c2 c3 c4 y at m e2 e3 e4 =
    let n : length c2 ≡ length c1 + 1 = omega (arith, ap length e2, length-append c1 (y ∷ [])) in
    let len : length c3 ≡ length c2 + length (body (length c2)) = omega (arith, ap length e3, length-append c2 (body (length c2))) in
    e4
    ∙ aimed c1 c2 c3 (body (length c2)) y (z (length c3)) at m e2 e3
    ∙ ap (λ k. c1 ++ z k ∷ body (length c2)) len
    ∙ ap (λ k. c1 ++ z (k + length (body k)) ∷ body k) n

-- what stands behind a test, which gets the end of the code behind it
pub tested : (base test : List Instr) (z : ℕ → Instr) (body : ℕ → List Instr) (c1 c2 c3 c4 : List Instr) (y : Instr) (at : ℕ) → c1 ≡ base ++ test
    → at ≡ length c1 → c2 ≡ c1 ++ y ∷ [] → c3 ≡ c2 ++ body (length c2) → c4 ≡ slice_set c3 at (z (length c3)) →
    c4 ≡ base ++ (test ++ z (length base + length test + 1 + length (body (length base + length test + 1))) ∷ body (length base + length test + 1))
tested base test z body c1 c2 c3 c4 y at e1 m e2 e3 e4 =
    let n : length c1 ≡ length base + length test = omega (arith, ap length e1, length-append base test) in
    led c1 z body c2 c3 c4 y at m e2 e3 e4
    ∙ ap (λ k. c1 ++ z (k + 1 + length (body (k + 1))) ∷ body (k + 1)) n
    ∙ ap (λ l. l ++ z (length base + length test + 1 + length (body (length base + length test + 1))) ∷ body (length base + length test + 1)) e1
    ∙ append_assoc base test _

-- the instruction that closes a FOR, and its passes
pub closed : (base : List Instr) (rest : ℕ → Option ℕ → List Instr) (c2 c3 c4 c5 : List Instr) (at : ℕ) → at ≡ length base → c2 ≡ base ++ ForClose 0 ∷ []
    → c3 ≡ c2 ++ rest (length c2) (Some at) → c4 ≡ c3 ++ ForAgain ∷ [] → c5 ≡ slice_set c4 at (ForClose (length c4)) → c5 ≡ base ++ body_code (length base) rest
closed base rest c2 c3 c4 c5 at m e2 e3 e4 e5 =
    let k : ℕ = length base in
    let body : ℕ → List Instr = λ p. rest p (Some k) ++ ForAgain ∷ [] in
    let whole : c4 ≡ c2 ++ body (length c2) = e4 ∙ ap (λ l. l ++ ForAgain ∷ []) (e3 ∙ ap (λ j. c2 ++ rest (length c2) (Some j)) m) ∙ append_assoc c2 (rest (length c2) (Some k)) (ForAgain ∷ []) in
    let n : k + 1 + length (body (k + 1)) ≡ k + 1 + length (rest (k + 1) (Some k)) + 1 = omega (arith, length-append (rest (k + 1) (Some k)) (ForAgain ∷ [])) in
    led base (λ j. ForClose j) body c2 c4 c5 (ForClose 0) at m e2 whole e5 ∙ ap (λ j. base ++ ForClose j ∷ body (k + 1)) n

-- the instruction that begins a FOR, its ranges, and what stands behind them
pub opened : (base test : List Instr) (z : ℕ → Instr) (body passes : ℕ → List Instr) (c1 c2 c3 c4 c5 : List Instr) (y : Instr) (at : ℕ)
    → c1 ≡ base ++ test → at ≡ length c1 → c2 ≡ c1 ++ y ∷ [] → c3 ≡ c2 ++ body (length c2) → c4 ≡ slice_set c3 at (z (length c3)) → c5 ≡ c4 ++ passes (length c4) →
    c5 ≡ base ++ (test ++ z (length base + length test + 1 + length (body (length base + length test + 1)))
    ∷ (body (length base + length test + 1) ++ passes (length base + length test + 1 + length (body (length base + length test + 1)))))
opened base test z body passes c1 c2 c3 c4 c5 y at e1 m e2 e3 e4 e5 =
    let f : ℕ = length base + length test + 1 in
    let made : List Instr = test ++ z (f + length (body f)) ∷ body f in
    let t : c4 ≡ base ++ made = tested base test z body c1 c2 c3 c4 y at e1 m e2 e3 e4 in
    let n : length c4 ≡ f + length (body f) = omega (arith, ap length t, length-append base made, length-append test (z (f + length (body f)) ∷ body f)) in
    let last : (base ++ (test ++ z (f + length (body f)) ∷ body f)) ++ passes (f + length (body f)) ≡ base ++ (test ++ z (f + length (body f)) ∷ (body f ++ passes (f + length (body f)))) =
    simp append_assoc in
    e5 ∙ ap (λ k. c4 ++ passes k) n ∙ ap (λ l. l ++ passes (f + length (body f))) t ∙ last

-- one piece more of several, whose code goes on where its code ends
pub one_more : (base one : List Instr) (rest : ℕ → List Instr) (c1 : List Instr) → c1 ≡ base ++ one → c1 ++ rest (length c1) ≡ base ++ (one ++ rest (length base + length one))
one_more base one rest c1 e =
    let n : length c1 ≡ length base + length one = omega (arith, ap length e, length-append base one) in
    ap (λ k. c1 ++ rest k) n ∙ ap (λ l. l ++ rest (length base + length one)) e ∙ append_assoc base one _

-- a condition, its value, which begins at v, and what stands behind its jump
abbrev pub choice_code : ℕ → List Instr → (ℕ → List Instr) → (ℕ → List Instr) → List Instr
choice_code v cc body more = cc ++ JumpUnless (v + length (body v) + 1) ∷ (body v ++ Jump (v + length (body v) + 1 + length (more (v + length (body v) + 1))) ∷ more (v + length (body v) + 1))

-- a choice before others
pub chosen : (base cc : List Instr) (body more : ℕ → List Instr) (c1 c2 c3 c4 c5 c6 c7 : List Instr) (y z : Instr) (test exit : ℕ)
    → c1 ≡ base ++ cc → test ≡ length c1 → c2 ≡ c1 ++ y ∷ [] → c3 ≡ c2 ++ body (length c2) → exit ≡ length c3 → c4 ≡ c3 ++ z ∷ []
    → c5 ≡ slice_set c4 test (JumpUnless (length c4)) → c6 ≡ c5 ++ more (length c5) → c7 ≡ slice_set c6 exit (Jump (length c6))
    → c7 ≡ base ++ choice_code (length base + length cc + 1) cc body more
chosen base cc body more c1 c2 c3 c4 c5 c6 c7 y z test exit e1 t e2 e3 x e4 e5 e6 e7 =
    let v : ℕ = length c2 in
    let u : Instr = JumpUnless (length c4) in
    let tail : c4 ≡ c2 ++ (body v ++ z ∷ []) = e4 ∙ ap (λ l. l ++ z ∷ []) e3 ∙ append_assoc c2 (body v) (z ∷ []) in
    let first : c5 ≡ c1 ++ u ∷ (body v ++ z ∷ []) = e5 ∙ aimed c1 c2 c4 (body v ++ z ∷ []) y u test t e2 tail in
    let again : c5 ≡ (c1 ++ u ∷ body v) ++ z ∷ [] = first ∙ sym (append_assoc c1 (u ∷ body v) (z ∷ [])) in
    let nv : v ≡ length base + length cc + 1 = omega (arith, ap length e2, ap length e1, length-append base cc, length-append c1 (y ∷ [])) in
    let n3 : length c3 ≡ v + length (body v) = omega (arith, ap length e3, length-append c2 (body v)) in
    let n4 : length c4 ≡ v + length (body v) + 1 = omega (arith, ap length e4, n3, length-append c3 (z ∷ [])) in
    let nd : length (c1 ++ u ∷ body v) ≡ v + length (body v) = omega (arith, length-append c1 (u ∷ body v), ap length e2, length-append c1 (y ∷ [])) in
    let n5 : length c5 ≡ v + length (body v) + 1 = omega (arith, ap length again, length-append (c1 ++ u ∷ body v) (z ∷ []), nd) in
    let n6 : length c6 ≡ length c5 + length (more (length c5)) = omega (arith, ap length e6, length-append c5 (more (length c5))) in
    let at : exit ≡ length (c1 ++ u ∷ body v) = omega (arith, x, n3, nd) in
    let made : List Instr → ℕ → ℕ → ℕ → ℕ → List Instr = λ l w o o' k. (l ++ JumpUnless o' ∷ body w) ++ Jump k ∷ more o in
    let last : made (base ++ cc) (length base + length cc + 1)
    (length base + length cc + 1 + length (body (length base + length cc + 1)) + 1) (length base + length cc + 1 + length (body (length base + length cc + 1)) + 1)
    (length base + length cc + 1 + length (body (length base + length cc + 1)) + 1 + length (more (length base + length cc + 1 + length (body (length base + length cc + 1)) + 1)))
    ≡ base ++ choice_code (length base + length cc + 1) cc body more = simp append_assoc in
    e7
    ∙ aimed (c1 ++ u ∷ body v) c5 c6 (more (length c5)) z (Jump (length c6)) exit at again e6
    ∙ ap (λ k. made c1 v (length c5) (length c4) k) n6
    ∙ ap (λ o. made c1 v o (length c4) (o + length (more o))) n5
    ∙ ap (λ o. made c1 v (v + length (body v) + 1) o (v + length (body v) + 1 + length (more (v + length (body v) + 1)))) n4
    ∙ ap (λ w. made c1 w (w + length (body w) + 1) (w + length (body w) + 1) (w + length (body w) + 1 + length (more (w + length (body w) + 1)))) nv
    ∙ ap (λ l. made l (length base + length cc + 1)
    (length base + length cc + 1 + length (body (length base + length cc + 1)) + 1) (length base + length cc + 1 + length (body (length base + length cc + 1)) + 1)
    (length base + length cc + 1 + length (body (length base + length cc + 1)) + 1 + length (more (length base + length cc + 1 + length (body (length base + length cc + 1)) + 1)))) e1
    ∙ last

-- a function of a variable: its name, what stands behind it, and the question
pub about_made : (base cs : List Instr) (ce : ℕ → List Instr) (c1 c2 c3 c4 : List Instr) (y z : Instr) → c1 ≡ base ++ cs → c2 ≡ c1 ++ y ∷ [] → c3 ≡ c2 ++ ce (length c2) → c4 ≡ c3 ++ z ∷ []
    → c4 ≡ base ++ (cs ++ y ∷ (ce (length base + length cs + 1) ++ z ∷ []))
about_made base cs ce c1 c2 c3 c4 y z e1 e2 e3 e4 =
    let n : length c2 ≡ length base + length cs + 1 = omega (arith, ap length e2, ap length e1, length-append base cs, length-append c1 (y ∷ [])) in
    let front : c2 ≡ (base ++ cs) ++ y ∷ [] = e2 ∙ ap (λ l. l ++ y ∷ []) e1 in
    let k : ℕ = length base + length cs + 1 in
    let last : (((base ++ cs) ++ y ∷ []) ++ ce k) ++ z ∷ [] ≡ base ++ (cs ++ y ∷ (ce k ++ z ∷ [])) = simp append_assoc in
    e4 ∙ ap (λ l. l ++ z ∷ []) (e3 ∙ ap (λ j. c2 ++ ce j) n ∙ ap (λ l. l ++ ce k) front) ∙ last
