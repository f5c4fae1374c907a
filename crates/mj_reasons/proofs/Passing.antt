-- What is read of a line, a byte at a time.
use Rattle.std.proofs.Common.{◌≡◌, ℕ, List, ◌∷◌, Option, Some, None, ap, ◌∙◌}
use Rattle.mj_reasons.specs.Parts.{after, one_more, reached}
use Rattle.mj_reasons.specs.declared.part.Part.{Part}

abbrev read_by : Option Part → Part → List ℕ → ℕ × Part
read_by next p bs = elim next [ None ↦ (0, p) | Some q ↦ one_more (reached q bs) ]

-- a byte that can come next
pub goes_on : (p q : Part) (b : ℕ) (bs : List ℕ) → after p b ≡ Some q → reached p (b ∷ bs) ≡ one_more (reached q bs)
goes_on p q b bs h = ap (λ (next : Option Part). read_by next p bs) h

-- and one that can't
pub goes_up : (p : Part) (b : ℕ) (bs : List ℕ) → after p b ≡ None → reached p (b ∷ bs) ≡ (0, p)
goes_up p b bs h = ap (λ (next : Option Part). read_by next p bs) h

-- a pair is known by its parts
pub both : (n : ℕ) (p : Part) (x : ℕ × Part) → n ≡ x.0 → p ≡ x.1 → (n, p) ≡ x
both n p x e f = ap (λ (k : ℕ). (k, p)) e ∙ ap (λ (q : Part). (x.0, q)) f
