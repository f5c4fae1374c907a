-- The construct that a token stands for.
use Rattle.std.proofs.Common.{◌≡◌, ◌∙◌, sym, subst, inl, inr, ℕ, List, [], ◌∷◌, take, drop, Option}
use Rattle.mj_ast.specs.declared.construct.Construct.{Construct}
use Rattle.mj_ast.specs.Tokens.{Token}
use Rattle.mj_ast.specs.LeftOut.{StandsFor, IsFirstOf, IsNamed, IsNamedAt, IsNamedIn, rows}

-- a row that doesn't fit is passed over
pub passed : (r : Construct) (rs : List Construct) (front : List Token) (t : Token) (behind : List Token) (c : Option Construct) → (StandsFor r front t behind → ⊥) →
    IsFirstOf rs front t behind c → IsFirstOf (r ∷ rs) front t behind c
passed r rs front t behind c n h = inr (n, h)

-- ---- one answer

first_once : (rs : List Construct) (front : List Token) (t : Token) (behind : List Token) (c d : Option Construct) → IsFirstOf rs front t behind c → IsFirstOf rs front t behind d → d ≡ c
first_once [] front t behind c d g h = h ∙ sym g
first_once (r ∷ rs) front t behind c d (inl g) (inl h) = h.1 ∙ sym g.1
first_once (r ∷ rs) front t behind c d (inl g) (inr h) = absurd (h.0 g.0)
first_once (r ∷ rs) front t behind c d (inr g) (inl h) = absurd (g.0 h.0)
first_once (r ∷ rs) front t behind c d (inr g) (inr h) = first_once rs front t behind c d g.1 h.1

pub named_once : (front : List Token) (t : Token) (behind : List Token) (c d : Option Construct) → IsNamed front t behind c → IsNamed front t behind d → d ≡ c
named_once front t behind c d g h = first_once rows front t behind c d g h

-- ---- at a place

pub named_at : (ks front : List Token) (t : Token) (behind : List Token) (place : ℕ) (c : Option Construct) → front ≡ take place ks →
    t ∷ behind ≡ drop place ks → IsNamed front t behind c → IsNamedAt ks place c
named_at ks front t behind place c e f h =
    let P : List Token → Type 0 = λ xs. IsNamedIn xs (t ∷ behind) c in
    let Q : List Token → Type 0 = λ xs. IsNamedIn (take place ks) xs c in
    subst Q f (subst P e h)

pub at_named : (ks front : List Token) (t : Token) (behind : List Token) (place : ℕ) (c : Option Construct) → front ≡ take place ks →
    t ∷ behind ≡ drop place ks → IsNamedAt ks place c → IsNamed front t behind c
at_named ks front t behind place c e f h =
    let P : List Token → Type 0 = λ xs. IsNamedIn xs (t ∷ behind) c in
    let Q : List Token → Type 0 = λ xs. IsNamedIn (take place ks) xs c in
    subst P (sym e) (subst Q (sym f) h)
