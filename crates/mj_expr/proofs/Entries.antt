-- What the readers of functions that are written in M need of the machine.
use Rattle.std.proofs.Common.{◌≡◌, ℕ, List, [], ◌∷◌, refl, ap, sym, ◌∙◌, Bool, true, false, Option, Some, None}
use Rattle.std.specs.Prelude.{cond}
use Rattle.mj_ast.specs.declared.sign.Sign.TheVariants.{Caret, Close, Comma}
use Rattle.mj_ast.specs.Syntax.{Expr, Extrinsic, Actuals, Target as EntryAt}
use Rattle.mj_ast.specs.Expressions.{Symbol, Constant, Inherent, Name, Applied, Entry, Overlong, Mark, Other}
use Rattle.mj_expr.specs.Machine.{InActuals, Within, Front, Wanted, Entering, Routed, filled, State, Limits, Stuck, Long, refused_in, outer_of, run, turn, is_full}
use Rattle.mj_expr.specs.Reads.{HasNoBinary, HasNoComma, HasNoClose, HasNoCaret, HasNoName}
use Rattle.mj_expr.specs.Readers.{IsWhole, IsLeft, behind_actual, and_actual}
use Rattle.mj_expr.proofs.Facts.{full_same}
use Rattle.mj_expr.proofs.Steps.{given_goes, given_closes, given_refuses, omitted_goes, omitted_closes}

-- ---- entries

pub some_whole : (label : Option (List ℕ)) (word : List ℕ) (ks : List Symbol) → IsWhole label (Some word) ks
some_whole None word ks = tt
some_whole (Some l) word ks = tt

pub caret_enters : (m : Limits) (ks : List Symbol) (label : Option (List ℕ)) (c : Within) → run m (Mark Caret ∷ ks) (Entering label None c) ≡ run m ks (Routed label c)
caret_enters m ks None c = refl
caret_enters m ks (Some l) c = refl

-- no routine stands behind its `^`
pub routed_refuses : (m l : Limits) (label : Option (List ℕ)) (c : Within) (ks : List Symbol) (full : Bool) → l.width ≡ m.width → is_full l (outer_of c) ≡ full → HasNoName ks →
    run m ks (Routed label c) ≡ refused_in full ks
routed_refuses m l label c [] full w e h = refl
routed_refuses m l label c (Name v ∷ ks) full w e h = absurd h
routed_refuses m l label c (Constant v ∷ ks) full w e h = refl
routed_refuses m l label c (Inherent v ∷ ks) full w e h = refl
routed_refuses m l label c (Applied v ∷ ks) full w e h = refl
routed_refuses m l label c (Entry v ∷ ks) full w e h = refl
routed_refuses m l label c (Overlong ∷ ks) full w e h = refl
routed_refuses m l label c (Other ∷ ks) full w e h = refl
routed_refuses m l label c (Mark Comma ∷ ks) full w e h =
    ap (λ (b : Bool). turn m ks (Routed label c) (Mark Comma) (cond b Long Stuck)) (sym (full_same m l (outer_of c) w) ∙ e) ∙ stray_as full
  where
    stray_as : (b : Bool) → turn m ks (Routed label c) (Mark Comma) (cond b Long Stuck) ≡ refused_in b (Mark Comma ∷ ks)
    stray_as true = refl
    stray_as false = refl
routed_refuses m l label c (Mark s ∷ ks) full w e h = refl

-- neither a label nor a routine stands behind `$$`
pub dollars_refuse : (m l : Limits) (c : Within) (ks : List Symbol) (full : Bool) → l.width ≡ m.width → is_full l (outer_of c) ≡ full → HasNoCaret ks →
    run m ks (Entering None None c) ≡ refused_in full ks
dollars_refuse m l c [] full w e h = refl
dollars_refuse m l c (Constant v ∷ ks) full w e h = refl
dollars_refuse m l c (Inherent v ∷ ks) full w e h = refl
dollars_refuse m l c (Name v ∷ ks) full w e h = refl
dollars_refuse m l c (Applied v ∷ ks) full w e h = refl
dollars_refuse m l c (Entry v ∷ ks) full w e h = refl
dollars_refuse m l c (Overlong ∷ ks) full w e h = refl
dollars_refuse m l c (Other ∷ ks) full w e h = refl
dollars_refuse m l c (Mark Caret ∷ ks) full w e h = absurd h
dollars_refuse m l c (Mark Comma ∷ ks) full w e h =
    ap (λ (b : Bool). turn m ks (Entering None None c) (Mark Comma) (cond b Long Stuck)) (sym (full_same m l (outer_of c) w) ∙ e) ∙ stray_as full
  where
    stray_as : (b : Bool) → turn m ks (Entering None None c) (Mark Comma) (cond b Long Stuck) ≡ refused_in b (Mark Comma ∷ ks)
    stray_as true = refl
    stray_as false = refl
dollars_refuse m l c (Mark s ∷ ks) full w e h = refl

-- ---- actuals

pub actual_goes : (m : Limits) (ks : List Symbol) (t : EntryAt) (es : Actuals) (c : Within) (o : Option Expr) →
    run m (Mark Comma ∷ ks) (behind_actual t es c o) ≡ run m ks (Wanted (Front (InActuals t (and_actual es o) c)))
actual_goes m ks t es c None = omitted_goes m ks t es c
actual_goes m ks t es c (Some e) = given_goes m ks t es e c

pub actual_closes : (m : Limits) (ks : List Symbol) (t : EntryAt) (es : Actuals) (c : Within) (o : Option Expr) →
    run m (Mark Close ∷ ks) (behind_actual t es c o) ≡ run m ks (filled (Extrinsic t (and_actual es o)) c)
actual_closes m ks t es c None = omitted_closes m ks t es c
actual_closes m ks t es c (Some e) = given_closes m ks t es e c

pub actual_refuses : (m : Limits) (ks : List Symbol) (t : EntryAt) (es : Actuals) (c : Within) (o : Option Expr) → IsLeft o ks → HasNoComma ks → HasNoClose ks →
    run m ks (behind_actual t es c o) ≡ refused_in false ks
actual_refuses m ks t es c None h i j = absurd (h i j)
actual_refuses m ks t es c (Some e) h i j = given_refuses m ks t es e c h i j
