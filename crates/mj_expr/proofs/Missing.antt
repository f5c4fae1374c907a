-- Where an operand is wanted, and none begins.
use Rattle.std.proofs.Common.{◌≡◌, List, ◌∷◌, refl, ap, sym, ◌∙◌, Bool, true, false}
use Rattle.std.specs.Prelude.{cond}
use Rattle.mj_ast.specs.declared.sign.Sign.TheVariants.{Plus, Minus, Apostrophe, Caret, Open, Close, Comma}
use Rattle.mj_ast.specs.Expressions.{Symbol, Constant, Inherent, Name, Applied, Entry, Overlong, Mark, Other}
use Rattle.mj_expr.specs.Machine.{Alone, InGroup, InList, InOther, InCondition, InChoice, InActuals, Within, Front, Right, Under, Wanted, Limits, Stuck, Long, comma_at, close_at, stray_comma, refused_in, outer_of, run, turn, is_full}
use Rattle.mj_expr.specs.Reads.{BeginsNone}
use Rattle.mj_expr.specs.Readers.{IsWanted}
use Rattle.mj_expr.proofs.Facts.{none_some, full_same}

-- where no actual is left out, a comma and a `)` are as anywhere where an operand is wanted
comma_strays : (m : Limits) (c : Within) (ks : List Symbol) → IsWanted c (Mark Comma ∷ ks) → comma_at m c ≡ stray_comma m (outer_of c)
comma_strays m (Front Alone) ks h = refl
comma_strays m (Front (InGroup c)) ks h = refl
comma_strays m (Front (InList u es)) ks h = refl
comma_strays m (Front (InOther f v c)) ks h = refl
comma_strays m (Front (InCondition ps c)) ks h = refl
comma_strays m (Front (InChoice ps a c)) ks h = refl
comma_strays m (Front (InActuals t es c)) ks h = absurd h.0
comma_strays m (Right x r op o) ks h = refl
comma_strays m (Under op c) ks h = refl

close_strays : (c : Within) (ks : List Symbol) → IsWanted c (Mark Close ∷ ks) → close_at c ≡ Stuck
close_strays (Front Alone) ks h = refl
close_strays (Front (InGroup c)) ks h = refl
close_strays (Front (InList u es)) ks h = refl
close_strays (Front (InOther f v c)) ks h = refl
close_strays (Front (InCondition ps c)) ks h = refl
close_strays (Front (InChoice ps a c)) ks h = refl
close_strays (Front (InActuals t es c)) ks h = absurd h.1
close_strays (Right x r op o) ks h = refl
close_strays (Under op c) ks h = refl

-- where an operand is wanted, and none begins
pub none_refuses : (m l : Limits) (c : Within) (k : Symbol) (ks : List Symbol) (full : Bool) → l.width ≡ m.width → is_full l (outer_of c) ≡ full → IsWanted c (k ∷ ks) →
    BeginsNone k → run m (k ∷ ks) (Wanted c) ≡ refused_in full (k ∷ ks)
none_refuses m l c (Constant v) ks full w e g h = absurd h
none_refuses m l c (Inherent v) ks full w e g h = absurd h
none_refuses m l c (Name v) ks full w e g h = absurd h
none_refuses m l c (Applied v) ks full w e g h = absurd h
none_refuses m l c (Entry v) ks full w e g h = absurd h
none_refuses m l c Overlong ks full w e g h = refl
none_refuses m l c Other ks full w e g h = refl
none_refuses m l c (Mark Caret) ks full w e g h = absurd h
none_refuses m l c (Mark Open) ks full w e g h = absurd h
none_refuses m l c (Mark Close) ks full w e g h = ap (turn m ks (Wanted c) (Mark Close)) (close_strays c ks g)
none_refuses m l c (Mark Comma) ks full w e g h =
    ap (turn m ks (Wanted c) (Mark Comma)) (comma_strays m c ks g)
    ∙ ap (λ (b : Bool). turn m ks (Wanted c) (Mark Comma) (cond b Long Stuck)) (sym (full_same m l (outer_of c) w) ∙ e) ∙ stray_as full
  where
    stray_as : (b : Bool) → turn m ks (Wanted c) (Mark Comma) (cond b Long Stuck) ≡ refused_in b (Mark Comma ∷ ks)
    stray_as true = refl
    stray_as false = refl
none_refuses m l c (Mark Plus) ks full w e g h = absurd (none_some _ (sym h))
none_refuses m l c (Mark Minus) ks full w e g h = absurd (none_some _ (sym h))
none_refuses m l c (Mark Apostrophe) ks full w e g h = absurd (none_some _ (sym h))
none_refuses m l c (Mark s) ks full w e g h = refl
