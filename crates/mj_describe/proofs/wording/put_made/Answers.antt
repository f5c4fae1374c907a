use Rattle.std.proofs.Common.{◌≡◌, ℕ, Bool, true, false, List, [], ◌∷◌, ◌++◌, ◌==◌, codes, refl, ap, sym, eqb-true, if◌then◌else◌}
use Rattle.mj_describe.specs.Words.{where_text, made_text}
use Rattle.mj_describe.proofs.Putting.{put_on, put_last}
use Rattle.mj_describe.proofs.wording.put_made.Goals as goal

differ : (a b : ℕ) → (a ≡ b → ⊥) → (a == b) ≡ false
differ a b apart = by (a == b) refl
  where
    by : (is : Bool) → (a == b) ≡ is → is ≡ false
    by true q = absurd (apart (eqb-true a b q))
    by false q = refl

pub returns : goal.returns
returns c =
    let s = c.args.shown.now in
    let l = c.args.landing in
    let b = c.args.bytes.now.items in
    let p1 : List ℕ = codes ", which changed that by the commit at " in
    let p2 : List ℕ = p1 ++ where_text s l.made in
    let h2 : c.put_where.new.bytes.items ≡ b ++ p2 =
    put_on b c.put-2.new.bytes.items p1 c.put_where.new.bytes.items (where_text s l.made) c.in_ok-put.ensures c.in_ok-put_where.ensures in
    put_last c.put-3.result b c.put_where.new.bytes.items p2 c.put-3.new.bytes.items (46 ∷ []) (made_text s l) h2
    (sym (ap (λ (is : Bool). if is then codes ", which changed that at once." else p2 ++ 46 ∷ []) (differ l.made l.write c.if-landing.false)))
    c.put-3.ensures
