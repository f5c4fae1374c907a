-- What a trace says of an entry in its midst.
use Rattle.std.proofs.Common.{◌≡◌, ◌⊎◌, inl, inr, ℕ, List, [], ◌∷◌, ◌++◌, refl, subst}
use Rattle.std.specs.Prelude.{IsTrue}
use Rattle.mj_ask.specs.declared.ask.Ask.{Ask}
use Rattle.mj_ask.specs.declared.ask.Reply.{Reply}
use Rattle.mj_ask.specs.Fits.{fits}
use Rattle.mj_semantics.specs.Program.{Program}
use Rattle.mj_semantics.specs.State.{Locals, Place}
use Rattle.mj_semantics.specs.Outcome.{Needs}
use Rattle.mj_semantics.specs.Job.{Start, next}
use Rattle.mj_jobvm.specs.Run.{Log, replies_of, IsTrace, begins, goes_on}

no_end : {X : Type 0} (front : List X) (y : X) (back : List X) → [] ≡ front ++ y ∷ back → ⊥
no_end [] y back e = cc
no_end (f ∷ front) y back e = cc

tails : {X : Type 0} (x y : X) (xs ys : List X) → x ∷ xs ≡ y ∷ ys → (x ≡ y) × (xs ≡ ys)
tails x y xs ys e = (cc, cc)

-- an element in the midst of a list is its last one, or stands in the midst of all before that
cut : {X : Type 0} (xs : List X) (x : X) (front : List X) (y : X) (back : List X) → xs ++ x ∷ [] ≡ front ++ y ∷ back
    → ((xs ≡ front) × (x ≡ y)) ⊎ ((rest : List X) × (xs ≡ front ++ y ∷ rest))
cut [] x [] y back e = inl (refl, (tails x y [] back e).0)
cut [] x (f ∷ front) y back e = absurd (no_end front y back (tails x f [] (front ++ y ∷ back) e).1)
cut (z ∷ zs) x [] y back e = let p : z ≡ y = (tails z y (zs ++ x ∷ []) back e).0 in inr (zs, λ i. p i ∷ zs)
cut {X} (z ∷ zs) x (f ∷ front) y back e = by (cut zs x front y back p.1)
  where
    p : (z ≡ f) × (zs ++ x ∷ [] ≡ front ++ y ∷ back)
    p = tails z f (zs ++ x ∷ []) (front ++ y ∷ back) e

    by : ((zs ≡ front) × (x ≡ y)) ⊎ ((rest : List X) × (zs ≡ front ++ y ∷ rest)) → ((z ∷ zs ≡ f ∷ front) × (x ≡ y)) ⊎ ((rest : List X) × (z ∷ zs ≡ f ∷ (front ++ y ∷ rest)))
    by (inl q) = inl (λ i. p.0 i ∷ q.0 i, q.1)
    by (inr q) = inr (q.0, λ i. p.0 i ∷ q.1 i)

-- after the replies before it a job asks this, and the reply fits it
pub record Makes (program : Program) (start : Start) (front : Log) (a : Ask) (r : Reply) : Type 0 where
  pub turns : ℕ
  pub locals : Locals
  pub at : List Place
  pub needs : next program start turns (replies_of front) ≡ Needs a locals at
  pub fit : IsTrue (fits a r)

made : (program : Program) (start : Start) (log front : Log) (x y : Ask × Reply) → log ≡ front → x ≡ y → Makes program start log x.0 x.1 → Makes program start front y.0 y.1
made program start log front x y p q m =
    let P : Log → Type 0 = λ l. Makes program start l x.0 x.1 in
    let Q : Ask × Reply → Type 0 = λ z. Makes program start front z.0 z.1 in
    subst Q q (subst P p m)

pub makes : (program : Program) (start : Start) (log : Log) → IsTrace program start log → (front back : Log) (a : Ask) (r : Reply) → log ≡ front ++ (a, r) ∷ back → Makes program start front a r
makes program start _ begins front back a r e = absurd (no_end front (a, r) back e)
makes program start _ (goes_on log b q n locals at trace needs fit small) front back a r e = by (λ rest p. makes program start log trace front rest a r p) (cut log (b, q) front (a, r) back e)
  where
    by : ((rest : Log) → log ≡ front ++ (a, r) ∷ rest → Makes program start front a r) → ((log ≡ front) × (◌≡◌ {A = Ask × Reply} (b, q) (a, r))) ⊎ ((rest : Log) × (log ≡ front ++ (a, r) ∷ rest))
        → Makes program start front a r
    by earlier (inl p) = made program start log front (b, q) (a, r) p.0 p.1 (record { turns = n; locals = locals; at = at; needs = needs; fit = fit })
    by earlier (inr p) = earlier p.0 p.1
