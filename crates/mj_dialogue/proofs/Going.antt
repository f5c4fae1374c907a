-- Steps in turn, told one behind the other.
use Rattle.std.proofs.Common.{◌≡◌, ℕ, suc, ◌+◌, ◌<◌, ◌==◌, Bool, true, false, List, [], ◌++◌, Option, Some, None, refl, sym, ap, ◌∙◌, subst, inl, inr, append_assoc, append-nil, arith}
use Rattle.std.specs.Io.KnownBytes.{Appends}
use Rattle.mj_sys.specs.Shared.{Shared}
use Rattle.mj_debug.specs.declared.debugger.Gone.{Gone}
use Rattle.mj_debug.specs.Walks.{Walk}
use Rattle.mj_dialogue.specs.Says.{AnswersGo, GoTells, AreMade, is_full_at, is_made}

-- ---- what is written

pub appends_none : (out : Option (List ℕ)) → Appends out out []
appends_none None = tt
appends_none (Some bytes) = sym (append-nil bytes)

pub appends_more : (old mid new : Option (List ℕ)) (first then : List ℕ) → Appends old mid first → Appends mid new then → Appends old new (first ++ then)
appends_more None mid new first then a b = tt
appends_more (Some xs) None new first then a b = absurd a
appends_more (Some xs) (Some ys) None first then a b = absurd b
appends_more (Some xs) (Some ys) (Some zs) first then a b =
    b ∙ ap (λ (l : List ℕ). l ++ then) a ∙ append_assoc xs first then

-- ---- what is told

-- one step more was made
pub made_more : (opening : Shared) (made : ℕ) (old mid new : Walk) (told line : List ℕ) (gone : Gone)
    → AreMade opening made old told mid → GoTells opening mid (made == 0) gone line new → is_made gone ≡ true
    → AreMade opening (made + 1) old (told ++ line) new
made_more opening made old mid new told line gone before tells on =
    let next : suc made ≡ made + 1 = omega arith in
    subst (λ (n : ℕ). AreMade opening n old (told ++ line) new) next (mid, told, before, (gone, line, tells, on, refl))

-- all were made
pub goes_all : (opening : Shared) (made count : ℕ) (old new : Walk) (told : List ℕ)
    → AreMade opening made old told new → made ≡ count → AnswersGo opening count old told false new
goes_all opening made count old new told before all =
    inl (subst (λ (n : ℕ). AreMade opening n old told new) all before, refl)

-- one that isn't made is the last
pub goes_last : (opening : Shared) (made count : ℕ) (old mid new : Walk) (told line : List ℕ) (gone : Gone) (full : Bool)
    → AreMade opening made old told mid → made < count → GoTells opening mid (made == 0) gone line new → is_made gone ≡ false → full ≡ is_full_at gone
    → AnswersGo opening count old (told ++ line) full new
goes_last opening made count old mid new told line gone full before fewer tells off is =
    inr (made, fewer, (mid, told, before, (gone, line, tells, off, refl, is)))
