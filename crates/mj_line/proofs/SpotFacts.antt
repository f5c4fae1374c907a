-- What is known of a step from a spot, where a phrase may begin.
use Rattle.std.proofs.Common.{◌≡◌, ◌≤◌, List, [], ◌∷◌, ◌++◌, refl, ap, sym, ◌∙◌, subst, Bool, true, false, Option, Some, None}
use Rattle.std.specs.Prelude.{cond}
use Rattle.mj_ast.specs.declared.sign.Sign.{Sign}
use Rattle.mj_ast.specs.declared.sign.Sign.TheVariants.{Caret, Open}
use Rattle.mj_ast.specs.declared.keyword.Verb.{Verb}
use Rattle.mj_ast.specs.Syntax.{Expr}
use Rattle.mj_ast.specs.Tokens.{Token}
use Rattle.mj_ast.specs.Expressions.{Symbol, Constant, Inherent, Name, Applied, Entry, Overlong, Mark, symbol, Other}
use Rattle.mj_ast.specs.Commands.{Part}
use Rattle.mj_oper.specs.declared.op.UnaryOp.{UnaryOp}
use Rattle.mj_expr.specs.Machine.{Limits}
use Rattle.mj_expr.specs.Machine as phrase
use Rattle.mj_expr.proofs.Room.{HasRead, sofar, IsGood}
use Rattle.mj_expr.proofs.Facts.{IsMore, deeper, more_deeper}
use Rattle.mj_expr.proofs.Facts as known
use Rattle.mj_expr.proofs.States.{step_facts}
use Rattle.mj_line.specs.Forms.{Node, Want, AnExpr, AVar, ALocal}
use Rattle.mj_line.specs.Sentences.{Sentence}
use Rattle.mj_line.specs.Machine.{Spot, Goal, Condition, Argument, State, At, In, start, wanted, may_want, may_begin, level, inside, entry, Next, Go, Stuck, Deep, Long, first, spot_step, behind_step, phrase_step, in_step, entering, step}
use Rattle.mj_line.proofs.Leaves.{Begun, kind, entry_leads, EntryLeads}
use Rattle.mj_line.proofs.SpotLeaves.{NextLeads, spot_leads}
use Rattle.mj_line.proofs.Good.{SpotGood, NextGood, spot_good, goal_more, inside_more, level_small, entry_good, EntryGood}
use Rattle.mj_line.proofs.Facts.{HasRoom, Facts, FactsAt, phrase_leads, plain_step, inside_deeper, in_facts}

-- ---- where a phrase begins

go_long : (s : phrase.State) → phrase.Go s ≡ phrase.Long → ⊥
go_long s e = cc

stuck_long : phrase.Stuck ≡ phrase.Long → ⊥
stuck_long e = cc

opens_long : (b : Bool) (s : phrase.State) → cond b (phrase.Go s) phrase.Deep ≡ phrase.Long → ⊥
opens_long true s e = go_long s e
opens_long false s e = absurd (let f : phrase.Deep ≡ phrase.Long = e in cc)

sign_long : (m : Limits) (s : Sign) → phrase.want_other m (phrase.Front phrase.Alone) s ≡ phrase.Long → ⊥
sign_long m Caret e = go_long _ e
sign_long m Open e = opens_long _ _ e
sign_long m s e = stuck_long e

unary_long : (m : Limits) (s : Sign) (q : Option UnaryOp) → phrase.want_sign m (phrase.Front phrase.Alone) s q ≡ phrase.Long → ⊥
unary_long m s (Some op) e = opens_long _ _ e
unary_long m s None e = sign_long m s e

-- no list is open there, so that none is too long
pub wanted_long : (m : Limits) (x : Symbol) → phrase.want m (phrase.Front phrase.Alone) x ≡ phrase.Long → ⊥
wanted_long m (Constant v) e = go_long _ e
wanted_long m (Inherent v) e = go_long _ e
wanted_long m (Name w) e = go_long _ e
wanted_long m (Applied f) e = opens_long _ _ e
wanted_long m (Entry label) e = go_long _ e
wanted_long m Overlong e = stuck_long e
wanted_long m (Mark s) e = unary_long m s (phrase.unary_of s) e
wanted_long m Other e = stuck_long e

sought_long : (x : Symbol) → phrase.seek phrase.AsTarget x ≡ phrase.Long → ⊥
sought_long (Name w) e = go_long _ e
sought_long (Mark Caret) e = go_long _ e
sought_long x e = stuck_long e

want_long : (m : Limits) (w : Want) (x : Symbol) → phrase.step m (wanted w) x ≡ phrase.Long → ⊥
want_long m (AnExpr lv next) x e = wanted_long m x e
want_long m (AVar lv next) x e = sought_long x e
want_long m (ALocal next) x e = sought_long x e

pub start_long : (m : Limits) (g : Goal) (x : Symbol) → phrase.step m (start g) x ≡ phrase.Long → ⊥
start_long m (Condition l k) x e = wanted_long m x e
start_long m (Argument l condition k done w) x e = want_long m w x e

want_finish : (w : Want) → phrase.finish (wanted w) [] ≡ phrase.StuckAt 0
want_finish (AnExpr lv next) = refl
want_finish (AVar lv next) = refl
want_finish (ALocal next) = refl

-- where a phrase begins, none is whole
pub start_finish : (g : Goal) → phrase.finish (start g) [] ≡ phrase.StuckAt 0
start_finish (Condition l k) = refl
start_finish (Argument l condition k done w) = want_finish w

pub start_stuck : (g : Goal) (k : Token) → behind_step g (phrase.finish (start g) []) k ≡ Stuck
start_stuck g k = ap (λ (o : phrase.Outcome). behind_step g o k) (start_finish g)

-- ---- spots

want_sofar : (w : Want) → sofar (wanted w) ≡ []
want_sofar (AnExpr lv next) = refl
want_sofar (AVar lv next) = refl
want_sofar (ALocal next) = refl

start_sofar : (g : Goal) → sofar (start g) ≡ []
start_sofar (Condition l k) = refl
start_sofar (Argument l condition k done w) = want_sofar w

stuck_go : (t : phrase.State) → phrase.Stuck ≡ phrase.Go t → ⊥
stuck_go t e = cc

sought_begins : (l : Sentence) (condition : Option Expr) (k : Verb) (done : List Part) (next : Node) (x : Symbol) (t : phrase.State) →
    may_want (ALocal next) x ≡ true → phrase.seek phrase.AsTarget x ≡ phrase.Go t → Begun (Argument l condition k done (ALocal next)) (x ∷ [])
sought_begins l condition k done next (Name word) t b e = tt
sought_begins l condition k done next (Mark Caret) t b e = absurd (let f : false ≡ true = b in cc)
sought_begins l condition k done next x t b e = absurd (stuck_go t e)

want_begins : (m : Limits) (l : Sentence) (condition : Option Expr) (k : Verb) (done : List Part) (w : Want) (x : Symbol) (t : phrase.State) →
    may_want w x ≡ true → phrase.step m (wanted w) x ≡ phrase.Go t → Begun (Argument l condition k done w) (x ∷ [])
want_begins m l condition k done (AnExpr lv next) x t b e = tt
want_begins m l condition k done (AVar lv next) x t b e = tt
want_begins m l condition k done (ALocal next) x t b e = sought_begins l condition k done next x t b e

-- a phrase for a local begins with a name, where it may begin so
start_begins : (m : Limits) (g : Goal) (x : Symbol) (t : phrase.State) → may_begin g x ≡ true → phrase.step m (start g) x ≡ phrase.Go t → Begun g (x ∷ [])
start_begins m (Condition l k) x t b e = tt
start_begins m (Argument l condition k done w) x t b e = want_begins m l condition k done w x t b e

-- the first symbol of a phrase
start_begun : (m : Limits) (g : Goal) (x : Symbol) (t : phrase.State) → may_begin g x ≡ true → phrase.step m (start g) x ≡ phrase.Go t → sofar t ≡ sofar (start g) ++ x ∷ [] → Begun g (sofar t)
start_begun m g x t b e h = let P : List Symbol → Type 0 = λ ks. Begun g ks in subst P (sym (h ∙ ap (λ (ks : List Symbol). ks ++ x ∷ []) (start_sofar g))) (start_begins m g x t b e)

stuck_deep : phrase.Stuck ≡ phrase.Deep → ⊥
stuck_deep e = cc

go_deep : (t : phrase.State) → phrase.Go t ≡ phrase.Deep → ⊥
go_deep t e = cc

sought_deep : (x : Symbol) → phrase.seek phrase.AsTarget x ≡ phrase.Deep → ⊥
sought_deep (Name word) e = go_deep _ e
sought_deep (Mark Caret) e = go_deep _ e
sought_deep x e = stuck_deep e

want_deep : (m : Limits) (l : Sentence) (condition : Option Expr) (k : Verb) (done : List Part) (w : Want) (x : Symbol) (ks : List Symbol) →
    phrase.step m (wanted w) x ≡ phrase.Deep → Begun (Argument l condition k done w) ks
want_deep m l condition k done (AnExpr lv next) x ks e = tt
want_deep m l condition k done (AVar lv next) x ks e = tt
want_deep m l condition k done (ALocal next) x ks e = absurd (sought_deep x e)

-- no symbol that begins a local opens a level
start_deep : (m : Limits) (g : Goal) (x : Symbol) (ks : List Symbol) → phrase.step m (start g) x ≡ phrase.Deep → Begun g ks
start_deep m (Condition l k) x ks e = tt
start_deep m (Argument l condition k done w) x ks e = want_deep m l condition k done w x ks e

start_read : (m : Limits) (g : Goal) → EntryGood m (Some g) → HasRead (kind g) (inside m (level g)) (start g) (sofar (start g))
start_read m g h = record { good = h.1; read = refl }

-- the step of the beginning of a phrase is that of its spot
begins_as : (m : Limits) (p : Spot) (g : Goal) (k : Token) (n : phrase.Next) → 1 ≤ m.depth →
    ((l : Limits) → IsMore m l → step l (At p) k ≡ in_step l g (start g) k) → EntryLeads p (Some g) → (SpotGood m p → EntryGood m (Some g)) →
    may_begin g (symbol k) ≡ true → phrase.step (inside m (level g)) (start g) (symbol k) ≡ n →
    known.Facts (kind g) (inside m (level g)) (HasRead (kind g) (inside m (level g)) (start g))
    (known.LongFacts (kind g) (inside m (level g)) (HasRead (kind g) (inside m (level g)) (start g)) (start g) (symbol k))
    (λ l. phrase.step l (start g) (symbol k)) (symbol k) n →
    Facts m (At p) k (λ l. step l (At p) k) (phrase_step g (start g) k n)
begins_as m p g k (phrase.Go t) d e h i b s f = (
  λ z.
      let a = i z in
      let r = f.0 (sofar (start g)) (start_read m g a) in
      (λ rest l x. h (k ∷ rest) l (phrase_leads g (start g) t (k ∷ []) r.read rest l x), (a.0, r.good, start_begun (inside m (level g)) g (symbol k) t b s r.read)),
  λ l z. e l z ∙ ap (phrase_step g (start g) k) (f.1 (inside l (level g)) (inside_more m l (level g) z)),
)
begins_as m p g k phrase.Stuck d e h i b s f =
    let P : Next → Type 0 = λ x. Facts m (At p) k (λ l. step l (At p) k) x in
    subst P (sym (start_stuck g k)) (λ l z. e l z ∙ ap (phrase_step g (start g) k) (f (inside l (level g)) (inside_more m l (level g) z)) ∙ start_stuck g k)
begins_as m p g k phrase.Deep d e h i b s f = λ z.
    let a = i z in
    let r = f.1 (sofar (start g)) (start_read m g a) in
    let P : Limits → Type 0 = λ l. IsGood (kind g) l f.0 in (
      In g f.0,
      λ rest l x. h (k ∷ rest) l (phrase_leads g (start g) f.0 (k ∷ []) r.read rest l x),
      (
        goal_more m (deeper (symbol k) m) g (more_deeper (symbol k) m) a.0,
        subst P (inside_deeper m (symbol k) (level g) (level_small m g a.0) d) r.good,
        start_deep (inside m (level g)) g (symbol k) (sofar f.0) s,
      ),
    )
begins_as m p g k phrase.Long d e h i b s f = absurd (start_long (inside m (level g)) g (symbol k) s)

-- where a phrase may begin so, or may not
entered_by : (m : Limits) (p : Spot) (g : Goal) (k : Token) (b : Bool) → may_begin g (symbol k) ≡ b → entry p ≡ Some g → spot_step p k ≡ Stuck →
    EntryLeads p (Some g) → (SpotGood m p → EntryGood m (Some g)) → HasRoom m → Facts m (At p) k (λ l. step l (At p) k) (cond b (in_step m g (start g) k) Stuck)
entered_by m p g k true b e s h i w =
    begins_as m p g k (phrase.step (inside m (level g)) (start g) (symbol k)) w.depth
    (λ l j. ap (λ (n : Next). first n (entering l (entry p) k)) s ∙ ap (λ (q : Option Goal). entering l q k) e ∙ ap (λ (x : Bool). cond x (in_step l g (start g) k) Stuck) b)
    h i b refl (step_facts (kind g) (inside m (level g)) (start g) (symbol k) w.width)
entered_by m p g k false b e s h i w = λ l j. ap (λ (n : Next). first n (entering l (entry p) k)) s ∙ ap (λ (q : Option Goal). entering l q k) e ∙
    ap (λ (x : Bool). cond x (in_step l g (start g) k) Stuck) b

-- where the spot doesn't go on, a phrase begins or nothing does
entered : (m : Limits) (p : Spot) (k : Token) (q : Option Goal) → entry p ≡ q → spot_step p k ≡ Stuck → EntryLeads p q → (SpotGood m p → EntryGood m q) →
    HasRoom m → Facts m (At p) k (λ l. step l (At p) k) (entering m q k)
entered m p k None e s h i w = λ l j. plain_step l p k e ∙ s
entered m p k (Some g) e s h i w = entered_by m p g k (may_begin g (symbol k)) refl e s h i w

spot_as : (m : Limits) (p : Spot) (k : Token) (n : Next) → HasRoom m → spot_step p k ≡ n → NextLeads p k n → (SpotGood m p → NextGood m n) →
    Facts m (At p) k (λ l. step l (At p) k) (first n (entering m (entry p) k))
spot_as m p k (Go t) w e h g = (λ i. (h, g i), λ l i. ap (λ (n : Next). first n (entering l (entry p) k)) e)
spot_as m p k Stuck w e h g = entered m p k (entry p) refl e (entry_leads p) (entry_good m p) w
spot_as m p k Deep w e h g = absurd h
spot_as m p k Long w e h g = absurd h

-- ---- any state

pub step_known : (m : Limits) (s : State) (k : Token) → HasRoom m → FactsAt m s k
step_known m (At p) k w = spot_as m p k (spot_step p k) w refl (spot_leads p k) (λ h. spot_good m p k h)
step_known m (In g s) k w = in_facts m g s k w
