-- No file is read and refused, and one that is refused is so for one reason.
use Rattle.std.proofs.Common.{◌≡◌, ℕ, ◌+◌, ◌≤◌, ◌<◌, List, [], ◌∷◌, ◌++◌, length, take, drop, refl, ap, sym, ◌∙◌, subst, arith, append_assoc, length-append, ◌⊎◌, inl, inr, Option, Some, None}
use Rattle.std.proofs.lemmas.Bool.{cases_lt}
use Rattle.std.proofs.lemmas.List.{take-append-drop, take-append-le, length-take, take_all}
use Rattle.mj_ast.specs.Syntax.{Line, Routine}
use Rattle.mj_ast.specs.Tokens.{Token, tokens, column}
use Rattle.mj_ast.specs.Expressions.{depth_limit, width_limit}
use Rattle.mj_ast.specs.Lines.{SpellsLine, IsLineWithin, BeginsLine, BeginsLineWithin, IsStuck, IsDeep, HasLabelOf}
use Rattle.mj_ast.specs.LeftOut.{IsFirstOf, IsNamed, IsNamedIn, IsNamedAt, IsStuckOn, rows}
use Rattle.mj_ast.specs.Routines.{lines_of, IsName, IsRefusalOfLine}
use Rattle.mj_ast.specs.Routines as grammar
use Rattle.mj_ast.specs.declared.construct.Construct.{Construct}
use Rattle.mj_rou.specs.Read.{IsLineRead, labels_of, AreApart, AreRead, IsRoutineRead, IsFirst, IsTooMany, IsRoutineRefused}
use Rattle.mj_rou.specs.Laws.{RefusalTold, NoName, At, Nothing, refusal_told}
use Rattle.mj_rou.specs.declared.error.LoadError.{LoadError}
use Rattle.mj_rou.specs.declared.error.LoadError.TheVariants as load

-- ---- places of a line

take_fewer : (j k : ℕ) (ks : List Token) → j ≤ k → take j (take k ks) ≡ take j ks
take_fewer j k ks h = by (cases_lt k (length ks))
  where
    by : (k < length ks) ⊎ (length ks ≤ k) → take j (take k ks) ≡ take j ks
    by (inl l) =
        sym (take-append-le j (take k ks) (drop k ks) (omega (arith, length-take k ks))) ∙ ap (take j) (take-append-drop k ks)
    by (inr l) = ap (take j) (take_all k ks l)

-- what begins a line begins one up to each place before
begun : (j k : ℕ) (ks : List Token) → j ≤ k → BeginsLine (take k ks) → BeginsLine (take j ks)
begun j k ks h b =
    let front = take j (take k ks) in
    let behind = drop j (take k ks) in
    let cut : take k ks ++ b.rest ≡ front ++ (behind ++ b.rest) = ap (λ (xs : List Token). xs ++ b.rest) (sym (take-append-drop j (take k ks))) ∙ append_assoc front behind b.rest in
    let P : List Token → Type 0 = λ xs. SpellsLine xs b.line in
    let Q : List Token → Type 0 = λ xs. BeginsLine xs in
    subst Q (take_fewer j k ks h) (record { rest = behind ++ b.rest; line = b.line; spells = subst P cut b.spells })

begun_within : (depth width j k : ℕ) (ks : List Token) → j ≤ k → BeginsLineWithin depth width (take k ks) → BeginsLineWithin depth width (take j ks)
begun_within depth width j k ks h b =
    let front = take j (take k ks) in
    let behind = drop j (take k ks) in
    let cut : take k ks ++ b.rest ≡ front ++ (behind ++ b.rest) = ap (λ (xs : List Token). xs ++ b.rest) (sym (take-append-drop j (take k ks))) ∙ append_assoc front behind b.rest in
    let P : List Token → Type 0 = λ xs. SpellsLine xs b.line in
    let Q : List Token → Type 0 = λ xs. BeginsLineWithin depth width xs in
    subst Q (take_fewer j k ks h) (record { rest = behind ++ b.rest; line = b.line; spells = subst P cut b.spells; within = b.within })

without_limits : (depth width : ℕ) (ks : List Token) → BeginsLineWithin depth width ks → BeginsLine ks
without_limits depth width ks b = record { rest = b.rest; line = b.line; spells = b.spells }

-- a line begins with each of its first tokens
begins_itself : (depth width k : ℕ) (ks : List Token) (l : Line) → SpellsLine ks l → IsLineWithin depth width l → BeginsLineWithin depth width (take k ks)
begins_itself depth width k ks l s w =
    let P : List Token → Type 0 = λ xs. SpellsLine xs l in
    record { rest = drop k ks; line = l; spells = subst P (sym (take-append-drop k ks)) s; within = w }

-- ---- one place

same_place : (j k : ℕ) → (j < k → ⊥) → (k < j → ⊥) → j ≡ k
same_place j k f g = by (cases_lt j k) (cases_lt k j)
  where
    by : (j < k) ⊎ (k ≤ j) → (k < j) ⊎ (j ≤ k) → j ≡ k
    by (inl h) i = absurd (f h)
    by (inr h) (inl i) = absurd (g i)
    by (inr h) (inr i) = omega arith

stuck_first : (ks : List Token) (j k : ℕ) → IsStuck ks j → IsStuck ks k → j < k → ⊥
stuck_first ks j k s t h =
    s.at (let i = t.inside in omega arith) (begun (j + 1) k ks (omega arith) (without_limits depth_limit width_limit (take k ks) t.before))

one_stuck : (ks : List Token) (j k : ℕ) → IsStuck ks j → IsStuck ks k → j ≡ k
one_stuck ks j k s t = same_place j k (stuck_first ks j k s t) (stuck_first ks k j t s)

deep_first : (ks : List Token) (j k : ℕ) → IsDeep ks j → IsDeep ks k → j < k → ⊥
deep_first ks j k s t h = s.beyond width_limit (begun_within depth_limit width_limit (j + 1) k ks (omega arith) t.before)

one_deep : (ks : List Token) (j k : ℕ) → IsDeep ks j → IsDeep ks k → j ≡ k
one_deep ks j k s t = same_place j k (deep_first ks j k s t) (deep_first ks k j t s)

-- where a line is stuck it isn't too deep
stuck_or_deep : (ks : List Token) (j k : ℕ) → IsStuck ks j → IsDeep ks k → ⊥
stuck_or_deep ks j k s d = by (cases_lt k j)
  where
    by : (k < j) ⊎ (j ≤ k) → ⊥
    by (inl h) = d.beyond width_limit (begun_within depth_limit width_limit (k + 1) j ks (omega arith) s.before)
    by (inr h) = s.at (let i = d.inside in omega arith) (begun (j + 1) (k + 1) ks (omega arith) d.at)

-- ---- one name

one_first : (rs : List Construct) (front : List Token) (t : Token) (behind : List Token) (c d : Option Construct) → IsFirstOf rs front t behind c → IsFirstOf rs front t behind d → c ≡ d
one_first [] front t behind c d h i = h ∙ sym i
one_first (r ∷ rs) front t behind c d (inl h) (inl i) = h.1 ∙ sym i.1
one_first (r ∷ rs) front t behind c d (inl h) (inr i) = absurd (i.0 h.0)
one_first (r ∷ rs) front t behind c d (inr h) (inl i) = absurd (h.0 i.0)
one_first (r ∷ rs) front t behind c d (inr h) (inr i) = one_first rs front t behind c d h.1 i.1

one_named : (front : List Token) (t : Token) (behind : List Token) (c d : Option Construct) → IsNamed front t behind c → IsNamed front t behind d → c ≡ d
one_named front t behind c d h i = one_first rows front t behind c d h i

one_name : (front behind : List Token) (c d : Option Construct) → IsNamedIn front behind c → IsNamedIn front behind d → c ≡ d
one_name front [] c d h i = h ∙ sym i
one_name front (t ∷ behind) c d h i = one_named front t behind c d h i

stuck_on : (line : List ℕ) (a b : ℕ) (c d : Option Construct) → IsStuckOn line a c → IsStuckOn line b d → (a ≡ b) × (c ≡ d)
stuck_on line a b c d h i =
    let same = one_stuck (tokens line) h.0.place i.0.place h.0.stuck i.0.stuck in
    let P : ℕ → Type 0 = λ k. IsNamedAt (tokens line) k c in (
      h.0.column_is ∙ ap (column line) same ∙ sym i.0.column_is,
      one_name (take i.0.place (tokens line)) (drop i.0.place (tokens line)) c d (subst P same h.1) i.1,
    )

none_or_some : (x : Construct) → None ≡ Some x → ⊥
none_or_some x e = cc

some_same : (x y : Construct) → Some x ≡ Some y → x ≡ y
some_same x y e = cc

-- ---- one reason of a line

one_refusal : (labels : List (List ℕ)) (line : List ℕ) (r s : grammar.LineRefusal) → IsRefusalOfLine labels line r → IsRefusalOfLine labels line s → r ≡ s
one_refusal labels line grammar.Long grammar.Long h i = refl
one_refusal labels line grammar.Long grammar.Twice h i = absurd (i.0 h)
one_refusal labels line grammar.Long (grammar.StuckAt c) h i = absurd (i.0 h)
one_refusal labels line grammar.Long (grammar.LeftOutAt c x) h i = absurd (i.0 h)
one_refusal labels line grammar.Long (grammar.DeepAt c) h i = absurd (i.0 h)
one_refusal labels line grammar.Twice grammar.Long h i = absurd (h.0 i)
one_refusal labels line grammar.Twice grammar.Twice h i = refl
one_refusal labels line grammar.Twice (grammar.StuckAt c) h i = absurd (i.1 h.1)
one_refusal labels line grammar.Twice (grammar.LeftOutAt c x) h i = absurd (i.1 h.1)
one_refusal labels line grammar.Twice (grammar.DeepAt c) h i = absurd (i.1 h.1)
one_refusal labels line (grammar.StuckAt c) grammar.Long h i = absurd (h.0 i)
one_refusal labels line (grammar.StuckAt c) grammar.Twice h i = absurd (h.1 i.1)
one_refusal labels line (grammar.StuckAt c) (grammar.StuckAt d) h i = ap grammar.StuckAt (stuck_on line c d None None h.2 i.2).0
one_refusal labels line (grammar.StuckAt c) (grammar.LeftOutAt d x) h i = absurd (none_or_some x (stuck_on line c d None (Some x) h.2 i.2).1)
one_refusal labels line (grammar.StuckAt c) (grammar.DeepAt d) h i = absurd (stuck_or_deep (tokens line) h.2.0.place i.2.place h.2.0.stuck i.2.deep)
one_refusal labels line (grammar.LeftOutAt c x) grammar.Long h i = absurd (h.0 i)
one_refusal labels line (grammar.LeftOutAt c x) grammar.Twice h i = absurd (h.1 i.1)
one_refusal labels line (grammar.LeftOutAt c x) (grammar.StuckAt d) h i = absurd (none_or_some x (stuck_on line d c None (Some x) i.2 h.2).1)
one_refusal labels line (grammar.LeftOutAt c x) (grammar.LeftOutAt d y) h i =
    let same = stuck_on line c d (Some x) (Some y) h.2 i.2 in
    ap (λ (k : ℕ). grammar.LeftOutAt k x) same.0 ∙ ap (grammar.LeftOutAt d) (some_same x y same.1)
one_refusal labels line (grammar.LeftOutAt c x) (grammar.DeepAt d) h i = absurd (stuck_or_deep (tokens line) h.2.0.place i.2.place h.2.0.stuck i.2.deep)
one_refusal labels line (grammar.DeepAt c) grammar.Long h i = absurd (h.0 i)
one_refusal labels line (grammar.DeepAt c) grammar.Twice h i = absurd (h.1 i.1)
one_refusal labels line (grammar.DeepAt c) (grammar.StuckAt d) h i = absurd (stuck_or_deep (tokens line) i.2.0.place h.2.place i.2.0.stuck h.2.deep)
one_refusal labels line (grammar.DeepAt c) (grammar.LeftOutAt d x) h i = absurd (stuck_or_deep (tokens line) i.2.0.place h.2.place i.2.0.stuck h.2.deep)
one_refusal labels line (grammar.DeepAt c) (grammar.DeepAt d) h i =
    let same = one_deep (tokens line) h.2.place i.2.place h.2.deep i.2.deep in
    ap grammar.DeepAt (h.2.column_is ∙ ap (column line) same ∙ sym i.2.column_is)

-- ---- what is read isn't refused

line_unrefused : (labels : List (List ℕ)) (line : List ℕ) (l : Line) (r : grammar.LineRefusal) → IsLineRead line l → (HasLabelOf labels (tokens line) → ⊥) → IsRefusalOfLine labels line r → ⊥
line_unrefused labels line l grammar.Long h a i = h.short i
line_unrefused labels line l grammar.Twice h a i = a i.1
line_unrefused labels line l (grammar.StuckAt c) h a i = i.2.0.stuck.whole l h.spells
line_unrefused labels line l (grammar.LeftOutAt c x) h a i = i.2.0.stuck.whole l h.spells
line_unrefused labels line l (grammar.DeepAt c) h a i =
    i.2.deep.beyond width_limit (begins_itself depth_limit width_limit (i.2.place + 1) (tokens line) l h.spells h.within)

read_at : (front : List (List ℕ)) (line : List ℕ) (behind : List (List ℕ)) (trees : List Line) → AreRead (front ++ line ∷ behind) trees → (l : Line) × IsLineRead line l
read_at [] line behind [] h = absurd h
read_at [] line behind (t ∷ ts) h = (t, h.0)
read_at (f ∷ fs) line behind [] h = absurd h
read_at (f ∷ fs) line behind (t ∷ ts) h = read_at fs line behind ts h.1

unrefused : (lines front behind : List (List ℕ)) (line : List ℕ) (trees : List Line) (r : grammar.LineRefusal) → lines ≡ front ++ line ∷ behind →
    AreRead lines trees → AreApart lines → IsRefusalOfLine (labels_of front) line r → ⊥
unrefused lines front behind line trees r e h a i =
    let P : List (List ℕ) → Type 0 = λ ls. AreRead ls trees in
    let tree = read_at front line behind trees (subst P e h) in
    line_unrefused (labels_of front) line tree.0 r tree.1 (a front line behind e) i

-- ---- the first of the lines

-- two cuts of a list are one, or one of them is before the other
abbrev Cuts : List (List ℕ) → List ℕ → List (List ℕ) → List ℕ → Type 0
Cuts a x b y = ((a ≡ b) × (x ≡ y)) ⊎ (((c : List (List ℕ)) × (b ≡ a ++ x ∷ c)) ⊎ ((c : List (List ℕ)) × (a ≡ b ++ y ∷ c)))

head_same : (x y : List ℕ) (xs ys : List (List ℕ)) → x ∷ xs ≡ y ∷ ys → x ≡ y
head_same x y xs ys e = cc

tail_same : (x y : List ℕ) (xs ys : List (List ℕ)) → x ∷ xs ≡ y ∷ ys → xs ≡ ys
tail_same x y xs ys e = cc

cuts_more : (p q x y : List ℕ) (a b : List (List ℕ)) → p ≡ q → Cuts a x b y → Cuts (p ∷ a) x (q ∷ b) y
cuts_more p q x y a b e (inl h) = inl (ap (λ (z : List ℕ). z ∷ a) e ∙ ap (λ (zs : List (List ℕ)). q ∷ zs) h.0, h.1)
cuts_more p q x y a b e (inr (inl h)) = inr (inl (h.0, ap (λ (z : List ℕ). z ∷ b) (sym e) ∙ ap (λ (zs : List (List ℕ)). p ∷ zs) h.1))
cuts_more p q x y a b e (inr (inr h)) = inr (inr (h.0, ap (λ (z : List ℕ). z ∷ a) e ∙ ap (λ (zs : List (List ℕ)). q ∷ zs) h.1))

cuts : (a : List (List ℕ)) (x : List ℕ) (xs b : List (List ℕ)) (y : List ℕ) (ys : List (List ℕ)) → a ++ x ∷ xs ≡ b ++ y ∷ ys → Cuts a x b y
cuts [] x xs [] y ys e = inl (refl, head_same x y xs ys e)
cuts [] x xs (q ∷ b) y ys e = inr (inl (b, ap (λ (z : List ℕ). z ∷ b) (sym (head_same x q xs (b ++ y ∷ ys) e))))
cuts (p ∷ a) x xs [] y ys e = inr (inr (a, ap (λ (z : List ℕ). z ∷ a) (head_same p y (a ++ x ∷ xs) ys e)))
cuts (p ∷ a) x xs (q ∷ b) y ys e =
    cuts_more p q x y a b (head_same p q (a ++ x ∷ xs) (b ++ y ∷ ys) e) (cuts a x xs b y ys (tail_same p q (a ++ x ∷ xs) (b ++ y ∷ ys) e))

longer : (a b c : List (List ℕ)) (x : List ℕ) → b ≡ a ++ x ∷ c → length a < length b
longer a b c x e = let n = ap (length {A = List ℕ}) e in let m = length-append a (x ∷ c) in omega (arith, n, m)

-- a line is refused, or is one too many, and this is why
abbrev Refuses : List ℕ → ℕ → grammar.LineRefusal → Type 0
Refuses bytes number r = IsFirst bytes number r ⊎ ((r ≡ grammar.Long) × IsTooMany bytes number)

same_at : (number other : ℕ) (a b : List (List ℕ)) → number ≡ length a + 1 → other ≡ length b + 1 → a ≡ b → number ≡ other
same_at number other a b e f g = e ∙ ap (λ (ls : List (List ℕ)). length ls + 1) g ∙ sym f

firsts : (bytes : List ℕ) (n m : ℕ) (r s : grammar.LineRefusal) (f : IsFirst bytes n r) (g : IsFirst bytes m s) → Cuts f.before f.line g.before g.line → (n ≡ m) × (r ≡ s)
firsts bytes n m r s f g (inl h) =
    let P : List (List ℕ) → Type 0 = λ ls. IsRefusalOfLine (labels_of ls) f.line r in
    let Q : List ℕ → Type 0 = λ l. IsRefusalOfLine (labels_of g.before) l r in (
      same_at n m f.before g.before f.first.place g.first.place h.0,
      one_refusal (labels_of g.before) g.line r s (subst Q h.1 (subst P h.0 f.refused)) g.refused,
    )
firsts bytes n m r s f g (inr (inl h)) = absurd (unrefused g.before f.before h.0 f.line g.first.trees r h.1 g.first.read g.first.apart f.refused)
firsts bytes n m r s f g (inr (inr h)) = absurd (unrefused f.before g.before h.0 g.line f.first.trees s h.1 f.first.read f.first.apart g.refused)

first_or_many : (bytes : List ℕ) (n m : ℕ) (r : grammar.LineRefusal) (f : IsFirst bytes n r) (g : IsTooMany bytes m) → Cuts f.before f.line g.before g.line → ⊥
first_or_many bytes n m r f g (inl h) =
    let e = same_at n m f.before g.before f.first.place g.first.place h.0 in
    let few = f.within in let many = g.many in omega arith
first_or_many bytes n m r f g (inr (inl h)) = unrefused g.before f.before h.0 f.line g.first.trees r h.1 g.first.read g.first.apart f.refused
first_or_many bytes n m r f g (inr (inr h)) =
    let less = longer g.before f.before h.0 g.line h.1 in
    let few = f.within in let many = g.many in let here = f.first.place in let there = g.first.place in omega arith

one_answer : (bytes : List ℕ) (n m : ℕ) (r s : grammar.LineRefusal) → Refuses bytes n r → Refuses bytes m s → (n ≡ m) × (r ≡ s)
one_answer bytes n m r s (inl f) (inl g) = firsts bytes n m r s f g (cuts f.before f.line f.first.behind g.before g.line g.first.behind (sym f.first.cut ∙ g.first.cut))
one_answer bytes n m r s (inl f) (inr g) = absurd (first_or_many bytes n m r f g.1 (cuts f.before f.line f.first.behind g.1.before g.1.line g.1.first.behind (sym f.first.cut ∙ g.1.first.cut)))
one_answer bytes n m r s (inr f) (inl g) = absurd (first_or_many bytes m n s g f.1 (cuts g.before g.line g.first.behind f.1.before f.1.line f.1.first.behind (sym g.first.cut ∙ f.1.first.cut)))
one_answer bytes n m r s (inr f) (inr g) = (f.1.many ∙ sym g.1.many, f.0 ∙ sym g.0)

read_unrefused : (name bytes : List ℕ) (r : Routine) (n : ℕ) (x : grammar.LineRefusal) → IsRoutineRead name bytes r → Refuses bytes n x → ⊥
read_unrefused name bytes r n x h (inl f) = unrefused (lines_of bytes) f.before f.first.behind f.line r.lines x f.first.cut h.lines h.apart f.refused
read_unrefused name bytes r n x h (inr f) =
    let less = longer f.1.before (lines_of bytes) f.1.first.behind f.1.line f.1.first.cut in
    let few = h.few in let many = f.1.many in let here = f.1.first.place in omega arith

-- ---- a refusal, by what it tells

abbrev Means : List ℕ → List ℕ → RefusalTold → Type 0
Means name bytes NoName = IsName name → ⊥
Means name bytes (At word number r) = IsName name × (word ≡ name) × Refuses bytes number r
Means name bytes Nothing = Unit {0}

meant : (name bytes : List ℕ) (e : LoadError) → IsRoutineRefused name bytes e → Means name bytes (refusal_told e)
meant name bytes load.Name h = h
meant name bytes (load.Stuck routine n c) h = (h.0, h.1, inl h.2)
meant name bytes (load.LeftOut routine n c x) h = (h.0, h.1, inl h.2)
meant name bytes (load.Twice routine n) h = (h.0, h.1, inl h.2)
meant name bytes (load.Long routine n) h = (h.0, h.1, by h.2)
  where
    by : IsFirst bytes n grammar.Long ⊎ IsTooMany bytes n → Refuses bytes n grammar.Long
    by (inl f) = inl f
    by (inr f) = inr (refl, f)
meant name bytes (load.Deep routine n c) h = (h.0, h.1, inl h.2)
meant name bytes load.Memory h = tt

-- what tells nothing is want of memory
tells : (e : LoadError) → refusal_told e ≡ Nothing → e ≡ load.Memory
tells load.Name h = cc
tells (load.Stuck routine n c) h = cc
tells (load.LeftOut routine n c x) h = cc
tells (load.Twice routine n) h = cc
tells (load.Long routine n) h = cc
tells (load.Deep routine n c) h = cc
tells load.Memory h = refl

same_told : (name bytes : List ℕ) (t u : RefusalTold) → (t ≡ Nothing → ⊥) → (u ≡ Nothing → ⊥) → Means name bytes t → Means name bytes u → t ≡ u
same_told name bytes Nothing u f g h i = absurd (f refl)
same_told name bytes NoName Nothing f g h i = absurd (g refl)
same_told name bytes NoName NoName f g h i = refl
same_told name bytes NoName (At v m s) f g h i = absurd (h i.0)
same_told name bytes (At w n r) Nothing f g h i = absurd (g refl)
same_told name bytes (At w n r) NoName f g h i = absurd (i h.0)
same_told name bytes (At w n r) (At v m s) f g h i =
    let same = one_answer bytes n m r s h.2 i.2 in
    ap (λ (x : List ℕ). At x n r) (h.1 ∙ sym i.1) ∙ ap (λ (k : ℕ). At v k r) same.0 ∙ ap (At v m) same.1

pub one_reason : (name bytes : List ℕ) (e f : LoadError)
    → (e ≡ load.Memory → ⊥) → (f ≡ load.Memory → ⊥) → IsRoutineRefused name bytes e → IsRoutineRefused name bytes f → refusal_told e ≡ refusal_told f
one_reason name bytes e f p q h i = same_told name bytes (refusal_told e) (refusal_told f) (λ x. p (tells e x)) (λ x. q (tells f x)) (meant name bytes e h) (meant name bytes f i)

none_told : (name bytes : List ℕ) (r : Routine) (t : RefusalTold) → IsName name → IsRoutineRead name bytes r → Means name bytes t → t ≡ Nothing
none_told name bytes r NoName n h i = absurd (i n)
none_told name bytes r (At w k x) n h i = absurd (read_unrefused name bytes r k x h i.2)
none_told name bytes r Nothing n h i = refl

pub read_or_refused : (name bytes : List ℕ) (r : Routine) (e : LoadError) → IsName name → IsRoutineRead name bytes r → IsRoutineRefused name bytes e → e ≡ load.Memory
read_or_refused name bytes r e n h i = tells e (none_told name bytes r (refusal_told e) n h (meant name bytes e i))
