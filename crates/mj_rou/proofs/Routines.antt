-- Lines and routines that were read.
use Rattle.std.proofs.Common.{◌≡◌, ℕ, suc, ◌+◌, ◌≤◌, List, [], ◌∷◌, ◌++◌, length, map, refl, ap, sym, ◌∙◌, subst, arith, inl, inr, Option, Bor, append-nil, append_assoc}
use Rattle.std.proofs.lemmas.List.{length-map, map-append}
use Rattle.mj_ast.specs.Syntax.{Line, Routine}
use Rattle.mj_ast.specs.Tokens.{Token, tokens, column}
use Rattle.mj_ast.specs.Lines.{SpellsLine, IsLong, HasOverlong, IsStuck, IsDeep}
use Rattle.mj_ast.specs.Routines.{lines_of, SpellsLines}
use Rattle.mj_cmd.specs.Said.{IsRead, IsStuckWith, IsDeepWith}
use Rattle.mj_rou.specs.Read.{IsLineRead, IsLineRefused, HoldsLabels, and_label, labels_of, AreRead, AreApart, IsFirstAt, IsRefusedAt, IsRoutineRead}
use Rattle.mj_rou.specs.declared.error.LineError.{LineError}
use Rattle.mj_rou.specs.declared.error.LineError.TheVariants as refusal
use Rattle.mj_rou.proofs.Labels.{labels_more, apart_more}
use Rattle.std.specs.BTreeSet.{BTreeSet}
use Rattle.std.specs.Prelude.{IfOk}
use Rattle.mj_ast.specs.Lines.{IsDeepAt, HasLabelOf, label_of}
use Rattle.mj_ast.specs.LeftOut.{IsNamedAt, IsStuckOn}
use Rattle.mj_ast.specs.declared.construct.Construct.{Construct}
use Rattle.mj_ast.specs.declared.routine.Line as kept
use Rattle.mj_ast.specs.Trees.{line_of}
use Rattle.std.proofs.Common.{Result, Ok, Err, Bool, true, false}
use Rattle.std.specs.Result.{is_ok, is_err}
use Rattle.std.specs.Prelude.{if◌then◌else◌}

not_long : (line : List ℕ) (ks : List Token) → ks ≡ tokens line → length line ≤ 8192 → (HasOverlong ks → ⊥) → IsLong line → ⊥
not_long line ks e h s (inl l) = omega arith
not_long line ks e h s (inr o) = let P : List Token → Type 0 = λ x. HasOverlong x in s (subst P (sym e) o)

pub line_read : (line : List ℕ) (ks : List Token) (l : Line) → ks ≡ tokens line → length line ≤ 8192 → IsRead ks l → IsLineRead line l
line_read line ks l e h r =
    let P : List Token → Type 0 = λ x. SpellsLine x l in
    record {
      short = not_long line ks e h r.short;
      spells = subst P e r.spells;
      within = r.within;
      only = λ o s. r.only o (let Q : List Token → Type 0 = λ x. SpellsLine x o in subst Q (sym e) s);
    }

pub line_stuck : (line : List ℕ) (ks : List Token) (n c : ℕ) (x : Option Construct) → ks ≡ tokens line → length line ≤ 8192 → IsStuckWith ks n →
    ((place : ℕ) → place + n ≡ length ks → c ≡ column line place) →
    ((place : ℕ) → place + n ≡ length ks → IsNamedAt ks place x) → (IsLong line → ⊥) × IsStuckOn line c x
line_stuck line ks n c x e h s f g =
    let P : List Token → Type 0 = λ xs. IsStuck xs s.place in
    let Q : List Token → Type 0 = λ xs. IsNamedAt xs s.place x in
    (not_long line ks e h s.short, (record { place = s.place; stuck = subst P e s.stuck; column_is = f s.place s.left_is }, subst Q e (g s.place s.left_is)))

pub line_deep : (line : List ℕ) (ks : List Token) (n c : ℕ) → ks ≡ tokens line → length line ≤ 8192 → IsDeepWith ks n →
    ((place : ℕ) → place + n ≡ length ks → c ≡ column line place) → (IsLong line → ⊥) × IsDeepAt line c
line_deep line ks n c e h s f =
    let P : List Token → Type 0 = λ x. IsDeep x s.place in
    (not_long line ks e h s.short, record { place = s.place; deep = subst P e s.deep; column_is = f s.place s.left_is })

pub line_long : (line : List ℕ) (ks : List Token) → ks ≡ tokens line → HasOverlong ks → IsLong line
line_long line ks e h = let P : List Token → Type 0 = λ x. HasOverlong x in inr (subst P e h)

-- ---- several lines

pub read_more : (front : List (List ℕ)) (ls : List Line) (b : List ℕ) (l : Line) → AreRead front ls → IsLineRead b l → AreRead (front ++ b ∷ []) (ls ++ l ∷ [])
read_more [] [] b l h i = (i, tt)
read_more [] (x ∷ ls) b l h i = absurd h
read_more (f ∷ fs) [] b l h i = absurd h
read_more (f ∷ fs) (x ∷ ls) b l h i = (h.0, read_more fs ls b l h.1 i)

pub read_count : (front : List (List ℕ)) (ls : List Line) → AreRead front ls → length front ≡ length ls
read_count [] [] h = refl
read_count [] (x ∷ ls) h = absurd h
read_count (f ∷ fs) [] h = absurd h
read_count (f ∷ fs) (x ∷ ls) h = ap suc (read_count fs ls h.1)

read_spells : (bs : List (List ℕ)) (ls : List Line) → AreRead bs ls → SpellsLines bs ls
read_spells [] [] h = tt
read_spells [] (x ∷ ls) h = h
read_spells (f ∷ fs) [] h = h
read_spells (f ∷ fs) (x ∷ ls) h = (h.0.spells, read_spells fs ls h.1)

read_only : (bs : List (List ℕ)) (ls os : List Line) → AreRead bs ls → SpellsLines bs os → os ≡ ls
read_only [] [] [] h s = refl
read_only [] [] (o ∷ os) h s = absurd s
read_only [] (x ∷ ls) os h s = absurd h
read_only (f ∷ fs) [] os h s = absurd h
read_only (f ∷ fs) (x ∷ ls) [] h s = absurd s
read_only (f ∷ fs) (x ∷ ls) (o ∷ os) h s = ap (λ (y : Line). y ∷ os) (h.0.only o s.0) ∙ ap (λ (ys : List Line). x ∷ ys) (read_only fs ls os h.1 s.1)

same_routine : (n k : List ℕ) (ls os : List Line) → n ≡ k → ls ≡ os → (let r : Routine = record { name = n; lines = ls } in let q : Routine = record { name = k; lines = os } in r ≡ q)
same_routine n k ls os e f = ap (λ (x : List ℕ). let r : Routine = record { name = x; lines = ls } in r) e ∙ ap (λ (xs : List Line). let r : Routine = record { name = k; lines = xs } in r) f

-- a routine of lines that were read
pub routine_read : (name bytes : List ℕ) (front : List (List ℕ)) (n : List ℕ) (ls : List Line) → n ≡ name → lines_of bytes ≡ front ++ [] → AreRead front ls →
    AreApart front → length ls ≤ 10000 → IsRoutineRead name bytes (record { name = n; lines = ls })
routine_read name bytes front n ls e f h apart few =
    let g = f ∙ append-nil front in
    let P : List (List ℕ) → Type 0 = λ bs. AreRead bs ls in
    let a = subst P (sym g) h in
    record {
      spells = record { named = e; spelled = read_spells (lines_of bytes) ls a };
      lines = a;
      apart = let Q : List (List ℕ) → Type 0 = λ bs. AreApart bs in subst Q (sym g) apart;
      few = let c = read_count (lines_of bytes) ls a in omega arith;
      only = λ o s. same_routine o.name n o.lines ls (s.named ∙ sym e) (read_only (lines_of bytes) ls o.lines a s.spelled);
    }

-- one line more
pub line_more : (bytes rest behind line : List ℕ) (front : List (List ℕ)) (old new : List kept.Line) (tree : kept.Line) (q : Option (List ℕ))
    (set : BTreeSet (Bor (List ℕ))) → lines_of bytes ≡ front ++ lines_of rest → AreRead front (map line_of old) → AreApart front →
    lines_of rest ≡ line ∷ lines_of behind → new ≡ old ++ tree ∷ [] → IsLineRead line (line_of tree) → (HasLabelOf (labels_of front) (tokens line) → ⊥) →
    q ≡ label_of (tokens line) → HoldsLabels (and_label (labels_of front) q) set →
    (f : List (List ℕ)) × (lines_of bytes ≡ f ++ lines_of behind) × AreRead f (map line_of new) × AreApart f × HoldsLabels (labels_of f) set
line_more bytes rest behind line front old new tree q set e h a f g i n l k =
    let P : List Line → Type 0 = λ ls. AreRead (front ++ line ∷ []) ls in
    let Q : List (List ℕ) → Type 0 = λ ls. HoldsLabels ls set in (
      front ++ line ∷ [],
      e ∙ ap (λ (ls : List (List ℕ)). front ++ ls) f ∙ sym (append_assoc front (line ∷ []) (lines_of behind)),
      subst P (sym (ap (map line_of) g ∙ map-append line_of old (tree ∷ []))) (read_more front (map line_of old) line (line_of tree) h i),
      apart_more front line a n,
      subst Q (ap (and_label (labels_of front)) l ∙ sym (labels_more front line)) k,
    )

pub none_read : (ls : List kept.Line) → ls ≡ [] → AreRead [] (map line_of ls)
none_read ls e = let P : List kept.Line → Type 0 = λ xs. AreRead [] (map line_of xs) in subst P (sym e) tt

-- ---- the line at which the reading stands

pub first_at : (bytes rest behind line : List ℕ) (front : List (List ℕ)) (old : List kept.Line) (number : ℕ) → lines_of bytes ≡ front ++ lines_of rest →
    lines_of rest ≡ line ∷ lines_of behind → AreRead front (map line_of old) → AreApart front → number ≡ length old + 1 →
    IsFirstAt bytes number front line
first_at bytes rest behind line front old number e f h a n = record {
  behind = lines_of behind;
  cut = e ∙ ap (λ (ls : List (List ℕ)). front ++ ls) f;
  place = let c = read_count front (map line_of old) h in let l = length-map old line_of in omega arith;
  trees = map line_of old;
  read = h;
  apart = a;
}

pub refused_at : (bytes : List ℕ) (number : ℕ) (before : List (List ℕ)) (line : List ℕ) (r : LineError) → IsFirstAt bytes number before line → number ≤ 10000 →
    IsLineRefused (labels_of before) line r → IsRefusedAt bytes number r
refused_at bytes number before line (refusal.Stuck c) f w h = record { before = before; line = line; first = f; within = w; refused = h }
refused_at bytes number before line (refusal.LeftOut c x) f w h = record { before = before; line = line; first = f; within = w; refused = h }
refused_at bytes number before line (refusal.Deep c) f w h = record { before = before; line = line; first = f; within = w; refused = h }
refused_at bytes number before line refusal.Twice f w h = record { before = before; line = line; first = f; within = w; refused = h }
refused_at bytes number before line refusal.Long f w h = inl (record { before = before; line = line; first = f; within = w; refused = h })
refused_at bytes number before line refusal.Memory f w h = tt

pub too_many : (bytes : List ℕ) (number : ℕ) (before : List (List ℕ)) (line : List ℕ) → IsFirstAt bytes number before line → number ≡ 10001 → IsRefusedAt bytes number refusal.Long
too_many bytes number before line f m = inr (record { before = before; line = line; first = f; many = m })

-- what isn't refused is done
pub ok_if : {A B T : Type 0} (r : Result A B) (b : Bool) (x y z : T) → z ≡ (if is_ok r then x else y) → b ≡ is_err r → b ≡ false → z ≡ x
ok_if (Ok v) b x y z h e f = h
ok_if (Err v) b x y z h e f = absurd (let g : true ≡ false = sym e ∙ f in cc)

pub ok_then : {A B : Type 0} (r : Result A B) (b : Bool) (Q : Type 0) → IfOk r (λ _. Q) → b ≡ is_err r → b ≡ false → Q
ok_then (Ok v) b Q h e f = h
ok_then (Err v) b Q h e f = absurd (let g : true ≡ false = sym e ∙ f in cc)

-- the routine of the lines that are kept
pub routine_kept : (name bytes rest : List ℕ) (front : List (List ℕ)) (n : List ℕ) (v : List kept.Line) → n ≡ name → lines_of bytes ≡ front ++ lines_of rest →
    rest ≡ [] → AreRead front (map line_of v) → AreApart front → length v ≤ 10000 →
    IsRoutineRead name bytes (record { name = n; lines = map line_of v })
routine_kept name bytes rest front n v e f g h apart few =
    routine_read name bytes front n (map line_of v) e (f ∙ ap (λ (r : List ℕ). front ++ lines_of r) g) h apart (let l = length-map v line_of in omega arith)
