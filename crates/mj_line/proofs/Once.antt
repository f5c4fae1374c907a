-- No two trees have the same parts.
use Rattle.std.proofs.Common.{◌≡◌, ℕ, Option, Some, None, List, [], ◌∷◌, ◌++◌, refl, ap, sym, ◌∙◌, subst, Bool, true, false, append_assoc, map}
use Rattle.std.specs.Prelude.{if◌then◌else◌}
use Rattle.mj_ast.specs.declared.sign.Sign.TheVariants.{Plus, Minus, Star, Hash, Equals, Comma, Colon, Exclamation, Question, Caret, Open, Close}
use Rattle.mj_ast.specs.declared.routine.FormatMark.{FormatMark}
use Rattle.mj_ast.specs.declared.routine.FormatMark.TheVariants.{NewLine, NewPage}
use Rattle.mj_ast.specs.declared.routine.LockMode.{LockMode}
use Rattle.mj_ast.specs.declared.routine.LockMode.TheVariants.{Whole, Plus as Added, Minus as Taken}
use Rattle.mj_ast.specs.Syntax.{Expr, Exprs, No, More, Variable, Destination, Plain, Pieces, Targets, One, Several, Assignment, Gone, Spared, Merged, Layout, Shown, Format, Coded, Target, Called, Jumped, Started, LockNames, Lone, Together, Locked, Single, Endless, UpTo, Fresh, Kept}
use Rattle.mj_ast.specs.Commands.{Part, Put, Named, Label, PieceCall, Text, Place, Control, with_commas, behind_commas, more_parts, destination_parts, targets_parts, assignment_parts, mark_part, column_parts, layout_parts, output_parts, name_parts, killed_parts, merged_parts, value_parts, entry_parts, routine_parts, guard_parts, actual_parts, actuals_parts, called_parts, as_called, jumped_parts, wait_parts, started_parts, mode_parts, variable_parts, lock_names_parts, locked_parts, range_parts, renewed_parts}
use Rattle.mj_line.specs.Forms.{Mode, Calls, Jumps, Starts}
use Rattle.mj_line.proofs.FormedCalls.{entered_parts, guards_of, entered_cut, as_entered, locked_cut}

-- ---- heads and tails

pub tail_same : {p q : Part} {ps qs : List Part} → p ∷ ps ≡ q ∷ qs → ps ≡ qs
tail_same e = cc

pub text_same : {l k : ℕ} {a b : Expr} {ps qs : List Part} → Text l a ∷ ps ≡ Text k b ∷ qs → a ≡ b
text_same e = cc

pub place_same : {l k : ℕ} {a b : Variable} {ps qs : List Part} → Place l a ∷ ps ≡ Place k b ∷ qs → a ≡ b
place_same e = cc

pub control_same : {a b : Variable} {ps qs : List Part} → Control a ∷ ps ≡ Control b ∷ qs → a ≡ b
control_same e = cc

pub named_same : {a b : List ℕ} {ps qs : List Part} → Named a ∷ ps ≡ Named b ∷ qs → a ≡ b
named_same e = cc

-- what two lists of parts with what follows share
abbrev pub Same : {A : Type 0} → A → A → List Part → List Part → Type 0
Same x y r s = (x ≡ y) × (r ≡ s)

-- what may follow an item: nothing, a comma or what closes a list
abbrev pub IsTail : List Part → Type 0
IsTail [] = Unit {0}
IsTail (Put Comma ∷ ps) = Unit {0}
IsTail (Put Close ∷ ps) = Unit {0}
IsTail ps = ⊥

-- what may follow a list: nothing, or what closes it
abbrev IsEnd : List Part → Type 0
IsEnd [] = Unit {0}
IsEnd (Put Close ∷ ps) = Unit {0}
IsEnd ps = ⊥

-- the parts of an item tell which it is, whatever follows
abbrev pub Tells : {A : Type 0} → (A → List Part) → Type 0
Tells {A = A} parts = (x y : A) (r s : List Part) → IsTail r → IsTail s → parts x ++ r ≡ parts y ++ s → Same x y r s

end_tail : (r : List Part) → IsEnd r → IsTail r
end_tail [] h = tt
end_tail (Put Close ∷ ps) h = tt
end_tail (Put Comma ∷ ps) h = tt
end_tail (Text l e ∷ ps) h = absurd h
end_tail (Place l v ∷ ps) h = absurd h
end_tail (Named w ∷ ps) h = absurd h
end_tail (PieceCall ∷ ps) h = absurd h
end_tail (p ∷ ps) h = absurd h

behind_tail : {A : Type 0} (parts : A → List Part) (xs : List A) (r : List Part) → IsEnd r → IsTail (behind_commas parts xs ++ r)
behind_tail parts [] r h = end_tail r h
behind_tail parts (x ∷ xs) r h = tt

comma_end : {A : Type 0} (r ps : List Part) → IsEnd r → r ≡ Put Comma ∷ ps → A
comma_end r ps h e = absurd (subst IsEnd e h)

-- items behind commas
commas_tell : {A : Type 0} (parts : A → List Part) → Tells parts → (xs ys : List A) (r s : List Part) → IsEnd r → IsEnd s → behind_commas parts xs ++ r ≡ behind_commas parts ys ++ s → Same xs ys r s
commas_tell parts t [] [] r s h i e = (refl, e)
commas_tell parts t [] (y ∷ ys) r s h i e = comma_end r _ h e
commas_tell parts t (x ∷ xs) [] r s h i e = comma_end s _ i (sym e)
commas_tell {A = A} parts t (x ∷ xs) (y ∷ ys) r s h i e =
    let f = sym (append_assoc (parts x) (behind_commas parts xs) r) ∙ tail_same e ∙ append_assoc (parts y) (behind_commas parts ys) s in
    let a = t x y (behind_commas parts xs ++ r) (behind_commas parts ys ++ s) (behind_tail parts xs r h) (behind_tail parts ys s i) f in
    let b = commas_tell parts t xs ys r s h i a.1 in
    (ap (λ (z : A). z ∷ xs) a.0 ∙ ap (λ (zs : List A). y ∷ zs) b.0, b.1)

-- items with commas between them, of which there is one at least
pub some_tell : {A : Type 0} (parts : A → List Part) → Tells parts → (x y : A) (xs ys : List A) (r s : List Part) → IsEnd r → IsEnd s →
    (parts x ++ behind_commas parts xs) ++ r ≡ (parts y ++ behind_commas parts ys) ++ s → Same (x ∷ xs) (y ∷ ys) r s
some_tell {A = A} parts t x y xs ys r s h i e =
    let f = sym (append_assoc (parts x) (behind_commas parts xs) r) ∙ e ∙ append_assoc (parts y) (behind_commas parts ys) s in
    let a = t x y (behind_commas parts xs ++ r) (behind_commas parts ys ++ s) (behind_tail parts xs r h) (behind_tail parts ys s i) f in
    let b = commas_tell parts t xs ys r s h i a.1 in
    (ap (λ (z : A). z ∷ xs) a.0 ∙ ap (λ (zs : List A). y ∷ zs) b.0, b.1)

-- ---- items

name_tells : Tells name_parts
name_tells x y r s h i e = (named_same e, tail_same e)

merged_made : (a b : Merged) → a.into ≡ b.into → a.from ≡ b.from → a ≡ b
merged_made a b e f = ap (λ (v : Variable). let m : Merged = record { into = v; from = a.from } in m) e ∙ ap (λ (v : Variable). let m : Merged = record { into = b.into; from = v } in m) f

pub merged_tells : Tells merged_parts
merged_tells x y r s h i e =
    let f = tail_same (tail_same e) in
    (merged_made x y (place_same e) (place_same f), tail_same f)

more_tells : (es fs : Exprs) (r s : List Part) → more_parts es ++ Put Close ∷ r ≡ more_parts fs ++ Put Close ∷ s → Same es fs r s
more_tells No No r s e = (refl, tail_same e)
more_tells No (More y fs) r s e = absurd (let f : Put Close ∷ r ≡ Put Comma ∷ Text 1 y ∷ (more_parts fs ++ Put Close ∷ s) = e in cc)
more_tells (More x es) No r s e = absurd (let f : Put Comma ∷ Text 1 x ∷ (more_parts es ++ Put Close ∷ r) ≡ Put Close ∷ s = e in cc)
more_tells (More x es) (More y fs) r s e =
    let f = tail_same e in
    let a = more_tells es fs r s (tail_same f) in
    (ap (λ (z : Expr). More z es) (text_same f) ∙ ap (λ (zs : Exprs). More y zs) a.0, a.1)

destination_tells : Tells destination_parts
destination_tells (Plain v) (Plain w) r s h i e = (ap Plain (place_same e), tail_same e)
destination_tells (Plain v) (Pieces w fs) r s h i e = absurd (let f : Place 0 v ∷ r ≡ PieceCall ∷ _ = e in cc)
destination_tells (Pieces v es) (Plain w) r s h i e = absurd (let f : PieceCall ∷ _ ≡ Place 0 w ∷ s = e in cc)
destination_tells (Pieces v es) (Pieces w fs) r s h i e =
    let f = tail_same (tail_same e) in
    let a = more_tells es fs r s (sym (append_assoc (more_parts es) (Put Close ∷ []) r) ∙ tail_same f ∙ append_assoc (more_parts fs) (Put Close ∷ []) s) in
    (ap (λ (z : Variable). Pieces z es) (place_same f) ∙ ap (λ (zs : Exprs). Pieces w zs) a.0, a.1)

open_destination : {A : Type 0} (d : Destination) (r ps : List Part) → destination_parts d ++ r ≡ Put Open ∷ ps → A
open_destination (Plain v) r ps e = absurd (let f : Place 0 v ∷ r ≡ Put Open ∷ ps = e in cc)
open_destination (Pieces v es) r ps e = absurd (let f : PieceCall ∷ _ ≡ Put Open ∷ ps = e in cc)

close_destination : {A : Type 0} (d : Destination) (r ps : List Part) → destination_parts d ++ r ≡ Put Close ∷ ps → A
close_destination (Plain v) r ps e = absurd (let f : Place 0 v ∷ r ≡ Put Close ∷ ps = e in cc)
close_destination (Pieces v es) r ps e = absurd (let f : PieceCall ∷ _ ≡ Put Close ∷ ps = e in cc)

-- a list that is closed
listed_tells : (ds fs : List Destination) (r s : List Part) → with_commas destination_parts ds ++ Put Close ∷ r ≡ with_commas destination_parts fs ++ Put Close ∷ s → Same ds fs r s
listed_tells [] [] r s e = (refl, tail_same e)
listed_tells [] (f ∷ fs) r s e = close_destination f _ r (sym (append_assoc (destination_parts f) (behind_commas destination_parts fs) (Put Close ∷ s)) ∙ sym e)
listed_tells (d ∷ ds) [] r s e = close_destination d _ s (sym (append_assoc (destination_parts d) (behind_commas destination_parts ds) (Put Close ∷ r)) ∙ e)
listed_tells (d ∷ ds) (f ∷ fs) r s e = let a = some_tell destination_parts destination_tells d f ds fs (Put Close ∷ r) (Put Close ∷ s) tt tt e in (a.0, tail_same a.1)

-- the equals sign behind destinations; what may follow a destination is a comma or what closes here
targets_tell : (t u : Targets) (a b : Expr) (r s : List Part) → targets_parts t ++ Put Equals ∷ Text 0 a ∷ r ≡ targets_parts u ++ Put Equals ∷ Text 0 b ∷ s → (t ≡ u) × (a ≡ b) × (r ≡ s)
targets_tell (One (Plain v)) (One (Plain w)) a b r s e = let f = tail_same (tail_same e) in (ap (λ (z : Variable). One (Plain z)) (place_same e), text_same f, tail_same f)
targets_tell (One (Plain v)) (One (Pieces w fs)) a b r s e = absurd (let f : Place 0 v ∷ _ ≡ PieceCall ∷ _ = e in cc)
targets_tell (One (Pieces v es)) (One (Plain w)) a b r s e = absurd (let f : PieceCall ∷ _ ≡ Place 0 w ∷ _ = e in cc)
targets_tell (One (Pieces v es)) (One (Pieces w fs)) a b r s e =
    let f = tail_same (tail_same e) in
    let c = more_tells es fs (Put Equals ∷ Text 0 a ∷ r) (Put Equals ∷ Text 0 b ∷
    s) (sym (append_assoc (more_parts es) (Put Close ∷ []) (Put Equals ∷ Text 0 a ∷ r)) ∙ tail_same f ∙
    append_assoc (more_parts fs) (Put Close ∷ []) (Put Equals ∷ Text 0 b ∷ s)) in
    let g = tail_same c.1 in
    (ap (λ (z : Variable). One (Pieces z es)) (place_same f) ∙ ap (λ (zs : Exprs). One (Pieces w zs)) c.0, text_same g, tail_same g)
targets_tell (One d) (Several fs) a b r s e = open_destination d (Put Equals ∷ Text 0 a ∷ r) _ e
targets_tell (Several ds) (One f) a b r s e = open_destination f (Put Equals ∷ Text 0 b ∷ s) _ (sym e)
targets_tell (Several ds) (Several fs) a b r s e =
    let c = listed_tells ds fs (Put Equals ∷ Text 0 a ∷ r) (Put Equals ∷ Text 0 b ∷
    s) (sym (append_assoc (with_commas destination_parts ds) (Put Close ∷ []) (Put Equals ∷ Text 0 a ∷ r)) ∙ tail_same e ∙
    append_assoc (with_commas destination_parts fs) (Put Close ∷ []) (Put Equals ∷ Text 0 b ∷ s)) in
    let g = tail_same c.1 in
    (ap Several c.0, text_same g, tail_same g)

assignment_made : (a b : Assignment) → a.targets ≡ b.targets → a.value ≡ b.value → a ≡ b
assignment_made a b e f = ap (λ (t : Targets). let m : Assignment = record { targets = t; value = a.value } in m) e ∙
    ap (λ (v : Expr). let m : Assignment = record { targets = b.targets; value = v } in m) f

pub assignment_tells : Tells assignment_parts
assignment_tells x y r s h i e =
    let c = targets_tell x.targets y.targets x.value y.value r s (sym (append_assoc (targets_parts x.targets) (Put Equals ∷ Text 0 x.value ∷ []) r) ∙ e ∙
    append_assoc (targets_parts y.targets) (Put Equals ∷ Text 0 y.value ∷ []) s) in
    (assignment_made x y c.0 c.1, c.2)

-- what may stand behind marks: a column, or what may follow an item
abbrev IsColumn : List Part → Type 0
IsColumn [] = Unit {0}
IsColumn (Put Question ∷ ps) = Unit {0}
IsColumn (Put Comma ∷ ps) = Unit {0}
IsColumn (Put Close ∷ ps) = Unit {0}
IsColumn ps = ⊥

-- what a format, or what follows an item, begins with
abbrev pub IsLaid : List Part → Type 0
IsLaid [] = Unit {0}
IsLaid (Put Exclamation ∷ ps) = Unit {0}
IsLaid (Put Hash ∷ ps) = Unit {0}
IsLaid (Put Question ∷ ps) = Unit {0}
IsLaid (Put Comma ∷ ps) = Unit {0}
IsLaid (Put Close ∷ ps) = Unit {0}
IsLaid ps = ⊥

tail_column : (r : List Part) → IsTail r → IsColumn r
tail_column [] h = tt
tail_column (Put Comma ∷ ps) h = tt
tail_column (Put Close ∷ ps) h = tt
tail_column (p ∷ ps) h = absurd h

column_column : (c : Option Expr) (r : List Part) → IsTail r → IsColumn (column_parts c ++ r)
column_column None r h = tail_column r h
column_column (Some e) r h = tt

column_laid : (r : List Part) → IsColumn r → IsLaid r
column_laid [] h = tt
column_laid (Put Question ∷ ps) h = tt
column_laid (Put Comma ∷ ps) h = tt
column_laid (Put Close ∷ ps) h = tt
column_laid (p ∷ ps) h = absurd h

marks_laid : (ms : List FormatMark) (r : List Part) → IsColumn r → IsLaid (map mark_part ms ++ r)
marks_laid [] r h = column_laid r h
marks_laid (NewLine ∷ ms) r h = tt
marks_laid (NewPage ∷ ms) r h = tt

layout_cut : (l : Layout) (r : List Part) → layout_parts l ++ r ≡ map mark_part l.marks ++ (column_parts l.column ++ r)
layout_cut l r = append_assoc (map mark_part l.marks) (column_parts l.column) r

pub layout_laid : (l : Layout) (r : List Part) → IsTail r → IsLaid (layout_parts l ++ r)
layout_laid l r h = subst IsLaid (sym (layout_cut l r)) (marks_laid l.marks (column_parts l.column ++ r) (column_column l.column r h))

mark_end : {A : Type 0} (r ps : List Part) → IsColumn r → r ≡ Put Exclamation ∷ ps → A
mark_end r ps h e = absurd (subst IsColumn e h)

page_end : {A : Type 0} (r ps : List Part) → IsColumn r → r ≡ Put Hash ∷ ps → A
page_end r ps h e = absurd (subst IsColumn e h)

marks_tell : (ms ns : List FormatMark) (r s : List Part) → IsColumn r → IsColumn s → map mark_part ms ++ r ≡ map mark_part ns ++ s → Same ms ns r s
marks_tell [] [] r s h i e = (refl, e)
marks_tell [] (NewLine ∷ ns) r s h i e = mark_end r _ h e
marks_tell [] (NewPage ∷ ns) r s h i e = page_end r _ h e
marks_tell (NewLine ∷ ms) [] r s h i e = mark_end s _ i (sym e)
marks_tell (NewPage ∷ ms) [] r s h i e = page_end s _ i (sym e)
marks_tell (NewLine ∷ ms) (NewLine ∷ ns) r s h i e = let a = marks_tell ms ns r s h i (tail_same e) in (ap (λ (zs : List FormatMark). NewLine ∷ zs) a.0, a.1)
marks_tell (NewLine ∷ ms) (NewPage ∷ ns) r s h i e = absurd (let f : Put Exclamation ∷ (map mark_part ms ++ r) ≡ Put Hash ∷ (map mark_part ns ++ s) = e in cc)
marks_tell (NewPage ∷ ms) (NewLine ∷ ns) r s h i e = absurd (let f : Put Hash ∷ (map mark_part ms ++ r) ≡ Put Exclamation ∷ (map mark_part ns ++ s) = e in cc)
marks_tell (NewPage ∷ ms) (NewPage ∷ ns) r s h i e = let a = marks_tell ms ns r s h i (tail_same e) in (ap (λ (zs : List FormatMark). NewPage ∷ zs) a.0, a.1)

question_tail : {A : Type 0} (r ps : List Part) → IsTail r → r ≡ Put Question ∷ ps → A
question_tail r ps h e = absurd (subst IsTail e h)

column_tells : (c d : Option Expr) (r s : List Part) → IsTail r → IsTail s → column_parts c ++ r ≡ column_parts d ++ s → Same c d r s
column_tells None None r s h i e = (refl, e)
column_tells None (Some y) r s h i e = question_tail r _ h e
column_tells (Some x) None r s h i e = question_tail s _ i (sym e)
column_tells (Some x) (Some y) r s h i e = let f = tail_same e in (ap (λ (z : Expr). Some z) (text_same f), tail_same f)

layout_made : (a b : Layout) → a.marks ≡ b.marks → a.column ≡ b.column → a ≡ b
layout_made a b e f = ap (λ (ms : List FormatMark). let l : Layout = record { marks = ms; column = a.column } in l) e ∙
    ap (λ (c : Option Expr). let l : Layout = record { marks = b.marks; column = c } in l) f

pub layout_tells : Tells layout_parts
layout_tells x y r s h i e =
    let a = marks_tell x.marks y.marks (column_parts x.column ++ r) (column_parts y.column ++
    s) (column_column x.column r h) (column_column y.column s i) (sym (layout_cut x r) ∙ e ∙ layout_cut y s) in
    let c = column_tells x.column y.column r s h i a.1 in
    (layout_made x y a.0 c.0, c.1)

-- what is no format
pub unlaid : {A : Type 0} (ps qs : List Part) → (IsLaid ps → ⊥) → IsLaid qs → ps ≡ qs → A
unlaid ps qs n h e = absurd (n (subst IsLaid (sym e) h))

pub output_tells : Tells output_parts
output_tells (Shown a) (Shown b) r s h i e = (ap Shown (text_same e), tail_same e)
output_tells (Shown a) (Format l) r s h i e = unlaid (Text 0 a ∷ r) (layout_parts l ++ s) (λ z. z) (layout_laid l s i) e
output_tells (Shown a) (Coded b) r s h i e = absurd (let f : Text 0 a ∷ r ≡ Put Star ∷ Text 0 b ∷ s = e in cc)
output_tells (Format l) (Shown b) r s h i e = unlaid (Text 0 b ∷ s) (layout_parts l ++ r) (λ z. z) (layout_laid l r h) (sym e)
output_tells (Format l) (Format k) r s h i e = let a = layout_tells l k r s h i e in (ap Format a.0, a.1)
output_tells (Format l) (Coded b) r s h i e = unlaid (Put Star ∷ Text 0 b ∷ s) (layout_parts l ++ r) (λ z. z) (layout_laid l r h) (sym e)
output_tells (Coded a) (Shown b) r s h i e = absurd (let f : Put Star ∷ Text 0 a ∷ r ≡ Text 0 b ∷ s = e in cc)
output_tells (Coded a) (Format l) r s h i e = unlaid (Put Star ∷ Text 0 a ∷ r) (layout_parts l ++ s) (λ z. z) (layout_laid l s i) e
output_tells (Coded a) (Coded b) r s h i e = let f = tail_same e in (ap Coded (text_same f), tail_same f)

pub names_tell : (ws vs : List (List ℕ)) (r s : List Part) → with_commas name_parts ws ++ Put Close ∷ r ≡ with_commas name_parts vs ++ Put Close ∷ s → Same ws vs r s
names_tell [] [] r s e = (refl, tail_same e)
names_tell [] (v ∷ vs) r s e = absurd (let f : Put Close ∷ r ≡ Named v ∷ _ = e in cc)
names_tell (w ∷ ws) [] r s e = absurd (let f : Named w ∷ _ ≡ Put Close ∷ s = e in cc)
names_tell (w ∷ ws) (v ∷ vs) r s e = let a = some_tell name_parts name_tells w v ws vs (Put Close ∷ r) (Put Close ∷ s) tt tt e in (a.0, tail_same a.1)

pub value_tells : Tells value_parts
value_tells x y r s h i e = (text_same e, tail_same e)

-- what may follow a name of a routine, or none
abbrev IsBehind : List Part → Type 0
IsBehind [] = Unit {0}
IsBehind (Put Open ∷ ps) = Unit {0}
IsBehind (Put Colon ∷ ps) = Unit {0}
IsBehind (Put Comma ∷ ps) = Unit {0}
IsBehind (Put Close ∷ ps) = Unit {0}
IsBehind ps = ⊥

caret_behind : {A : Type 0} (r ps : List Part) → IsBehind r → r ≡ Put Caret ∷ ps → A
caret_behind r ps h e = absurd (subst IsBehind e h)

name_behind : {A : Type 0} (r ps : List Part) (w : List ℕ) → IsBehind r → r ≡ Named w ∷ ps → A
name_behind r ps w h e = absurd (subst IsBehind e h)

label_same : {a b : List ℕ} {ps qs : List Part} → Label a ∷ ps ≡ Label b ∷ qs → a ≡ b
label_same e = cc

routine_tells : (v w : Option (List ℕ)) (r s : List Part) → IsBehind r → IsBehind s → routine_parts v ++ r ≡ routine_parts w ++ s → Same v w r s
routine_tells None None r s h i e = (refl, e)
routine_tells None (Some w) r s h i e = caret_behind r _ h e
routine_tells (Some v) None r s h i e = caret_behind s _ i (sym e)
routine_tells (Some v) (Some w) r s h i e = let f = tail_same e in (ap (λ (x : List ℕ). Some x) (named_same f), tail_same f)

-- a label and a routine, and what follows them
abbrev SameEntry : Option (List ℕ) → Option (List ℕ) → Option (List ℕ) → Option (List ℕ) → List Part → List Part → Type 0
SameEntry k v l w r s = (k ≡ l) × (v ≡ w) × (r ≡ s)

label_put : {A : Type 0} (l : List ℕ) (ps qs : List Part) → Label l ∷ ps ≡ Put Caret ∷ qs → A
label_put l ps qs e = absurd (let f : Label l ∷ ps ≡ Put Caret ∷ qs = e in cc)

entry_tells : (k v l w : Option (List ℕ)) (r s : List Part) → IsBehind r → IsBehind s → entry_parts k v ++ r ≡ entry_parts l w ++ s → SameEntry k v l w r s
entry_tells None None None None r s h i e = (refl, refl, tail_same e)
entry_tells None None None (Some w) r s h i e = name_behind r _ w h (tail_same e)
entry_tells None None (Some l) w r s h i e = label_put l _ _ (sym e)
entry_tells None (Some v) None None r s h i e = name_behind s _ v i (sym (tail_same e))
entry_tells None (Some v) None (Some w) r s h i e = let f = tail_same e in (refl, ap (λ (x : List ℕ). Some x) (named_same f), tail_same f)
entry_tells None (Some v) (Some l) w r s h i e = label_put l _ _ (sym e)
entry_tells (Some k) v None None r s h i e = label_put k _ _ e
entry_tells (Some k) v None (Some w) r s h i e = label_put k _ _ e
entry_tells (Some k) v (Some l) w r s h i e = let a = routine_tells v w r s h i (tail_same e) in (ap (λ (x : List ℕ). Some x) (label_same e), a.0, a.1)

actual_text : {A : Type 0} (r ps : List Part) (x : Expr) → IsTail r → r ≡ Text 1 x ∷ ps → A
actual_text r ps x h e = absurd (subst IsTail e h)

actual_tells : Tells actual_parts
actual_tells None None r s h i e = (refl, e)
actual_tells None (Some y) r s h i e = actual_text r _ y h e
actual_tells (Some x) None r s h i e = actual_text s _ x i (sym e)
actual_tells (Some x) (Some y) r s h i e = (ap (λ (z : Expr). Some z) (text_same e), tail_same e)

-- what may follow actuals, or none
abbrev IsGuard : List Part → Type 0
IsGuard [] = Unit {0}
IsGuard (Put Colon ∷ ps) = Unit {0}
IsGuard (Put Comma ∷ ps) = Unit {0}
IsGuard (Put Close ∷ ps) = Unit {0}
IsGuard ps = ⊥

open_guard : {A : Type 0} (r ps : List Part) → IsGuard r → r ≡ Put Open ∷ ps → A
open_guard r ps h e = absurd (subst IsGuard e h)

actuals_tell : (xs ys : List (Option Expr)) (r s : List Part) → IsGuard r → IsGuard s → actuals_parts xs ++ r ≡ actuals_parts ys ++ s → Same xs ys r s
actuals_tell [] [] r s h i e = (refl, e)
actuals_tell [] (y ∷ ys) r s h i e = open_guard r _ h e
actuals_tell (x ∷ xs) [] r s h i e = open_guard s _ i (sym e)
actuals_tell (x ∷ xs) (y ∷ ys) r s h i e =
    let a = some_tell actual_parts actual_tells x y xs ys (Put Close ∷ r) (Put Close ∷
    s) tt tt (sym (append_assoc (with_commas actual_parts (x ∷ xs)) (Put Close ∷ []) r) ∙ tail_same e ∙
    append_assoc (with_commas actual_parts (y ∷ ys)) (Put Close ∷ []) s) in
    (a.0, tail_same a.1)

colon_tail : {A : Type 0} (r ps : List Part) → IsTail r → r ≡ Put Colon ∷ ps → A
colon_tail r ps h e = absurd (subst IsTail e h)

pub guard_tells : (c d : Option Expr) (r s : List Part) → IsTail r → IsTail s → guard_parts c ++ r ≡ guard_parts d ++ s → Same c d r s
guard_tells None None r s h i e = (refl, e)
guard_tells None (Some y) r s h i e = colon_tail r _ h e
guard_tells (Some x) None r s h i e = colon_tail s _ i (sym e)
guard_tells (Some x) (Some y) r s h i e = let f = tail_same e in (ap (λ (z : Expr). Some z) (text_same f), tail_same f)

pub wait_tells : (c d : Option Expr) (r s : List Part) → IsTail r → IsTail s → wait_parts c ++ r ≡ wait_parts d ++ s → Same c d r s
wait_tells None None r s h i e = (refl, e)
wait_tells None (Some y) r s h i e = colon_tail r _ h e
wait_tells (Some x) None r s h i e = colon_tail s _ i (sym e)
wait_tells (Some x) (Some y) r s h i e = let f = tail_same (tail_same e) in (ap (λ (z : Expr). Some z) (text_same f), tail_same f)

guards_tell : (mode : Mode) (c d : Option Expr) (r s : List Part) → IsTail r → IsTail s → guards_of mode c ++ r ≡ guards_of mode d ++ s → Same c d r s
guards_tell Calls c d r s h i e = guard_tells c d r s h i e
guards_tell Jumps c d r s h i e = guard_tells c d r s h i e
guards_tell Starts c d r s h i e = wait_tells c d r s h i e

tail_guard : (r : List Part) → IsTail r → IsGuard r
tail_guard [] h = tt
tail_guard (Put Comma ∷ ps) h = tt
tail_guard (Put Close ∷ ps) h = tt
tail_guard (p ∷ ps) h = absurd h

guards_guard : (mode : Mode) (c : Option Expr) (r : List Part) → IsTail r → IsGuard (guards_of mode c ++ r)
guards_guard Calls None r h = tail_guard r h
guards_guard Jumps None r h = tail_guard r h
guards_guard Starts None r h = tail_guard r h
guards_guard Calls (Some x) r h = tt
guards_guard Jumps (Some x) r h = tt
guards_guard Starts (Some x) r h = tt

guard_behind : (r : List Part) → IsGuard r → IsBehind r
guard_behind [] h = tt
guard_behind (Put Colon ∷ ps) h = tt
guard_behind (Put Comma ∷ ps) h = tt
guard_behind (Put Close ∷ ps) h = tt
guard_behind (p ∷ ps) h = absurd h

actuals_behind : (xs : List (Option Expr)) (r : List Part) → IsGuard r → IsBehind (actuals_parts xs ++ r)
actuals_behind [] r h = guard_behind r h
actuals_behind (x ∷ xs) r h = tt

target_made : (a b : Target) → a.label ≡ b.label → a.routine ≡ b.routine → a ≡ b
target_made a b e f = ap (λ (l : Option (List ℕ)). let t : Target = record { label = l; routine = a.routine } in t) e ∙
    ap (λ (v : Option (List ℕ)). let t : Target = record { label = b.label; routine = v } in t) f

called_made : (a b : Called) → a.target ≡ b.target → a.actuals ≡ b.actuals → a.condition ≡ b.condition → a ≡ b
called_made a b e f g =
    ap (λ (t : Target). let c : Called = record { target = t; actuals = a.actuals; condition = a.condition } in c) e
    ∙ ap (λ (xs : List (Option Expr)). let c : Called = record { target = b.target; actuals = xs; condition = a.condition } in c) f
    ∙ ap (λ (x : Option Expr). let c : Called = record { target = b.target; actuals = b.actuals; condition = x } in c) g

entered_tells : (mode : Mode) → Tells (entered_parts mode)
entered_tells mode x y r s h i e =
    let g = guards_guard mode x.condition r h in
    let k = guards_guard mode y.condition s i in
    let a = entry_tells x.target.label x.target.routine y.target.label y.target.routine (actuals_parts x.actuals ++
    (guards_of mode x.condition ++ r)) (actuals_parts y.actuals ++
    (guards_of mode y.condition ++ s)) (actuals_behind x.actuals (guards_of mode x.condition ++ r) g)
    (actuals_behind y.actuals (guards_of mode y.condition ++ s) k) (sym (entered_cut mode x r) ∙ e ∙ entered_cut mode y s) in
    let b = actuals_tell x.actuals y.actuals (guards_of mode x.condition ++ r) (guards_of mode y.condition ++ s) g k a.2 in
    let c = guards_tell mode x.condition y.condition r s h i b.1 in
    (called_made x y (target_made x.target y.target a.0 a.1) b.0 c.0, c.1)

pub called_tells : Tells called_parts
called_tells x y r s h i e = entered_tells Calls x y r s h i e

abbrev as_started : Called → Started
as_started c = record { target = c.target; actuals = c.actuals; timeout = c.condition }

pub started_tells : Tells started_parts
started_tells x y r s h i e = let a = entered_tells Starts (as_entered x) (as_entered y) r s h i e in (ap as_started a.0, a.1)

jumped_made : (a b : Jumped) → a.target ≡ b.target → a.condition ≡ b.condition → a ≡ b
jumped_made a b e f = ap (λ (t : Target). let j : Jumped = record { target = t; condition = a.condition } in j) e ∙
    ap (λ (x : Option Expr). let j : Jumped = record { target = b.target; condition = x } in j) f

pub jumped_tells : Tells jumped_parts
jumped_tells x y r s h i e =
    let a = entered_tells Jumps (as_called x) (as_called y) r s h i e in
    (jumped_made x y (ap (λ (c : Called). c.target) a.0) (ap (λ (c : Called). c.condition) a.0), a.1)

pub range_tells : Tells range_parts
range_tells (Single a) (Single b) r s h i e = (ap Single (text_same e), tail_same e)
range_tells (Single a) (Endless b d) r s h i e = colon_tail r _ h (tail_same e)
range_tells (Single a) (UpTo b d g) r s h i e = colon_tail r _ h (tail_same e)
range_tells (Endless a c) (Single b) r s h i e = colon_tail s _ i (sym (tail_same e))
range_tells (Endless a c) (Endless b d) r s h i e = let f = tail_same (tail_same e) in (ap (λ (x : Expr). Endless x c) (text_same e) ∙ ap (λ (x : Expr). Endless b x) (text_same f), tail_same f)
range_tells (Endless a c) (UpTo b d g) r s h i e = colon_tail r _ h (tail_same (tail_same (tail_same e)))
range_tells (UpTo a c k) (Single b) r s h i e = colon_tail s _ i (sym (tail_same e))
range_tells (UpTo a c k) (Endless b d) r s h i e = colon_tail s _ i (sym (tail_same (tail_same (tail_same e))))
range_tells (UpTo a c k) (UpTo b d g) r s h i e =
    let f = tail_same (tail_same e) in
    let z = tail_same (tail_same f) in
    (ap (λ (x : Expr). UpTo x c k) (text_same e) ∙ ap (λ (x : Expr). UpTo b x k) (text_same f) ∙ ap (λ (x : Expr). UpTo b d x) (text_same z), tail_same z)

pub killed_tells : Tells killed_parts
killed_tells (Gone v) (Gone w) r s h i e = (ap Gone (place_same e), tail_same e)
killed_tells (Gone v) (Spared ws) r s h i e = absurd (let f : Place 0 v ∷ r ≡ Put Open ∷ _ = e in cc)
killed_tells (Spared ws) (Gone w) r s h i e = absurd (let f : Put Open ∷ _ ≡ Place 0 w ∷ s = e in cc)
killed_tells (Spared ws) (Spared vs) r s h i e =
    let a = names_tell ws vs r s (sym (append_assoc (with_commas name_parts ws) (Put Close ∷ []) r) ∙ tail_same e ∙ append_assoc (with_commas name_parts vs) (Put Close ∷ []) s) in
    (ap Spared a.0, a.1)

pub renewed_tells : Tells renewed_parts
renewed_tells (Fresh v) (Fresh w) r s h i e = (ap Fresh (named_same e), tail_same e)
renewed_tells (Fresh v) (Kept ws) r s h i e = absurd (let f : Named v ∷ r ≡ Put Open ∷ _ = e in cc)
renewed_tells (Kept ws) (Fresh w) r s h i e = absurd (let f : Put Open ∷ _ ≡ Named w ∷ s = e in cc)
renewed_tells (Kept ws) (Kept vs) r s h i e =
    let a = names_tell ws vs r s (sym (append_assoc (with_commas name_parts ws) (Put Close ∷ []) r) ∙ tail_same e ∙ append_assoc (with_commas name_parts vs) (Put Close ∷ []) s) in
    (ap Kept a.0, a.1)

variable_tells : Tells variable_parts
variable_tells v w r s h i e = (place_same e, tail_same e)

variables_tell : (vs ws : List Variable) (r s : List Part) → with_commas variable_parts vs ++ Put Close ∷ r ≡ with_commas variable_parts ws ++ Put Close ∷ s → Same vs ws r s
variables_tell [] [] r s e = (refl, tail_same e)
variables_tell [] (w ∷ ws) r s e = absurd (let f : Put Close ∷ r ≡ Place 0 w ∷ _ = e in cc)
variables_tell (v ∷ vs) [] r s e = absurd (let f : Place 0 v ∷ _ ≡ Put Close ∷ s = e in cc)
variables_tell (v ∷ vs) (w ∷ ws) r s e = let a = some_tell variable_parts variable_tells v w vs ws (Put Close ∷ r) (Put Close ∷ s) tt tt e in (a.0, tail_same a.1)

lock_names_tell : (x y : LockNames) (r s : List Part) → lock_names_parts x ++ r ≡ lock_names_parts y ++ s → Same x y r s
lock_names_tell (Lone v) (Lone w) r s e = (ap Lone (place_same e), tail_same e)
lock_names_tell (Lone v) (Together ws) r s e = absurd (let f : Place 0 v ∷ r ≡ Put Open ∷ _ = e in cc)
lock_names_tell (Together vs) (Lone w) r s e = absurd (let f : Put Open ∷ _ ≡ Place 0 w ∷ s = e in cc)
lock_names_tell (Together vs) (Together ws) r s e =
    let a = variables_tell vs ws r s (sym (append_assoc (with_commas variable_parts vs) (Put Close ∷ []) r) ∙ tail_same e ∙ append_assoc (with_commas variable_parts ws) (Put Close ∷ []) s) in
    (ap Together a.0, a.1)

sign_names : {A : Type 0} (x : LockNames) (r ps : List Part) (b : Bool) → lock_names_parts x ++ r ≡ Put (if b then Plus else Minus) ∷ ps → A
sign_names (Lone v) r ps true e = absurd (let f : Place 0 v ∷ r ≡ Put Plus ∷ ps = e in cc)
sign_names (Lone v) r ps false e = absurd (let f : Place 0 v ∷ r ≡ Put Minus ∷ ps = e in cc)
sign_names (Together vs) r ps true e = absurd (let f : Put Open ∷ _ ≡ Put Plus ∷ ps = e in cc)
sign_names (Together vs) r ps false e = absurd (let f : Put Open ∷ _ ≡ Put Minus ∷ ps = e in cc)

modes_tell : (m n : LockMode) (x y : LockNames) (r s : List Part) → mode_parts m ++ (lock_names_parts x ++ r) ≡ mode_parts n ++ (lock_names_parts y ++ s) → (m ≡ n) × (x ≡ y) × (r ≡ s)
modes_tell Whole Whole x y r s e = let a = lock_names_tell x y r s e in (refl, a.0, a.1)
modes_tell Whole Added x y r s e = sign_names x r _ true e
modes_tell Whole Taken x y r s e = sign_names x r _ false e
modes_tell Added Whole x y r s e = sign_names y s _ true (sym e)
modes_tell Added Added x y r s e = let a = lock_names_tell x y r s (tail_same e) in (refl, a.0, a.1)
modes_tell Added Taken x y r s e = absurd (let f : Put Plus ∷ (lock_names_parts x ++ r) ≡ Put Minus ∷ (lock_names_parts y ++ s) = e in cc)
modes_tell Taken Whole x y r s e = sign_names y s _ false (sym e)
modes_tell Taken Added x y r s e = absurd (let f : Put Minus ∷ (lock_names_parts x ++ r) ≡ Put Plus ∷ (lock_names_parts y ++ s) = e in cc)
modes_tell Taken Taken x y r s e = let a = lock_names_tell x y r s (tail_same e) in (refl, a.0, a.1)

locked_made : (a b : Locked) → a.mode ≡ b.mode → a.names ≡ b.names → a.timeout ≡ b.timeout → a ≡ b
locked_made a b e f g =
    ap (λ (m : LockMode). let c : Locked = record { mode = m; names = a.names; timeout = a.timeout } in c) e
    ∙ ap (λ (x : LockNames). let c : Locked = record { mode = b.mode; names = x; timeout = a.timeout } in c) f
    ∙ ap (λ (x : Option Expr). let c : Locked = record { mode = b.mode; names = b.names; timeout = x } in c) g

pub locked_tells : Tells locked_parts
locked_tells x y r s h i e =
    let a = modes_tell x.mode y.mode x.names y.names (guard_parts x.timeout ++ r) (guard_parts y.timeout ++ s) (sym (locked_cut x r) ∙ e ∙ locked_cut y s) in
    let c = guard_tells x.timeout y.timeout r s h i a.2 in
    (locked_made x y a.0 a.1 c.0, c.1)
