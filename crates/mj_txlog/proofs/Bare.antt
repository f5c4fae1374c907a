-- Subscripts below which nothing of the globals is left.
use Rattle.std.proofs.Common.{◌≡◌, ℕ, Bool, true, false, cond, List, [], ◌∷◌, ◌++◌, length, take, drop, ◌+◌, ◌<◌, Option, Some, None, inl, inr, refl, sym, ap, ◌∙◌, subst, append_assoc}
use Rattle.std.proofs.lemmas.List.{take_more, take-append-drop}
use Rattle.std.specs.Prelude.{get_or}
use Rattle.std.specs.Ordering.{is_lt}
use Rattle.std.specs.Option.{is_some, option_or}
use Rattle.std.specs.Cmp.{tied_itself}
use Rattle.mj_subs.specs.Name.{Name}
use Rattle.mj_subs.specs.Collation.{subscript_cmp}
use Rattle.mj_store.specs.declared.store.Direction.{Direction}
use Rattle.mj_store.specs.declared.store.Direction.TheVariants.{Forward, Backward}
use Rattle.mj_store.specs.Nodes.{along}
use Rattle.mj_store.specs.Questions.{Content, with_subscripts, value_at, order_at}
use Rattle.mj_store.specs.Changes.{followed_by}
use Rattle.mj_txlog.specs.Accesses.{Accesses, seen}
use Rattle.mj_txlog.specs.Laid.{Laid, IsLaid, went}
use Rattle.mj_txlog.specs.Skips.{IsBare, AreAllBare, AreBare, IsJump, IsFar, AreSkips}
use Rattle.mj_txlog.proofs.Firsts.{lt_not, not_before, not_both, only_next, next_like}
use Rattle.mj_txlog.proofs.Passing.{run_bare}
use Rattle.mj_txlog.proofs.Stands.{level, stands_from, stands_to, own_stands, other_text, along_total, along_same, is_past, is_as, order_next}

-- one subscript, and more
one_more : (f : Name) (u : List ℕ) (b : List (List ℕ)) → followed_by (followed_by f (u ∷ [])) b ≡ followed_by f (u ∷ b)
one_more f u b = ap (with_subscripts f) (append_assoc f.subscripts (u ∷ []) b)

own_text : (x y : Option (List ℕ)) (w : Bool) → (w ≡ false → y ≡ None) → is_some (option_or x (cond w None y)) ≡ true → is_some x ≡ true
own_text (Some v) y w none h = refl
own_text None y true none h = absurd cc
own_text None y false none h = sym (ap is_some (none refl)) ∙ h

-- what is seen there is an own text
pub left_own : (o : Laid) (es : Accesses) → IsLaid o es → (g : Content) (f : Name) (u : List ℕ) → IsBare g o.gone f u → level (seen g es) f u ≡ true → level o.over f u ≡ true
left_own o es laid g f u bare h =
    let i = stands_to (followed_by f (u ∷ [])) (seen g es) h in
    let m = followed_by (followed_by f (u ∷ [])) i.b in
    let none : went o.gone m ≡ false → value_at g m ≡ None =
    subst (λ (k : Name). went o.gone k ≡ false → value_at g k ≡ None) (sym (one_more f u i.b)) (bare i.b)
    in
    stands_from (followed_by f (u ∷ [])) i.b o.over (own_text (value_at o.over m) (value_at g m) (went o.gone m) none (sym (ap is_some (laid m g)) ∙ i.there))

-- where nothing stands, nothing is left
pub nothing_bare : (g gone : Content) (f : Name) (u : List ℕ) → level g f u ≡ false → IsBare g gone f u
nothing_bare g gone f u none b w =
    elim (value_at g (followed_by f (u ∷ b))) as (λ r. value_at g (followed_by f (u ∷ b)) ≡ r → r ≡ None) [
      | None ↦ λ e. refl
      | Some v ↦ λ e. not_both (level g f u) (stands_from (followed_by f (u ∷ [])) b g (ap (λ (k : Name). is_some (value_at g k)) (one_more f u b) ∙ ap is_some e)) none
    ] refl

-- and where nothing is seen
pub unseen_bare : (o : Laid) (es : Accesses) → IsLaid o es → (g : Content) (f : Name) (u : List ℕ) → level (seen g es) f u ≡ false → IsBare g o.gone f u
unseen_bare o es laid g f u none b w =
    elim (value_at g (followed_by f (u ∷ b))) as (λ r. value_at g (followed_by f (u ∷ b)) ≡ r → r ≡ None) [
      | None ↦ λ e. refl
      | Some v ↦ λ e. not_both (level (seen g es) f u)
          (other_text o es laid g (followed_by f (u ∷ [])) b (ap (went o.gone) (one_more f u b) ∙ w) (ap (λ (k : Name). is_some (value_at g k)) (one_more f u b) ∙ ap is_some e)) none
    ] refl

self_ahead : (way : Direction) (u : List ℕ) → is_lt (along way subscript_cmp u u) ≡ false
self_ahead way u = ap is_lt (tied_itself (along_total way) u)

-- one subscript alone
pub one_jump : (g gone : Content) (f : Name) (way : Direction) (u : List ℕ) → IsBare g gone f u → IsJump g gone f way u u
one_jump g gone f way u bare = record {
  ahead = self_ahead way u;
  bare = λ v above below. elim (lt_not (along way subscript_cmp) (along_total way) (along_same way) v u above) [
    | inl same ↦ subst (IsBare g gone f) (sym same) bare
    | inr past ↦ not_both (is_lt (along way subscript_cmp u v)) past below
  ];
}

-- a run that was kept
pub far_jump : (g gone runs : Content) (f : Name) (way : Direction) (u far : List ℕ) → AreSkips g gone runs → IsFar runs f u way far → IsJump g gone f way u far
far_jump g gone runs f Forward u far skips (c, d, run, e) =
    let bare : AreBare g gone f c d = run_bare g gone runs skips f c d run.there in
    subst (IsJump g gone f Forward u) (sym e) (record {
      ahead = run.to;
      bare = λ v above below. bare v (not_before subscript_cmp (along_total Forward) (along_same Forward) c u v run.from above) below;
    })
far_jump g gone runs f Backward u far skips (c, d, run, e) =
    let bare : AreBare g gone f c d = run_bare g gone runs skips f c d run.there in
    subst (IsJump g gone f Backward u) (sym e) (record {
      ahead = run.from;
      bare = λ v above below. bare v below (not_before subscript_cmp (along_total Forward) (along_same Forward) v u d above run.to);
    })

-- nothing is left of where a jump leads
pub end_bare : (g gone : Content) (f : Name) (way : Direction) (a b : List ℕ) → IsJump g gone f way a b → IsBare g gone f b
end_bare g gone f way a b jump = jump.bare b jump.ahead (self_ahead way b)

-- ---- below a name that lies in a run

split_at : (p : List (List ℕ)) (k : ℕ) (x : List ℕ) → k < length p → x ≡ get_or p k x → take k p ++ x ∷ drop (k + 1) p ≡ p
split_at p k x few is =
    sym (append_assoc (take k p) (x ∷ []) (drop (k + 1) p))
    ∙ ap (λ (l : List (List ℕ)). l ++ drop (k + 1) p) (ap (λ (y : List ℕ). take k p ++ y ∷ []) is ∙ sym (take_more p k x few))
    ∙ take-append-drop (k + 1) p

-- what is below a front of which nothing is left has nothing left
pub covered : (g gone : Content) (n : Name) (k : ℕ) (x : List ℕ) → k < length n.subscripts → x ≡ get_or n.subscripts k x
    → IsBare g gone (with_subscripts n (take k n.subscripts)) x → AreAllBare g gone n
covered g gone n k x few is bare u below =
    let p = n.subscripts in
    let rest = drop (k + 1) p ++ u ∷ below in
    let same : take k p ++ x ∷ rest ≡ p ++ u ∷ below =
    sym (append_assoc (take k p) (x ∷ drop (k + 1) p) (u ∷ below)) ∙ ap (λ (l : List (List ℕ)). l ++ u ∷ below) (split_at p k x few is)
    in
    subst (λ (l : List (List ℕ)). went gone (with_subscripts n l) ≡ false → value_at g (with_subscripts n l) ≡ None) same (bare rest)

-- the first of a run
pub begin_bare : (g gone : Content) (f : Name) (way : Direction) (a b : List ℕ) → IsJump g gone f way a b → IsBare g gone f a
begin_bare g gone f way a b jump = jump.bare a (self_ahead way a) jump.ahead

-- there $ORDER is that of the own texts
pub bare_order : (o : Laid) (es : Accesses) → IsLaid o es → (g : Content) (f : Name) (s : List ℕ) (way : Direction) → AreAllBare g o.gone f
    → order_at o.over (followed_by f (s ∷ [])) way ≡ order_at (seen g es) (followed_by f (s ∷ [])) way
bare_order o es laid g f s way bare =
    let r = order_at o.over (followed_by f (s ∷ [])) way in
    only_next (along way subscript_cmp) (along_total way) (along_same way) (level (seen g es) f) (is_past way s) r (order_at (seen g es) (followed_by f (s ∷ [])) way)
    (next_like (along way subscript_cmp) (level o.over f) (level (seen g es) f) (is_past way s) r
    (λ t. is_as (level o.over f t) (level (seen g es) f t) (own_stands o es laid g (followed_by f (t ∷ []))) (left_own o es laid g f t (bare t)))
    (order_next o.over f s way))
    (order_next (seen g es) f s way)
