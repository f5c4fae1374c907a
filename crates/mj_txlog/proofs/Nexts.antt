-- What stands next among what is seen, by what stands next of the own texts and of the globals.
use Rattle.std.proofs.Common.{◌≡◌, ℕ, Bool, true, false, not, nat_eq, ◌||◌, List, [], ◌∷◌, Option, Some, None, ◌⊎◌, inl, inr, refl, sym, ap, ◌∙◌, subst}
use Rattle.std.specs.Prelude.{T, ◌↔◌, IsTrue}
use Rattle.std.specs.FinMap.{is_sorted}
use Rattle.std.specs.Ordering.{is_lt}
use Rattle.mj_subs.specs.Name.{Name}
use Rattle.mj_subs.specs.Collation.{subscript_cmp, name_cmp}
use Rattle.mj_store.specs.declared.store.Direction.{Direction}
use Rattle.mj_store.specs.Nodes.{is_empty, along, next_past, first_subscripts}
use Rattle.mj_store.specs.Questions.{Content, Subtree, data_at, order_at}
use Rattle.mj_store.specs.Changes.{followed_by}
use Rattle.mj_txlog.specs.Accesses.{Accesses, seen}
use Rattle.mj_txlog.specs.Laid.{Laid, IsLaid, is_before}
use Rattle.mj_txlog.proofs.Firsts.{IsNext, IsPast, none_past, only_next, own_alone, own_first, other_first, passed, past_on, not_both, lt_not, second_true}
use Rattle.mj_txlog.specs.Sight.{AreAlike}
use Rattle.mj_txlog.specs.Skips.{IsBare, AreBareAlong, IsJump}
use Rattle.mj_txlog.specs.declared.next.StepOutcome.{StepOutcome}
use Rattle.mj_txlog.specs.declared.next.StepOutcome.TheVariants as step
use Rattle.mj_txlog.specs.Steps.{IsStep, IsFound}
use Rattle.mj_txlog.proofs.Bare.{left_own, nothing_bare}
use Rattle.mj_txlog.proofs.Looks.{subtree_alike}
use Rattle.mj_txlog.proofs.Sorted.{rises_seen}
use Rattle.mj_txlog.proofs.Stands.{stands, data_stands, is_past, level, along_total, along_same, order_level, order_next, own_stands, seen_stands}

-- from the one subscript to the other, what stands in the globals is to be seen only where an own text does
abbrev pub ArePassed : Content → Content → Content → Name → Direction → List ℕ → List ℕ → Type 0
ArePassed over g sees f way s t = IsPast (along way subscript_cmp) (is_past way s) (is_past way t) (level over f) (level g f) (level sees f)

pub none_passed : (over g sees : Content) (f : Name) (way : Direction) (s : List ℕ) → ArePassed over g sees f way s s
none_passed over g sees f way s = none_past (along way subscript_cmp) (is_past way s) (level over f) (level g f) (level sees f)

module _ (o : Laid) (es : Accesses) (laid : IsLaid o es) (g : Content) (f : Name) (way : Direction) (s t : List ℕ) (past : ArePassed o.over g (seen g es) f way s t) where
  up : (u : List ℕ) → level o.over f u ≡ true → level (seen g es) f u ≡ true
  up u = own_stands o es laid g (followed_by f (u ∷ []))

  down : (u : List ℕ) → level (seen g es) f u ≡ true → (level o.over f u ≡ true) ⊎ (level g f u ≡ true)
  down u = seen_stands o es laid g (followed_by f (u ∷ []))

  -- the next one of those that are seen
  the_next : (r : Option (List ℕ)) → IsNext (along way subscript_cmp) (level (seen g es) f) (is_past way s) r → r ≡ order_at (seen g es) (followed_by f (s ∷ [])) way
  the_next r h =
      only_next (along way subscript_cmp) (along_total way) (along_same way) (level (seen g es) f) (is_past way s) r (order_at (seen g es) (followed_by f (s ∷ [])) way) h
      (order_next (seen g es) f s way)

  own_next : (r : Option (List ℕ)) → r ≡ order_at o.over (followed_by f (s ∷ [])) way → IsNext (along way subscript_cmp) (level o.over f) (is_past way s) r
  own_next r e = subst (λ (x : Option (List ℕ)). IsNext (along way subscript_cmp) (level o.over f) (is_past way s) x) (sym e) (order_next o.over f s way)

  other_next : (r : Option (List ℕ)) → r ≡ order_at g (followed_by f (t ∷ [])) way → IsNext (along way subscript_cmp) (level g f) (is_past way t) r
  other_next r e = subst (λ (x : Option (List ℕ)). IsNext (along way subscript_cmp) (level g f) (is_past way t) x) (sym e) (order_next g f t way)

  own_only : (r : Option (List ℕ)) → r ≡ order_at o.over (followed_by f (s ∷ [])) way → None ≡ order_at g (followed_by f (t ∷ [])) way → r ≡ order_at (seen g es) (followed_by f (s ∷ [])) way
  own_only r e none =
      the_next r
      (own_alone (along way subscript_cmp) (along_total way) (along_same way) (is_past way s) (is_past way t) (level o.over f) (level g f) (level (seen g es) f) up down past r (other_next None none)
      (own_next r e))

  own_sooner : (r : Option (List ℕ)) (u : List ℕ) → r ≡ order_at o.over (followed_by f (s ∷ [])) way → Some u ≡ order_at g (followed_by f (t ∷ [])) way
      → is_before (along way subscript_cmp) u r ≡ false → r ≡ order_at (seen g es) (followed_by f (s ∷ [])) way
  own_sooner r u e k b =
      the_next r
      (own_first (along way subscript_cmp) (along_total way) (along_same way) (is_past way s) (is_past way t) (level o.over f) (level g f) (level (seen g es) f) up down past u r
      (other_next (Some u) k) (own_next r e) b)

  -- the own one is, where none of the globals comes before it
  own_here : (r : Option (List ℕ)) → r ≡ order_at o.over (followed_by f (s ∷ [])) way
      → ((u : List ℕ) → order_at g (followed_by f (t ∷ [])) way ≡ Some u → is_before (along way subscript_cmp) u r ≡ false) → r ≡ order_at (seen g es) (followed_by f (s ∷ [])) way
  own_here r e h =
      elim (order_at g (followed_by f (t ∷ [])) way) as (λ x. order_at g (followed_by f (t ∷ [])) way ≡ x → r ≡ order_at (seen g es) (followed_by f (s ∷ [])) way) [
        | None ↦ λ k. own_only r e (sym k)
        | Some u ↦ λ k. own_sooner r u e (sym k) (h u k)
      ] refl

  other_sooner : (r : Option (List ℕ)) (u : List ℕ) → r ≡ order_at o.over (followed_by f (s ∷ [])) way → Some u ≡ order_at g (followed_by f (t ∷ [])) way
      → is_before (along way subscript_cmp) u r ≡ true → stands (seen g es) (followed_by f (u ∷ [])) ≡ true → Some u ≡ order_at (seen g es) (followed_by f (s ∷ [])) way
  other_sooner r u e k b there =
      the_next (Some u)
      (other_first (along way subscript_cmp) (along_total way) (along_same way) (is_past way s) (is_past way t) (level o.over f) (level g f) (level (seen g es) f) up down past u r
      (other_next (Some u) k) (own_next r e) b there)

  -- what is seen where nothing of the globals is left is an own text
  bare_own : (v : List ℕ) → IsBare g o.gone f v → level (seen g es) f v ≡ true → level o.over f v ≡ true
  bare_own v bare = left_own o es laid g f v bare

  pub run_passed : (u d : List ℕ) → Some u ≡ order_at g (followed_by f (t ∷ [])) way → is_empty d ≡ false → IsJump g o.gone f way u d → ArePassed o.over g (seen g es) f way s d
  run_passed u d k full jump =
      subst (λ (b : Bool). IsPast (along way subscript_cmp) (is_past way s) (λ v. b || is_lt (along way subscript_cmp d v)) (level o.over f) (level g f) (level (seen g es) f)) (sym full)
      (passed (along way subscript_cmp) (along_total way) (along_same way) (is_past way s) (is_past way t) (level o.over f) (level g f) (level (seen g es) f) up down past u d (other_next (Some u) k)
      jump.ahead
      (λ v above below. bare_own v (jump.bare v above below))
      (λ v x y. past_on (along way subscript_cmp) (along_total way) (along_same way) (is_empty s) s u v x y))

-- from what was passed last to what is passed next
pub joins_on : (o : Laid) (es : Accesses) (laid : IsLaid o es) (g : Content) (f : Name) (way : Direction) (t u d : List ℕ) → Some u ≡ order_at g (followed_by f (t ∷ [])) way → IsBare g o.gone f t
    → IsJump g o.gone f way u d → AreBareAlong g o.gone f way t d
joins_on o es laid g f way t u d k here jump v above below =
    let next = other_next o es laid g f way t t (none_passed o.over g (seen g es) f way t) (Some u) k in
    elim (is_lt (along way subscript_cmp v u)) as (λ b. is_lt (along way subscript_cmp v u) ≡ b → IsBare g o.gone f v) [
      | false ↦ λ e. jump.bare v e below
      | true ↦ λ e. elim (lt_not (along way subscript_cmp) (along_total way) (along_same way) v t above) [
        | inl same ↦ subst (IsBare g o.gone f) (sym same) here
        | inr past ↦ nothing_bare g o.gone f v
            (elim (level g f v) as (λ b. level g f v ≡ b → b ≡ false) [
              | false ↦ λ n. refl
              | true ↦ λ n. not_both (is_lt (along way subscript_cmp v u)) e (next.2 v n (second_true (is_empty t) (is_lt (along way subscript_cmp t v)) past))
            ] refl)
      ]
    ] refl

-- $ORDER of a store that is as what is seen, at a name and below it
pub copied_order : (f : Name) (s : List ℕ) (way : Direction) (below g : Content) (es : Accesses) → T (is_sorted name_cmp below) → T (is_sorted name_cmp g) → AreAlike f below (seen g es)
    → order_at below (followed_by f (s ∷ [])) way ≡ order_at (seen g es) (followed_by f (s ∷ [])) way
copied_order f s way below g es h k alike =
    order_level below f s way
    ∙ ap (λ (nodes : Subtree). next_past subscript_cmp way (is_empty s) s (first_subscripts nodes)) (subtree_alike f below (seen g es) h (rises_seen g es k) alike)
    ∙ sym (order_level (seen g es) f s way)

-- a subscript that isn't blank, as the crate below says it
pub full_so : (b : Bool) (s : List ℕ) → (IsTrue b ↔ (s ≡ [])) → b ≡ false → is_empty s ≡ false
full_so b [] h e = not_both b (h.1 refl) e
full_so b (x ∷ s) h e = refl

-- $DATA says whether something stands
pub said : (c : Content) (n : Name) (b : Bool) → stands c n ≡ b → b ≡ not (nat_eq (data_at c n) 0)
said c n b e = sym (data_stands c n ∙ e)

pub told : (c : Content) (n : Name) (b r : Bool) → r ≡ not (nat_eq (data_at c n) 0) → r ≡ b → stands c n ≡ b
told c n b r e k = sym (data_stands c n) ∙ sym e ∙ k

-- what a step came to, from where all that was passed over is to be seen only where an own text is
pub found_next : (o : Laid) (g : Content) (f : Name) (way : Direction) (s t : List ℕ) → ((es : Accesses) → IsLaid o es → ArePassed o.over g (seen g es) f way s t) → (mine : Option (List ℕ))
    → mine ≡ order_at o.over (followed_by f (s ∷ [])) way → (step : StepOutcome) (d : List ℕ) → IsStep g o f way mine t step d → IsFound g o f s way mine step
found_next o g f way s t past mine e step.Own d h = λ es laid. own_here o es laid g f way s t (past es laid) mine e h
found_next o g f way s t past mine e (step.Other u) d h = λ es laid.
    other_sooner o es laid g f way s t (past es laid) mine u e (sym h.0) h.1 (told (seen g es) (followed_by f (u ∷ [])) true true (sym (h.2 es laid)) refl)
found_next o g f way s t past mine e step.Passed d h = tt
found_next o g f way s t past mine e step.Unclear d h = tt
