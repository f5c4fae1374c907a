-- The first of some elements in an order, and of what stands in two places together.
use Rattle.std.proofs.Common.{◌≡◌, Bool, true, false, cond, ◌||◌, List, [], ◌∷◌, Option, Some, None, ◌⊎◌, inl, inr, refl, sym, ap, ◌∙◌, subst}
use Rattle.std.specs.declared.cmp.Ordering.{Ordering}
use Rattle.std.specs.declared.cmp.Ordering.TheVariants.{Less, Equal, Greater}
use Rattle.std.specs.Ordering.{is_eq, is_lt, ordering_reverse}
use Rattle.std.specs.Cmp.{IsTotalOrder, tied_itself}
use Rattle.std.specs.FinMap.{IsAntisymmetric}
use Rattle.std.specs.List.{filter, fold, list_any}
use Rattle.mj_store.specs.Nodes.{first_of, least}
use Rattle.mj_txlog.specs.Laid.{is_before}

pub either_true : (a b : Bool) → (a || b) ≡ true → (a ≡ true) ⊎ (b ≡ true)
either_true true b e = inl refl
either_true false b e = inr e

pub first_true : (a b : Bool) → a ≡ true → (a || b) ≡ true
first_true true b e = refl
first_true false b e = absurd cc

pub second_true : (a b : Bool) → b ≡ true → (a || b) ≡ true
second_true true b e = refl
second_true false b e = e

or_more : (a b c : Bool) → ((a || b) || c) ≡ (a || (b || c))
or_more true b c = refl
or_more false b c = refl

or_nothing : (a : Bool) → (a || false) ≡ a
or_nothing true = refl
or_nothing false = refl

pub not_both : {A : Type 0} (b : Bool) → b ≡ true → b ≡ false → A
not_both true e f = absurd cc
not_both false e f = absurd cc

pub lt_is : (r : Ordering) → is_lt r ≡ true → r ≡ Less
lt_is Less e = refl
lt_is Equal e = absurd cc
lt_is Greater e = absurd cc

pub eq_is : (r : Ordering) → is_eq r ≡ true → r ≡ Equal
eq_is Less e = absurd cc
eq_is Equal e = refl
eq_is Greater e = absurd cc

module _ {K : Type 0} (Q : K → K → Ordering) where
  -- whether an element is one of the list, by the order
  abbrev pub among : List K → K → Bool
  among xs t = list_any (λ x. is_eq (Q t x)) xs

  -- the first of what there is that passes the test
  abbrev pub IsNext : (K → Bool) → (K → Bool) → Option K → Type 0
  IsNext has test None = (u : K) → has u ≡ true → test u ≡ false
  IsNext has test (Some t) = (has t ≡ true) × (test t ≡ true) × ((u : K) → has u ≡ true → test u ≡ true → is_lt (Q u t) ≡ false)

  pub next_like : (has its test : K → Bool) (r : Option K) → ((u : K) → has u ≡ its u) → IsNext has test r → IsNext its test r
  next_like has its test None e h = λ u x. h u (e u ∙ x)
  next_like has its test (Some t) e h = (sym (e t) ∙ h.0, h.1, λ u x. h.2 u (e u ∙ x))

  -- what was passed over, where one is looked for that passes p among what passes q, stands in the one place, and is seen only where it is an own one
  pub record IsPast (p q ho hg hs : K → Bool) : Type 0 where
    pub within : (u : K) → q u ≡ true → p u ≡ true
    pub hidden : (u : K) → hg u ≡ true → p u ≡ true → (q u ≡ true) ⊎ (hs u ≡ true → ho u ≡ true)

  pub none_past : (p ho hg hs : K → Bool) → IsPast p p ho hg hs
  none_past p ho hg hs = record { within = λ u e. e; hidden = λ u x y. inl y }

module _ {K : Type 0} (Q : K → K → Ordering) (o : IsTotalOrder Q) (same : IsAntisymmetric Q) where
  lt_trans : (x y z : K) → is_lt (Q x y) ≡ true → is_lt (Q y z) ≡ true → is_lt (Q x z) ≡ true
  lt_trans x y z p q = ap is_lt (o.trans x y z (lt_is (Q x y) p) (lt_is (Q y z) q))

  pub lt_asym : (x y : K) → is_lt (Q x y) ≡ true → is_lt (Q y x) ≡ false
  lt_asym x y p = ap is_lt (o.antisymm y x ∙ ap ordering_reverse (lt_is (Q x y) p))

  pub lt_not : (x y : K) → is_lt (Q x y) ≡ false → (x ≡ y) ⊎ (is_lt (Q y x) ≡ true)
  lt_not x y p =
      elim (Q x y) as (λ r. Q x y ≡ r → is_lt r ≡ false → (x ≡ y) ⊎ (is_lt (Q y x) ≡ true)) [
        | Less ↦ λ e f. absurd cc
        | Equal ↦ λ e f. inl (same x y e)
        | Greater ↦ λ e f. inr (ap is_lt (o.antisymm y x ∙ ap ordering_reverse e))
      ] refl p

  self_not : (x : K) → is_lt (Q x x) ≡ false
  self_not x = ap is_lt (tied_itself o x)

  -- what isn't before one, isn't before what stands before or at that
  pub not_before : (x y u : K) → is_lt (Q y x) ≡ false → is_lt (Q u y) ≡ false → is_lt (Q u x) ≡ false
  not_before x y u p q =
      elim (lt_not y x p) [
        | inl e ↦ subst (λ z. is_lt (Q u z) ≡ false) e q
        | inr e ↦ elim (lt_not u y q) [
          | inl f ↦ subst (λ z. is_lt (Q z x) ≡ false) (sym f) p
          | inr f ↦ lt_asym x u (lt_trans x y u e f)
        ]
      ]

  -- there is one first at most
  pub only_next : (has test : K → Bool) (r s : Option K) → IsNext Q has test r → IsNext Q has test s → r ≡ s
  only_next has test None None h k = refl
  only_next has test None (Some t) h k = not_both (test t) k.1 (h t k.0)
  only_next has test (Some t) None h k = not_both (test t) h.1 (k t h.0)
  only_next has test (Some t) (Some u) h k =
      elim (lt_not t u (k.2 t h.0 h.1)) [
        | inl e ↦ ap Some e
        | inr e ↦ not_both (is_lt (Q u t)) e (h.2 u k.0 k.1)
      ]

  module _ (test : K → Bool) where
    one_kept : (has : K → Bool) (acc : Option K) (x : K) → test x ≡ false → IsNext Q has test acc → IsNext Q (λ u. has u || is_eq (Q u x)) test acc
    one_kept has None x fails h = λ u y. elim (either_true (has u) (is_eq (Q u x)) y) [
      | inl e ↦ h u e
      | inr e ↦ ap test (same u x (eq_is (Q u x) e)) ∙ fails
    ]
    one_kept has (Some t) x fails h = (
      first_true (has t) (is_eq (Q t x)) h.0,
      h.1,
      λ u y z. elim (either_true (has u) (is_eq (Q u x)) y) [
        | inl e ↦ h.2 u e z
        | inr e ↦ not_both (test u) z (ap test (same u x (eq_is (Q u x) e)) ∙ fails)
      ],
    )

    one_more : (has : K → Bool) (acc : Option K) (x : K) → test x ≡ true → IsNext Q has test acc → IsNext Q (λ u. has u || is_eq (Q u x)) test (first_of Q acc x)
    one_more has None x passes h = (
      second_true (has x) (is_eq (Q x x)) (ap is_eq (tied_itself o x)),
      passes,
      λ u y z. elim (either_true (has u) (is_eq (Q u x)) y) [
        | inl e ↦ not_both (test u) z (h u e)
        | inr e ↦ ap is_lt (eq_is (Q u x) e)
      ],
    )
    one_more has (Some t) x passes h =
        elim (is_lt (Q x t)) as (λ b. is_lt (Q x t) ≡ b → IsNext Q (λ u. has u || is_eq (Q u x)) test (cond b (Some x) (Some t))) [
          | true ↦ λ b. (
            second_true (has x) (is_eq (Q x x)) (ap is_eq (tied_itself o x)),
            passes,
            λ u y z. elim (either_true (has u) (is_eq (Q u x)) y) [
              | inl e ↦ not_before x t u (lt_asym x t b) (h.2 u e z)
              | inr e ↦ ap is_lt (eq_is (Q u x) e)
            ],
          )
          | false ↦ λ b. (
            first_true (has t) (is_eq (Q t x)) h.0,
            h.1,
            λ u y z. elim (either_true (has u) (is_eq (Q u x)) y) [
              | inl e ↦ h.2 u e z
              | inr e ↦ ap (λ v. is_lt (Q v t)) (same u x (eq_is (Q u x) e)) ∙ b
            ],
          )
        ] refl

    all_more : (has : K → Bool) (acc : Option K) (xs : List K) → IsNext Q has test acc → IsNext Q (λ u. has u || among Q xs u) test (fold (first_of Q) acc (filter test xs))
    all_more has acc [] h = next_like Q has (λ u. has u || false) test acc (λ u. sym (or_nothing (has u))) h
    all_more has acc (x ∷ xs) h =
        elim (test x) as (λ b. test x ≡ b → IsNext Q (λ u. has u || (is_eq (Q u x) || among Q xs u)) test (fold (first_of Q) acc (cond b (x ∷ filter test xs) (filter test xs)))) [
          | true ↦ λ e. next_like Q (λ u. (has u || is_eq (Q u x)) || among Q xs u) (λ u. has u || (is_eq (Q u x) || among Q xs u)) test (fold (first_of Q) (first_of Q acc x) (filter test xs))
              (λ u. or_more (has u) (is_eq (Q u x)) (among Q xs u)) (all_more (λ u. has u || is_eq (Q u x)) (first_of Q acc x) xs (one_more has acc x e h))
          | false ↦ λ e. next_like Q (λ u. (has u || is_eq (Q u x)) || among Q xs u) (λ u. has u || (is_eq (Q u x) || among Q xs u)) test (fold (first_of Q) acc (filter test xs))
              (λ u. or_more (has u) (is_eq (Q u x)) (among Q xs u)) (all_more (λ u. has u || is_eq (Q u x)) acc xs (one_kept has acc x e h))
        ] refl

    -- the least of those that pass is the first
    pub least_next : (xs : List K) → IsNext Q (among Q xs) test (least Q (filter test xs))
    least_next xs = all_more (λ u. false) None xs (λ u e. absurd cc)

  -- what is seen is what stands in the own place, and some of what stands in the other
  module _ (p q ho hg hs : K → Bool) (up : (u : K) → ho u ≡ true → hs u ≡ true) (down : (u : K) → hs u ≡ true → (ho u ≡ true) ⊎ (hg u ≡ true)) (past : IsPast Q p q ho hg hs) where
    pub own_alone : (r : Option K) → IsNext Q hg q None → IsNext Q ho p r → IsNext Q hs p r
    own_alone None g h = λ u x. elim (down u x) [
      | inl e ↦ h u e
      | inr e ↦ elim (p u) as (λ b. p u ≡ b → b ≡ false) [
        | false ↦ λ f. refl
        | true ↦ λ f. elim (past.hidden u e f) [ inl y ↦ not_both (q u) y (g u e) | inr y ↦ not_both (p u) f (h u (y x)) ]
      ] refl
    ]
    own_alone (Some t) g h = (
      up t h.0,
      h.1,
      λ u x z. elim (down u x) [
        | inl e ↦ h.2 u e z
        | inr e ↦ elim (past.hidden u e z) [ inl y ↦ not_both (q u) y (g u e) | inr y ↦ h.2 u (y x) z ]
      ],
    )

    pub own_first : (g : K) (r : Option K) → IsNext Q hg q (Some g) → IsNext Q ho p r → is_before Q g r ≡ false → IsNext Q hs p r
    own_first g None k h b = absurd cc
    own_first g (Some t) k h b = (
      up t h.0,
      h.1,
      λ u x z. elim (down u x) [
        | inl e ↦ h.2 u e z
        | inr e ↦ elim (past.hidden u e z) [ inl y ↦ not_before t g u b (k.2 u e y) | inr y ↦ h.2 u (y x) z ]
      ],
    )

    own_later : (g u : K) (r : Option K) → is_before Q g r ≡ true → IsNext Q ho p r → ho u ≡ true → p u ≡ true → is_lt (Q u g) ≡ false
    own_later g u None b h e z = not_both (p u) z (h u e)
    own_later g u (Some t) b h e z = not_before g t u (lt_asym g t b) (h.2 u e z)

    pub other_first : (g : K) (r : Option K) → IsNext Q hg q (Some g) → IsNext Q ho p r → is_before Q g r ≡ true → hs g ≡ true → IsNext Q hs p (Some g)
    other_first g r k h b s = (
      s,
      past.within g k.1,
      λ u x z. elim (down u x) [
        | inl e ↦ own_later g u r b h e z
        | inr e ↦ elim (past.hidden u e z) [ inl y ↦ k.2 u e y | inr y ↦ own_later g u r b h (y x) z ]
      ],
    )

    -- from the first one in the other place to one that isn't before it, all that is seen is an own one
    pub passed : (g d : K) → IsNext Q hg q (Some g) → is_lt (Q d g) ≡ false → ((u : K) → is_lt (Q u g) ≡ false → is_lt (Q d u) ≡ false → hs u ≡ true → ho u ≡ true)
        → ((u : K) → p g ≡ true → is_lt (Q g u) ≡ true → p u ≡ true) → IsPast Q p (λ u. is_lt (Q d u)) ho hg hs
    passed g d k ahead run on = record {
      within = λ u e. on u (past.within g k.1) (elim (lt_not d g ahead) [ inl same ↦ subst (λ x. is_lt (Q x u) ≡ true) same e | inr before ↦ lt_trans g d u before e ]);
      hidden = λ u x z. elim (past.hidden u x z) [
        | inl y ↦ elim (is_lt (Q d u)) as (λ b. is_lt (Q d u) ≡ b → (b ≡ true) ⊎ (hs u ≡ true → ho u ≡ true)) [ true ↦ λ e. inl refl | false ↦ λ e. inr (run u (k.2 u x y) e) ] refl
        | inr y ↦ inr y
      ];
    }

  -- those past one are past what stands before it
  pub past_on : (blank : Bool) (s g u : K) → (blank || is_lt (Q s g)) ≡ true → is_lt (Q g u) ≡ true → (blank || is_lt (Q s u)) ≡ true
  past_on true s g u h e = refl
  past_on false s g u h e = lt_trans s g u h e
