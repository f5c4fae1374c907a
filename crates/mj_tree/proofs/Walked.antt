-- What a walk over all children has a sink take.
use Rattle.std.proofs.Common.{◌≡◌, ℕ, Bool, List, [], ◌∷◌, ◌++◌, Option, sym, ap, ◌∙◌, subst, refl}
use Rattle.std.specs.Prelude.{Result, Ok, Err, IfErr, IsErrAnd}
use Rattle.mj_store.specs.Questions.{Content, Subtree}
use Rattle.mj_tree.specs.declared.sink.SinkStop.{SinkStop}
use Rattle.mj_tree.specs.Nest.{own, under, behind, below}
use Rattle.mj_tree.specs.Walks.{named, ClosesAmong, StopsSo}
use Rattle.mj_tree.proofs.Copies.{behind-append, behind_one, joined}

named-append : (g : Bool) (w : List ℕ) (xs ys : Subtree) → named g w (xs ++ ys) ≡ named g w xs ++ named g w ys
named-append g w [] ys = refl
named-append g w (x ∷ xs) ys = ap (λ (r : Content). (record { global = g; word = w; subscripts = x.0 }, x.1) ∷ r) (named-append g w xs ys)

-- the names of two parts, one behind the other, all behind a front
pub named_parts : (g : Bool) (w : List ℕ) (front : List (List ℕ)) (xs ys : Subtree) → named g w (behind front (xs ++ ys)) ≡ named g w (behind front xs) ++ named g w (behind front ys)
named_parts g w front xs ys = ap (named g w) (behind-append front xs ys) ∙ named-append g w (behind front xs) (behind front ys)

-- one child's names stand before those of the children after it
pub child_first : (g : Bool) (w : List ℕ) (front f longer : List (List ℕ)) (sub : List ℕ) (child : Subtree) (ks rest : List (List ℕ × Subtree)) → f ≡ front → ks ≡ (sub, child) ∷ rest
    → longer ≡ f ++ sub ∷ [] → named g w (behind longer child) ++ named g w (behind front (below rest)) ≡ named g w (behind front (below ks))
child_first g w front f longer sub child ks rest same next is =
    (λ i. named g w (behind ((is ∙ ap (λ (p : List (List ℕ)). p ++ sub ∷ []) same) i) child) ++ named g w (behind front (below rest)))
    ∙ ap (λ (n : Subtree). named g w n ++ named g w (behind front (below rest))) (behind_one front sub child)
    ∙ sym (named_parts g w front (under sub child) (below rest))
    ∙ ap (λ (cs : List (List ℕ × Subtree)). named g w (behind front (below cs))) (sym next)

-- the node's own name stands before those of its children
pub own_first : (g : Bool) (w : List ℕ) (front : List (List ℕ)) (text : Option (List ℕ)) (ks : List (List ℕ × Subtree)) (node : Subtree) → own text ++ below ks ≡ node
    → named g w (behind front (own text)) ++ named g w (behind front (below ks)) ≡ named g w (behind front node)
own_first g w front text ks node is = sym (named_parts g w front (own text) (below ks)) ∙ ap (λ (n : Subtree). named g w (behind front n)) is

module _ {A : Type 0} (closes : A → Content → A → Type 0) where
  -- it closed among these, so it did among more
  pub closes_before : (r t : A) (xs ys all : Content) → xs ++ ys ≡ all → ClosesAmong closes r xs t → ClosesAmong closes r all t
  closes_before r t xs ys all is at = record {
    walked = at.walked;
    left = at.left ++ ys;
    are_all = sym is ∙ ap (λ (zs : Content). zs ++ ys) at.are_all ∙ joined at.walked at.left ys;
    closed = at.closed;
  }

  -- it took these and closed among others
  pub closes_behind : (takes : A → Content → A → Type 0) → ((r s t : A) (xs ys : Content) → takes r xs s → closes s ys t → closes r (xs ++ ys) t) → (r s t : A) (xs ys all : Content) → xs ++ ys ≡ all
      → takes r xs s → ClosesAmong closes s ys t → ClosesAmong closes r all t
  closes_behind takes closed r s t xs ys all is took at = record {
    walked = xs ++ at.walked;
    left = at.left;
    are_all = sym is ∙ ap (λ (zs : Content). xs ++ zs) at.are_all ∙ sym (joined xs at.walked at.left);
    closed = closed r s t xs at.walked took at.closed;
  }

  -- where it closes among these, the first closes among all
  abbrev pub ClosesOn : A → Content → A → Content → Type 0
  ClosesOn s left first all = (t : A) → ClosesAmong closes s left t → ClosesAmong closes first all t

-- where a walk is told what a walk within it was, it stops so
pub told_on : {A T : Type 0} (closes : A → Content → A → Type 0) (first last : A) (all : Content) (r : Result T SinkStop) (e : SinkStop) → IsErrAnd r (λ y. y ≡ e) → StopsSo closes first all last e
    → IfErr r (StopsSo closes first all last)
told_on closes first last all (Ok x) e same so = tt
told_on closes first last all (Err y) e same so = λ is. so (sym same ∙ is)

module _ {A : Type 0} (takes : A → Content → A → Type 0) (more : (r s t : A) (xs ys : Content) → takes r xs s → takes s ys t → takes r (xs ++ ys) t) where
  -- what one takes that takes these is all that the first takes
  abbrev pub Leads : A → Content → A → Content → Type 0
  Leads s left first all = (t : A) → takes s left t → takes first all t

  -- behind the text of the node itself the children are left
  pub from_own : (g : Bool) (w : List ℕ) (front : List (List ℕ)) (text : Option (List ℕ)) (ks : List (List ℕ × Subtree)) (node : Subtree) (r s : A) → own text ++ below ks ≡ node
      → takes r (named g w (behind front (own text))) s → Leads s (named g w (behind front (below ks))) r (named g w (behind front node))
  from_own g w front text ks node r s is took = λ t left.
      subst (λ (xs : Content). takes r xs t) (own_first g w front text ks node is) (more r s t _ _ took left)

  -- one child more was walked
  pub past_child : (g : Bool) (w : List ℕ) (front f longer : List (List ℕ)) (sub : List ℕ) (child : Subtree) (ks rest : List (List ℕ × Subtree)) (first s now : A) (all : Content)
      → Leads s (named g w (behind front (below ks))) first all → f ≡ front → ks ≡ (sub, child) ∷ rest → longer ≡ f ++ sub ∷ [] → takes s (named g w (behind longer child)) now
      → Leads now (named g w (behind front (below rest))) first all
  past_child g w front f longer sub child ks rest first s now all leads same next is took = λ t left.
      leads t (subst (λ (xs : Content). takes s xs t) (child_first g w front f longer sub child ks rest same next is) (more s now t _ _ took left))
