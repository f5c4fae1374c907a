-- How a run ends.
use Rattle.std.proofs.Common.{◌≡◌, Some, None, ℕ, ◌≤◌, List, [], ◌∷◌, ◌++◌, length, refl, ap, sym, ◌∙◌, subst, append_assoc, append-nil, ◌⊎◌, inl, inr}
use Rattle.mj_ast.specs.Syntax.{Chain, Extrinsic, Var, No, NoActual}
use Rattle.mj_ast.specs.Expressions.{Symbol, Constant, Inherent, Name, Applied, Entry, Overlong, Mark, Other}
use Rattle.mj_expr.specs.Machine.{Alone, InGroup, InList, InOther, InCondition, InChoice, InActuals, State, Wanted, Sought, Marked, Named, Entering, Routed, Calling, Behind, Held, Got, filled, placed, entry_at, Limits, Next, Go, Stuck, Deep, Long, Whole, Target, Outcome, Accept, StuckAt, DeepAt, TooLong, refused, ends, finish, step, run, turn}
use Rattle.mj_expr.proofs.Zipper.{Kind}
use Rattle.mj_expr.proofs.Room.{HasRead}
use Rattle.mj_expr.proofs.Facts.{IsMore, deeper, Facts, LongFacts}
use Rattle.mj_expr.proofs.States.{step_facts}

-- The machine goes from s along ks to e.
pub record Along (K : Kind) (m : Limits) (s : State) (ks : List Symbol) (e : State) : Type 0 where
  pub reads : (pre : List Symbol) → HasRead K m s pre → HasRead K m e (pre ++ ks)
  pub runs : (l : Limits) (x : List Symbol) → IsMore m l → run l (ks ++ x) s ≡ run l x e

-- Nothing goes on at the state, however large the limits.
abbrev pub Stops : Limits → List Symbol → State → Type 0
Stops m [] s = Unit {0}
Stops m (k ∷ ks) s = (l : Limits) → IsMore m l → step l s k ≡ Stuck

-- with other things behind the head
abbrev pub resumed : List Symbol → List Symbol → List Symbol
resumed [] y = []
resumed (k ∷ ks) y = k ∷ y

-- It goes along the front, and stops there.
pub record Halts (K : Kind) (m : Limits) (s : State) (ks : List Symbol) (o : Outcome) : Type 0 where
  pub front : List Symbol
  pub back : List Symbol
  pub end : State
  pub cut : ks ≡ front ++ back
  pub along : Along K m s front end
  pub stops : Stops m back end
  pub gives : finish end back ≡ o

-- It goes along the front, and there a level too many opens.
pub record EndsDeep (K : Kind) (m : Limits) (s : State) (ks : List Symbol) (n : ℕ) : Type 0 where
  pub front : List Symbol
  pub token : Symbol
  pub back : List Symbol
  pub end : State
  pub over : State
  pub cut : ks ≡ front ++ token ∷ back
  pub left : length (token ∷ back) ≡ n
  pub along : Along K m s front end
  pub steps : step m end token ≡ Deep
  pub opened : (pre : List Symbol) → HasRead K m end pre → HasRead K (deeper token m) over (pre ++ token ∷ [])

-- It goes along the front, and there stands a comma too many.
pub record EndsLong (K : Kind) (m : Limits) (s : State) (ks : List Symbol) : Type 0 where
  pub front : List Symbol
  pub token : Symbol
  pub back : List Symbol
  pub end : State
  pub cut : ks ≡ front ++ token ∷ back
  pub along : Along K m s front end
  pub long : LongFacts K m (HasRead K m end) end token

abbrev pub EndsAs : Kind → Limits → State → List Symbol → Outcome → Type 0
EndsAs K m s ks (Accept p rest) = Halts K m s ks (Accept p rest)
EndsAs K m s ks (StuckAt n) = Halts K m s ks (StuckAt n)
EndsAs K m s ks (DeepAt n) = EndsDeep K m s ks n
EndsAs K m s ks TooLong = Halts K m s ks TooLong ⊎ EndsLong K m s ks

along_none : (K : Kind) (m : Limits) (s : State) → Along K m s [] s
along_none K m s = record {
  reads = λ pre h. let P : List Symbol → Type 0 = λ x. HasRead K m s x in subst P (sym (append-nil pre)) h;
  runs = λ l x i. refl;
}

along_step : (K : Kind) (m : Limits) (s e f : State) (k : Symbol) (ks : List Symbol) → ((x : List Symbol) → HasRead K m s x → HasRead K m e (x ++ k ∷ [])) →
    ((l : Limits) → IsMore m l → step l s k ≡ Go e) → Along K m e ks f → Along K m s (k ∷ ks) f
along_step K m s e f k ks r g a = record {
  reads = λ pre h. let P : List Symbol → Type 0 = λ x. HasRead K m f x in subst P (append_assoc pre (k ∷ []) ks) (a.reads (pre ++ k ∷ []) (r pre h));
  runs = λ l x i. ap (turn l (ks ++ x) s k) (g l i) ∙ a.runs l x i;
}

refused_deep : (ks : List Symbol) (n : ℕ) → refused ks ≡ DeepAt n → ⊥
refused_deep [] n e = cc
refused_deep (Overlong ∷ ks) n e = cc
refused_deep (Constant v ∷ ks) n e = cc
refused_deep (Inherent v ∷ ks) n e = cc
refused_deep (Name w ∷ ks) n e = cc
refused_deep (Applied f ∷ ks) n e = cc
refused_deep (Entry l ∷ ks) n e = cc
refused_deep (Mark s ∷ ks) n e = cc
refused_deep (Other ∷ ks) n e = cc

ends_deep : (s : State) (ks : List Symbol) (n : ℕ) → ends s ks ≡ DeepAt n → ⊥
ends_deep (Wanted c) ks n e = refused_deep ks n e
ends_deep (Sought p) ks n e = refused_deep ks n e
ends_deep (Marked p) ks n e = refused_deep ks n e
ends_deep (Named scope word p) ks n e = refused_deep ks n e
ends_deep (Held x r Alone) ks n e = let f : Accept (Whole (Chain x r)) ks ≡ DeepAt n = e in cc
ends_deep (Held x r (InGroup c)) ks n e = refused_deep ks n e
ends_deep (Held x r (InList u es)) ks n e = refused_deep ks n e
ends_deep (Held x r (InOther f v c)) ks n e = refused_deep ks n e
ends_deep (Held x r (InCondition ps c)) ks n e = refused_deep ks n e
ends_deep (Held x r (InChoice ps a c)) ks n e = refused_deep ks n e
ends_deep (Held x r (InActuals t es c)) ks n e = refused_deep ks n e
ends_deep (Entering label routine c) ks n e = refused_deep ks n e
ends_deep (Routed label c) ks n e = refused_deep ks n e
ends_deep (Calling f c) ks n e = refused_deep ks n e
ends_deep (Behind f v c) ks n e = refused_deep ks n e
ends_deep (Got v) ks n e = let f : Accept (Target v) ks ≡ DeepAt n = e in cc

pub finish_deep : (s : State) (ks : List Symbol) (n : ℕ) → finish s ks ≡ DeepAt n → ⊥
finish_deep (Wanted c) ks n e = refused_deep ks n e
finish_deep (Sought p) ks n e = refused_deep ks n e
finish_deep (Marked p) ks n e = refused_deep ks n e
finish_deep (Named scope word p) ks n e = ends_deep (placed (Var scope word No) p) ks n e
finish_deep (Entering None None c) ks n e = refused_deep ks n e
finish_deep (Entering (Some l) routine c) ks n e = ends_deep (filled (Extrinsic (entry_at (Some l) routine) NoActual) c) ks n e
finish_deep (Entering None (Some r) c) ks n e = ends_deep (filled (Extrinsic (entry_at None (Some r)) NoActual) c) ks n e
finish_deep (Routed label c) ks n e = refused_deep ks n e
finish_deep (Calling f c) ks n e = refused_deep ks n e
finish_deep (Behind f v c) ks n e = refused_deep ks n e
finish_deep (Held x r o) ks n e = ends_deep (Held x r o) ks n e
finish_deep (Got v) ks n e = ends_deep (Got v) ks n e

halts : (K : Kind) (m : Limits) (s : State) (ks : List Symbol) (o : Outcome) → finish s ks ≡ o → Stops m ks s → Halts K m s ks o
halts K m s ks o g h = record { front = []; back = ks; end = s; cut = refl; along = along_none K m s; stops = h; gives = g }

halts_as : (K : Kind) (m : Limits) (s : State) (ks : List Symbol) (o : Outcome) → finish s ks ≡ o → Stops m ks s → EndsAs K m s ks o
halts_as K m s ks (Accept p rest) g h = halts K m s ks (Accept p rest) g h
halts_as K m s ks (StuckAt n) g h = halts K m s ks (StuckAt n) g h
halts_as K m s ks (DeepAt n) g h = absurd (finish_deep s ks n g)
halts_as K m s ks TooLong g h = inl (halts K m s ks TooLong g h)

further : (K : Kind) (m : Limits) (s e : State) (k : Symbol) (ks : List Symbol) (o : Outcome) →
    ((x : List Symbol) → HasRead K m s x → HasRead K m e (x ++ k ∷ [])) → ((l : Limits) → IsMore m l → step l s k ≡ Go e) → Halts K m e ks o →
    Halts K m s (k ∷ ks) o
further K m s e k ks o r g h = record {
  front = k ∷ h.front;
  back = h.back;
  end = h.end;
  cut = ap (λ (x : List Symbol). k ∷ x) h.cut;
  along =
      along_step K m s e h.end k h.front r g h.along;
  stops = h.stops;
  gives = h.gives;
}

further_long : (K : Kind) (m : Limits) (s e : State) (k : Symbol) (ks : List Symbol) → ((x : List Symbol) → HasRead K m s x → HasRead K m e (x ++ k ∷ [])) →
    ((l : Limits) → IsMore m l → step l s k ≡ Go e) → Halts K m e ks TooLong ⊎ EndsLong K m e ks → Halts K m s (k ∷ ks) TooLong ⊎ EndsLong K m s (k ∷ ks)
further_long K m s e k ks r g (inl h) = inl (further K m s e k ks TooLong r g h)
further_long K m s e k ks r g (inr h) = inr (record {
  front = k ∷ h.front;
  token = h.token;
  back = h.back;
  end = h.end;
  cut =
      ap (λ (x : List Symbol). k ∷ x) h.cut;
  along = along_step K m s e h.end k h.front r g h.along;
  long = h.long;
})

ends_after : (K : Kind) (m : Limits) (s e : State) (k : Symbol) (ks : List Symbol) (o : Outcome) →
    ((x : List Symbol) → HasRead K m s x → HasRead K m e (x ++ k ∷ [])) → ((l : Limits) → IsMore m l → step l s k ≡ Go e) → EndsAs K m e ks o →
    EndsAs K m s (k ∷ ks) o
ends_after K m s e k ks (Accept p rest) r g h = further K m s e k ks (Accept p rest) r g h
ends_after K m s e k ks (StuckAt n) r g h = further K m s e k ks (StuckAt n) r g h
ends_after K m s e k ks (DeepAt n) r g h = record {
  front = k ∷ h.front;
  token = h.token;
  back = h.back;
  end = h.end;
  over = h.over;
  cut =
      ap (λ (x : List Symbol). k ∷ x) h.cut;
  left = h.left;
  along = along_step K m s e h.end k h.front r g h.along;
  steps = h.steps;
  opened = h.opened;
}
ends_after K m s e k ks TooLong r g h = further_long K m s e k ks r g h

next_ends : (K : Kind) (ks : List Symbol) (m : Limits) (s : State) (k : Symbol) (x : Next) → ((e : State) → EndsAs K m e ks (run m ks e)) → step m s k ≡ x →
    Facts K m (HasRead K m s) (LongFacts K m (HasRead K m s) s k) (λ l. step l s k) k x → EndsAs K m s (k ∷ ks) (turn m ks s k x)
next_ends K ks m s k (Go e) h i f = ends_after K m s e k ks (run m ks e) f.0 f.1 (h e)
next_ends K ks m s k Stuck h i f = halts_as K m s (k ∷ ks) (finish s (k ∷ ks)) refl f
next_ends K ks m s k Deep h i f = record { front = []; token = k; back = ks; end = s; over = f.0; cut = refl; left = refl; along = along_none K m s; steps = i; opened = f.1 }
next_ends K ks m s k Long h i f = inr (record { front = []; token = k; back = ks; end = s; cut = refl; along = along_none K m s; long = f })

-- ENDS
pub run_ends : (ks : List Symbol) (K : Kind) (m : Limits) (s : State) → 1 ≤ m.width → EndsAs K m s ks (run m ks s)
run_ends [] K m s w = halts_as K m s [] (finish s []) refl tt
run_ends (k ∷ ks) K m s w = next_ends K ks m s k (step m s k) (λ e. run_ends ks K m e w) refl (step_facts K m s k w)
