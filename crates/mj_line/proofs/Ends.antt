-- How a run ends.
use Rattle.std.proofs.Common.{◌≡◌, ℕ, List, [], ◌∷◌, ◌++◌, length, refl, ap, ◌∙◌, subst, Bool, true, false, nat_le, ◌⊎◌, inl, inr, Option, Some, None}
use Rattle.std.specs.Prelude.{cond}
use Rattle.mj_ast.specs.Expressions.{symbol}
use Rattle.mj_ast.specs.Tokens.{Token, Word, Digits, Quoted, Signed, Blank, Comment, Unclosed, Stray, Called, Special, Invoked, Numbered, Dollars}
use Rattle.mj_expr.specs.Machine.{Limits}
use Rattle.mj_expr.specs.Machine as phrase
use Rattle.mj_ast.specs.Expressions.{symbol}
use Rattle.mj_expr.proofs.Facts.{IsMore, deeper}
use Rattle.mj_line.specs.Machine.{Rest, Spot, Begin, Labelled, FormalsOpened, FormalWanted, FormalBehind, FormalsEnd, Indented, Behind, Over, Worded, Asked, Bare, Args, Goal, State, At, In, Next, Go, Stuck, Deep, Long, behind_phrase, rested, step, Outcome, Accept, StuckAt, DeepAt, TooLong, refused, ended, ended_at, ended_spot, ended_behind, run, turn}
use Rattle.mj_line.proofs.Leaves.{Leads}
use Rattle.mj_line.proofs.Good.{StateGood}
use Rattle.mj_line.proofs.Facts.{Facts, LongFacts, HasRoom}
use Rattle.mj_line.proofs.SpotFacts.{step_known}

-- The machine goes from s along ks to e.
abbrev pub Along : Limits → State → List Token → State → Type 0
Along m s [] e = s ≡ e
Along m s (k ∷ ks) e = (t : State) × Facts m s k (λ l. step l s k) (Go t) × Along m t ks e

-- what a way leads to
pub along_leads : (m : Limits) (ks : List Token) (s e : State) → Along m s ks e → StateGood m s → Leads s ks e × StateGood m e
along_leads m [] s e a g =
    let P : State → Type 0 = λ t. Leads s [] t × StateGood m t in
    subst P a (λ rest l h. h, g)
along_leads m (k ∷ ks) s e a g =
    let h = a.1.0 g in
    let i = along_leads m ks a.0 e a.2 h.1 in
    (λ rest l x. h.0 (ks ++ rest) l (i.0 rest l x), i.1)

-- how it runs, within larger limits too
pub along_runs : (m l : Limits) (ks rest : List Token) (s e : State) → Along m s ks e → IsMore m l → run l (ks ++ rest) s ≡ run l rest e
along_runs m l [] rest s e a i = ap (run l rest) a
along_runs m l (k ∷ ks) rest s e a i = ap (turn l (ks ++ rest) k) (a.1.1 l i) ∙ along_runs m l ks rest a.0 e a.2 i

-- it goes along all tokens
pub record Whole (m : Limits) (s : State) (ks : List Token) (o : Outcome) : Type 0 where
  pub end : State
  pub along : Along m s ks end
  pub gives : ended end ≡ o

-- it goes along the front, and there nothing goes on
pub record Halts (m : Limits) (s : State) (ks : List Token) (o : Outcome) : Type 0 where
  pub front : List Token
  pub token : Token
  pub back : List Token
  pub end : State
  pub cut : ks ≡ front ++ token ∷ back
  pub along : Along m s front end
  pub stuck : (l : Limits) → IsMore m l → step l end token ≡ Stuck
  pub gives : refused (token ∷ back) ≡ o

-- it goes along the front, and there a level too many opens
pub record Deepens (m : Limits) (s : State) (ks : List Token) (n : ℕ) : Type 0 where
  pub front : List Token
  pub token : Token
  pub back : List Token
  pub end : State
  pub cut : ks ≡ front ++ token ∷ back
  pub along : Along m s front end
  pub left : length (token ∷ back) ≡ n
  pub steps : step m end token ≡ Deep
  pub opened : StateGood m end → (t : State) × Leads end (token ∷ []) t × StateGood (deeper (symbol token) m) t

-- it goes along the front, and there stands a comma too many
pub record Lengthens (m : Limits) (s : State) (ks : List Token) : Type 0 where
  pub front : List Token
  pub token : Token
  pub back : List Token
  pub end : State
  pub cut : ks ≡ front ++ token ∷ back
  pub along : Along m s front end
  pub long : LongFacts m end token

abbrev pub EndsAs : Limits → State → List Token → Outcome → Type 0
EndsAs m s ks (Accept l) = Whole m s ks (Accept l)
EndsAs m s ks (StuckAt n) = Whole m s ks (StuckAt n) ⊎ Halts m s ks (StuckAt n)
EndsAs m s ks (DeepAt n) = Deepens m s ks n
EndsAs m s ks TooLong = Halts m s ks TooLong ⊎ Lengthens m s ks

-- where the tokens end, and where nothing goes on, no level opens and nothing is too long
rest_as : (m : Limits) (s : State) (q : Option Rest) → ended s ≡ ended_at q → EndsAs m s [] (ended_at q)
rest_as m s (Some r) e = record { end = s; along = refl; gives = e }
rest_as m s None e = inl (record { end = s; along = refl; gives = e })

spot_ends : (m : Limits) (s : State) (p : Spot) → ended s ≡ ended_spot p → EndsAs m s [] (ended_spot p)
spot_ends m s (Over l) e = record { end = s; along = refl; gives = e }
spot_ends m s Begin e = rest_as m s (rested Begin) e
spot_ends m s (Labelled label) e = rest_as m s (rested (Labelled label)) e
spot_ends m s (FormalsOpened label) e = rest_as m s None e
spot_ends m s (FormalWanted label names) e = rest_as m s None e
spot_ends m s (FormalBehind label names) e = rest_as m s None e
spot_ends m s (FormalsEnd label names) e = rest_as m s (rested (FormalsEnd label names)) e
spot_ends m s (Indented l) e = rest_as m s (rested (Indented l)) e
spot_ends m s (Behind r) e = rest_as m s (rested (Behind r)) e
spot_ends m s (Worded l k) e = rest_as m s (rested (Worded l k)) e
spot_ends m s (Asked l k) e = rest_as m s None e
spot_ends m s (Bare l condition k) e = rest_as m s (rested (Bare l condition k)) e
spot_ends m s (Args l condition k done n) e = rest_as m s (rested (Args l condition k done n)) e

behind_ends : (m : Limits) (s : State) (g : Goal) (o : phrase.Outcome) → ended s ≡ ended_behind g o → EndsAs m s [] (ended_behind g o)
behind_ends m s g (phrase.Accept p r) e = spot_ends m s (behind_phrase g p) e
behind_ends m s g (phrase.StuckAt n) e = inl (record { end = s; along = refl; gives = e })
behind_ends m s g (phrase.DeepAt n) e = inl (record { end = s; along = refl; gives = e })
behind_ends m s g phrase.TooLong e = inl (record { end = s; along = refl; gives = e })

ended_ends : (m : Limits) (s : State) → EndsAs m s [] (ended s)
ended_ends m (At p) = spot_ends m (At p) p refl
ended_ends m (In g s) = behind_ends m (In g s) g (phrase.finish s []) refl

halts_word : (m : Limits) (s : State) (k : Token) (ks : List Token) (e : ℕ) (b d : Bool) → d ≡ b → refused (k ∷ ks) ≡ cond d (StuckAt e) TooLong →
    ((l : Limits) → IsMore m l → step l s k ≡ Stuck) → EndsAs m s (k ∷ ks) (cond b (StuckAt e) TooLong)
halts_word m s k ks i true d e h f = inr (record { front = []; token = k; back = ks; end = s; cut = refl; along = refl; stuck = f; gives = h ∙ ap (λ (b : Bool). cond b (StuckAt i) TooLong) e })
halts_word m s k ks i false d e h f = inl (record { front = []; token = k; back = ks; end = s; cut = refl; along = refl; stuck = f; gives = h ∙ ap (λ (b : Bool). cond b (StuckAt i) TooLong) e })

halts_as : (m : Limits) (s : State) (k : Token) (ks : List Token) → ((l : Limits) → IsMore m l → step l s k ≡ Stuck) → EndsAs m s (k ∷ ks) (refused (k ∷ ks))
halts_as m s (Word w) ks f = halts_word m s (Word w) ks (length (Word w ∷ ks)) (nat_le (length w) 31) (nat_le (length w) 31) refl refl f
halts_as m s (Called w) ks f = halts_word m s (Called w) ks (length (Called w ∷ ks)) (nat_le (length w) 31) (nat_le (length w) 31) refl refl f
halts_as m s (Special w) ks f = halts_word m s (Special w) ks (length (Special w ∷ ks)) (nat_le (length w) 31) (nat_le (length w) 31) refl refl f
halts_as m s (Invoked w) ks f = halts_word m s (Invoked w) ks (length (Invoked w ∷ ks)) (nat_le (length w) 31) (nat_le (length w) 31) refl refl f
halts_as m s (Numbered d) ks f = inr (record { front = []; token = Numbered d; back = ks; end = s; cut = refl; along = refl; stuck = f; gives = refl })
halts_as m s Dollars ks f = inr (record { front = []; token = Dollars; back = ks; end = s; cut = refl; along = refl; stuck = f; gives = refl })
halts_as m s (Digits d) ks f = inr (record { front = []; token = Digits d; back = ks; end = s; cut = refl; along = refl; stuck = f; gives = refl })
halts_as m s (Quoted q) ks f = inr (record { front = []; token = Quoted q; back = ks; end = s; cut = refl; along = refl; stuck = f; gives = refl })
halts_as m s (Signed z) ks f = inr (record { front = []; token = Signed z; back = ks; end = s; cut = refl; along = refl; stuck = f; gives = refl })
halts_as m s Blank ks f = inr (record { front = []; token = Blank; back = ks; end = s; cut = refl; along = refl; stuck = f; gives = refl })
halts_as m s (Comment t) ks f = inr (record { front = []; token = Comment t; back = ks; end = s; cut = refl; along = refl; stuck = f; gives = refl })
halts_as m s (Unclosed t) ks f = inr (record { front = []; token = Unclosed t; back = ks; end = s; cut = refl; along = refl; stuck = f; gives = refl })
halts_as m s (Stray b) ks f = inr (record { front = []; token = Stray b; back = ks; end = s; cut = refl; along = refl; stuck = f; gives = refl })

-- one step before

whole_before : (m : Limits) (s t : State) (k : Token) (ks : List Token) (o : Outcome) → Facts m s k (λ l. step l s k) (Go t) → Whole m t ks o → Whole m s (k ∷ ks) o
whole_before m s t k ks o f h = record { end = h.end; along = (t, f, h.along); gives = h.gives }

halts_before : (m : Limits) (s t : State) (k : Token) (ks : List Token) (o : Outcome) → Facts m s k (λ l. step l s k) (Go t) → Halts m t ks o → Halts m s (k ∷ ks) o
halts_before m s t k ks o f h = record {
  front = k ∷ h.front;
  token = h.token;
  back = h.back;
  end = h.end;
  cut = ap (λ (zs : List Token). k ∷ zs) h.cut;
  along =
      (t, f, h.along);
  stuck = h.stuck;
  gives = h.gives;
}

ends_before : (m : Limits) (s t : State) (k : Token) (ks : List Token) (o : Outcome) → Facts m s k (λ l. step l s k) (Go t) → EndsAs m t ks o → EndsAs m s (k ∷ ks) o
ends_before m s t k ks (Accept l) f h = whole_before m s t k ks (Accept l) f h
ends_before m s t k ks (StuckAt n) f (inl h) = inl (whole_before m s t k ks (StuckAt n) f h)
ends_before m s t k ks (StuckAt n) f (inr h) = inr (halts_before m s t k ks (StuckAt n) f h)
ends_before m s t k ks (DeepAt n) f h = record {
  front = k ∷ h.front;
  token = h.token;
  back = h.back;
  end = h.end;
  cut = ap (λ (zs : List Token). k ∷ zs) h.cut;
  along = (t, f, h.along);
  left = h.left;
  steps = h.steps;
  opened = h.opened;
}
ends_before m s t k ks TooLong f (inl h) = inl (halts_before m s t k ks TooLong f h)
ends_before m s t k ks TooLong f (inr h) = inr (record {
  front = k ∷ h.front;
  token = h.token;
  back = h.back;
  end = h.end;
  cut =
      ap (λ (zs : List Token). k ∷ zs) h.cut;
  along = (t, f, h.along);
  long = h.long;
})

next_ends : (m : Limits) (s : State) (k : Token) (ks : List Token) (n : Next) → ((t : State) → EndsAs m t ks (run m ks t)) → step m s k ≡ n →
    Facts m s k (λ l. step l s k) n → EndsAs m s (k ∷ ks) (turn m ks k n)
next_ends m s k ks (Go t) h e f = ends_before m s t k ks (run m ks t) f (h t)
next_ends m s k ks Stuck h e f = halts_as m s k ks f
next_ends m s k ks Deep h e f = record { front = []; token = k; back = ks; end = s; cut = refl; along = refl; left = refl; steps = e; opened = f }
next_ends m s k ks Long h e f = inr (record { front = []; token = k; back = ks; end = s; cut = refl; along = refl; long = f })

-- ENDS
pub run_ends : (ks : List Token) (m : Limits) (s : State) → HasRoom m → EndsAs m s ks (run m ks s)
run_ends [] m s w = ended_ends m s
run_ends (k ∷ ks) m s w = next_ends m s k ks (step m s k) (λ t. run_ends ks m t w) refl (step_known m s k w)
