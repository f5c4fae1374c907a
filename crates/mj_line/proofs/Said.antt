-- What a run says of the tokens, in the grammar's words.
use Rattle.std.proofs.Common.{◌≡◌, ℕ, zero, suc, ◌+◌, ◌≤◌, ◌<◌, nat_le, max, List, [], ◌∷◌, ◌++◌, length, take, refl, ap, sym, ◌∙◌, subst, Bool, true, false, append_assoc, append-nil, arith, ◌⊎◌, inl, inr, Option, Some, None}
use Rattle.std.specs.Prelude.{cond}
use Rattle.std.proofs.lemmas.Bool.Decides.{nat_tests}
use Rattle.mj_ast.specs.declared.sign.Sign.TheVariants.{Caret, Comma}
use Rattle.mj_ast.specs.Syntax.{Line}
use Rattle.mj_ast.specs.Tokens.{Token, Word, Called, Special, Invoked, Numbered, Dollars, Digits, Quoted, Signed, Blank, Comment, Unclosed, Stray}
use Rattle.mj_ast.specs.Expressions.{width_limit}
use Rattle.mj_ast.specs.Commands.{greatest, step_nesting, step_width}
use Rattle.mj_ast.specs.Lines.{SpellsLine, IsLineWithin, plain_line, BeginsLine, BeginsLineWithin, Filler, no_filler, digits_filler, word_filler, entry_filler, IsOverlong, HasOverlong}
use Rattle.mj_expr.specs.Machine.{Limits}
use Rattle.mj_expr.specs.Machine as phrase
use Rattle.mj_expr.proofs.Facts.{IsMore}
use Rattle.mj_line.specs.Sentences.{Clause, Sentence, SpellsSentence, sentence_of, IsSentenceWithin}
use Rattle.mj_line.specs.Machine.{Rest, Spot, Begin, Labelled, FormalsOpened, FormalWanted, FormalBehind, FormalsEnd, Indented, Behind, Over, Worded, Asked, Bare, Args, Goal, State, At, In, Next, Go, Stuck, Deep, Long, behind_phrase, rested, step, Outcome, Accept, StuckAt, DeepAt, TooLong, refused, ended, ended_at, ended_spot, ended_behind, run, turn}
use Rattle.mj_line.proofs.Leaves.{StateLeaves, Leads, Leaves}
use Rattle.mj_line.proofs.SpotLeaves.{rested_leads, RestedLeads}
use Rattle.mj_line.proofs.Good.{StateGood, SpotGood, state_goes, rested_good, RestGood}
use Rattle.mj_line.proofs.Facts.{Facts, whole_leads, accept_nil, HasRoom}
use Rattle.mj_line.proofs.SpotFacts.{step_known}
use Rattle.mj_line.proofs.Ends.{Along, along_leads, along_runs, Whole, Halts, EndsAs, run_ends}
use Rattle.mj_line.proofs.CompleteLines.{complete_line}
use Rattle.mj_line.proofs.Spelled.{spelled_sentence, sentence_back, line_within, sentence_within, plain_within, written_within}
use Rattle.mj_line.proofs.Commas.{over_stuck, StateReached, GoReached, state_reached, line_comma, LineComma, line_behind, LineBehind, line_easy, line_caret, IsSimple, line_level}

-- ---- fronts

pub take_front : (front back : List Token) → take (length front) (front ++ back) ≡ front
take_front [] back = refl
take_front (k ∷ ks) back = ap (λ (zs : List Token). k ∷ zs) (take_front ks back)

pub take_at : (n : ℕ) (front : List Token) (k : Token) (back : List Token) → n ≡ length front + 1 → take n (front ++ k ∷ back) ≡ front ++ k ∷ []
take_at zero front k back e = absurd (omega arith)
take_at (suc zero) [] k back e = refl
take_at (suc (suc n)) [] k back e = absurd (omega arith)
take_at (suc n) (x ∷ xs) k back e = ap (λ (zs : List Token). x ∷ zs) (take_at n xs k back (omega arith))

-- ---- what accepts

pub same_line : (l o : Sentence) → Accept l ≡ Accept o → l ≡ o
same_line l o e = cc

pub stuck_accept : (n : ℕ) (l : Sentence) → StuckAt n ≡ Accept l → ⊥
stuck_accept n l e = cc

pub long_accept : (l : Sentence) → TooLong ≡ Accept l → ⊥
long_accept l e = cc

pub deep_accept : (n : ℕ) (l : Sentence) → DeepAt n ≡ Accept l → ⊥
deep_accept n l e = cc

word_accept : (n : ℕ) (l : Sentence) (b : Bool) → cond b (StuckAt n) TooLong ≡ Accept l → ⊥
word_accept n l true e = stuck_accept n l e
word_accept n l false e = long_accept l e

refused_accept : (ks : List Token) (l : Sentence) → refused ks ≡ Accept l → ⊥
refused_accept [] l e = stuck_accept _ l e
refused_accept (Word w ∷ ks) l e = word_accept _ l (nat_le (length w) 31) e
refused_accept (Digits d ∷ ks) l e = stuck_accept _ l e
refused_accept (Quoted q ∷ ks) l e = stuck_accept _ l e
refused_accept (Signed s ∷ ks) l e = stuck_accept _ l e
refused_accept (Blank ∷ ks) l e = stuck_accept _ l e
refused_accept (Comment t ∷ ks) l e = stuck_accept _ l e
refused_accept (Unclosed t ∷ ks) l e = stuck_accept _ l e
refused_accept (Called w ∷ ks) l e = word_accept _ l (nat_le (length w) 31) e
refused_accept (Special w ∷ ks) l e = word_accept _ l (nat_le (length w) 31) e
refused_accept (Invoked w ∷ ks) l e = word_accept _ l (nat_le (length w) 31) e
refused_accept (Numbered d ∷ ks) l e = stuck_accept _ l e
refused_accept (Dollars ∷ ks) l e = stuck_accept _ l e
refused_accept (Stray b ∷ ks) l e = stuck_accept _ l e

-- what a state that accepts has read
abbrev Accepts : Limits → State → Sentence → Type 0
Accepts m s l = StateLeaves s [] l × IsSentenceWithin m.depth m.width l

rest_accepts : (m : Limits) (p : Spot) (q : Option Rest) (l : Sentence) → RestedLeads p q → RestGood m q → ended_at q ≡ Accept l → Leaves p [] l × IsSentenceWithin m.depth m.width l
rest_accepts m p (Some r) l h g e =
    let P : Sentence → Type 0 = λ o. Leaves p [] o × IsSentenceWithin m.depth m.width o in
    subst P (same_line r.line l e) (
      h [] r.line (record {
        clauses = [];
        whole =
            ap (λ (ss : List Clause). record { label = r.line.label; formals = r.line.formals; level = r.line.level; clauses = ss })
            (sym (append-nil r.line.clauses));
        spells = inl (0, refl);
      }),
      g,
    )
rest_accepts m p None l h g e = absurd (stuck_accept 0 l e)

spot_accepts : (m : Limits) (p : Spot) (l : Sentence) → SpotGood m p → ended_spot p ≡ Accept l → Leaves p [] l × IsSentenceWithin m.depth m.width l
spot_accepts m (Over o) l g e =
    let P : Sentence → Type 0 = λ x. (x ≡ o) × IsSentenceWithin m.depth m.width x in
    let h = subst P (same_line o l e) (refl, g) in
    ((refl, h.0), h.1)
spot_accepts m Begin l g e = rest_accepts m Begin (rested Begin) l (rested_leads Begin) (rested_good m Begin g) e
spot_accepts m (Labelled label) l g e = rest_accepts m (Labelled label) (rested (Labelled label)) l (rested_leads (Labelled label)) (rested_good m (Labelled label) g) e
spot_accepts m (FormalsOpened label) l g e = absurd (stuck_accept 0 l e)
spot_accepts m (FormalWanted label names) l g e = absurd (stuck_accept 0 l e)
spot_accepts m (FormalBehind label names) l g e = absurd (stuck_accept 0 l e)
spot_accepts m (FormalsEnd label names) l g e = rest_accepts m (FormalsEnd label names) (rested (FormalsEnd label names)) l
    (rested_leads (FormalsEnd label names)) (rested_good m (FormalsEnd label names) g) e
spot_accepts m (Indented o) l g e = rest_accepts m (Indented o) (rested (Indented o)) l (rested_leads (Indented o)) (rested_good m (Indented o) g) e
spot_accepts m (Behind r) l g e = rest_accepts m (Behind r) (rested (Behind r)) l (rested_leads (Behind r)) (rested_good m (Behind r) g) e
spot_accepts m (Worded o k) l g e = rest_accepts m (Worded o k) (rested (Worded o k)) l (rested_leads (Worded o k)) (rested_good m (Worded o k) g) e
spot_accepts m (Asked o k) l g e = absurd (stuck_accept 0 l e)
spot_accepts m (Bare o condition k) l g e = rest_accepts m (Bare o condition k) (rested (Bare o condition k)) l (rested_leads (Bare o condition k)) (rested_good m (Bare o condition k) g) e
spot_accepts m (Args o condition k done n) l g e = rest_accepts m (Args o condition k done n) (rested (Args o condition k done n)) l
    (rested_leads (Args o condition k done n)) (rested_good m (Args o condition k done n) g) e

phrase_accepts : (m : Limits) (g : Goal) (s : phrase.State) (o : phrase.Outcome) (l : Sentence) → 1 ≤ m.depth → StateGood m (In g s) → phrase.finish s [] ≡ o →
    ended_behind g o ≡ Accept l → StateLeaves (In g s) [] l × IsSentenceWithin m.depth m.width l
phrase_accepts m g s (phrase.Accept p r) l d i e f =
    let w = whole_leads m g s p d i (accept_nil s p r e) in
    let h = spot_accepts m (behind_phrase g p) l w.1 f in
    (w.0 [] l h.0, h.1)
phrase_accepts m g s (phrase.StuckAt n) l d i e f = absurd (stuck_accept 0 l f)
phrase_accepts m g s (phrase.DeepAt n) l d i e f = absurd (stuck_accept 0 l f)
phrase_accepts m g s phrase.TooLong l d i e f = absurd (stuck_accept 0 l f)

pub state_accepts : (m : Limits) (s : State) (l : Sentence) → 1 ≤ m.depth → StateGood m s → ended s ≡ Accept l → StateLeaves s [] l × IsSentenceWithin m.depth m.width l
state_accepts m (At p) l d g e = spot_accepts m p l g e
state_accepts m (In g s) l d i e = phrase_accepts m g s (phrase.finish s []) l d i refl e

-- ---- lines of the grammar

-- limits that the line is within too
abbrev pub bigger : Limits → Line → Limits
bigger m l = record { depth = max m.depth (greatest step_nesting l.steps); width = max m.width (greatest step_width l.steps) }

pub more_bigger : (m : Limits) (l : Line) → IsMore m (bigger m l)
more_bigger m l = record { depth = omega arith; width = omega arith }

-- a line that is spelled is read
pub read_line : (n : Limits) (ks : List Token) (l : Line) (s : SpellsLine ks l) → IsLineWithin n.depth n.width l → run n ks (At Begin) ≡ Accept (sentence_of s.0)
read_line n ks l s w = complete_line n ks (sentence_of s.0) (spelled_sentence ks s.0 s.1) (sentence_within n.depth n.width s.0 (written_within n.depth n.width s.0 l s.2 w))

pub accepted : (m : Limits) (ks : List Token) (l : Line) (s : SpellsLine ks l) → run (bigger m l) ks (At Begin) ≡ Accept (sentence_of s.0)
accepted m ks l s =
    let n = bigger m l in
    read_line n ks l s (record { nests = omega arith; lists = omega arith })

-- what was read begins a line
pub began : (m : Limits) (front : List Token) (s : State) → HasRoom m → Leads (At Begin) front s → StateGood m s → BeginsLineWithin m.depth m.width front
began m front s d h g =
    let r = state_goes m s d.depth g in
    let b = sentence_back (front ++ r.rest) r.line (h r.rest r.line r.leaves) in
    let P : Sentence → Type 0 = λ x. IsSentenceWithin m.depth m.width x in
    record {
      rest = r.rest;
      line = plain_line b.line;
      spells = (b.line, b.spells, refl);
      within =
          plain_within m.depth m.width b.line (line_within m.depth m.width b.line (subst P (sym b.made) r.within));
    }

-- along the front from the beginning
pub came : (m : Limits) (front : List Token) (s : State) → Along m (At Begin) front s → Leads (At Begin) front s × StateGood m s
came m front s a = along_leads m front (At Begin) s a tt

-- a front with one more token, and what follows
pub front_at : (front : List Token) (k : Token) (rest : List Token) → (front ++ k ∷ []) ++ rest ≡ front ++ k ∷ rest
front_at front k rest = append_assoc front (k ∷ []) rest

-- with the token at which it halts, nothing begins a line
pub none_begins : (m : Limits) (front : List Token) (k : Token) (s : State) → Along m (At Begin) front s → ((l : Limits) → IsMore m l → step l s k ≡ Stuck) → BeginsLine (front ++ k ∷ []) → ⊥
none_begins m front k s a h b =
    let l = bigger m b.line in
    refused_accept (k ∷ b.rest) (sentence_of b.spells.0)
    (sym (ap (λ (zs : List Token). run l zs (At Begin)) (front_at front k b.rest) ∙ along_runs m l front (k ∷ b.rest) (At Begin) s a (more_bigger m b.line) ∙
    ap (turn l b.rest k) (h l (more_bigger m b.line)))
    ∙ accepted m ((front ++ k ∷ []) ++ b.rest) b.line b.spells)

-- a line begins with each of its fronts
pub begins_front : (front back : List Token) (l : Line) → SpellsLine (front ++ back) l → BeginsLine front
begins_front front back l s = record { rest = back; line = l; spells = s }

shorter_front : (front back : List Token) → BeginsLine (front ++ back) → BeginsLine front
shorter_front front back b =
    let P : List Token → Type 0 = λ zs. SpellsLine zs b.line in
    record { rest = back ++ b.rest; line = b.line; spells = subst P (append_assoc front back b.rest) b.spells }

-- ---- nothing is over its limit

-- larger limits are no hindrance
along_more : (m l : Limits) (ks : List Token) (s e : State) → IsMore m l → HasRoom l → Along m s ks e → Along l s ks e
along_more m l [] s e i w a = a
along_more m l (k ∷ ks) s e i w a =
    let P : Next → Type 0 = λ n. Facts l s k (λ j. step j s k) n in
    (a.0, subst P (a.1.1 l i) (step_known l s k w), along_more m l ks a.0 e i w a.2)

along_reached : (m : Limits) (ks : List Token) (s e : State) → Along m s ks e → StateReached s → StateReached e
along_reached m [] s e a r = let P : State → Type 0 = λ x. StateReached x in subst P a r
along_reached m (k ∷ ks) s e a r =
    let P : Next → Type 0 = λ n. GoReached n in
    along_reached m ks a.0 e a.2 (subst P (a.1.1 m (record { depth = omega arith; width = omega arith })) (state_reached m s k))

-- a way in two parts
along_cut : (m : Limits) (front back : List Token) (s e : State) → Along m s (front ++ back) e → (t : State) × Along m s front t × Along m t back e
along_cut m [] back s e a = (s, refl, a)
along_cut m (k ∷ ks) back s e a = let h = along_cut m ks back a.0 e a.2 in (h.0, (a.0, a.1, h.1), h.2)

-- the run goes along the front, and there ends or halts at a token that isn't too long
pub record Clean (m : Limits) (ks : List Token) : Type 0 where
  pub front : List Token
  pub back : List Token
  pub end : State
  pub cut : ks ≡ front ++ back
  pub along : Along m (At Begin) front end
  pub stops : (k : Token) (more : List Token) → back ≡ k ∷ more → ((l : Limits) → IsMore m l → step l end k ≡ Stuck) × (refused (k ∷ more) ≡ TooLong → ⊥)

abbrev Goes : Limits → State → Token → Type 0
Goes m s k = (t : State) × Facts m s k (λ l. step l s k) (Go t)

-- at some token, it goes on or halts
abbrev Turns : Limits → State → Token → List Token → Type 0
Turns m s k more = Goes m s k ⊎ (((l : Limits) → IsMore m l → step l s k ≡ Stuck) × (refused (k ∷ more) ≡ TooLong → ⊥))

go_stuck : (s : State) → Go s ≡ Stuck → ⊥
go_stuck s e = cc

go_long : (s : State) → Go s ≡ Long → ⊥
go_long s e = cc

stuck_long : Stuck ≡ Long → ⊥
stuck_long e = cc

no_word : (m : Limits) (s : State) (w : List ℕ) (more : List Token) → 31 < length w → Turns m s (Word w) more → ⊥
no_word m s w more h (inl g) = go_stuck g.0 (sym (g.1.1 m (record { depth = omega arith; width = omega arith })) ∙ over_stuck m s (Word w) h)
no_word m s w more h (inr g) = g.1 (ap (λ (b : Bool). cond b (StuckAt (length (Word w ∷ more))) TooLong) (let e : nat_le (length w) 31 ≡ false = grind (arith, nat_tests) in e))

no_called : (m : Limits) (s : State) (w : List ℕ) (more : List Token) → 31 < length w → Turns m s (Called w) more → ⊥
no_called m s w more h (inl g) = go_stuck g.0 (sym (g.1.1 m (record { depth = omega arith; width = omega arith })) ∙ over_stuck m s (Called w) h)
no_called m s w more h (inr g) = g.1 (ap (λ (b : Bool). cond b (StuckAt (length (Called w ∷ more))) TooLong) (let e : nat_le (length w) 31 ≡ false = grind (arith, nat_tests) in e))

no_special : (m : Limits) (s : State) (w : List ℕ) (more : List Token) → 31 < length w → Turns m s (Special w) more → ⊥
no_special m s w more h (inl g) = go_stuck g.0 (sym (g.1.1 m (record { depth = omega arith; width = omega arith })) ∙ over_stuck m s (Special w) h)
no_special m s w more h (inr g) = g.1 (ap (λ (b : Bool). cond b (StuckAt (length (Special w ∷ more))) TooLong) (let e : nat_le (length w) 31 ≡ false = grind (arith, nat_tests) in e))

no_invoked : (m : Limits) (s : State) (w : List ℕ) (more : List Token) → 31 < length w → Turns m s (Invoked w) more → ⊥
no_invoked m s w more h (inl g) = go_stuck g.0 (sym (g.1.1 m (record { depth = omega arith; width = omega arith })) ∙ over_stuck m s (Invoked w) h)
no_invoked m s w more h (inr g) = g.1 (ap (λ (b : Bool). cond b (StuckAt (length (Invoked w ∷ more))) TooLong) (let e : nat_le (length w) 31 ≡ false = grind (arith, nat_tests) in e))

-- where a comma goes on or halts, it isn't one too many
not_long : (m l : Limits) (s : State) (k : Token) (more : List Token) → IsMore m l → Turns m s k more → step l s k ≡ Long → ⊥
not_long m l s k more i (inl g) e = go_long g.0 (sym (g.1.1 l i) ∙ e)
not_long m l s k more i (inr g) e = stuck_long (sym (g.0 l i) ∙ e)

-- with a word or number and a comma behind the front
two_at : (f : List Token) (x k : Token) (rest : List Token) → (f ++ (x ∷ k ∷ [])) ++ rest ≡ f ++ x ∷ k ∷ rest
two_at f x k rest = append_assoc f (x ∷ k ∷ []) rest

-- what the second step does
second : (m l : Limits) (f : List Token) (s t : State) (x : Token) (n : Next) → HasRoom l → Along l (At Begin) f s → Facts l s x (λ j. step j s x) (Go t) →
    step l t (Signed Comma) ≡ n → Facts l t (Signed Comma) (λ j. step j t (Signed Comma)) n → (n ≡ Long → ⊥) →
    BeginsLine (f ++ (x ∷ Signed Comma ∷ [])) → ((depth : ℕ) → BeginsLineWithin depth l.width (f ++ (x ∷ Signed Comma ∷ [])) → ⊥) → ⊥
second m l f s t x (Go u) d a g e h j b c =
    let r = came l f s a in
    let p = g.0 r.1 in
    let q = h.0 p.1 in
    let P : List Token → Type 0 = λ zs. BeginsLineWithin l.depth l.width zs in
    c l.depth (began l (f ++ (x ∷ Signed Comma ∷ [])) u d
    (λ rest o z. let Q : List Token → Type 0 = λ zs. SpellsSentence zs o in
    subst Q (sym (two_at f x (Signed Comma) rest)) (r.0 (x ∷ Signed Comma ∷ rest) o (p.0 (Signed Comma ∷ rest) o (q.0 rest o z))))
    q.1)
second m l f s t x Stuck d a g e h j b c =
    let z = bigger l b.line in
    refused_accept (Signed Comma ∷ b.rest) (sentence_of b.spells.0)
    (sym (ap (λ (zs : List Token). run z zs (At Begin)) (two_at f x (Signed Comma) b.rest)
    ∙ along_runs l z f (x ∷ Signed Comma ∷ b.rest) (At Begin) s a (more_bigger l b.line)
    ∙ ap (turn z (Signed Comma ∷ b.rest) x) (g.1 z (more_bigger l b.line))
    ∙ ap (turn z b.rest (Signed Comma)) (h z (more_bigger l b.line)))
    ∙ accepted l ((f ++ (x ∷ Signed Comma ∷ [])) ++ b.rest) b.line b.spells)
second m l f s t x Deep d a g e h j b c = line_level l t e
second m l f s t x Long d a g e h j b c = j refl

-- a word or number before the comma, which isn't one too many at o
one_filler : (m l : Limits) (f : List Token) (o s : State) (x : Token) (more : List Token) (n : Next) → IsMore m l → HasRoom l → Along l (At Begin) f s →
    Turns m o (Signed Comma) more → step l s x ≡ n → IsSimple n → LineComma l o n → Facts l s x (λ j. step j s x) n →
    BeginsLine (f ++ (x ∷ Signed Comma ∷ [])) → ((depth : ℕ) → BeginsLineWithin depth l.width (f ++ (x ∷ Signed Comma ∷ [])) → ⊥) → ⊥
one_filler m l f o s x more (Go t) i w a g e h j k b c =
    second m l f s t x (step l t (Signed Comma)) w a k refl (step_known l t (Signed Comma) w) (λ z. not_long m l o (Signed Comma) more i g (j z)) b c
one_filler m l f o s x more Stuck i w a g e h j k b c =
    let P : List Token → Type 0 = λ zs. BeginsLine zs in
    none_begins l f x s a k (shorter_front (f ++ x ∷ []) (Signed Comma ∷ []) (subst P (sym (append_assoc f (x ∷ []) (Signed Comma ∷ []))) b))
one_filler m l f o s x more Deep i w a g e h j k b c = h
one_filler m l f o s x more Long i w a g e h j k b c = h

a_filler : (m : Limits) (f : List Token) (o s : State) (x : Token) (more : List Token) → HasRoom m → m.width ≡ 31 → Along m (At Begin) f s →
    Turns m o (Signed Comma) more → IsSimple (step m s x) → LineComma m o (step m s x) →
    BeginsLine (f ++ (x ∷ Signed Comma ∷ [])) → ((depth : ℕ) → BeginsLineWithin depth width_limit (f ++ (x ∷ Signed Comma ∷ [])) → ⊥) → ⊥
a_filler m f o s x more d w a g h j b c =
    one_filler m m f o s x more (step m s x) (record { depth = omega arith; width = omega arith }) d a g refl h j (step_known m s x d) b
    (λ i y. c i (record { rest = y.rest; line = y.line; spells = y.spells; within = record { nests = y.within.nests; lists = let z = y.within.lists in omega arith } }))

-- a `^` and a word before it
along_on : (m : Limits) (f : List Token) (k : Token) (b s t : State) → Along m b f s → Facts m s k (λ l. step l s k) (Go t) → Along m b (f ++ k ∷ []) t
along_on m [] k b s t a g = let P : State → Type 0 = λ x. Along m x (k ∷ []) t in subst P (sym a) (t, g, refl)
along_on m (x ∷ xs) k b s t a g = (a.0, a.1, along_on m xs k a.0 s t a.2 g)

two_fillers : (m : Limits) (f : List Token) (s : State) (more : List Token) (n : Next) → HasRoom m → m.width ≡ 31 → Along m (At Begin) f s →
    Turns m s (Signed Comma) more → IsSimple n → LineBehind m s n → Facts m s (Signed Caret) (λ j. step j s (Signed Caret)) n →
    BeginsLine (f ++ (Signed Caret ∷ Word (65 ∷ []) ∷ Signed Comma ∷ [])) →
    ((depth : ℕ) → BeginsLineWithin depth width_limit (f ++ (Signed Caret ∷ Word (65 ∷ []) ∷ Signed Comma ∷ [])) → ⊥) → ⊥
two_fillers m f s more (Go t) d w a g h j k b c =
    let B : List Token → Type 0 = λ zs. BeginsLine zs in
    let W : ℕ → List Token → Type 0 = λ i zs. BeginsLineWithin i width_limit zs in
    let e = front_at f (Signed Caret) (Word (65 ∷ []) ∷ Signed Comma ∷ []) in
    a_filler m (f ++ Signed Caret ∷ []) s t (Word (65 ∷ [])) more d w (along_on m f (Signed Caret) (At Begin) s t a k) g
    (line_easy m t (Word (65 ∷ [])) tt) j (subst B (sym e) b) (λ i y. c i (subst (W i) e y))
two_fillers m f s more Stuck d w a g h j k b c =
    let P : List Token → Type 0 = λ zs. BeginsLine zs in
    let back : List Token = Word (65 ∷ []) ∷ Signed Comma ∷ [] in
    none_begins m f (Signed Caret) s a k (shorter_front (f ++ Signed Caret ∷ []) back (subst P (sym (front_at f (Signed Caret) back)) b))
two_fillers m f s more Deep d w a g h j k b c = h
two_fillers m f s more Long d w a g h j k b c = h

no_comma : (m : Limits) (f : List Token) (s : State) (more fill : List Token) → HasRoom m → m.width ≡ 31 → Along m (At Begin) f s →
    Turns m s (Signed Comma) more → Filler fill → BeginsLine (f ++ (fill ++ Signed Comma ∷ [])) →
    ((depth : ℕ) → BeginsLineWithin depth width_limit (f ++ (fill ++ Signed Comma ∷ [])) → ⊥) → ⊥
no_comma m f s more _ d w a (inl g) no_filler b c =
    let r = came m f s a in
    let p = g.1.0 r.1 in
    let y = began m (f ++ Signed Comma ∷ []) g.0 d (λ rest o z. let Q : List Token → Type 0 = λ zs. SpellsSentence zs o in
    subst Q (sym (front_at f (Signed Comma) rest)) (r.0 (Signed Comma ∷ rest) o (p.0 rest o z))) p.1 in
    c m.depth (record { rest = y.rest; line = y.line; spells = y.spells; within = record { nests = y.within.nests; lists = let z = y.within.lists in omega arith } })
no_comma m f s more _ d w a (inr g) no_filler b c = none_begins m f (Signed Comma) s a g.0 b
no_comma m f s more _ d w a g digits_filler b c =
    let r = along_reached m f (At Begin) s a tt in
    a_filler m f s s (Digits (48 ∷ [])) more d w a g (line_easy m s (Digits (48 ∷ [])) tt) (line_comma m s (Digits (48 ∷ [])) r tt) b c
no_comma m f s more _ d w a g word_filler b c =
    let r = along_reached m f (At Begin) s a tt in
    a_filler m f s s (Word (65 ∷ [])) more d w a g (line_easy m s (Word (65 ∷ [])) tt) (line_comma m s (Word (65 ∷ [])) r tt) b c
no_comma m f s more _ d w a g entry_filler b c =
    let r = along_reached m f (At Begin) s a tt in
    two_fillers m f s more (step m s (Signed Caret)) d w a g (line_caret m s) (line_behind m s r) (step_known m s (Signed Caret) d) b c

not_overlong : (m : Limits) (f : List Token) (s : State) (k : Token) (more : List Token) → HasRoom m → m.width ≡ 31 → Along m (At Begin) f s → Turns m s k more → IsOverlong f k → ⊥
not_overlong m f s (Word w) more d e a g o = no_word m s w more o g
not_overlong m f s (Called w) more d e a g o = no_called m s w more o g
not_overlong m f s (Special w) more d e a g o = no_special m s w more o g
not_overlong m f s (Invoked w) more d e a g o = no_invoked m s w more o g
not_overlong m f s (Signed Comma) more d e a g o = no_comma m f s more o.filler d e a g o.fills o.begins o.too_long
not_overlong m f s k more d e a g o = o

-- ---- where the token stands

tails : (x y : Token) (xs ys : List Token) → x ∷ xs ≡ y ∷ ys → xs ≡ ys
tails x y xs ys e = cc

heads : (x y : Token) (xs ys : List Token) → x ∷ xs ≡ y ∷ ys → x ≡ y
heads x y xs ys e = cc

nil_cons : (x : Token) (xs : List Token) → [] ≡ x ∷ xs → ⊥
nil_cons x xs e = cc

-- inside the front, just behind it, or farther on
abbrev Within : List Token → List Token → List Token → Token → List Token → Type 0
Within front back f k r = (x : List Token) × (front ≡ f ++ k ∷ x)

abbrev Beside : List Token → List Token → List Token → Token → List Token → Type 0
Beside front back f k r = (f ≡ front) × (back ≡ k ∷ r)

abbrev Beyond : List Token → List Token → List Token → Token → List Token → Type 0
Beyond front back f k r = (y : Token) × (z : List Token) × (more : List Token) × (f ≡ front ++ y ∷ z) × (back ≡ y ∷ more)

stands : (front back f : List Token) (k : Token) (r : List Token) → front ++ back ≡ f ++ k ∷ r → Within front back f k r ⊎ (Beside front back f k r ⊎ Beyond front back f k r)
stands [] back [] k r e = inr (inl (refl, e))
stands [] back (y ∷ z) k r e = inr (inr (y, z, z ++ k ∷ r, refl, e))
stands (x ∷ xs) back [] k r e = inl (xs, ap (λ (y : Token). y ∷ xs) (heads x k (xs ++ back) r e))
stands (x ∷ xs) back (y ∷ ys) k r e = stands_on x y xs back ys k r (heads x y (xs ++ back) (ys ++ k ∷ r) e) (stands xs back ys k r (tails x y (xs ++ back) (ys ++ k ∷ r) e))
  where
    stands_on : (x y : Token) (xs back ys : List Token) (k : Token) (r : List Token) → x ≡ y →
        Within xs back ys k r ⊎ (Beside xs back ys k r ⊎ Beyond xs back ys k r) →
        Within (x ∷ xs) back (y ∷ ys) k r ⊎ (Beside (x ∷ xs) back (y ∷ ys) k r ⊎ Beyond (x ∷ xs) back (y ∷ ys) k r)
    stands_on x y xs back ys k r e (inl h) = inl (h.0, ap (λ (z : Token). z ∷ xs) e ∙ ap (λ (zs : List Token). y ∷ zs) h.1)
    stands_on x y xs back ys k r e (inr (inl h)) = inr (inl (ap (λ (z : Token). z ∷ ys) (sym e) ∙ ap (λ (zs : List Token). x ∷ zs) h.0, h.1))
    stands_on x y xs back ys k r e (inr (inr h)) = inr (inr (h.0, h.1, h.2, ap (λ (z : Token). z ∷ ys) (sym e) ∙ ap (λ (zs : List Token). x ∷ zs) h.3, h.4))

clean_at : (m : Limits) (ks : List Token) (c : Clean m ks) (h : HasOverlong ks) → HasRoom m → m.width ≡ 31 →
    Within c.front c.back h.front h.token h.rest ⊎ (Beside c.front c.back h.front h.token h.rest ⊎ Beyond c.front c.back h.front h.token h.rest) → ⊥
clean_at m ks c h d w (inl p) =
    let A : List Token → Type 0 = λ zs. Along m (At Begin) zs c.end in
    let a = along_cut m h.front (h.token ∷ p.0) (At Begin) c.end (subst A p.1 c.along) in
    not_overlong m h.front a.0 h.token h.rest d w a.1 (inl (a.2.0, a.2.1)) h.overlong
clean_at m ks c h d w (inr (inl p)) =
    let A : List Token → Type 0 = λ zs. Along m (At Begin) zs c.end in
    not_overlong m h.front c.end h.token h.rest d w (subst A (sym p.0) c.along) (inr (c.stops h.token h.rest p.1)) h.overlong
clean_at m ks c h d w (inr (inr p)) =
    let B : List Token → Type 0 = λ zs. BeginsLine zs in
    none_begins m c.front p.0 c.end c.along (c.stops p.0 p.2 p.4).0
    (shorter_front (c.front ++ p.0 ∷ []) p.1 (subst B (p.3 ∙ sym (front_at c.front p.0 p.1)) h.begins))

no_overlong : (m : Limits) (ks : List Token) → HasRoom m → m.width ≡ 31 → Clean m ks → HasOverlong ks → ⊥
no_overlong m ks d w c h = clean_at m ks c h d w (stands c.front c.back h.front h.token h.rest (sym c.cut ∙ h.cut))

clean_whole : (m : Limits) (ks : List Token) (o : Outcome) → Whole m (At Begin) ks o → Clean m ks
clean_whole m ks o h = record { front = ks; back = []; end = h.end; cut = sym (append-nil ks); along = h.along; stops = λ k more e. absurd (nil_cons k more e) }

pub stuck_toolong : (n : ℕ) → StuckAt n ≡ TooLong → ⊥
stuck_toolong n e = cc

clean_halts : (m : Limits) (ks : List Token) (n : ℕ) → Halts m (At Begin) ks (StuckAt n) → Clean m ks
clean_halts m ks n h = record {
  front = h.front;
  back = h.token ∷ h.back;
  end = h.end;
  cut = h.cut;
  along = h.along;
  stops = λ k more e.
      let x = heads h.token k h.back more e in
      let y = tails h.token k h.back more e in
      let P : Token → Type 0 = λ z. (l : Limits) → IsMore m l → step l h.end z ≡ Stuck in
      (subst P x h.stuck, λ f. stuck_toolong n (sym h.gives ∙ ap (λ (z : Token). refused (z ∷ h.back)) x ∙ ap (λ (zs : List Token). refused (k ∷ zs)) y ∙ f));
}

clean_stuck : (m : Limits) (ks : List Token) (n : ℕ) → EndsAs m (At Begin) ks (StuckAt n) → Clean m ks
clean_stuck m ks n (inl h) = clean_whole m ks (StuckAt n) h
clean_stuck m ks n (inr h) = clean_halts m ks n h

pub ends_as : (m : Limits) (ks : List Token) (o : Outcome) → HasRoom m → run m ks (At Begin) ≡ o → EndsAs m (At Begin) ks o
ends_as m ks o w e = let P : Outcome → Type 0 = λ x. EndsAs m (At Begin) ks x in subst P e (run_ends ks m (At Begin) w)

pub roomy : (m : Limits) → 1 ≤ m.depth → m.width ≡ 31 → HasRoom m
roomy m d w = record { depth = d; width = omega arith }

pub short_accept : (m : Limits) (ks : List Token) (l : Sentence) → 1 ≤ m.depth → m.width ≡ 31 → run m ks (At Begin) ≡ Accept l → HasOverlong ks → ⊥
short_accept m ks l d w e = no_overlong m ks (roomy m d w) w (clean_whole m ks (Accept l) (ends_as m ks (Accept l) (roomy m d w) e))

pub short_stuck : (m : Limits) (ks : List Token) (n : ℕ) → 1 ≤ m.depth → m.width ≡ 31 → run m ks (At Begin) ≡ StuckAt n → HasOverlong ks → ⊥
short_stuck m ks n d w e = no_overlong m ks (roomy m d w) w (clean_stuck m ks n (ends_as m ks (StuckAt n) (roomy m d w) e))
