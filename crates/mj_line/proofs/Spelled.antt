-- Lines as trees and by the parts of their commands are spelled alike.
use Rattle.std.proofs.Common.{◌≡◌, ℕ, max, List, [], ◌∷◌, refl, ap, sym, ◌∙◌, subst, true, arith, Option, Some, None, ◌++◌, map}
use Rattle.mj_ast.specs.declared.sign.Sign.TheVariants.{Open, Close}
use Rattle.mj_ast.specs.declared.keyword.Keyword.{Keyword}
use Rattle.mj_ast.specs.declared.keyword.Verb.TheVariants.{Of}
use Rattle.mj_ast.specs.Syntax.{Expr, Command, Do, Job, LineCommand, Line}
use Rattle.mj_ast.specs.Tokens.{Token}
use Rattle.mj_ast.specs.Commands.{Part, Put, with_commas, behind_commas, target_parts, actuals_parts, guard_parts, called_parts, wait_parts, started_parts, plain_actuals, plain_called, plain_started, plain, plain_step, part_nesting, part_width, meant, SpellsStep, SpellsArguments, IsConditional, keyword_for, command_parts, is_formed, gap_of, comment_gap_of, greatest, step_nesting, step_width}
use Rattle.mj_ast.specs.Lines.{SpellsSteps, SpellsWritten, plain_line, IsLineWithin}
use Rattle.mj_line.specs.Sentences.{Clause, Sentence, SpellsClause, SpellsClauses, SpellsSentence, clause_of, sentence_of, clause_nesting, clause_width, IsSentenceWithin}
use Rattle.mj_line.specs.Forms.{IsForm}
use Rattle.mj_line.proofs.CommandTrees.{made}
use Rattle.mj_line.proofs.FormedCalls.{formed_form, form_verb}
use Rattle.mj_line.proofs.OnceCommands.{command_once}
use Rattle.mj_line.proofs.Good.{greatest_append}

-- ---- from trees

spelled_clause : (ks : List Token) (s : LineCommand) → SpellsStep ks s → SpellsClause ks (clause_of s)
spelled_clause ks s h = (h.0, h.1, h.2, h.3, h.4, h.5, h.6, formed_form s.command h.4.0 h.7 h.4.2, h.8)

spelled_clauses : (g c : ℕ) (ks : List Token) (ss : List LineCommand) → SpellsSteps g c ks ss → SpellsClauses g c ks (map clause_of ss)
spelled_clauses g c ks [] h = h
spelled_clauses g c ks (s ∷ ss) h = (h.0, h.1, h.2, h.3, h.4, spelled_clause h.1 s h.5, spelled_clauses (gap_of (command_parts s.command)) (comment_gap_of (command_parts s.command)) h.2 ss h.6)

pub spelled_sentence : (ks : List Token) (l : Line) → SpellsWritten ks l → SpellsSentence ks (sentence_of l)
spelled_sentence ks l h = (h.0, h.1, h.2, h.3, h.4, h.5, spelled_clauses _ _ h.1 l.steps h.6)

-- ---- to trees

clause_made : (c : Clause) (command : Command) → keyword_for command ≡ c.keyword → command_parts command ≡ c.parts → clause_of (record { condition = c.condition; command = command }) ≡ c
clause_made c command k p =
    ap (λ (w : Keyword). let x : Clause = record { condition = c.condition; keyword = w; parts = command_parts command } in x) k
    ∙ ap (λ (ps : List Part). let x : Clause = record { condition = c.condition; keyword = c.keyword; parts = ps } in x) p

-- a command with these parts
record Back (ks : List Token) (c : Clause) : Type 0 where
  step : LineCommand
  made : clause_of step ≡ c
  spells : SpellsStep ks step

clause_back : (ks : List Token) (c : Clause) → SpellsClause ks c → Back ks c
clause_back ks c h =
    let F : Keyword → Type 0 = λ k. IsForm (Of k) c.parts in
    let m = made c.keyword c.parts (subst F (sym h.4.2) (form_verb h.4.0 c.parts h.7)) in
    let A : List Part → Type 0 = λ ps. SpellsArguments h.2 ps in
    let C : Keyword → Type 0 = λ k. IsConditional k c.condition in
    record {
      step = record { condition = c.condition; command = m.command };
      made = clause_made c m.command m.named m.parts;
      spells = (h.0, h.1, h.2, h.3, (h.4.0, h.4.1, m.named ∙ h.4.2 ∙ ap (meant h.4.0) (sym m.parts)), h.5, subst A (sym m.parts) h.6, m.formed, subst C (sym m.named) h.8);
    }

clauses_back : (g c : ℕ) (ks : List Token) (cs : List Clause) → SpellsClauses g c ks cs → (ss : List LineCommand) × (map clause_of ss ≡ cs) × SpellsSteps g c ks ss
clauses_back g c ks [] h = ([], refl, h)
clauses_back g c ks (x ∷ xs) h =
    let b = clause_back h.1 x h.5 in
    let r = clauses_back (gap_of x.parts) (comment_gap_of x.parts) h.2 xs h.6 in
    let P : Clause → Type 0 = λ z. SpellsSteps (gap_of z.parts) (comment_gap_of z.parts) h.2 r.0 in (
      b.step ∷ r.0,
      ap (λ (z : Clause). z ∷ map clause_of r.0) b.made ∙ ap (λ (zs : List Clause). x ∷ zs) r.1,
      (h.0, h.1, h.2, h.3, h.4, b.spells, subst P (sym b.made) r.2),
    )

-- a line with these commands
pub record LineBack (ks : List Token) (l : Sentence) : Type 0 where
  pub line : Line
  pub made : sentence_of line ≡ l
  pub spells : SpellsWritten ks line

pub sentence_back : (ks : List Token) (l : Sentence) → SpellsSentence ks l → LineBack ks l
sentence_back ks l h =
    let r = clauses_back _ _ h.1 l.clauses h.6 in
    record {
      line = record { label = l.label; formals = l.formals; level = l.level; steps = r.0 };
      made = ap (λ (cs : List Clause). let x : Sentence = record { label = l.label; formals = l.formals; level = l.level; clauses = cs } in x) r.1;
      spells = (h.0, h.1, h.2, h.3, h.4, h.5, r.2);
    }

-- ---- measures

nesting_same : (ss : List LineCommand) → greatest clause_nesting (map clause_of ss) ≡ greatest step_nesting ss
nesting_same [] = refl
nesting_same (s ∷ ss) = ap (max (step_nesting s)) (nesting_same ss)

width_same : (ss : List LineCommand) → greatest clause_width (map clause_of ss) ≡ greatest step_width ss
width_same [] = refl
width_same (s ∷ ss) = ap (max (step_width s)) (width_same ss)

pub line_within : (d w : ℕ) (l : Line) → IsSentenceWithin d w (sentence_of l) → IsLineWithin d w l
line_within d w l h = record { nests = let e = nesting_same l.steps in let n = h.nests in omega arith; lists = let e = width_same l.steps in let n = h.lists in omega arith }

pub sentence_within : (d w : ℕ) (l : Line) → IsLineWithin d w l → IsSentenceWithin d w (sentence_of l)
sentence_within d w l h = record { nests = let e = nesting_same l.steps in let n = h.nests in omega arith; lists = let e = width_same l.steps in let n = h.lists in omega arith }

-- ---- no two lines are spelled by the same commands

step_made : (s t : LineCommand) → s.condition ≡ t.condition → s.command ≡ t.command → s ≡ t
step_made s t e f = ap (λ (c : Option Expr). let x : LineCommand = record { condition = c; command = s.command } in x) e ∙
    ap (λ (c : Command). let x : LineCommand = record { condition = t.condition; command = c } in x) f

head_same : {A : Type 0} {x y : A} {xs ys : List A} → x ∷ xs ≡ y ∷ ys → x ≡ y
head_same e = cc

tail_same : {A : Type 0} {x y : A} {xs ys : List A} → x ∷ xs ≡ y ∷ ys → xs ≡ ys
tail_same e = cc

step_once : (s t : LineCommand) → is_formed s.command ≡ true → clause_of s ≡ clause_of t → s ≡ t
step_once s t f e =
    step_made s t (ap (λ (c : Clause). c.condition) e) (command_once s.command t.command f (ap (λ (c : Clause). c.keyword) e) (ap (λ (c : Clause). c.parts) e))

steps_once : (g c : ℕ) (ks : List Token) (ss ts : List LineCommand) → SpellsSteps g c ks ss → map clause_of ss ≡ map clause_of ts → ss ≡ ts
steps_once g c ks [] [] h e = refl
steps_once g c ks [] (t ∷ ts) h e = absurd (let f : [] ≡ clause_of t ∷ map clause_of ts = e in cc)
steps_once g c ks (s ∷ ss) [] h e = absurd (let f : clause_of s ∷ map clause_of ss ≡ [] = e in cc)
steps_once g c ks (s ∷ ss) (t ∷ ts) h e =
    ap (λ (x : LineCommand). x ∷ ss) (step_once s t h.5.7 (head_same e))
    ∙ ap (λ (xs : List LineCommand). t ∷ xs) (steps_once (gap_of (command_parts s.command)) (comment_gap_of (command_parts s.command)) h.2 ss ts h.6 (tail_same e))

pub line_once : (ks : List Token) (o l : Line) → SpellsWritten ks o → sentence_of o ≡ sentence_of l → o ≡ l
line_once ks o l h e =
    ap (λ (x : Option (List ℕ)). let z : Line = record { label = x; formals = o.formals; level = o.level; steps = o.steps } in z) (ap (λ (s : Sentence). s.label) e)
    ∙ ap (λ (x : List (List ℕ)). let z : Line = record { label = l.label; formals = x; level = o.level; steps = o.steps } in z) (ap (λ (s : Sentence). s.formals) e)
    ∙ ap (λ (x : ℕ). let z : Line = record { label = l.label; formals = l.formals; level = x; steps = o.steps } in z) (ap (λ (s : Sentence). s.level) e)
    ∙ ap (λ (xs : List LineCommand). let z : Line = record { label = l.label; formals = l.formals; level = l.level; steps = xs } in
    z) (steps_once _ _ h.1 o.steps l.steps h.6 (ap (λ (s : Sentence). s.clauses) e))

-- ---- lines as they are written, and as they are meant

-- a measure by which parentheses are nothing
record IsFlat (f : Part → ℕ) : Type 0 where
  opens : f (Put Open) ≡ 0
  closes : f (Put Close) ≡ 0

actuals_flat : (f : Part → ℕ) (list : List (Option Expr)) → IsFlat f → greatest f (actuals_parts (plain_actuals list)) ≡ greatest f (actuals_parts list)
actuals_flat f [] h = refl
actuals_flat f (None ∷ []) h = let a = h.opens in let b = h.closes in omega arith
actuals_flat f (None ∷ a ∷ list) h = refl
actuals_flat f (Some e ∷ list) h = refl

-- an entry, its actuals and what stands behind them
entered_flat : (f : Part → ℕ) (t g : List Part) (list : List (Option Expr)) → IsFlat f → greatest f (t ++ (actuals_parts (plain_actuals list) ++ g)) ≡ greatest f (t ++ (actuals_parts list ++ g))
entered_flat f t g list h =
    let a = greatest_append f t (actuals_parts (plain_actuals list) ++ g) in
    let b = greatest_append f (actuals_parts (plain_actuals list)) g in
    let d = greatest_append f t (actuals_parts list ++ g) in
    let e = greatest_append f (actuals_parts list) g in
    let i = actuals_flat f list h in
    omega arith

-- items as they are meant, each of which measures the same
behind_flat : {X : Type 0} (f : Part → ℕ) (parts : X → List Part) (to : X → X) (xs : List X) → ((x : X) → greatest f (parts (to x)) ≡ greatest f (parts x)) →
    greatest f (behind_commas parts (map to xs)) ≡ greatest f (behind_commas parts xs)
behind_flat f parts to [] h = refl
behind_flat f parts to (x ∷ xs) h =
    let a = greatest_append f (parts (to x)) (behind_commas parts (map to xs)) in
    let b = greatest_append f (parts x) (behind_commas parts xs) in
    let c = h x in
    let d = behind_flat f parts to xs h in
    omega arith

items_flat : {X : Type 0} (f : Part → ℕ) (parts : X → List Part) (to : X → X) (xs : List X) → ((x : X) → greatest f (parts (to x)) ≡ greatest f (parts x)) →
    greatest f (with_commas parts (map to xs)) ≡ greatest f (with_commas parts xs)
items_flat f parts to [] h = refl
items_flat f parts to (x ∷ xs) h =
    let a = greatest_append f (parts (to x)) (behind_commas parts (map to xs)) in
    let b = greatest_append f (parts x) (behind_commas parts xs) in
    let c = h x in
    let d = behind_flat f parts to xs h in
    omega arith

command_flat : (f : Part → ℕ) (c : Command) → IsFlat f → greatest f (command_parts (plain c)) ≡ greatest f (command_parts c)
command_flat f (Do xs) h = items_flat f called_parts plain_called xs (λ x. entered_flat f (target_parts x.target) (guard_parts x.condition) x.actuals h)
command_flat f (Job xs) h = items_flat f started_parts plain_started xs (λ x. entered_flat f (target_parts x.target) (wait_parts x.timeout) x.actuals h)
command_flat f c h = refl

steps_nest : (ss : List LineCommand) → greatest step_nesting (map plain_step ss) ≡ greatest step_nesting ss
steps_nest [] = refl
steps_nest (s ∷ ss) = let a = command_flat part_nesting s.command (record { opens = refl; closes = refl }) in let b = steps_nest ss in omega arith

steps_list : (ss : List LineCommand) → greatest step_width (map plain_step ss) ≡ greatest step_width ss
steps_list [] = refl
steps_list (s ∷ ss) = let a = command_flat part_width s.command (record { opens = refl; closes = refl }) in let b = steps_list ss in omega arith

-- they have the same measures
pub plain_within : (d w : ℕ) (l : Line) → IsLineWithin d w l → IsLineWithin d w (plain_line l)
plain_within d w l h = record { nests = let a = steps_nest l.steps in let n = h.nests in omega arith; lists = let a = steps_list l.steps in let n = h.lists in omega arith }

pub written_within : (d w : ℕ) (l o : Line) → plain_line l ≡ o → IsLineWithin d w o → IsLineWithin d w l
written_within d w l o e h =
    let P : Line → Type 0 = λ x. IsLineWithin d w x in
    let g = subst P (sym e) h in
    record { nests = let a = steps_nest l.steps in let n = g.nests in omega arith; lists = let a = steps_list l.steps in let n = g.lists in omega arith }
