-- The names in a routine that is read are words, as the tokens that spell them are.
use Rattle.std.proofs.Common.{◌≡◌, ℕ, ◌≤◌, Bool, true, false, List, [], ◌∷◌, ◌++◌, length, map, replicate, refl, sym, subst, arith, inl, inr, Option, Some, None, nat_le, Result, Ok, Err, ℤ}
use Rattle.std.specs.Prelude.{cond}
use Rattle.std.proofs.lemmas.Bool.Decides.{nat_tests}
use Rattle.mj_num.specs.Number.{reading}
use Rattle.mj_text.specs.declared.fault.Fault.{Fault}
use Rattle.mj_text.specs.declared.text.TheConstants.{TEXT_LIMIT}
use Rattle.mj_ast.specs.declared.sign.Sign.TheVariants.{Colon, Open, Close}
use Rattle.mj_ast.specs.declared.function.Callee.{Callee}
use Rattle.mj_ast.specs.declared.function.Special.{Special as SpecialVariable}
use Rattle.mj_ast.specs.Syntax.{Expr, Command, Set, Write, Halt, Hang, Job, Lock, Kill, Merge, If, Else, For, Forever, Do, Goto, Quit, New, OpenDevice, UseDevice, CloseDevice, Read, TStart, TCommit, TRestart, TRollback, Break, LineCommand, Line, Routine}
use Rattle.mj_ast.specs.Tokens.{Token, Word, Called, Special, Invoked, Numbered, Dollars, Digits, Quoted, Signed, Blank, Comment, Unclosed, Stray, AreDigits, IsWord, IsSpelledBy, Lexeme, IsTokenisation, lexemes, tokens}
use Rattle.mj_ast.specs.Expressions.{Symbol, Name, Entry, Overlong, Constant, Other, symbol, constant_of, function_symbol, special_symbol, callee_of, special_of, expr_symbols, variable_symbols}
use Rattle.mj_ast.specs.Commands.{Part, Put, Named, Label, SerialWord, PieceCall, Prompt, Text, Place, Control, with_commas, behind_commas, target_parts, guard_parts, wait_parts, actuals_parts, called_parts, started_parts, command_parts, plain_actuals, plain_called, plain_started, plain, plain_step, SpellsPart, SpellsParts, SpellsCondition, SpellsArguments, SpellsStep, gap_of, comment_gap_of, greatest}
use Rattle.mj_ast.specs.Lines.{SpellsSteps, SpellsLabel, comma_names, name_tokens, SpellsFormals, SpellsWritten, SpellsLine}
use Rattle.mj_ast.specs.Routines.{IsName, lines_of}
use Rattle.mj_rou.specs.Words.{Each, IsWorded, IsPartWorded, IsConditionWorded, IsStepWorded, IsLabelled, IsLineWorded, IsRoutineWorded}
use Rattle.mj_lex.proofs.Longest.{tokenised}
use Rattle.mj_rou.specs.Read.{AreRead, IsRoutineRead}

-- ---- tokens

-- a token that is a word or digits is spelled so
abbrev Lexed : Token → Type 0
Lexed (Word w) = IsWord w
Lexed (Digits d) = AreDigits d
Lexed (Invoked w) = IsWord w
Lexed (Numbered d) = AreDigits d
Lexed _ = Unit {0}

lexed : (t : Token) (slice : List ℕ) → IsSpelledBy t slice → Lexed t
lexed (Word w) slice h = h.1
lexed (Digits d) slice h = h.1
lexed (Called w) slice h = tt
lexed (Special w) slice h = tt
lexed (Invoked w) slice h = h.1
lexed (Numbered d) slice h = h.1
lexed Dollars slice h = tt
lexed (Quoted q) slice h = tt
lexed (Signed s) slice h = tt
lexed Blank slice h = tt
lexed (Comment t) slice h = tt
lexed (Unclosed t) slice h = tt
lexed (Stray b) slice h = tt

all_lexed : (line : List ℕ) (ls : List Lexeme) → IsTokenisation line ls → Each Lexed (map (λ l. l.token) ls)
all_lexed line [] h = tt
all_lexed line (l ∷ ls) h = (lexed l.token l.slice h.2, all_lexed h.0 ls h.5)

apart : {X : Type 0} (P : X → Type 0) (xs ys : List X) → Each P (xs ++ ys) → Each P xs × Each P ys
apart P [] ys h = (tt, h)
apart P (x ∷ xs) ys h = let i = apart P xs ys h.1 in ((h.0, i.0), i.1)

joined : {X : Type 0} (P : X → Type 0) (xs ys : List X) → Each P xs → Each P ys → Each P (xs ++ ys)
joined P [] ys h i = i
joined P (x ∷ xs) ys h i = (h.0, joined P xs ys h.1 i)

-- the tokens of both parts
cut : (ks front rest : List Token) → ks ≡ front ++ rest → Each Lexed ks → Each Lexed front × Each Lexed rest
cut ks front rest e h = let P : List Token → Type 0 = λ xs. Each Lexed xs in apart Lexed front rest (subst P e h)

same : (ks others : List Token) → ks ≡ others → Each Lexed ks → Each Lexed others
same ks others e h = let P : List Token → Type 0 = λ xs. Each Lexed xs in subst P e h

-- ---- symbols

named : (w : List ℕ) (b : Bool) → nat_le (length w) 31 ≡ b → IsWord w → IsWorded (cond b (Name w) Overlong)
named w true e h = record { spelled = h; short = grind (arith, nat_tests) }
named w false e h = tt

invoked_worded : (w : List ℕ) (b : Bool) → nat_le (length w) 31 ≡ b → IsWord w → IsWorded (cond b (Entry (Some w)) Overlong)
invoked_worded w true e h = inl (record { spelled = h; short = grind (arith, nat_tests) })
invoked_worded w false e h = tt

numbered_worded : (d : List ℕ) (b : Bool) → nat_le (length d) TEXT_LIMIT ≡ b → AreDigits d → IsWorded (cond b (Entry (Some d)) Other)
numbered_worded d true e h = inr (h, grind (arith, nat_tests))
numbered_worded d false e h = tt

function_worded : (b : Bool) (f : Option Callee) → IsWorded (cond b (function_symbol f) Overlong)
function_worded true None = tt
function_worded true (Some f) = tt
function_worded false f = tt

special_worded : (b : Bool) (v : Option SpecialVariable) → IsWorded (cond b (special_symbol v) Overlong)
special_worded true None = tt
special_worded true (Some v) = tt
special_worded false v = tt

constant_worded : (r : Result ℤ Fault) → IsWorded (constant_of r)
constant_worded (Ok z) = tt
constant_worded (Err f) = tt

quoted_worded : (b : Bool) (q : List ℕ) → IsWorded (cond b (Constant q) Other)
quoted_worded true q = tt
quoted_worded false q = tt

symbol_worded : (t : Token) → Lexed t → IsWorded (symbol t)
symbol_worded (Word w) h = named w (nat_le (length w) 31) refl h
symbol_worded (Called w) h = function_worded (nat_le (length w) 31) (callee_of w)
symbol_worded (Special w) h = special_worded (nat_le (length w) 31) (special_of w)
symbol_worded (Invoked w) h = invoked_worded w (nat_le (length w) 31) refl h
symbol_worded (Numbered d) h = numbered_worded d (nat_le (length d) TEXT_LIMIT) refl h
symbol_worded Dollars h = tt
symbol_worded (Digits d) h = constant_worded (reading d)
symbol_worded (Quoted q) h = quoted_worded (nat_le (length q) TEXT_LIMIT) q
symbol_worded (Signed s) h = tt
symbol_worded Blank h = tt
symbol_worded (Comment t) h = tt
symbol_worded (Unclosed t) h = tt
symbol_worded (Stray b) h = tt

symbols_worded : (ks : List Token) → Each Lexed ks → Each IsWorded (map symbol ks)
symbols_worded [] h = tt
symbols_worded (k ∷ ks) h = (symbol_worded k h.0, symbols_worded ks h.1)

-- symbols that such tokens have
spelled : (ks : List Token) (symbols : List Symbol) → map symbol ks ≡ symbols → Each Lexed ks → Each IsWorded symbols
spelled ks symbols e h = let P : List Symbol → Type 0 = λ xs. Each IsWorded xs in subst P e (symbols_worded ks h)

-- ---- parts

part_worded : (ks : List Token) (p : Part) → Each Lexed ks → SpellsPart ks p → IsPartWorded p
part_worded ks (Put s) h i = tt
part_worded ks (Named w) h i = record { spelled = (same ks (Word w ∷ []) i.0 h).0; short = i.1 }
part_worded ks (Label l) h (inl i) = inl (record { spelled = (same ks (Word l ∷ []) i.0 h).0; short = i.1 })
part_worded ks (Label l) h (inr i) = inr ((same ks (Digits l ∷ []) i.0 h).0, i.1)
part_worded ks SerialWord h i = tt
part_worded ks PieceCall h i = tt
part_worded ks (Prompt value) h i = tt
part_worded ks (Text level e) h i = spelled ks (expr_symbols e) i.0 h
part_worded ks (Place level v) h i = spelled ks (variable_symbols v) i.0 h
part_worded ks (Control v) h i = spelled ks (variable_symbols v) i.0 h

parts_worded : (ks : List Token) (ps : List Part) → Each Lexed ks → SpellsParts ks ps → Each IsPartWorded ps
parts_worded ks [] h i = tt
parts_worded ks (p ∷ ps) h i = let c = cut ks i.0 i.1 i.2 h in (part_worded i.0 p c.0 i.3, parts_worded i.1 ps c.1 i.4)

condition_worded : (ks : List Token) (e : Option Expr) → Each Lexed ks → SpellsCondition ks e → IsConditionWorded e
condition_worded ks None h i = tt
condition_worded ks (Some e) h i = spelled i.0 (expr_symbols e) i.2.0 (same ks (Signed Colon ∷ i.0) i.1 h).1

arguments_worded : (ks : List Token) (ps : List Part) → Each Lexed ks → SpellsArguments ks ps → Each IsPartWorded ps
arguments_worded ks [] h i = tt
arguments_worded ks (p ∷ ps) h i = parts_worded i.0 (p ∷ ps) (same ks (Blank ∷ i.0) i.1 h).1 i.2

-- ---- lines

step_worded : (ks : List Token) (s : LineCommand) → Each Lexed ks → SpellsStep ks s → IsStepWorded s
step_worded ks s h i =
    let both = (same ks (Word i.0 ∷ (i.1 ++ i.2)) i.3 h).1 in
    let c = apart Lexed i.1 i.2 both in
    record { condition = condition_worded i.1 s.condition c.0 i.5; parts = arguments_worded i.2 (command_parts s.command) c.1 i.6 }

steps_worded : (g c : ℕ) (ks : List Token) (ss : List LineCommand) → Each Lexed ks → SpellsSteps g c ks ss → Each IsStepWorded ss
steps_worded g c ks [] h i = tt
steps_worded g c ks (s ∷ ss) h i =
    let all = (cut ks (replicate i.0 Blank) (i.1 ++ i.2) i.4 h).1 in
    let both = apart Lexed i.1 i.2 all in
    (step_worded i.1 s both.0 i.5, steps_worded (gap_of (command_parts s.command)) (comment_gap_of (command_parts s.command)) i.2 ss both.1 i.6)

label_worded : (ks : List Token) (label : Option (List ℕ)) → Each Lexed ks → SpellsLabel ks label → IsLabelled label
label_worded ks None h i = tt
label_worded ks (Some l) h (inl i) = inl (record { spelled = (same ks (Word l ∷ []) i.0 h).0; short = i.1 })
label_worded ks (Some l) h (inr i) = inr (same ks (Digits l ∷ []) i h).0

commas_worded : (names : List (List ℕ)) → Each Lexed (comma_names names) → greatest length names ≤ 31 → Each IsName names
commas_worded [] h n = tt
commas_worded (w ∷ ws) h n = (record { spelled = h.1.0; short = omega arith }, commas_worded ws h.1.1 (omega arith))

names_worded : (names : List (List ℕ)) → Each Lexed (name_tokens names) → greatest length names ≤ 31 → Each IsName names
names_worded [] h n = tt
names_worded (w ∷ ws) h n = (record { spelled = h.0; short = omega arith }, commas_worded ws h.1 (omega arith))

none_worded : (names : List (List ℕ)) → names ≡ [] → Each IsName names
none_worded names e = let P : List (List ℕ) → Type 0 = λ xs. Each IsName xs in subst P (sym e) tt

formals_worded : (label : Option (List ℕ)) (ks : List Token) (names : List (List ℕ)) → Each Lexed ks → SpellsFormals label ks names → Each IsName names
formals_worded None ks names h i = none_worded names i.1
formals_worded (Some l) ks names h (inl i) = none_worded names i.1
formals_worded (Some l) ks names h (inr i) =
    let all = (same ks (Signed Open ∷ (name_tokens names ++ Signed Close ∷ [])) i.0 h).1 in
    names_worded names (apart Lexed (name_tokens names) (Signed Close ∷ []) all).0 i.1.short

written_worded : (ks : List Token) (l : Line) → Each Lexed ks → SpellsWritten ks l → IsLineWorded l
written_worded ks l h i =
    let all = cut ks i.0 i.1 i.3 h in
    let head = cut i.0 i.4.front (i.4.names ++ i.4.indent) i.4.cut all.0 in
    let more = apart Lexed i.4.names i.4.indent head.1 in
    record {
      label = label_worded i.4.front l.label head.0 i.4.label_is;
      formals = formals_worded l.label i.4.names l.formals more.0 i.4.formals_are;
      steps = steps_worded _ _ i.1 l.steps all.1 i.6;
    }

-- ---- the line that is meant

plain_entry_worded : (target behind : List Part) (actuals : List (Option Expr)) → Each IsPartWorded (target ++ (actuals_parts actuals ++ behind)) →
    Each IsPartWorded (target ++ (actuals_parts (plain_actuals actuals) ++ behind))
plain_entry_worded target behind [] h = h
plain_entry_worded target behind (None ∷ []) h = let i = apart IsPartWorded target _ h in joined IsPartWorded target behind i.0 i.1.1.1
plain_entry_worded target behind (None ∷ a ∷ list) h = h
plain_entry_worded target behind (Some e ∷ list) h = h

each_behind : {A : Type 0} (parts : A → List Part) (meant : A → A) (is : (x : A) → Each IsPartWorded (parts x) →
    Each IsPartWorded (parts (meant x))) (list : List A) → Each IsPartWorded (behind_commas parts list) →
    Each IsPartWorded (behind_commas parts (map meant list))
each_behind parts meant is [] h = tt
each_behind parts meant is (x ∷ xs) h =
    let i = apart IsPartWorded (parts x) (behind_commas parts xs) h.1 in
    (tt, joined IsPartWorded (parts (meant x)) (behind_commas parts (map meant xs)) (is x i.0) (each_behind parts meant is xs i.1))

each : {A : Type 0} (parts : A → List Part) (meant : A → A) (is : (x : A) → Each IsPartWorded (parts x) → Each IsPartWorded (parts (meant x))) (list : List A) →
    Each IsPartWorded (with_commas parts list) → Each IsPartWorded (with_commas parts (map meant list))
each parts meant is [] h = tt
each parts meant is (x ∷ xs) h =
    let i = apart IsPartWorded (parts x) (behind_commas parts xs) h in
    joined IsPartWorded (parts (meant x)) (behind_commas parts (map meant xs)) (is x i.0) (each_behind parts meant is xs i.1)

plain_worded : (c : Command) → Each IsPartWorded (command_parts c) → Each IsPartWorded (command_parts (plain c))
plain_worded (Do list) h = each called_parts plain_called (λ c. plain_entry_worded (target_parts c.target) (guard_parts c.condition) c.actuals) list h
plain_worded (Job list) h = each started_parts plain_started (λ s. plain_entry_worded (target_parts s.target) (wait_parts s.timeout) s.actuals) list h
plain_worded (Set list) h = h
plain_worded (Write list) h = h
plain_worded Halt h = h
plain_worded (Hang list) h = h
plain_worded (Lock list) h = h
plain_worded (Kill list) h = h
plain_worded (Merge list) h = h
plain_worded (If list) h = h
plain_worded Else h = h
plain_worded (For v list) h = h
plain_worded Forever h = h
plain_worded (Goto list) h = h
plain_worded (Quit value) h = h
plain_worded (New list) h = h
plain_worded (OpenDevice list) h = h
plain_worded (UseDevice list) h = h
plain_worded (CloseDevice list) h = h
plain_worded (Read list) h = h
plain_worded (TStart argument) h = h
plain_worded TCommit h = h
plain_worded TRestart h = h
plain_worded TRollback h = h
plain_worded Break h = h

plain_steps : (ss : List LineCommand) → Each IsStepWorded ss → Each IsStepWorded (map plain_step ss)
plain_steps [] h = tt
plain_steps (s ∷ ss) h = (record { condition = h.0.condition; parts = plain_worded s.command h.0.parts }, plain_steps ss h.1)

line_worded : (ks : List Token) (l : Line) → Each Lexed ks → SpellsLine ks l → IsLineWorded l
line_worded ks l h i =
    let w = written_worded ks i.0 h i.1 in
    let P : Line → Type 0 = λ x. IsLineWorded x in
    subst P i.2 (record { label = w.label; formals = w.formals; steps = plain_steps i.0.steps w.steps })

-- ---- routines

lines_worded : (bs : List (List ℕ)) (ls : List Line) → AreRead bs ls → Each IsLineWorded ls
lines_worded bs [] h = tt
lines_worded [] (l ∷ ls) h = absurd h
lines_worded (b ∷ bs) (l ∷ ls) h = (line_worded (tokens b) l (all_lexed b (lexemes b) (tokenised b)) h.0.spells, lines_worded bs ls h.1)

pub has_words : (name bytes : List ℕ) (r : Routine) → IsName name → IsRoutineRead name bytes r → IsRoutineWorded r
has_words name bytes r n h =
    let P : List ℕ → Type 0 = λ w. IsName w in
    record { name = subst P (sym h.spells.named) n; lines = lines_worded (lines_of bytes) r.lines h.lines }
