-- What a function that reads a part of a line returns.
use Rattle.std.specs.Prelude.{◌≡◌, ◌≤◌, ◌+◌, Bool, true, false, List, ◌++◌, length, Option, map, Result, Ok, Err}
use Rattle.mj_ast.specs.Expressions.{depth_limit, width_limit}
use Rattle.mj_ast.specs.declared.keyword.Keyword.{Keyword}
use Rattle.mj_ast.specs.declared.keyword.Verb.{Verb}
use Rattle.mj_ast.specs.Syntax.{Expr, Called, Started, Command, LineCommand, Line}
use Rattle.mj_ast.specs.Commands.{Part, actuals_parts, called_parts, started_parts, command_parts, keyword_for, meant, with_commas, plain, plain_actuals, plain_called, plain_started, plain_step}
use Rattle.mj_ast.specs.Lines.{plain_line}
use Rattle.mj_lex.specs.declared.token.Lexeme.{Lexeme}
use Rattle.mj_lex.specs.Seen.{tokens_seen}
use Rattle.mj_expr.specs.Machine.{Limits}
use Rattle.mj_expr.specs.Reads.{limits}
use Rattle.mj_expr.specs.declared.stop.ParseError.{ParseError}
use Rattle.mj_expr.specs.declared.stop.ParseError.TheVariants as stop
use Rattle.mj_line.specs.Forms.{Node}
use Rattle.mj_line.specs.Sentences.{Clause, Sentence, clause_of, sentence_of}
use Rattle.mj_line.specs.Machine.{State, At, Args, Outcome, Accept, StuckAt, DeepAt, TooLong, run}

-- where no tree is made
abbrev pub no_tree : Unit {0}
no_tree = tt

-- The limits under which these tokens are read: those of the language; or without the limit on levels, so that none can be a
-- level too many, nor one around it.
abbrev pub HasRoom : Bool → Limits → List Lexeme → Type 0
HasRoom true m ls = m ≡ limits depth_limit
HasRoom false m ls = (m.width ≡ width_limit) × (length ls + 2 ≤ m.depth)

-- What a refusal says of a run; want of memory says nothing. A level too many is refused within the limits of the language.
abbrev pub Refuses : Bool → ParseError → Outcome → Type 0
Refuses limited stop.Memory o = Unit {0}
Refuses limited (stop.Stuck left) o = o ≡ StuckAt left
Refuses limited (stop.Deep left) o = (limited ≡ true) × (o ≡ DeepAt left)
Refuses limited stop.Long o = o ≡ TooLong

-- The tokens are read on from the state: up to the rest with the state that holds what was read, or up to the refusal. Within the
-- limits of the language what was read stands so to what is given.
abbrev pub ReadsAs : {X T : Type 0} → Bool → (T → X → Type 0) → (X → List Lexeme) → Result X ParseError → Limits → List Lexeme → State → (T → State) → Type 0
ReadsAs {T = T} limited is rest (Ok x) m ls s holding = (t : T) × (limited ≡ true → is t x) × (run m (tokens_seen ls) s ≡ run m (tokens_seen (rest x)) (holding t))
ReadsAs {T = T} limited is rest (Err e) m ls s holding = Refuses limited e (run m (tokens_seen ls) s)

-- The tokens are read on from the state: up to the rest with the state that holds the tree, or up to the refusal. Within the
-- limits of the language it is the tree that is given; else that one stands for any.
abbrev pub ReadsTokens : {X T : Type 0} → Bool → (X → T) → (X → List Lexeme) → Result X ParseError → Limits → List Lexeme → State → (T → State) → Type 0
ReadsTokens {T = T} limited tree rest (Ok x) m ls s holding = (t : T) × (limited ≡ true → t ≡ tree x) × (run m (tokens_seen ls) s ≡ run m (tokens_seen (rest x)) (holding t))
ReadsTokens {T = T} limited tree rest (Err e) m ls s holding = Refuses limited e (run m (tokens_seen ls) s)

-- The tokens are read on to their end, and are the line that is made of the tree, or are refused.
abbrev pub ReadsToEnd : {X T : Type 0} → Bool → (X → T) → Result X ParseError → Limits → List Lexeme → State → (T → Sentence) → Type 0
ReadsToEnd {T = T} limited tree (Ok x) m ls s made = (t : T) × (limited ≡ true → t ≡ tree x) × (run m (tokens_seen ls) s ≡ Accept (made t))
ReadsToEnd {T = T} limited tree (Err e) m ls s made = Refuses limited e (run m (tokens_seen ls) s)

-- The tokens are read on to their end, and what was read, of which the line is made, stands so to what is given; or they are refused.
abbrev pub EndsAs : {X T : Type 0} → Bool → (T → X → Type 0) → Result X ParseError → Limits → List Lexeme → State → (T → Sentence) → Type 0
EndsAs {T = T} limited is (Ok x) m ls s made = (t : T) × (limited ≡ true → is t x) × (run m (tokens_seen ls) s ≡ Accept (made t))
EndsAs {T = T} limited is (Err e) m ls s made = Refuses limited e (run m (tokens_seen ls) s)

-- The parts are those of actuals as they may be written, with their parentheses, and so on.
abbrev pub AreWrittenActuals : List Part → List (Option Expr) → Type 0
AreWrittenActuals ps list = (ws : List (Option Expr)) × (ps ≡ actuals_parts ws) × (plain_actuals ws ≡ list)

abbrev pub IsWrittenAs : {X : Type 0} → (X → List Part) → (X → X) → List Part → X → Type 0
IsWrittenAs {X = X} parts plain ps x = (w : X) × (ps ≡ parts w) × (plain w ≡ x)

abbrev pub AreWrittenAs : {X : Type 0} → (X → List Part) → (X → X) → List Part → List X → Type 0
AreWrittenAs {X = X} parts plain ps xs = (ws : List X) × (ps ≡ with_commas parts ws) × (map plain ws ≡ xs)

abbrev pub IsWrittenCall : List Part → Called → Type 0
IsWrittenCall ps c = IsWrittenAs called_parts plain_called ps c

abbrev pub IsWrittenStart : List Part → Started → Type 0
IsWrittenStart ps s = IsWrittenAs started_parts plain_started ps s

abbrev pub IsPlainCommand : List Part → Command → Type 0
IsPlainCommand ps c = (w : Command) × (ps ≡ command_parts w) × (plain w ≡ c)

-- and the command is the one of the keyword
abbrev pub IsWrittenAfter : Keyword → List Part → Command → Type 0
IsWrittenAfter k ps c = IsPlainCommand ps c × (keyword_for c ≡ k)

-- and the command is the one that the word is before these parts
abbrev pub IsMeant : Verb → List Part → Command → Type 0
IsMeant v ps c = IsPlainCommand ps c × (keyword_for c ≡ meant v ps)

abbrev pub IsWrittenStep : Clause → LineCommand → Type 0
IsWrittenStep c s = (w : LineCommand) × (c ≡ clause_of w) × (plain_step w ≡ s)

abbrev pub AreWritten : List Clause → List LineCommand → Type 0
AreWritten cs ss = (ws : List LineCommand) × (cs ≡ map clause_of ws) × (map plain_step ws ≡ ss)

abbrev pub IsWrittenLine : Sentence → Line → Type 0
IsWrittenLine s l = (w : Line) × (s ≡ sentence_of w) × (plain_line w ≡ l)

-- The parts of arguments are read on from a place to another.
abbrev pub Passes : {X : Type 0} → Bool → (X → List Part) → (X → List Lexeme) → Result X ParseError → Limits → List Lexeme → Node → Node → Type 0
Passes limited parts rest r m ls n next =
    (o : Sentence) → (condition : Option Expr) → (k : Verb) → (done : List Part) →
    ReadsTokens limited parts rest r m ls (At (Args o condition k done n)) (λ ps. At (Args o condition k (done ++ ps) next))

-- The parts of arguments are read on from a place to another, and stand so to what is given.
abbrev pub PassesAs : {X : Type 0} → Bool → (List Part → X → Type 0) → (X → List Lexeme) → Result X ParseError → Limits → List Lexeme → Node → Node → Type 0
PassesAs limited is rest r m ls n next =
    (o : Sentence) → (condition : Option Expr) → (k : Verb) → (done : List Part) →
    ReadsAs limited is rest r m ls (At (Args o condition k done n)) (λ ps. At (Args o condition k (done ++ ps) next))
