-- What the readers of the parts of a line give.
use Rattle.std.specs.Prelude.{ℕ, ◌≡◌, ◌⊎◌, ◌+◌, ◌-◌, Bool, false, List, [], ◌∷◌, ◌++◌, Option, Some, is_some, Result}
use Rattle.mj_ast.specs.declared.keyword.Verb.{Verb}
use Rattle.mj_ast.specs.Tokens.{Token}
use Rattle.mj_ast.specs.Syntax.{Expr}
use Rattle.mj_ast.specs.declared.sign.Sign.TheVariants.{Comma}
use Rattle.mj_ast.specs.Commands.{Part, Put, Text}
use Rattle.mj_lex.specs.declared.token.Lexeme.{Lexeme}
use Rattle.mj_lex.specs.Seen.{tokens_seen}
use Rattle.mj_expr.specs.Machine as phrase
use Rattle.mj_expr.specs.Machine.{Limits}
use Rattle.mj_expr.specs.declared.stop.ParseError.{ParseError}
use Rattle.mj_line.specs.Forms.{Node, Mode, Reads as InRead, OutputWanted, OutputEnd, PieceBehind, EntryWanted, RoutineEnd, GuardWanted, GuardEnd, ActualWanted, ActualsEnd, actuals_at, colon_at, ends}
use Rattle.mj_line.specs.Sentences.{Clause, Sentence}
use Rattle.mj_line.specs.Machine.{Spot, Goal, IsClosed, At, In, Begin, Bare, Worded, Behind, Indented, args_rest, behind_phrase, level, run, with_clause}
use Rattle.mj_cmd.specs.Heads.{HasNoMark, HasNoQuestion, HasNoQuoted, HasOther, IsHead}
use Rattle.mj_cmd.specs.Parts.{MayBeGuarded, piece_node}
use Rattle.mj_cmd.specs.Reads.{HasRoom, ReadsTokens, ReadsAs, ReadsToEnd, EndsAs, Passes, PassesAs, AreWrittenActuals, no_tree}

-- ---- parts of arguments

-- Within all limits the parts are read on from a place to another.
abbrev pub PassesEver : {X : Type 0} → Bool → (X → List Part) → (X → List Lexeme) → Result X ParseError → List Lexeme → Node → Node → Type 0
PassesEver limited parts rest r ls n next = (m : Limits) → Passes limited parts rest r m ls n next

-- They are so from each of some places.
abbrev pub PassesEverEach : {X P : Type 0} → Bool → (X → List Part) → (X → List Lexeme) → Result X ParseError → List Lexeme → (P → Node) → (P → Node) → Type 0
PassesEverEach {P = P} limited parts rest r ls n next = (m : Limits) → (p : P) → Passes limited parts rest r m ls (n p) (next p)

-- Within the limits under which the tokens are read the parts are read on from a place to another.
abbrev pub PassesIn : {X : Type 0} → Bool → (X → List Part) → (X → List Lexeme) → Result X ParseError → List Lexeme → Node → Node → Type 0
PassesIn limited parts rest r ls n next = (m : Limits) → HasRoom limited m ls → Passes limited parts rest r m ls n next

-- They are so from each of some places.
abbrev pub PassesEach : {X P : Type 0} → Bool → (X → List Part) → (X → List Lexeme) → Result X ParseError → List Lexeme → (P → Node) → (P → Node) → Type 0
PassesEach {P = P} limited parts rest r ls n next = (m : Limits) → HasRoom limited m ls → (p : P) → Passes limited parts rest r m ls (n p) (next p)

-- They are so from each place where the tokens may stand.
abbrev pub PassesWhere : {X P : Type 0} → Bool → (P → List Token → Type 0) → (X → List Part) → (X → List Lexeme) → Result X ParseError → List Lexeme → (P → Node) → (P → Node) → Type 0
PassesWhere {P = P} limited may parts rest r ls n next =
    (m : Limits) → HasRoom limited m ls → (p : P) → may p (tokens_seen ls) → Passes limited parts rest r m ls (n p) (next p)

-- They are so from each place where the tokens may stand, which one value and another name.
abbrev pub PassesWherePaired : {X P Q : Type 0} → Bool → (P → Q → List Token → Type 0) → (X → List Part) → (X → List Lexeme) → Result X ParseError → List Lexeme → (P → Q → Node) → (P → Node) → Type 0
PassesWherePaired {P = P} {Q = Q} limited may parts rest r ls n next =
    (m : Limits) → HasRoom limited m ls → (p : P) → (q : Q) → may p q (tokens_seen ls) → Passes limited parts rest r m ls (n p q) (next p)

-- What was read from each of some places stands so to what is given.
abbrev pub PassesAsEach : {X P : Type 0} → Bool → (List Part → X → Type 0) → (X → List Lexeme) → Result X ParseError → List Lexeme → (P → Node) → (P → Node) → Type 0
PassesAsEach {P = P} limited is rest r ls n next = (m : Limits) → HasRoom limited m ls → (p : P) → PassesAs limited is rest r m ls (n p) (next p)

-- What was read from each place where the tokens may stand does.
abbrev pub PassesAsWhere : {X P : Type 0} → Bool → (P → List Token → Type 0) → (List Part → X → Type 0) → (X → List Lexeme) → Result X ParseError → List Lexeme → (P → Node) → (P → Node) → Type 0
PassesAsWhere {P = P} limited may is rest r ls n next =
    (m : Limits) → HasRoom limited m ls → (p : P) → may p (tokens_seen ls) → PassesAs limited is rest r m ls (n p) (next p)

-- What was read of one of some lists, where such a list may begin, stands so to what is given.
abbrev pub PassesList : {X Q : Type 0} → Bool → (Q → List Token → Type 0) → (List Part → X → Type 0) → (X → List Lexeme) → Result X ParseError → List Lexeme → (Q → Node) → (Q → Node) → Type 0
PassesList {Q = Q} limited begins is rest r ls n next =
    (q : Q) → (m : Limits) → HasRoom limited m ls → begins q (tokens_seen ls) → PassesAs limited is rest r m ls (n q) (next q)

-- What was read behind a comma in one of them does.
abbrev pub PassesMore : {X Q : Type 0} → Bool → (List Part → X → Type 0) → (X → List Lexeme) → Result X ParseError → List Lexeme → (Q → Node) → (Q → Node) → Type 0
PassesMore {Q = Q} limited is rest r ls n next = (q : Q) → (m : Limits) → HasRoom limited m ls → PassesAs limited is rest r m ls (n q) (next q)

-- An entry is read on, in each of its ways.
abbrev pub PassesEntry : {X : Type 0} → Bool → (X → List Part) → (X → List Lexeme) → Result X ParseError → List Lexeme → Type 0
PassesEntry limited parts rest r ls =
    (m : Limits) → (mode : Mode) → (first : Bool) → (ends (EntryWanted mode first) ≡ false) ⊎ HasOther (tokens_seen ls) →
    Passes limited parts rest r m ls (EntryWanted mode first) (RoutineEnd mode)

-- The condition of an argument is read on, in each way that has some.
abbrev pub PassesGuard : {X : Type 0} → Bool → (X → List Part) → (X → List Lexeme) → Result X ParseError → List Lexeme → Type 0
PassesGuard limited parts rest r ls =
    (m : Limits) → HasRoom limited m ls → (mode : Mode) → colon_at mode ≡ GuardWanted mode → (n : Node) → MayBeGuarded mode n (tokens_seen ls) →
    Passes limited parts rest r m ls n (GuardEnd mode)

-- A variable is read on that READ reads into, where no other of its arguments stands.
abbrev pub PassesReceived : {X : Type 0} → Bool → (X → List Part) → (X → List Lexeme) → Result X ParseError → List Lexeme → Type 0
PassesReceived limited parts rest r ls =
    (m : Limits) → HasRoom limited m ls → HasNoMark (tokens_seen ls) → HasNoQuestion (tokens_seen ls) → HasNoQuoted (tokens_seen ls) →
    Passes limited parts rest r m ls (OutputWanted InRead) (OutputEnd InRead)

-- A comma and a text of a `$PIECE` that is assigned to are read on, behind so many others.
abbrev pub PassesText : {X : Type 0} → Bool → (X → Expr) → (X → List Lexeme) → Result X ParseError → ℕ → List Lexeme → Type 0
PassesText limited text rest r count ls =
    (m : Limits) → HasRoom limited m ls → (listed : Bool) →
    Passes limited (λ x. Put Comma ∷ Text 1 (text x) ∷ []) rest r m ls (piece_node listed count) (PieceBehind listed (2 - count))

-- The actuals of a call are read on, in each way that has some, as they may be written.
abbrev pub PassesActuals : {X : Type 0} → Bool → (X → List (Option Expr)) → (X → List Lexeme) → Result X ParseError → List Lexeme → Type 0
PassesActuals limited list rest r ls =
    (m : Limits) → HasRoom limited m ls → (mode : Mode) → actuals_at mode ≡ Some (ActualWanted mode) →
    PassesAs limited (λ ps x. AreWrittenActuals ps (list x)) rest r m ls (RoutineEnd mode) (ActualsEnd mode)

-- ---- phrases

-- A phrase is read on, wherever one that can't be left stands at this level.
abbrev pub ReadsPhrase : {X T : Type 0} → Bool → (X → T) → (X → List Lexeme) → Result X ParseError → ℕ → List Lexeme → phrase.State → (T → phrase.Phrase) → Type 0
ReadsPhrase limited tree rest r inside ls s whole =
    (m : Limits) → HasRoom limited m ls → (g : Goal) → level g ≡ inside → IsClosed g →
    ReadsTokens limited tree rest r m ls (In g s) (λ t. At (behind_phrase g (whole t)))

-- ---- commands

-- The postcondition behind the word of a command is read on, whatever stands before it.
abbrev pub ReadsCondition : {X : Type 0} → Bool → (X → Option Expr) → (X → List Lexeme) → Result X ParseError → Verb → List Lexeme → Type 0
ReadsCondition limited tree rest r verb ls =
    (m : Limits) → HasRoom limited m ls → (o : Sentence) → ReadsTokens limited tree rest r m ls (At (Worded o verb)) (λ c. At (Bare o c verb))

-- The arguments behind that are.
abbrev pub ReadsArguments : {X : Type 0} → Bool → (List Part → X → Type 0) → (X → List Lexeme) → Result X ParseError → Verb → List Lexeme → Type 0
ReadsArguments limited is rest r verb ls =
    (m : Limits) → HasRoom limited m ls → (o : Sentence) → (condition : Option Expr) →
    ReadsAs limited is rest r m ls (At (Bare o condition verb)) (λ ps. At (Behind (args_rest o condition verb ps)))

-- All of a command behind its word is.
abbrev pub ReadsStep : {X : Type 0} → Bool → (Clause → X → Type 0) → (X → List Lexeme) → Result X ParseError → Verb → List Lexeme → Type 0
ReadsStep limited is rest r verb ls =
    (m : Limits) → HasRoom limited m ls → (o : Sentence) →
    ReadsAs limited is rest r m ls (At (Worded o verb)) (λ c. At (Behind (record { line = with_clause o c; gap = 1; comment = 0 })))

-- ---- lines

-- where a command may stand behind these, after so many dots more
abbrev pub indented_by : ℕ → Sentence → Spot
indented_by n o = Behind (record { line = record { label = o.label; formals = o.formals; level = n + o.level; clauses = o.clauses }; gap = 0; comment = 0 })

-- Formals are read on from a spot of the line with this label to another.
abbrev pub ReadsFormals : {X : Type 0} → (X → List (List ℕ)) → (X → List Lexeme) → Result X ParseError → List Lexeme → (List ℕ → Spot) → (List ℕ → List (List ℕ) → Spot) → Type 0
ReadsFormals names rest r ls p next =
    (m : Limits) → (limited : Bool) → (label : List ℕ) → ReadsTokens limited names rest r m ls (At (p label)) (λ ns. At (next label ns))

-- The label of a line and its formals are read on, if it has some.
abbrev pub ReadsHead : {X : Type 0} → (X → Option (List ℕ)) → (X → List (List ℕ)) → (X → List Lexeme) → Result X ParseError → List Lexeme → Type 0
ReadsHead label formals rest r ls =
    (m : Limits) → (limited : Bool) →
    ReadsAs limited (λ p x. IsHead (tokens_seen (rest x)) p (record { label = label x; formals = formals x; level = 1; clauses = [] })) rest r m ls (At Begin) (λ p. At p)

-- Up to the rest stand so many dots.
abbrev pub HasDots : ℕ → List Lexeme → List Lexeme → Type 0
HasDots n ls rest = (m : Limits) → (o : Sentence) → run m (tokens_seen ls) (At (Indented o)) ≡ run m (tokens_seen rest) (At (indented_by n o))

-- The dots behind the head of a line are read on.
abbrev pub ReadsDots : {X : Type 0} → (X → ℕ) → (X → List Lexeme) → Result X ParseError → Bool → List Lexeme → Type 0
ReadsDots dots rest r has_label ls =
    (m : Limits) → (limited : Bool) → (p : Spot) → (o : Sentence) → IsHead (tokens_seen ls) p o → has_label ≡ is_some o.label →
    ReadsTokens limited dots rest r m ls (At p) (λ n. At (indented_by n o))

-- The line ends where a command may stand.
abbrev pub EndsBehind : {X : Type 0} → Result X ParseError → List Lexeme → Type 0
EndsBehind r ls =
    (m : Limits) → (limited : Bool) → (o : Sentence) →
    ReadsToEnd limited (λ _. no_tree) r m ls (At (Behind (record { line = o; gap = 0; comment = 0 }))) (λ _. o)

-- All further commands of a line are read, up to its end.
abbrev pub EndsWith : {X : Type 0} → Bool → (List Clause → X → Type 0) → Result X ParseError → List Lexeme → Type 0
EndsWith limited are r ls =
    (m : Limits) → HasRoom limited m ls → (o : Sentence) →
    EndsAs limited are r m ls (At (Behind (record { line = o; gap = 0; comment = 0 })))
    (λ ss. record { label = o.label; formals = o.formals; level = o.level; clauses = o.clauses ++ ss })

-- A whole line is read.
abbrev pub EndsLine : {X : Type 0} → Bool → (Sentence → X → Type 0) → Result X ParseError → List Lexeme → Type 0
EndsLine limited is r ls = (m : Limits) → HasRoom limited m ls → EndsAs limited is r m ls (At Begin) (λ l. l)
