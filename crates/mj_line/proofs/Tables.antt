-- What is known of the table of arguments, each fact by a look at every row.
use Rattle.std.proofs.Common.{◌≡◌, ℕ, zero, suc, ◌≤◌, nat_le, List, [], ◌∷◌, length, refl, sym, ◌∙◌, subst, Bool, true, false, arith, Option, Some, None, ◌⊎◌, inl, inr}
use Rattle.std.specs.Prelude.{cond}
use Rattle.std.proofs.lemmas.Bool.Decides.{nat_tests}
use Rattle.mj_ast.specs.declared.sign.Sign.TheVariants.{Equals, Comma, Colon, Close}
use Rattle.mj_ast.specs.declared.function.Function.TheVariants.{Piece}
use Rattle.mj_ast.specs.declared.function.Callee.{Callee}
use Rattle.mj_ast.specs.declared.function.Callee.TheVariants as callee
use Rattle.mj_ast.specs.declared.keyword.Verb.{Verb}
use Rattle.mj_ast.specs.declared.keyword.Keyword.TheVariants as keyword
use Rattle.mj_ast.specs.declared.keyword.Verb.TheVariants.{Of, HaltOrHang}
use Rattle.mj_ast.specs.Syntax.{Expr}
use Rattle.mj_ast.specs.Tokens.{Token, Word, Called, Digits, Quoted, Signed}
use Rattle.mj_ast.specs.Expressions.{callee_of}
use Rattle.mj_ast.specs.Commands.{bare_of, meant, is_conditional, IsConditional, Part, Put, Named, Label, SerialWord, PieceCall, Prompt, Text, Place, Control, is_serial_word, SpellsPart, part_nesting, part_width}
use Rattle.mj_line.specs.Forms.{Mode, Node, SetTarget, PieceVariable, PieceComma, PieceText, PieceBehind, SetBehind, SetValue, SetEnd, Talk, Writes, Reads, OutputWanted, OutputEnd, ColumnWanted, CodeWanted, IntoWanted, IntoEnd, IntoTimed, DeviceWanted, DeviceEnd, DeviceTimed, DeviceWaited, KillWanted, KillEnd, MergeInto, MergeBehind, MergeFrom, MergeEnd, ValueWanted, ValueEnd, ForWanted, ForBehind, RangeWanted, RangeEnd, StepWanted, StepEnd, LimitWanted, LimitEnd, EntryWanted, ActualWanted, ActualEnd, GuardWanted, GuardEnd, LockWanted, LockSigned, LockListed, LockBehind, LockNamed, LockTimed, LockEnd, SerialWanted, SerialInside, Sort, Names, Labels, Serials, Want, AnExpr, AVar, ALocal, next_of, piece_part, part_of, part_at, sort_of, takes, wants, ends, first_node, may_be_bare, PartLeads, ResultWanted, ResultEnd}
use Rattle.mj_line.specs.Machine.{level_of}

pub none_some : {A : Type 0} (x : A) → None ≡ Some x → ⊥
none_some x e = cc

pub some_same : {A : Type 0} (x y : A) → Some x ≡ Some y → x ≡ y
some_same x y e = cc

-- ---- levels

abbrev IsSmall : Option Want → Type 0
IsSmall None = Unit {0}
IsSmall (Some w) = level_of w ≤ 1

all_small : (n : Node) → IsSmall (wants n)
all_small (SetTarget listed) = omega arith
all_small (PieceVariable listed) = omega arith
all_small (PieceText listed more) = omega arith
all_small SetValue = omega arith
all_small (OutputWanted Writes) = omega arith
all_small (OutputWanted Reads) = omega arith
all_small (ColumnWanted talk) = omega arith
all_small CodeWanted = omega arith
all_small IntoWanted = omega arith
all_small IntoTimed = omega arith
all_small DeviceWanted = omega arith
all_small DeviceTimed = omega arith
all_small (KillWanted first) = omega arith
all_small MergeInto = omega arith
all_small MergeFrom = omega arith
all_small (ValueWanted first) = omega arith
all_small ResultWanted = omega arith
all_small ForWanted = omega arith
all_small RangeWanted = omega arith
all_small StepWanted = omega arith
all_small LimitWanted = omega arith
all_small (ActualWanted mode) = omega arith
all_small (GuardWanted mode) = omega arith
all_small (LockWanted first) = omega arith
all_small LockSigned = omega arith
all_small LockListed = omega arith
all_small LockTimed = omega arith
all_small n = tt

-- a command opens one level at most
pub small : (n : Node) (w : Want) → wants n ≡ Some w → level_of w ≤ 1
small n w e = subst IsSmall e (all_small n)

-- ---- tokens

abbrev pub IsTokenPart : Part → Type 0
IsTokenPart (Text level e) = ⊥
IsTokenPart (Place level v) = ⊥
IsTokenPart (Control v) = ⊥
IsTokenPart p = Unit {0}

-- what a token that is a part alone spells
pub record Alone (t : Token) (p : Part) : Type 0 where
  pub spells : SpellsPart (t ∷ []) p
  pub token : IsTokenPart p

word_alone : (w : List ℕ) (p : Part) (b : Bool) → nat_le (length w) 31 ≡ b → cond b (Some (Named w)) None ≡ Some p → Alone (Word w) p
word_alone w p true h e = let P : Part → Type 0 = λ q. Alone (Word w) q in
    subst P (some_same (Named w) p e) (record { spells = (refl, (let s : length w ≤ 31 = grind (arith, nat_tests) in s)); token = tt })
word_alone w p false h e = absurd (none_some p e)

callee_alone : (w : List ℕ) (p : Part) (q : Option Callee) → length w ≤ 31 → callee_of w ≡ q → piece_part q ≡ Some p → Alone (Called w) p
callee_alone w p (Some (callee.Texts Piece)) s h e = let P : Part → Type 0 = λ z. Alone (Called w) z in subst P (some_same PieceCall p e) (record { spells = (w, refl, s, h); token = tt })
callee_alone w p q s h e = absurd (none_some p e)

called_alone : (w : List ℕ) (p : Part) (b : Bool) → nat_le (length w) 31 ≡ b → cond b (piece_part (callee_of w)) None ≡ Some p → Alone (Called w) p
called_alone w p true h e = callee_alone w p (callee_of w) (let s : length w ≤ 31 = grind (arith, nat_tests) in s) refl e
called_alone w p false h e = absurd (none_some p e)

quoted_alone : (v : List ℕ) (p : Part) (b : Bool) → nat_le (length v) 1048576 ≡ b → cond b (Some (Prompt v)) None ≡ Some p → Alone (Quoted v) p
quoted_alone v p true h e = let P : Part → Type 0 = λ q. Alone (Quoted v) q in
    subst P (some_same (Prompt v) p e) (record { spells = (refl, (let s : length v ≤ 1048576 = grind (arith, nat_tests) in s)); token = tt })
quoted_alone v p false h e = absurd (none_some p e)

pub alone : (t : Token) (p : Part) → part_of t ≡ Some p → Alone t p
alone (Signed s) p e = let P : Part → Type 0 = λ q. Alone (Signed s) q in subst P (some_same (Put s) p e) (record { spells = refl; token = tt })
alone (Word w) p e = word_alone w p (nat_le (length w) 31) refl e
alone (Called w) p e = called_alone w p (nat_le (length w) 31) refl e
alone t p e = absurd (none_some p e)

label_alone : (w : List ℕ) (p : Part) (b : Bool) → nat_le (length w) 31 ≡ b → cond b (Some (Label w)) None ≡ Some p → Alone (Word w) p
label_alone w p true h e = let P : Part → Type 0 = λ q. Alone (Word w) q in
    subst P (some_same (Label w) p e) (record { spells = inl (refl, (let s : length w ≤ 31 = grind (arith, nat_tests) in s)); token = tt })
label_alone w p false h e = absurd (none_some p e)

digits_alone : (d : List ℕ) (p : Part) (b : Bool) → nat_le (length d) 1048576 ≡ b → cond b (Some (Label d)) None ≡ Some p → Alone (Digits d) p
digits_alone d p true h e = let P : Part → Type 0 = λ q. Alone (Digits d) q in
    subst P (some_same (Label d) p e) (record { spells = inr (refl, (let s : length d ≤ 1048576 = grind (arith, nat_tests) in s)); token = tt })
digits_alone d p false h e = absurd (none_some p e)

serial_alone : (w : List ℕ) (p : Part) (b : Bool) → is_serial_word w ≡ b → cond b (Some SerialWord) None ≡ Some p → Alone (Word w) p
serial_alone w p true h e = let P : Part → Type 0 = λ q. Alone (Word w) q in subst P (some_same SerialWord p e) (record { spells = (w, refl, h); token = tt })
serial_alone w p false h e = absurd (none_some p e)

-- where a label may be wanted, or the word of SERIAL
pub alone_at : (b : Sort) (t : Token) (p : Part) → part_at b t ≡ Some p → Alone t p
alone_at Labels (Word w) p e = label_alone w p (nat_le (length w) 31) refl e
alone_at Labels (Digits d) p e = digits_alone d p (nat_le (length d) 1048576) refl e
alone_at Labels (Signed z) p e = alone (Signed z) p e
alone_at Labels (Called w) p e = alone (Called w) p e
alone_at Labels (Quoted v) p e = quoted_alone v p (nat_le (length v) 1048576) refl e
alone_at Labels t p e = absurd (none_some p e)
alone_at Serials (Word w) p e = serial_alone w p (is_serial_word w) refl e
alone_at Serials (Signed z) p e = alone (Signed z) p e
alone_at Serials (Called w) p e = alone (Called w) p e
alone_at Serials t p e = absurd (none_some p e)
alone_at Names t p e = alone t p e

-- a part of one token leads where it is taken
pub token_goes : (n next : Node) (p : Part) → IsTokenPart p → takes n p ≡ Some next → PartLeads n p next
token_goes n next (Put s) h e = e
token_goes n next (Named w) h e = e
token_goes n next (Label w) h e = e
token_goes n next SerialWord h e = e
token_goes n next PieceCall h e = e
token_goes n next (Prompt v) h e = e
token_goes n next (Text level x) h e = absurd h
token_goes n next (Place level v) h e = absurd h
token_goes n next (Control v) h e = absurd h

pub token_nesting : (p : Part) → IsTokenPart p → part_nesting p ≡ 0
token_nesting (Put s) h = refl
token_nesting (Named w) h = refl
token_nesting (Label w) h = refl
token_nesting SerialWord h = refl
token_nesting PieceCall h = refl
token_nesting (Prompt v) h = refl
token_nesting (Text level x) h = absurd h
token_nesting (Place level v) h = absurd h
token_nesting (Control v) h = absurd h

pub token_width : (p : Part) → IsTokenPart p → part_width p ≡ 0
token_width (Put s) h = refl
token_width (Named w) h = refl
token_width (Label w) h = refl
token_width SerialWord h = refl
token_width PieceCall h = refl
token_width (Prompt v) h = refl
token_width (Text level x) h = absurd h
token_width (Place level v) h = absurd h
token_width (Control v) h = absurd h

-- ---- commands without arguments

abbrev IsBareThere : Verb → Option Node → Type 0
IsBareThere k None = may_be_bare k ≡ true
IsBareThere k (Some n) = ends n ≡ true → may_be_bare k ≡ true

false_true : {A : Type 0} → false ≡ true → A
false_true e = absurd (let f : false ≡ true = e in cc)

all_bare : (k : Verb) → IsBareThere k (first_node k)
all_bare (Of keyword.Set) = λ e. e
all_bare (Of keyword.Write) = λ e. e
all_bare (Of keyword.Halt) = refl
all_bare (Of keyword.Hang) = λ e. e
all_bare (Of keyword.Job) = λ e. e
all_bare (Of keyword.Lock) = λ e. refl
all_bare (Of keyword.Kill) = λ e. refl
all_bare (Of keyword.Merge) = λ e. e
all_bare (Of keyword.If) = λ e. refl
all_bare (Of keyword.For) = λ e. refl
all_bare (Of keyword.Do) = λ e. refl
all_bare (Of keyword.Goto) = λ e. e
all_bare (Of keyword.New) = λ e. refl
all_bare (Of keyword.Open) = λ e. e
all_bare (Of keyword.Use) = λ e. e
all_bare (Of keyword.Close) = λ e. e
all_bare (Of keyword.Read) = λ e. e
all_bare (Of keyword.TStart) = λ e. refl
all_bare (Of keyword.Quit) = λ e. refl
all_bare HaltOrHang = λ e. refl
all_bare k = refl

-- where the arguments may end before the first, there may be none
pub bare_first : (k : Verb) (n : Node) → first_node k ≡ Some n → ends n ≡ true → may_be_bare k ≡ true
bare_first k n e = let P : Option Node → Type 0 = λ q. IsBareThere k q in subst P e (all_bare k)

-- where there may be none at all, none is right
pub bare_none : (k : Verb) → first_node k ≡ None → may_be_bare k ≡ true
bare_none k e = let P : Option Node → Type 0 = λ q. IsBareThere k q in subst P e (all_bare k)

-- a word has a condition as each command has that it leads to
pub conditional_as : (v : Verb) (ps : List Part) → is_conditional (meant v ps) ≡ is_conditional (bare_of v)
conditional_as (Of k) [] = refl
conditional_as (Of k) (p ∷ ps) = refl
conditional_as HaltOrHang [] = refl
conditional_as HaltOrHang (p ∷ ps) = refl

pub conditional_meant : (v : Verb) (ps : List Part) (c : Option Expr) → IsConditional (bare_of v) c → IsConditional (meant v ps) c
conditional_meant v ps None h = tt
conditional_meant v ps (Some e) h = conditional_as v ps ∙ h

pub conditional_bare : (v : Verb) (ps : List Part) (c : Option Expr) → IsConditional (meant v ps) c → IsConditional (bare_of v) c
conditional_bare v ps None h = tt
conditional_bare v ps (Some e) h = sym (conditional_as v ps) ∙ h

-- a label is taken only where one is wanted, and a name only where none is
pub label_wanted : (n next : Node) (l : List ℕ) → takes n (Label l) ≡ Some next → sort_of n ≡ Labels
label_wanted (EntryWanted mode first) next l e = refl
label_wanted (SetTarget false) next l e = absurd (none_some next e)
label_wanted (SetTarget true) next l e = absurd (none_some next e)
label_wanted (PieceBehind listed zero) next l e = absurd (none_some next e)
label_wanted (PieceBehind listed (suc more)) next l e = absurd (none_some next e)
label_wanted (SetBehind false) next l e = absurd (none_some next e)
label_wanted (SetBehind true) next l e = absurd (none_some next e)
label_wanted n next l e = absurd (none_some next e)

-- and a text in quotes where it may stand alone
pub prompt_wanted : (n next : Node) (v : List ℕ) → takes n (Prompt v) ≡ Some next → sort_of n ≡ Labels
prompt_wanted (OutputWanted Reads) next v e = refl
prompt_wanted (OutputWanted Writes) next v e = absurd (none_some next e)
prompt_wanted (SetTarget false) next v e = absurd (none_some next e)
prompt_wanted (SetTarget true) next v e = absurd (none_some next e)
prompt_wanted (PieceBehind listed zero) next v e = absurd (none_some next e)
prompt_wanted (PieceBehind listed (suc more)) next v e = absurd (none_some next e)
prompt_wanted (SetBehind false) next v e = absurd (none_some next e)
prompt_wanted (SetBehind true) next v e = absurd (none_some next e)
prompt_wanted n next v e = absurd (none_some next e)

pub name_wanted : (n next : Node) (w : List ℕ) → takes n (Named w) ≡ Some next → sort_of n ≡ Names
name_wanted (EntryWanted mode first) next w e = absurd (none_some next e)
name_wanted (OutputWanted talk) next w e = absurd (none_some next e)
name_wanted SerialWanted next w e = absurd (none_some next e)
name_wanted SerialInside next w e = absurd (none_some next e)
name_wanted n next w e = refl

-- and the word of SERIAL where it is wanted
pub serial_wanted : (n next : Node) → takes n SerialWord ≡ Some next → sort_of n ≡ Serials
serial_wanted SerialWanted next e = refl
serial_wanted SerialInside next e = refl
serial_wanted (SetTarget false) next e = absurd (none_some next e)
serial_wanted (SetTarget true) next e = absurd (none_some next e)
serial_wanted (PieceBehind listed zero) next e = absurd (none_some next e)
serial_wanted (PieceBehind listed (suc more)) next e = absurd (none_some next e)
serial_wanted (SetBehind false) next e = absurd (none_some next e)
serial_wanted (SetBehind true) next e = absurd (none_some next e)
serial_wanted n next e = absurd (none_some next e)

-- nor where a phrase is, but for a text in quotes
abbrev IsUnlabelled : Node → Option Want → Type 0
IsUnlabelled n None = Unit {0}
IsUnlabelled n (Some w) = (sort_of n ≡ Names) ⊎ (n ≡ OutputWanted Reads)

all_unlabelled : (n : Node) → IsUnlabelled n (wants n)
all_unlabelled (SetTarget listed) = inl refl
all_unlabelled (PieceVariable listed) = inl refl
all_unlabelled (PieceText listed more) = inl refl
all_unlabelled SetValue = inl refl
all_unlabelled (OutputWanted Writes) = inl refl
all_unlabelled (OutputWanted Reads) = inr refl
all_unlabelled (ColumnWanted talk) = inl refl
all_unlabelled CodeWanted = inl refl
all_unlabelled IntoWanted = inl refl
all_unlabelled IntoTimed = inl refl
all_unlabelled DeviceWanted = inl refl
all_unlabelled DeviceTimed = inl refl
all_unlabelled (KillWanted first) = inl refl
all_unlabelled MergeInto = inl refl
all_unlabelled MergeFrom = inl refl
all_unlabelled (ValueWanted first) = inl refl
all_unlabelled ResultWanted = inl refl
all_unlabelled ForWanted = inl refl
all_unlabelled RangeWanted = inl refl
all_unlabelled StepWanted = inl refl
all_unlabelled LimitWanted = inl refl
all_unlabelled (ActualWanted mode) = inl refl
all_unlabelled (GuardWanted mode) = inl refl
all_unlabelled (LockWanted first) = inl refl
all_unlabelled LockSigned = inl refl
all_unlabelled LockListed = inl refl
all_unlabelled LockTimed = inl refl
all_unlabelled n = tt

pub unlabelled : (n : Node) (w : Want) → wants n ≡ Some w → (sort_of n ≡ Names) ⊎ (n ≡ OutputWanted Reads)
unlabelled n w e = let P : Option Want → Type 0 = λ q. IsUnlabelled n q in subst P e (all_unlabelled n)

-- ---- what follows a phrase

-- behind an expression
abbrev pub FollowsText : Part → Type 0
FollowsText (Put Comma) = Unit {0}
FollowsText (Put Close) = Unit {0}
FollowsText (Put Colon) = Unit {0}
FollowsText p = ⊥

-- behind a variable
abbrev pub FollowsPlace : Part → Type 0
FollowsPlace (Put Equals) = Unit {0}
FollowsPlace (Put Comma) = Unit {0}
FollowsPlace (Put Close) = Unit {0}
FollowsPlace (Put Colon) = Unit {0}
FollowsPlace p = ⊥

abbrev pub FollowsWant : Want → Part → Type 0
FollowsWant (AnExpr level next) p = FollowsText p
FollowsWant (AVar level next) p = FollowsPlace p
FollowsWant (ALocal next) p = FollowsPlace p

piece_follows : (listed : Bool) (more : ℕ) (p : Part) (m : Node) → PartLeads (PieceBehind listed more) p m → FollowsText p
piece_follows listed more (Put Comma) m e = tt
piece_follows listed more (Put Close) m e = tt
piece_follows listed more (Control v) m e = absurd (none_some _ e.0)
piece_follows listed zero p m e = absurd (none_some _ e)
piece_follows listed (suc more) p m e = absurd (none_some _ e)

set_follows : (p : Part) (m : Node) → PartLeads SetEnd p m → FollowsText p
set_follows (Put Comma) m e = tt
set_follows (Control v) m e = absurd (none_some _ e.0)
set_follows p m e = absurd (none_some _ e)

output_follows : (talk : Talk) (p : Part) (m : Node) → PartLeads (OutputEnd talk) p m → FollowsText p
output_follows talk (Put Comma) m e = tt
output_follows talk (Control v) m e = absurd (none_some _ e.0)
output_follows talk p m e = absurd (none_some _ e)

received_follows : (p : Part) (m : Node) → PartLeads IntoEnd p m → FollowsPlace p
received_follows (Put Comma) m e = tt
received_follows (Put Colon) m e = tt
received_follows (Control v) m e = absurd (none_some _ e.0)
received_follows p m e = absurd (none_some _ e)

device_follows : (p : Part) (m : Node) → PartLeads DeviceEnd p m → FollowsText p
device_follows (Put Comma) m e = tt
device_follows (Put Colon) m e = tt
device_follows (Control v) m e = absurd (none_some _ e.0)
device_follows p m e = absurd (none_some _ e)

waited_follows : (p : Part) (m : Node) → PartLeads DeviceWaited p m → FollowsText p
waited_follows (Put Comma) m e = tt
waited_follows (Control v) m e = absurd (none_some _ e.0)
waited_follows p m e = absurd (none_some _ e)

target_follows : (listed : Bool) (p : Part) (m : Node) → PartLeads (SetBehind listed) p m → FollowsPlace p
target_follows listed (Put Equals) m e = tt
target_follows listed (Put Comma) m e = tt
target_follows listed (Put Close) m e = tt
target_follows listed (Control v) m e = absurd (none_some _ e.0)
target_follows false p m e = absurd (none_some _ e)
target_follows true p m e = absurd (none_some _ e)

comma_follows : (listed : Bool) (p : Part) (m : Node) → PartLeads (PieceComma listed) p m → FollowsPlace p
comma_follows listed (Put Comma) m e = tt
comma_follows listed (Control v) m e = absurd (none_some _ e.0)
comma_follows listed p m e = absurd (none_some _ e)

kill_follows : (p : Part) (m : Node) → PartLeads KillEnd p m → FollowsPlace p
kill_follows (Put Comma) m e = tt
kill_follows (Control v) m e = absurd (none_some _ e.0)
kill_follows p m e = absurd (none_some _ e)

into_follows : (p : Part) (m : Node) → PartLeads MergeBehind p m → FollowsPlace p
into_follows (Put Equals) m e = tt
into_follows (Control v) m e = absurd (none_some _ e.0)
into_follows p m e = absurd (none_some _ e)

from_follows : (p : Part) (m : Node) → PartLeads MergeEnd p m → FollowsPlace p
from_follows (Put Comma) m e = tt
from_follows (Control v) m e = absurd (none_some _ e.0)
from_follows p m e = absurd (none_some _ e)

if_follows : (p : Part) (m : Node) → PartLeads ValueEnd p m → FollowsText p
if_follows (Put Comma) m e = tt
if_follows (Control v) m e = absurd (none_some _ e.0)
if_follows p m e = absurd (none_some _ e)

result_follows : (p : Part) (m : Node) → PartLeads ResultEnd p m → FollowsText p
result_follows (Control v) m e = absurd (none_some _ e.0)
result_follows p m e = absurd (none_some _ e)

for_follows : (p : Part) (m : Node) → PartLeads ForBehind p m → FollowsPlace p
for_follows (Put Equals) m e = tt
for_follows (Control v) m e = absurd (none_some _ e.0)
for_follows p m e = absurd (none_some _ e)

range_follows : (p : Part) (m : Node) → PartLeads RangeEnd p m → FollowsText p
range_follows (Put Comma) m e = tt
range_follows (Put Colon) m e = tt
range_follows (Control v) m e = absurd (none_some _ e.0)
range_follows p m e = absurd (none_some _ e)

step_follows : (p : Part) (m : Node) → PartLeads StepEnd p m → FollowsText p
step_follows (Put Comma) m e = tt
step_follows (Put Colon) m e = tt
step_follows (Control v) m e = absurd (none_some _ e.0)
step_follows p m e = absurd (none_some _ e)

limit_follows : (p : Part) (m : Node) → PartLeads LimitEnd p m → FollowsText p
limit_follows (Put Comma) m e = tt
limit_follows (Control v) m e = absurd (none_some _ e.0)
limit_follows p m e = absurd (none_some _ e)

actual_follows : (mode : Mode) (p : Part) (m : Node) → PartLeads (ActualEnd mode) p m → FollowsText p
actual_follows mode (Put Comma) m e = tt
actual_follows mode (Put Close) m e = tt
actual_follows mode (Control v) m e = absurd (none_some _ e.0)
actual_follows mode p m e = absurd (none_some _ e)

guard_follows : (mode : Mode) (p : Part) (m : Node) → PartLeads (GuardEnd mode) p m → FollowsText p
guard_follows mode (Put Comma) m e = tt
guard_follows mode (Control v) m e = absurd (none_some _ e.0)
guard_follows mode p m e = absurd (none_some _ e)

named_follows : (p : Part) (m : Node) → PartLeads LockNamed p m → FollowsPlace p
named_follows (Put Comma) m e = tt
named_follows (Put Colon) m e = tt
named_follows (Control v) m e = absurd (none_some _ e.0)
named_follows p m e = absurd (none_some _ e)

locked_follows : (p : Part) (m : Node) → PartLeads LockBehind p m → FollowsPlace p
locked_follows (Put Comma) m e = tt
locked_follows (Put Close) m e = tt
locked_follows (Control v) m e = absurd (none_some _ e.0)
locked_follows p m e = absurd (none_some _ e)

lock_follows : (p : Part) (m : Node) → PartLeads LockEnd p m → FollowsText p
lock_follows (Put Comma) m e = tt
lock_follows (Control v) m e = absurd (none_some _ e.0)
lock_follows p m e = absurd (none_some _ e)

abbrev IsFollowed : Option Want → Type 0
IsFollowed None = Unit {0}
IsFollowed (Some w) = (p : Part) (m : Node) → PartLeads (next_of w) p m → FollowsWant w p

all_followed : (n : Node) → IsFollowed (wants n)
all_followed (SetTarget listed) = λ p m e. target_follows listed p m e
all_followed (PieceVariable listed) = λ p m e. comma_follows listed p m e
all_followed (PieceText listed more) = λ p m e. piece_follows listed more p m e
all_followed SetValue = λ p m e. set_follows p m e
all_followed (OutputWanted Writes) = λ p m e. output_follows Writes p m e
all_followed (OutputWanted Reads) = λ p m e. received_follows p m e
all_followed (ColumnWanted talk) = λ p m e. output_follows talk p m e
all_followed CodeWanted = λ p m e. output_follows Writes p m e
all_followed IntoWanted = λ p m e. received_follows p m e
all_followed IntoTimed = λ p m e. output_follows Reads p m e
all_followed DeviceWanted = λ p m e. device_follows p m e
all_followed DeviceTimed = λ p m e. waited_follows p m e
all_followed (KillWanted first) = λ p m e. kill_follows p m e
all_followed MergeInto = λ p m e. into_follows p m e
all_followed MergeFrom = λ p m e. from_follows p m e
all_followed (ValueWanted first) = λ p m e. if_follows p m e
all_followed ResultWanted = λ p m e. result_follows p m e
all_followed ForWanted = λ p m e. for_follows p m e
all_followed RangeWanted = λ p m e. range_follows p m e
all_followed StepWanted = λ p m e. step_follows p m e
all_followed LimitWanted = λ p m e. limit_follows p m e
all_followed (ActualWanted mode) = λ p m e. actual_follows mode p m e
all_followed (GuardWanted mode) = λ p m e. guard_follows mode p m e
all_followed (LockWanted first) = λ p m e. named_follows p m e
all_followed LockSigned = λ p m e. named_follows p m e
all_followed LockListed = λ p m e. locked_follows p m e
all_followed LockTimed = λ p m e. lock_follows p m e
all_followed n = tt

-- behind a phrase stands a sign that no such phrase goes on with
pub followed : (n : Node) (w : Want) → wants n ≡ Some w → (p : Part) (m : Node) → PartLeads (next_of w) p m → FollowsWant w p
followed n w e = subst IsFollowed e (all_followed n)

-- no phrase stands directly behind another
abbrev IsShut : Option Want → Type 0
IsShut None = Unit {0}
IsShut (Some w) = wants (next_of w) ≡ None

all_shut : (n : Node) → IsShut (wants n)
all_shut (SetTarget listed) = refl
all_shut (PieceVariable listed) = refl
all_shut (PieceText listed more) = refl
all_shut SetValue = refl
all_shut (OutputWanted Writes) = refl
all_shut (OutputWanted Reads) = refl
all_shut (ColumnWanted talk) = refl
all_shut CodeWanted = refl
all_shut IntoWanted = refl
all_shut IntoTimed = refl
all_shut DeviceWanted = refl
all_shut DeviceTimed = refl
all_shut (KillWanted first) = refl
all_shut MergeInto = refl
all_shut MergeFrom = refl
all_shut (ValueWanted first) = refl
all_shut ResultWanted = refl
all_shut ForWanted = refl
all_shut RangeWanted = refl
all_shut StepWanted = refl
all_shut LimitWanted = refl
all_shut (ActualWanted mode) = refl
all_shut (GuardWanted mode) = refl
all_shut (LockWanted first) = refl
all_shut LockSigned = refl
all_shut LockListed = refl
all_shut LockTimed = refl
all_shut n = tt

pub shut : (n : Node) (w : Want) → wants n ≡ Some w → wants (next_of w) ≡ None
shut n w e = subst IsShut e (all_shut n)

-- where a command may have no arguments, they may end before the first
abbrev EndsThere : Verb → Option Node → Type 0
EndsThere k None = Unit {0}
EndsThere k (Some n) = may_be_bare k ≡ true → ends n ≡ true

all_ends : (k : Verb) → EndsThere k (first_node k)
all_ends (Of keyword.Set) = λ e. e
all_ends (Of keyword.Write) = λ e. e
all_ends (Of keyword.Halt) = tt
all_ends (Of keyword.Hang) = λ e. e
all_ends (Of keyword.Job) = λ e. e
all_ends (Of keyword.Lock) = λ e. refl
all_ends (Of keyword.Kill) = λ e. refl
all_ends (Of keyword.Merge) = λ e. e
all_ends (Of keyword.If) = λ e. refl
all_ends (Of keyword.For) = λ e. refl
all_ends (Of keyword.Do) = λ e. refl
all_ends (Of keyword.Goto) = λ e. e
all_ends (Of keyword.Quit) = λ e. refl
all_ends (Of keyword.New) = λ e. refl
all_ends (Of keyword.Open) = λ e. e
all_ends (Of keyword.Use) = λ e. e
all_ends (Of keyword.Close) = λ e. e
all_ends (Of keyword.Read) = λ e. e
all_ends (Of keyword.TStart) = λ e. refl
all_ends HaltOrHang = λ e. refl
all_ends k = tt

pub first_ends : (k : Verb) (n : Node) → first_node k ≡ Some n → may_be_bare k ≡ true → ends n ≡ true
first_ends k n e = let P : Option Node → Type 0 = λ q. EndsThere k q in subst P e (all_ends k)
