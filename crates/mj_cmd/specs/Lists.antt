-- Lists of items with commas between them: what each such list has of the table.
use Rattle.std.specs.Prelude.{◌≡◌, ◌⊎◌, ℕ, true, false, List, [], ◌∷◌, ◌++◌, None, refl}
use Rattle.std.proofs.Common.{inl, inr}
use Rattle.mj_ast.specs.declared.sign.Sign.{Sign}
use Rattle.mj_ast.specs.declared.sign.Sign.TheVariants.{Close, Comma}
use Rattle.mj_ast.specs.Commands.{Part, Put, Named, PieceCall}
use Rattle.mj_line.specs.Forms.{Names, Mode, Talk, Node, DeviceWaited, SetBehind, SetEnd, OutputEnd, KillEnd, MergeEnd, ValueEnd, LimitEnd, NewEnd, GuardEnd, ActualEnd, LockEnd, LockBehind, sort_of, takes, wants, ends}

-- Items with commas between them, the parts of each such.
abbrev pub AreItems : {X : Type 0} → (List Part → X → Type 0) → List Part → List X → Type 0
AreItems is ps [] = ⊥
AreItems is ps (x ∷ []) = is ps x
AreItems is ps (x ∷ y ∷ xs) = (front : List Part) × (rest : List Part) × (ps ≡ front ++ Put Comma ∷ rest) × is front x × AreItems is rest (y ∷ xs)

-- such items, and the `)` behind them
abbrev pub AreEnclosed : {X : Type 0} → (List Part → X → Type 0) → List Part → List X → Type 0
AreEnclosed is ps xs = (qs : List Part) × (ps ≡ qs ++ Put Close ∷ []) × AreItems is qs xs

-- of all signs a comma alone is taken there
abbrev pub comma_or : Node → Type 0
comma_or n = (s : Sign) → (takes n (Put s) ≡ None) ⊎ (s ≡ Comma)

-- or a `)`
abbrev pub comma_or_close : Node → Type 0
comma_or_close n = (s : Sign) → (takes n (Put s) ≡ None) ⊎ ((s ≡ Comma) ⊎ (s ≡ Close))

-- neither a phrase nor a word may stand there
pub record IsShut (n : Node) : Type 0 where
  pub unlabelled : sort_of n ≡ Names
  pub unnamed : (w : List ℕ) → takes n (Named w) ≡ None
  pub pieceless : takes n PieceCall ≡ None
  pub alone : wants n ≡ None

-- behind an argument a comma may stand, or the command ends
pub record IsOver (n : Node) : Type 0 where
  pub shut : IsShut n
  pub comma : comma_or n

-- behind an item of a list in parentheses a comma may stand, or a `)`
pub record IsUnclosed (n : Node) : Type 0 where
  pub shut : IsShut n
  pub comma : comma_or_close n
  pub open_yet : ends n ≡ false

-- ---- the lists

set_comma : comma_or SetEnd
set_comma Comma = inr refl
set_comma s = inl refl

output_comma : (talk : Talk) → comma_or (OutputEnd talk)
output_comma talk Comma = inr refl
output_comma talk s = inl refl

device_comma : comma_or DeviceWaited
device_comma Comma = inr refl
device_comma s = inl refl

kill_comma : comma_or KillEnd
kill_comma Comma = inr refl
kill_comma s = inl refl

merge_comma : comma_or MergeEnd
merge_comma Comma = inr refl
merge_comma s = inl refl

value_comma : comma_or ValueEnd
value_comma Comma = inr refl
value_comma s = inl refl

range_comma : comma_or LimitEnd
range_comma Comma = inr refl
range_comma s = inl refl

new_comma : comma_or NewEnd
new_comma Comma = inr refl
new_comma s = inl refl

guard_comma : (mode : Mode) → comma_or (GuardEnd mode)
guard_comma mode Comma = inr refl
guard_comma mode s = inl refl

target_comma : comma_or_close (SetBehind true)
target_comma Comma = inr (inl refl)
target_comma Close = inr (inr refl)
target_comma s = inl refl

actual_comma : (mode : Mode) → comma_or_close (ActualEnd mode)
actual_comma mode Comma = inr (inl refl)
actual_comma mode Close = inr (inr refl)
actual_comma mode s = inl refl

lock_comma : comma_or LockEnd
lock_comma Comma = inr refl
lock_comma s = inl refl

locked_comma : comma_or_close LockBehind
locked_comma Comma = inr (inl refl)
locked_comma Close = inr (inr refl)
locked_comma s = inl refl

pub set_over : IsOver SetEnd
set_over = record { shut = record { unlabelled = refl; unnamed = λ w. refl; pieceless = refl; alone = refl }; comma = set_comma }

pub output_over : (talk : Talk) → IsOver (OutputEnd talk)
output_over talk = record { shut = record { unlabelled = refl; unnamed = λ w. refl; pieceless = refl; alone = refl }; comma = output_comma talk }

pub device_over : IsOver DeviceWaited
device_over = record { shut = record { unlabelled = refl; unnamed = λ w. refl; pieceless = refl; alone = refl }; comma = device_comma }

pub kill_over : IsOver KillEnd
kill_over = record { shut = record { unlabelled = refl; unnamed = λ w. refl; pieceless = refl; alone = refl }; comma = kill_comma }

pub merge_over : IsOver MergeEnd
merge_over = record { shut = record { unlabelled = refl; unnamed = λ w. refl; pieceless = refl; alone = refl }; comma = merge_comma }

pub value_over : IsOver ValueEnd
value_over = record { shut = record { unlabelled = refl; unnamed = λ w. refl; pieceless = refl; alone = refl }; comma = value_comma }

pub range_over : IsOver LimitEnd
range_over = record { shut = record { unlabelled = refl; unnamed = λ w. refl; pieceless = refl; alone = refl }; comma = range_comma }

pub new_over : IsOver NewEnd
new_over = record { shut = record { unlabelled = refl; unnamed = λ w. refl; pieceless = refl; alone = refl }; comma = new_comma }

pub guard_over : (mode : Mode) → IsOver (GuardEnd mode)
guard_over mode = record { shut = record { unlabelled = refl; unnamed = λ w. refl; pieceless = refl; alone = refl }; comma = guard_comma mode }

pub targets_unclosed : IsUnclosed (SetBehind true)
targets_unclosed = record { shut = record { unlabelled = refl; unnamed = λ w. refl; pieceless = refl; alone = refl }; comma = target_comma; open_yet = refl }

pub actuals_unclosed : (mode : Mode) → IsUnclosed (ActualEnd mode)
actuals_unclosed mode = record { shut = record { unlabelled = refl; unnamed = λ w. refl; pieceless = refl; alone = refl }; comma = actual_comma mode; open_yet = refl }

pub lock_over : IsOver LockEnd
lock_over = record { shut = record { unlabelled = refl; unnamed = λ w. refl; pieceless = refl; alone = refl }; comma = lock_comma }

pub locks_unclosed : IsUnclosed LockBehind
locks_unclosed = record { shut = record { unlabelled = refl; unnamed = λ w. refl; pieceless = refl; alone = refl }; comma = locked_comma; open_yet = refl }
