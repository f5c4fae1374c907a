use Rattle.std.proofs.Common.{◌≡◌, ℕ, ◌<◌, Some, None, length, slice_index_or, take}
use Rattle.std.specs.Prelude.{slice_get}
use Rattle.mj_ask.specs.declared.noted.Noted.{Noted}
use Rattle.mj_explain.specs.Events.{began_by}
use Rattle.mj_explain.proofs.begins.begins_of.Given as goal

abbrev pub invariant-loop-place : goal.invariant-loop-place
invariant-loop-place l =
    ((j : ℕ) → slice_index_or l.table.items j None ≡ began_by j (take l.place l.events))
    × (length l.begins.items ≡ l.place)
    × ((k : ℕ) (e : Noted) → k < l.place → slice_get l.events k ≡ Some e → slice_get l.begins.items k ≡ Some (began_by e.job (take k l.events)))
