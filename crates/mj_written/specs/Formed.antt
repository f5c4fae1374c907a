-- Which locals are formed: those that can be put below a global, and written as a listing; and which places are.
use Rattle.std.specs.Prelude.{◌≡◌, Bool, true, not, ◌&&◌}
use Rattle.std.specs.List.{list_all}
use Rattle.std.specs.FinMap.{is_sorted}
use Rattle.mj_subs.specs.Name.{Name, is_word}
use Rattle.mj_subs.specs.Collation.{name_cmp}
use Rattle.mj_ask.specs.Formed.{is_name}
use Rattle.mj_semantics.specs.State.{Locals, Place}

-- the name of a local
abbrev pub is_local_name : Name → Bool
is_local_name n = not n.global && is_name n

-- locals: their names rise, so each stands once, and each is that of a local
abbrev pub are_locals : Locals → Bool
are_locals locals = is_sorted name_cmp locals && list_all (λ e. is_local_name e.0) locals

-- a line of a routine whose name is a word
abbrev pub IsLine : Place → Type 0
IsLine p = is_word p.routine ≡ true
