-- What a read depends on.
use Rattle.std.specs.Prelude.{◌≡◌, Bool, true, false, ◌&&◌, []}
use Rattle.std.specs.FinMap.{find}
use Rattle.std.specs.Option.{is_some}
use Rattle.mj_subs.specs.Name.{Name, overlaps}
use Rattle.mj_subs.specs.Collation.{name_cmp}
use Rattle.mj_store.specs.Questions.{Content, with_subscripts, rest_of}
use Rattle.mj_store.specs.Runs.{name_of}
use Rattle.mj_store.specs.declared.access.Access.{Access}
use Rattle.mj_store.specs.declared.access.Access.TheVariants as access
use Rattle.mj_txlog.specs.declared.entry.Entry.{Entry}
use Rattle.mj_txlog.specs.declared.entry.Entry.TheVariants as entry
use Rattle.mj_txlog.specs.Accesses.{is_write, front_of}

-- a read depends on what stands at this name and below it
abbrev pub reach_of : Access → Name
reach_of (access.Order n way) = with_subscripts n (front_of n.subscripts)
reach_of (access.Query n) = with_subscripts n []
reach_of a = name_of a

-- whether an access is a write to the name, to one above it or to one below it
abbrev pub meets : Name → Entry → Bool
meets n (entry.Access a r) = is_write a && overlaps (name_of a) n
meets n (entry.Unlock u) = false

-- the contents have the same texts at the name and below it
abbrev pub AreAlike : Name → Content → Content → Type 0
AreAlike n c d = (m : Name) → is_some (rest_of n m) ≡ true → find name_cmp m c ≡ find name_cmp m d
