-- The names of what is seen rise.
use Rattle.std.proofs.Common.{true, false, cond, List, [], ◌∷◌}
use Rattle.std.specs.Prelude.{T}
use Rattle.std.specs.FinMap.{is_sorted}
use Rattle.std.specs.FinMap.Entries.{is_sorted-put, is_sorted-where_key}
use Rattle.std.specs.Option.{is_none}
use Rattle.mj_subs.specs.Name.{Name}
use Rattle.mj_subs.specs.Collation.{name_cmp}
use Rattle.mj_subs.specs.Laws.Total.{name_cmp_total}
use Rattle.mj_store.specs.Questions.{Content, Subtree, rest_of}
use Rattle.mj_store.specs.Changes.{after_set, after_put, followed_by, is_too_deep}
use Rattle.mj_store.specs.Runs.{after_access, after_accesses}
use Rattle.mj_store.specs.declared.access.Access.{Access}
use Rattle.mj_store.specs.declared.access.Access.TheVariants as access
use Rattle.mj_txlog.specs.Accesses.{Accesses, writes_of, seen}

rises_put : (es : Content) (n : Name) (more : Subtree) → T (is_sorted name_cmp es) → T (is_sorted name_cmp (after_put es n more))
rises_put es n [] h = h
rises_put es n (x ∷ more) h = rises_put (after_set es (followed_by n x.0) x.1) n more (is_sorted-put name_cmp name_cmp_total (followed_by n x.0) x.1 es h)

rises_access : (a : Access) (c : Content) → T (is_sorted name_cmp c) → T (is_sorted name_cmp (after_access a c))
rises_access (access.Value n) c h = h
rises_access (access.Data n) c h = h
rises_access (access.Order n way) c h = h
rises_access (access.Query n) c h = h
rises_access (access.Subtree n) c h = h
rises_access (access.Set n v) c h = is_sorted-put name_cmp name_cmp_total n v c h
rises_access (access.Kill n) c h = is_sorted-where_key name_cmp (λ m. is_none (rest_of n m)) c h
rises_access (access.Put n nodes) c h =
    elim (is_too_deep n nodes) as (λ b. T (is_sorted name_cmp (cond b c (after_put c n nodes)))) [ true ↦ h | false ↦ rises_put c n nodes h ]

rises_accesses : (ws : List Access) (c : Content) → T (is_sorted name_cmp c) → T (is_sorted name_cmp (after_accesses ws c))
rises_accesses [] c h = h
rises_accesses (a ∷ ws) c h = rises_accesses ws (after_access a c) (rises_access a c h)

pub rises_seen : (g : Content) (es : Accesses) → T (is_sorted name_cmp g) → T (is_sorted name_cmp (seen g es))
rises_seen g es h = rises_accesses (writes_of es) g h
