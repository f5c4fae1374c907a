-- The devices and the starts of a trace can open a run.
use Rattle.std.proofs.Common.{◌≡◌, ◌∙◌, ◌≤◌, true, false, refl, List, [], ◌∷◌, length, map, sym, ap, subst, arith}
use Rattle.std.proofs.lemmas.List.{length-map}
use Rattle.mj_store.specs.Questions.{Content}
use Rattle.mj_store.specs.Nodes.{is_empty}
use Rattle.mj_ask.specs.Started.{Started}
use Rattle.mj_dev.specs.Shelves.{Shelf, left_of, principal}
use Rattle.mj_jobs.specs.Rows.{rows_limit}
use Rattle.mj_sys.specs.Opening.{opening_of, are_bare}
use Rattle.mj_sys.proofs.Bare.{bare_all}
use Rattle.mj_dev.specs.Pools.{shelves_of}
use Rattle.mj_trace.specs.Trace.{Traced}
use Rattle.mj_trace.specs.Lines.{IsTrace}
use Rattle.mj_replay.specs.Traces.{bare_start, opening_in}
use Rattle.mj_replay.proofs.Sessions.{all_start}

some_there : {A : Type 0} (xs : List A) → is_empty xs ≡ false → 1 ≤ length xs
some_there [] h = absurd cc
some_there (x ∷ xs) h = omega arith

-- what was made of a trace
module _ (t : Traced) (is : IsTrace t) (pool : List Shelf) (starts : List Started) (p : pool ≡ shelves_of t.pool) (s : starts ≡ map bare_start t.starts) where
  same_length : length starts ≡ length t.starts
  same_length = ap length s ∙ length-map t.starts bare_start

  pub some : 1 ≤ length starts
  some = subst (λ n. 1 ≤ n) (sym same_length) (some_there t.starts is.started)

  pub few : length starts ≤ rows_limit
  few = subst (λ n. n ≤ rows_limit) (sym same_length) is.starts_few

  pub fits : length starts ≤ left_of principal pool
  fits = subst (λ n. n ≤ left_of principal pool) (sym same_length) (subst (λ shelves. length t.starts ≤ left_of principal shelves) (sym p) (all_start t is))

  pub bare : are_bare starts ≡ true
  bare = ap are_bare s ∙ bare_all bare_start t.starts (λ e. refl)

  pub opens : (globals : Content) → opening_of globals pool starts ≡ opening_in globals t
  opens globals = λ i. opening_of globals (p i) (s i)
