use Rattle.std.proofs.Common.{◌≡◌, ℕ, Bool, take, get_or, sym, ap, arith}
use Rattle.std.specs.Prelude.{if◌then◌else◌}
use Rattle.std.proofs.lemmas.List.{length-take}
use Rattle.mj_txlog.specs.Follows.{is_stale}
use Rattle.mj_txlog.proofs.Following.{stale_most, stale_next}
use Rattle.mj_txlog.proofs.stale.stale_among.Goals.{then-is_stale, else-is_stale}
use Rattle.mj_txlog.proofs.stale.stale_among.Goals as goal

pub overflow_add-stale : goal.overflow_add-stale
overflow_add-stale c =
    let i = c.loop-i.i in
    let es = c.args.entries.now in
    omega (arith, c.loop-i.invariant, stale_most c.args.globals.now.stamps (take i es) (take i c.args.stamps.now), length-take i es, c.requires.limit)

pub loop-i-preserved : goal.loop-i-preserved
loop-i-preserved c =
    let stamps = c.args.globals.now.stamps in
    let ss = c.args.stamps.now in
    let i = c.loop-i.i in
    let e = c.index-entries-i.result in
    let so = c.loop-i.invariant in
    let next = stale_next stamps c.args.entries.now ss i e 0 c.requires.each c.loop-i-test.true c.index-entries-i.is in
    elim c.if-is_stale.branch [
      | then-is_stale w ↦
          let more : ◌≡◌ {A = ℕ} (if is_stale stamps e (get_or ss i 0) then 1 else 0) 1 = ap (λ (b : Bool). if b then 1 else 0) (sym w.if-is_stale.ensures) in
          omega (arith, w.stale-is, so, next, more)
      | else-is_stale w ↦
          let same : ◌≡◌ {A = ℕ} (if is_stale stamps e (get_or ss i 0) then 1 else 0) 0 = ap (λ (b : Bool). if b then 1 else 0) (sym w.if-is_stale.ensures) in
          omega (arith, w.stale-is, so, next, same)
    ]
