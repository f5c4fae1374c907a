use Rattle.std.proofs.Common.{◌≡◌, ◌-◌, ℕ, inr, refl, ap, arith}
use Rattle.mj_sys.specs.History.{log_of}
use Rattle.mj_core.specs.Woven.{woven, AreThere}
use Rattle.mj_gather.specs.Merged.{shared_log, merged_from}
use Rattle.mj_gather.specs.Lent.{lent, log_at, Ordered}
use Rattle.mj_gather.specs.Gathered.{DifferAt}
use Rattle.mj_gather.proofs.Whole.{rows_at, few_made, first_are, logs_all, as_gathered, differs_at, run_whole, all_gathered}
use Rattle.mj_gather.proofs.Placed.{run_placed}
use Rattle.mj_gather.proofs.gathering.gather.Goals as goal

pub overflow_sub-first : goal.overflow_sub-first
overflow_sub-first g c =
    few_made g.O.Opening.opening c.history-history.result.now c.args.system.now.history c.rows-jobs.result c.history-history.ensures.which c.history-history.ensures.served
    c.rows-jobs.ensures.value c.count_made.result c.count_made.ensures

pub merge-requires-clause-first : goal.merge-requires-clause-first
merge-requires-clause-first g c =
    first_are g.O.Opening.opening c.history-history.result.now c.args.system.now.history c.rows-jobs.result c.history-history.ensures.which c.history-history.ensures.served
    c.rows-jobs.ensures.value c.count_made.result c.count_made.ensures

pub merge-requires-clause-all : goal.merge-requires-clause-all
merge-requires-clause-all g c =
    logs_all g.O.Opening.opening c.history-history.result.now c.args.system.now.history c.rows-jobs.result c.history-history.ensures.which c.history-history.ensures.served
    c.rows-jobs.ensures.value c.args.rans.now c.deref.result.now c.in-Ok.logs.items c.deref.ensures.value c.in-Ok.ensures

pub merge-requires-clause-few : goal.merge-requires-clause-few
merge-requires-clause-few g c =
    let all = logs_all g.O.Opening.opening c.history-history.result.now c.args.system.now.history c.rows-jobs.result c.history-history.ensures.which
    c.history-history.ensures.served c.rows-jobs.ensures.value c.args.rans.now c.deref.result.now c.in-Ok.logs.items c.deref.ensures.value c.in-Ok.ensures in
    let rows = rows_at g.O.Opening.opening c.history-history.result.now c.args.system.now.history c.rows-jobs.result c.history-history.ensures.which
    c.history-history.ensures.served c.rows-jobs.ensures.value in
    omega (arith, all, rows, c.rows-jobs.ensures.bound)

pub merge-requires-clause-some : goal.merge-requires-clause-some
merge-requires-clause-some g c =
    let all = logs_all g.O.Opening.opening c.history-history.result.now c.args.system.now.history c.rows-jobs.result c.history-history.ensures.which
    c.history-history.ensures.served c.rows-jobs.ensures.value c.args.rans.now c.deref.result.now c.in-Ok.logs.items c.deref.ensures.value c.in-Ok.ensures in
    let rows = rows_at g.O.Opening.opening c.history-history.result.now c.args.system.now.history c.rows-jobs.result c.history-history.ensures.which
    c.history-history.ensures.served c.rows-jobs.ensures.value in
    omega (arith, all, rows)

pub new-requires : goal.new-requires
new-requires g c =
    let opening = g.O.Opening.opening in
    let logs = lent c.deref.result.now in
    let order : woven logs c.in-Ok-Ok.order.items ≡ merged_from (c.rows-jobs.result - c.count_made.result) (log_at logs) c.history-history.result.now =
    rw c.in-Ok-Ok.field-0-is at c.in-Ok-Ok.ensures.order in
    let agree : (job : ℕ) → shared_log (log_at logs job) ≡ log_of job c.history-history.result.now = rw c.in-Ok-Ok.field-0-is at c.in-Ok-Ok.ensures.agree in
    let there : AreThere logs c.in-Ok-Ok.order.items = rw c.in-Ok-Ok.field-0-is at c.in-Ok-Ok.ensures.there in
    let so = as_gathered opening c.history-history.result.now c.args.system.now.history c.rows-jobs.result c.history-history.ensures.which c.history-history.ensures.served
    c.rows-jobs.ensures.value c.args.rans.now c.deref.result.now c.in-Ok.logs.items c.deref.ensures.value c.in-Ok.ensures c.in-Ok-Ok.order.items c.count_made.result
    c.count_made.ensures c.rows-jobs.ensures.none_ended c.in_default-twice.ensures.none c.in_default.ensures.none order agree in
    run_whole opening c.args.system.now.history c.args.rans.now (lent c.in-Ok.logs.items) c.in-Ok-Ok.order.items c.rows-jobs.result (c.rows-jobs.result - c.count_made.result) so
    (rw c.deref.ensures.value at there)

pub returns-in-Ok-Ok : goal.returns-in-Ok-Ok
returns-in-Ok-Ok g c =
    let opening = g.O.Opening.opening in
    let history = c.args.system.now.history in
    let logs = lent c.deref.result.now in
    let order : woven logs c.in-Ok-Ok.order.items ≡ merged_from (c.rows-jobs.result - c.count_made.result) (log_at logs) c.history-history.result.now =
    rw c.in-Ok-Ok.field-0-is at c.in-Ok-Ok.ensures.order in
    let agree : (job : ℕ) → shared_log (log_at logs job) ≡ log_of job c.history-history.result.now = rw c.in-Ok-Ok.field-0-is at c.in-Ok-Ok.ensures.agree in
    let so = as_gathered opening c.history-history.result.now history c.rows-jobs.result c.history-history.ensures.which c.history-history.ensures.served
    c.rows-jobs.ensures.value c.args.rans.now c.deref.result.now c.in-Ok.logs.items c.deref.ensures.value c.in-Ok.ensures c.in-Ok-Ok.order.items c.count_made.result
    c.count_made.ensures c.rows-jobs.ensures.none_ended c.in_default-twice.ensures.none c.in_default.ensures.none order agree in
    let apart = rw c.locks-locks.ensures.replay at c.locks-locks.ensures.apart in
    let all = all_gathered opening history c.args.rans.now (lent c.in-Ok.logs.items) c.in-Ok-Ok.order.items c.rows-jobs.result (c.rows-jobs.result - c.count_made.result) so
    c.new.result.history (ap (λ (o : Ordered). o.history) c.new.ensures) c.rows-jobs.ensures.none_open apart in
    record {
      merged = all.merged;
      shared = all.shared;
      state = all.state;
      logs = all.logs;
      once = all.once;
      sound = all.sound;
      counted = all.counted;
      run = all.run;
      placed = run_placed opening history c.new.result.history c.args.rans.now c.rows-jobs.result c.in-Ok-places_of.places.items c.new.result.places
          c.rows-jobs.ensures.value c.in-Ok-places_of.ensures (ap (λ (o : Ordered). o.places) c.new.ensures) all.sound all.state all.logs;
      apart = all.apart;
      serial = all.serial;
      clashes = all.clashes;
      err = tt;
    }

pub returns-in-Ok-Err-clause-err : goal.returns-in-Ok-Err-clause-err
returns-in-Ok-Err-clause-err g c =
    let logs = lent c.deref.result.now in
    let differs : DifferAt c.in-Ok-Err.before (shared_log (log_at logs c.in-Ok-Err.job)) (log_of c.in-Ok-Err.job c.history-history.result.now) =
    rw c.in-Ok-Err.field-0-is at c.in-Ok-Err.ensures.differ in
    let differ = differs_at g.O.Opening.opening c.history-history.result.now c.args.system.now.history c.rows-jobs.result c.history-history.ensures.which
    c.history-history.ensures.served c.rows-jobs.ensures.value c.args.rans.now c.deref.result.now c.in-Ok.logs.items c.deref.ensures.value c.in-Ok.ensures
    c.in_default.ensures.none c.in-Ok-Err.job c.in-Ok-Err.before differs in
    inr (c.in-Ok-Err.before, refl, differ)
