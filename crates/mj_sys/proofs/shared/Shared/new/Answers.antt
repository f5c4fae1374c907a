use Rattle.std.proofs.Common.{[], None, replicate, length, ap, ◌∙◌}
use Rattle.mj_dev.specs.Shelves.{left_of, principal}
use Rattle.mj_jobs.specs.Rows.{Rows}
use Rattle.mj_locktab.specs.Locks.{Locks}
use Rattle.mj_sys.specs.Opening.{free_devices}
use Rattle.mj_sys.specs.Devices.{Devices}
use Rattle.mj_sys.specs.Transactions.{Transactions, Transacted}
use Rattle.mj_sys.specs.Kept.{Service, devices_of}
use Rattle.mj_sys.proofs.Placed.{free_all}
use Rattle.mj_sys.proofs.Together.{at_first_together}
use Rattle.mj_sys.proofs.shared.Shared.new.Goals as goal

pub invariant_of-result : goal.invariant_of-result
invariant_of-result g c =
    let pool = c.args.pool in
    let left = c.left-principals.ensures ∙ ap (λ n. left_of n pool) c.principal.ensures in
    let holders = c.in-Ok.ensures ∙ ap (λ n. replicate n None) c.len.ensures in
    rw (left, holders, c.in-Ok-of.ensures.ok) (at_first_together pool c.args.starts.items c.requires.fits)

pub new-requires : goal.new-requires
new-requires g c = c.in-Ok-none_open.ensures.open c.args.globals

pub returns-clause-ok : goal.returns-clause-ok
returns-clause-ok g c =
    let pool = c.args.pool in
    let left = c.left-principals.ensures ∙ ap (λ n. left_of n pool) c.principal.ensures in
    let holders = c.in-Ok.ensures ∙ ap (λ n. replicate n None) c.len.ensures in
    let of_all : Transacted → Locks → Devices → Rows → Service = λ x locks d jobs. record {
      state = record { globals = x.globals; locks = locks; devices = d; rows = jobs.rows; transactions = x.transactions };
      claimed = jobs.claimed;
    } in
    let at_first : Transactions → Transacted = λ ts. record { globals = c.args.globals.content; transactions = ts } in
    let none : Transactions = replicate (length c.args.starts.items) None in
    let of : Locks → Devices → Rows → Service = of_all (at_first none) in
    let devices : Devices = devices_of c.left-principals.result pool c.in-Ok.holders.items in
    ap (λ x. of_all x c.new-2.result.holds devices c.in-Ok-of.jobs) (c.new.ensures ∙ ap at_first (c.in-Ok-none_open.ensures.logged ∙ ap (λ n. replicate n None) (c.len-2.ensures ∙ c.args.starts.ok.0)))
    ∙ ap (λ l. of l devices c.in-Ok-of.jobs) c.new-2.ensures
    ∙ ap (λ p. of [] (devices_of p pool c.in-Ok.holders.items) c.in-Ok-of.jobs) left
    ∙ ap (λ h. of [] (devices_of (left_of principal pool) pool h) c.in-Ok-of.jobs) holders
    ∙ ap (λ d. of [] d c.in-Ok-of.jobs) (free_all (left_of principal pool) pool)
    ∙ ap (λ r. of [] (free_devices (left_of principal pool) pool) r) c.in-Ok-of.ensures.ok
