use mir.Syntax.{named}
use denote.Ref.{NamedLft}
use denote.Exit.{no}
use denote.Param.{param}
use denote.Param.Send.{IsSend, IsSync}
use Rattle.std.proofs.sync.Mutex.TheSendSync as mutex
use Rattle.std.proofs.sync.ledger.Share.TheSendSync as share
use Rattle.std.specs.contracts.sync.Mutex as Mutex
use Rattle.std.specs.contracts.sync.ledger.Share as Share
use Rattle.crossbeam_utils.specs.contracts.cache_padded.CachePadded as CachePadded
use Rattle.crossbeam_utils.proofs.cache_padded.CachePadded.TheSendSync as padded
use Rattle.mj_work.specs.contracts.locked.Locked as Locked
use Rattle.mj_work.proofs.Sends.{locked_send, taken_arg}
use Rattle.mj_work.proofs.workers.+fn-start-join+arg2+fn-start-join+arg3+start.Goals as goal

-- the bounds are looked for before the lifetimes are named, of which there are too many for a search
pub join-one-requires-send-F : goal.join-one-requires-send-F
join-one-requires-send-F g t c =
    let r : IsSync (param 5 g.row.R) = search in
    let gate : IsSync (param 3 g.row.G) = search in
    let clock : IsSync (param 4 g.row.C) = search in
    let d : IsSend (param 1 g.row.D) = search in
    let o : IsSend (param 2 g.row.O) = search in
    let L = λ (κ : NamedLft). Locked.the_row κ (param 0 g.row.J) (param 1 g.row.D) (param 2 g.row.O) g.J.Work g.D.Device g.O.Opening g.J.Ledger in
    let P = λ (κ : NamedLft). CachePadded.the_row (L κ) in
    let m : (κ : NamedLft) → IsSync (Mutex.the_row (P κ)) =
    λ κ. mutex.the_sync (P κ) (padded.the_send (L κ) (locked_send κ (param 0 g.row.J) (param 1 g.row.D) (param 2 g.row.O) g.J.Work g.D.Device g.O.Opening g.J.Ledger d o)) in
    λ κs within.
    let of : NamedLft = record { mir = named 8; lft = κs.1.1.1.1.1.1.1.1.0 } in
    taken_arg _ (record { mir = named 6; lft = κs.1.1.1.1.1.1.0 }) (record { mir = named 7; lft = κs.1.1.1.1.1.1.1.0 }) (record { mir = named 9; lft = κs.1.1.1.1.1.1.1.1.1.0 })
    (record { mir = named 10; lft = κs.1.1.1.1.1.1.1.1.1.1.0 }) (record { mir = named 11; lft = κs.1.1.1.1.1.1.1.1.1.1.1.0 }) (param 5 g.row.R) (Mutex.the_row (P of))
    (param 3 g.row.G) (param 4 g.row.C) (Share.the_row (param 0 g.row.J) g.J.Ledger) r (m of) gate clock (share.the_send (param 0 g.row.J) g.J.Ledger) 1 _ no
