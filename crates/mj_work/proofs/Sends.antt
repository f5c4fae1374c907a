-- A system may go to another thread where its devices may.
use denote.RattleType.{RattleType}
use denote.Param.Send.{IsSend, IsSync, plain_send, view_send, shr_send, param_send, arg_send}
use denote.Param.SendFields.{declared_send, as_row_send}
use Rattle.std.proofs.Crossing.{Vec-send, Box-send, Deque-send}
use Rattle.std.proofs.MapsCrossing.{BTreeMap-send}
use Rattle.std.proofs.option.Option.TheSendSync as option
use Rattle.std.proofs.alloc.Global.TheSendSync as heap
use denote.Ref.{NamedLft, ShrRef}
use denote.Struct.Field.{u32-field}
use denote.Struct.Tuple.{TupleAt}
use mir.Syntax.{Sym, Ty}
use denote.Exit.{Kept}
use denote.Param.{param, arg}
use Rattle.std.specs.Prelude.{ℕ}
use Rattle.std.specs.Prelude.{[], ◌∷◌}
use Rattle.std.specs.contracts.alloc.Global as Global
use Rattle.mj_load.specs.contracts.image.Image as Image
use Rattle.mj_sys.proofs.claim.Claim.TheSendSync as claim
use Rattle.mj_ask.proofs.ask.Ask.TheSendSync as ask
use Rattle.mj_ask.proofs.ask.Reply.TheSendSync as reply
use Rattle.mj_work.proofs.Crosses.{image_sync}
use Rattle.std.proofs.sync.ledger.Book.TheSendSync as book
use Rattle.std.specs.declared.sync.ledger.Ledger as Ledger
use Rattle.mj_work.specs.declared.locked.Work as Work
use Rattle.mj_work.specs.contracts.locked.Locked as Locked
use Rattle.mj_jobvm.specs.contracts.places.Places as Places
use Rattle.mj_gather.specs.contracts.ran.Ran as Ran
use Rattle.mj_gather.proofs.ran.Stop.TheSendSync as stop
use Rattle.mj_text.proofs.text.Text.TheSendSync as text
use Rattle.mj_subs.proofs.sub.Sub.TheSendSync as sub
use Rattle.mj_subs.proofs.name.Name.TheSendSync as name
use Rattle.mj_tree.proofs.node.Node.TheLaws.TheKnot as knot
use Rattle.mj_tree.specs.contracts.node.Node as Node
use Rattle.mj_tree.specs.contracts.tree.Tree as Tree
use Rattle.mj_globs.specs.contracts.texts.Texts as Texts
use Rattle.mj_globs.specs.contracts.stamps.Stamps as Stamps
use Rattle.mj_globs.specs.contracts.globals.Globals as Globals
use Rattle.mj_txlog.proofs.entry.Entry.TheSendSync as entry
use Rattle.mj_txlog.specs.contracts.overlay.Overlay as Overlay
use Rattle.mj_txlog.specs.contracts.skips.Skips as Skips
use Rattle.mj_txlog.specs.contracts.log.TxLog as TxLog
use Rattle.mj_sys.specs.contracts.passed.PassedWord as PassedWord
use Rattle.mj_sys.specs.contracts.ongoing.Ongoing as Ongoing
use Rattle.mj_sys.specs.contracts.transacted.Transacted as Transacted
use Rattle.mj_locktab.proofs.node.Node.TheLaws.TheKnot as lock_knot
use Rattle.mj_locktab.proofs.tally.Tallies.TheSendSync as tallies
use Rattle.mj_locktab.specs.contracts.node.Node as LockNode
use Rattle.mj_locktab.specs.contracts.index.Index as LockIndex
use Rattle.mj_locktab.specs.contracts.table.LockTable as LockTable
use Rattle.mj_jobs.proofs.jobs.Jobs.TheSendSync as jobs
use Rattle.mj_dev.proofs.pool.Pool.TheSendSync as pool
use Rattle.mj_dev.specs.declared.device.Device as Device
use Rattle.mj_sys.proofs.event.Event.TheSendSync as event
use Rattle.mj_sys.specs.declared.opening.Opening as Opening
use Rattle.mj_sys.specs.contracts.shared.Shared as Shared
use Rattle.mj_sys.specs.contracts.system.System as System

ruleset parts = (tt, view_send, declared_send, as_row_send, plain_send, Vec-send, BTreeMap-send, option.the_send, heap.the_send)

pub node_send : IsSend Node.the_row
node_send = as_row_send Node.the_field (search (knot.send-Node, text.the_send, sub.the_send, Box-send, Deque-send, parts) depth 40)

pub tree_send : IsSend Tree.the_row
tree_send = search (node_send, parts) depth 40

pub texts_send : IsSend Texts.the_row
texts_send = search (tree_send, parts) depth 40

pub stamps_send : IsSend Stamps.the_row
stamps_send = search (parts) depth 40

pub globals_send : IsSend Globals.the_row
globals_send = search (texts_send, stamps_send, parts) depth 40

pub overlay_send : IsSend Overlay.the_row
overlay_send = search (texts_send, parts) depth 40

pub skips_send : IsSend Skips.the_row
skips_send = search (texts_send, name.the_send, parts) depth 40

pub log_send : IsSend TxLog.the_row
log_send = search (overlay_send, entry.the_send, name.the_send, parts) depth 40

pub passed_send : IsSend PassedWord.the_row
passed_send = search (skips_send, parts) depth 40

pub ongoing_send : IsSend Ongoing.the_row
ongoing_send = search (log_send, passed_send, parts) depth 40

pub transacted_send : IsSend Transacted.the_row
transacted_send = search (globals_send, ongoing_send, parts) depth 40

pub lock_node_send : IsSend LockNode.the_row
lock_node_send = as_row_send LockNode.the_field (search (lock_knot.send-Node, tallies.the_send, sub.the_send, parts) depth 40)

pub lock_index_send : IsSend LockIndex.the_row
lock_index_send = search (lock_node_send, parts) depth 40

pub locks_send : IsSend LockTable.the_row
locks_send = search (lock_index_send, name.the_send, parts) depth 40

pub shared_send : (D : RattleType) (g : Device.Ghosts D.Denot) → IsSend D → IsSend (Shared.the_row D g)
shared_send D g d = search (transacted_send, locks_send, pool.the_send, jobs.the_send, parts) depth 40

pub system_send : (D O : RattleType) (g : Device.Ghosts D.Denot) (h : Opening.Ghosts O.Denot) → IsSend D → IsSend O → IsSend (System.the_row D O g h)
system_send D O g h d o = let s = shared_send D g d in search (event.the_send, parts) depth 40

pub places_send : IsSend Places.the_row
places_send = search (text.the_send, parts) depth 40

pub ran_send : (κ : NamedLft) → IsSend (Ran.the_row κ)
ran_send κ = search (claim.the_send, image_sync, shr_send, ask.the_send, reply.the_send, stop.the_send, places_send, parts) depth 40

pub locked_send : (κ : NamedLft) (W D O : RattleType) (w : Work.Ghosts W.Denot) (g : Device.Ghosts D.Denot) (h : Opening.Ghosts O.Denot) (l : Ledger.Ghosts W.Denot)
    → IsSend D → IsSend O → IsSend (Locked.the_row κ W D O w g h l)
locked_send κ W D O w g h l d o = let s = system_send D O g h d o in let r = ran_send κ in search (book.the_send, parts) depth 40

-- what one of two threads that share the work takes along
module _ (ν : Sym) (a b c d e : NamedLft) (R M G C S : RattleType) (r : IsSync R) (m : IsSync M) (g : IsSync G) (k : IsSync C) (s : IsSend S) where
  taken_send : IsSend (TupleAt ν (ShrRef a.mir a.lft R ∷ Global.the_row ∷ ShrRef b.mir b.lft M ∷ ShrRef c.mir c.lft Image.the_row ∷ ShrRef d.mir d.lft G ∷ ShrRef e.mir e.lft C
      ∷ u32-field.row ∷ S ∷ []))
  taken_send = search (image_sync, shr_send, parts) depth 40

  pub taken_arg : (i : ℕ) (δ : Ty) (kept : Kept) → IsSend (param i (arg δ kept (TupleAt ν (ShrRef a.mir a.lft R ∷ Global.the_row ∷ ShrRef b.mir b.lft M
      ∷ ShrRef c.mir c.lft Image.the_row ∷ ShrRef d.mir d.lft G ∷ ShrRef e.mir e.lft C ∷ u32-field.row ∷ S ∷ []))))
  taken_arg i δ kept = param_send i _ (arg_send δ kept _ taken_send)
