-- Blocks that are run alone, each directly on one map, before the next.
use Rattle.std.specs.Prelude.{ℕ, zero, suc, nat_lt, ◌||◌, List, [], ◌∷◌, ◌++◌, Option, Some, None, if◌then◌else◌}
use Rattle.mj_store.specs.Questions.{Content}
use Rattle.mj_store.specs.Runs.{answer_of, after_access, after_accesses}
use Rattle.mj_store.specs.declared.access.Access.{Access}
use Rattle.mj_store.specs.declared.access.Answer.{Answer}
use Rattle.mj_store.specs.declared.access.Answer.TheVariants as answer
use Rattle.mj_ask.specs.declared.ask.Ask.{Ask}
use Rattle.mj_ask.specs.declared.ask.Ask.TheVariants as asks
use Rattle.mj_ask.specs.declared.ask.SharedAsk.TheVariants as shared_asks
use Rattle.mj_ask.specs.declared.ask.Reply.{Reply}
use Rattle.mj_ask.specs.declared.ask.Reply.TheVariants as replies
use Rattle.mj_semantics.specs.Outcome.{Outcome, Needs, Ended, More}
use Rattle.mj_txlog.specs.Accesses.{writes_of}
use Rattle.mj_txn.specs.Closing.{is_local_write}
use Rattle.mj_serial.specs.Programs.{Log, replies_of, Program}
use Rattle.mj_serial.specs.Blocks.{is_taken, entry_of, accesses_of, Block}

-- what serves a job that runs alone: how many accesses were taken, what all its other asks are told, and the globals
pub record Desk : Type 0 where
  pub used : ℕ
  pub others : List Reply
  pub globals : Content

-- how many accesses were taken after an ask with this reply
abbrev pub used_after : ℕ → Ask → Reply → ℕ
used_after used a r = elim (entry_of a r) [ None ↦ used | Some e ↦ suc used ]

-- what an access is answered where so many were taken: there is room for 65,536 (this profile), and a change of a local name takes none
abbrev pub told_alone : ℕ → Content → Access → Answer
told_alone used globals a = if is_local_write a || nat_lt used 65536 then answer_of a globals else answer.Limit

-- an access that is answered so goes to the globals at once
abbrev pub access_alone : Access → Answer → Desk → Option (Reply × Desk)
access_alone a v d = Some (
  replies.Answer v,
  record d { used = used_after d.used (asks.Shared (shared_asks.Access a)) (replies.Answer v); globals = if is_taken a v then after_access a d.globals else d.globals },
)

-- any other ask gets the reply that it had
abbrev pub other_alone : Ask → Desk → Option (Reply × Desk)
other_alone a d = elim d.others [ [] ↦ None | r ∷ rest ↦ Some (r, record d { used = used_after d.used a r; others = rest }) ]

-- an ask of a job that runs alone. It goes no further than its commit, its rollback or its end
abbrev pub serve_alone : Ask → Desk → Option (Reply × Desk)
serve_alone (asks.Shared (shared_asks.Access a)) d = access_alone a (told_alone d.used d.globals a) d
serve_alone (asks.Shared shared_asks.Commit) d = None
serve_alone (asks.Shared shared_asks.Rollback) d = None
serve_alone (asks.Shared (shared_asks.Halt fault)) d = None
serve_alone a d = other_alone a d

-- what comes of it: the asks and replies, the globals, and what the program comes to then
pub record Gone : Type 0 where
  pub log : Log
  pub globals : Content
  pub stop : Outcome

-- what comes of it, with a log before
abbrev pub in_front : Log → Gone → Gone
in_front log gone = record gone { log = log ++ gone.log }

-- a program runs on from a log, with so many turns for each ask and at most so many asks
abbrev pub go : Program → ℕ → ℕ → Log → Desk → Gone
go p n zero before d = record { log = []; globals = d.globals; stop = p n (replies_of before) }
go p n (suc k) before d = elim (p n (replies_of before)) [
  | Needs a locals places ↦ elim (serve_alone a d) [
    | None ↦ record { log = []; globals = d.globals; stop = p n (replies_of before) }
    | Some s ↦ in_front ((a, s.0) ∷ []) (go p n k (before ++ (a, s.0) ∷ []) s.1)
  ]
  | Ended ↦ record { log = []; globals = d.globals; stop = p n (replies_of before) }
  | More ↦ record { log = []; globals = d.globals; stop = p n (replies_of before) }
]

-- the replies to all else than accesses
abbrev pub other_of : Ask → Reply → List Reply
other_of (asks.Shared (shared_asks.Access a)) r = []
other_of _ r = r ∷ []

abbrev pub others_of : Log → List Reply
others_of [] = []
others_of (e ∷ log) = other_of e.0 e.1 ++ others_of log

-- what serves a block that is run alone: of what it was told it has only the replies to all else than accesses
abbrev pub desk_of : Log → Content → Desk
desk_of since globals = record { used = 0; others = others_of since; globals = globals }

-- what is left of a SERIAL block that was run alone: its asks and replies, and what its program came to then
abbrev pub Part : Type 0
Part = Log × Outcome

abbrev pub part_of : Gone → List Part × Content
part_of gone = ((gone.log, gone.stop) ∷ [], gone.globals)

-- One block: a SERIAL one is its job's program run again from where it had begun, and any other is its writes
abbrev pub one_alone : (ℕ → Program) → ℕ → Content → Block → List Part × Content
one_alone programs n globals b =
    if b.serial
    then part_of (go (programs b.job) n n b.before (desk_of b.since globals))
    else ([], after_accesses (writes_of (accesses_of b.since)) globals)

-- what blocks leave: the globals, and a part of each SERIAL one, in order
pub record Whole : Type 0 where
  pub globals : Content
  pub serial : List Part

abbrev pub with_parts : List Part → Whole → Whole
with_parts parts w = record w { serial = parts ++ w.serial }

-- blocks, each run alone before the next, with so many turns for each ask
abbrev pub alone : (ℕ → Program) → ℕ → Content → List Block → Whole
alone programs n globals [] = record { globals = globals; serial = [] }
alone programs n globals (b ∷ bs) =
    with_parts (one_alone programs n globals b).0 (alone programs n (one_alone programs n globals b).1 bs)
