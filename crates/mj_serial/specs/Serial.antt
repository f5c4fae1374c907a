-- That a history is as its blocks run alone, and that a commit clashed because it had to.
use Rattle.std.specs.Prelude.{◌≡◌, ◌≢◌, ℕ, suc, ◌+◌, ◌≤◌, true, List, [], ◌∷◌, ◌++◌, length, Some, if◌then◌else◌}
use Rattle.std.specs.List.{All}
use Rattle.mj_store.specs.Questions.{Content}
use Rattle.mj_store.specs.declared.access.Access.{Access}
use Rattle.mj_store.specs.declared.access.Answer.{Answer}
use Rattle.mj_ask.specs.Keeping.{kept_of}
use Rattle.mj_ask.specs.declared.clash.Clash.{Clash}
use Rattle.mj_ask.specs.declared.ask.Ask.TheVariants as asks
use Rattle.mj_ask.specs.declared.ask.SharedAsk.TheVariants as shared_asks
use Rattle.mj_ask.specs.declared.ask.Kind.TheVariants as kinds
use Rattle.mj_ask.specs.declared.ask.Reply.{Reply}
use Rattle.mj_ask.specs.declared.ask.Reply.TheVariants as replies
use Rattle.mj_semantics.specs.State.{Locals, Place}
use Rattle.mj_semantics.specs.Outcome.{Needs}
use Rattle.mj_sys.specs.History.{History, log_of}
use Rattle.mj_serial.specs.Programs.{Log, replies_of, Program}
use Rattle.mj_serial.specs.Blocks.{Block, blocks_of, open_after, accesses_of}
use Rattle.mj_serial.specs.Alone.{Part, go, desk_of, alone}

-- what the history has of a block, if it is SERIAL: its asks and replies, and what its program comes to after them
abbrev pub had : (ℕ → Program) → ℕ → Block → List Part
had programs n b = if b.serial then (b.since, programs b.job n (replies_of (b.before ++ b.since))) ∷ [] else []

abbrev pub had_all : (ℕ → Program) → ℕ → List Block → List Part
had_all programs n [] = []
had_all programs n (b ∷ bs) = had programs n b ++ had_all programs n bs

-- a SERIAL block stands at its commit, with some variables
abbrev pub AtCommit : (ℕ → Program) → ℕ → Block → Type 0
AtCommit programs n b =
    b.serial ≡ true → (locals : Locals) × (places : List Place) × (programs b.job n (replies_of (b.before ++ b.since)) ≡ Needs (asks.Shared shared_asks.Commit) locals places)

-- a SERIAL block is what its job's log has from a `begin` to a commit that was done
pub record IsPart (h : History) (b : Block) : Type 0 where
  pub front : Log
  pub reply : Reply
  pub begins : b.before ≡ front ++ (asks.Shared (shared_asks.Begin kinds.Serial), reply) ∷ []
  pub later : Log
  pub is : log_of b.job h ≡ b.before ++ (b.since ++ ((asks.Shared shared_asks.Commit), replies.Done) ∷ later)

-- From some number of turns on: the blocks of the history, run alone in their order from the globals at its opening, leave the globals that are
-- committed by its end, and the SERIAL ones make the asks and get the replies that they had, up to their commits, with the variables that they had
-- there.
pub record AsAlone (programs : ℕ → Program) (opening committed : Content) (h : History) : Type 0 where
  pub turns : ℕ
  pub same : (n : ℕ) → turns ≤ n
      → alone programs n opening (blocks_of h) ≡ record { globals = committed; serial = had_all programs n (blocks_of h) }
  pub stand : (n : ℕ) → turns ≤ n → All (AtCommit programs n) (blocks_of h)
  pub parts : All (λ b. b.serial ≡ true → IsPart h b) (blocks_of h)

-- A commit of the job that clashes after this history, where these globals are committed, has to: the job has a SERIAL transaction open, which, run
-- alone on these globals from its `begin` on, makes the asks and gets the replies that it had before the access that the clash names, and is
-- answered otherwise there. The clash keeps both answers, and what it keeps of them differs too.
pub record MustClash (programs : ℕ → Program) (committed : Content) (h : History) (job : ℕ) (clash : Clash) : Type 0 where
  pub block : Block
  pub is : open_after h job ≡ Some block
  pub serial : block.serial ≡ true
  pub early : Log
  pub a : Access
  pub old : Answer
  pub new : Answer
  pub late : Log
  pub since : block.since ≡ early ++ (asks.Shared (shared_asks.Access a), replies.Answer old) ∷ late
  pub place : clash.place ≡ length (accesses_of early) + 1
  pub was : clash.then ≡ kept_of old
  pub now : clash.now ≡ kept_of new
  pub differ : new ≢ old
  pub apart : clash.now ≢ clash.then
  pub turns : ℕ
  pub again : (n : ℕ) → turns ≤ n
      → (go (programs job) n (suc (length early)) block.before (desk_of block.since committed)).log ≡ early ++ (asks.Shared (shared_asks.Access a), replies.Answer new) ∷ []
