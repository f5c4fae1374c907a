-- The scan that a caller sees gives the blocks.
use Rattle.std.proofs.Common.{◌≡◌, ℕ, suc, Bool, true, false, List, [], ◌∷◌, ◌++◌, map, Option, Some, None, option_map, refl, ap, sym, ◌∙◌, append-nil}
use Rattle.std.proofs.Math.Path.{fun_ext}
use Rattle.std.specs.Prelude.{◌==◌, if◌then◌else◌}
use Rattle.std.specs.List.{cons_option}
use Rattle.mj_ask.specs.declared.ask.Ask.{Ask}
use Rattle.mj_ask.specs.declared.ask.Ask.TheVariants as asks
use Rattle.mj_ask.specs.declared.ask.SharedAsk.TheVariants as shared_asks
use Rattle.mj_ask.specs.declared.ask.Reply.{Reply}
use Rattle.mj_ask.specs.declared.ask.Reply.TheVariants as replies
use Rattle.mj_txlog.specs.declared.entry.Entry.{Entry}
use Rattle.mj_sys.specs.declared.event.Event.{Event}
use Rattle.mj_sys.specs.History.{History}
use Rattle.mj_serial.specs.Programs.{Log}
use Rattle.mj_serial.specs.Blocks.{Block, ScanStand, block_after, single, ended, done_at, stand_after, blocks_from, blocks_of, nowhere, longer, entry_of}
use Rattle.mj_serial.specs.Shown.{Shown, shown, with_entry, shown_after, shown_single, shown_ended, shown_done, shown_from, all_from}
use Rattle.mj_serial.proofs.Logs.{accesses_append}
use Rattle.mj_serial.proofs.Tables.{at, at_nothing}

longer_by : (b : Shown) (o : Option Entry) → record b { accesses = b.accesses ++ cons_option o [] } ≡ with_entry b o
longer_by b None = ap (λ l. record b { accesses = l }) (append-nil b.accesses)
longer_by b (Some e) = refl

longer_shown : (b : Block) (a : Ask) (r : Reply) → shown (longer b a r) ≡ with_entry (shown b) (entry_of a r)
longer_shown b a r = ap (λ l. record (shown b) { accesses = l }) (accesses_append b.since ((a, r) ∷ [])) ∙ longer_by (shown b) (entry_of a r)

after_shown : (j place : ℕ) (log : Log) (block : Option Block) (a : Ask) (r : Reply)
    → option_map shown (block_after j place log block a r) ≡ shown_after j place (option_map shown block) a r
after_shown j place log None (asks.Shared (shared_asks.Begin kind)) r = refl
after_shown j place log None a r = refl
after_shown j place log (Some b) (asks.Shared shared_asks.Commit) r = refl
after_shown j place log (Some b) (asks.Shared shared_asks.Rollback) r = refl
after_shown j place log (Some b) (asks.Shared (shared_asks.Halt fault)) r = refl
after_shown j place log (Some b) a r = ap Some (longer_shown b a r)

-- a list with what may stand before it
abbrev before : Option Shown → List Shown → List Shown
before = cons_option

shown_alone : (j place : ℕ) (log : Log) (a : Ask) (r : Reply) (o : Option Entry) → entry_of a r ≡ o → (rest : List Shown)
    → map shown (single j place log a r o) ++ rest ≡ before (shown_single j place o) rest
shown_alone j place log a r None e rest = refl
shown_alone j place log a r (Some x) e rest =
    ap (λ o. record { job = j; serial = false; place = place; accesses = cons_option o [] } ∷ rest) e

ended_shown : (b : Block) (r : Reply) (rest : List Shown) → map shown (ended b r) ++ rest ≡ before (shown_ended (shown b) r) rest
ended_shown b replies.Done rest = refl
ended_shown b r rest = refl

done_shown : (j place : ℕ) (log : Log) (block : Option Block) (a : Ask) (r : Reply) (rest : List Shown)
    → map shown (done_at j place log block a r) ++ rest ≡ before (shown_done j place (option_map shown block) a r) rest
done_shown j place log None (asks.Shared (shared_asks.Access a)) r rest = shown_alone j place log (asks.Shared (shared_asks.Access a)) r (entry_of (asks.Shared (shared_asks.Access a)) r) refl rest
done_shown j place log None a r rest = refl
done_shown j place log (Some b) (asks.Shared shared_asks.Commit) r rest = ended_shown b r rest
done_shown j place log (Some b) a r rest = refl

map_append : (xs ys : List Block) → map shown (xs ++ ys) ≡ map shown xs ++ map shown ys
map_append [] ys = refl
map_append (x ∷ xs) ys = ap (λ l. shown x ∷ l) (map_append xs ys)

abbrev seen_at : (ℕ → ScanStand) → ℕ → Option Shown
seen_at w j = option_map shown (w j).block

stand_shown : (place : ℕ) (w : ℕ → ScanStand) (e : Event) (j : ℕ) (b : Bool) → (e.job == j) ≡ b
    → seen_at (stand_after place w e) j ≡ (if b then shown_after e.job place (seen_at w e.job) e.ask e.reply else seen_at w j)
stand_shown place w e j true q = rw q (after_shown e.job place (w e.job).log (w e.job).block e.ask e.reply)
stand_shown place w e j false q = rw q refl

from_shown : (h : History) (place : ℕ) (w : ℕ → ScanStand) → map shown (blocks_from place w h) ≡ shown_from place (seen_at w) h
from_shown [] place w = refl
from_shown (e ∷ h) place w =
    map_append (done_at e.job place (w e.job).log (w e.job).block e.ask e.reply) (blocks_from (suc place) (stand_after place w e) h)
    ∙ done_shown e.job place (w e.job).log (w e.job).block e.ask e.reply (map shown (blocks_from (suc place) (stand_after place w e) h))
    ∙ ap (before (shown_done e.job place (seen_at w e.job) e.ask e.reply))
    (from_shown h (suc place) (stand_after place w e)
    ∙ ap (λ v. shown_from (suc place) v h) (fun_ext (λ j. stand_shown place w e j (e.job == j) refl)))

-- the scan of a whole history
pub of_shown : (h : History) → shown_from 1 (λ j. None) h ≡ map shown (blocks_of h)
of_shown h = sym (from_shown h 1 nowhere)

-- so it is where nothing is over yet, and no job has anything open
pub of_nothing : (all done : List Shown) (table : List (Option Shown)) (h : History) → done ≡ [] → table ≡ [] → all ≡ all_from done table 1 h → all ≡ map shown (blocks_of h)
of_nothing all done table h nothing none is =
    is ∙ ap (λ d. d ++ shown_from 1 (at table) h) nothing ∙ ap (λ t. shown_from 1 (at t) h) none ∙ ap (λ w. shown_from 1 w h) (fun_ext at_nothing) ∙ of_shown h
