use Rattle.std.proofs.Common.{◌≡◌, ℕ, List, [], ◌∷◌, ◌++◌, codes, decimal, length}
use Rattle.mj_describe.specs.Words.{round_text, deadlock_text}
use Rattle.mj_describe.proofs.Regrouped.{line_end}
use Rattle.mj_describe.proofs.Putting.{put_on, put_last}
use Rattle.mj_describe.proofs.deadlocks.put_deadlock.Goals as goal

pub returns : goal.returns
returns c =
    let s = c.args.shown.now in
    let t = c.args.standing.now in
    let b = c.args.bytes.now.items in
    let p1 : List ℕ = codes "Deadlock of " in
    let p2 : List ℕ = p1 ++ decimal (length c.args.waits.now) in
    let h2 : c.put_number.new.bytes.items ≡ b ++ p2 =
    put_on b c.put.new.bytes.items p1 c.put_number.new.bytes.items (decimal (length c.args.waits.now)) c.in_ok-put.ensures c.in_ok-put_number.ensures in
    let p3 : List ℕ = p2 ++ (codes " jobs: each waits for the next, and the last for the first." ++ 10 ∷ []) in
    let h3 : c.put-2.new.bytes.items ≡ b ++ p3 =
    put_on b c.put_number.new.bytes.items p2 c.put-2.new.bytes.items (codes " jobs: each waits for the next, and the last for the first." ++ 10 ∷ []) h2 c.in_ok-put-2.ensures in
    put_last c.put_round.result b c.put-2.new.bytes.items p3 c.put_round.new.bytes.items (round_text s t c.args.waits.now) (deadlock_text s t c.args.waits.now) h3
    (line_end p2 (codes " jobs: each waits for the next, and the last for the first.") (round_text s t c.args.waits.now))
    c.put_round.ensures
