use Rattle.std.proofs.Common.{◌≡◌, ℕ, List, [], ◌∷◌, ◌++◌, codes}
use Rattle.mj_describe.specs.Words.{job_text, ordered_text, asked_text, loss_text}
use Rattle.mj_describe.proofs.Regrouped.{loss_parts}
use Rattle.mj_describe.proofs.Putting.{put_on, put_last}
use Rattle.mj_describe.proofs.wording.put_loss.Goals as goal

pub returns : goal.returns
returns c =
    let s = c.args.shown.now in
    let x = c.args.loss in
    let b = c.args.bytes.now.items in
    let p1 : List ℕ = codes "Lost update: what " in
    let p2 : List ℕ = p1 ++ job_text s x.first_write in
    let h2 : c.put_job.new.bytes.items ≡ b ++ p2 =
    put_on b c.put.new.bytes.items p1 c.put_job.new.bytes.items (job_text s x.first_write) c.in_ok-put.ensures c.in_ok-put_job.ensures in
    let p3 : List ℕ = p2 ++ (codes " set is lost." ++ 10 ∷ []) in
    let h3 : c.put-2.new.bytes.items ≡ b ++ p3 =
    put_on b c.put_job.new.bytes.items p2 c.put-2.new.bytes.items (codes " set is lost." ++ 10 ∷ []) h2 c.in_ok-put-2.ensures in
    let p4 : List ℕ = p3 ++ ordered_text s x in
    let h4 : c.put_ordered.new.bytes.items ≡ b ++ p4 =
    put_on b c.put-2.new.bytes.items p3 c.put_ordered.new.bytes.items (ordered_text s x) h3 c.in_ok-put_ordered.ensures in
    let p5 : List ℕ = p4 ++ asked_text s x.first_write in
    let h5 : c.put_asked.new.bytes.items ≡ b ++ p5 =
    put_on b c.put_ordered.new.bytes.items p4 c.put_asked.new.bytes.items (asked_text s x.first_write) h4 c.in_ok-put_asked.ensures in
    let p6 : List ℕ = p5 ++ 46 ∷ 10 ∷ [] in
    let h6 : c.put-3.new.bytes.items ≡ b ++ p6 =
    put_on b c.put_asked.new.bytes.items p5 c.put-3.new.bytes.items (46 ∷ 10 ∷ []) h5 c.in_ok-put-3.ensures in
    let p7 : List ℕ = p6 ++ asked_text s x.second_write in
    let h7 : c.put_asked-2.new.bytes.items ≡ b ++ p7 =
    put_on b c.put-3.new.bytes.items p6 c.put_asked-2.new.bytes.items (asked_text s x.second_write) h6 c.in_ok-put_asked-2.ensures in
    put_last c.put-4.result b c.put_asked-2.new.bytes.items p7 c.put-4.new.bytes.items (codes ", without a look at that." ++ 10 ∷ []) (loss_text s x) h7
    (loss_parts (codes "Lost update: what " ++ job_text s x.first_write) (codes " set is lost.") (ordered_text s x) (asked_text s x.first_write)
    (asked_text s x.second_write) (codes ", without a look at that."))
    c.put-4.ensures
