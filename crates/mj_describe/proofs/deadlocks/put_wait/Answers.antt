use Rattle.std.proofs.Common.{◌≡◌, ℕ, List, [], ◌∷◌, ◌++◌, Option, codes, option_copied, append_assoc, ap, ◌∙◌}
use Rattle.std.specs.Prelude.{slice_get}
use Rattle.mj_subs.specs.Name.{Name}
use Rattle.mj_explain.specs.Waiting.{Asked, Hold, wanted_by}
use Rattle.mj_describe.specs.Words.{Standing, Spot, asker_text, spot_at, spot_of, name_text, holder_text, wait_text}
use Rattle.mj_explain.proofs.Begun.{got}
use Rattle.mj_describe.proofs.Putting.{put_on, put_last}
use Rattle.mj_describe.proofs.deadlocks.put_wait.Goals as goal

abbrev all_parts : Option Asked → Option Spot → Option Name → Option Hold → List ℕ
all_parts a s n h =
    (((((((codes "  Job " ++ asker_text a) ++ codes " waits") ++ spot_at (spot_of s)) ++ codes " for ") ++ name_text n) ++ codes ", while job ") ++ holder_text h)
    ++ 46 ∷ 10 ∷ []

pub returns : goal.returns
returns c =
    let t = c.args.standing.now in
    let w = c.args.wait in
    let asks : option_copied c.get-asked.result ≡ slice_get t.asked w.ask =
    got c.standing.inside.asked.now w.ask c.get-asked.result c.get-asked.ensures.lookup ∙ ap (λ (v : Standing). slice_get v.asked w.ask) c.standing.view_is in
    let spot : option_copied c.get.result ≡ slice_get t.spots w.ask =
    got c.standing.inside.spots.now w.ask c.get.result c.get.ensures.lookup ∙ ap (λ (v : Standing). slice_get v.spots w.ask) c.standing.view_is in
    let holds : option_copied c.get-2.result ≡ slice_get t.holds w.hold =
    got c.standing.inside.holds.now w.hold c.get-2.result c.get-2.ensures.lookup ∙ ap (λ (v : Standing). slice_get v.holds w.hold) c.standing.view_is in
    let name : option_copied c.wanted_by.result ≡ wanted_by (slice_get t.asked w.ask) w.name =
    c.wanted_by.ensures ∙ ap (λ (o : Option Asked). wanted_by o w.name) asks in
    let b = c.args.bytes.now.items in
    let p1 : List ℕ = codes "  Job " in
    let p2 : List ℕ = p1 ++ asker_text (option_copied c.get-asked.result) in
    let h2 : c.put_asker.new.bytes.items ≡ b ++ p2 =
    put_on b c.put.new.bytes.items p1 c.put_asker.new.bytes.items (asker_text (option_copied c.get-asked.result)) c.in_ok-put.ensures c.in_ok-put_asker.ensures in
    let p3 : List ℕ = p2 ++ codes " waits" in
    let h3 : c.put-2.new.bytes.items ≡ b ++ p3 =
    put_on b c.put_asker.new.bytes.items p2 c.put-2.new.bytes.items (codes " waits") h2 c.in_ok-put-2.ensures in
    let p4 : List ℕ = p3 ++ spot_at (spot_of (option_copied c.get.result)) in
    let h4 : c.put_spot_at.new.bytes.items ≡ b ++ p4 =
    put_on b c.put-2.new.bytes.items p3 c.put_spot_at.new.bytes.items (spot_at (spot_of (option_copied c.get.result))) h3 c.in_ok-put_spot_at.ensures in
    let p5 : List ℕ = p4 ++ codes " for " in
    let h5 : c.put-3.new.bytes.items ≡ b ++ p5 =
    put_on b c.put_spot_at.new.bytes.items p4 c.put-3.new.bytes.items (codes " for ") h4 c.in_ok-put-3.ensures in
    let p6 : List ℕ = p5 ++ name_text (option_copied c.wanted_by.result) in
    let h6 : c.put_name_of.new.bytes.items ≡ b ++ p6 =
    put_on b c.put-3.new.bytes.items p5 c.put_name_of.new.bytes.items (name_text (option_copied c.wanted_by.result)) h5 c.in_ok-put_name_of.ensures in
    let p7 : List ℕ = p6 ++ codes ", while job " in
    let h7 : c.put-4.new.bytes.items ≡ b ++ p7 =
    put_on b c.put_name_of.new.bytes.items p6 c.put-4.new.bytes.items (codes ", while job ") h6 c.in_ok-put-4.ensures in
    let p8 : List ℕ = p7 ++ holder_text (option_copied c.get-2.result) in
    let h8 : c.put_holder.new.bytes.items ≡ b ++ p8 =
    put_on b c.put-4.new.bytes.items p7 c.put_holder.new.bytes.items (holder_text (option_copied c.get-2.result)) h7 c.in_ok-put_holder.ensures in
    let shown : all_parts (option_copied c.get-asked.result) (option_copied c.get.result) (option_copied c.wanted_by.result) (option_copied c.get-2.result)
    ≡ all_parts (slice_get t.asked w.ask) (slice_get t.spots w.ask) (wanted_by (slice_get t.asked w.ask) w.name) (slice_get t.holds w.hold) =
    λ i. all_parts (asks i) (spot i) (name i) (holds i) in
    put_last c.put-5.result b c.put_holder.new.bytes.items p8 c.put-5.new.bytes.items (46 ∷ 10 ∷ []) (wait_text t w) h8 (shown ∙ simp append_assoc) c.put-5.ensures
