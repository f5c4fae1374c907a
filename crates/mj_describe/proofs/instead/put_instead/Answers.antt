use Rattle.std.proofs.Common.{◌≡◌, ℕ, List, [], ◌∷◌, ◌++◌, codes, decimal, option_copied, append_assoc}
use Rattle.mj_trace.specs.Spelling.{ask_text}
use Rattle.mj_describe.specs.Words.{spot_from, then_told, instead_text}
use Rattle.mj_describe.proofs.Putting.{put_on, put_last}
use Rattle.mj_describe.proofs.instead.put_instead.Goals as goal

pub returns : goal.returns
returns c =
    let b = c.args.bytes.now.items in
    let job : List ℕ = decimal c.args.job in
    let ask : List ℕ = ask_text c.args.ask.now in
    let spot : List ℕ = spot_from c.args.spot.now in
    let told : List ℕ = then_told (option_copied c.args.told) in
    let p1 : List ℕ = codes "    job " in
    let q1 : List ℕ = p1 ++ job in
    let g1 : c.put_number.new.bytes.items ≡ b ++ q1 = put_on b c.put.new.bytes.items p1 c.put_number.new.bytes.items job c.in_ok-put.ensures c.in_ok-put_number.ensures in
    let q2 : List ℕ = q1 ++ codes " asks " in
    let g2 : c.put-2.new.bytes.items ≡ b ++ q2 = put_on b c.put_number.new.bytes.items q1 c.put-2.new.bytes.items (codes " asks ") g1 c.in_ok-put-2.ensures in
    let p2 : List ℕ = q2 ++ ask in
    let h2 : c.put_ask.new.bytes.items ≡ b ++ p2 = put_on b c.put-2.new.bytes.items q2 c.put_ask.new.bytes.items ask g2 c.in_ok-put_ask.ensures.ok in
    let p3 : List ℕ = p2 ++ spot in
    let h3 : c.put_spot_from.new.bytes.items ≡ b ++ p3 = put_on b c.put_ask.new.bytes.items p2 c.put_spot_from.new.bytes.items spot h2 c.in_ok-put_spot_from.ensures in
    let p4 : List ℕ = p3 ++ codes " here" in
    let h4 : c.put-3.new.bytes.items ≡ b ++ p4 = put_on b c.put_spot_from.new.bytes.items p3 c.put-3.new.bytes.items (codes " here") h3 c.in_ok-put-3.ensures in
    let p5 : List ℕ = p4 ++ told in
    let h5 : c.put_then_told.new.bytes.items ≡ b ++ p5 = put_on b c.put-3.new.bytes.items p4 c.put_then_told.new.bytes.items told h4 c.in_ok-put_then_told.ensures in
    put_last c.put-4.result b c.put_then_told.new.bytes.items p5 c.put-4.new.bytes.items (10 ∷ []) (instead_text c.args.job c.args.ask.now c.args.spot.now (option_copied c.args.told)) h5
    (simp append_assoc) c.put-4.ensures
