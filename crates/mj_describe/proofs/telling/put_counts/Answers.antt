use Rattle.std.proofs.Common.{◌≡◌, ℕ, List, [], ◌∷◌, ◌++◌, codes, decimal, length, arith, sym, ap, ◌∙◌}
use Rattle.std.proofs.lemmas.List.{length-map}
use Rattle.mj_explain.specs.Stories.{Story}
use Rattle.mj_describe.specs.Words.{Shown, counts_text}
use Rattle.mj_describe.proofs.Putting.{put_on, put_last}
use Rattle.mj_describe.proofs.telling.put_counts.Goals as goal

abbrev counts : ℕ → ℕ → ℕ → ℕ → List ℕ
counts e k d l =
    (((((((codes "events: " ++ decimal e) ++ codes ", clashes: ") ++ decimal k) ++ codes ", deadlocks: ") ++ decimal d) ++ codes ", lost updates: ") ++ decimal l)
    ++ 10 ∷ []

pub returns : goal.returns
returns c =
    let b = c.args.bytes.now.items in
    let v = c.shown.inside in
    let x = c.story.inside in
    let p1 : List ℕ = codes "events: " in
    let p2 : List ℕ = p1 ++ decimal (length v.events.now) in
    let h2 : c.put_number.new.bytes.items ≡ b ++ p2 =
    put_on b c.put.new.bytes.items p1 c.put_number.new.bytes.items (decimal (length v.events.now)) c.in_ok-put.ensures c.in_ok-put_number.ensures in
    let p3 : List ℕ = p2 ++ codes ", clashes: " in
    let h3 : c.put-2.new.bytes.items ≡ b ++ p3 =
    put_on b c.put_number.new.bytes.items p2 c.put-2.new.bytes.items (codes ", clashes: ") h2 c.in_ok-put-2.ensures in
    let p4 : List ℕ = p3 ++ decimal x.all_clashes in
    let h4 : c.put_number-2.new.bytes.items ≡ b ++ p4 =
    put_on b c.put-2.new.bytes.items p3 c.put_number-2.new.bytes.items (decimal x.all_clashes) h3 c.in_ok-put_number-2.ensures in
    let p5 : List ℕ = p4 ++ codes ", deadlocks: " in
    let h5 : c.put-3.new.bytes.items ≡ b ++ p5 =
    put_on b c.put_number-2.new.bytes.items p4 c.put-3.new.bytes.items (codes ", deadlocks: ") h4 c.in_ok-put-3.ensures in
    let p6 : List ℕ = p5 ++ decimal c.len.result in
    let h6 : c.put_number-3.new.bytes.items ≡ b ++ p6 =
    put_on b c.put-3.new.bytes.items p5 c.put_number-3.new.bytes.items (decimal c.len.result) h5 c.in_ok-put_number-3.ensures in
    let p7 : List ℕ = p6 ++ codes ", lost updates: " in
    let h7 : c.put-4.new.bytes.items ≡ b ++ p7 =
    put_on b c.put_number-3.new.bytes.items p6 c.put-4.new.bytes.items (codes ", lost updates: ") h6 c.in_ok-put-4.ensures in
    let p8 : List ℕ = p7 ++ decimal x.all_losses in
    let h8 : c.put_number-4.new.bytes.items ≡ b ++ p8 =
    put_on b c.put-4.new.bytes.items p7 c.put_number-4.new.bytes.items (decimal x.all_losses) h7 c.in_ok-put_number-4.ensures in
    let long : c.len.result ≡ length x.deadlocks.items = omega (arith, c.len.ensures, x.deadlocks.ok.0) in
    let events : length v.events.now ≡ length c.args.shown.now.events = ap (λ (s : Shown). length s.events) c.shown.view_is in
    let clashes : x.all_clashes ≡ c.args.story.now.all_clashes = ap (λ (s : Story). s.all_clashes) c.story.view_is in
    let deadlocks : c.len.result ≡ length c.args.story.now.deadlocks =
    long ∙ sym (length-map x.deadlocks.items (λ d. d.items)) ∙ ap (λ (s : Story). length s.deadlocks) c.story.view_is in
    let losses : x.all_losses ≡ c.args.story.now.all_losses = ap (λ (s : Story). s.all_losses) c.story.view_is in
    let same : counts (length v.events.now) x.all_clashes c.len.result x.all_losses ≡ counts_text (length c.args.shown.now.events) c.args.story.now =
    λ i. counts (events i) (clashes i) (deadlocks i) (losses i) in
    put_last c.put-5.result b c.put_number-4.new.bytes.items p8 c.put-5.new.bytes.items (10 ∷ []) (counts_text (length c.args.shown.now.events) c.args.story.now) h8
    same c.put-5.ensures
