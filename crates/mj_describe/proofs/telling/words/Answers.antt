use Rattle.std.proofs.Common.{◌≡◌, ℕ, List, ◌++◌, codes, length, map, Vec, Global, arith, ap, ◌∙◌}
use Rattle.mj_ask.specs.declared.noted.Noted.{Noted}
use Rattle.mj_explain.specs.declared.clashes.ToldClash.{ToldClash}
use Rattle.mj_explain.specs.declared.cycles.Wait.{Wait}
use Rattle.mj_explain.specs.declared.losses.Loss.{Loss}
use Rattle.mj_explain.specs.Stories.{Story}
use Rattle.mj_describe.specs.Words.{Shown, Standing, counts_text, apart, clash_text, more_text, deadlock_text, loss_text, plain_text, story_text}
use Rattle.mj_describe.proofs.Putting.{put_on}
use Rattle.mj_describe.proofs.telling.words.Goals as goal

abbrev all_parts : Shown → Standing → List ℕ → List ToldClash → ℕ → ℕ → List (List Wait) → List Loss → ℕ → ℕ → List Noted → List ℕ
all_parts s t counts cs n k ds ls m l es =
    (((((counts ++ apart (clash_text s) cs) ++ more_text (codes " clashes") n k) ++ apart (deadlock_text s t) ds) ++ apart (loss_text s) ls)
    ++ more_text (codes " lost updates") m l) ++ plain_text es

pub returns : goal.returns
returns c =
    let s = c.args.shown.now in
    let t = c.args.standing.now in
    let story = c.args.story.now in
    let x = c.story.inside in
    let b = c.new-bytes.result.items in
    let p1 : List ℕ = counts_text (length s.events) story in
    let p2 : List ℕ = p1 ++ apart (clash_text s) c.deref.result.now in
    let p3 : List ℕ = p2 ++ more_text (codes " clashes") c.len.result x.all_clashes in
    let p4 : List ℕ = p3 ++ apart (deadlock_text s t) (map (λ (d : Vec Wait Global). d.items) c.deref-2.result.now) in
    let p5 : List ℕ = p4 ++ apart (loss_text s) c.deref-3.result.now in
    let p6 : List ℕ = p5 ++ more_text (codes " lost updates") c.len-2.result x.all_losses in
    let h2 : c.put_clashes.new.bytes.items ≡ b ++ p2 =
    put_on b c.put_counts.new.bytes.items p1 c.put_clashes.new.bytes.items (apart (clash_text s) c.deref.result.now) c.in_ok-put_counts.ensures
    c.in_ok-put_clashes.ensures in
    let h3 : c.put_more.new.bytes.items ≡ b ++ p3 =
    put_on b c.put_clashes.new.bytes.items p2 c.put_more.new.bytes.items (more_text (codes " clashes") c.len.result x.all_clashes) h2
    c.in_ok-put_more.ensures in
    let h4 : c.put_deadlocks.new.bytes.items ≡ b ++ p4 =
    put_on b c.put_more.new.bytes.items p3 c.put_deadlocks.new.bytes.items
    (apart (deadlock_text s t) (map (λ (d : Vec Wait Global). d.items) c.deref-2.result.now)) h3 c.in_ok-put_deadlocks.ensures in
    let h5 : c.put_losses.new.bytes.items ≡ b ++ p5 =
    put_on b c.put_deadlocks.new.bytes.items p4 c.put_losses.new.bytes.items (apart (loss_text s) c.deref-3.result.now) h4 c.in_ok-put_losses.ensures in
    let h6 : c.put_more-2.new.bytes.items ≡ b ++ p6 =
    put_on b c.put_losses.new.bytes.items p5 c.put_more-2.new.bytes.items (more_text (codes " lost updates") c.len-2.result x.all_losses) h5
    c.in_ok-put_more-2.ensures in
    let p7 : List ℕ = p6 ++ plain_text c.shown.inside.events.now in
    let h7 : c.put_plain.new.bytes.items ≡ b ++ p7 =
    put_on b c.put_more-2.new.bytes.items p6 c.put_plain.new.bytes.items (plain_text c.shown.inside.events.now) h6 c.in_ok-put_plain.ensures in
    let clashes : c.deref.result.now ≡ story.clashes = c.deref.ensures.value ∙ ap (λ (v : Story). v.clashes) c.story.view_is in
    let some : c.len.result ≡ length x.clashes.items = omega (arith, c.len.ensures, x.clashes.ok.0) in
    let told : c.len.result ≡ length story.clashes = some ∙ ap (λ (v : Story). length v.clashes) c.story.view_is in
    let all : x.all_clashes ≡ story.all_clashes = ap (λ (v : Story). v.all_clashes) c.story.view_is in
    let deadlocks : map (λ (d : Vec Wait Global). d.items) c.deref-2.result.now ≡ story.deadlocks =
    ap (λ (ds : List (Vec Wait Global)). map (λ (d : Vec Wait Global). d.items) ds) c.deref-2.ensures.value
    ∙ ap (λ (v : Story). v.deadlocks) c.story.view_is in
    let losses : c.deref-3.result.now ≡ story.losses = c.deref-3.ensures.value ∙ ap (λ (v : Story). v.losses) c.story.view_is in
    let many : c.len-2.result ≡ length x.losses.items = omega (arith, c.len-2.ensures, x.losses.ok.0) in
    let lost : c.len-2.result ≡ length story.losses = many ∙ ap (λ (v : Story). length v.losses) c.story.view_is in
    let found : x.all_losses ≡ story.all_losses = ap (λ (v : Story). v.all_losses) c.story.view_is in
    let events : c.shown.inside.events.now ≡ s.events = ap (λ (v : Shown). v.events) c.shown.view_is in
    let same : p7 ≡ story_text s t story =
    λ i. all_parts s t p1 (clashes i) (told i) (all i) (deadlocks i) (losses i) (lost i) (found i) (events i) in
    h7 ∙ ap (λ (xs : List ℕ). xs ++ p7) c.new-bytes.ensures.items ∙ same
