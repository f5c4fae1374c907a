use Rattle.std.proofs.Common.{◌≡◌, ℕ, List, [], ◌∷◌, ◌++◌, codes, Option, option_copied, Bor, ap, sym, ◌∙◌}
use Rattle.mj_explain.specs.declared.clashes.Why.{Why}
use Rattle.mj_ask.specs.declared.ask.Reply.TheVariants as replies
use Rattle.mj_trace.specs.Spelling.{reply_text}
use Rattle.mj_describe.specs.Words.{where_text, told_text, cause_text, why_text}
use Rattle.mj_describe.proofs.Putting.{put_on, put_last}
use Rattle.mj_describe.proofs.Regrouped.{why_parts}
use Rattle.mj_describe.proofs.wording.put_why.Goals as goal

pub returns : goal.returns
returns c =
    let s = c.args.shown.now in
    let x = c.in-Some.why.now in
    let b = c.args.bytes.now.items in
    let p1 : List ℕ = codes " the transaction begun at " in
    let p2 : List ℕ = p1 ++ where_text s x.begin in
    let h2 : c.put_where.new.bytes.items ≡ b ++ p2 =
    put_on b c.put-2.new.bytes.items p1 c.put_where.new.bytes.items (where_text s x.begin) c.in_ok-put.ensures c.in_ok-put_where.ensures in
    let p3 : List ℕ = p2 ++ 46 ∷ 10 ∷ [] in
    let h3 : c.put-3.new.bytes.items ≡ b ++ p3 =
    put_on b c.put_where.new.bytes.items p2 c.put-3.new.bytes.items (46 ∷ 10 ∷ []) h2 c.in_ok-put-2.ensures in
    let p4 : List ℕ = p3 ++ told_text s x.read in
    let h4 : c.put_told.new.bytes.items ≡ b ++ p4 =
    put_on b c.put-3.new.bytes.items p3 c.put_told.new.bytes.items (told_text s x.read) h3 c.in_ok-put_told.ensures in
    let p5 : List ℕ = p4 ++ codes ". At the commit it would be told " in
    let h5 : c.put-4.new.bytes.items ≡ b ++ p5 =
    put_on b c.put_told.new.bytes.items p4 c.put-4.new.bytes.items (codes ". At the commit it would be told ") h4 c.in_ok-put-3.ensures in
    let p6 : List ℕ = p5 ++ reply_text (replies.Answer x.answer) in
    let h6 : c.put_answer.new.bytes.items ≡ b ++ p6 =
    put_on b c.put-4.new.bytes.items p5 c.put_answer.new.bytes.items (reply_text (replies.Answer x.answer)) h5 c.in_ok-put_answer.ensures in
    let p7 : List ℕ = p6 ++ 46 ∷ 10 ∷ [] in
    let h7 : c.put-5.new.bytes.items ≡ b ++ p7 =
    put_on b c.put_answer.new.bytes.items p6 c.put-5.new.bytes.items (46 ∷ 10 ∷ []) h6 c.in_ok-put-4.ensures in
    put_last c.put_cause.result b c.put-5.new.bytes.items p7 c.put_cause.new.bytes.items (cause_text s x.cause) (why_text s (option_copied c.args.why)) h7
    (why_parts p1 (where_text s x.begin) (told_text s x.read) (codes ". At the commit it would be told ") (reply_text (replies.Answer x.answer))
    (cause_text s x.cause)
    ∙ ap (λ (o : Option (Bor Why)). why_text s (option_copied o)) (sym c.in-Some.is)) c.put_cause.ensures
