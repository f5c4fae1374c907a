use Rattle.std.proofs.Common.{◌≡◌, ℕ, List, [], ◌∷◌, ◌++◌, Option, codes, option_copied, ap, ◌∙◌}
use Rattle.std.specs.Prelude.{slice_get}
use Rattle.mj_ask.specs.declared.noted.Noted.{Noted}
use Rattle.mj_describe.specs.Words.{Shown, where_text, job_text, asked_text, ask_of}
use Rattle.mj_explain.proofs.Begun.{got}
use Rattle.mj_describe.proofs.Regrouped.{asked_parts}
use Rattle.mj_describe.proofs.Putting.{put_on, put_last}
use Rattle.mj_describe.proofs.wording.put_asked.Goals as goal

pub returns : goal.returns
returns c =
    let k = c.args.place in
    let s = c.args.shown.now in
    let item : option_copied c.get.result ≡ slice_get s.events k =
    got c.shown.inside.events.now k c.get.result c.get.ensures.lookup ∙ ap (λ (v : Shown). slice_get v.events k) c.shown.view_is in
    let b = c.args.bytes.now.items in
    let p2 : List ℕ = codes "  At " ++ where_text s k in
    let p3 : List ℕ = p2 ++ 32 ∷ [] in
    let p4 : List ℕ = p3 ++ job_text s k in
    let p5 : List ℕ = p4 ++ codes " asked " in
    let h2 : c.put_where.new.bytes.items ≡ b ++ p2 =
    put_on b c.put.new.bytes.items (codes "  At ") c.put_where.new.bytes.items (where_text s k) c.in_ok-put.ensures c.in_ok-put_where.ensures in
    let h3 : c.put-2.new.bytes.items ≡ b ++ p3 = put_on b c.put_where.new.bytes.items p2 c.put-2.new.bytes.items (32 ∷ []) h2 c.in_ok-put-2.ensures in
    let h4 : c.put_job.new.bytes.items ≡ b ++ p4 = put_on b c.put-2.new.bytes.items p3 c.put_job.new.bytes.items (job_text s k) h3 c.in_ok-put_job.ensures in
    let h5 : c.put-3.new.bytes.items ≡ b ++ p5 = put_on b c.put_job.new.bytes.items p4 c.put-3.new.bytes.items (codes " asked ") h4 c.in_ok-put-3.ensures in
    put_last c.put_ask_of.result b c.put-3.new.bytes.items p5 c.put_ask_of.new.bytes.items (ask_of (option_copied c.get.result)) (asked_text s k) h5
    (ap (λ (o : Option Noted). ((((codes "  At " ++ where_text s k) ++ 32 ∷ []) ++ job_text s k) ++ codes " asked ") ++ ask_of o) item
    ∙ asked_parts (codes "  At " ++ where_text s k) (job_text s k) (codes " asked ") (ask_of (slice_get s.events k)))
    c.put_ask_of.ensures
