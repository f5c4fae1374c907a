use Rattle.std.proofs.Common.{◌≡◌, ◌++◌, Option, codes, option_copied, ap, ◌∙◌}
use Rattle.std.specs.Prelude.{slice_get}
use Rattle.mj_ask.specs.declared.noted.Noted.{Noted}
use Rattle.mj_describe.specs.Words.{Shown, asked_text, told_text, reply_of}
use Rattle.mj_explain.proofs.Begun.{got}
use Rattle.mj_describe.proofs.Putting.{put_on, put_last}
use Rattle.mj_describe.proofs.wording.put_told.Goals as goal

pub returns : goal.returns
returns c =
    let k = c.args.place in
    let s = c.args.shown.now in
    let item : option_copied c.get.result ≡ slice_get s.events k =
    got c.shown.inside.events.now k c.get.result c.get.ensures.lookup ∙ ap (λ (v : Shown). slice_get v.events k) c.shown.view_is in
    let h2 = put_on c.args.bytes.now.items c.put_asked.new.bytes.items (asked_text s k) c.put.new.bytes.items (codes " and was told ") c.in_ok-put_asked.ensures c.in_ok-put.ensures in
    put_last c.put_reply_of.result c.args.bytes.now.items c.put.new.bytes.items (asked_text s k ++ codes " and was told ") c.put_reply_of.new.bytes.items
    (reply_of (option_copied c.get.result)) (told_text s k) h2
    (ap (λ (o : Option Noted). (asked_text s k ++ codes " and was told ") ++ reply_of o) item)
    c.put_reply_of.ensures
