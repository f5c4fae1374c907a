use Rattle.std.proofs.Common.{ℕ, ◌++◌, Option, codes, decimal, option_copied, ap, ◌∙◌}
use Rattle.mj_describe.specs.Words.{Shown, Spot, where_text, line_of, spot_part, spot_of}
use Rattle.mj_explain.proofs.Begun.{got}
use Rattle.mj_describe.proofs.Putting.{put_on, put_last}
use Rattle.mj_describe.proofs.wording.put_where.Goals as goal

pub returns : goal.returns
returns c =
    let place = c.args.place in
    let s = c.shown.inside in
    let numbered = put_on c.args.bytes.now.items c.put.new.bytes.items (codes "line ") c.put_number.new.bytes.items (decimal c.line_of.result) c.in_ok-put.ensures c.in_ok-put_number.ensures in
    put_last c.put_spot_part.result c.args.bytes.now.items c.put_number.new.bytes.items (codes "line " ++ decimal c.line_of.result) c.put_spot_part.new.bytes.items
    (spot_part (spot_of (option_copied c.get.result))) (where_text c.args.shown.now place) numbered
    (ap (λ (n : ℕ). (codes "line " ++ decimal n) ++ spot_part (spot_of (option_copied c.get.result))) c.line_of.ensures
    ∙ ap (λ (o : Option Spot). (codes "line " ++ decimal (line_of s.before place)) ++ spot_part (spot_of o)) (got s.spots.now place c.get.result c.get.ensures.lookup)
    ∙ ap (λ (v : Shown). where_text v place) c.shown.view_is)
    c.put_spot_part.ensures
