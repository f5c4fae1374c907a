use Rattle.std.proofs.Common.{◌++◌, ℕ, List, ap, ◌∙◌}
use Rattle.std.specs.Prelude.{codes}
use Rattle.mj_faulted.specs.Meanings.{meaning_of}
use Rattle.mj_faulted.specs.Stories as stories
use Rattle.mj_faulted.proofs.Pieces.{four_put}
use Rattle.mj_faulted.proofs.story.put_lost.Goals as goal

pub returns : goal.returns
returns c =
    four_put c.put-3.result c.args.bytes.now.items (stories.front_text c.args.job c.args.fault) (codes ", ") (meaning_of c.args.fault)
    (codes ", but its place isn't found again\n") c.put_front.new.bytes.items c.put.new.bytes.items c.put-2.new.bytes.items c.put-3.new.bytes.items
    c.in_ok-put_front.ensures c.in_ok-put.ensures
    (c.in_ok-put-2.ensures ∙ ap (λ (t : List ℕ). c.put.new.bytes.items ++ t) (c.as_bytes.ensures.value ∙ c.meaning.ensures)) c.put-3.ensures
