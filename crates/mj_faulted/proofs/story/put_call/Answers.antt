use Rattle.std.proofs.Common.{[], ◌∷◌}
use Rattle.std.specs.Prelude.{codes}
use Rattle.mj_frames.specs.Frames.{place_of}
use Rattle.mj_faulted.specs.Sources.{sources_of}
use Rattle.mj_faulted.specs.Stories as stories
use Rattle.mj_faulted.proofs.Pieces.{four_put}
use Rattle.mj_faulted.proofs.story.put_call.Goals as goal

pub returns : goal.returns
returns c =
    four_put c.put_shown.result c.args.bytes.now.items (codes "  called at ") (stories.spot_text c.args.routines.now (place_of c.args.place.now)) (10 ∷ [])
    (stories.shown_at (sources_of c.args.sources.now) (place_of c.args.place.now)) c.put.new.bytes.items c.put_spot.new.bytes.items c.put-2.new.bytes.items
    c.put_shown.new.bytes.items c.in_ok-put.ensures c.in_ok-put_spot.ensures c.in_ok-put-2.ensures c.put_shown.ensures
