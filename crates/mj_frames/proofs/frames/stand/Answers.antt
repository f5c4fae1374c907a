use Rattle.std.proofs.Common.{length, refl, sym, ap, ◌∙◌}
use Rattle.mj_frames.specs.Frames.{place_of, frame_of, with_place}
use Rattle.mj_frames.proofs.Innermost.{seen_set, seen_last}
use Rattle.mj_frames.proofs.frames.stand.Goals as goal

pub returns-in-Some : goal.returns-in-Some
returns-in-Some c =
    let xs = c.args.frames.now in
    let item = c.in-Some.ensures.item in
    seen_set frame_of xs (length xs) _ refl item.3.0 ∙ sym (ap (with_place (place_of c.args.place)) (seen_last frame_of xs c.in-Some.frame.now item.3.0 item.1))
