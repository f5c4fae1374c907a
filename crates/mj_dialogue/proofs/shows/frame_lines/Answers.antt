use Rattle.std.proofs.Common.{◌≡◌, ◌++◌, sym, ap, ◌∙◌, List, ℕ, []}
use Rattle.mj_frames.specs.declared.frame.Frame as kept
use Rattle.mj_dialogue.proofs.Showing.{framed, framed_on, framed_all}
use Rattle.mj_dialogue.proofs.shows.frame_lines.Goals as goal

pub loop-frame-init : goal.loop-frame-init
loop-frame-init c =
    let iter = ap (λ rev. rev.iter) c.into_iter-frame-iterator.ensures.into_iter_gives ∙ c.rev-frame-items.ensures.source in
    let rest = ap (λ iter. iter.rest.now) iter ∙ c.iter.ensures.rest in
    ap framed (sym rest) ∙ ap (λ (l : List ℕ). l ++ framed c.into_iter-frame-iterator.result.iter.rest.now) (sym c.new-bytes.ensures.items)

pub loop-frame-preserved : goal.loop-frame-preserved
loop-frame-preserved c =
    framed_on (framed c.args.frames.now) c.loop-frame.bytes.items c.put_spot.new.bytes.items c.loop-frame.frame-iterator.iter.rest.now c.next.new.self.iter.rest.now c.in-Some.frame.now
    c.loop-frame.invariant c.in-Some.ensures.steps c.in_ok-put_spot.ensures

pub returns : goal.returns
returns c = framed_all (framed c.args.frames.now) c.loop-frame.bytes.items c.loop-frame.frame-iterator.iter.rest.now c.loop-frame.invariant c.in-None.ensures.steps.0
