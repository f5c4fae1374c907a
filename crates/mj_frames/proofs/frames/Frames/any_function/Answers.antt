use Rattle.std.proofs.Common.{Bool, map, sym, ap, ◌∙◌}
use Rattle.std.specs.List.{list_any}
use Rattle.mj_semantics.specs.State.{Frame}
use Rattle.mj_frames.specs.Frames.{frame_of}
use Rattle.mj_frames.proofs.Innermost.{any_reverse}
use Rattle.mj_frames.proofs.frames.Frames.any_function.Goals as goal

pub returns : goal.returns
returns c =
    let own : Frame → Bool = λ f. f.function in
    c.any_function.ensures
    ∙ ap (λ l. list_any own (map frame_of l)) c.deref.ensures.value
    ∙ sym (any_reverse own (map frame_of c.self.inside.frames.items))
    ∙ ap (list_any own) c.self.view_is
