use Rattle.std.proofs.Common.{List, ℕ, ap, ◌∙◌}
use Rattle.mj_pcode.specs.Labels.{spelled, line_with}
use Rattle.mj_pcode.proofs.Spelled.{line_spelled}
use Rattle.mj_pcode.proofs.labels.Labels.search.Goals as goal

pub returns : goal.returns
returns c =
    c.copied.ensures ∙ c.get.ensures.value ∙ line_spelled c.bytes.result.now c.self.inside.lines.entries
    ∙ ap (λ (l : List ℕ). line_with l (spelled c.self.inside.lines.entries)) c.bytes.ensures.value
    ∙ ap (line_with c.args.label.now) c.self.view_is
