use Rattle.mj_search.specs.Told.{behind_head, cut, end_line, how_word, whether_over}
use Rattle.std.proofs.Common.{◌∙◌, ◌++◌, List, ℕ, ap}
use Rattle.mj_search.proofs.Putting.{both}
use Rattle.mj_search.proofs.told.put_end.Goals as goal

pub returns : goal.returns
returns c =
    let end = c.args.end.now in
    let text = end.text.items in
    let how = c.how_word.ensures ∙ ap how_word (c.whether_over.ensures ∙ ap whether_over c.deref.ensures.value) in
    let line = c.in_ok-line.ensures ∙ ap (λ (w : List ℕ). end_line end.runs w) how in
    let shown = c.behind_head.ensures ∙ ap behind_head c.deref-2.ensures.value in
    both c.args.bytes.now.items (end_line end.runs (how_word (whether_over text))) (cut (behind_head text)) c.extend_from_slice.new.self.items c.put_shown.new.bytes.items
    (c.in_ok-extend_from_slice.ensures.items ∙ ap (λ (w : List ℕ). c.args.bytes.now.items ++ w) (c.as_bytes.ensures.value ∙ line))
    (c.in_ok-put_shown.ensures ∙ ap (λ (w : List ℕ). c.extend_from_slice.new.self.items ++ cut w) shown)
