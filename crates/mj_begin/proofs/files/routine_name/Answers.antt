use Rattle.std.proofs.Common.{◌≡◌, List, [], ◌∷◌, ◌++◌, sym, ap, ◌∙◌}
use Rattle.mj_begin.specs.Names.{stem_of, with_percent}
use Rattle.mj_begin.proofs.Names.{stripped, unstripped}
use Rattle.mj_begin.proofs.files.routine_name.Goals.{in-Some+in_ok-push-in-Some, in-None}
use Rattle.mj_begin.proofs.files.routine_name.Goals as goal

pub returns : goal.returns
returns c =
    let m = c.match-strip_prefix in
    let stem = c.stem-stem.result.now in
    let all : c.extend_from_slice.new.self.items ≡ m.name.items ++ m.rest.now = c.in_ok-extend_from_slice.ensures.items ∙ ap (λ l. m.name.items ++ l) c.as_bytes.ensures.value in
    let named : m.name.items ++ m.rest.now ≡ with_percent stem = elim m.branch [
      | in-Some+in_ok-push-in-Some w ↦
          (λ i. (ap (λ v. v.items) w.name-is ∙ w.in_ok-push-in-Some.ensures.items ∙ ap (λ l. l ++ 37 ∷ []) c.new-name.ensures.items) i ++ ap (λ b. b.now) w.rest-is i)
          ∙ sym (stripped stem w.in-Some.rest.now w.in-Some.ensures.cases)
      | in-None w ↦ (λ i. (ap (λ v. v.items) w.name-is ∙ c.new-name.ensures.items) i ++ ap (λ b. b.now) w.rest-is i) ∙ sym (unstripped stem w.in-None.ensures.cases)
    ] in
    all ∙ named ∙ ap with_percent (c.stem-stem.ensures ∙ ap stem_of c.file_name.ensures)
