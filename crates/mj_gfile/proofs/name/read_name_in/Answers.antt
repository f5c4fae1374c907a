use Rattle.std.proofs.Common.{rules, ◌≡◌, ◌∙◌, [], Some, ap}
use Rattle.mj_gfile.specs.declared.field.Field.TheVariants.{Within}
use Rattle.mj_gfile.specs.Reading.{named, name_with, name_in}
use Rattle.mj_gfile.specs.Listing.{name_field}
use Rattle.mj_gfile.proofs.Named.{list_behind, none_behind, other_behind, named_read, name_read}
use Rattle.mj_gfile.proofs.name.read_name_in.Goals as goal
use Rattle.mj_gfile.proofs.name.read_name_in.Goals.{in-40+in_ok-read-in-40+in-Some, in_default, in_default-via-then-behind-lt1, in_default-via-else-behind-lt1+in_default-1}

pub returns : goal.returns
returns c =
    let limit = c.args.limit in
    let global = c.args.global in
    let word = c.split_word.result.0.now in
    let behind = c.split_word.result.1.now in
    let whole : name_field limit (name_with global word behind) ≡ name_field limit (name_in global c.args.bytes.now) =
    name_read limit global c.args.bytes.now word behind c.split_word.ensures.front c.split_word.ensures.rest (search rules) in
    elim c.if-behind-lt1.branch [
      | in-40+in_ok-read-in-40+in-Some w ↦
          ap (λ t. Some (c.in_ok-name.name, t.1.now)) w.subs-is
          ∙ named_read limit global word w.in-Some.read.0 w.in-Some.read.1.now _ (rw w.in-Some.is at w.in_ok-read-in-40.ensures) c.in_ok-name.name
          (λ l list k. c.in_ok-name.ensures l list (ap (λ t. t.0) w.subs-is ∙ k))
          ∙ ap (name_field limit) (list_behind global word behind (search rules)) ∙ whole
      | in_default w ↦
          named_read limit global word c.if-behind-lt1.subs.0 c.if-behind-lt1.subs.1.now (Some ([], behind))
          (ap (λ t. Some (t.0, t.1.now)) w.subs-is ∙ ap (λ x. Some (Within x, behind)) w.new.ensures) c.in_ok-name.name (λ l list k. c.in_ok-name.ensures l list k)
          ∙ ap (name_field limit) (let same : named global word (Some ([], behind)) ≡ name_with global word behind = elim w.in_default.branch [
            | in_default-via-then-behind-lt1 w' ↦ none_behind global word behind (search rules)
            | in_default-via-else-behind-lt1+in_default-1 w' ↦ other_behind global word behind (search rules)
          ] in same) ∙ whole
    ]
