use Rattle.std.proofs.Common.{ℕ, ◌<◌, List, [], ◌∷◌, ◌++◌, None, length, take, sym, ap, ◌∙◌, subst, arith}
use Rattle.std.proofs.lemmas.List.{take_more, get_or_read}
use Rattle.mj_locals.specs.Groups.{Group, rest}
use Rattle.mj_locals.specs.Hiding.{HidesOnly}
use Rattle.mj_locals.proofs.Content.{on_err}
use Rattle.mj_locals.proofs.HiddenWords.{hides_same, hides_added, only_next}
use Rattle.mj_locals.proofs.news.hide_words.Goals as goal

pub returns-in_err-hide-clause-err : goal.returns-in_err-hide-clause-err
returns-in_err-hide-clause-err c =
    let gs : List Group = rest c.args.trail.now in
    let more = hides_added None c.args.table.now c.loop-word.table c.word-item.result gs c.loop-word.trail c.loop-word.invariant.0 in
    on_err c.from_residual-in_err-hide.result
    (hides_same None c.args.table.now _ c.hide.new.table gs c.loop-word.trail c.hide.new.self (c.in_err-hide.ensures.table_err ∙ c.in_ok-place.ensures.ok) c.in_err-hide.ensures.err more.0)

pub loop-word-preserved : goal.loop-word-preserved
loop-word-preserved c =
    let k : ℕ = c.loop-word.word-index in
    let ws : List (List ℕ) = c.args.words.now in
    let w : List ℕ = c.word-item.result in
    let less : k < length ws = omega arith in
    let one = take_more ws k [] less ∙ ap (λ (v : List ℕ). take k ws ++ v ∷ []) (sym (get_or_read ws k w less c.word-item.is [])) in
    subst (λ (vs : List (List ℕ)). HidesOnly vs c.args.table.now c.hide.new.table (rest c.args.trail.now) c.hide.new.self) (sym one)
    (only_next (take k ws) c.args.table.now c.loop-word.table c.make_room.new.self c.hide.new.table (rest c.args.trail.now) c.loop-word.trail
    c.hide.new.self w c.in_ok-place.place c.loop-word.invariant c.in_ok-place.ensures.ok c.in_ok-place.ensures.place c.in_ok-hide.ensures.table c.in_ok-hide.ensures.ok)
