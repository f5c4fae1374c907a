use Rattle.std.proofs.Common.{◌∙◌, ◌++◌, ◌-◌, ◌<◌, [], arith, ap, sym, length, take}
use Rattle.std.specs.List.{repeat}
use Rattle.std.proofs.lemmas.List.{take_rest}
use Rattle.mj_text.specs.Limit.{within_limit}
use Rattle.mj_strfn.proofs.PieceLaws.{answers_as, front_room, set_pads, set_inside, set_last}
use Rattle.mj_strfn.proofs.pieces.replaced.Goals as goal

pub returns-in_default : goal.returns-in_default
returns-in_default c =
    let s = c.args.old.now in
    let d = c.args.separator.now in
    let e = c.args.value.now in
    let pads = set_pads d s e c.args.first c.args.last c.requires.some c.requires.from_one c.requires.in_order c.in_default.ensures in
    answers_as _ _ _ (ap (within_limit c.args.limit) (pads ∙ ap (λ n. s ++ repeat (c.args.first - n) d ++ e ++ []) (sym c.count.ensures.value))) c.assembled.ensures

pub returns-in-Some-behind : goal.returns-in-Some-behind
returns-in-Some-behind c =
    let s = c.args.old.now in
    let d = c.args.separator.now in
    let e = c.args.value.now in
    let r = c.in-Some.rest.now in
    let within = set_inside d s r _ e c.args.first c.args.last c.requires.some c.requires.from_one c.requires.in_order c.in-Some.ensures c.in-Some-behind.ensures in
    answers_as _ _ _ (ap (within_limit c.args.limit) (within ∙ ap (λ l. take (length s - length r) s ++ repeat 0 d ++ e ++ l) (sym (take_rest r _)))) c.assembled-in-Some-behind.ensures

pub returns-in-None : goal.returns-in-None
returns-in-None c =
    let s = c.args.old.now in
    let d = c.args.separator.now in
    let e = c.args.value.now in
    let r = c.in-Some.rest.now in
    let last = set_last d s r e c.args.first c.args.last c.requires.some c.requires.from_one c.requires.in_order c.in-Some.ensures c.in-None.ensures in
    answers_as _ _ _ (ap (within_limit c.args.limit) last) c.assembled-in-None.ensures

pub overflow_sub-back-in-Some-behind : goal.overflow_sub-back-in-Some-behind
overflow_sub-back-in-Some-behind c =
    let order = c.requires.in_order in
    let one = c.requires.from_one in
    let some : 0 < c.args.last - (c.args.first - 1) = omega arith in
    let room = front_room _ _ _ _ some c.in-Some-behind.ensures in
    omega arith
