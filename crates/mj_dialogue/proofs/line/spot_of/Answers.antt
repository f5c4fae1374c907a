use Rattle.std.proofs.Common.{◌≡◌, ◌≤◌, sym, ap, ◌∙◌, arith, true}
use Rattle.std.proofs.Common.{rules}
use Rattle.std.proofs.lemmas.Fmt.{decimal_injective}
use Rattle.mj_subs.specs.Name.{is_word}
use Rattle.mj_dialogue.proofs.Spots.{no_colon, cut, joined}
use Rattle.mj_dialogue.proofs.line.spot_of.Goals as goal

pub returns-in_default-clause-none : goal.returns-in_default-clause-none
returns-in_default-clause-none c = λ routine line spot is.
    no_colon c.args.bytes.now routine line (sym c.colon.ensures ∙ c.in_default.is) spot is

pub returns-then-not-is_word-clause-none : goal.returns-then-not-is_word-clause-none
returns-then-not-is_word-clause-none c = λ routine line spot is.
    let two = cut c.args.bytes.now routine c.in-Some.colon line (sym c.colon.ensures ∙ c.in-Some.is) spot is in
    let same = ap is_word two.0 in
    let word : is_word routine ≡ true = spot.0 in
    absurd (grind (arith, same, word, c.if-not-is_word.true, c.is_word.ensures))

pub returns-in_default-count_of-clause-none : goal.returns-in_default-count_of-clause-none
returns-in_default-count_of-clause-none c = λ routine line spot is.
    let two = cut c.args.bytes.now routine c.in-Some.colon line (sym c.colon.ensures ∙ c.in-Some.is) spot is in
    c.in_default-count_of.ensures.none line spot.2 two.1

pub returns-then-line-eq0-clause-none : goal.returns-then-line-eq0-clause-none
returns-then-line-eq0-clause-none c = λ routine line spot is.
    let two = cut c.args.bytes.now routine c.in-Some.colon line (sym c.colon.ensures ∙ c.in-Some.is) spot is in
    let spelled = sym c.in-Some-count_of.ensures.some ∙ two.1 in
    let same : c.in-Some-count_of.line ≡ line = decimal_injective c.in-Some-count_of.line line (omega (arith, c.if-line-eq0.true)) (omega (arith, spot.2)) spelled in
    omega (arith, same, spot.1, c.if-line-eq0.true)

pub returns-in-Ok-clause-some : goal.returns-in-Ok-clause-some
returns-in-Ok-clause-some c =
    let word = ap is_word c.in-Ok.ensures.ok ∙ sym c.is_word.ensures ∙ c.if-not-is_word.false in
    let above : 1 ≤ c.in-Some-count_of.line = omega (arith, c.if-line-eq0.false) in (
      (word, above, search rules),
      joined c.args.bytes.now c.in-Ok.routine c.in-Some.colon c.in-Some-count_of.line (sym c.colon.ensures ∙ c.in-Some.is) c.in-Ok.ensures.ok c.in-Some-count_of.ensures.some,
    )
