use Rattle.std.proofs.Common.{ℕ, Some, None, Vec, Global, refl, sym, ap, ◌∙◌, subst}
use Rattle.std.specs.BTreeMap.{BTreeMap}
use Rattle.mj_locktab.specs.Trees.{Stands, Kids, spelled, at_words, paths_eq, is_front, is_place_of, is_place_above, HasOneLess}
use Rattle.mj_locktab.proofs.Kids.{less_none}
use Rattle.mj_locktab.proofs.Spelled.{word_written, word_none, less_word}
use Rattle.mj_locktab.proofs.words.unmark.Goals as goal

pub returns-in_default : goal.returns-in_default
returns-in_default c =
    let es = c.args.words.now.entries in
    let n = c.args.name.now in
    let same = c.bytes.ensures.value ∙ c.word.ensures in
    let there = c.in_default.ensures.value in
    let before = sym (ap (λ (m : BTreeMap (Vec ℕ Global) Stands). spelled m.entries) c.get_mut.follows.holds-at-none) in
    subst (λ (ks : Kids). HasOneLess (at_words (spelled es)) (at_words ks) (is_place_of n) (is_place_above n) c.args.job) before
    (less_word es es c.bytes.result.now n n.subscripts c.args.job same refl None None there (word_none es c.bytes.result.now n.word same there)
    (less_none (λ p. paths_eq p n.subscripts) (λ p. is_front p n.subscripts) c.args.job))

pub returns : goal.returns
returns c =
    let es = c.args.words.now.entries in
    let n = c.args.name.now in
    let new = (c.get_mut.follows.lender c.unmark.new.self).entries in
    let same = c.bytes.ensures.value ∙ c.word.ensures in
    let there = c.in-Some.ensures.value in
    let written = word_written es new c.bytes.result.now n.word c.in-Some.node.now c.unmark.new.self same there (c.get_mut.follows.holds c.unmark.new.self).0 in
    less_word es new c.bytes.result.now n c.as_slice.result.now c.args.job same (c.as_slice.ensures.value ∙ c.subscripts.ensures) (Some c.in-Some.node.now) (Some c.unmark.new.self) there written
    c.unmark.ensures
