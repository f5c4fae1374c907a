use Rattle.std.proofs.Common.{ℕ, ◌<◌, List, Option, Some, None, Result, Ok, Err, OnErr, Vec, Global, sym, ap, ◌∙◌, subst}
use Rattle.std.specs.BTreeMap.{BTreeMap}
use Rattle.std.proofs.lemmas.Result.{on_ok_weaker, on_err_weaker}
use Rattle.mj_locktab.specs.declared.held.TheConstants.{HOLDS_LIMIT}
use Rattle.mj_locktab.specs.Trees.{Stands, Kids, word_cmp, spelled, stand_in, tally_of, at_words, AreAlike, IsWritten}
use Rattle.mj_locktab.proofs.Spelled.{word_written, there_spelled, more_word, alike_word, alike_words}
use Rattle.mj_locktab.proofs.words.mark.Goals as goal

pub mark-requires : goal.mark-requires
mark-requires c = λ p.
    subst (λ (o : Option Stands). tally_of (stand_in o p) c.args.job < HOLDS_LIMIT)
    (there_spelled c.args.words.now.entries c.bytes-key.result.now c.args.name.now.word (Some c.in-Some.node.now) (c.bytes-key.ensures.value ∙ c.word.ensures) c.in-Some.ensures.value) (c.requires p)

pub returns-in-Some-clause-ok : goal.returns-in-Some-clause-ok
returns-in-Some-clause-ok c =
    let es = c.args.words.now.entries in
    let new = (c.get_mut.follows.lender c.mark.new.self).entries in
    let same = c.bytes-key.ensures.value ∙ c.word.ensures in
    let there = c.in-Some.ensures.value in
    let written = word_written es new c.bytes-key.result.now c.args.name.now.word c.in-Some.node.now c.mark.new.self same there (c.get_mut.follows.holds c.mark.new.self).0 in
    on_ok_weaker c.mark.result (λ more.
    more_word es new c.bytes-key.result.now c.args.name.now c.as_slice.result.now c.args.job same (c.as_slice.ensures.value ∙ c.subscripts.ensures) (Some c.in-Some.node.now) (Some c.mark.new.self)
    there written more) c.mark.ensures.ok

pub returns-in-Some-clause-err : goal.returns-in-Some-clause-err
returns-in-Some-clause-err c =
    let es = c.args.words.now.entries in
    let new = (c.get_mut.follows.lender c.mark.new.self).entries in
    let same = c.bytes-key.ensures.value ∙ c.word.ensures in
    let there = c.in-Some.ensures.value in
    let written = word_written es new c.bytes-key.result.now c.args.name.now.word c.in-Some.node.now c.mark.new.self same there (c.get_mut.follows.holds c.mark.new.self).0 in
    on_err_weaker c.mark.result (λ alike.
    alike_word es new c.bytes-key.result.now c.args.name.now c.as_slice.result.now c.args.job same (c.as_slice.ensures.value ∙ c.subscripts.ensures) (Some c.in-Some.node.now) (Some c.mark.new.self)
    there written alike) c.mark.ensures.err

-- what holds anyhow holds at an error
at_error : {A E P : Type 0} (r : Result A E) → P → OnErr r P
at_error (Ok x) p = tt
at_error (Err e) p = p

-- the words are as they were where no memory is left for the tree of a word
pub returns-in_err-node-in-None-clause-err : goal.returns-in_err-node-in-None-clause-err
returns-in_err-node-in-None-clause-err c =
    let before = sym (ap (λ (m : BTreeMap (Vec ℕ Global) Stands). spelled m.entries) c.get_mut.follows.holds-at-none) in
    at_error c.from_residual.result (subst (λ (ks : Kids). AreAlike (at_words (spelled c.args.words.now.entries)) (at_words ks)) before (alike_words (spelled c.args.words.now.entries)))

pub returns-in_ok-node-in-None-clause-ok : goal.returns-in_ok-node-in-None-clause-ok
returns-in_ok-node-in-None-clause-ok c =
    let es = c.args.words.now.entries in
    let same = c.bytes-key.ensures.value ∙ c.word.ensures in
    let before = ap (λ (m : BTreeMap (Vec ℕ Global) Stands). spelled m.entries) c.get_mut.follows.holds-at-none in
    on_ok_weaker c.put.result (λ put.
    more_word es c.put.new.words.entries c.bytes-key.result.now c.args.name.now c.as_slice-in-None.result.now c.args.job same
    (c.as_slice-in-None.ensures.value ∙ c.subscripts-in-None.ensures) None (Some c.in_ok-node-in-None.node) c.in-None.ensures.value
    (subst (λ (x : List ℕ). IsWritten word_cmp (spelled es) (spelled c.put.new.words.entries) x (Some c.in_ok-node-in-None.node)) same
    (subst (λ (ks : Kids). IsWritten word_cmp ks (spelled c.put.new.words.entries) c.bytes-key.result.now (Some c.in_ok-node-in-None.node)) before put))
    c.in_ok-node-in-None.ensures) c.put.ensures.ok

pub returns-in_ok-node-in-None-clause-err : goal.returns-in_ok-node-in-None-clause-err
returns-in_ok-node-in-None-clause-err c =
    let before = ap (λ (m : BTreeMap (Vec ℕ Global) Stands). spelled m.entries) c.get_mut.follows.holds-at-none in
    on_err_weaker c.put.result (λ kept.
    subst (λ (ks : Kids). AreAlike (at_words (spelled c.args.words.now.entries)) (at_words ks)) (sym (ap spelled kept ∙ before)) (alike_words (spelled c.args.words.now.entries))) c.put.ensures.err
