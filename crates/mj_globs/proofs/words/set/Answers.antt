use Rattle.std.proofs.Common.{ℕ, Vec, Global, sym, ap, ◌∙◌}
use Rattle.std.specs.BTreeMap.{BTreeMap}
use Rattle.std.proofs.lemmas.Result.{on_ok_weaker, on_err_weaker}
use Rattle.mj_store.specs.Questions.{Subtree}
use Rattle.std.specs.FinMap.{put}
use Rattle.mj_globs.specs.Words.{spelled}
use Rattle.mj_globs.proofs.Groups.{S}
use Rattle.mj_globs.proofs.Changed.{rises_there, same_there, set_there, rises_added, set_absent}
use Rattle.mj_globs.proofs.words.set.Goals as goal

pub returns-in-Some-clause-rises : goal.returns-in-Some-clause-rises
returns-in-Some-clause-rises c =
    rises_there c.args.words.now.entries (c.get_mut.follows.lender c.set.new.self).entries c.bytes-key.result.now c.args.word.now c.bytes-key.ensures.value c.args.path.now c.in-Some.tree.now
    c.set.new.self (sym c.in-Some.ensures.value) (c.get_mut.follows.holds c.set.new.self).0 c.requires

pub returns-in-Some-clause-ok : goal.returns-in-Some-clause-ok
returns-in-Some-clause-ok c =
    on_ok_weaker c.set.result (λ is g. set_there c.args.words.now.entries (c.get_mut.follows.lender c.set.new.self).entries c.bytes-key.result.now c.args.word.now c.bytes-key.ensures.value
    c.args.path.now c.in-Some.tree.now c.set.new.self (sym c.in-Some.ensures.value) (c.get_mut.follows.holds c.set.new.self).0 c.requires c.args.text.now is g) c.set.ensures.ok

pub returns-in-Some-clause-err : goal.returns-in-Some-clause-err
returns-in-Some-clause-err c =
    on_err_weaker c.set.result (λ is. same_there c.args.words.now.entries (c.get_mut.follows.lender c.set.new.self).entries c.bytes-key.result.now c.args.word.now c.bytes-key.ensures.value
    c.args.path.now c.in-Some.tree.now c.set.new.self (sym c.in-Some.ensures.value) (c.get_mut.follows.holds c.set.new.self).0 c.requires is) c.set.ensures.err

pub returns-in_ok-set-in-None-clause-rises : goal.returns-in_ok-set-in-None-clause-rises
returns-in_ok-set-in-None-clause-rises c =
    rises_added c.args.words.now.entries c.get_mut.follows.lender-at-none.entries c.bytes-key.result.now c.args.word.now c.bytes-key.ensures.value c.args.path.now (sym c.in-None.ensures.value)
    (ap (λ (m : BTreeMap (Vec ℕ Global) Subtree). spelled m.entries) c.get_mut.follows.holds-at-none) c.requires c.add.new.words.entries c.set-in-None.new.self c.add.result c.add.ensures.ok
    c.add.ensures.err

pub returns-in_ok-set-in-None-clause-ok : goal.returns-in_ok-set-in-None-clause-ok
returns-in_ok-set-in-None-clause-ok c =
    on_ok_weaker c.add.result (λ added g. set_absent c.args.words.now.entries c.get_mut.follows.lender-at-none.entries c.bytes-key.result.now c.args.word.now c.bytes-key.ensures.value c.args.path.now
    (sym c.in-None.ensures.value) (ap (λ (m : BTreeMap (Vec ℕ Global) Subtree). spelled m.entries) c.get_mut.follows.holds-at-none) c.requires c.add.new.words.entries c.set-in-None.new.self
    c.args.text.now (c.in_ok-set-in-None.ensures.ok ∙ ap (λ (m : Subtree). put S c.args.path.now c.args.text.now m) c.new-tree.ensures) added g) c.add.ensures.ok
