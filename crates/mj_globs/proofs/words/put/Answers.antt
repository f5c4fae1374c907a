use Rattle.std.proofs.Common.{ℕ, Vec, Global, sym, ap, ◌∙◌}
use Rattle.std.specs.BTreeMap.{BTreeMap}
use Rattle.std.proofs.lemmas.Result.{on_ok_weaker, on_err_weaker}
use Rattle.mj_subs.specs.Collation.{subscript_cmp}
use Rattle.mj_store.specs.Questions.{Subtree}
use Rattle.mj_tree.specs.Nest.{put_behind}
use Rattle.mj_globs.specs.Words.{spelled}
use Rattle.mj_globs.proofs.Changed.{rises_there, same_there, put_there, rises_added, put_absent}
use Rattle.mj_globs.proofs.words.put.Goals as goal

pub returns-in-Some-clause-rises : goal.returns-in-Some-clause-rises
returns-in-Some-clause-rises c =
    rises_there c.args.words.now.entries (c.get_mut.follows.lender c.put.new.self).entries c.bytes-key.result.now c.args.word.now c.bytes-key.ensures.value c.args.path.now c.in-Some.tree.now
    c.put.new.self (sym c.in-Some.ensures.value) (c.get_mut.follows.holds c.put.new.self).0 c.requires

pub returns-in-Some-clause-ok : goal.returns-in-Some-clause-ok
returns-in-Some-clause-ok c =
    on_ok_weaker c.put.result (λ is g. put_there c.args.words.now.entries (c.get_mut.follows.lender c.put.new.self).entries c.bytes-key.result.now c.args.word.now c.bytes-key.ensures.value
    c.args.path.now c.in-Some.tree.now c.put.new.self (sym c.in-Some.ensures.value) (c.get_mut.follows.holds c.put.new.self).0 c.requires c.args.nodes.now is g) c.put.ensures.ok

pub returns-in-Some-clause-err : goal.returns-in-Some-clause-err
returns-in-Some-clause-err c =
    on_err_weaker c.put.result (λ is. same_there c.args.words.now.entries (c.get_mut.follows.lender c.put.new.self).entries c.bytes-key.result.now c.args.word.now c.bytes-key.ensures.value
    c.args.path.now c.in-Some.tree.now c.put.new.self (sym c.in-Some.ensures.value) (c.get_mut.follows.holds c.put.new.self).0 c.requires is) c.put.ensures.err

pub returns-in-Ok-clause-rises : goal.returns-in-Ok-clause-rises
returns-in-Ok-clause-rises c =
    rises_added c.args.words.now.entries c.get_mut.follows.lender-at-none.entries c.bytes-key.result.now c.args.word.now c.bytes-key.ensures.value c.args.path.now (sym c.in-None.ensures.value)
    (ap (λ (m : BTreeMap (Vec ℕ Global) Subtree). spelled m.entries) c.get_mut.follows.holds-at-none) c.requires c.add.new.words.entries c.put-in-None.new.self c.add.result c.add.ensures.ok
    c.add.ensures.err

pub returns-in-Ok-clause-ok : goal.returns-in-Ok-clause-ok
returns-in-Ok-clause-ok c =
    put_absent c.args.words.now.entries c.get_mut.follows.lender-at-none.entries c.bytes-key.result.now c.args.word.now c.bytes-key.ensures.value c.args.path.now (sym c.in-None.ensures.value)
    (ap (λ (m : BTreeMap (Vec ℕ Global) Subtree). spelled m.entries) c.get_mut.follows.holds-at-none) c.requires c.add.new.words.entries c.put-in-None.new.self c.args.nodes.now
    (c.in_ok-put-in-None.ensures.ok ∙ ap (λ (m : Subtree). put_behind subscript_cmp c.args.path.now c.args.nodes.now m) c.new-tree.ensures) c.in-Ok.ensures.ok
