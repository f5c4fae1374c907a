use Rattle.std.proofs.Common.{ℕ, Vec, Global, sym, ap, refl}
use Rattle.std.specs.BTreeMap.{BTreeMap}
use Rattle.mj_store.specs.Questions.{Subtree}
use Rattle.mj_globs.specs.Words.{spelled}
use Rattle.mj_globs.proofs.Changed.{rises_there, kill_there, rises_removed, kill_removed, kill_absent}
use Rattle.mj_globs.proofs.words.kill.Goals as goal

pub returns-in_default-clause-content : goal.returns-in_default-clause-content
returns-in_default-clause-content c =
    kill_absent c.args.words.now.entries c.get_mut.follows.lender-at-none.entries c.bytes-key.result.now c.args.word.now c.bytes-key.ensures.value c.args.path.now (sym c.in_default.ensures.value)
    (ap (λ (m : BTreeMap (Vec ℕ Global) Subtree). spelled m.entries) c.get_mut.follows.holds-at-none) c.requires

pub returns-then-is_empty-clause-rises : goal.returns-then-is_empty-clause-rises
returns-then-is_empty-clause-rises c =
    rises_removed c.args.words.now.entries (c.get_mut.follows.lender c.kill.new.self).entries c.bytes-key.result.now c.args.word.now c.bytes-key.ensures.value c.args.path.now c.in-Some.tree.now
    c.kill.new.self (sym c.in-Some.ensures.value) (c.get_mut.follows.holds c.kill.new.self).0 c.requires c.remove.new.words.entries c.remove.ensures

pub returns-then-is_empty-clause-content : goal.returns-then-is_empty-clause-content
returns-then-is_empty-clause-content c =
    kill_removed c.args.words.now.entries (c.get_mut.follows.lender c.kill.new.self).entries c.bytes-key.result.now c.args.word.now c.bytes-key.ensures.value c.args.path.now c.in-Some.tree.now
    c.kill.new.self (sym c.in-Some.ensures.value) (c.get_mut.follows.holds c.kill.new.self).0 c.requires c.remove.new.words.entries c.remove.ensures c.kill.ensures (c.if-is_empty.ensures.0 refl)

pub returns-else-is_empty-clause-rises : goal.returns-else-is_empty-clause-rises
returns-else-is_empty-clause-rises c =
    rises_there c.args.words.now.entries (c.get_mut.follows.lender c.kill.new.self).entries c.bytes-key.result.now c.args.word.now c.bytes-key.ensures.value c.args.path.now c.in-Some.tree.now
    c.kill.new.self (sym c.in-Some.ensures.value) (c.get_mut.follows.holds c.kill.new.self).0 c.requires

pub returns-else-is_empty-clause-content : goal.returns-else-is_empty-clause-content
returns-else-is_empty-clause-content c =
    kill_there c.args.words.now.entries (c.get_mut.follows.lender c.kill.new.self).entries c.bytes-key.result.now c.args.word.now c.bytes-key.ensures.value c.args.path.now c.in-Some.tree.now
    c.kill.new.self (sym c.in-Some.ensures.value) (c.get_mut.follows.holds c.kill.new.self).0 c.requires c.kill.ensures
