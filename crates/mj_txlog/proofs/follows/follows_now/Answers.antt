use Rattle.std.proofs.Common.{◌≡◌, ◌≤◌, true, false, sym, ap, ◌∙◌, subst, arith}
use Rattle.std.specs.Prelude.{◌↔◌, IsTrue}
use Rattle.std.proofs.lemmas.Result.{IfOk-weaker}
use Rattle.mj_store.specs.Questions.{Content}
use Rattle.mj_store.specs.Runs.{name_of, answer_of}
use Rattle.mj_globs.specs.Stamps.{stamp_at, is_still}
use Rattle.mj_txlog.specs.declared.entry.Entry.TheVariants as entry
use Rattle.mj_txlog.specs.Accesses.{is_write, seen}
use Rattle.mj_txlog.proofs.Following.{told_access, still_follows}
use Rattle.mj_txlog.proofs.follows.follows_now.Goals as goal

pub returns-else-not-is_still-clause-follows : goal.returns-else-not-is_still-clause-follows
returns-else-not-is_still-clause-follows c =
    let g = c.args.globals.now in
    let earlier = c.args.earlier.now in
    let a = c.in-Access.access in
    let r = c.in-Access.then in
    let s = c.args.stamp in
    let now : c.stamp-now.result ≡ stamp_at g.stamps (name_of a) = c.stamp-now.ensures ∙ ap (stamp_at g.stamps) c.name.ensures in
    let read : is_write a ≡ false = sym c.if-is_write.ensures in
    let behind : s ≤ stamp_at g.stamps (name_of a) = omega (arith, now) in
    let still : is_still s (stamp_at g.stamps (name_of a)) ≡ true = ap (is_still s) (sym now) ∙ sym c.if-not-is_still.ensures in
    IfOk-weaker c.has_answer.result _ _
    (λ b has. told_access g earlier c.args.entry.now (entry.Access a r) s b c.in-Access.is
    (still_follows g earlier a r s b read behind still (subst (λ (x : Content). IsTrue b ↔ (answer_of a (seen x earlier) ≡ r)) c.texts.ensures has)))
    c.has_answer.ensures.has
