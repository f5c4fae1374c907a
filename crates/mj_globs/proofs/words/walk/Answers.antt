use Rattle.std.proofs.Common.{rules, ◌≡◌, List, ℕ, ◌∷◌, IfErr, sym, ap, ◌∙◌, subst}
use Rattle.mj_tree.specs.Walks.{StopsSo}
use Rattle.mj_tree.proofs.Walked.{told_on, closes_behind, closes_before}
use Rattle.mj_globs.specs.Words.{Words, spelled, of_word, of_kind}
use Rattle.mj_globs.proofs.Walked.{past_word}
use Rattle.mj_globs.proofs.words.walk.Goals as goal

pub loop-word-init : goal.loop-word-init
loop-word-init g c = record { taken = λ t left. left; closed = λ t at. at }

pub loop-word-preserved : goal.loop-word-preserved
loop-word-preserved g c =
    let next : spelled c.loop-word.word-iterator ≡ (c.as_slice.result.now, c.in-Some.tree.now) ∷ spelled c.next.new.self =
    ap spelled c.in-Some.ensures.steps ∙ ap (λ (w : List ℕ). (w, c.in-Some.tree.now) ∷ spelled c.next.new.self) (sym c.as_slice.ensures.value) in
    record {
      taken =
          past_word g.S.Sink.takes g.S.Sink.more c.args.global c.as_slice.result.now c.in-Some.tree.now (spelled c.loop-word.word-iterator) (spelled c.next.new.self) c.args.sink.now
          c.loop-word.sink c.walk.new.sink _ c.loop-word.invariant.taken next c.in_ok-walk.ensures.taken;
      closed = λ t at.
          c.loop-word.invariant.closed t (closes_behind g.S.Sink.closes g.S.Sink.takes g.S.Sink.closed c.loop-word.sink c.walk.new.sink t
          (of_word c.args.global c.as_slice.result.now c.in-Some.tree.now) (of_kind c.args.global (spelled c.next.new.self)) _ (ap (of_kind c.args.global) (sym next)) c.in_ok-walk.ensures.taken at);
    }

pub returns-in_err-walk-clause-closed : goal.returns-in_err-walk-clause-closed
returns-in_err-walk-clause-closed g c =
    let next : spelled c.loop-word.word-iterator ≡ (c.as_slice.result.now, c.in-Some.tree.now) ∷ spelled c.next.new.self =
    ap spelled c.in-Some.ensures.steps ∙ ap (λ (w : List ℕ). (w, c.in-Some.tree.now) ∷ spelled c.next.new.self) (sym c.as_slice.ensures.value) in
    let whole : spelled c.into_iter-word-iterator.result ≡ spelled c.args.words.now.entries = search rules in
    subst (λ (ks : Words). IfErr c.from_residual.result (StopsSo g.S.Sink.closes c.args.sink.now (of_kind c.args.global ks) c.walk.new.sink)) whole
    (told_on g.S.Sink.closes c.args.sink.now c.walk.new.sink _ c.from_residual.result c.in_err-walk.field-0.0 c.from_residual.ensures.1
    (λ is. c.loop-word.invariant.closed c.walk.new.sink (closes_before g.S.Sink.closes c.loop-word.sink c.walk.new.sink
    (of_word c.args.global c.as_slice.result.now c.in-Some.tree.now) (of_kind c.args.global (spelled c.next.new.self)) _ (ap (of_kind c.args.global) (sym next)) (c.in_err-walk.ensures.closed is))))
