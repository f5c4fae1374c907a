use Rattle.std.proofs.Common.{◌∙◌, refl, [], ◌∷◌, ◌++◌, sym, ap, map, List, arith}
use Rattle.mj_ast.specs.Trees.{step_of}
use Rattle.mj_lex.specs.Seen.{tokens_seen}
use Rattle.mj_line.specs.Machine.{with_clause}
use Rattle.mj_cmd.proofs.Follow.{ends_as_err, refuses_from, room_for}
use Rattle.mj_cmd.proofs.FollowLines.{written_pushed, blanks_skip, blanks_stay, no_steps, more_steps, unknown_stuck, known_goes, with_steps}
use Rattle.mj_cmd.proofs.lines.steps.Goals as goal

pub steps-init : goal.steps-init
steps-init c = record {
  goes = λ m r o. (
    [],
    λ l. ([], refl, sym (ap (λ (xs : List _). map step_of xs) c.new-steps.ensures.items)),
    blanks_stay m o c.behind_blanks.result.0 (tokens_seen c.args.tokens.now) (tokens_seen c.behind_blanks.result.1.now) c.behind_blanks.ensures.blanks
        ∙ no_steps m o (tokens_seen c.behind_blanks.result.1.now),
  );
  bare = c.behind_blanks.ensures.none;
  falls = omega (arith, c.behind_blanks.ensures.count);
}

pub returns-in-None : goal.returns-in-None
returns-in-None c = λ m r o.
    let h = c.steps.invariant.goes m r o in
    refuses_from c.args.phrases.limited c.stuck.result _ _
    (h.2 ∙ unknown_stuck m (with_steps o h.0) (tokens_seen c.steps.rest.now) (tokens_seen c.in-Some.behind.now) c.in-Some.word.now c.in-Some.ensures.0 (sym c.verb_of.ensures ∙ c.in-None.is))
    (c.stuck.ensures c.args.phrases.limited)

pub returns-in_err-read-in-Some-verb_of : goal.returns-in_err-read-in-Some-verb_of
returns-in_err-read-in-Some-verb_of c = λ m r o.
    let h = c.steps.invariant.goes m r o in
    ends_as_err c.args.phrases.limited _ c.from_residual.result c.in_err-read-in-Some-verb_of.field-0.0 m c.args.tokens.now _ _ c.from_residual.ensures.1
    (refuses_from c.args.phrases.limited c.in_err-read-in-Some-verb_of.field-0.0 _ _
    (h.2 ∙ known_goes m (with_steps o h.0) (tokens_seen c.steps.rest.now) (tokens_seen c.in-Some.behind.now) c.in-Some.word.now c.in-Some-verb_of.verb
    c.in-Some.ensures.0 (sym c.verb_of.ensures ∙ c.in-Some-verb_of.is))
    (c.in_err-read-in-Some-verb_of.ensures.reads m (room_for c.args.phrases.limited m c.args.tokens.now c.in-Some.behind.now
    (omega (arith, c.in-Some.ensures.1, c.steps.invariant.falls)) r) (with_steps o h.0)))

pub steps-preserved : goal.steps-preserved
steps-preserved c = record {
  goes = λ m r o.
      let h = c.steps.invariant.goes m r o in
      let a = c.in_ok-read-in-Some-verb_of.ensures.reads m (room_for c.args.phrases.limited m c.args.tokens.now c.in-Some.behind.now
      (omega (arith, c.in-Some.ensures.1, c.steps.invariant.falls)) r) (with_steps o h.0) in (
        h.0 ++ a.0 ∷ [],
        λ l. written_pushed c.steps.steps.items c.added.new.list.items c.in_ok-read-in-Some-verb_of.read h.0 a.0 c.in_ok-added-in-Some-verb_of.ensures (h.1 l) (a.1 l),
        h.2
            ∙ known_goes m (with_steps o h.0) (tokens_seen c.steps.rest.now) (tokens_seen c.in-Some.behind.now) c.in-Some.word.now c.in-Some-verb_of.verb
            c.in-Some.ensures.0 (sym c.verb_of.ensures ∙ c.in-Some-verb_of.is)
            ∙ a.2
            ∙ blanks_skip m (with_clause (with_steps o h.0) a.0) c.behind_blanks-in-Some-verb_of.result.0 (tokens_seen c.in_ok-read-in-Some-verb_of.behind.now)
            (tokens_seen c.behind_blanks-in-Some-verb_of.result.1.now) c.in_ok-read-in-Some-verb_of.ensures.parted
            c.behind_blanks-in-Some-verb_of.ensures.none c.behind_blanks-in-Some-verb_of.ensures.blanks
            ∙ more_steps m o h.0 a.0 (tokens_seen c.behind_blanks-in-Some-verb_of.result.1.now),
      );
  bare = c.behind_blanks-in-Some-verb_of.ensures.none;
  falls = omega (arith, c.behind_blanks-in-Some-verb_of.ensures.count, c.in_ok-read-in-Some-verb_of.ensures.shorter, c.in-Some.ensures.1, c.steps.invariant.falls);
}

pub returns-in-Ok : goal.returns-in-Ok
returns-in-Ok c = λ m r o.
    let h = c.steps.invariant.goes m r o in
    let e = c.in-Ok.ensures m c.args.phrases.limited (with_steps o h.0) in
    (h.0, h.1, h.2 ∙ e.2)

pub returns-in-Err : goal.returns-in-Err
returns-in-Err c = λ m r o.
    let h = c.steps.invariant.goes m r o in
    refuses_from c.args.phrases.limited c.in-Err.stop _ _ h.2 (c.in-Err.ensures m c.args.phrases.limited (with_steps o h.0))
