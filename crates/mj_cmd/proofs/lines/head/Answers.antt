use Rattle.std.proofs.Common.{◌∙◌, [], Some, Option, List, ℕ, refl, ap, sym, inl, inr, true}
use Rattle.mj_lex.specs.Seen.{tokens_seen}
use Rattle.mj_line.specs.Machine.{At, Begin, FormalsEnd, run}
use Rattle.mj_line.specs.Sentences.{Sentence}
use Rattle.mj_cmd.specs.Heads.{label_spot}
use Rattle.mj_cmd.proofs.Follow.{reads_as_err, refuses_from}
use Rattle.mj_cmd.proofs.lines.head.Goals as goal

pub returns-in_err-formals-in-Some-clause-reads : goal.returns-in_err-formals-in-Some-clause-reads
returns-in_err-formals-in-Some-clause-reads c = λ m limited.
    let h = c.in_ok-label.ensures.reads m true in
    reads_as_err limited _ _ c.from_residual-in_err-formals-in-Some.result c.in_err-formals-in-Some.field-0.0 m c.args.tokens.now _ _ c.from_residual-in_err-formals-in-Some.ensures.1
    (refuses_from limited c.in_err-formals-in-Some.field-0.0 _ _
    (h.2 ∙ ap (λ (x : Option (List ℕ)). run m (tokens_seen c.in_ok-label.rest.now) (At (label_spot x))) (h.1 refl ∙ c.in-Some.is))
    (c.in_err-formals-in-Some.ensures.reads m limited c.in-Some.label))

pub returns-in-None-clause-reads : goal.returns-in-None-clause-reads
returns-in-None-clause-reads c = λ m limited.
    let h = c.in_ok-label.ensures.reads m true in (
      Begin,
      λ e. inl (refl, ap (λ (xs : List (List ℕ)). let o : Sentence = record { label = _; formals = xs; level = 1; clauses = [] } in o) c.new.ensures.items, c.in_ok-label.ensures.none c.in-None.is),
      h.2 ∙ ap (λ (x : Option (List ℕ)). run m (tokens_seen c.in_ok-label.rest.now) (At (label_spot x))) (h.1 refl ∙ c.in-None.is),
    )

pub returns-in_ok-formals-in-Some-clause-reads : goal.returns-in_ok-formals-in-Some-clause-reads
returns-in_ok-formals-in-Some-clause-reads c = λ m limited.
    let h = c.in_ok-label.ensures.reads m true in
    let f = c.in_ok-formals-in-Some.ensures.reads m true c.in-Some.label in (
      FormalsEnd c.in-Some.label f.0,
      λ e. inr (c.in-Some.label, f.0, refl, ap (λ (xs : List (List ℕ)). let o : Sentence = record { label = Some c.in-Some.label; formals = xs; level = 1; clauses = [] } in o) (sym (f.1 refl))),
      h.2 ∙ ap (λ (x : Option (List ℕ)). run m (tokens_seen c.in_ok-label.rest.now) (At (label_spot x))) (h.1 refl ∙ c.in-Some.is) ∙ f.2,
    )
