use Rattle.std.proofs.Common.{◌∙◌, List, [], ◌∷◌, ◌++◌, ℕ, refl, ap, sym, arith, true}
use Rattle.mj_lex.specs.Seen.{tokens_seen}
use Rattle.mj_line.specs.Machine.{At, FormalBehind, FormalWanted, run}
use Rattle.mj_cmd.proofs.Follow.{reads_err, refuses_from}
use Rattle.mj_cmd.proofs.Front.{unclosed, comma_goes}
use Rattle.mj_cmd.proofs.formals.names.Goals as goal

pub returns-in_err-first-in-None-clause-reads : goal.returns-in_err-first-in-None-clause-reads
returns-in_err-first-in-None-clause-reads c = λ m limited label.
    reads_err limited _ _ c.from_residual.result c.in_err-first-in-None.field-0.0 m c.args.tokens.now _ _ c.from_residual.ensures.1
    (refuses_from limited c.in_err-first-in-None.field-0.0 _ _
    (unclosed m label (tokens_seen c.args.tokens.now) c.in-None.ensures
    ∙ ap (λ (xs : List (List ℕ)). run m (tokens_seen c.args.tokens.now) (At (FormalWanted label xs))) (sym (c.deref.ensures.value ∙ c.new-names.ensures.items)))
    (c.in_err-first-in-None.ensures.reads m limited label))

pub commas-init : goal.commas-init
commas-init c = record {
  goes = λ m label.
      let h = c.in_ok-first-in-None.ensures.reads m true label in
      unclosed m label (tokens_seen c.args.tokens.now) c.in-None.ensures
      ∙ ap (λ (xs : List (List ℕ)). run m (tokens_seen c.args.tokens.now) (At (FormalWanted label xs))) (sym (c.deref.ensures.value ∙ c.new-names.ensures.items))
      ∙ h.2
      ∙ ap (λ (xs : List (List ℕ)). run m (tokens_seen c.in_ok-first-in-None.rest.now) (At (FormalBehind label xs))) (h.1 refl ∙
      ap (λ (xs : List (List ℕ)). xs ++ c.in_ok-first-in-None.first ∷ []) c.deref.ensures.value ∙ sym c.in_ok-added-in-None.ensures);
  falls = c.in_ok-first-in-None.ensures.shorter;
}

pub commas-preserved : goal.commas-preserved
commas-preserved c = record {
  goes = λ m label.
      let h = c.in_ok-name-in-None.ensures.reads m true label in
      c.commas.invariant.goes m label
      ∙ comma_goes m label c.commas.names.items (tokens_seen c.commas.rest.now) (tokens_seen c.in-Some-behind_comma.behind.now) c.in-Some-behind_comma.ensures.0
      ∙ ap (λ (xs : List (List ℕ)). run m (tokens_seen c.in-Some-behind_comma.behind.now) (At (FormalWanted label xs))) (sym c.deref-in-Some-behind_comma.ensures.value)
      ∙ h.2
      ∙ ap (λ (xs : List (List ℕ)). run m (tokens_seen c.in_ok-name-in-None.behind.now) (At (FormalBehind label xs))) (h.1 refl ∙
      ap (λ (xs : List (List ℕ)). xs ++ c.in_ok-name-in-None.name ∷ []) c.deref-in-Some-behind_comma.ensures.value ∙ sym c.in_ok-added-in-None-2.ensures);
  falls = omega (arith, c.in_ok-name-in-None.ensures.shorter, c.in-Some-behind_comma.ensures.1, c.commas.invariant.falls);
}
