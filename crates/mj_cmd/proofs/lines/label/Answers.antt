use Rattle.std.proofs.Common.{◌∙◌, ◌∷◌, Some, refl, ap, arith}
use Rattle.mj_lex.specs.declared.token.Token as kept
use Rattle.mj_lex.specs.Seen.{token_seen, tokens_seen}
use Rattle.mj_cmd.proofs.Front.{label_word, label_digits}
use Rattle.mj_cmd.proofs.lines.label.Goals as goal

pub returns-in_ok-text-in-Word-clause-reads : goal.returns-in_ok-text-in-Word-clause-reads
returns-in_ok-text-in-Word-clause-reads c = λ m limited. (
  Some c.in_ok-text-in-Word.text,
  λ e. refl,
  label_word m (tokens_seen c.args.tokens.now) (tokens_seen c.in-Some.rest.now) c.in-Word.word.now c.in_ok-text-in-Word.text
      (c.in-Some.ensures.seen ∙ ap (λ (t : kept.Token). token_seen t ∷ tokens_seen c.in-Some.rest.now) c.in-Word.is) (omega arith) c.in_ok-text-in-Word.ensures.ok,
)

pub returns-in_ok-text-in-Digits-clause-reads : goal.returns-in_ok-text-in-Digits-clause-reads
returns-in_ok-text-in-Digits-clause-reads c = λ m limited. (
  Some c.in_ok-text-in-Digits.text,
  λ e. refl,
  label_digits m (tokens_seen c.args.tokens.now) (tokens_seen c.in-Some.rest.now) c.in-Digits.digits.now c.in_ok-text-in-Digits.text
      (c.in-Some.ensures.seen ∙ ap (λ (t : kept.Token). token_seen t ∷ tokens_seen c.in-Some.rest.now) c.in-Digits.is) c.in_ok-text-in-Digits.ensures.ok,
)
