use Rattle.std.proofs.Common.{◌≡◌, ◌≤◌, ◌<◌, ◌∙◌, IfOk, List, ℕ, inl, false, length, subst, sym}
use Rattle.std.specs.List.{list_any}
use Rattle.mj_text.specs.declared.text.TheConstants.{TEXT_LIMIT}
use Rattle.mj_lex.specs.Seen.{is_quote}
use Rattle.mj_lex.proofs.Quotes.{undoubled-plain}
use Rattle.mj_lex.proofs.token.unquoted.Goals as goal

pub returns-then-not-has_quote-clause-ok : goal.returns-then-not-has_quote-clause-ok
returns-then-not-has_quote-clause-ok c =
    let none : list_any is_quote c.args.bytes.now ≡ false = sym c.has_quote.ensures ∙ c.if-not-has_quote.true in
    subst (λ (bs : List ℕ). IfOk c.from.result (λ t. t ≡ bs)) (sym (undoubled-plain c.args.bytes.now none)) c.from.ensures.ok

pub returns-then-not-has_quote-clause-long : goal.returns-then-not-has_quote-clause-long
returns-then-not-has_quote-clause-long c = λ is.
    let none : list_any is_quote c.args.bytes.now ≡ false = sym c.has_quote.ensures ∙ c.if-not-has_quote.true in
    subst (λ (bs : List ℕ). TEXT_LIMIT < length bs) (sym (undoubled-plain c.args.bytes.now none)) (c.from.ensures.long.0 is)

pub returns-then-not-has_quote-clause-within : goal.returns-then-not-has_quote-clause-within
returns-then-not-has_quote-clause-within c = λ few.
    let none : list_any is_quote c.args.bytes.now ≡ false = sym c.has_quote.ensures ∙ c.if-not-has_quote.true in
    c.from.ensures.within (subst (λ (bs : List ℕ). length bs ≤ TEXT_LIMIT) (undoubled-plain c.args.bytes.now none) few)

pub returns-then-not-has_quote-clause-above : goal.returns-then-not-has_quote-clause-above
returns-then-not-has_quote-clause-above c = λ many.
    let none : list_any is_quote c.args.bytes.now ≡ false = sym c.has_quote.ensures ∙ c.if-not-has_quote.true in
    inl (c.from.ensures.long.1 (subst (λ (bs : List ℕ). TEXT_LIMIT < length bs) (undoubled-plain c.args.bytes.now none) many))
