use Rattle.std.proofs.Common.{◌≡◌, ◌∙◌, ap, List, [], ◌∷◌, ◌++◌, refl, map, arith}
use Rattle.mj_ast.specs.declared.sign.Sign.TheVariants.{Open, Close}
use Rattle.mj_ast.specs.Tokens.{Signed}
use Rattle.mj_ast.specs.Commands.{Part, Put, with_commas, variable_parts}
use Rattle.mj_ast.specs.Trees.{variable_of}
use Rattle.mj_lex.specs.Seen.{tokens_seen}
use Rattle.mj_line.specs.Forms.{LockListed, LockNamed, AVar, sort_of}
use Rattle.mj_line.specs.Machine.{Argument}
use Rattle.mj_cmd.specs.Lists.{AreItems}
use Rattle.mj_cmd.specs.Parts.{lock_node}
use Rattle.mj_cmd.proofs.Follow.{reads_err, room_for, sign_at, went_by, went_then, went_token, went_place, fails_then, fails_enter}
use Rattle.mj_cmd.proofs.Lists.{items_parts}
use Rattle.mj_cmd.proofs.Locks.{names_untaken, names_unended, names_wanted, list_opens}
use Rattle.mj_cmd.proofs.lock.names.Goals as goal

pub returns-in_err-variable-in-None-clause-reads : goal.returns-in_err-variable-in-None-clause-reads
returns-in_err-variable-in-None-clause-reads c = λ m r mode first h o condition k done.
    reads_err c.args.phrases.limited _ _ c.from_residual.result c.in_err-variable-in-None.field-0.0 m c.args.tokens.now _ _ c.from_residual.ensures.1
    (fails_enter c.args.phrases.limited c.in_err-variable-in-None.field-0.0 m c.args.tokens.now (lock_node mode first) (AVar 0 LockNamed) o condition k done tt
    (names_wanted mode first) (names_untaken mode first (tokens_seen c.args.tokens.now) h c.in-None.ensures)
    (names_unended mode first (tokens_seen c.args.tokens.now) h)
    (c.in_err-variable-in-None.ensures.reads m r (Argument o condition k done (AVar 0 LockNamed)) refl refl))

pub returns-in_ok-variable-in-None-clause-reads : goal.returns-in_ok-variable-in-None-clause-reads
returns-in_ok-variable-in-None-clause-reads c = λ m r mode first h o condition k done.
    went_place c.args.phrases.limited 0 (variable_of c.in_ok-variable-in-None.variable) m c.args.tokens.now (lock_node mode first)
    c.in_ok-variable-in-None.rest.now LockNamed o condition k done (names_wanted mode first)
    (names_untaken mode first (tokens_seen c.args.tokens.now) h c.in-None.ensures) (names_unended mode first (tokens_seen c.args.tokens.now) h)
    (c.in_ok-variable-in-None.ensures.reads m r (Argument o condition k done (AVar 0 LockNamed)) refl refl)

pub returns-in_err-variables-in-Some-clause-reads : goal.returns-in_err-variables-in-Some-clause-reads
returns-in_err-variables-in-Some-clause-reads c = λ m r mode first h o condition k done.
    reads_err c.args.phrases.limited _ _ c.from_residual-in_err-variables-in-Some.result c.in_err-variables-in-Some.field-0.0 m c.args.tokens.now _ _ c.from_residual-in_err-variables-in-Some.ensures.1
    (fails_then c.args.phrases.limited (Put Open ∷ []) c.in_err-variables-in-Some.field-0.0 m c.args.tokens.now (lock_node mode first) c.in-Some.behind.now
    LockListed o condition k done (went_token c.args.phrases.limited (Signed Open) (Put Open) m c.args.tokens.now (lock_node mode first)
    c.in-Some.behind.now LockListed o condition k done c.in-Some.ensures.0 (sign_at (sort_of (lock_node mode first)) Open) (list_opens mode first))
    (λ d. c.in_err-variables-in-Some.ensures.reads tt m (room_for c.args.phrases.limited m c.args.tokens.now c.in-Some.behind.now (omega (arith, c.in-Some.ensures.1)) r) tt o condition k d))

pub returns-in_ok-variables-in-Some-clause-reads : goal.returns-in_ok-variables-in-Some-clause-reads
returns-in_ok-variables-in-Some-clause-reads c = λ m r mode first h o condition k done.
    went_then c.args.phrases.limited (Put Open ∷ []) (with_commas variable_parts (map variable_of c.in_ok-variables-in-Some.variables.items) ++ Put Close ∷
    []) m c.args.tokens.now (lock_node mode first) c.in-Some.behind.now LockListed c.in_ok-variables-in-Some.rest.now LockNamed o condition k done
    (went_token c.args.phrases.limited (Signed Open) (Put Open) m c.args.tokens.now (lock_node mode first) c.in-Some.behind.now LockListed o condition k
    done c.in-Some.ensures.0 (sign_at (sort_of (lock_node mode first)) Open) (list_opens mode first))
    (λ d. went_by c.args.phrases.limited (λ ps. (qs : List Part) × (ps ≡ qs ++ Put Close ∷ []) ×
    AreItems (λ zs x. zs ≡ variable_parts (variable_of x)) qs c.in_ok-variables-in-Some.variables.items) (λ ps. ps ≡
    with_commas variable_parts (map variable_of c.in_ok-variables-in-Some.variables.items) ++ Put Close ∷
    []) m c.in-Some.behind.now LockListed c.in_ok-variables-in-Some.rest.now LockNamed o condition k d
    (λ ps h. h.1 ∙ ap (λ (zs : List Part). zs ++ Put Close ∷ []) (items_parts variable_of variable_parts c.in_ok-variables-in-Some.variables.items h.0 h.2))
    (c.in_ok-variables-in-Some.ensures.reads tt m (room_for c.args.phrases.limited m c.args.tokens.now c.in-Some.behind.now (omega (arith, c.in-Some.ensures.1)) r) tt o condition k d))
