use Rattle.std.proofs.Common.{◌≡◌, ◌∙◌, ap, List, [], ◌∷◌, ◌++◌, refl, map, arith, true, false}
use Rattle.mj_ast.specs.declared.sign.Sign.TheVariants.{Open, Close}
use Rattle.mj_ast.specs.Tokens.{Signed}
use Rattle.mj_ast.specs.Commands.{Part, Put, with_commas, destination_parts}
use Rattle.mj_ast.specs.Trees.{destination_of}
use Rattle.mj_line.specs.Forms.{SetTarget, SetBehind}
use Rattle.mj_cmd.proofs.Follow.{reads_err, room_for, went_by, went_then, went_token, fails_then}
use Rattle.mj_cmd.specs.Lists.{AreItems}
use Rattle.mj_cmd.proofs.Lists.{items_parts}
use Rattle.mj_cmd.proofs.set.targets.Goals as goal

pub returns-in_err-destinations-in-Some-clause-reads : goal.returns-in_err-destinations-in-Some-clause-reads
returns-in_err-destinations-in-Some-clause-reads c = λ m r o condition k done.
    reads_err c.args.phrases.limited _ _ c.from_residual-in_err-destinations-in-Some.result c.in_err-destinations-in-Some.field-0.0 m c.args.tokens.now _ _
    c.from_residual-in_err-destinations-in-Some.ensures.1
    (fails_then c.args.phrases.limited (Put Open ∷ []) c.in_err-destinations-in-Some.field-0.0 m c.args.tokens.now (SetTarget false) c.in-Some.behind.now
    (SetTarget true) o condition k done (went_token c.args.phrases.limited (Signed Open) (Put Open) m c.args.tokens.now (SetTarget false)
    c.in-Some.behind.now (SetTarget true) o condition k done c.in-Some.ensures.0 refl refl)
    (λ d. c.in_err-destinations-in-Some.ensures.reads tt m (room_for c.args.phrases.limited m c.args.tokens.now c.in-Some.behind.now (omega (arith, c.in-Some.ensures.1)) r) tt o condition k d))

pub returns-in_ok-destinations-in-Some-clause-reads : goal.returns-in_ok-destinations-in-Some-clause-reads
returns-in_ok-destinations-in-Some-clause-reads c = λ m r o condition k done.
    went_then c.args.phrases.limited (Put Open ∷ []) (with_commas destination_parts (map destination_of c.in_ok-destinations-in-Some.destinations.items) ++
    Put Close ∷ []) m c.args.tokens.now (SetTarget false) c.in-Some.behind.now (SetTarget true) c.in_ok-destinations-in-Some.rest.now (SetBehind false) o
    condition k done (went_token c.args.phrases.limited (Signed Open) (Put Open) m c.args.tokens.now (SetTarget false) c.in-Some.behind.now (SetTarget true)
    o condition k done c.in-Some.ensures.0 refl refl)
    (λ d. went_by c.args.phrases.limited (λ ps. (qs : List Part) × (ps ≡ qs ++ Put Close ∷ []) ×
    AreItems (λ zs x. zs ≡ destination_parts (destination_of x)) qs c.in_ok-destinations-in-Some.destinations.items) (λ ps. ps ≡
    with_commas destination_parts (map destination_of c.in_ok-destinations-in-Some.destinations.items) ++ Put Close ∷
    []) m c.in-Some.behind.now (SetTarget true) c.in_ok-destinations-in-Some.rest.now (SetBehind false) o condition k d
    (λ ps h. h.1 ∙ ap (λ (zs : List Part). zs ++ Put Close ∷ []) (items_parts destination_of destination_parts c.in_ok-destinations-in-Some.destinations.items h.0 h.2))
    (c.in_ok-destinations-in-Some.ensures.reads tt m (room_for c.args.phrases.limited m c.args.tokens.now c.in-Some.behind.now (omega (arith, c.in-Some.ensures.1)) r) tt o condition k d))
