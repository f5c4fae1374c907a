use Rattle.std.proofs.Common.{◌≡◌, ◌∙◌, List, [], ◌∷◌, ◌++◌, refl, ap, arith, map}
use Rattle.std.proofs.lemmas.List.{length-map}
use Rattle.mj_ast.specs.declared.sign.Sign.TheVariants.{Open, Close}
use Rattle.mj_ast.specs.Tokens.{Signed}
use Rattle.mj_ast.specs.Commands.{Part, Put, with_commas, actual_parts}
use Rattle.mj_ast.specs.Trees.{option_of}
use Rattle.mj_line.specs.Forms.{RoutineEnd, ActualWanted, ActualsEnd}
use Rattle.mj_cmd.specs.Lists.{AreItems}
use Rattle.mj_cmd.specs.Reads.{AreWrittenActuals}
use Rattle.mj_cmd.proofs.Lists.{items_parts}
use Rattle.mj_cmd.proofs.Follow.{reads_as_err, room_for, went_then, went_token, went_by, fails_then}
use Rattle.mj_cmd.proofs.Jumps.{unpassed, actuals_written}
use Rattle.mj_cmd.proofs.call.passed.Goals as goal

pub returns-in-None-clause-reads : goal.returns-in-None-clause-reads
returns-in-None-clause-reads c = λ m r mode e o condition k done. unpassed c.args.phrases.limited m mode c.args.tokens.now _ o condition k done
    c.in-None.ensures (ap (map option_of) c.new.ensures.items)

pub returns-in_err-actuals-in-Some-clause-reads : goal.returns-in_err-actuals-in-Some-clause-reads
returns-in_err-actuals-in-Some-clause-reads c = λ m r mode e o condition k done.
    reads_as_err c.args.phrases.limited _ _ c.from_residual.result c.in_err-actuals-in-Some.field-0.0 m c.args.tokens.now _ _ c.from_residual.ensures.1
    (fails_then c.args.phrases.limited (Put Open ∷ []) c.in_err-actuals-in-Some.field-0.0 m c.args.tokens.now (RoutineEnd mode) c.in-Some.behind.now
    (ActualWanted mode) o condition k done (went_token c.args.phrases.limited (Signed Open) (Put Open) m c.args.tokens.now (RoutineEnd mode)
    c.in-Some.behind.now (ActualWanted mode) o condition k done c.in-Some.ensures.0 refl e)
    (λ d. c.in_err-actuals-in-Some.ensures.reads mode m (room_for c.args.phrases.limited m c.args.tokens.now c.in-Some.behind.now (omega (arith, c.in-Some.ensures.1)) r) tt o condition k d))

pub returns-in_ok-actuals-in-Some-clause-reads : goal.returns-in_ok-actuals-in-Some-clause-reads
returns-in_ok-actuals-in-Some-clause-reads c = λ m r mode e o condition k done.
    let n = length-map c.in_ok-actuals-in-Some.actuals.items option_of in
    let s = c.in_ok-actuals-in-Some.ensures.some in
    went_by c.args.phrases.limited (λ ps. ps ≡ Put Open ∷ (with_commas actual_parts (map option_of c.in_ok-actuals-in-Some.actuals.items) ++
    Put Close ∷ [])) (λ ps. AreWrittenActuals ps (map option_of c.plain_actuals.result.items)) m c.args.tokens.now (RoutineEnd mode)
    c.in_ok-actuals-in-Some.rest.now (ActualsEnd mode) o condition k done
    (λ ps z. actuals_written ps (map option_of c.in_ok-actuals-in-Some.actuals.items) (map option_of c.plain_actuals.result.items) (omega arith) c.plain_actuals.ensures z)
    (went_then c.args.phrases.limited (Put Open ∷ []) (with_commas actual_parts (map option_of c.in_ok-actuals-in-Some.actuals.items) ++ Put Close ∷
    []) m c.args.tokens.now (RoutineEnd mode) c.in-Some.behind.now (ActualWanted mode) c.in_ok-actuals-in-Some.rest.now (ActualsEnd mode) o condition k done
    (went_token c.args.phrases.limited (Signed Open) (Put Open) m c.args.tokens.now (RoutineEnd mode) c.in-Some.behind.now (ActualWanted mode) o condition k
    done c.in-Some.ensures.0 refl e)
    (λ d. went_by c.args.phrases.limited (λ ps. (qs : List Part) × (ps ≡ qs ++ Put Close ∷ []) ×
    AreItems (λ zs x. zs ≡ actual_parts (option_of x)) qs c.in_ok-actuals-in-Some.actuals.items) (λ ps. ps ≡
    with_commas actual_parts (map option_of c.in_ok-actuals-in-Some.actuals.items) ++ Put Close ∷
    []) m c.in-Some.behind.now (ActualWanted mode) c.in_ok-actuals-in-Some.rest.now (ActualsEnd mode) o condition k d
    (λ ps h. h.1 ∙ ap (λ (zs : List Part). zs ++ Put Close ∷ []) (items_parts option_of actual_parts c.in_ok-actuals-in-Some.actuals.items h.0 h.2))
    (c.in_ok-actuals-in-Some.ensures.reads mode m (room_for c.args.phrases.limited m c.args.tokens.now c.in-Some.behind.now (omega (arith, c.in-Some.ensures.1)) r) tt o condition k d)))
