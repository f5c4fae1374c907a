use Rattle.std.proofs.Common.{[], ◌∷◌, refl, inl}
use Rattle.mj_ast.specs.declared.sign.Sign.TheVariants.{Colon, Open, Close}
use Rattle.mj_ast.specs.Tokens.{Signed}
use Rattle.mj_ast.specs.Commands.{Put, SerialWord}
use Rattle.mj_lex.specs.Seen.{tokens_seen}
use Rattle.mj_line.specs.Forms.{RestoredEnd, SerialWanted, SerialInside, SerialEnd}
use Rattle.mj_cmd.proofs.Follow.{reads_err, went_then, went_token, fails_then, fails_here}
use Rattle.mj_cmd.proofs.Restarts.{wanted_untaken, went_serial, went_unserial}
use Rattle.mj_cmd.proofs.restart.serial.Goals as goal

pub returns-in-None-clause-reads : goal.returns-in-None-clause-reads
returns-in-None-clause-reads c = λ limited m o condition k done. went_unserial limited m c.args.tokens.now o condition k done c.in-None.ensures

pub returns-in-Some-behind_serial-clause-reads : goal.returns-in-Some-behind_serial-clause-reads
returns-in-Some-behind_serial-clause-reads c = λ limited m o condition k done.
    went_then limited (Put Colon ∷ []) (SerialWord ∷ []) m c.args.tokens.now RestoredEnd c.in-Some.colon.now SerialWanted c.in-Some-behind_serial.rest.now
    SerialEnd o condition k done (went_token limited (Signed Colon) (Put Colon) m c.args.tokens.now RestoredEnd c.in-Some.colon.now SerialWanted o condition
    k done c.in-Some.ensures.0 refl refl)
    (λ d. went_serial limited m SerialWanted SerialEnd c.in-Some.colon.now c.in-Some-behind_serial.rest.now c.in-Some-behind_serial.ensures.0 o condition k d
    refl refl c.in-Some-behind_serial.ensures.1 c.in-Some-behind_serial.ensures.2)

pub returns-in-None-behind_open-clause-reads : goal.returns-in-None-behind_open-clause-reads
returns-in-None-behind_open-clause-reads c = λ limited m o condition k done.
    fails_then limited (Put Colon ∷ []) c.stuck.result m c.args.tokens.now RestoredEnd c.in-Some.colon.now SerialWanted o condition k done
    (went_token limited (Signed Colon) (Put Colon) m c.args.tokens.now RestoredEnd c.in-Some.colon.now SerialWanted o condition k done c.in-Some.ensures.0 refl refl)
    (λ d. fails_here limited c.stuck.result m c.in-Some.colon.now SerialWanted o condition k d refl
    (wanted_untaken (tokens_seen c.in-Some.colon.now) c.in-None-behind_serial.ensures c.in-None-behind_open.ensures) (inl refl) (c.stuck.ensures limited))

pub returns-in_err-rest-in-Some-behind_open-clause-reads : goal.returns-in_err-rest-in-Some-behind_open-clause-reads
returns-in_err-rest-in-Some-behind_open-clause-reads c = λ limited m o condition k done.
    reads_err limited _ _ c.from_residual.result c.in_err-rest-in-Some-behind_open.field-0.0 m c.args.tokens.now _ _ c.from_residual.ensures.1
    (fails_then limited (Put Colon ∷ []) c.in_err-rest-in-Some-behind_open.field-0.0 m c.args.tokens.now RestoredEnd c.in-Some.colon.now SerialWanted o
    condition k done (went_token limited (Signed Colon) (Put Colon) m c.args.tokens.now RestoredEnd c.in-Some.colon.now SerialWanted o condition k done
    c.in-Some.ensures.0 refl refl)
    (λ d. fails_then limited (Put Open ∷ []) c.in_err-rest-in-Some-behind_open.field-0.0 m c.in-Some.colon.now SerialWanted c.in-Some-behind_open.open.now
    SerialInside o condition k d (went_token limited (Signed Open) (Put Open) m c.in-Some.colon.now SerialWanted c.in-Some-behind_open.open.now SerialInside
    o condition k d c.in-Some-behind_open.ensures.0 refl refl)
    (λ e. c.in_err-rest-in-Some-behind_open.ensures.reads limited m o condition k e)))

pub returns-in_ok-rest-in-Some-behind_open-clause-reads : goal.returns-in_ok-rest-in-Some-behind_open-clause-reads
returns-in_ok-rest-in-Some-behind_open-clause-reads c = λ limited m o condition k done.
    went_then limited (Put Colon ∷ []) (Put Open ∷ SerialWord ∷ Put Close ∷
    []) m c.args.tokens.now RestoredEnd c.in-Some.colon.now SerialWanted c.in_ok-rest-in-Some-behind_open.rest.now SerialEnd o condition k done
    (went_token limited (Signed Colon) (Put Colon) m c.args.tokens.now RestoredEnd c.in-Some.colon.now SerialWanted o condition k done c.in-Some.ensures.0 refl refl)
    (λ d. went_then limited (Put Open ∷ []) (SerialWord ∷ Put Close ∷
    []) m c.in-Some.colon.now SerialWanted c.in-Some-behind_open.open.now SerialInside c.in_ok-rest-in-Some-behind_open.rest.now SerialEnd o condition k d
    (went_token limited (Signed Open) (Put Open) m c.in-Some.colon.now SerialWanted c.in-Some-behind_open.open.now SerialInside o condition k d
    c.in-Some-behind_open.ensures.0 refl refl)
    (λ e. c.in_ok-rest-in-Some-behind_open.ensures.reads limited m o condition k e))
