use Rattle.std.proofs.Common.{[], ◌∷◌, refl, inl, arith}
use Rattle.mj_ast.specs.declared.sign.Sign.TheVariants.{Colon}
use Rattle.mj_ast.specs.Tokens.{Signed}
use Rattle.mj_ast.specs.Commands.{Put, Text}
use Rattle.mj_ast.specs.Trees.{expr_of}
use Rattle.mj_lex.specs.Seen.{tokens_seen}
use Rattle.mj_line.specs.Forms.{DeviceEnd, DeviceColon, DeviceTimed, DeviceWaited, AnExpr}
use Rattle.mj_line.specs.Machine.{Argument}
use Rattle.mj_cmd.proofs.Follow.{reads_err, room_for, went_then, went_token, went_text, fails_then, fails_enter, fails_here}
use Rattle.mj_cmd.proofs.Layouts.{went_unwaited, device_timed_untaken, device_colon_untaken}
use Rattle.mj_cmd.proofs.device.wait.Goals as goal

pub returns-in-None-clause-reads : goal.returns-in-None-clause-reads
returns-in-None-clause-reads c = λ m r o condition k done. went_unwaited c.args.phrases.limited m c.args.tokens.now o condition k done c.in-None.ensures

pub returns-in-None-behind_colon-clause-reads : goal.returns-in-None-behind_colon-clause-reads
returns-in-None-behind_colon-clause-reads c = λ m r o condition k done.
    fails_then c.args.phrases.limited (Put Colon ∷ []) c.stuck.result m c.args.tokens.now DeviceEnd c.in-Some.behind.now DeviceColon o condition k done
    (went_token c.args.phrases.limited (Signed Colon) (Put Colon) m c.args.tokens.now DeviceEnd c.in-Some.behind.now DeviceColon o condition k done
    c.in-Some.ensures.0 refl refl)
    (λ d. fails_here c.args.phrases.limited c.stuck.result m c.in-Some.behind.now DeviceColon o condition k d refl
    (device_colon_untaken (tokens_seen c.in-Some.behind.now) c.in-None-behind_colon.ensures) (inl refl) (c.stuck.ensures c.args.phrases.limited))

pub returns-in_err-timeout-in-Some-behind_colon-clause-reads : goal.returns-in_err-timeout-in-Some-behind_colon-clause-reads
returns-in_err-timeout-in-Some-behind_colon-clause-reads c = λ m r o condition k done.
    reads_err c.args.phrases.limited _ _ c.from_residual.result c.in_err-timeout-in-Some-behind_colon.field-0.0 m c.args.tokens.now _ _ c.from_residual.ensures.1
    (fails_then c.args.phrases.limited (Put Colon ∷ []) c.in_err-timeout-in-Some-behind_colon.field-0.0 m c.args.tokens.now DeviceEnd c.in-Some.behind.now
    DeviceColon o condition k done (went_token c.args.phrases.limited (Signed Colon) (Put Colon) m c.args.tokens.now DeviceEnd c.in-Some.behind.now
    DeviceColon o condition k done c.in-Some.ensures.0 refl refl)
    (λ d. fails_then c.args.phrases.limited (Put Colon ∷ []) c.in_err-timeout-in-Some-behind_colon.field-0.0 m c.in-Some.behind.now DeviceColon
    c.in-Some-behind_colon.behind.now DeviceTimed o condition k d
    (went_token c.args.phrases.limited (Signed Colon) (Put Colon) m c.in-Some.behind.now DeviceColon c.in-Some-behind_colon.behind.now DeviceTimed o
    condition k d c.in-Some-behind_colon.ensures.0 refl refl)
    (λ e. fails_enter c.args.phrases.limited c.in_err-timeout-in-Some-behind_colon.field-0.0 m c.in-Some-behind_colon.behind.now DeviceTimed
    (AnExpr 0 DeviceWaited) o condition k e tt refl (device_timed_untaken (tokens_seen c.in-Some-behind_colon.behind.now)) (inl refl)
    (c.in_err-timeout-in-Some-behind_colon.ensures.reads m (room_for c.args.phrases.limited m c.args.tokens.now c.in-Some-behind_colon.behind.now
    (omega (arith, c.in-Some.ensures.1, c.in-Some-behind_colon.ensures.1)) r) (Argument o condition k e (AnExpr 0 DeviceWaited)) refl refl))))

pub returns-in_ok-timeout-in-Some-behind_colon-clause-reads : goal.returns-in_ok-timeout-in-Some-behind_colon-clause-reads
returns-in_ok-timeout-in-Some-behind_colon-clause-reads c = λ m r o condition k done.
    went_then c.args.phrases.limited (Put Colon ∷ []) (Put Colon ∷ Text 0 (expr_of c.in_ok-timeout-in-Some-behind_colon.timeout) ∷
    []) m c.args.tokens.now DeviceEnd c.in-Some.behind.now DeviceColon c.in_ok-timeout-in-Some-behind_colon.rest.now DeviceWaited o condition k done
    (went_token c.args.phrases.limited (Signed Colon) (Put Colon) m c.args.tokens.now DeviceEnd c.in-Some.behind.now DeviceColon o condition k done
    c.in-Some.ensures.0 refl refl)
    (λ d. went_then c.args.phrases.limited (Put Colon ∷ []) (Text 0 (expr_of c.in_ok-timeout-in-Some-behind_colon.timeout) ∷
    []) m c.in-Some.behind.now DeviceColon c.in-Some-behind_colon.behind.now DeviceTimed c.in_ok-timeout-in-Some-behind_colon.rest.now DeviceWaited o
    condition k d (went_token c.args.phrases.limited (Signed Colon) (Put Colon) m c.in-Some.behind.now DeviceColon c.in-Some-behind_colon.behind.now
    DeviceTimed o condition k d c.in-Some-behind_colon.ensures.0 refl refl)
    (λ e. went_text c.args.phrases.limited 0 (expr_of c.in_ok-timeout-in-Some-behind_colon.timeout) m c.in-Some-behind_colon.behind.now DeviceTimed
    c.in_ok-timeout-in-Some-behind_colon.rest.now DeviceWaited o condition k e refl (device_timed_untaken (tokens_seen c.in-Some-behind_colon.behind.now))
    (inl refl) (c.in_ok-timeout-in-Some-behind_colon.ensures.reads m
    (room_for c.args.phrases.limited m c.args.tokens.now c.in-Some-behind_colon.behind.now
    (omega (arith, c.in-Some.ensures.1, c.in-Some-behind_colon.ensures.1)) r) (Argument o condition k e (AnExpr 0 DeviceWaited)) refl refl)))
