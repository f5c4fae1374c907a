use Rattle.std.proofs.Common.{[], ◌∷◌, refl, inl, option_map}
use Rattle.mj_ast.specs.Commands.{Text, wait_parts}
use Rattle.mj_ast.specs.Trees.{expr_of}
use Rattle.mj_lex.specs.Seen.{tokens_seen}
use Rattle.mj_line.specs.Forms.{DeviceWanted, DeviceEnd, DeviceWaited, AnExpr}
use Rattle.mj_line.specs.Machine.{Argument}
use Rattle.mj_cmd.proofs.Follow.{reads_err, room_for, went_then, went_text, fails_then, fails_enter}
use Rattle.mj_cmd.proofs.Layouts.{device_untaken}
use Rattle.mj_cmd.proofs.device.opened.Goals as goal

pub returns-in_err-device-clause-reads : goal.returns-in_err-device-clause-reads
returns-in_err-device-clause-reads c = λ m r o condition k done.
    reads_err c.args.phrases.limited _ _ c.from_residual.result c.in_err-device.field-0.0 m c.args.tokens.now _ _ c.from_residual.ensures.1
    (fails_enter c.args.phrases.limited c.in_err-device.field-0.0 m c.args.tokens.now DeviceWanted (AnExpr 0 DeviceEnd) o condition k done tt refl
    (device_untaken (tokens_seen c.args.tokens.now)) (inl refl) (c.in_err-device.ensures.reads m r (Argument o condition k done (AnExpr 0 DeviceEnd)) refl refl))

pub returns-in-Err-clause-reads : goal.returns-in-Err-clause-reads
returns-in-Err-clause-reads c = λ m r o condition k done.
    fails_then c.args.phrases.limited (Text 0 (expr_of c.in_ok-device.device) ∷
    []) c.in-Err.stop m c.args.tokens.now DeviceWanted c.in_ok-device.rest.now DeviceEnd o condition k done
    (went_text c.args.phrases.limited 0 (expr_of c.in_ok-device.device) m c.args.tokens.now DeviceWanted c.in_ok-device.rest.now DeviceEnd o condition k
    done refl (device_untaken (tokens_seen c.args.tokens.now)) (inl refl)
    (c.in_ok-device.ensures.reads m r (Argument o condition k done (AnExpr 0 DeviceEnd)) refl refl))
    (λ d. c.in-Err.ensures.reads m (room_for c.args.phrases.limited m c.args.tokens.now c.in_ok-device.rest.now c.in_ok-device.ensures.shorter r) o condition k d)

pub returns-in-Ok-clause-reads : goal.returns-in-Ok-clause-reads
returns-in-Ok-clause-reads c = λ m r o condition k done.
    went_then c.args.phrases.limited (Text 0 (expr_of c.in_ok-device.device) ∷
    []) (wait_parts (option_map expr_of c.in-Ok.timeout)) m c.args.tokens.now DeviceWanted c.in_ok-device.rest.now DeviceEnd c.in-Ok.rest.now DeviceWaited o
    condition k done (went_text c.args.phrases.limited 0 (expr_of c.in_ok-device.device) m c.args.tokens.now DeviceWanted c.in_ok-device.rest.now DeviceEnd
    o condition k done refl (device_untaken (tokens_seen c.args.tokens.now)) (inl refl)
    (c.in_ok-device.ensures.reads m r (Argument o condition k done (AnExpr 0 DeviceEnd)) refl refl))
    (λ d. c.in-Ok.ensures.reads m (room_for c.args.phrases.limited m c.args.tokens.now c.in_ok-device.rest.now c.in_ok-device.ensures.shorter r) o condition k d)
