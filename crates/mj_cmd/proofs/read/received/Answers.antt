use Rattle.std.proofs.Common.{[], ◌∷◌, refl, arith, option_map}
use Rattle.mj_ast.specs.Commands.{Place, guard_parts, read_mode_parts}
use Rattle.mj_ast.specs.Trees.{expr_of, variable_of}
use Rattle.mj_lex.specs.Seen.{tokens_seen}
use Rattle.mj_line.specs.Forms.{IntoEnd, OutputEnd, OutputWanted, Reads, AVar}
use Rattle.mj_line.specs.Machine.{Argument}
use Rattle.mj_cmd.specs.Parts.{read_node}
use Rattle.mj_cmd.proofs.Follow.{reads_err, room_for, went_then, went_place, fails_then, fails_enter}
use Rattle.mj_cmd.proofs.Layouts.{into_unended, into_untaken, into_wanted, went_into}
use Rattle.mj_cmd.proofs.read.received.Goals as goal

pub returns-in_err-variable-clause-reads : goal.returns-in_err-variable-clause-reads
returns-in_err-variable-clause-reads c = λ m r h i j o condition k done.
    let mode = c.read_mode-mode.result.0 in
    let rest = c.read_mode-mode.result.1.now in
    let s = c.read_mode-mode.ensures in
    reads_err c.args.phrases.limited _ _ c.from_residual.result c.in_err-variable.field-0.0 m c.args.tokens.now _ _ c.from_residual.ensures.1
    (fails_then c.args.phrases.limited (read_mode_parts mode) c.in_err-variable.field-0.0 m c.args.tokens.now (OutputWanted Reads) rest (read_node mode) o
    condition k done (went_into c.args.phrases.limited m c.args.tokens.now rest mode o condition k done s.spelled)
    (λ d. fails_enter c.args.phrases.limited c.in_err-variable.field-0.0 m rest (read_node mode) (AVar 0 IntoEnd) o condition k d tt (into_wanted mode)
    (into_untaken mode (tokens_seen c.args.tokens.now) (tokens_seen rest) s.spelled s.into h i j) (into_unended mode (tokens_seen rest))
    (c.in_err-variable.ensures.reads m (room_for c.args.phrases.limited m c.args.tokens.now rest s.shorter r) (Argument o condition k d (AVar 0 IntoEnd))
    refl refl)))

pub returns-in-Err-clause-reads : goal.returns-in-Err-clause-reads
returns-in-Err-clause-reads c = λ m r h i j o condition k done.
    let mode = c.read_mode-mode.result.0 in
    let rest = c.read_mode-mode.result.1.now in
    let s = c.read_mode-mode.ensures in
    fails_then c.args.phrases.limited (read_mode_parts mode) c.in-Err.stop m c.args.tokens.now (OutputWanted Reads) rest (read_node mode) o condition k done
    (went_into c.args.phrases.limited m c.args.tokens.now rest mode o condition k done s.spelled)
    (λ d. fails_then c.args.phrases.limited (Place 0 (variable_of c.in_ok-variable.variable) ∷
    []) c.in-Err.stop m rest (read_node mode) c.in_ok-variable.rest.now IntoEnd o condition k d
    (went_place c.args.phrases.limited 0 (variable_of c.in_ok-variable.variable) m rest (read_node mode) c.in_ok-variable.rest.now IntoEnd o condition k d
    (into_wanted mode) (into_untaken mode (tokens_seen c.args.tokens.now) (tokens_seen rest) s.spelled s.into h i j) (into_unended mode (tokens_seen rest))
    (c.in_ok-variable.ensures.reads m (room_for c.args.phrases.limited m c.args.tokens.now rest s.shorter r) (Argument o condition k d (AVar 0 IntoEnd)) refl refl))
    (λ e. c.in-Err.ensures.reads m (room_for c.args.phrases.limited m c.args.tokens.now c.in_ok-variable.rest.now (omega (arith, s.shorter, c.in_ok-variable.ensures.shorter)) r) o condition k e))

pub returns-in-Ok-clause-reads : goal.returns-in-Ok-clause-reads
returns-in-Ok-clause-reads c = λ m r h i j o condition k done.
    let mode = c.read_mode-mode.result.0 in
    let rest = c.read_mode-mode.result.1.now in
    let s = c.read_mode-mode.ensures in
    went_then c.args.phrases.limited (read_mode_parts mode) (Place 0 (variable_of c.in_ok-variable.variable) ∷
    guard_parts (option_map expr_of c.in-Ok.timeout)) m c.args.tokens.now (OutputWanted Reads) rest (read_node mode) c.in-Ok.rest.now (OutputEnd Reads) o
    condition k done (went_into c.args.phrases.limited m c.args.tokens.now rest mode o condition k done s.spelled)
    (λ d. went_then c.args.phrases.limited (Place 0 (variable_of c.in_ok-variable.variable) ∷
    []) (guard_parts (option_map expr_of c.in-Ok.timeout)) m rest (read_node mode) c.in_ok-variable.rest.now IntoEnd c.in-Ok.rest.now (OutputEnd Reads) o
    condition k d (went_place c.args.phrases.limited 0 (variable_of c.in_ok-variable.variable) m rest (read_node mode) c.in_ok-variable.rest.now IntoEnd o
    condition k d (into_wanted mode) (into_untaken mode (tokens_seen c.args.tokens.now) (tokens_seen rest) s.spelled s.into h i j)
    (into_unended mode (tokens_seen rest)) (c.in_ok-variable.ensures.reads m (room_for c.args.phrases.limited m c.args.tokens.now rest s.shorter r)
    (Argument o condition k d (AVar 0 IntoEnd)) refl refl))
    (λ e. c.in-Ok.ensures.reads m (room_for c.args.phrases.limited m c.args.tokens.now c.in_ok-variable.rest.now (omega (arith, s.shorter, c.in_ok-variable.ensures.shorter)) r) o condition k e))
