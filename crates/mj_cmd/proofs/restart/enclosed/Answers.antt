use Rattle.std.proofs.Common.{[], ◌∷◌, refl, inl}
use Rattle.mj_ast.specs.declared.sign.Sign.TheVariants.{Close}
use Rattle.mj_ast.specs.Tokens.{Signed}
use Rattle.mj_ast.specs.Commands.{Put, SerialWord}
use Rattle.mj_lex.specs.Seen.{tokens_seen}
use Rattle.mj_line.specs.Forms.{SerialInside, SerialBehind, SerialEnd}
use Rattle.mj_cmd.proofs.Follow.{went_then, went_token, fails_then, fails_here}
use Rattle.mj_cmd.proofs.Restarts.{inside_untaken, behind_untaken, went_serial}
use Rattle.mj_cmd.proofs.restart.enclosed.Goals as goal

pub returns-in-None-clause-reads : goal.returns-in-None-clause-reads
returns-in-None-clause-reads c = λ limited m o condition k done. fails_here limited c.stuck.result m c.args.tokens.now SerialInside o condition k done refl
    (inside_untaken (tokens_seen c.args.tokens.now) c.in-None.ensures) (inl refl) (c.stuck.ensures limited)

pub returns-in-None-behind_close-clause-reads : goal.returns-in-None-behind_close-clause-reads
returns-in-None-behind_close-clause-reads c = λ limited m o condition k done.
    fails_then limited (SerialWord ∷ []) c.stuck-in-None-behind_close.result m c.args.tokens.now SerialInside c.in-Some.behind.now SerialBehind o condition k
    done (went_serial limited m SerialInside SerialBehind c.args.tokens.now c.in-Some.behind.now c.in-Some.ensures.0 o condition k done refl refl
    c.in-Some.ensures.1 c.in-Some.ensures.2)
    (λ d. fails_here limited c.stuck-in-None-behind_close.result m c.in-Some.behind.now SerialBehind o condition k d refl
    (behind_untaken (tokens_seen c.in-Some.behind.now) c.in-None-behind_close.ensures) (inl refl) (c.stuck-in-None-behind_close.ensures limited))

pub returns-in-Some-behind_close-clause-reads : goal.returns-in-Some-behind_close-clause-reads
returns-in-Some-behind_close-clause-reads c = λ limited m o condition k done.
    went_then limited (SerialWord ∷ []) (Put Close ∷ []) m c.args.tokens.now SerialInside c.in-Some.behind.now SerialBehind c.in-Some-behind_close.rest.now
    SerialEnd o condition k done (went_serial limited m SerialInside SerialBehind c.args.tokens.now c.in-Some.behind.now c.in-Some.ensures.0 o condition k
    done refl refl c.in-Some.ensures.1 c.in-Some.ensures.2)
    (λ d. went_token limited (Signed Close) (Put Close) m c.in-Some.behind.now SerialBehind c.in-Some-behind_close.rest.now SerialEnd o condition k d c.in-Some-behind_close.ensures.0 refl refl)
