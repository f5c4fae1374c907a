use Rattle.std.proofs.Common.{◌++◌, ℕ, List, [], ◌∷◌, refl, ap, sym}
use Rattle.mj_ast.specs.declared.sign.Sign.TheVariants.{Close}
use Rattle.mj_ast.specs.Tokens.{Signed}
use Rattle.mj_ast.specs.Commands.{Put, with_commas, name_parts}
use Rattle.mj_lex.specs.Seen.{tokens_seen}
use Rattle.mj_line.specs.Forms.{RestoredOpens, RestoredWanted, RestoredEnd}
use Rattle.mj_cmd.specs.Parts.{Restoring}
use Rattle.mj_cmd.proofs.Follow.{went_as, went_token}
use Rattle.mj_cmd.proofs.Restarts.{first_same, reads_same}
use Rattle.mj_cmd.proofs.restart.restored_names.Goals as goal

pub returns-in-None-clause-reads : goal.returns-in-None-clause-reads
returns-in-None-clause-reads c = λ m o condition k done.
    reads_same c.args.phrases.limited (λ x. with_commas name_parts x.0.items ++ Put Close ∷
    []) (λ x. x.1.now) c.names.result m RestoredOpens RestoredWanted RestoredEnd c.args.tokens.now o condition k done
    (first_same m (tokens_seen c.args.tokens.now) c.in-None.ensures)
    (c.names.ensures.reads m Restoring o condition k done)

pub returns-in-Some-clause-reads : goal.returns-in-Some-clause-reads
returns-in-Some-clause-reads c = λ m o condition k done.
    went_as c.args.phrases.limited (Put Close ∷ []) (with_commas name_parts c.new.result.items ++ Put Close ∷ []) m c.args.tokens.now RestoredOpens c.in-Some.behind.now RestoredEnd o condition k done
    (ap (λ (ws : List (List ℕ)). with_commas name_parts ws ++ Put Close ∷ []) (sym c.new.ensures.items))
    (went_token c.args.phrases.limited (Signed Close) (Put Close) m c.args.tokens.now RestoredOpens c.in-Some.behind.now RestoredEnd o condition k done c.in-Some.ensures.0 refl refl)
