use Rattle.std.proofs.Common.{[], ◌∷◌, refl}
use Rattle.mj_ast.specs.declared.sign.Sign.TheVariants.{Caret}
use Rattle.mj_ast.specs.Tokens.{Signed}
use Rattle.mj_ast.specs.Commands.{Put, Named, Label}
use Rattle.mj_lex.specs.Seen.{tokens_seen}
use Rattle.mj_line.specs.Forms.{EntryWanted, LabelEnd, RoutineWanted, RoutineEnd}
use Rattle.mj_cmd.proofs.Follow.{went_then, went_token, fails_here}
use Rattle.mj_cmd.proofs.Jumps.{went_label, went_unnamed, entry_untaken}
use Rattle.mj_cmd.proofs.control.entry.Goals as goal

pub returns-in-None-behind_caret-clause-reads : goal.returns-in-None-behind_caret-clause-reads
returns-in-None-behind_caret-clause-reads c = λ m mode first u o condition k done. fails_here c.args.phrases.limited c.stuck.result m c.args.tokens.now
    (EntryWanted mode first) o condition k done refl (entry_untaken mode first (tokens_seen c.args.tokens.now) c.in-None.ensures c.in-None-behind_caret.ensures)
    u (c.stuck.ensures c.args.phrases.limited)

pub returns-in_ok-name-in-Some-behind_caret-clause-reads : goal.returns-in_ok-name-in-Some-behind_caret-clause-reads
returns-in_ok-name-in-Some-behind_caret-clause-reads c = λ m mode first u o condition k done.
    went_then c.args.phrases.limited (Put Caret ∷ []) (Named c.in_ok-name-in-Some-behind_caret.name ∷
    []) m c.args.tokens.now (EntryWanted mode first) c.in-Some-behind_caret.behind.now (RoutineWanted mode) c.in_ok-name-in-Some-behind_caret.rest.now
    (RoutineEnd mode) o condition k done (went_token c.args.phrases.limited (Signed Caret) (Put Caret) m c.args.tokens.now (EntryWanted mode first)
    c.in-Some-behind_caret.behind.now (RoutineWanted mode) o condition k done c.in-Some-behind_caret.ensures.0 refl refl)
    (λ d. c.in_ok-name-in-Some-behind_caret.ensures.reads m mode o condition k d)

pub returns-in-None-behind_caret-2-clause-reads : goal.returns-in-None-behind_caret-2-clause-reads
returns-in-None-behind_caret-2-clause-reads c = λ m mode first u o condition k done.
    went_then c.args.phrases.limited (Label c.in_ok-label-in-Some.label ∷
    []) [] m c.args.tokens.now (EntryWanted mode first) c.in-Some.behind.now (LabelEnd mode) c.in-Some.behind.now (RoutineEnd mode) o condition k done
    (went_label c.args.phrases.limited m mode first c.args.tokens.now c.in-Some.behind.now c.in-Some.label.now c.in_ok-label-in-Some.label o condition k
    done c.in-Some.ensures.0 c.in_ok-label-in-Some.ensures.ok)
    (λ d. went_unnamed c.args.phrases.limited m mode c.in-Some.behind.now o condition k d c.in-None-behind_caret-2.ensures)

pub returns-in_ok-name-in-Some-behind_caret-2-clause-reads : goal.returns-in_ok-name-in-Some-behind_caret-2-clause-reads
returns-in_ok-name-in-Some-behind_caret-2-clause-reads c = λ m mode first u o condition k done.
    went_then c.args.phrases.limited (Label c.in_ok-label-in-Some.label ∷ []) (Put Caret ∷ Named c.in_ok-name-in-Some-behind_caret-2.name ∷
    []) m c.args.tokens.now (EntryWanted mode first) c.in-Some.behind.now (LabelEnd mode) c.in_ok-name-in-Some-behind_caret-2.rest.now (RoutineEnd mode) o
    condition k done (went_label c.args.phrases.limited m mode first c.args.tokens.now c.in-Some.behind.now c.in-Some.label.now c.in_ok-label-in-Some.label
    o condition k done c.in-Some.ensures.0 c.in_ok-label-in-Some.ensures.ok)
    (λ d. went_then c.args.phrases.limited (Put Caret ∷ []) (Named c.in_ok-name-in-Some-behind_caret-2.name ∷
    []) m c.in-Some.behind.now (LabelEnd mode) c.in-Some-behind_caret-2.behind.now (RoutineWanted mode) c.in_ok-name-in-Some-behind_caret-2.rest.now
    (RoutineEnd mode) o condition k d (went_token c.args.phrases.limited (Signed Caret) (Put Caret) m c.in-Some.behind.now (LabelEnd mode)
    c.in-Some-behind_caret-2.behind.now (RoutineWanted mode) o condition k d c.in-Some-behind_caret-2.ensures.0 refl refl)
    (λ e. c.in_ok-name-in-Some-behind_caret-2.ensures.reads m mode o condition k e))
