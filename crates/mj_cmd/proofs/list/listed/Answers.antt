use Rattle.std.proofs.Common.{◌≡◌, List, [], ◌∷◌, ◌++◌, ap}
use Rattle.mj_ast.specs.declared.sign.Sign.TheVariants.{Close}
use Rattle.mj_ast.specs.Tokens.{Signed}
use Rattle.mj_ast.specs.Commands.{Part, Put}
use Rattle.mj_lex.specs.Seen.{tokens_seen}
use Rattle.mj_line.specs.Forms.{sort_of}
use Rattle.mj_cmd.specs.Lists.{AreItems}
use Rattle.mj_cmd.proofs.Follow.{fails_behind, joined, refuses_from, sign_at, went_token}
use Rattle.mj_cmd.proofs.Lists.{unclosed_stuck}
use Rattle.mj_cmd.proofs.list.listed.Goals as goal

pub returns-in-None-clause-reads : goal.returns-in-None-clause-reads
returns-in-None-clause-reads g c = λ q m r b o condition k done.
    fails_behind c.args.phrases.limited (λ ps. AreItems g.T.Item.spells ps c.in_ok-items.items.items) c.stuck.result m c.args.tokens.now (g.T.Item.first_at q)
    c.in_ok-items.rest.now (g.T.Item.behind_at q) o condition k done (c.in_ok-items.ensures.reads q m r b o condition k done)
    (λ d. refuses_from c.args.phrases.limited c.stuck.result _ _ (unclosed_stuck m o condition k d (g.T.Item.behind_at q) (tokens_seen c.in_ok-items.rest.now)
    (g.met.T.Enclosed.unclosed q) c.in_ok-items.ensures.over c.in-None.ensures) (c.stuck.ensures c.args.phrases.limited))

pub returns-in-Some-clause-reads : goal.returns-in-Some-clause-reads
returns-in-Some-clause-reads g c = λ q m r b o condition k done.
    joined c.args.phrases.limited (λ ps. AreItems g.T.Item.spells ps c.in_ok-items.items.items) (λ ps. ps ≡ Put Close ∷ []) (λ ps. (qs : List Part) ×
    (ps ≡ qs ++ Put Close ∷ []) × AreItems g.T.Item.spells qs c.in_ok-items.items.items) m c.args.tokens.now (g.T.Item.first_at q) c.in_ok-items.rest.now
    (g.T.Item.behind_at q) c.in-Some.behind.now (g.T.Enclosed.closed_at (g.T.Item.behind_at q)) o condition k done
    (λ ps qs i j. (ps, ap (λ (zs : List Part). ps ++ zs) j, i))
    (c.in_ok-items.ensures.reads q m r b o condition k done)
    (λ d. went_token c.args.phrases.limited (Signed Close) (Put Close) m c.in_ok-items.rest.now (g.T.Item.behind_at q) c.in-Some.behind.now
    (g.T.Enclosed.closed_at (g.T.Item.behind_at q)) o condition k d c.in-Some.ensures.0 (sign_at (sort_of (g.T.Item.behind_at q)) Close)
    (g.met.T.Enclosed.close q))
