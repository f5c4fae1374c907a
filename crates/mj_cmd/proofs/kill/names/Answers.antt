use Rattle.std.proofs.Common.{[], ◌∷◌, inl, arith}
use Rattle.mj_ast.specs.declared.sign.Sign.TheVariants.{Comma, Close}
use Rattle.mj_ast.specs.Tokens.{Signed}
use Rattle.mj_ast.specs.Commands.{Put, Named, name_parts}
use Rattle.mj_lex.specs.Seen.{tokens_seen}
use Rattle.mj_cmd.specs.Parts.{name_wanted, name_behind, name_end}
use Rattle.mj_cmd.proofs.Follow.{went_then, went_as, went_token, fails_then, fails_here, kept_length}
use Rattle.mj_cmd.proofs.Places.{went_listed, listed_untaken_name, listed_comma, listed_close, name_sign, listed_names, listed_wants, listed_ends, listed_wanted, listed_over, kept_word, kept_words}
use Rattle.mj_cmd.proofs.kill.names.Goals as goal

pub returns-in-None-clause-reads : goal.returns-in-None-clause-reads
returns-in-None-clause-reads c = λ m new o condition k done. fails_here c.args.phrases.limited c.stuck.result m c.args.tokens.now (name_wanted new) o condition
    k done (listed_wants new) (listed_untaken_name new (tokens_seen c.args.tokens.now) c.in-None.ensures) (inl (listed_ends new))
    (c.stuck.ensures c.args.phrases.limited)

pub commas-init : goal.commas-init
commas-init c = record {
  goes = λ m new o condition k done.
      went_as c.args.phrases.limited (name_parts c.in_ok-first-in-Some.first) _ m c.args.tokens.now (name_wanted new) c.in-Some.behind.now (name_behind new) o
      condition k done (kept_word c.new-names.result.items c.added.new.list.items c.in_ok-first-in-Some.first c.new-names.ensures.items
      c.in_ok-added-in-Some.ensures)
      (went_listed new c.args.phrases.limited m c.args.tokens.now c.in-Some.behind.now c.in-Some.first.now c.in_ok-first-in-Some.first o condition k done
      c.in-Some.ensures.0 c.in-Some.ensures.1 c.in_ok-first-in-Some.ensures.ok);
  some = kept_length c.new-names.result.items c.added.new.list.items c.in_ok-first-in-Some.first c.in_ok-added-in-Some.ensures;
  falls = omega (arith, c.in-Some.ensures.2);
}

pub returns-in-None-behind_name-clause-reads : goal.returns-in-None-behind_name-clause-reads
returns-in-None-behind_name-clause-reads c = λ m new o condition k done.
    fails_then c.args.phrases.limited _ c.stuck-in-None-behind_name.result m c.args.tokens.now (name_wanted new) c.commas.rest.now (name_behind new) o condition
    k done (c.commas.invariant.goes m new o condition k done)
    (λ d. fails_then c.args.phrases.limited (Put Comma ∷ []) c.stuck-in-None-behind_name.result m c.commas.rest.now (name_behind new)
    c.in-Some-behind_comma.behind.now (name_wanted new) o condition k d
    (went_token c.args.phrases.limited (Signed Comma) (Put Comma) m c.commas.rest.now (name_behind new) c.in-Some-behind_comma.behind.now (name_wanted new)
    o condition k d c.in-Some-behind_comma.ensures.0 (name_sign new Comma) (listed_comma new))
    (λ e. fails_here c.args.phrases.limited c.stuck-in-None-behind_name.result m c.in-Some-behind_comma.behind.now (name_wanted new) o condition k e
    (listed_wants new) (listed_untaken_name new (tokens_seen c.in-Some-behind_comma.behind.now) c.in-None-behind_name.ensures) (inl (listed_ends new))
    (c.stuck-in-None-behind_name.ensures c.args.phrases.limited)))

pub commas-preserved : goal.commas-preserved
commas-preserved c = record {
  goes = λ m new o condition k done.
      went_as c.args.phrases.limited _ _ m c.args.tokens.now (name_wanted new) c.in-Some-behind_name.behind.now (name_behind new) o condition k done
      (kept_words c.commas.names.items c.added-in-Some-behind_name.new.list.items c.in_ok-name-in-Some-behind_name.name
      c.in_ok-added-in-Some-behind_name.ensures c.commas.invariant.some)
      (went_then c.args.phrases.limited _ (Put Comma ∷ Named c.in_ok-name-in-Some-behind_name.name ∷
      []) m c.args.tokens.now (name_wanted new) c.commas.rest.now (name_behind new) c.in-Some-behind_name.behind.now (name_behind new) o condition k done
      (c.commas.invariant.goes m new o condition k done)
      (λ d. went_then c.args.phrases.limited (Put Comma ∷ []) (name_parts c.in_ok-name-in-Some-behind_name.name) m c.commas.rest.now (name_behind new)
      c.in-Some-behind_comma.behind.now (name_wanted new) c.in-Some-behind_name.behind.now (name_behind new) o condition k d
      (went_token c.args.phrases.limited (Signed Comma) (Put Comma) m c.commas.rest.now (name_behind new) c.in-Some-behind_comma.behind.now
      (name_wanted new) o condition k d c.in-Some-behind_comma.ensures.0 (name_sign new Comma) (listed_comma new))
      (λ e. went_listed new c.args.phrases.limited m c.in-Some-behind_comma.behind.now c.in-Some-behind_name.behind.now c.in-Some-behind_name.name.now
      c.in_ok-name-in-Some-behind_name.name o condition k e c.in-Some-behind_name.ensures.0 c.in-Some-behind_name.ensures.1
      c.in_ok-name-in-Some-behind_name.ensures.ok)));
  some = kept_length c.commas.names.items c.added-in-Some-behind_name.new.list.items c.in_ok-name-in-Some-behind_name.name c.in_ok-added-in-Some-behind_name.ensures;
  falls = omega (arith, c.in-Some-behind_name.ensures.2, c.in-Some-behind_comma.ensures.1, c.commas.invariant.falls);
}

pub returns-in-None-behind_close-clause-reads : goal.returns-in-None-behind_close-clause-reads
returns-in-None-behind_close-clause-reads c = λ m new o condition k done.
    fails_then c.args.phrases.limited _ c.stuck-in-None-behind_close.result m c.args.tokens.now (name_wanted new) c.commas.rest.now (name_behind new) o
    condition k done (c.commas.invariant.goes m new o condition k done)
    (λ d. fails_here c.args.phrases.limited c.stuck-in-None-behind_close.result m c.commas.rest.now (name_behind new) o condition k d (listed_wanted new)
    (listed_names new (tokens_seen c.commas.rest.now) c.in_default.ensures c.in-None-behind_close.ensures) (inl (listed_over new))
    (c.stuck-in-None-behind_close.ensures c.args.phrases.limited))

pub returns-clause-reads : goal.returns-clause-reads
returns-clause-reads c = λ m new o condition k done.
    went_then c.args.phrases.limited _ (Put Close ∷ []) m c.args.tokens.now (name_wanted new) c.commas.rest.now (name_behind new)
    c.in-Some-behind_close.behind.now (name_end new) o condition k done (c.commas.invariant.goes m new o condition k done)
    (λ d. went_token c.args.phrases.limited (Signed Close) (Put Close) m c.commas.rest.now (name_behind new) c.in-Some-behind_close.behind.now (name_end new) o
    condition k d c.in-Some-behind_close.ensures.0 (name_sign new Close) (listed_close new))
