use Rattle.std.proofs.Common.{ℕ, false, [], ◌∷◌, ◌++◌, ◌∙◌, ap, subst, refl}
use Rattle.mj_ask.specs.declared.ask.Ask.TheVariants as asks
use Rattle.mj_ask.specs.declared.ask.SharedAsk.TheVariants as shared_asks
use Rattle.mj_sys.specs.History.{History}
use Rattle.mj_sys.specs.Kept.{ComesOfAsk}
use Rattle.mj_sys.specs.declared.shared.Outcome.TheVariants as outcomes
use Rattle.mj_sys.proofs.system.access_next.Goals as goal

pub returns-in-Ok-access-clause-ok : goal.returns-in-Ok-access-clause-ok
returns-in-Ok-access-clause-ok g c =
    let told = outcomes.Told c.in-Ok-access.reply c.in-Ok-access.again in
    let event : History = record { job = c.args.claim.now.job; ask = asks.Shared (shared_asks.Access c.args.access); reply = c.in-Ok-access.again } ∷ [] in
    record {
      outcome = told;
      comes = subst (λ (job : ℕ). ComesOfAsk c.args.shared.now job (shared_asks.Access c.args.access) false told c.access-2.new.self)
          c.job.ensures.value c.in-Ok-access.ensures.ok;
      is_told = refl;
      is_written = (
        c.write_down.ensures.history ∙ ap (λ (l : History). l ++ event) c.in-Ok.ensures.items,
        c.write_down.ensures.counts,
        c.write_down.ensures.claim,
      );
    }
