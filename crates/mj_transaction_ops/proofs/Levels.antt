-- What the instructions of transactions come to, once it is known how many TSTARTs are open.
use Rattle.std.proofs.Common.{◌≡◌, ℕ, ◌≤◌, ◌<◌, List, Option, Bool, true, false, ap, ◌∙◌, arith}
use Rattle.std.specs.Prelude.{nat_eq, nat_lt, if◌then◌else◌}
use Rattle.std.proofs.lemmas.Bool.{le-ltb, eq-eqb, false_from_ne_true, eqb-true}
use Rattle.mj_text.specs.declared.fault.Fault.TheVariants.{NoTransaction, NoRestart, InTransaction, Limit, Steps}
use Rattle.mj_ask.specs.declared.ask.Ask.TheVariants as asks
use Rattle.mj_ask.specs.declared.ask.SharedAsk.TheVariants as shared_asks
use Rattle.mj_ask.specs.declared.ask.Reply.{Reply}
use Rattle.mj_semantics.specs.State.{State, Words, is_in_function, marked, raised, lowered, settled, can_restart}
use Rattle.mj_semantics.specs.Outcome.{Handler, Timed, look, change, ask, fault}
use Rattle.mj_semantics.specs.Transactions.{levels_limit, kind_of, is_clash, out_of_functions, begin_transaction, in_transaction, commit, roll_back, roll_back_for_restart}
use Rattle.mj_machine.proofs.Asks.{no_more}

module _ (n : ℕ) (back : Handler) (s : State) (replies : List Reply) where
  some_level : 0 < s.level → nat_eq s.level 0 ≡ false
  some_level h = false_from_ne_true (nat_eq s.level 0) (λ e. let zero : s.level ≡ 0 = eqb-true s.level 0 e in absurd (omega (arith, h, zero)))

  pub none_open : (rest : Timed) → s.level ≡ 0 → in_transaction rest n back s replies ≡ fault NoTransaction n back s replies
  none_open rest e = ap (λ b. (if b then fault NoTransaction else rest) n back s replies) (eq-eqb s.level 0 e)

  pub is_open : (rest : Timed) → 0 < s.level → in_transaction rest n back s replies ≡ rest n back s replies
  is_open rest h = ap (λ b. (if b then fault NoTransaction else rest) n back s replies) (some_level h)

  -- a level too many
  pub too_deep : (restored : Option Words) (serial : Bool) (f g : Timed) → 255 ≤ s.level → begin_transaction restored serial f g n back s replies ≡ fault Limit n back s replies
  too_deep restored serial f g h =
      let outermost : Timed = out_of_functions (ask (asks.Shared (shared_asks.Begin (kind_of serial))) (λ r. change (marked restored serial) g)) in
      let inner : Timed = if nat_lt s.level levels_limit then change raised f else fault Limit in
      ap (λ b. (if b then outermost else inner) n back s replies) (some_level (omega (arith, h)))
      ∙ ap (λ b. (if b then change raised f else fault Limit) n back s replies) (le-ltb s.level levels_limit h)

  pub no_begin : (restored : Option Words) (serial : Bool) (f g : Timed) → s.level ≡ 0 → is_in_function s ≡ false → s.bounds.events ≤ s.replied
      → begin_transaction restored serial f g n back s replies ≡ fault Steps n back s replies
  no_begin restored serial f g e out h =
      let begun : Reply → Timed = λ r. change (marked restored serial) g in
      let inner : Timed = if nat_lt s.level levels_limit then change raised f else fault Limit in
      let asked : Timed = ask (asks.Shared (shared_asks.Begin (kind_of serial))) begun in
      ap (λ b. (if b then out_of_functions asked else inner) n back s replies) (eq-eqb s.level 0 e)
      ∙ ap (λ b. (if b then fault InTransaction else asked) n back s replies) out
      ∙ no_more _ begun n back s replies h

  -- the outermost one while a function's frame stands
  pub in_expression : (restored : Option Words) (serial : Bool) (f g : Timed) → s.level ≡ 0 → is_in_function s ≡ true
      → begin_transaction restored serial f g n back s replies ≡ fault InTransaction n back s replies
  in_expression restored serial f g e inside =
      let inner : Timed = if nat_lt s.level levels_limit then change raised f else fault Limit in
      let asked : Timed = ask (asks.Shared (shared_asks.Begin (kind_of serial))) (λ r. change (marked restored serial) g) in
      ap (λ b. (if b then out_of_functions asked else inner) n back s replies) (eq-eqb s.level 0 e)
      ∙ ap (λ b. (if b then fault InTransaction else asked) n back s replies) inside

  pub no_commit : (f g : Timed) → s.level ≡ 1 → s.bounds.events ≤ s.replied → commit f g n back s replies ≡ fault Steps n back s replies
  no_commit f g e h =
      let ended : Reply → Timed = λ r. if is_clash r then f else change settled g in
      is_open (look (λ t. if nat_lt 1 t.level then change lowered g else ask (asks.Shared shared_asks.Commit) ended)) (omega (arith, e))
      ∙ ap (λ b. (if b then change lowered g else ask (asks.Shared shared_asks.Commit) ended) n back s replies) (le-ltb 1 s.level (omega (arith, e)))
      ∙ no_more _ ended n back s replies h

  pub no_roll_back : (f : Timed) → 0 < s.level → s.bounds.events ≤ s.replied → roll_back f n back s replies ≡ fault Steps n back s replies
  no_roll_back f e h = is_open (ask (asks.Shared shared_asks.Rollback) (λ r. change settled f)) e ∙ no_more _ (λ r. change settled f) n back s replies h

  pub no_restart : (f : Timed) → 0 < s.level → can_restart s ≡ false → roll_back_for_restart f n back s replies ≡ fault NoRestart n back s replies
  no_restart f e k =
      is_open (look (λ t. if can_restart t then ask (asks.Shared shared_asks.Rollback) (λ r. f) else fault NoRestart)) e
      ∙ ap (λ b. (if b then ask (asks.Shared shared_asks.Rollback) (λ r. f) else fault NoRestart) n back s replies) k

  pub no_give_back : (f : Timed) → 0 < s.level → can_restart s ≡ true → s.bounds.events ≤ s.replied → roll_back_for_restart f n back s replies ≡ fault Steps n back s replies
  no_give_back f e k h =
      is_open (look (λ t. if can_restart t then ask (asks.Shared shared_asks.Rollback) (λ r. f) else fault NoRestart)) e
      ∙ ap (λ b. (if b then ask (asks.Shared shared_asks.Rollback) (λ r. f) else fault NoRestart) n back s replies) k
      ∙ no_more _ (λ r. f) n back s replies h
