-- Histories with their blocks, run alone: a transfer, a write skew that clashes once, and a phantom.
use Rattle.std.proofs.Common.{◌≡◌, ℕ, zero, suc, true, false, List, [], ◌∷◌, ◌++◌, map, Some, None, refl, sym, subst}
use Rattle.std.specs.Prelude.{codes}
use Rattle.mj_store.specs.Questions.{Content}
use Rattle.mj_store.specs.declared.access.Access.TheVariants as access
use Rattle.mj_store.specs.declared.access.Answer.TheVariants as answer
use Rattle.mj_store.specs.declared.store.Direction.TheVariants.{Forward}
use Rattle.mj_ask.specs.declared.ask.Ask.{Ask}
use Rattle.mj_ask.specs.declared.ask.Ask.TheVariants as asks
use Rattle.mj_ask.specs.declared.ask.SharedAsk.TheVariants as shared_asks
use Rattle.mj_ask.specs.declared.ask.Reply.{Reply}
use Rattle.mj_ask.specs.declared.ask.Reply.TheVariants as replies
use Rattle.mj_semantics.specs.Outcome.{Outcome, Needs, Ended}
use Rattle.mj_subs.specs.Name.{Name}
use Rattle.mj_txlog.specs.declared.entry.Entry.TheVariants as entry
use Rattle.mj_txn.specs.declared.changed.Changed.{Changed}
use Rattle.mj_txn.specs.Closing.{clash_of}
use Rattle.mj_sys.specs.History.{History, log_of}
use Rattle.mj_serial.specs.Programs.{Program, AreAsked}
use Rattle.mj_serial.specs.Blocks.{blocks_of}
use Rattle.mj_serial.specs.Shown.{shown}
use Rattle.mj_serial.specs.Alone.{alone}
use Rattle.mj_serial.specs.Rules.{Exactly, IsRunBy, committed_by}
use Rattle.mj_serial.proofs.Wrong.{script, two, event, q, begin, value, sets, first, found, comes, done, no_other, no_other_one, one, looks, adds}

abbrev by : ℕ → List (Ask × Reply) → History
by j [] = []
by j (e ∷ es) = event j e.0 e.1 ∷ by j es

abbrev a : Name
a = q (codes "1")

abbrev b : Name
b = q (codes "2")

abbrev saw : List ℕ → Reply
saw t = found (Some t)

-- ---- a transfer: one goes from one account to the other, and another job looks in between, outside a transaction

abbrev accounts : Content
accounts = (a, codes "5") ∷ (b, codes "1") ∷ []

abbrev moves : List Ask
moves = begin ∷ value a ∷ sets a (codes "4") ∷ value b ∷ sets b (codes "2") ∷ (asks.Shared shared_asks.Commit) ∷ []

abbrev transfer : History
transfer = by 0 ((begin, replies.Done) ∷ (value a, saw (codes "5")) ∷ (sets a (codes "4"), done) ∷ []) ++ by 1 ((value a, saw (codes "5")) ∷ [])
    ++ by 0 ((value b, saw (codes "1")) ∷ (sets b (codes "2"), done) ∷ ((asks.Shared shared_asks.Commit), replies.Done) ∷ [])

-- the look comes first, as it was before the commit
transfer_blocks : map shown (blocks_of transfer) ≡ record { job = 1; serial = false; place = 4; accesses = entry.Access (access.Value a) (answer.Value (Some (codes "5"))) ∷ [] }
    ∷ record {
      job = 0;
      serial = true;
      place = 1;
      accesses = entry.Access (access.Value a) (answer.Value (Some (codes "5"))) ∷ entry.Access (access.Set a (codes "4")) answer.Done
          ∷ entry.Access (access.Value b) (answer.Value (Some (codes "1"))) ∷ entry.Access (access.Set b (codes "2")) answer.Done ∷ [];
    } ∷ []
transfer_blocks = refl

transferred : committed_by accounts transfer ≡ (a, codes "4") ∷ (b, codes "2") ∷ []
transferred = refl

transfer_alone : alone (two moves (value a ∷ [])) 9 accounts (blocks_of transfer) ≡ record {
  globals = (a, codes "4") ∷ (b, codes "2") ∷ [];
  serial = (((value a, saw (codes "5")) ∷ (sets a (codes "4"), done) ∷ (value b, saw (codes "1")) ∷ (sets b (codes "2"), done) ∷ []), Needs (asks.Shared shared_asks.Commit) [] []) ∷ [];
}
transfer_alone = refl

transfer_asked : (j : ℕ) → AreAsked (two moves (value a ∷ []) j) [] (log_of j transfer)
transfer_asked zero = ((0, [], [], refl), ((0, [], [], refl), ((0, [], [], refl), ((0, [], [], refl), ((0, [], [], refl), ((0, [], [], refl), tt))))))
transfer_asked (suc zero) = ((0, [], [], refl), tt)
transfer_asked (suc (suc j)) =
    let none : log_of (suc (suc j)) transfer ≡ [] = rw (no_other j, no_other_one j) refl in subst (AreAsked (script (value a ∷ [])) []) (sym none) tt

transfer_run : IsRunBy Exactly (two moves (value a ∷ [])) accounts transfer
transfer_run = record {
  told = (tt, (refl, (refl, (refl, (refl, (refl, (((λ e. refl), ((λ e. absurd cc), ((λ e. refl), ((λ e. absurd cc), tt)))), tt)))))));
  asked = transfer_asked;
}

-- ---- a write skew: each of two jobs reads the other's node and sets its own to that with a 1 before it

abbrev longer : Reply → List ℕ
longer (replies.Answer (answer.Value (Some t))) = 49 ∷ t
longer _ = []

abbrev skews : Name → Name → List Reply → Outcome
skews from into [] = Needs begin [] []
skews from into (x ∷ []) = Needs (value from) [] []
skews from into (x ∷ v ∷ []) = Needs (sets into (longer v)) [] []
skews from into (x ∷ v ∷ s ∷ []) = Needs (asks.Shared shared_asks.Commit) [] []
skews from into (x ∷ v ∷ s ∷ replies.Clash c ∷ rs) = skews from into rs
skews from into (x ∷ v ∷ s ∷ r ∷ rs) = Ended

abbrev programs : ℕ → Program
programs zero n rs = skews b a rs
programs (suc j) n rs = skews a b rs

abbrev zeros : Content
zeros = (a, codes "0") ∷ (b, codes "0") ∷ []

abbrev differs : Changed
differs = record { place = 1; then = answer.Value (Some (codes "0")); now = answer.Value (Some (codes "10")) }

abbrev skewed : History
skewed = by 0 ((begin, replies.Done) ∷ (value b, saw (codes "0")) ∷ []) ++ by 1 ((begin, replies.Done) ∷ (value a, saw (codes "0")) ∷ [])
    ++ by 0 ((sets a (codes "10"), done) ∷ ((asks.Shared shared_asks.Commit), replies.Done) ∷ [])
    ++ by 1 ((sets b (codes "10"), done) ∷ ((asks.Shared shared_asks.Commit), replies.Clash (clash_of differs)) ∷ [])
    ++ by 1 ((begin, replies.Done) ∷ (value a, saw (codes "10")) ∷ (sets b (codes "110"), done) ∷ ((asks.Shared shared_asks.Commit), replies.Done) ∷ [])

-- the second block begins with the second `begin` of its job
skew_places : map (λ x. x.place) (blocks_of skewed) ≡ 1 ∷ 9 ∷ []
skew_places = refl

skew_left : committed_by zeros skewed ≡ (a, codes "10") ∷ (b, codes "110") ∷ []
skew_left = refl

skew_alone : alone programs 9 zeros (blocks_of skewed) ≡ record {
  globals = (a, codes "10") ∷ (b, codes "110") ∷ [];
  serial = (((value b, saw (codes "0")) ∷ (sets a (codes "10"), done) ∷ []), Needs (asks.Shared shared_asks.Commit) [] [])
      ∷ (((value a, saw (codes "10")) ∷ (sets b (codes "110"), done) ∷ []), Needs (asks.Shared shared_asks.Commit) [] []) ∷ [];
}
skew_alone = refl

skew_asked : (j : ℕ) → AreAsked (programs j) [] (log_of j skewed)
skew_asked zero = ((0, [], [], refl), ((0, [], [], refl), ((0, [], [], refl), ((0, [], [], refl), tt))))
skew_asked (suc zero) = (
  (0, [], [], refl),
  ((0, [], [], refl), ((0, [], [], refl), ((0, [], [], refl), ((0, [], [], refl), ((0, [], [], refl), ((0, [], [], refl), ((0, [], [], refl), tt))))))),
)
skew_asked (suc (suc j)) =
    let none : log_of (suc (suc j)) skewed ≡ [] = rw (no_other j, no_other_one j) refl in subst (AreAsked (programs (suc (suc j))) []) (sym none) tt

skew_run : IsRunBy Exactly programs zeros skewed
skew_run = record {
  told = (
    tt,
    (
      refl,
      (
        tt,
        (
          refl,
          (
            refl,
            (
              ((λ e. refl), ((λ e. absurd cc), tt)),
              (
                refl,
                (
                  (
                    differs,
                    refl,
                    record {
                      earlier = [];
                      e = entry.Access (access.Value a) (answer.Value (Some (codes "0")));
                      later = entry.Access (access.Set b (codes "10")) answer.Done ∷ [];
                      is = refl;
                      hold = tt;
                      differs = (refl, record { place = refl; then = refl; now = refl; differ = λ e. absurd cc });
                    },
                  ),
                  (tt, (refl, (refl, (((λ e. refl), ((λ e. absurd cc), tt)), tt)))),
                ),
              ),
            ),
          ),
        ),
      ),
    ),
  );
  asked = skew_asked;
}

-- ---- a phantom: what another job sets is the first subscript now, so the commit clashes; nothing of the transaction is a block

abbrev appears : Changed
appears = record { place = 1; then = answer.Order None; now = answer.Order (Some one) }

abbrev phantom : History
phantom = by 0 ((begin, replies.Done) ∷ (first, comes None) ∷ []) ++ by 1 ((sets a one, done) ∷ []) ++ by 0 (((asks.Shared shared_asks.Commit), replies.Clash (clash_of appears)) ∷ [])

phantom_blocks : map shown (blocks_of phantom) ≡ record { job = 1; serial = false; place = 3; accesses = entry.Access (access.Set a one) answer.Done ∷ [] } ∷ []
phantom_blocks = refl

phantom_asked : (j : ℕ) → AreAsked (two looks adds j) [] (log_of j phantom)
phantom_asked zero = ((0, [], [], refl), ((0, [], [], refl), ((0, [], [], refl), tt)))
phantom_asked (suc zero) = ((0, [], [], refl), tt)
phantom_asked (suc (suc j)) =
    let none : log_of (suc (suc j)) phantom ≡ [] = rw (no_other j, no_other_one j) refl in subst (AreAsked (script adds) []) (sym none) tt

phantom_run : IsRunBy Exactly (two looks adds) [] phantom
phantom_run = record {
  told = (
    tt,
    (
      refl,
      (
        refl,
        (
          (
            appears,
            refl,
            record {
              earlier = [];
              e = entry.Access (access.Order (q []) Forward) (answer.Order None);
              later = [];
              is = refl;
              hold = tt;
              differs = (refl, record { place = refl; then = refl; now = refl; differ = λ e. absurd cc });
            },
          ),
          tt,
        ),
      ),
    ),
  );
  asked = phantom_asked;
}
