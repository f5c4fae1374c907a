-- What is kept and told where an ask is served.
use Rattle.std.proofs.Common.{◌≡◌, ℕ, ◌-◌, ◌+◌, ◌<◌, List, [], ◌∷◌, ◌++◌, length, get_or, Bool, Some, Result, Ok, Err, refl, sym, ap, ◌∙◌, subst}
use Rattle.std.specs.Result.{IfOk, OnErr}
use Rattle.std.proofs.Math.ListN.{set}
use Rattle.mj_ask.specs.declared.ask.Ask.TheVariants as asks
use Rattle.mj_ask.specs.declared.ask.SharedAsk.{SharedAsk}
use Rattle.mj_ask.specs.declared.ask.Reply.{Reply}
use Rattle.mj_ask.specs.declared.ask.Reply.TheVariants as replies
use Rattle.mj_dev.specs.Heard.{Heard}
use Rattle.mj_locktab.specs.Locks.{LocksApart}
use Rattle.mj_jobs.specs.Rows.{IsLive}
use Rattle.mj_sys.specs.declared.served.Refused.{Refused}
use Rattle.mj_sys.specs.declared.served.Served.{Served}
use Rattle.mj_sys.specs.declared.served.Served.TheVariants as serveds
use Rattle.mj_sys.specs.declared.shared.Outcome.{Outcome}
use Rattle.mj_sys.specs.declared.shared.Outcome.TheVariants as outcomes
use Rattle.mj_sys.specs.Shared.{Shared, answered, moves_session}
use Rattle.mj_sys.specs.History.{History, state_of}
use Rattle.mj_sys.specs.System.{Recorded, Claimed, Blocks, MatchesHistory, AreCounts, history_limit}
use Rattle.mj_sys.specs.Told.{ServiceTells, Serves, IsTurn, Records, recorded, reply_of}
use Rattle.mj_sys.specs.Kept.{Service, ComesOfAsk, ServesAndRecords, IsWrittenDown, kept_reply, told_of}
use Rattle.mj_sys.proofs.Replays.{kept_on, counts_on}

module _ (opening : Shared) (old : Service) (history : History) (counts : List ℕ) (claim : Claimed) (ask : SharedAsk) (late : Bool) where
  abbrev pub before : Recorded
  before = record { history = history; claimed = old.claimed }

  -- what is known before an ask is served
  pub record IsReady : Type 0 where
    pub kept : MatchesHistory opening old.state before
    pub are : AreCounts counts before
    pub turn : IsTurn opening before claim
    pub room : length history < history_limit

  -- it is so by what is seen
  pub ready_by : (seen : Recorded) → before ≡ seen → MatchesHistory opening old.state before → AreCounts counts before → IsTurn opening seen claim
      → length seen.history < history_limit → IsReady
  ready_by seen is kept are turn room = record {
    kept = kept;
    are = are;
    turn = subst (λ (r : Recorded). IsTurn opening r claim) (sym is) turn;
    room = subst (λ (r : Recorded). length r.history < history_limit) (sym is) room;
  }

  -- what is known then
  pub record AreServed (told : Served Heard) (new : Service) (history' : History) (counts' : List ℕ) (claim' : Claimed) : Type 0 where
    pub kept : MatchesHistory opening new.state (record { history = history'; claimed = new.claimed })
    pub are : AreCounts counts' (record { history = history'; claimed = new.claimed })
    pub serves : Serves opening before claim (asks.Shared ask) late told (record { history = history'; claimed = new.claimed }) claim'

module _ (opening : Shared) (old : Service) (history : History) (counts : List ℕ) (claim : Claimed) (ask : SharedAsk) (late : Bool)
    (ready : IsReady opening old history counts claim ask late) (new : Service) (history' : History) (counts' : List ℕ) (claim' : Claimed)
    (apart : LocksApart new.state.locks) where
  after : Recorded
  after = record { history = history'; claimed = new.claimed }

  -- by a reply
  module _ (reply : Reply) (told : answered old.state claim.job ask late ≡ Some (reply, new.state)) (same : new.claimed ≡ old.claimed)
      (written : IsWrittenDown (Some reply) (asks.Shared ask) history counts claim history' counts' claim') where
    is_recorded : after ≡ recorded (before opening old history counts claim ask late) claim.job (asks.Shared ask) reply
    unfolding after
    is_recorded =
        let of : History → ℕ → Recorded = λ h n. record { history = h; claimed = n } in
        ap (λ h. of h new.claimed) written.0 ∙ ap (λ n. of (history ++ record { job = claim.job; ask = asks.Shared ask; reply = reply } ∷ []) n) same

    live : IsLive old.state.rows claim.job
    live = subst (λ (s : Shared). IsLive s.rows claim.job) (sym ready.kept.replay) ready.turn.live

    still_kept : MatchesHistory opening new.state after
    still_kept = subst (λ r. MatchesHistory opening new.state r) (sym is_recorded)
        (kept_on opening old.state (before opening old history counts claim ask late) claim.job (asks.Shared ask) late reply new.state ready.kept
        live ready.turn.claimed ready.room refl apart told)

    still_counted : AreCounts counts' after
    still_counted = subst (λ l. AreCounts l after) (sym written.1)
        (subst (λ r. AreCounts (set counts (claim.job - 1) (get_or counts (claim.job - 1) 0 + 1)) r) (sym is_recorded)
        (counts_on counts (before opening old history counts claim ask late) claim.job (asks.Shared ask) reply ready.are ready.turn.numbered ready.turn.claimed))

    is_served : answered (state_of opening history) claim.job ask late ≡ Some (reply, state_of opening history')
    unfolding after
    is_served = ap (λ s. answered s claim.job ask late) (sym ready.kept.replay) ∙ told ∙ ap (λ s. Some (reply, s)) still_kept.replay

    pub by_reply : (t : Served Heard) → reply_of t ≡ Some reply
        → ServiceTells (state_of opening history) claim.job (asks.Shared ask) late t (state_of opening history')
        → AreServed opening old history counts claim ask late t new history' counts' claim'
    unfolding after
    by_reply t is tells = record {
      kept = still_kept;
      are = still_counted;
      serves = record {
        turn = ready.turn;
        room = ready.room;
        tells = tells;
        records = subst (λ o. Records (before opening old history counts claim ask late) claim (asks.Shared ask) o after claim') (sym is) (is_recorded, written.2);
      };
    }

    pub its_service : answered (state_of opening history) claim.job ask late ≡ Some (reply, state_of opening history')
    its_service = is_served

  moves : moves_session (state_of opening history) ask ≡ moves_session old.state ask
  moves = ap (λ s. moves_session s ask) (sym ready.kept.replay)

  -- by what came of it
  pub by_outcome : (o : Outcome Heard) → ComesOfAsk old claim.job ask late o new → IsWrittenDown (kept_reply o) (asks.Shared ask) history counts claim history' counts' claim'
      → AreServed opening old history counts claim ask late (told_of o) new history' counts' claim'
  by_outcome (outcomes.Told reply again) comes written =
      let with : History → List ℕ → Claimed → Reply → Type 0 = λ h l k r. IsWrittenDown (Some r) (asks.Shared ask) history counts claim h l k in
      let w : IsWrittenDown (Some reply) (asks.Shared ask) history counts claim history' counts' claim' = subst (λ r. with history' counts' claim' r) comes.2 written in
      by_reply reply comes.0 comes.3 w (serveds.Reply reply) refl (its_service reply comes.0 comes.3 w, moves ∙ comes.1)
  by_outcome (outcomes.Opened session) comes written =
      by_reply replies.Got comes.0 comes.3 written (serveds.Opened session) refl (its_service replies.Got comes.0 comes.3 written, moves ∙ comes.1, comes.2)
  by_outcome (outcomes.Busy holder held) comes written =
      let same : record { history = history'; claimed = new.claimed } ≡ before opening old history counts claim ask late =
      let of : History → ℕ → Recorded = λ h n. record { history = h; claimed = n } in
      ap (λ h. of h new.claimed) written.0 ∙ ap (λ (v : Service). of history v.claimed) comes.2 in
      record {
        kept = subst (λ r. MatchesHistory opening new.state r) (sym same)
            (subst (λ (v : Service). MatchesHistory opening v.state (before opening old history counts claim ask late)) (sym comes.2) ready.kept);
        are = subst (λ l. AreCounts l (record { history = history'; claimed = new.claimed })) (sym written.1) (subst (λ r. AreCounts counts r) (sym same) ready.are);
        serves = record {
          turn = ready.turn;
          room = ready.room;
          tells = (
            ap (λ s. answered s claim.job ask late) (sym ready.kept.replay) ∙ comes.0,
            subst (λ s. Blocks s claim.job ask holder held) ready.kept.replay comes.1,
            ap (λ h. state_of opening h) written.0,
          );
          records = (same, written.2);
        };
      }

  -- and by what is said of it
  pub are_served : (t : Served Heard) → ServesAndRecords old history counts claim ask late t new history' counts' claim'
      → AreServed opening old history counts claim ask late t new history' counts' claim'
  are_served t goes = subst (λ u. AreServed opening old history counts claim ask late u new history' counts' claim') (sym goes.is_told)
      (by_outcome goes.outcome goes.comes goes.is_written)

  -- and so where it is told as what any ask is told
  pub kept_if : {T : Type 0} (told_by : T → Served Heard) (result : Result T Refused)
      → IfOk result (λ t. ServesAndRecords old history counts claim ask late (told_by t) new history' counts' claim')
      → OnErr result ((new ≡ old) × (history' ≡ history) × (counts' ≡ counts) × (claim' ≡ claim))
      → MatchesHistory opening new.state (record { history = history'; claimed = new.claimed }) × AreCounts counts' (record { history = history'; claimed = new.claimed })
  kept_if told_by (Ok t) goes same = let a = are_served (told_by t) goes in (a.kept, a.are)
  kept_if told_by (Err e) goes same =
      let of : History → Service → Recorded = λ h v. record { history = h; claimed = v.claimed } in
      let seen : of history' new ≡ of history old = ap (λ h. of h new) same.1 ∙ ap (λ v. of history v) same.0 in (
        subst (λ r. MatchesHistory opening new.state r) (sym seen) (subst (λ (v : Service). MatchesHistory opening v.state (before opening old history counts claim ask late)) (sym same.0) ready.kept),
        subst (λ l. AreCounts l (of history' new)) (sym same.2) (subst (λ r. AreCounts counts r) (sym seen) ready.are),
      )

  pub serves_if : {T : Type 0} (told_by : T → Served Heard) (result : Result T Refused)
      → IfOk result (λ t. ServesAndRecords old history counts claim ask late (told_by t) new history' counts' claim')
      → IfOk result (λ t. Serves opening (before opening old history counts claim ask late) claim (asks.Shared ask) late (told_by t)
      (record { history = history'; claimed = new.claimed }) claim')
  serves_if told_by (Ok t) goes = (are_served (told_by t) goes).serves
  serves_if told_by (Err e) goes = tt
