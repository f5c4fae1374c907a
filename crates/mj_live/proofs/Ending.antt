-- What a live run leaves, by how it went on from its beginning.
use Rattle.std.proofs.Common.{◌≡◌, ◌∙◌, ℕ, List, Bool, false, Option, refl, sym, ap, subst, subst₂}
use Rattle.std.specs.Io.KnownBytes.{Appends}
use Rattle.mj_load.specs.Image.{Loaded}
use Rattle.mj_sessions.specs.Asked.{Answering}
use Rattle.mj_sys.specs.Shared.{Shared}
use Rattle.mj_core.specs.Shown.{Shown, begun}
use Rattle.mj_steps.specs.declared.drive.Ending.{Ending}
use Rattle.mj_run.specs.Stepping.{AreSteps}
use Rattle.mj_live.specs.Shows.{Living, Shows, printed_of}
use Rattle.mj_live.specs.Live.{IsLive, RanLive, beginning}

abbrev pub core_of : Living → Shown
core_of l = l.core

abbrev pub contents_of : Living → Option (List ℕ)
contents_of l = l.contents

abbrev pub closed_of : Living → Bool
closed_of l = l.closed

-- jobs of which nothing was asked yet, behind these bytes
pub starts : (image : Loaded) (jobs : Shown) (before : Option (List ℕ)) (start : Living) → jobs ≡ begun image
    → start ≡ record { core = jobs; contents = before; session = 1; closed = false } → start ≡ beginning image before
starts image jobs before start begins is =
    let P : Shown → Living = λ core. record { core = core; contents = before; session = 1; closed = false } in
    is ∙ ap P begins

module _ (tells : Answering) (opening : Shared) (image : Loaded) (before : Option (List ℕ)) (start live : Living) (begins : start ≡ beginning image before) where
  pub gives : (core : Shown) → core ≡ live.core → AreSteps tells opening start.core live.core → AreSteps tells opening (begun image) core
  gives core is steps = subst₂ (λ (old new : Shown). AreSteps tells opening old new) (ap core_of begins) (sym is) steps

  from_start : Shows start live → Appends before live.contents (printed_of live.core.history)
  from_start shows = by (subst (λ (l : Living). Shows l live) begins shows)
    where
      by : Shows (beginning image before) live → Appends before live.contents (printed_of live.core.history)
      by (bytes, wrote, is) = subst (λ (b : List ℕ). Appends before live.contents b) (sym is) wrote

  pub written : (core : Shown) (after : Option (List ℕ)) (closed : Bool) → core ≡ live.core → after ≡ live.contents → closed ≡ live.closed
      → (live.closed ≡ false → Shows start live) → closed ≡ false → Appends before after (printed_of core.history)
  written core after closed is kept same shows still =
      subst₂ (λ (c : Shown) (o : Option (List ℕ)). Appends before o (printed_of c.history)) (sym is) (sym kept) (from_start (shows (sym same ∙ still)))

  pub ran : (most : ℕ) (ending : Ending) (core : Shown) (after : Option (List ℕ)) (session : ℕ) (closed : Bool)
      → record { core = core; contents = after; session = session; closed = closed } ≡ live → IsLive tells opening most start ending live
      → RanLive tells opening most image before ending core after closed
  ran most ending core after session closed is lives = record {
    session = session;
    live = subst₂ (λ (old new : Living). IsLive tells opening most old ending new) begins (sym is) lives;
  }
