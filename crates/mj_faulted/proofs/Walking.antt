-- A run goes on, turn by turn.
use Rattle.std.proofs.Common.{◌≡◌, ℕ, suc, ◌+◌, List, [], ◌∷◌, ◌++◌, drop, slice_get, Option, Some, None, inl, inr, refl, sym, ap, ◌∙◌, subst, arith}
use Rattle.mj_ask.specs.declared.ask.Ask.{Ask}
use Rattle.mj_ask.specs.declared.ask.Reply.{Reply}
use Rattle.mj_semantics.specs.Job.{Start, next}
use Rattle.mj_segment.specs.Segments.{StepsBy, Runs}
use Rattle.mj_pcode.specs.declared.instr.Unit.{Unit}
use Rattle.mj_load.specs.Image.{Loaded, IsImage, program_of}
use Rattle.mj_machine.specs.declared.machine.Machine.{Machine}
use Rattle.mj_machine.specs.Standing.{Standing, Code, Over, Steps, onward}
use Rattle.mj_machine.specs.Kept.{standing}
use Rattle.mj_turn.specs.Sound.{IsSound}
use Rattle.mj_jobvm.specs.Run.{TurnsBefore, Log}
use Rattle.mj_jobvm.specs.Jobs.{IsRunOfAfter, code_in, opened, opening_at}
use Rattle.mj_jobvm.proofs.Opening.{starts}
use Rattle.mj_faulted.specs.Stands.{Stands}
use Rattle.mj_faulted.proofs.Dropped.{one_left, none_left}

module _ (image : Loaded) (start : Start) (replies : List Reply) where
  no_entry : (log : Log) (e : Ask × Reply) → [] ≡ log ++ e ∷ [] → ⊥
  no_entry [] e h = cc
  no_entry (x ∷ log) e h = cc

  none_before : (m : ℕ) → TurnsBefore (program_of image) start [] m → m ≡ 0
  none_before m (inl (e, z)) = z
  none_before m (inr (earlier, a, r, locals, at, is, going, needs)) = absurd (no_entry earlier (a, r) is)

  -- before the first turn
  pub begins : IsImage image → Stands image start replies 0 0 (opening_at image.bounds start.job)
  begins is =
      let r : IsRunOfAfter image start 0 (opened image.bounds start) = starts image is start in
      let none : r.before ≡ 0 = none_before r.before r.counted in
      record {
        rest = λ n behind. r.rest n (replies ++ behind)
            ∙ ap (λ k. next (program_of image) start k (replies ++ behind)) (let e : r.before + 0 + n ≡ 0 + n = omega (arith, none) in e);
        sound = r.sound;
      }

  -- several turns
  pub turned_by : (turns taken k : ℕ) (old new : Standing) → StepsBy (code_in image start) k old new → IsSound image.units new
      → Stands image start replies turns taken old → Stands image start replies (turns + k) taken new
  turned_by turns taken k old new h sound s = record {
    rest = λ n behind. sym (h n (drop taken replies ++ behind)) ∙ s.rest (k + n) behind
        ∙ ap (λ m. next (program_of image) start m (replies ++ behind)) (let e : turns + (k + n) ≡ turns + k + n = omega arith in e);
    sound = sound;
  }

  -- a turn more, in the count of turns
  one_more : (turns n : ℕ) (more : List Reply)
      → next (program_of image) start (turns + suc n) more ≡ next (program_of image) start (turns + 1 + n) more
  one_more turns n more = ap (λ m. next (program_of image) start m more) (let e : turns + suc n ≡ turns + 1 + n = omega arith in e)

  -- what is left with the next reply at hand
  at_hand : (taken n : ℕ) (r : Reply) (m : Machine) (behind : List Reply) → slice_get replies taken ≡ Some r
      → onward (code_in image start) n (standing m None) (drop taken replies ++ behind)
      ≡ onward (code_in image start) n (standing m (Some r)) (drop (suc taken) replies ++ behind)
  at_hand taken n r m behind h =
      ap (λ (rs : List Reply). onward (code_in image start) n (standing m None) (rs ++ behind)) (one_left replies taken r h)

  -- a turn that took no reply
  pub turned : (turns taken : ℕ) (old new : Machine) (given : Option Reply) → given ≡ slice_get replies taken
      → Steps (code_in image start) (standing old given) Over (standing new given) → IsSound image.units (standing new None)
      → Stands image start replies turns taken (standing old None) → Stands image start replies (turns + 1) taken (standing new None)
  turned turns taken old new None is h sound s = record {
    rest = λ n behind. sym (h n (drop taken replies ++ behind)) ∙ s.rest (suc n) behind ∙ one_more turns n (replies ++ behind);
    sound = sound;
  }
  turned turns taken old new (Some r) is h sound s = record {
    rest = λ n behind.
        at_hand taken n r new behind (sym is) ∙ sym (h n (drop (suc taken) replies ++ behind)) ∙ sym (at_hand taken (suc n) r old behind (sym is))
        ∙ s.rest (suc n) behind ∙ one_more turns n (replies ++ behind);
    sound = sound;
  }

  -- one that took it
  pub took : (turns taken : ℕ) (old new : Machine) (given : Option Reply) → given ≡ slice_get replies taken
      → Steps (code_in image start) (standing old given) Over (standing new None) → IsSound image.units (standing new None)
      → Stands image start replies turns taken (standing old None) → Stands image start replies (turns + 1) (taken + 1) (standing new None)
  took turns taken old new given is h sound s = subst (λ k. Stands image start replies (turns + 1) k (standing new None)) (let e : suc taken ≡ taken + 1 = omega arith in e) (by given is h)
    where
      by : (given : Option Reply) → given ≡ slice_get replies taken → Steps (code_in image start) (standing old given) Over (standing new None)
          → Stands image start replies (turns + 1) (suc taken) (standing new None)
      by None is h = record {
        rest = λ n behind.
            ap (λ (rs : List Reply). onward (code_in image start) n (standing new None) (rs ++ behind)) (none_left replies taken (sym is))
            ∙ sym (h n (drop taken replies ++ behind)) ∙ s.rest (suc n) behind ∙ one_more turns n (replies ++ behind);
        sound = sound;
      }
      by (Some r) is h = record {
        rest = λ n behind. sym (h n (drop (suc taken) replies ++ behind)) ∙ sym (at_hand taken (suc n) r old behind (sym is)) ∙ s.rest (suc n) behind
            ∙ one_more turns n (replies ++ behind);
        sound = sound;
      }

  -- one that wasn't made
  pub stayed : (turns taken : ℕ) (old new : Machine) (given : Option Reply) → standing new given ≡ standing old given
      → Stands image start replies turns taken (standing old None) → Stands image start replies turns taken (standing new None)
  stayed turns taken old new given h s =
      let same : standing new None ≡ standing old None = ap (λ (x : Standing). record x { given = None }) h in
      subst (λ x. Stands image start replies turns taken x) (sym same) s

  -- the same of a walk, among units that are those of the image
  module _ (units : List Unit) (are : units ≡ image.units) where
    abbrev in_code : List Unit → Code
    in_code us = record { units = us; start = start }

    pub walked_by : (turns taken k : ℕ) (old new : Machine) → Runs units k old new → IsSound units (standing new None)
        → Stands image start replies turns taken (standing old None) → Stands image start replies (turns + k) taken (standing new None)
    walked_by turns taken k old new h sound s =
        turned_by turns taken k (standing old None) (standing new None)
        (subst (λ (us : List Unit). StepsBy (in_code us) k (standing old None) (standing new None)) are (h start None))
        (subst (λ (us : List Unit). IsSound us (standing new None)) are sound) s

    pub walked : (turns taken : ℕ) (old new : Machine) (given : Option Reply) → given ≡ slice_get replies taken
        → Steps (in_code units) (standing old given) Over (standing new given) → IsSound units (standing new None)
        → Stands image start replies turns taken (standing old None) → Stands image start replies (turns + 1) taken (standing new None)
    walked turns taken old new given is h sound s =
        turned turns taken old new given is (subst (λ (us : List Unit). Steps (in_code us) (standing old given) Over (standing new given)) are h)
        (subst (λ (us : List Unit). IsSound us (standing new None)) are sound) s

    pub walked_taking : (turns taken : ℕ) (old new : Machine) (given : Option Reply) → given ≡ slice_get replies taken
        → Steps (in_code units) (standing old given) Over (standing new None) → IsSound units (standing new None)
        → Stands image start replies turns taken (standing old None) → Stands image start replies (turns + 1) (taken + 1) (standing new None)
    walked_taking turns taken old new given is h sound s =
        took turns taken old new given is (subst (λ (us : List Unit). Steps (in_code us) (standing old given) Over (standing new None)) are h)
        (subst (λ (us : List Unit). IsSound us (standing new None)) are sound) s
