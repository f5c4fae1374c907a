use Rattle.std.proofs.Common.{◌≡◌, ℕ, ◌<◌, ◌⊎◌, inl, inr, List, length, Bool, true, false, refl, sym, ap, ◌∙◌}
use Rattle.std.specs.Prelude.{nat_lt, Result, Ok, Err, IfOk, IfErr}
use Rattle.std.proofs.lemmas.Bool.{ltb-true, ltb-false}
use Rattle.mj_text.specs.declared.fault.Fault.{Fault}
use Rattle.mj_text.specs.declared.fault.Fault.TheVariants.{Length}
use Rattle.mj_text.specs.declared.fault.Failure.{Failure}
use Rattle.mj_text.specs.declared.fault.Failure.TheVariants.{Fault as FaultFailure, Memory}
use Rattle.mj_text.specs.declared.limit.Limit.{Limit}
use Rattle.mj_text.specs.Limit.{most_bytes, within_limit}
use Rattle.mj_text.proofs.LimitLemmas.{fits_limit, above_limit}
use Rattle.mj_nref.specs.Spelling.{name_text}
use Rattle.mj_strfn.specs.Functions.{AnswersOrMemory}
use Rattle.mj_variable_ops.proofs.tellings.spelled.Goals as goal

-- what is within the limit is spelled, and what is above it is the one fault that there is
answers : (limit : Limit) (s : List ℕ) (r : Result (List ℕ) Failure) → IfOk r (λ t. t ≡ s)
    → IfErr r (λ e. (e ≡ Memory) ⊎ ((e ≡ FaultFailure Length) × (most_bytes limit < length s)))
    → (most_bytes limit < length s → r ≡ Err (FaultFailure Length)) → AnswersOrMemory (within_limit limit s) r
answers limit s (Ok t) ok err long = by (nat_lt (most_bytes limit) (length s)) refl
  where
    by : (b : Bool) → nat_lt (most_bytes limit) (length s) ≡ b → within_limit limit s ≡ Ok t
    by true k = absurd (let no : Ok t ≡ Err (FaultFailure Length) = long (ltb-true _ _ k) in let n : ⊥ = cc in n)
    by false k = fits_limit limit s (ltb-false (most_bytes limit) (length s) k) ∙ ap Ok (sym ok)
answers limit s (Err (FaultFailure f)) ok err long = by err
  where
    same : (g : Fault) → FaultFailure f ≡ FaultFailure g → f ≡ g
    same g e = cc

    never : FaultFailure f ≡ Memory → ⊥
    never e = cc

    by : (FaultFailure f ≡ Memory) ⊎ ((FaultFailure f ≡ FaultFailure Length) × (most_bytes limit < length s)) → within_limit limit s ≡ Err f
    by (inl e) = absurd (never e)
    by (inr h) = above_limit limit s h.1 ∙ ap Err (sym (same Length h.0))
answers limit s (Err Memory) ok err long = tt

pub returns : goal.returns
returns c = answers c.args.limit (name_text c.args.name.now) c.spell.result c.spell.ensures.ok c.spell.ensures.err c.spell.ensures.long
