-- What a clash keeps is formed, and tells the answers to one access apart.
use Rattle.std.proofs.Common.{◌≡◌, ℕ, Bool, true, false, cond, List, Some, None, pos, refl, sym, ap, ◌∙◌}
use Rattle.mj_num.specs.Number.{number_of, is_canonic, canonic_text}
use Rattle.mj_num.proofs.Laws.{canonic_text-number_of}
use Rattle.mj_subs.specs.Name.{Name}
use Rattle.mj_store.specs.declared.access.Access.{Access}
use Rattle.mj_store.specs.declared.access.Access.TheVariants as accesses
use Rattle.mj_store.specs.declared.access.Answer.{Answer}
use Rattle.mj_store.specs.declared.access.Answer.TheVariants as answers_are
use Rattle.mj_store.specs.declared.store.Direction.{Direction}
use Rattle.mj_ask.specs.declared.clash.Kept.{Kept}
use Rattle.mj_ask.specs.declared.clash.Kept.TheVariants as kepts
use Rattle.mj_ask.specs.Formed.{is_kept, is_answer}
use Rattle.mj_ask.specs.Fits.{answers}
use Rattle.mj_ask.specs.Keeping.{kept_subscript, kept_of, is_limit, KeepsAnswer}

-- ---- what is kept is formed

subscript_formed : (s : List ℕ) → is_kept (kept_subscript s) ≡ true
subscript_formed s = by (is_canonic s)
  where
    by : (b : Bool) → is_kept (cond b (kepts.Number (number_of s)) (kepts.Text s)) ≡ true
    by true = refl
    by false = refl

kept_formed : (x : Answer) → is_answer x ≡ true → is_kept (kept_of x) ≡ true
kept_formed (answers_are.Value None) h = refl
kept_formed (answers_are.Value (Some t)) h = refl
kept_formed (answers_are.Data d) h = refl
kept_formed (answers_are.Order None) h = refl
kept_formed (answers_are.Order (Some s)) h = subscript_formed s
kept_formed (answers_are.Query None) h = refl
kept_formed (answers_are.Query (Some m)) h = h
kept_formed (answers_are.Subtree nodes) h = h
kept_formed answers_are.Done h = refl
kept_formed answers_are.Limit h = refl

-- ---- what is kept tells answers apart

-- the answer to this access of which this is kept
abbrev answer_kept : Access → Kept → Answer
answer_kept (accesses.Value n) (kepts.Text t) = answers_are.Value (Some t)
answer_kept (accesses.Value n) _ = answers_are.Value None
answer_kept (accesses.Data n) (kepts.Number (pos d)) = answers_are.Data d
answer_kept (accesses.Order n way) (kepts.Text t) = answers_are.Order (Some t)
answer_kept (accesses.Order n way) (kepts.Number z) = answers_are.Order (Some (canonic_text z))
answer_kept (accesses.Order n way) _ = answers_are.Order None
answer_kept (accesses.Query n) (kepts.Name m) = answers_are.Query (Some m)
answer_kept (accesses.Query n) _ = answers_are.Query None
answer_kept (accesses.Subtree n) (kepts.Subtree nodes) = answers_are.Subtree nodes
answer_kept _ _ = answers_are.Done

subscript_back : (n : Name) (way : Direction) (s : List ℕ) → answer_kept (accesses.Order n way) (kept_subscript s) ≡ answers_are.Order (Some s)
subscript_back n way s = by (is_canonic s) refl
  where
    by : (b : Bool) → is_canonic s ≡ b → answer_kept (accesses.Order n way) (cond b (kepts.Number (number_of s)) (kepts.Text s)) ≡ answers_are.Order (Some s)
    by true e = ap (λ t. answers_are.Order (Some t)) (canonic_text-number_of s e)
    by false e = refl

back : (a : Access) (x : Answer) → answers a x ≡ true → is_limit x ≡ false → answer_kept a (kept_of x) ≡ x
back a answers_are.Limit h k = absurd cc
back (accesses.Value n) (answers_are.Value None) h k = refl
back (accesses.Value n) (answers_are.Value (Some t)) h k = refl
back (accesses.Value n) (answers_are.Data d) h k = absurd cc
back (accesses.Value n) (answers_are.Order s) h k = absurd cc
back (accesses.Value n) (answers_are.Query m) h k = absurd cc
back (accesses.Value n) (answers_are.Subtree nodes) h k = absurd cc
back (accesses.Value n) answers_are.Done h k = absurd cc
back (accesses.Data n) (answers_are.Value v) h k = absurd cc
back (accesses.Data n) (answers_are.Data d) h k = refl
back (accesses.Data n) (answers_are.Order s) h k = absurd cc
back (accesses.Data n) (answers_are.Query m) h k = absurd cc
back (accesses.Data n) (answers_are.Subtree nodes) h k = absurd cc
back (accesses.Data n) answers_are.Done h k = absurd cc
back (accesses.Order n way) (answers_are.Value v) h k = absurd cc
back (accesses.Order n way) (answers_are.Data d) h k = absurd cc
back (accesses.Order n way) (answers_are.Order None) h k = refl
back (accesses.Order n way) (answers_are.Order (Some s)) h k = subscript_back n way s
back (accesses.Order n way) (answers_are.Query m) h k = absurd cc
back (accesses.Order n way) (answers_are.Subtree nodes) h k = absurd cc
back (accesses.Order n way) answers_are.Done h k = absurd cc
back (accesses.Query n) (answers_are.Value v) h k = absurd cc
back (accesses.Query n) (answers_are.Data d) h k = absurd cc
back (accesses.Query n) (answers_are.Order s) h k = absurd cc
back (accesses.Query n) (answers_are.Query None) h k = refl
back (accesses.Query n) (answers_are.Query (Some m)) h k = refl
back (accesses.Query n) (answers_are.Subtree nodes) h k = absurd cc
back (accesses.Query n) answers_are.Done h k = absurd cc
back (accesses.Subtree n) (answers_are.Value v) h k = absurd cc
back (accesses.Subtree n) (answers_are.Data d) h k = absurd cc
back (accesses.Subtree n) (answers_are.Order s) h k = absurd cc
back (accesses.Subtree n) (answers_are.Query m) h k = absurd cc
back (accesses.Subtree n) (answers_are.Subtree nodes) h k = refl
back (accesses.Subtree n) answers_are.Done h k = absurd cc
back (accesses.Set n text) (answers_are.Value v) h k = absurd cc
back (accesses.Set n text) (answers_are.Data d) h k = absurd cc
back (accesses.Set n text) (answers_are.Order s) h k = absurd cc
back (accesses.Set n text) (answers_are.Query m) h k = absurd cc
back (accesses.Set n text) (answers_are.Subtree nodes) h k = absurd cc
back (accesses.Set n text) answers_are.Done h k = refl
back (accesses.Kill n) (answers_are.Value v) h k = absurd cc
back (accesses.Kill n) (answers_are.Data d) h k = absurd cc
back (accesses.Kill n) (answers_are.Order s) h k = absurd cc
back (accesses.Kill n) (answers_are.Query m) h k = absurd cc
back (accesses.Kill n) (answers_are.Subtree nodes) h k = absurd cc
back (accesses.Kill n) answers_are.Done h k = refl
back (accesses.Put n put) (answers_are.Value v) h k = absurd cc
back (accesses.Put n put) (answers_are.Data d) h k = absurd cc
back (accesses.Put n put) (answers_are.Order s) h k = absurd cc
back (accesses.Put n put) (answers_are.Query m) h k = absurd cc
back (accesses.Put n put) (answers_are.Subtree nodes) h k = absurd cc
back (accesses.Put n put) answers_are.Done h k = refl

pub keeps : (x : Answer) (k : Kept) → k ≡ kept_of x → KeepsAnswer x k
keeps x k is = record {
  formed = λ h. ap is_kept is ∙ kept_formed x h;
  apart = λ a y both same. sym (back a y both.other both.other_within) ∙ ap (answer_kept a) (same ∙ is) ∙ back a x both.one both.one_within;
}
