-- The last change that gave a read another answer, one change more; and the last event that did, one event more.
use Rattle.std.proofs.Common.{◌≡◌, ◌≢◌, ◌↔◌, ℕ, zero, suc, ◌+◌, ◌<◌, ◌≤◌, Bool, true, false, List, [], ◌∷◌, length, get_or, Option, Some, None}
use Rattle.std.proofs.Common.{refl, ap, sym, ◌∙◌, subst, arith, ◌⊎◌, inl, inr, if◌then◌else◌}
use Rattle.std.specs.Prelude.{slice_get}
use Rattle.std.proofs.lemmas.Option.{slice_get-get_or}
use Rattle.mj_store.specs.Questions.{Content}
use Rattle.mj_store.specs.declared.access.Access.{Access}
use Rattle.mj_store.specs.declared.access.Answer.{Answer}
use Rattle.mj_txlog.specs.Accesses.{Accesses}
use Rattle.mj_explain.specs.declared.landings.Landing.{Landing}
use Rattle.mj_ask.specs.declared.noted.Noted.{Noted}
use Rattle.mj_explain.specs.Events.{change_at}
use Rattle.mj_explain.specs.Landings.{made_at, after_change, globals_behind, globals_after, globals_to}
use Rattle.mj_explain.proofs.Counting.{behind_on}
use Rattle.mj_explain.specs.Clashes.{told_on, told_at, told_behind, IsLast, IsCause, later_of}
use Rattle.mj_explain.proofs.Tables.{less_or_same}

-- ---- one change more

module _ (es : List Noted) (ls : List Landing) (g : Content) (a : Access) (own : Accesses) where
  abbrev B : ℕ → Answer
  B i = told_behind es ls g a own i

  -- where none gave another answer, the read is answered at last as at first
  pub flat : (n : ℕ) → ((j : ℕ) → j < n → B (suc j) ≡ B j) → B n ≡ B 0
  flat zero each = refl
  flat (suc n) each = each n (omega arith) ∙ flat n (λ j less. each j (omega (arith, less)))

  module _ (n : ℕ) (l : Landing) (is : slice_get ls n ≡ Some l) where
    -- it gave another answer
    last_new : B (suc n) ≢ B n → IsLast es ls g a own (n + 1) (Some l)
    last_new other = record {
      number = n;
      there = is;
      within = omega arith;
      other = other;
      last = λ j more less. absurd (omega (arith, more, less));
    }

    -- it gave none
    last_same : (found : Option Landing) → B (suc n) ≡ B n → IsLast es ls g a own n found → IsLast es ls g a own (n + 1) found
    last_same None same before = λ j less. by j (less_or_same j n less)
      where
        by : (j : ℕ) → (j < n) ⊎ (j ≡ n) → B (suc j) ≡ B j
        by j (inl less) = before j less
        by j (inr e) = subst (λ i. B (suc i) ≡ B i) (sym e) same
    last_same (Some f) same before = record {
      number = before.number;
      there = before.there;
      within = (let w = before.within in omega (arith, w));
      other = before.other;
      last = λ j more less. by j more (less_or_same j n less);
    }
      where
        by : (j : ℕ) → before.number < j → (j < n) ⊎ (j ≡ n) → B (suc j) ≡ B j
        by j more (inl less) = before.last j more less
        by j more (inr e) = subst (λ i. B (suc i) ≡ B i) (sym e) same

    last_step : (found : Option Landing) (same : Bool) (told now : Answer) → told ≡ B n → now ≡ B (n + 1) → (same ≡ true) ↔ (now ≡ told)
        → IsLast es ls g a own n found → IsLast es ls g a own (n + 1) (if same then found else Some l)
    last_step found same told now was is_now says before = by same says
      where
        here : now ≡ B (suc n)
        here = (let more : n + 1 ≡ suc n = omega arith in is_now ∙ ap B more)

        by : (same : Bool) → (same ≡ true) ↔ (now ≡ told) → IsLast es ls g a own (n + 1) (if same then found else Some l)
        by true says = last_same found (sym here ∙ says.0 refl ∙ was) before
        by false says = last_new (λ e. (let no : false ≡ true = says.1 (here ∙ e ∙ sym was) in absurd cc))

-- a turn of the search: what the next change leaves, what the read is answered then, and which change is the last one now
pub turned : (es : List Noted) (ls : List Landing) (g : Content) (a : Access) (own : Accesses) (i : ℕ) (d : Landing) (old new : Content)
    (found newer : Option Landing) (same : Bool) (told now : Answer) → i < length ls → old ≡ globals_behind es ls g i → told ≡ told_on a own old
    → IsLast es ls g a own i found → new ≡ after_change (change_at es (get_or ls i d).write) old → now ≡ told_on a own new
    → (same ≡ true) ↔ (now ≡ told) → newer ≡ (if same then found else Some (get_or ls i d))
    → (new ≡ globals_behind es ls g (i + 1)) × (now ≡ told_on a own new) × IsLast es ls g a own (i + 1) newer
turned es ls g a own i d old new found newer same told now within was answered before lands is_now says kept =
    let l : Landing = get_or ls i d in
    let there : slice_get ls i ≡ Some l = slice_get-get_or ls i d within in
    let behind : new ≡ globals_behind es ls g (i + 1) = lands ∙ ap (after_change (change_at es l.write)) was ∙ sym (behind_on es ls g i l there) in
    let first : told ≡ told_behind es ls g a own i = answered ∙ ap (told_on a own) was in
    let next : now ≡ told_behind es ls g a own (i + 1) = is_now ∙ ap (told_on a own) behind in (
      behind,
      is_now,
      subst (IsLast es ls g a own (i + 1)) (sym kept) (last_step es ls g a own i l there found same told now first next says before),
    )

-- ---- one event more

-- a list without items
pub none_in : {A : Type 0} (xs : List A) → length xs ≡ 0 → xs ≡ []
none_in [] none = refl
none_in (x ∷ xs) none = absurd (omega (arith, none))

module _ (es : List Noted) (g : Content) (a : Access) (own : Accesses) (from place : ℕ) (le : from ≤ place) where
  abbrev T : ℕ → Answer
  T k = told_at es g a own k

  event_same : (found : Option Landing) → T (suc place) ≡ T place → IsCause es g a own from place found → IsCause es g a own from (place + 1) found
  event_same None same before = λ k more less. by k more (less_or_same k place less)
    where
      by : (k : ℕ) → from ≤ k → (k < place) ⊎ (k ≡ place) → T (suc k) ≡ T k
      by k more (inl less) = before k more less
      by k more (inr e) = subst (λ i. T (suc i) ≡ T i) (sym e) same
  event_same (Some f) same before = record {
    behind = before.behind;
    before = (let w = before.before in omega (arith, w));
    other = before.other;
    last = λ k more less. by k more (less_or_same k place less);
    change = before.change;
    write = before.write;
    turn = before.turn;
  }
    where
      by : (k : ℕ) → f.made < k → (k < place) ⊎ (k ≡ place) → T (suc k) ≡ T k
      by k more (inl less) = before.last k more less
      by k more (inr e) = subst (λ i. T (suc i) ≡ T i) (sym e) same

  event_step : (found last : Option Landing) (same : Bool) → (same ≡ true) ↔ (T (suc place) ≡ T place) → IsCause es g a own from place found
      → IsLast es (made_at es place) (globals_to es g place) a own (length (made_at es place)) last
      → IsCause es g a own from (place + 1) (later_of place same last found)
  event_step found last true says before turn = event_same found (says.0 refl) before
  event_step found None false says before turn =
      let no : false ≡ true = says.1 (flat es (made_at es place) (globals_to es g place) a own (length (made_at es place)) turn) in
      absurd cc
  event_step found (Some change) false says before turn = record {
    behind = le;
    before = omega arith;
    other = λ e. (let no : false ≡ true = says.1 e in absurd cc);
    last = λ k more less. absurd (omega (arith, more, less));
    change = change;
    write = refl;
    turn = turn;
  }

-- where the event makes no change
pub passed : (es : List Noted) (g : Content) (a : Access) (own : Accesses) (from place : ℕ) (old : Content) (found : Option Landing) (told : Answer)
    → from ≤ place → made_at es place ≡ [] → old ≡ globals_to es g place → told ≡ told_on a own old → IsCause es g a own from place found
    → (old ≡ globals_to es g (place + 1)) × (told ≡ told_on a own old) × IsCause es g a own from (place + 1) found
passed es g a own from place old found told le none was answered before =
    let more : place + 1 ≡ suc place = omega arith in
    let stays : globals_to es g (suc place) ≡ globals_to es g place = ap (λ ls. globals_after es ls (globals_to es g place)) none in
    (was ∙ sym stays ∙ sym (ap (globals_to es g) more), answered, event_same es g a own from place le found (ap (told_on a own) stays) before)

-- and where it makes some
pub gone_on : (es : List Noted) (g : Content) (a : Access) (own : Accesses) (from place : ℕ) (made : List Landing) (old new : Content)
    (found last newer : Option Landing) (same : Bool) (told now : Answer) → from ≤ place → made ≡ made_at es place → old ≡ globals_to es g place
    → told ≡ told_on a own old → IsCause es g a own from place found → new ≡ globals_after es made old → now ≡ told_on a own (globals_after es made old)
    → IsLast es made old a own (length made) last → (same ≡ true) ↔ (now ≡ told) → newer ≡ later_of place same last found
    → (new ≡ globals_to es g (place + 1)) × (now ≡ told_on a own new) × IsCause es g a own from (place + 1) newer
gone_on es g a own from place made old new found last newer same told now le is was answered before lands is_now turn says kept =
    let more : place + 1 ≡ suc place = omega arith in
    let behind : globals_after es made old ≡ globals_to es g (suc place) = λ i. globals_after es (is i) (was i) in
    let first : told ≡ told_at es g a own place = answered ∙ ap (told_on a own) was in
    let next : now ≡ told_at es g a own (suc place) = is_now ∙ ap (told_on a own) behind in
    let tells : (same ≡ true) ↔ (told_at es g a own (suc place) ≡ told_at es g a own place) =
    ((λ e. sym next ∙ says.0 e ∙ first), (λ e. says.1 (next ∙ e ∙ sym first))) in
    let within : IsLast es (made_at es place) (globals_to es g place) a own (length (made_at es place)) last =
    subst (λ gs. IsLast es (made_at es place) gs a own (length (made_at es place)) last) was
    (subst (λ ls. IsLast es ls old a own (length ls) last) is turn) in (
      lands ∙ behind ∙ sym (ap (globals_to es g) more),
      is_now ∙ ap (told_on a own) (sym lands),
      subst (IsCause es g a own from (place + 1)) (sym kept) (event_step es g a own from place le found last same tells before within),
    )
