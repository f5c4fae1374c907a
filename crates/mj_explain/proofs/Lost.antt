-- An update that was lost, from what each test of it said.
use Rattle.std.proofs.Common.{◌≡◌, ◌≢◌, ℕ, ◌<◌, Bool, true, Result, Ok, Err, IfOk, List}
use Rattle.mj_subs.specs.Name.{Name}
use Rattle.mj_explain.specs.declared.losses.Loss.{Loss}
use Rattle.mj_ask.specs.declared.noted.Noted.{Noted}
use Rattle.mj_explain.specs.Losses.{IsUpdate, IsUnchanged, IsLoss}

pub lost : {E : Type 0} (es : List Noted) (l : Loss) (first second : ℕ) (name : Name) → first ≢ second
    → IsUpdate es first name l.first_look l.first_write → IsUpdate es second name l.second_look l.second_write
    → l.second_look < l.first_write → l.first_write < l.second_write
    → (r : Result Bool E) → IfOk r (λ is. is ≡ true → IsUnchanged es name l.first_write l.second_write) → IfOk r (λ is. is ≡ true → IsLoss es l)
lost es l first second name differ one other early over (Ok is) kept = λ holds. record {
  first = first;
  second = second;
  name = name;
  differ = differ;
  one = one;
  other = other;
  early = early;
  over = over;
  unchanged = kept holds;
}
lost es l first second name differ one other early over (Err refused) kept = tt
