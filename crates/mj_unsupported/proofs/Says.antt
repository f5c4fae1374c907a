-- Answers of tests.
use Rattle.std.proofs.Common.{◌≡◌, ◌⊎◌, inl, inr, sym, Bool, true, false, Result, Ok, Err}
use Rattle.std.specs.Result.{IfOk}
use Rattle.mj_unsupported.specs.Fronts.{Says}

false_true : false ≡ true → ⊥
false_true e = cc

-- what is said of a value that is given
pub ok_as : {A E : Type 0} (r : Result A E) (P Q : A → Type 0) → ((x : A) → P x → Q x) → IfOk r P → IfOk r Q
ok_as (Ok x) P Q f h = f x h
ok_as (Err e) P Q f h = tt

pub says_both : (b x : Bool) (P : Type 0) → x ≡ true → Says b P → Says b ((x ≡ true) × P)
says_both true x P e h = (e, h)
says_both false x P e h = λ i. h i.1

-- a test and a second one that may fail for want of memory
pub ok_both : {E : Type 0} (r : Result Bool E) (x : Bool) (P : Type 0) → x ≡ true → IfOk r (λ b. Says b P) → IfOk r (λ b. Says b ((x ≡ true) × P))
ok_both r x P e h = ok_as r (λ b. Says b P) (λ b. Says b ((x ≡ true) × P)) (λ b s. says_both b x P e s) h

-- an answer to one of two facts that mean the same answers the other
pub says_for : (b : Bool) (P Q : Type 0) → (P → Q) → (Q → P) → Says b P → Says b Q
says_for true P Q f g h = f h
says_for false P Q f g h = λ q. h (g q)

pub ok_for : {E : Type 0} (r : Result Bool E) (P Q : Type 0) → (P → Q) → (Q → P) → IfOk r (λ b. Says b P) → IfOk r (λ b. Says b Q)
ok_for r P Q f g h = ok_as r (λ b. Says b P) (λ b. Says b Q) (λ b s. says_for b P Q f g s) h

pub when_not : (b : Bool) (P : Type 0) → b ≡ false → Says b P → P → ⊥
when_not true P e h = absurd (false_true (sym e))
when_not false P e h = h

-- one of two, where the first was tested
or_other : (P Q : Type 0) → (P → ⊥) → P ⊎ Q → Q
or_other P Q n (inl p) = absurd (n p)
or_other P Q n (inr q) = q

pub ok_or : {E : Type 0} (r : Result Bool E) (b : Bool) (P Q : Type 0) → b ≡ false → Says b P → IfOk r (λ x. Says x Q) → IfOk r (λ x. Says x (P ⊎ Q))
ok_or r b P Q e h i = ok_for r Q (P ⊎ Q) inr (or_other P Q (when_not b P e h)) i

pub when_so : (b : Bool) (P : Type 0) → b ≡ true → Says b P → P
when_so true P e h = h
when_so false P e h = absurd (false_true e)
