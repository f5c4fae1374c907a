use Rattle.std.proofs.Common.{◌≡◌, ◌≤◌, ◌<◌, ◌∷◌, length, subst, Option, Some, None}
use Rattle.std.specs.Prelude.{MatchOption}
use Rattle.mj_ast.specs.Tokens.{Quoted}
use Rattle.mj_lex.specs.Seen.{tokens_seen}
use Rattle.mj_cmd.specs.Heads.{HasNoQuoted}
use Rattle.mj_line.specs.Forms.{Reads}
use Rattle.mj_cmd.proofs.Follow.{reads_err}
use Rattle.mj_cmd.proofs.Layouts.{went_prompt}
use Rattle.mj_cmd.proofs.read.input.Goals as goal

pub returns-in_err-layout-clause-reads : goal.returns-in_err-layout-clause-reads
returns-in_err-layout-clause-reads c = λ m r o condition k done.
    reads_err c.args.phrases.limited _ _ c.from_residual.result c.in_err-layout.field-0.0 m c.args.tokens.now _ _ c.from_residual.ensures.1
    (c.in_err-layout.ensures.reads m r Reads o condition k done)

pub returns-then-begins_layout-clause-reads : goal.returns-then-begins_layout-clause-reads
returns-then-begins_layout-clause-reads c = λ m r o condition k done. c.in_ok-layout.ensures.reads m r Reads o condition k done

-- which of the two was found
none_of : {A : Type 0} (q : Option A) (N : Type 0) (S : A → Type 0) → q ≡ None → MatchOption q N S → N
none_of {A = A} q N S e h = let P : Option A → Type 0 = λ x. MatchOption x N S in subst P e h

some_of : {A : Type 0} (q : Option A) (x : A) (N : Type 0) (S : A → Type 0) → q ≡ Some x → MatchOption q N S → S x
some_of {A = A} q x N S e h = let P : Option A → Type 0 = λ y. MatchOption y N S in subst P e h

pub returns-in-Some-clause-reads : goal.returns-in-Some-clause-reads
returns-in-Some-clause-reads c = λ m r o condition k done.
    let ks = tokens_seen c.args.tokens.now in
    let q = some_of c.in_ok-value.field-0 (c.in-Some.value, c.in-Some.behind) (HasNoQuoted ks) (λ x. (ks ≡ Quoted x.0 ∷ tokens_seen x.1.now) ×
    (length x.0 ≤ 1048576) × (length x.1.now < length c.args.tokens.now)) c.in-Some.is c.in_ok-value.ensures in
    went_prompt c.args.phrases.limited m c.args.tokens.now c.in-Some.behind.now c.in-Some.value o condition k done q.0 q.1

pub returns-in_err-received-in-None-clause-reads : goal.returns-in_err-received-in-None-clause-reads
returns-in_err-received-in-None-clause-reads c = λ m r o condition k done.
    let ks = tokens_seen c.args.tokens.now in
    let u = c.begins_layout.ensures.no c.if-begins_layout.false in
    let q = none_of c.in_ok-value.field-0 (HasNoQuoted ks) (λ x. (ks ≡ Quoted x.0 ∷ tokens_seen x.1.now) × (length x.0 ≤ 1048576) ×
    (length x.1.now < length c.args.tokens.now)) c.in-None.is c.in_ok-value.ensures in
    reads_err c.args.phrases.limited _ _ c.from_residual-in_err-received-in-None.result c.in_err-received-in-None.field-0.0 m c.args.tokens.now _ _ c.from_residual-in_err-received-in-None.ensures.1
    (c.in_err-received-in-None.ensures.reads m r u.0 u.1 q o condition k done)

pub returns-in_ok-received-in-None-clause-reads : goal.returns-in_ok-received-in-None-clause-reads
returns-in_ok-received-in-None-clause-reads c = λ m r o condition k done.
    let ks = tokens_seen c.args.tokens.now in
    let u = c.begins_layout.ensures.no c.if-begins_layout.false in
    let q = none_of c.in_ok-value.field-0 (HasNoQuoted ks) (λ x. (ks ≡ Quoted x.0 ∷ tokens_seen x.1.now) × (length x.0 ≤ 1048576) ×
    (length x.1.now < length c.args.tokens.now)) c.in-None.is c.in_ok-value.ensures in
    c.in_ok-received-in-None.ensures.reads m r u.0 u.1 q o condition k done
