-- What a run says of the tokens, in the grammar's words.
use Rattle.std.proofs.Common.{◌≡◌, ◌≤◌, List, refl, sym, subst, true, false, arith}
use Rattle.mj_ast.specs.Syntax.{Line}
use Rattle.mj_ast.specs.Tokens.{Token}
use Rattle.mj_ast.specs.Lines.{HasOverlong}
use Rattle.mj_expr.specs.Machine.{Limits}
use Rattle.mj_expr.specs.Reads.{limits}
use Rattle.mj_expr.specs.declared.stop.ParseError.{ParseError}
use Rattle.mj_expr.specs.declared.stop.ParseError.TheVariants as stop
use Rattle.mj_line.specs.Sentences.{Sentence}
use Rattle.mj_line.specs.Machine.{At, Begin, Accept, run}
use Rattle.mj_line.proofs.Outcomes as outcomes
use Rattle.mj_line.proofs.Said as runs
use Rattle.mj_cmd.specs.Reads.{Refuses, IsWrittenLine}
use Rattle.mj_cmd.specs.Said.{IsRead, RefusalSays, IsLate}

-- the line of these commands was read
pub read_as : (ks : List Token) (t : Sentence) (l : Line) → IsWrittenLine t l → run (limits 64) ks (At Begin) ≡ Accept t → IsRead ks l
read_as ks t l e h = let r = outcomes.said_read ks t e.0 l (sym e.1) e.2 h in record { spells = r.spells; within = r.within; only = r.only; short = r.short }

-- what is known beside a refusal: of a level too many, that nothing is over its limit
abbrev pub IsKnown : List Token → ParseError → Type 0
IsKnown ks (stop.Deep n) = HasOverlong ks → ⊥
IsKnown ks e = Unit {0}

said_refused : (ks : List Token) (e : ParseError) → IsKnown ks e → Refuses true e (run (limits 64) ks (At Begin)) → RefusalSays ks e
said_refused ks stop.Memory k h = tt
said_refused ks (stop.Stuck n) k h = let r = outcomes.said_stuck ks n h in record { place = r.place; left_is = r.left_is; stuck = r.stuck; short = r.short }
said_refused ks (stop.Deep n) k h = let r = outcomes.said_deep ks n h.1 in record { place = r.place; left_is = r.left_is; deep = r.deep; short = k }
said_refused ks stop.Long k h = outcomes.said_long (limits 64) ks (omega arith) refl h

pub refused_as : (ks : List Token) (e f : ParseError) → e ≡ f → IsKnown ks f → Refuses true e (run (limits 64) ks (At Begin)) → RefusalSays ks f
refused_as ks e f i k h =
    let P : ParseError → Type 0 = λ x. Refuses true x (run (limits 64) ks (At Begin)) in
    said_refused ks f k (subst P i h)

-- what a reading without the limit on levels comes to
abbrev pub IsFound : List Token → ParseError → Type 0
IsFound ks stop.Memory = Unit {0}
IsFound ks (stop.Stuck n) = HasOverlong ks → ⊥
IsFound ks (stop.Deep n) = HasOverlong ks → ⊥
IsFound ks stop.Long = HasOverlong ks

found_by : (m : Limits) (ks : List Token) (e : ParseError) → 1 ≤ m.depth → m.width ≡ 31 → Refuses false e (run m ks (At Begin)) → IsFound ks e
found_by m ks stop.Memory d w h = tt
found_by m ks (stop.Stuck n) d w h = runs.short_stuck m ks n d w h
found_by m ks (stop.Deep n) d w h = absurd (let z : false ≡ true = h.0 in cc)
found_by m ks stop.Long d w h = outcomes.said_long m ks d w h

pub found : (m : Limits) (ks : List Token) (e f : ParseError) → 1 ≤ m.depth → m.width ≡ 31 → e ≡ f → Refuses false e (run m ks (At Begin)) → IsFound ks f
found m ks e f d w i h = let P : ParseError → Type 0 = λ x. IsFound ks x in subst P i (found_by m ks e d w h)

pub short_accept : (m : Limits) (ks : List Token) (l : Sentence) → 1 ≤ m.depth → m.width ≡ 31 → run m ks (At Begin) ≡ Accept l → HasOverlong ks → ⊥
short_accept m ks l d w h = runs.short_accept m ks l d w h

pub late_refused : (ks : List Token) (e : ParseError) → IsLate ks e → RefusalSays ks e
late_refused ks stop.Memory h = tt
late_refused ks (stop.Stuck n) h = absurd h
late_refused ks (stop.Deep n) h = absurd h
late_refused ks stop.Long h = h
