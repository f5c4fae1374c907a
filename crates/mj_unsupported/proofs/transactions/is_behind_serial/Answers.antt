use Rattle.std.proofs.Common.{◌∷◌, [], subst, List}
use Rattle.mj_ast.specs.declared.sign.Sign.TheVariants.{Open}
use Rattle.mj_ast.specs.Tokens.{Token, Signed}
use Rattle.mj_ast.specs.LeftOut.{IsBehindSerial}
use Rattle.mj_lex.specs.Seen.{tokens_seen}
use Rattle.mj_unsupported.specs.Fronts.{IsBehindStart, IsFront}
use Rattle.mj_unsupported.proofs.Fronts.{front_less, enclosed_on, enclosed_off, bare_on, bare_off}
use Rattle.mj_unsupported.proofs.Says.{ok_for}
use Rattle.mj_unsupported.proofs.transactions.is_behind_serial.Goals as goal

pub is_behind_start-requires-in-Some : goal.is_behind_start-requires-in-Some
is_behind_start-requires-in-Some c =
    let P : List Token → Type 0 = λ ks. IsFront ks in
    front_less (tokens_seen c.in-Some.before.now) (Signed Open ∷ []) (subst P c.in-Some.ensures c.requires)

pub returns-in-None : goal.returns-in-None
returns-in-None c =
    let front = tokens_seen c.args.front.now in
    ok_for c.is_behind_start.result (IsBehindStart front) (IsBehindSerial front) (bare_on front) (bare_off front c.in-None.ensures) c.is_behind_start.ensures

pub returns-in-Some : goal.returns-in-Some
returns-in-Some c =
    let front = tokens_seen c.args.front.now in
    let before = tokens_seen c.in-Some.before.now in
    ok_for c.is_behind_start-in-Some.result (IsBehindStart before) (IsBehindSerial front) (enclosed_on front before c.in-Some.ensures)
    (enclosed_off front before c.in-Some.ensures) c.is_behind_start-in-Some.ensures
