use Rattle.std.proofs.Common.{◌≢◌, ◌<◌, ◌≤◌, ◌+◌, length, get_or, ◌∙◌, arith}
use Rattle.mj_lex.proofs.Quotes.{read_byte, read_quotes, read_closed, closed_token, closed_rest, open_token, open_rest, take_rest}
use Rattle.mj_lex.proofs.front.quoted.Goals as goal
use Rattle.mj_lex.proofs.front.quoted.Goals.{else-at-bytes-via-then-at-bytes+else-bytes-at-eq34, else-at-bytes-via-else-at-bytes}

pub content-preserved-then-bytes-at-ne34 : goal.content-preserved-then-bytes-at-ne34
content-preserved-then-bytes-at-ne34 c =
    let r = c.content.invariant.read in
    record { within = omega arith; read = (_, read_byte c.args.bytes.now c.content.at r.0 c.content-test.true c.if-bytes-at-ne34.true r.1) }

pub content-preserved : goal.content-preserved
content-preserved c =
    let r = c.content.invariant.read in
    record { within = omega arith; read = (_, read_quotes c.args.bytes.now c.content.at r.0 c.if-at-bytes.true c.if-bytes-at-ne34.false c.if-bytes-at-eq34.true r.1) }

pub returns-else-at-bytes-clause-token : goal.returns-else-at-bytes-clause-token
returns-else-at-bytes-clause-token c =
    let r = c.content.invariant.read in
    let alone : c.content.at + 1 < length c.args.bytes.now → get_or c.args.bytes.now (c.content.at + 1) 0 ≢ 34 =
    elim c.else-at-bytes.branch [
      | else-at-bytes-via-then-at-bytes+else-bytes-at-eq34 w ↦ λ h. w.if-bytes-at-eq34.false
      | else-at-bytes-via-else-at-bytes w ↦ λ h. absurd (omega (arith, h, w.if-at-bytes.false))
    ] in
    closed_token c.args.bytes.now c.content.at r.0 (read_closed c.args.bytes.now c.content.at r.0 c.content-test.true c.if-bytes-at-ne34.false alone r.1) r.1.taken

pub returns-else-at-bytes-clause-rest : goal.returns-else-at-bytes-clause-rest
returns-else-at-bytes-clause-rest c =
    let r = c.content.invariant.read in
    let alone : c.content.at + 1 < length c.args.bytes.now → get_or c.args.bytes.now (c.content.at + 1) 0 ≢ 34 =
    elim c.else-at-bytes.branch [
      | else-at-bytes-via-then-at-bytes+else-bytes-at-eq34 w ↦ λ h. w.if-bytes-at-eq34.false
      | else-at-bytes-via-else-at-bytes w ↦ λ h. absurd (omega (arith, h, w.if-at-bytes.false))
    ] in
    take_rest (c.content.at + 1) c.args.bytes.now ∙ closed_rest c.args.bytes.now c.content.at r.0 (read_closed c.args.bytes.now c.content.at r.0 c.content-test.true c.if-bytes-at-ne34.false alone r.1)

pub returns-clause-token : goal.returns-clause-token
returns-clause-token c =
    let r = c.content.invariant.read in
    let end : length c.args.bytes.now ≤ c.content.at = omega arith in
    open_token c.args.bytes.now c.content.at r.0 end r.1

pub returns-clause-rest : goal.returns-clause-rest
returns-clause-rest c =
    let r = c.content.invariant.read in
    let end : length c.args.bytes.now ≤ c.content.at = omega arith in
    take_rest (length c.args.bytes.now) c.args.bytes.now ∙ open_rest c.args.bytes.now c.content.at r.0 end c.content.invariant.within r.1
