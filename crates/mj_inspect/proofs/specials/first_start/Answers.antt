use Rattle.std.proofs.Common.{◌≡◌, ◌≤◌, ◌+◌, ◌-◌, ◌<◌, length, arith}
use Rattle.mj_inspect.proofs.Started.{is_numbered, nowhere_zero, nowhere_past}
use Rattle.mj_inspect.proofs.specials.first_start.Goals as goal

pub returns-then-number-eq0-clause-none : goal.returns-then-number-eq0-clause-none
returns-then-number-eq0-clause-none c = nowhere_zero c.args.starts.now c.args.number c.if-number-eq0.true

pub returns-then-at-starts-clause-none : goal.returns-then-at-starts-clause-none
returns-then-at-starts-clause-none c =
    let at = c.args.number - 1 in
    let past : length c.args.starts.now ≤ at = omega (arith, c.if-at-starts.true) in
    let next : c.args.number ≡ at + 1 = omega (arith, c.if-number-eq0.false) in
    nowhere_past c.args.starts.now c.args.number at next past

pub returns-clause-some : goal.returns-clause-some
returns-clause-some c =
    let starts = c.args.starts.now in
    let at = c.args.number - 1 in
    let less : at < length starts = omega (arith, c.if-at-starts.false) in
    let next : c.args.number ≡ at + 1 = omega (arith, c.if-number-eq0.false) in
    is_numbered starts at c.args.number c.index-starts-at.result less c.index-starts-at.is next
