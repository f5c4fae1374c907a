use Rattle.std.proofs.Common.{◌≡◌, ◌≤◌, ◌+◌, ◌*◌, drop, length}
use Rattle.mj_nref.specs.Spelling.{rest_text}
use Rattle.mj_nref.proofs.spelling.subscripts_len.Given as goal

abbrev pub invariant-loop-sub : goal.invariant-loop-sub
invariant-loop-sub l = (l.len + length (rest_text (drop l.sub-index l.subs)) ≡ l.front + length (rest_text l.subs) + 1) × (l.len ≤ 4 * 1048576)
