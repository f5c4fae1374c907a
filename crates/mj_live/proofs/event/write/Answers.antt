use Rattle.std.proofs.Common.{List, ℕ, subst}
use Rattle.std.specs.Io.KnownBytes.{Appends}
use Rattle.mj_live.proofs.Seen.{flushed, on_ok}
use Rattle.mj_live.proofs.event.write.Goals as goal

pub returns : goal.returns
returns g c =
    let old = g.W.Write.contents c.args.out.now in
    let new = g.W.Write.contents c.flush.new.self in
    on_ok c.flush.result
    (subst (λ (bytes : List ℕ). Appends old new bytes) c.taken-bytes.ensures
    (flushed old (g.W.Write.contents c.write_all.new.self) new c.taken-bytes.result.now c.in_ok-write_all.ensures.bytes c.flush.ensures.bytes))
