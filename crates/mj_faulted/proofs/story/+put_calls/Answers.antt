use Rattle.std.proofs.Common.{arith}
use Rattle.mj_faulted.specs.Sources.{sources_of}
use Rattle.mj_faulted.proofs.Framing.{call_on}
use Rattle.mj_faulted.proofs.story.+put_calls.Goals as goal

pub returns-in_ok-put_call-in-len1-up : goal.returns-in_ok-put_call-in-len1-up
returns-in_ok-put_call-in-len1-up t c =
    call_on c.put_calls.result c.args.routines.now (sources_of c.args.sources.now) c.args.frames.now c.innermost-item.result c.args.most c.args.bytes.now.items
    c.put_call.new.bytes.items c.put_calls.new.bytes.items c.in-len1-up.len_at_least c.innermost-item.is (omega (arith, c.if-most-eq0.false))
    c.in_ok-put_call-in-len1-up.ensures c.put_calls.ensures
