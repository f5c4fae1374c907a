use Rattle.std.proofs.Common.{sym}
use Rattle.mj_guide.proofs.Named.{reads_more, reads_named, reads_none, reads_over, reads_some}
use Rattle.mj_guide.proofs.reading.name_of.Goals as goal

pub returns-in_default-clause-none : goal.returns-in_default-clause-none
returns-in_default-clause-none c = λ name is same. reads_none c.args.bytes.now c.in_ok-read.field-0 c.in_ok-read.ensures c.in_default.is name is same

pub returns-in_default-read-clause-none : goal.returns-in_default-read-clause-none
returns-in_default-read-clause-none c = λ name is same.
    let says = reads_some c.args.bytes.now c.in_ok-read.field-0 c.in-Some.read c.in-Some.rest c.in_ok-read.ensures c.in-Some.is in
    reads_over c.args.bytes.now c.in-Some.read c.in-Some.rest.now says c.in_default-read.is name is same

pub returns-then-not-is_empty-clause-none : goal.returns-then-not-is_empty-clause-none
returns-then-not-is_empty-clause-none c = λ name is same.
    let says = reads_some c.args.bytes.now c.in_ok-read.field-0 c.in-Some.read c.in-Some.rest c.in_ok-read.ensures c.in-Some.is in
    reads_more c.args.bytes.now c.in-Some.read c.in-Some.rest.now says (sym c.if-not-is_empty.ensures) name is same

pub returns-clause-some : goal.returns-clause-some
returns-clause-some c =
    let says = reads_some c.args.bytes.now c.in_ok-read.field-0 c.in-Some.read c.in-Some.rest c.in_ok-read.ensures c.in-Some.is in
    reads_named c.args.bytes.now c.in-Some.read c.in-Some.rest.now c.in-Within.name says c.in-Within.is (sym c.if-not-is_empty.ensures)
