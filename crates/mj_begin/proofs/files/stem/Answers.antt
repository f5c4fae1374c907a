use Rattle.std.proofs.Common.{rules, ◌≡◌, true, false, None, arith, sym, ap, ◌∙◌, if◌then◌else◌}
use Rattle.mj_begin.proofs.Names.{before, none_before, whole, stem_by, none_of}
use Rattle.mj_begin.proofs.files.stem.Goals as goal

pub returns-in-Some : goal.returns-in-Some
returns-in-Some c =
    let some : c.is_empty.result ≡ false = search rules in
    sym (ap (λ t. if t then c.args.name.now else c.in-Some.stem.now) some)
    ∙ stem_by c.args.name.now c.in-Some.stem.now c.is_empty.result (before 46 (omega arith) c.args.name.now _ _ c.in-Some.ensures.cases) c.is_empty.ensures

pub returns-in_default : goal.returns-in_default
returns-in_default c =
    let none : c.is_empty.result ≡ true = search rules in
    sym (ap (λ t. if t then c.args.name.now else c.in-Some.stem.now) none)
    ∙ stem_by c.args.name.now c.in-Some.stem.now c.is_empty.result (before 46 (omega arith) c.args.name.now _ _ c.in-Some.ensures.cases) c.is_empty.ensures

pub returns-in_default-2 : goal.returns-in_default-2
returns-in_default-2 c = whole c.args.name.now (none_before 46 (omega arith) c.args.name.now (none_of c.rsplit_once.result _ _ c.rsplit_once.ensures.cases (search rules)))
