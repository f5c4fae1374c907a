use Rattle.std.proofs.Common.{Some, None}
use Rattle.mj_text.proofs.FindLemmas.{FindsNeedle-text, FindsNeedle-find_from}
use Rattle.mj_text.proofs.text.Text.find.Goals as goal

pub returns-in-Some-clause-place : goal.returns-in-Some-clause-place
returns-in-Some-clause-place c =
    FindsNeedle-text _ _ _ _ c.args.start c.bytes-bytes.ensures.value c.bytes-part.ensures.value c.if-start-bytes.false (Some c.in-Some.place) c.in-Some.ensures

pub returns-in-Some-clause-value : goal.returns-in-Some-clause-value
returns-in-Some-clause-value c = FindsNeedle-find_from c.args.part.now c.args.self.now c.args.start (Some _) (returns-in-Some-clause-place c)

pub returns-in-None-clause-place : goal.returns-in-None-clause-place
returns-in-None-clause-place c =
    FindsNeedle-text _ _ _ _ c.args.start c.bytes-bytes.ensures.value c.bytes-part.ensures.value c.if-start-bytes.false None c.in-None.ensures

pub returns-in-None-clause-value : goal.returns-in-None-clause-value
returns-in-None-clause-value c = FindsNeedle-find_from c.args.part.now c.args.self.now c.args.start None (returns-in-None-clause-place c)
