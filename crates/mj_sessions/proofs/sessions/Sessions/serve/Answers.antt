use Rattle.std.proofs.Common.{subst}
use Rattle.mj_sessions.specs.declared.answer.Answer.{Answer}
use Rattle.mj_sessions.specs.Answers.{Answers}
use Rattle.mj_sessions.specs.Named.{Roomy, AreApart}
use Rattle.mj_sessions.proofs.Telling.{told_on}
use Rattle.mj_sessions.proofs.There.{there_behind}
use Rattle.mj_sessions.proofs.sessions.Sessions.serve.Goals as goal

pub returns-clause-told : goal.returns-clause-told
returns-clause-told g c = λ log reply is all.
    let P : Roomy → Type 0 = λ r. AreApart r.sessions in
    told_on log _ _ c.args.ask.now c.args.late c.asked.result reply (subst P c.self.view_is c.self.invariant) all c.asked.ensures.answers is

pub returns-clause-there : goal.returns-clause-there
returns-clause-there g c = λ name reply is.
    let P : Roomy → Type 0 = λ r. AreApart r.sessions in
    let A : Answer → Type 0 = λ a. Answers c.args.self.now.sessions c.args.ask.now c.args.late a c.asked.new.self.sessions in
    there_behind c.args.self.now.sessions c.asked.new.self.sessions c.args.late reply (subst P c.self.view_is c.self.invariant) name c.args.ask.now (subst A is c.asked.ensures.answers)
