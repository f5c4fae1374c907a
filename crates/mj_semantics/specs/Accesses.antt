-- Questions on trees, and changes of them: of the job's own, and of the globals, which all jobs share.
use Rattle.std.specs.Prelude.{ℕ, List, [], Option, None, Result, Ok, Err, if◌then◌else◌}
use Rattle.mj_text.specs.declared.fault.Fault.{Fault}
use Rattle.mj_text.specs.declared.fault.Fault.TheVariants.{Limit}
use Rattle.mj_store.specs.Questions.{Subtree}
use Rattle.mj_subs.specs.Name.{Name}
use Rattle.mj_store.specs.Runs.{name_of, answer_of}
use Rattle.mj_store.specs.declared.access.Access.{Access}
use Rattle.mj_store.specs.declared.access.Answer.{Answer}
use Rattle.mj_store.specs.declared.access.Answer.TheVariants as answers
use Rattle.mj_ask.specs.declared.ask.Ask.TheVariants as asks
use Rattle.mj_ask.specs.declared.ask.SharedAsk.TheVariants as shared_asks
use Rattle.mj_ask.specs.declared.ask.Reply.{Reply}
use Rattle.mj_ask.specs.declared.ask.Reply.TheVariants as replies
use Rattle.mj_semantics.specs.State.{accessed}
use Rattle.mj_semantics.specs.Outcome.{Timed, look, change, ask, given}

-- the answer that a reply brings
abbrev pub answer_told : Reply → Answer
answer_told (replies.Answer a) = a
answer_told _ = answers.Done

-- an answer; that a limit is passed is LIMIT
abbrev pub answered : Answer → Result Answer Fault
answered answers.Limit = Err Limit
answered (answers.Value v) = Ok (answers.Value v)
answered (answers.Data d) = Ok (answers.Data d)
answered (answers.Order s) = Ok (answers.Order s)
answered (answers.Query x) = Ok (answers.Query x)
answered (answers.Subtree nodes) = Ok (answers.Subtree nodes)
answered answers.Done = Ok answers.Done

-- an access, and then the rest with its answer: to a local at once, to a global by an ask
abbrev pub access : Access → (Answer → Timed) → Timed
access a rest =
    if (name_of a).global
    then ask (asks.Shared (shared_asks.Access a)) (λ r. given (answered (answer_told r)) rest)
    else look (λ s. change (accessed a) (given (answered (answer_of a s.locals)) rest))

-- whether there is a value, and descendants, as an answer brings it: 0, 1, 10 or 11
abbrev pub data_told : Answer → ℕ
data_told (answers.Data d) = d
data_told _ = 0

-- the subscript that an answer brings
abbrev pub order_told : Answer → Option (List ℕ)
order_told (answers.Order s) = s
order_told _ = None

-- the name that an answer brings
abbrev pub query_told : Answer → Option Name
query_told (answers.Query x) = x
query_told _ = None

-- the value that an answer brings
abbrev pub value_told : Answer → Option (List ℕ)
value_told (answers.Value v) = v
value_told _ = None

-- the nodes that an answer brings
abbrev pub nodes_told : Answer → Subtree
nodes_told (answers.Subtree nodes) = nodes
nodes_told _ = []
