-- What a list of accesses answers, and what it leaves.
use Rattle.std.specs.Prelude.{cond, List, [], ◌∷◌}
use Rattle.mj_subs.specs.Name.{Name}
use Rattle.mj_store.specs.Questions.{Content, value_at, data_at, order_at, query_at, subtree_at}
use Rattle.mj_store.specs.Changes.{after_set, after_kill, after_put, is_too_deep}
use Rattle.mj_store.specs.declared.access.Access.{Access}
use Rattle.mj_store.specs.declared.access.Access.TheVariants as access
use Rattle.mj_store.specs.declared.access.Answer.{Answer}
use Rattle.mj_store.specs.declared.access.Answer.TheVariants as answer

-- the name that an access is to
abbrev pub name_of : Access → Name
name_of (access.Value n) = n
name_of (access.Data n) = n
name_of (access.Order n way) = n
name_of (access.Query n) = n
name_of (access.Subtree n) = n
name_of (access.Set n text) = n
name_of (access.Kill n) = n
name_of (access.Put n nodes) = n

-- the answer to an access. A change is answered that it is done, or that it would give a name too many subscripts
abbrev pub answer_of : Access → Content → Answer
answer_of (access.Value n) content = answer.Value (value_at content n)
answer_of (access.Data n) content = answer.Data (data_at content n)
answer_of (access.Order n way) content = answer.Order (order_at content n way)
answer_of (access.Query n) content = answer.Query (query_at content n)
answer_of (access.Subtree n) content = answer.Subtree (subtree_at content n)
answer_of (access.Set n text) content = answer.Done
answer_of (access.Kill n) content = answer.Done
answer_of (access.Put n nodes) content = cond (is_too_deep n nodes) answer.Limit answer.Done

-- what an access leaves. A question leaves all as it is, and so does what would give a name too many subscripts
abbrev pub after_access : Access → Content → Content
after_access (access.Set n text) content = after_set content n text
after_access (access.Kill n) content = after_kill content n
after_access (access.Put n nodes) content = cond (is_too_deep n nodes) content (after_put content n nodes)
after_access _ content = content

-- the answers to a list of accesses, each on what those before it leave
abbrev pub answers_of : List Access → Content → List Answer
answers_of [] content = []
answers_of (a ∷ rest) content = answer_of a content ∷ answers_of rest (after_access a content)

-- what a list of accesses leaves
abbrev pub after_accesses : List Access → Content → Content
after_accesses [] content = content
after_accesses (a ∷ rest) content = after_accesses rest (after_access a content)
