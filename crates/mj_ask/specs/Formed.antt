-- Which asks and parts of replies are formed: they hold what can be written, each in one way, so that what is written is read back.
use Rattle.std.specs.Prelude.{ℕ, Some, None, Bool, true, not, ◌&&◌, List, [], ◌∷◌, length, nat_lt, nat_le}
use Rattle.std.specs.List.{list_all}
use Rattle.std.specs.FinMap.{is_sorted}
use Rattle.std.specs.Ordering.{is_lt}
use Rattle.mj_subs.specs.Name.{Name, is_word}
use Rattle.mj_subs.specs.Collation.{subscripts_cmp}
use Rattle.mj_store.specs.Nodes.{is_empty}
use Rattle.mj_store.specs.Questions.{Subtree}
use Rattle.mj_store.specs.declared.access.Access.{Access}
use Rattle.mj_store.specs.declared.access.Access.TheVariants as accesses
use Rattle.mj_store.specs.declared.access.Answer.{Answer}
use Rattle.mj_store.specs.declared.access.Answer.TheVariants as answers_are
use Rattle.mj_ask.specs.Written.{is_entry}
use Rattle.mj_ask.specs.declared.clash.Kept.{Kept}
use Rattle.mj_ask.specs.declared.clash.Kept.TheVariants as kepts
use Rattle.mj_ask.specs.declared.clash.Clash.{Clash}
use Rattle.mj_ask.specs.declared.ask.Ask.{Ask}
use Rattle.mj_ask.specs.declared.ask.Ask.TheVariants as asks
use Rattle.mj_ask.specs.declared.ask.SharedAsk.{SharedAsk}
use Rattle.mj_ask.specs.declared.ask.SharedAsk.TheVariants as shared_asks
use Rattle.mj_ask.specs.declared.ask.Reply.{Reply}
use Rattle.mj_ask.specs.declared.ask.Reply.TheVariants as replies

-- the subscript has a byte
abbrev pub is_filled : List ℕ → Bool
is_filled s = not (is_empty s)

-- each of the subscripts has a byte
abbrev pub are_filled : List (List ℕ) → Bool
are_filled p = list_all is_filled p

-- the same, but that the last may have none
abbrev pub are_filled_before_last : List (List ℕ) → Bool
are_filled_before_last [] = true
are_filled_before_last (s ∷ []) = true
are_filled_before_last (s ∷ t ∷ p) = is_filled s && are_filled_before_last (t ∷ p)

-- a name: its word is one, and it has at most 31 subscripts, each with a byte
abbrev pub is_name : Name → Bool
is_name n = is_word n.word && nat_le (length n.subscripts) 31 && are_filled n.subscripts

-- the name of a global
abbrev pub is_global_name : Name → Bool
is_global_name n = n.global && is_name n

-- the name of a global at which a search begins: its last subscript may be empty
abbrev pub is_search_name : Name → Bool
is_search_name n = n.global && is_word n.word && nat_le (length n.subscripts) 31 && are_filled_before_last n.subscripts

-- nodes: the lists of subscripts rise, so each stands once, and each subscript has a byte
abbrev pub is_subtree : Subtree → Bool
is_subtree nodes = is_sorted subscripts_cmp nodes && list_all (λ e. are_filled e.0) nodes

-- the nodes start after these subscripts, if there are any
abbrev pub starts_after : List (List ℕ) → Subtree → Bool
starts_after p [] = true
starts_after p (e ∷ es) = is_lt (subscripts_cmp p e.0)

-- an access is to a global, and the empty subscript is one to search from alone
abbrev pub is_access : Access → Bool
is_access (accesses.Value n) = is_global_name n
is_access (accesses.Data n) = is_global_name n
is_access (accesses.Order n way) = is_search_name n
is_access (accesses.Query n) = is_search_name n
is_access (accesses.Subtree n) = is_global_name n
is_access (accesses.Set n v) = is_global_name n
is_access (accesses.Kill n) = is_global_name n
is_access (accesses.Put n nodes) = is_global_name n && is_subtree nodes

-- names of a lock, of which there is one at least
abbrev pub are_names : List Name → Bool
are_names names = nat_lt 0 (length names) && list_all is_name names

-- an ask of what all share that can be written
abbrev pub is_shared_ask : SharedAsk → Bool
is_shared_ask (shared_asks.Access a) = is_access a
is_shared_ask (shared_asks.Try names timeout) = are_names names
is_shared_ask (shared_asks.Unlock names) = are_names names
is_shared_ask (shared_asks.Start start timeout) = is_entry start.entry
is_shared_ask _ = true

-- an ask that can be written: each is that isn't of what all share
abbrev pub is_ask : Ask → Bool
is_ask (asks.Shared a) = is_shared_ask a
is_ask _ = true

-- what a clash keeps of a reply
abbrev pub is_kept : Kept → Bool
is_kept (kepts.Name n) = is_global_name n
is_kept (kepts.Subtree nodes) = is_subtree nodes
is_kept _ = true

-- a clash: accesses are numbered from 1
abbrev pub is_clash : Clash → Bool
is_clash clash = nat_lt 0 clash.place && is_kept clash.then && is_kept clash.now

-- an answer: a subscript that isn't empty, the name of a global, nodes in order
abbrev pub is_answer : Answer → Bool
is_answer (answers_are.Order s) = elim s [ None ↦ true | Some t ↦ is_filled t ]
is_answer (answers_are.Query m) = elim m [ None ↦ true | Some n ↦ is_global_name n ]
is_answer (answers_are.Subtree nodes) = is_subtree nodes
is_answer _ = true

-- a reply that can be written
abbrev pub is_reply : Reply → Bool
is_reply (replies.Answer x) = is_answer x
is_reply (replies.Clash clash) = is_clash clash
is_reply _ = true
