-- What a run asks can be written: the words that runs are made of keep this.
use Rattle.std.proofs.Common.{◌≡◌, ℕ, zero, suc, List, [], ◌∷◌, length, map, Bool, true, false, Option, Some, None, Result, Ok, Err, refl, arith}
use Rattle.std.specs.Prelude.{ℤ, pos, int_lt, ◌+ℤ◌, not, cond, nat_eq, nat_lt, nat_le, if◌then◌else◌}
use Rattle.std.specs.List.{list_all}
use Rattle.std.proofs.lemmas.Bool.{lt-ltb}
use Rattle.mj_text.specs.Limit.{within_limit}
use Rattle.mj_text.specs.declared.limit.Limit.{Limit as TextLimit}
use Rattle.mj_text.specs.declared.fault.Fault.{Fault}
use Rattle.mj_text.specs.declared.fault.Fault.TheVariants.{Undefined, ForIndex, Steps, Quit as WrongQuit, QuitInTransaction, Depth, NoTransaction, NoRestart, InTransaction, Limit, Device, NoDevice}
use Rattle.mj_text.specs.Failing.{then_value}
use Rattle.mj_num.specs.Number.{reading, sum_of, canonic_text}
use Rattle.mj_subs.specs.Name.{Name, overlaps}
use Rattle.mj_subs.specs.Collation.{subscripts_cmp}
use Rattle.std.specs.FinMap.{is_sorted}
use Rattle.mj_store.specs.Questions.{Subtree, Content}
use Rattle.mj_store.specs.Changes.{is_too_deep}
use Rattle.mj_store.specs.Runs.{name_of, answer_of, after_access}
use Rattle.mj_store.specs.declared.store.Direction.{Direction}
use Rattle.mj_store.specs.declared.access.Access.{Access}
use Rattle.mj_store.specs.declared.access.Access.TheVariants as accesses
use Rattle.mj_store.specs.declared.access.Answer.{Answer}
use Rattle.mj_store.specs.declared.access.Answer.TheVariants as answers_are
use Rattle.mj_ask.specs.declared.ask.Ask.{Ask}
use Rattle.mj_ask.specs.declared.ask.Ask.TheVariants as ask_kinds
use Rattle.mj_ask.specs.declared.ask.SharedAsk.TheVariants as shared_asks
use Rattle.mj_ask.specs.declared.ask.DeviceAsk.{DeviceAsk}
use Rattle.mj_ask.specs.declared.ask.DeviceAsk.TheVariants as device_asks
use Rattle.mj_ask.specs.declared.ask.Reply.{Reply}
use Rattle.mj_ask.specs.declared.ask.Reply.TheVariants as replies_are
use Rattle.mj_ask.specs.declared.entry.Entry.{Entry}
use Rattle.mj_ask.specs.Fits.{is_late}
use Rattle.mj_ask.specs.Written.{is_entry}
use Rattle.mj_ask.specs.Formed.{are_filled, is_name, is_global_name, is_subtree, are_names, is_access, is_ask, is_reply}
use Rattle.mj_ask.proofs.Lists.{both_true, and_true}
use Rattle.mj_ast.specs.declared.routine.LockMode.{LockMode}
use Rattle.mj_ast.specs.declared.routine.LockMode.TheVariants as mode
use Rattle.mj_ast.specs.declared.function.NameFunction.{NameFunction}
use Rattle.mj_ast.specs.declared.function.NameFunction.TheVariants as names
use Rattle.mj_ast.specs.declared.routine.FormatMark.{FormatMark}
use Rattle.mj_ast.specs.declared.routine.ReadMode.{ReadMode}
use Rattle.mj_ast.specs.Syntax.{Renewed, Fresh, Kept}
use Rattle.mj_strfn.specs.Functions.{assigned_pieces, set_piece_value}
use Rattle.mj_semantics.specs.State.{State, Frame, Words as Listed, Only, AllBut, accessed, wrote, broke, counted, hold, has_failed, principal, ending_order, is_at_mark, newed, devices_limit, is_open, may_close, column_at, with_device, used, dropped, marked, raised, lowered, settled, can_restart, is_serial, restarted, is_function, is_in_function}
use Rattle.mj_semantics.specs.Outcome.{Outcome, Needs, Ended, More, Handler, Timed, turn, turns, look, change, asking, over, no_restart, until, restartable, go_back, halt, ends, end, fault_bytes, fault, ask, tell, is_failed, to_device, need, given, composed}
use Rattle.mj_semantics.specs.Names.{direction_of, spelled, function_told}
use Rattle.mj_semantics.specs.Functions.{needed, optional}
use Rattle.mj_semantics.specs.Accesses.{answer_told, answered, access, value_told, nodes_told}
use Rattle.mj_semantics.specs.Evaluation.{read, about}
use Rattle.mj_semantics.specs.Points.{Loop, Once, Always, By}
use Rattle.mj_semantics.specs.Sharing.{is_limit, in_time, served, out_of_transaction, hang, start_job, unlock_all, take_names, give_names, lock}
use Rattle.mj_semantics.specs.Commands.{Aim, Whole, Part, store, or_empty, renewed, assign_piece, put, put_all, remove, named, take_nodes, put_these, put_nodes, renewal, new_list, new_all, frames_limit, quit_frame, deeper, write, tab_bytes, tab, coded, write_code, if_test, is_within, stepped, for_again, first, reading_two, end_frame, in_function}
use Rattle.mj_semantics.specs.Transactions.{levels_limit, kind_of, begin_transaction, in_transaction, is_clash, commit, roll_back, roll_back_for_restart, begin_restart}
use Rattle.mj_semantics.specs.Devices.{is_got, has_no_session, obtained, request_device, begin_session, open_device, use_device, end_session, give_up, close, is_input, input_ask, input_told, read_input}
use Rattle.mj_rou.specs.Words.{Each}
use Rattle.mj_written.specs.Formed.{are_locals, IsLine}
use Rattle.mj_written.proofs.Locals.{subtree_fits, set_stays, kill_stays, put_kept}
use Rattle.mj_written.proofs.Names.{IsNamed, IsSought, name_is, global_is, search_is, local_is, Suits}
use Rattle.mj_written.proofs.States.{IsFormed, IsFramed, news, holds_on, times, marks, raises, lowers, settles, restarts as goes_back}

-- what is asked can be written, the locals there are formed, and so are the places of the frames
abbrev pub IsFine : Outcome → Type 0
IsFine (Needs a locals at) = (is_ask a ≡ true) × (are_locals locals ≡ true) × Each IsLine at
IsFine Ended = Unit {0}
IsFine More = Unit {0}

-- the replies can be written
abbrev pub AreTold : List Reply → Type 0
AreTold rs = list_all is_reply rs ≡ true

-- so is what a restart comes to
pub record IsBack (h : Handler) : Type 0 where
  pub by : (m : ℕ) (s : State) (rs : List Reply) → IsFormed s → AreTold rs → IsFine (h m s rs)

-- and what a run comes to from what is formed
pub record Asks (f : Timed) : Type 0 where
  pub by : (n : ℕ) (h : Handler) (s : State) (rs : List Reply) → IsBack h → IsFormed s → AreTold rs → IsFine (f n h s rs)

-- Turns.

pub a_turn : {f : Timed} → Asks f → Asks (turn f)
a_turn {f} l = record { by = at }
  where
    at : (n : ℕ) (h : Handler) (s : State) (rs : List Reply) → IsBack h → IsFormed s → AreTold rs → IsFine (turn f n h s rs)
    at zero h s rs e k t = tt
    at (suc n) h s rs e k t = l.by n h s rs e k t

pub some_turns : {f : Timed} (k : ℕ) → Asks f → Asks (turns k f)
some_turns zero l = l
some_turns (suc k) l = a_turn (some_turns k l)

-- Words.

pub looked : {f : State → Timed} → ((s : State) → IsFormed s → Asks (f s)) → Asks (look f)
looked l = record { by = λ n h s rs e k t. (l s k).by n h s rs e k t }

pub changed : {c : State → State} {f : Timed} → ((s : State) → IsFormed s → IsFormed (c s)) → Asks f → Asks (change c f)
changed {c = c} p l = record { by = λ n h s rs e k t. l.by n h (c s) rs e (p s k) t }

pub chosen : {f f' : Timed} (c : Bool) → Asks f → Asks f' → Asks (if c then f else f')
chosen true l m = l
chosen false l m = m

lines_of : (fs : List Frame) → Each IsFramed fs → Each IsLine (map (λ f. f.place) fs)
lines_of [] k = tt
lines_of (f ∷ fs) k = (k.0, lines_of fs k.1)

pub replied_to : (a : Ask) {f : Reply → Timed} → is_ask a ≡ true → ((r : Reply) → is_reply r ≡ true → Asks (f r)) → Asks (asking a f)
replied_to a {f} q l = record { by = at }
  where
    at : (n : ℕ) (h : Handler) (s : State) (rs : List Reply) → IsBack h → IsFormed s → AreTold rs → IsFine (asking a f n h s rs)
    at n h s [] e k t = (q, k.locals, lines_of s.frames k.frames)
    at n h s (r ∷ rs) e k t = let b = both_true (is_reply r) (list_all is_reply rs) t in (l r b.0).by n h s rs e k b.1

is_over : Asks over
is_over = a_turn (record { by = λ n h s rs e k t. tt })

halted : {f : Option Fault} → Asks (halt f)
halted {f} = a_turn (replied_to _ refl (λ r p. is_over))

all_end : (f : Option Fault) (names : List (List ℕ)) → Asks (ends names f)
all_end f [] = halted
all_end f (name ∷ names) = a_turn (replied_to _ refl (λ r p. all_end f names))

pub ended : {f : Option Fault} → Asks (end f)
ended {f = f} = looked (λ s k. all_end f (ending_order s.devices))

pub faulted : {f : Fault} → Asks (fault f)
faulted {f} = a_turn (looked (λ s k. chosen (has_failed principal s) (ended {f = Some f})
    (replied_to (ask_kinds.Device principal (device_asks.Write (fault_bytes f s))) refl (λ r p. ended {f = Some f}))))

pub needs : {A : Type 0} (f : Fault) {g : A → Timed} (o : Option A) → ((v : A) → Asks (g v)) → Asks (need f o g)
needs f None l = faulted
needs f (Some v) l = l v

-- the result is known
pub is_known : {A : Type 0} {g : A → Timed} (r : Result A Fault) → ((v : A) → r ≡ Ok v → Asks (g v)) → Asks (given r g)
is_known (Ok v) l = l v refl
is_known (Err f) l = faulted

pub is_given : {A : Type 0} {g : A → Timed} (r : Result A Fault) → ((v : A) → Asks (g v)) → Asks (given r g)
is_given r l = is_known r (λ v e. l v)

pub is_composed : {g : List ℕ → Timed} (text : TextLimit → Result (List ℕ) Fault) → ((v : List ℕ) → Asks (g v)) → Asks (composed text g)
is_composed text l = looked (λ s k. is_given (text s.bounds.limit) l)

count_on : (s : State) → IsFormed s → IsFormed (counted s)
count_on s h = record { locals = h.locals; saved = h.saved; mark = h.mark; held = h.held; frames = h.frames }

breaks : (name : List ℕ) (s : State) → IsFormed s → IsFormed (broke name s)
breaks name s h = record { locals = h.locals; saved = h.saved; mark = h.mark; held = h.held; frames = h.frames }

pub asked : (a : Ask) {f : Reply → Timed} → is_ask a ≡ true → ((r : Reply) → is_reply r ≡ true → Asks (f r)) → Asks (ask a f)
asked a q l = looked (λ s k. chosen (nat_lt s.replied s.bounds.events) (replied_to a q (λ r p. changed {c = counted} count_on (l r p))) (faulted {f = Steps}))

-- each ask of a device can be written
pub to_its_device : (name : List ℕ) (a : DeviceAsk) {f : Reply → Timed} → ((r : Reply) → is_reply r ≡ true → Asks (f r)) → Asks (to_device name a f)
to_its_device name a l = asked (ask_kinds.Device name a) refl (λ r p. chosen (is_failed r) (changed {c = broke name} (breaks name) (faulted {f = Device})) (l r p))

-- Restarts.

-- no restart
pub none_back : IsBack no_restart
none_back = record { by = at }
  where
    at : (m : ℕ) (s : State) (rs : List Reply) → IsFormed s → AreTold rs → IsFine (no_restart m s rs)
    at zero s rs k t = tt
    at (suc m) s rs k t = tt

pub gone_back : Asks go_back
gone_back = record { by = λ n h s rs e k t. e.by n s rs k t }

pub restarts : {f f' : Timed} → Asks f → Asks f' → Asks (restartable f f')
restarts {f} {f'} l l' = record { by = λ n h s rs e k t. l'.by n (until n f) s rs (back n) k t }
  where
    by_test : (m : ℕ) (s : State) (rs : List Reply) → IsFormed s → AreTold rs → (c : Bool) → IsFine ((if c then f m no_restart else (λ s replies. More)) s rs)
    by_test m s rs k t true = l.by m no_restart s rs none_back k t
    by_test m s rs k t false = tt

    back : (n : ℕ) → IsBack (until n f)
    back n = record { by = λ m s rs k t. by_test m s rs k t (nat_le m n) }

-- Accesses.

-- An access that can be made: of a global it can be written, and of a local it leaves formed locals, and brings formed nodes.
pub record IsAllowed (a : Access) : Type 0 where
  pub asked : (name_of a).global ≡ true → is_access a ≡ true
  pub nodes : (c : Content) → are_locals c ≡ true → is_subtree (nodes_told (answer_of a c)) ≡ true
  pub kept : (name_of a).global ≡ false → (c : Content) → are_locals c ≡ true → are_locals (after_access a c) ≡ true

reply_nodes : (r : Reply) → is_reply r ≡ true → is_subtree (nodes_told (answer_told r)) ≡ true
reply_nodes (replies_are.Answer (answers_are.Subtree nodes)) h = h
reply_nodes (replies_are.Answer (answers_are.Value v)) h = refl
reply_nodes (replies_are.Answer (answers_are.Data d)) h = refl
reply_nodes (replies_are.Answer (answers_are.Order s)) h = refl
reply_nodes (replies_are.Answer (answers_are.Query m)) h = refl
reply_nodes (replies_are.Answer answers_are.Done) h = refl
reply_nodes (replies_are.Answer answers_are.Limit) h = refl
reply_nodes _ h = refl

-- the rest with an answer, whose nodes are formed
with_answer : {f : Answer → Timed} (x : Answer) → is_subtree (nodes_told x) ≡ true → ((y : Answer) → is_subtree (nodes_told y) ≡ true → Asks (f y)) → Asks (given (answered x) f)
with_answer answers_are.Limit h l = faulted
with_answer (answers_are.Value v) h l = l (answers_are.Value v) h
with_answer (answers_are.Data d) h l = l (answers_are.Data d) h
with_answer (answers_are.Order s) h l = l (answers_are.Order s) h
with_answer (answers_are.Query m) h l = l (answers_are.Query m) h
with_answer (answers_are.Subtree nodes) h l = l (answers_are.Subtree nodes) h
with_answer answers_are.Done h l = l answers_are.Done h

pub makes : (a : Access) {f : Answer → Timed} → IsAllowed a → ((x : Answer) → is_subtree (nodes_told x) ≡ true → Asks (f x)) → Asks (access a f)
makes a {f} w l = by (name_of a).global refl
  where
    by : (b : Bool) → (name_of a).global ≡ b
        → Asks (if b then ask (ask_kinds.Shared (shared_asks.Access a)) (λ r. given (answered (answer_told r)) f) else look (λ s. change (accessed a) (given (answered (answer_of a s.locals)) f)))
    by true e = asked _ (w.asked e) (λ r p. with_answer (answer_told r) (reply_nodes r p) l)
    by false e =
        looked (λ s k. changed {c = accessed a} (λ t j. record { locals = w.kept e t.locals j.locals; saved = j.saved; mark = j.mark; held = j.held; frames = j.frames })
        (with_answer (answer_of a s.locals) (w.nodes s.locals k.locals) l))

value_may : (x : Name) → IsNamed x → IsAllowed (accesses.Value x)
value_may x h = record { asked = λ g. global_is x g h; nodes = λ c k. refl; kept = λ g c k. k }

data_may : (x : Name) → IsNamed x → IsAllowed (accesses.Data x)
data_may x h = record { asked = λ g. global_is x g h; nodes = λ c k. refl; kept = λ g c k. k }

order_may : (x : Name) (way : Direction) → IsSought x → IsAllowed (accesses.Order x way)
order_may x way h = record { asked = λ g. search_is x g h; nodes = λ c k. refl; kept = λ g c k. k }

query_may : (x : Name) → IsSought x → IsAllowed (accesses.Query x)
query_may x h = record { asked = λ g. search_is x g h; nodes = λ c k. refl; kept = λ g c k. k }

subtree_may : (x : Name) → IsNamed x → IsAllowed (accesses.Subtree x)
subtree_may x h = record { asked = λ g. global_is x g h; nodes = λ c k. subtree_fits c x k; kept = λ g c k. k }

set_may : (x : Name) (v : List ℕ) → IsNamed x → IsAllowed (accesses.Set x v)
set_may x v h = record { asked = λ g. global_is x g h; nodes = λ c k. refl; kept = λ g c k. set_stays x v c (local_is x g h) k }

kill_may : (x : Name) → IsNamed x → IsAllowed (accesses.Kill x)
kill_may x h = record { asked = λ g. global_is x g h; nodes = λ c k. refl; kept = λ g c k. kill_stays x c k }

no_nodes : (b : Bool) → is_subtree (nodes_told (cond b answers_are.Limit answers_are.Done)) ≡ true
no_nodes true = refl
no_nodes false = refl

put_may : (x : Name) (nodes : Subtree) → IsNamed x → is_subtree nodes ≡ true → IsAllowed (accesses.Put x nodes)
put_may x nodes h f =
    let filled : list_all (λ e. are_filled e.0) nodes ≡ true = (both_true (is_sorted subscripts_cmp nodes) (list_all (λ e. are_filled e.0) nodes) f).1 in
    record {
      asked = λ g. and_true (is_global_name x) (is_subtree nodes) (global_is x g h) f;
      nodes = λ c k. no_nodes (is_too_deep x nodes);
      kept = λ g c k. put_kept x nodes c (is_too_deep x nodes) refl (local_is x g h) filled k;
    }

pub reads : (x : Name) {f : List ℕ → Timed} → IsNamed x → ((v : List ℕ) → Asks (f v)) → Asks (read x f)
reads x h l = makes (accesses.Value x) (value_may x h) (λ a p. needs Undefined (value_told a) l)

pub is_about : (k : NameFunction) (x : Name) (o : Option (List ℕ)) {f : List ℕ → Timed} → Suits k x → ((v : List ℕ) → Asks (f v)) → Asks (about k x o f)
is_about names.Data x o h l = makes (accesses.Data x) (data_may x h) (λ r p. is_composed (λ limit. function_told limit names.Data o r) l)
is_about names.Get x o h l = makes (accesses.Value x) (value_may x h) (λ r p. is_composed (λ limit. function_told limit names.Get o r) l)
is_about names.Name x o h l = is_composed (λ limit. spelled limit x) l
is_about names.Query x o h l = makes (accesses.Query x) (query_may x h) (λ r p. is_composed (λ limit. function_told limit names.Query o r) l)
is_about names.Order x o {f} h l = by (direction_of o)
  where
    by : (d : Result Direction Fault) → Asks (given (then_value d (λ way. Ok (accesses.Order x way))) (λ a. access a (λ r. composed (λ limit. function_told limit names.Order o r) f)))
    by (Ok way) = makes (accesses.Order x way) (order_may x way h) (λ r p. is_composed (λ limit. function_told limit names.Order o r) l)
    by (Err e) = faulted

-- Commands.

pub stores : (x : Name) (v : List ℕ) {f : Timed} → IsNamed x → Asks f → Asks (store x v f)
stores x v h l = makes (accesses.Set x v) (set_may x v h) (λ a p. l)

renews_pieces : (x : Name) (d : List ℕ) (range : ℕ × ℕ) (e : List ℕ) {f : List ℕ → Timed} → IsNamed x → ((v : List ℕ) → Asks (f v)) → Asks (renewed x d range e f)
renews_pieces x d range e h l = makes (accesses.Value x) (value_may x h) (λ a p. is_composed (λ limit. set_piece_value limit (or_empty (value_told a)) d range e) l)

renews : (x : Name) (ts : List (List ℕ)) (e : List ℕ) {f : Timed} {g : List ℕ → Timed} → IsNamed x → Asks f → ((v : List ℕ) → Asks (g v)) → Asks (assign_piece x ts e f g)
renews x ts e {f} {g} h skipped l = is_given (assigned_pieces (needed 0 ts) (optional 1 ts) (optional 2 ts)) at
  where
    at : (range : Option (ℕ × ℕ)) → Asks (elim range [ None ↦ f | Some r ↦ renewed x (needed 0 ts) r e g ])
    at None = skipped
    at (Some r) = renews_pieces x (needed 0 ts) r e h l

-- what a value is assigned to has a name
abbrev pub IsAimed : Aim → Type 0
IsAimed (Whole x) = IsNamed x
IsAimed (Part x ts) = IsNamed x

pub puts : (t : Aim) (v : List ℕ) {f : Timed} → IsAimed t → Asks f → Asks (put t v f)
puts (Whole x) v h l = stores x v h l
puts (Part x ts) v h l = renews x ts v h l (λ w. a_turn (stores x w h l))

pub puts_all : (list : List Aim) (v : List ℕ) {f : Timed} → Each IsAimed list → Asks f → Asks (put_all list v f)
puts_all [] v h l = l
puts_all (t ∷ list) v h l = a_turn (puts t v h.0 (puts_all list v h.1 l))

pub removes : (x : Name) {f : Timed} → IsNamed x → Asks f → Asks (remove x f)
removes x h l = makes (accesses.Kill x) (kill_may x h) (λ a p. l)

pub names_ask : (words : List (List ℕ)) {f : Timed} → Asks f → Asks (named words f)
names_ask [] l = l
names_ask (word ∷ words) l = a_turn (names_ask words l)

pub takes_nodes : (x y : Name) {f : Timed} → IsNamed y → Asks f → Asks (take_nodes x y f)
takes_nodes x y h l =
    chosen (overlaps x y) faulted (makes (accesses.Subtree y) (subtree_may y h) (λ a p. changed {c = hold (nodes_told a)} (λ s k. holds_on (nodes_told a) s p k) l))

puts_these : (x : Name) (nodes : Subtree) {f : Timed} → IsNamed x → is_subtree nodes ≡ true → Asks f → Asks (put_these x nodes f)
puts_these x [] h n l = l
puts_these x (e ∷ nodes) h n l = makes (accesses.Put x (e ∷ nodes)) (put_may x (e ∷ nodes) h n) (λ a p. changed {c = hold []} (λ s k. holds_on [] s refl k) l)

pub puts_nodes : (x : Name) {f : Timed} → IsNamed x → Asks f → Asks (put_nodes x f)
puts_nodes x h l = looked (λ s k. puts_these x s.held h k.held l)

renewals : (r : Renewed) {f : Timed} → Asks f → Asks (renewal r f)
renewals (Fresh word) l = a_turn (changed {c = newed (Only (word ∷ []))} (news (Only (word ∷ []))) l)
renewals (Kept words) l = names_ask words (a_turn (changed {c = newed (AllBut words)} (news (AllBut words)) l))

news_list : (list : List Renewed) {f : Timed} → Asks f → Asks (new_list list f)
news_list [] l = l
news_list (r ∷ list) l = renewals r (news_list list l)

pub news_all : (list : List Renewed) {f : Timed} → Asks f → Asks (new_all list f)
news_all [] l = a_turn (changed {c = newed (AllBut [])} (news (AllBut [])) l)
news_all (r ∷ list) l = news_list (r ∷ list) l

pub ends_frame : {f : Timed} → Asks f → Asks (end_frame f)
ends_frame l = looked (λ s k. chosen (is_at_mark s) (faulted {f = QuitInTransaction}) l)

pub quits_frame : {f : Timed} → Asks f → Asks (quit_frame f)
quits_frame l = looked (λ s k. chosen (is_function s) (faulted {f = WrongQuit}) (ends_frame l))

pub in_its_function : {f : Timed} → Asks f → Asks (in_function f)
in_its_function l = looked (λ s k. chosen (is_function s) l (faulted {f = WrongQuit}))

pub goes_deeper : {f : Timed} → Asks f → Asks (deeper f)
goes_deeper l = looked (λ s k. chosen (nat_lt (length s.frames) frames_limit) l (faulted {f = Depth}))

write_on : (bytes : List ℕ) (s : State) → IsFormed s → IsFormed (wrote bytes s)
write_on bytes s h = record { locals = h.locals; saved = h.saved; mark = h.mark; held = h.held; frames = h.frames }

pub writes : (bytes : List ℕ) {f : Timed} → Asks f → Asks (write bytes f)
writes [] l = l
writes (x ∷ bytes) l =
    is_composed (λ limit. within_limit limit (x ∷ bytes))
    (λ text. looked (λ s k. to_its_device s.current (device_asks.Write text) (λ r p. changed {c = wrote text} (write_on text) l)))

pub tabs : (marks : List FormatMark) (v : List ℕ) {f : Timed} → Asks f → Asks (tab marks v f)
tabs marks v l = is_given (reading v) (λ n. looked (λ s k. writes (tab_bytes marks n (column_at s.current s)) l))

pub writes_code : (v : List ℕ) {f : Timed} → Asks f → Asks (write_code v f)
writes_code v l = is_given (reading v) (λ n. is_given (coded n) (λ bytes. writes bytes l))

pub tests : (t : Bool) {f f' : Timed} → Asks f → Asks f' → Asks (if_test t f f')
tests true l m = looked (λ s k. chosen s.test m l)
tests false l m = looked (λ s k. chosen s.test l m)

-- the local of a FOR has a name
abbrev pub IsLoop : Loop → Type 0
IsLoop Once = Unit {0}
IsLoop Always = Unit {0}
IsLoop (By x step end) = IsNamed x

steps_on : (x : Name) (step : ℤ) (end : Option ℤ) (i : ℤ) {f f' : Timed} → IsNamed x → Asks f → Asks f' → Asks (stepped x step end i f f')
steps_on x step None i h l m = is_given (sum_of i step) (λ j. stores x (canonic_text j) h m)
steps_on x step (Some end) i h l m = chosen (is_within step end (i +ℤ step)) (stores x (canonic_text (i +ℤ step)) h m) l

pub goes_again : (loop : Loop) {f f' : Timed} → IsLoop loop → Asks f → Asks f' → Asks (for_again loop f f')
goes_again Once h l m = l
goes_again Always h l m = m
goes_again (By x step end) h l m =
    makes (accesses.Value x) (value_may x h) (λ a p. needs ForIndex (value_told a) (λ v. is_given (reading v) (λ i. steps_on x step end i h l m)))

pub begins : (x : Name) (i step : ℤ) (end : Option ℤ) {f f' : Timed} → IsNamed x → Asks f → Asks f' → Asks (first x i step end f f')
begins x i step None h l m = stores x (canonic_text i) h m
begins x i step (Some end) h l m = stores x (canonic_text i) h (chosen (is_within step end i) m l)

pub reads_two : (v w : List ℕ) {f : ℤ → ℤ → Timed} → ((i j : ℤ) → Asks (f i j)) → Asks (reading_two v w f)
reads_two v w l = is_given (reading v) (λ i. is_given (reading w) (λ j. l i j))

-- HANG, JOB and LOCK.

serves : (timeout : Option ℤ) (r : Reply) {f : Timed} → Asks f → Asks (served timeout r f)
serves timeout r l = chosen (is_limit r) faulted (changed {c = in_time timeout (not (is_late r))} (times timeout (not (is_late r))) l)

out_of : {f : Timed} → Asks f → Asks (out_of_transaction f)
out_of l = looked (λ s k. chosen (nat_lt 0 s.level) (faulted {f = InTransaction}) l)

pub hangs : (v : List ℕ) {f : Timed} → Asks f → Asks (hang v f)
hangs v l = is_given (reading v) (λ n. chosen (int_lt (pos 0) n) (asked _ refl (λ r p. l)) l)

pub starts_job : (entry : Entry) (vs : List (Option (List ℕ))) (timeout : Option ℤ) {f : Timed} → is_entry entry ≡ true → Asks f → Asks (start_job entry vs timeout f)
starts_job entry vs timeout h l = out_of (asked _ h (λ r p. serves timeout r l))

pub unlocks_all : {f : Timed} → Asks f → Asks (unlock_all f)
unlocks_all l = out_of (asked _ refl (λ r p. serves None r l))

all_names : (xs : List Name) → Each IsNamed xs → list_all is_name xs ≡ true
all_names [] h = refl
all_names (x ∷ xs) h = and_true (is_name x) (list_all is_name xs) (name_is x h.0) (all_names xs h.1)

lock_names : (x : Name) (xs : List Name) → Each IsNamed (x ∷ xs) → are_names (x ∷ xs) ≡ true
lock_names x xs h =
    and_true (nat_lt 0 (length (x ∷ xs))) (list_all is_name (x ∷ xs)) (lt-ltb 0 (length (x ∷ xs)) (omega arith)) (all_names (x ∷ xs) h)

takes_names : (xs : List Name) (timeout : Option ℤ) {f : Timed} → Each IsNamed xs → Asks f → Asks (take_names xs timeout f)
takes_names [] timeout h l = l
takes_names (x ∷ xs) timeout h l = asked _ (lock_names x xs h) (λ r p. serves timeout r l)

gives_names : (xs : List Name) (timeout : Option ℤ) {f : Timed} → Each IsNamed xs → Asks f → Asks (give_names xs timeout f)
gives_names [] timeout h l = l
gives_names (x ∷ xs) timeout h l = asked _ (lock_names x xs h) (λ r p. serves timeout r l)

pub locks : (m : LockMode) (xs : List Name) (timeout : Option ℤ) {f : Timed} → Each IsNamed xs → Asks f → Asks (lock m xs timeout f)
locks mode.Whole xs timeout h l = a_turn (unlocks_all (a_turn (takes_names xs timeout h l)))
locks mode.Plus xs timeout h l = a_turn (takes_names xs timeout h l)
locks mode.Minus xs timeout h l = a_turn (gives_names xs timeout h l)

-- OPEN, USE, CLOSE and READ.

tells : (a : Ask) {f : Timed} → is_ask a ≡ true → Asks f → Asks (tell a f)
tells a q l = asked a q (λ r p. l)

opens_one : (name : List ℕ) (s : State) → IsFormed s → IsFormed (with_device name s)
opens_one name s h = record { locals = h.locals; saved = h.saved; mark = h.mark; held = h.held; frames = h.frames }

uses_one : (name : List ℕ) (s : State) → IsFormed s → IsFormed (used name s)
uses_one name s h = record { locals = h.locals; saved = h.saved; mark = h.mark; held = h.held; frames = h.frames }

drops_one : (name : List ℕ) (s : State) → IsFormed s → IsFormed (dropped name s)
drops_one name s h = record { locals = h.locals; saved = h.saved; mark = h.mark; held = h.held; frames = h.frames }

is_obtained : (name : List ℕ) (timeout : Option ℤ) (r : Reply) {f g : Timed} → Asks f → Asks g → Asks (obtained name timeout r f g)
is_obtained name timeout r l m =
    chosen (has_no_session r) (faulted {f = NoDevice})
    (chosen (is_got r) (changed {c = in_time timeout true} (times timeout true) (changed {c = with_device name} (opens_one name) m))
    (changed {c = in_time timeout false} (times timeout false) l))

obtains : (name : List ℕ) (timeout : Option ℤ) {f g : Timed} → Asks f → Asks g → Asks (request_device name timeout f g)
obtains name timeout l m =
    looked (λ s k.
    chosen (is_open name s) (changed {c = in_time timeout true} (times timeout true) l)
    (chosen (nat_lt devices_limit (length s.devices)) (faulted {f = Limit})
    (asked (ask_kinds.Shared (shared_asks.Open name timeout)) refl (λ r p. is_obtained name timeout r l m))))

begins_session : (name : List ℕ) {f : Timed} → Asks f → Asks (begin_session name f)
begins_session name l = to_its_device name _ (λ r p. l)

pub opens_device : (name : List ℕ) (timeout : Option ℤ) {f : Timed} → Asks f → Asks (open_device name timeout f)
opens_device name timeout l = obtains name timeout l (a_turn (begins_session name l))

pub uses_device : (name : List ℕ) {f : Timed} → Asks f → Asks (use_device name f)
uses_device name l = looked (λ s k. chosen (is_open name s) (changed {c = used name} (uses_one name) l) (faulted {f = NoDevice}))

ends_session : (name : List ℕ) {f g h : Timed} → Asks f → Asks g → Asks h → Asks (end_session name f g h)
ends_session name l m w =
    looked (λ s k.
    chosen (may_close name s)
    (asked (ask_kinds.Device name device_asks.End) refl (λ r p. changed {c = dropped name} (drops_one name) (chosen (is_failed r) m w)))
    l)

gives_up : (name : List ℕ) {f : Timed} → Asks f → Asks (give_up name f)
gives_up name l = tells _ refl l

pub closes : (name : List ℕ) {f : Timed} → Asks f → Asks (close name f)
closes name l = ends_session name l (a_turn (gives_up name (faulted {f = Device}))) (a_turn (gives_up name l))

pub reads_input : (m : ReadMode) (timeout : Option ℤ) {f : List ℕ → Timed} → ((v : List ℕ) → Asks (f v)) → Asks (read_input m timeout f)
reads_input m timeout l =
    looked (λ s k.
    to_its_device s.current (input_ask m timeout) (λ r p.
    changed {c = in_time timeout (is_input r)} (times timeout (is_input r)) (l (input_told m r))))

-- Transactions.

pub begins_transaction : (o : Option Listed) (serial : Bool) {f f' : Timed} → Asks f → Asks f' → Asks (begin_transaction o serial f f')
begins_transaction o serial l m =
    looked (λ s k.
    chosen (nat_eq s.level 0)
    (looked (λ t j.
    chosen (is_in_function t) (faulted {f = InTransaction})
    (asked (ask_kinds.Shared (shared_asks.Begin (kind_of serial))) refl (λ r p. changed {c = marked o serial} (marks o serial) m))))
    (chosen (nat_lt s.level levels_limit) (changed {c = raised} raises l) (faulted {f = Limit})))

within : {f : Timed} → Asks f → Asks (in_transaction f)
within l = looked (λ s k. chosen (nat_eq s.level 0) (faulted {f = NoTransaction}) l)

pub commits : {f f' : Timed} → Asks f → Asks f' → Asks (commit f f')
commits l m =
    within (looked (λ s k.
    chosen (nat_lt 1 s.level) (changed {c = lowered} lowers m)
    (asked (ask_kinds.Shared shared_asks.Commit) refl (λ r p. chosen (is_clash r) l (changed {c = settled} settles m)))))

pub rolls_back : {f : Timed} → Asks f → Asks (roll_back f)
rolls_back l = within (asked _ refl (λ r p. changed {c = settled} settles l))

pub gives_back : {f : Timed} → Asks f → Asks (roll_back_for_restart f)
gives_back l = within (looked (λ s k. chosen (can_restart s) (asked (ask_kinds.Shared shared_asks.Rollback) refl (λ r p. l)) (faulted {f = NoRestart})))

pub begins_again : Asks begin_restart
begins_again = looked (λ s k. asked (ask_kinds.Shared (shared_asks.Begin (kind_of (is_serial s)))) refl (λ r p. changed {c = restarted} goes_back gone_back))
