-- What one run comes to, unless it uses its turns up, another comes to with as many turns or more: the words that runs are made of keep
-- this.
use Rattle.std.proofs.Common.{◌≡◌, ℕ, zero, suc, ◌<◌, ◌≤◌, List, [], ◌∷◌, length, Bool, true, false, Option, Some, None, Result, Ok, Err, refl, arith}
use Rattle.std.proofs.lemmas.Bool.{leb-false}
use Rattle.std.specs.Prelude.{◌+◌, ℤ, pos, int_lt, ◌+ℤ◌, not, nat_eq, nat_lt, nat_le, if◌then◌else◌}
use Rattle.mj_text.specs.Limit.{within_limit}
use Rattle.mj_text.specs.declared.limit.Limit.{Limit}
use Rattle.mj_text.specs.declared.fault.Fault.{Fault}
use Rattle.mj_text.specs.declared.fault.Fault.TheVariants.{Undefined, ForIndex}
use Rattle.mj_num.specs.Number.{reading, sum_of, canonic_text}
use Rattle.mj_subs.specs.Name.{Name, overlaps}
use Rattle.mj_store.specs.Questions.{Subtree}
use Rattle.mj_store.specs.Runs.{name_of, answer_of}
use Rattle.mj_store.specs.declared.access.Access.{Access}
use Rattle.mj_store.specs.declared.access.Access.TheVariants as accesses
use Rattle.mj_store.specs.declared.access.Answer.{Answer}
use Rattle.mj_ask.specs.declared.ask.Ask.{Ask}
use Rattle.mj_ask.specs.declared.ask.Ask.TheVariants as ask_kinds
use Rattle.mj_ask.specs.declared.ask.DeviceAsk.{DeviceAsk}
use Rattle.mj_ask.specs.declared.ask.Reply.{Reply}
use Rattle.mj_ask.specs.declared.entry.Entry.{Entry}
use Rattle.mj_ask.specs.Fits.{is_late}
use Rattle.mj_ast.specs.declared.routine.LockMode.{LockMode}
use Rattle.mj_ast.specs.declared.routine.LockMode.TheVariants as mode
use Rattle.mj_ast.specs.declared.routine.FormatMark.{FormatMark}
use Rattle.mj_ast.specs.declared.routine.ReadMode.{ReadMode}
use Rattle.mj_ast.specs.declared.function.NameFunction.{NameFunction}
use Rattle.mj_ast.specs.Syntax.{Renewed, Fresh, Kept}
use Rattle.mj_strfn.specs.Functions.{assigned_pieces, set_piece_value}
use Rattle.mj_semantics.specs.State.{State, Words as Listed, Only, AllBut, accessed, wrote, broke, counted, hold, column_at, has_failed, principal, devices_limit, ending_order, is_open, may_close, with_device, used, dropped, is_function, is_in_function, is_at_mark, newed, marked, raised, lowered, settled, can_restart, restarted}
use Rattle.mj_semantics.specs.Outcome.{Outcome, More, Handler, Timed, turn, turns, look, change, asking, over, no_restart, until, restartable, go_back, halt, ends, end, fault, ask, tell, is_failed, to_device, need, given, composed}
use Rattle.mj_semantics.specs.Names.{spelled, asks, question, function_told}
use Rattle.mj_semantics.specs.Functions.{needed, optional}
use Rattle.mj_semantics.specs.Accesses.{answer_told, answered, access, value_told, nodes_told}
use Rattle.mj_semantics.specs.Evaluation.{read, about}
use Rattle.mj_semantics.specs.Points.{Loop, Once, Always, By}
use Rattle.mj_semantics.specs.Sharing.{is_limit, in_time, served, out_of_transaction, hang, start_job, unlock_all, take_names, give_names, lock}
use Rattle.mj_semantics.specs.Devices.{is_got, has_no_session, request_device, open_device, use_device, close, is_input, input_told, read_input}
use Rattle.mj_semantics.specs.Transactions.{levels_limit, begin_transaction, in_transaction, is_clash, commit, roll_back, roll_back_for_restart, begin_restart}
use Rattle.mj_semantics.specs.Commands.{Aim, Whole, Part, store, or_empty, renewed, assign_piece, put, put_all, remove, named, take_nodes, put_these, put_nodes, renewal, new_list, new_all, frames_limit, end_frame, quit_frame, in_function, deeper, write, tab_bytes, tab, coded, write_code, if_test, is_within, stepped, for_again, first, reading_two}

-- what a run comes to with more turns, beside what it comes to with some: the same, or these were used up
pub data Stays (o : Outcome) : Outcome → Type 0 where
  spent : Stays o More
  same : Stays o o

-- what a restart comes to by the second of two handlers, with up to q turns, beside what it comes to by the first, with up to n, where the
-- second has at most so many turns more
pub record Back (more n q : ℕ) (h k : Handler) : Type 0 where
  pub by : (m i : ℕ) → m ≤ n → m ≤ i → i ≤ q → i ≤ m + more → (s : State) (rs : List Reply) → Stays (k i s rs) (h m s rs)

-- the same of two runs, of which the first has fewer than b turns
pub record Keeps (more b : ℕ) (f g : Timed) : Type 0 where
  pub by : (n q : ℕ) → n < b → n ≤ q → q ≤ n + more → (h k : Handler) → Back more n q h k → (s : State) (rs : List Reply) → Stays (g q k s rs) (f n h s rs)

-- Turns.

pub less : {more b : ℕ} {f g : Timed} → Keeps more (suc b) f g → Keeps more b f g
less l = record { by = λ n q lt le up h k e s rs. l.by n q (omega arith) le up h k e s rs }

pub no_turns : {more : ℕ} (f g : Timed) → Keeps more 0 f g
no_turns f g = record { by = λ n q lt. absurd (omega arith) }

pub turned : {more b : ℕ} {f g : Timed} → Keeps more b f g → Keeps more (suc b) (turn f) (turn g)
turned {more} {b} {f} {g} l = record { by = at }
  where
    at : (n q : ℕ) → n < suc b → n ≤ q → q ≤ n + more → (h k : Handler) → Back more n q h k → (s : State) (rs : List Reply) → Stays (turn g q k s rs) (turn f n h s rs)
    at zero q lt le up h k e s rs = spent
    at (suc n) zero lt le up h k e s rs = absurd (omega arith)
    at (suc n) (suc q) lt le up h k e s rs =
        l.by n q (omega arith) (omega arith) (omega arith) h k (record { by = λ m i u v z w. e.by m i (omega arith) v (omega arith) w }) s rs

pub a_turn : {more b : ℕ} {f g : Timed} → Keeps more b f g → Keeps more b (turn f) (turn g)
a_turn l = less (turned l)

pub some_turns : {more b : ℕ} {f g : Timed} (k : ℕ) → Keeps more b f g → Keeps more b (turns k f) (turns k g)
some_turns zero l = l
some_turns (suc k) l = a_turn (some_turns k l)

-- Words.

pub looked : {more b : ℕ} {f g : State → Timed} → ((s : State) → Keeps more b (f s) (g s)) → Keeps more b (look f) (look g)
looked l = record { by = λ n q lt le up h k e s rs. (l s).by n q lt le up h k e s rs }

pub changed : {more b : ℕ} {c : State → State} {f g : Timed} → Keeps more b f g → Keeps more b (change c f) (change c g)
changed {c = c} l = record { by = λ n q lt le up h k e s rs. l.by n q lt le up h k e (c s) rs }

pub chosen : {more b : ℕ} {f g f' g' : Timed} (c : Bool) → Keeps more b f g → Keeps more b f' g' → Keeps more b (if c then f else f') (if c then g else g')
chosen true l m = l
chosen false l m = m

pub replied_to : {more b : ℕ} {a : Ask} {f g : Reply → Timed} → ((r : Reply) → Keeps more b (f r) (g r)) → Keeps more b (asking a f) (asking a g)
replied_to {more} {b} {a} {f} {g} l = record { by = at }
  where
    at : (n q : ℕ) → n < b → n ≤ q → q ≤ n + more → (h k : Handler) → Back more n q h k → (s : State) (rs : List Reply) → Stays (asking a g q k s rs) (asking a f n h s rs)
    at n q lt le up h k e s [] = same
    at n q lt le up h k e s (r ∷ rs) = (l r).by n q lt le up h k e s rs

is_over : {more b : ℕ} → Keeps more b over over
is_over = a_turn (record { by = λ n q lt le up h k e s rs. same })

halted : {more b : ℕ} {f : Option Fault} → Keeps more b (halt f) (halt f)
halted = a_turn (replied_to (λ r. is_over))

all_end : {more b : ℕ} (f : Option Fault) (names : List (List ℕ)) → Keeps more b (ends names f) (ends names f)
all_end f [] = halted
all_end f (name ∷ names) = a_turn (replied_to (λ r. all_end f names))

pub ended : {more b : ℕ} {f : Option Fault} → Keeps more b (end f) (end f)
ended {f = f} = looked (λ s. all_end f (ending_order s.devices))

pub faulted : {more b : ℕ} {f : Fault} → Keeps more b (fault f) (fault f)
faulted = a_turn (looked (λ s. chosen (has_failed principal s) ended (replied_to (λ r. ended))))

pub needs : {more b : ℕ} {A : Type 0} (f : Fault) {g h : A → Timed} (o : Option A) → ((v : A) → Keeps more b (g v) (h v)) → Keeps more b (need f o g) (need f o h)
needs f None l = faulted
needs f (Some v) l = l v

pub is_given : {more b : ℕ} {A : Type 0} {g h : A → Timed} (r : Result A Fault) → ((v : A) → Keeps more b (g v) (h v)) → Keeps more b (given r g) (given r h)
is_given (Ok v) l = l v
is_given (Err f) l = faulted

pub is_composed : {more b : ℕ} {g h : List ℕ → Timed} (text : Limit → Result (List ℕ) Fault) → ((v : List ℕ) → Keeps more b (g v) (h v))
    → Keeps more b (composed text g) (composed text h)
is_composed text l = looked (λ s. is_given (text s.bounds.limit) l)

pub asked : {more b : ℕ} (a : Ask) {f g : Reply → Timed} → ((r : Reply) → Keeps more b (f r) (g r)) → Keeps more b (ask a f) (ask a g)
asked a l = looked (λ s. chosen (nat_lt s.replied s.bounds.events) (replied_to (λ r. changed {c = counted} (l r))) faulted)

pub told_of : {more b : ℕ} (a : Ask) {f g : Timed} → Keeps more b f g → Keeps more b (tell a f) (tell a g)
told_of a l = asked a (λ r. l)

pub to_its_device : {more b : ℕ} (name : List ℕ) (a : DeviceAsk) {f g : Reply → Timed} → ((r : Reply) → Keeps more b (f r) (g r))
    → Keeps more b (to_device name a f) (to_device name a g)
to_its_device name a l = asked (ask_kinds.Device name a) (λ r. chosen (is_failed r) (changed {c = broke name} faulted) (l r))

-- Restarts.

pub gone_back : {more b : ℕ} → Keeps more b go_back go_back
gone_back = record { by = λ n q lt le up h k e s rs. e.by n q (omega arith) le (omega arith) up s rs }

-- no restart, beside none
pub none_back : {more : ℕ} (n q : ℕ) → Back more n q no_restart no_restart
none_back {more} n q = record { by = at }
  where
    at : (m i : ℕ) → m ≤ n → m ≤ i → i ≤ q → i ≤ m + more → (s : State) (rs : List Reply) → Stays (no_restart i s rs) (no_restart m s rs)
    at zero i u v w z s rs = spent
    at (suc m) zero u v w z s rs = absurd (omega arith)
    at (suc m) (suc i) u v w z s rs = same

pub restarts : {more b : ℕ} {f g f' g' : Timed} → Keeps more b f g → Keeps more b f' g' → Keeps more b (restartable f f') (restartable g g')
restarts {more} {b} {f} {g} l l' = record { by = λ n q lt le up h k e s rs. l'.by n q lt le up (until n f) (until q g) (backs n q lt) s rs }
  where
    back : (n q : ℕ) → n < b → (m i : ℕ) → m ≤ n → m ≤ i → i ≤ q → i ≤ m + more → (s : State) (rs : List Reply)
        → (c d : Bool) → nat_le m n ≡ c → nat_le i q ≡ d → Stays ((if d then g i no_restart else (λ s replies. More)) s rs) ((if c then f m no_restart else (λ s replies. More)) s rs)
    back n q lt m i u v w z s rs false d p p' = spent
    back n q lt m i u v w z s rs true true p p' = l.by m i (omega arith) v z no_restart no_restart (none_back m i) s rs
    back n q lt m i u v w z s rs true false p p' = let over : q < i = leb-false i q p' in absurd (omega (arith, over, w))

    backs : (n q : ℕ) → n < b → Back more n q (until n f) (until q g)
    backs n q lt = record { by = λ m i u v w z s rs. back n q lt m i u v w z s rs (nat_le m n) (nat_le i q) refl refl }

-- Accesses.

pub accesses_keep : {more b : ℕ} (a : Access) {f g : Answer → Timed} → ((x : Answer) → Keeps more b (f x) (g x)) → Keeps more b (access a f) (access a g)
accesses_keep a l =
    chosen (name_of a).global (asked _ (λ r. is_given (answered (answer_told r)) l))
    (looked (λ s. changed {c = accessed a} (is_given (answered (answer_of a s.locals)) l)))

pub reads : {more b : ℕ} (x : Name) {f g : List ℕ → Timed} → ((v : List ℕ) → Keeps more b (f v) (g v)) → Keeps more b (read x f) (read x g)
reads x l = accesses_keep (accesses.Value x) (λ a. needs Undefined (value_told a) l)

pub is_about : {more b : ℕ} (k : NameFunction) (x : Name) (o : Option (List ℕ)) {f g : List ℕ → Timed} → ((v : List ℕ) → Keeps more b (f v) (g v)) → Keeps more b (about k x o f) (about k x o g)
is_about k x o l =
    chosen (asks k) (is_given (question k x o) (λ a. accesses_keep a (λ r. is_composed (λ limit. function_told limit k o r) l))) (is_composed (λ limit. spelled limit x) l)

-- Commands.

pub stores : {more b : ℕ} (x : Name) (v : List ℕ) {f g : Timed} → Keeps more b f g → Keeps more b (store x v f) (store x v g)
stores x v l = accesses_keep (accesses.Set x v) (λ a. l)

renews_pieces : {more b : ℕ} (x : Name) (d : List ℕ) (range : ℕ × ℕ) (e : List ℕ) {f g : List ℕ → Timed}
    → ((v : List ℕ) → Keeps more b (f v) (g v)) → Keeps more b (renewed x d range e f) (renewed x d range e g)
renews_pieces x d range e l = accesses_keep (accesses.Value x) (λ a. is_composed (λ limit. set_piece_value limit (or_empty (value_told a)) d range e) l)

pub renews : {more b : ℕ} (x : Name) (ts : List (List ℕ)) (e : List ℕ) {f f' : Timed} {g g' : List ℕ → Timed} → Keeps more b f f' → ((v : List ℕ) → Keeps more b (g v) (g' v))
    → Keeps more b (assign_piece x ts e f g) (assign_piece x ts e f' g')
renews {more} {b} x ts e {f} {f'} {g} {g'} skipped l = is_given (assigned_pieces (needed 0 ts) (optional 1 ts) (optional 2 ts)) at
  where
    at : (range : Option (ℕ × ℕ)) → Keeps more b (elim range [ None ↦ f | Some r ↦ renewed x (needed 0 ts) r e g ]) (elim range [ None ↦ f' | Some r ↦ renewed x (needed 0 ts) r e g' ])
    at None = skipped
    at (Some r) = renews_pieces x (needed 0 ts) r e l

pub puts : {more b : ℕ} (t : Aim) (v : List ℕ) {f g : Timed} → Keeps more b f g → Keeps more b (put t v f) (put t v g)
puts (Whole x) v l = stores x v l
puts (Part x ts) v l = renews x ts v l (λ w. a_turn (stores x w l))

pub puts_all : {more b : ℕ} (list : List Aim) (v : List ℕ) {f g : Timed} → Keeps more b f g → Keeps more b (put_all list v f) (put_all list v g)
puts_all [] v l = l
puts_all (t ∷ list) v l = a_turn (puts t v (puts_all list v l))

pub removes : {more b : ℕ} (x : Name) {f g : Timed} → Keeps more b f g → Keeps more b (remove x f) (remove x g)
removes x l = accesses_keep (accesses.Kill x) (λ a. l)

pub names_keep : {more b : ℕ} (words : List (List ℕ)) {f g : Timed} → Keeps more b f g → Keeps more b (named words f) (named words g)
names_keep [] l = l
names_keep (word ∷ words) l = a_turn (names_keep words l)

pub takes_nodes : {more b : ℕ} (x y : Name) {f g : Timed} → Keeps more b f g → Keeps more b (take_nodes x y f) (take_nodes x y g)
takes_nodes x y l = chosen (overlaps x y) faulted (accesses_keep (accesses.Subtree y) (λ a. changed {c = hold (nodes_told a)} l))

puts_these : {more b : ℕ} (x : Name) (nodes : Subtree) {f g : Timed} → Keeps more b f g → Keeps more b (put_these x nodes f) (put_these x nodes g)
puts_these x [] l = l
puts_these x (e ∷ nodes) l = accesses_keep (accesses.Put x (e ∷ nodes)) (λ a. changed {c = hold []} l)

pub puts_nodes : {more b : ℕ} (x : Name) {f g : Timed} → Keeps more b f g → Keeps more b (put_nodes x f) (put_nodes x g)
puts_nodes x l = looked (λ s. puts_these x s.held l)

renewals : {more b : ℕ} (r : Renewed) {f g : Timed} → Keeps more b f g → Keeps more b (renewal r f) (renewal r g)
renewals (Fresh word) l = a_turn (changed {c = newed (Only (word ∷ []))} l)
renewals (Kept words) l = names_keep words (a_turn (changed {c = newed (AllBut words)} l))

news : {more b : ℕ} (list : List Renewed) {f g : Timed} → Keeps more b f g → Keeps more b (new_list list f) (new_list list g)
news [] l = l
news (r ∷ list) l = renewals r (news list l)

pub news_all : {more b : ℕ} (list : List Renewed) {f g : Timed} → Keeps more b f g → Keeps more b (new_all list f) (new_all list g)
news_all [] l = a_turn (changed {c = newed (AllBut [])} l)
news_all (r ∷ list) l = news (r ∷ list) l

pub ends_frame : {more b : ℕ} {f g : Timed} → Keeps more b f g → Keeps more b (end_frame f) (end_frame g)
ends_frame l = looked (λ s. chosen (is_at_mark s) faulted l)

pub quits_frame : {more b : ℕ} {f g : Timed} → Keeps more b f g → Keeps more b (quit_frame f) (quit_frame g)
quits_frame l = looked (λ s. chosen (is_function s) faulted (ends_frame l))

pub in_its_function : {more b : ℕ} {f g : Timed} → Keeps more b f g → Keeps more b (in_function f) (in_function g)
in_its_function l = looked (λ s. chosen (is_function s) l faulted)

pub goes_deeper : {more b : ℕ} {f g : Timed} → Keeps more b f g → Keeps more b (deeper f) (deeper g)
goes_deeper l = looked (λ s. chosen (nat_lt (length s.frames) frames_limit) l faulted)

pub writes : {more b : ℕ} (bytes : List ℕ) {f g : Timed} → Keeps more b f g → Keeps more b (write bytes f) (write bytes g)
writes [] l = l
writes (x ∷ bytes) l =
    is_composed (λ limit. within_limit limit (x ∷ bytes)) (λ text. looked (λ s. to_its_device s.current _ (λ r. changed {c = wrote text} l)))

pub tabs : {more b : ℕ} (marks : List FormatMark) (v : List ℕ) {f g : Timed} → Keeps more b f g → Keeps more b (tab marks v f) (tab marks v g)
tabs marks v l = is_given (reading v) (λ n. looked (λ s. writes (tab_bytes marks n (column_at s.current s)) l))

pub writes_code : {more b : ℕ} (v : List ℕ) {f g : Timed} → Keeps more b f g → Keeps more b (write_code v f) (write_code v g)
writes_code v l = is_given (reading v) (λ n. is_given (coded n) (λ bytes. writes bytes l))

pub tests : {more b : ℕ} (t : Bool) {f g f' g' : Timed} → Keeps more b f g → Keeps more b f' g' → Keeps more b (if_test t f f') (if_test t g g')
tests true l m = looked (λ s. chosen s.test m l)
tests false l m = looked (λ s. chosen s.test l m)

steps_on : {more b : ℕ} (x : Name) (step : ℤ) (end : Option ℤ) (i : ℤ) {f g f' g' : Timed}
    → Keeps more b f g → Keeps more b f' g' → Keeps more b (stepped x step end i f f') (stepped x step end i g g')
steps_on x step None i l m = is_given (sum_of i step) (λ j. stores x (canonic_text j) m)
steps_on x step (Some end) i l m = chosen (is_within step end (i +ℤ step)) (stores x (canonic_text (i +ℤ step)) m) l

pub goes_again : {more b : ℕ} (loop : Loop) {f g f' g' : Timed} → Keeps more b f g → Keeps more b f' g' → Keeps more b (for_again loop f f') (for_again loop g g')
goes_again Once l m = l
goes_again Always l m = m
goes_again (By x step end) l m =
    accesses_keep (accesses.Value x) (λ a. needs ForIndex (value_told a) (λ v. is_given (reading v) (λ i. steps_on x step end i l m)))

pub begins : {more b : ℕ} (x : Name) (i step : ℤ) (end : Option ℤ) {f g f' g' : Timed} → Keeps more b f g → Keeps more b f' g' → Keeps more b (first x i step end f f') (first x i step end g g')
begins x i step None l m = stores x (canonic_text i) m
begins x i step (Some end) l m = stores x (canonic_text i) (chosen (is_within step end i) m l)

pub reads_two : {more b : ℕ} (v w : List ℕ) {f g : ℤ → ℤ → Timed} → ((i j : ℤ) → Keeps more b (f i j) (g i j)) → Keeps more b (reading_two v w f) (reading_two v w g)
reads_two v w l = is_given (reading v) (λ i. is_given (reading w) (λ j. l i j))

-- HANG, JOB and LOCK.

serves : {more b : ℕ} (timeout : Option ℤ) (r : Reply) {f g : Timed} → Keeps more b f g → Keeps more b (served timeout r f) (served timeout r g)
serves timeout r l = chosen (is_limit r) faulted (changed {c = in_time timeout (not (is_late r))} l)

out_of : {more b : ℕ} {f g : Timed} → Keeps more b f g → Keeps more b (out_of_transaction f) (out_of_transaction g)
out_of l = looked (λ s. chosen (nat_lt 0 s.level) faulted l)

pub hangs : {more b : ℕ} (v : List ℕ) {f g : Timed} → Keeps more b f g → Keeps more b (hang v f) (hang v g)
hangs v l = is_given (reading v) (λ n. chosen (int_lt (pos 0) n) (told_of _ l) l)

pub starts_job : {more b : ℕ} (entry : Entry) (vs : List (Option (List ℕ))) (timeout : Option ℤ) {f g : Timed}
    → Keeps more b f g → Keeps more b (start_job entry vs timeout f) (start_job entry vs timeout g)
starts_job entry vs timeout l = out_of (asked _ (λ r. serves timeout r l))

pub unlocks_all : {more b : ℕ} {f g : Timed} → Keeps more b f g → Keeps more b (unlock_all f) (unlock_all g)
unlocks_all l = out_of (asked _ (λ r. serves None r l))

takes_names : {more b : ℕ} (xs : List Name) (timeout : Option ℤ) {f g : Timed} → Keeps more b f g → Keeps more b (take_names xs timeout f) (take_names xs timeout g)
takes_names [] timeout l = l
takes_names (x ∷ xs) timeout l = asked _ (λ r. serves timeout r l)

gives_names : {more b : ℕ} (xs : List Name) (timeout : Option ℤ) {f g : Timed} → Keeps more b f g → Keeps more b (give_names xs timeout f) (give_names xs timeout g)
gives_names [] timeout l = l
gives_names (x ∷ xs) timeout l = asked _ (λ r. serves timeout r l)

pub locks : {more b : ℕ} (m : LockMode) (xs : List Name) (timeout : Option ℤ) {f g : Timed} → Keeps more b f g → Keeps more b (lock m xs timeout f) (lock m xs timeout g)
locks mode.Whole xs timeout l = a_turn (unlocks_all (a_turn (takes_names xs timeout l)))
locks mode.Plus xs timeout l = a_turn (takes_names xs timeout l)
locks mode.Minus xs timeout l = a_turn (gives_names xs timeout l)

-- OPEN, USE, CLOSE and READ.

obtains : {more b : ℕ} (name : List ℕ) (timeout : Option ℤ) {f g f' g' : Timed} → Keeps more b f g
    → Keeps more b f' g' → Keeps more b (request_device name timeout f f') (request_device name timeout g g')
obtains name timeout l m = looked (λ s.
    chosen (is_open name s) (changed {c = in_time timeout true} l)
    (chosen (nat_lt devices_limit (length s.devices)) faulted
    (asked _ (λ r.
    chosen (has_no_session r) faulted
    (chosen (is_got r) (changed {c = in_time timeout true} (changed {c = with_device name} m)) (changed {c = in_time timeout false} l))))))

pub opens : {more b : ℕ} (name : List ℕ) (timeout : Option ℤ) {f g : Timed} → Keeps more b f g → Keeps more b (open_device name timeout f) (open_device name timeout g)
opens name timeout l = obtains name timeout l (a_turn (to_its_device name _ (λ r. l)))

pub uses : {more b : ℕ} (name : List ℕ) {f g : Timed} → Keeps more b f g → Keeps more b (use_device name f) (use_device name g)
uses name l = looked (λ s. chosen (is_open name s) (changed {c = used name} l) faulted)

pub closes : {more b : ℕ} (name : List ℕ) {f g : Timed} → Keeps more b f g → Keeps more b (close name f) (close name g)
closes name l = looked (λ s.
    chosen (may_close name s)
    (asked _ (λ r. changed {c = dropped name}
    (chosen (is_failed r) (a_turn (told_of _ faulted)) (a_turn (told_of _ l)))))
    l)

pub reads_input : {more b : ℕ} (m : ReadMode) (timeout : Option ℤ) {f g : List ℕ → Timed} → ((v : List ℕ) → Keeps more b (f v) (g v)) → Keeps more b (read_input m timeout f) (read_input m timeout g)
reads_input m timeout l = looked (λ s.
    to_its_device s.current _ (λ r. changed {c = in_time timeout (is_input r)} (l (input_told m r))))

-- Transactions.

pub begins_transaction : {more b : ℕ} (o : Option Listed) (serial : Bool) {f g f' g' : Timed} → Keeps more b f g → Keeps more b f' g'
    → Keeps more b (begin_transaction o serial f f') (begin_transaction o serial g g')
begins_transaction o serial l m = looked (λ s.
    chosen (nat_eq s.level 0) (looked (λ t. chosen (is_in_function t) faulted (asked _ (λ r. changed {c = marked o serial} m))))
    (chosen (nat_lt s.level levels_limit) (changed {c = raised} l) faulted))

within : {more b : ℕ} {f g : Timed} → Keeps more b f g → Keeps more b (in_transaction f) (in_transaction g)
within l = looked (λ s. chosen (nat_eq s.level 0) faulted l)

pub commits : {more b : ℕ} {f g f' g' : Timed} → Keeps more b f g → Keeps more b f' g' → Keeps more b (commit f f') (commit g g')
commits l m = within (looked (λ s.
    chosen (nat_lt 1 s.level) (changed {c = lowered} m)
    (asked _ (λ r. chosen (is_clash r) l (changed {c = settled} m)))))

pub rolls_back : {more b : ℕ} {f g : Timed} → Keeps more b f g → Keeps more b (roll_back f) (roll_back g)
rolls_back l = within (asked _ (λ r. changed {c = settled} l))

pub gives_back : {more b : ℕ} {f g : Timed} → Keeps more b f g → Keeps more b (roll_back_for_restart f) (roll_back_for_restart g)
gives_back l = within (looked (λ s. chosen (can_restart s) (asked _ (λ r. l)) faulted))

pub begins_again : {more b : ℕ} → Keeps more b begin_restart begin_restart
begins_again = looked (λ s. asked _ (λ r. changed {c = restarted} gone_back))
