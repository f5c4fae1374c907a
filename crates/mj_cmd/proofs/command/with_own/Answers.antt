use Rattle.std.proofs.Common.{◌∙◌, [], map, refl, ap, sym, true, false, inl, inr, Some}
use Rattle.mj_ast.specs.declared.keyword.Keyword.{Keyword}
use Rattle.mj_ast.specs.declared.keyword.Keyword.TheVariants as keyword
use Rattle.mj_ast.specs.declared.keyword.Verb.TheVariants.{Of}
use Rattle.mj_ast.specs.Syntax.{Set, Write, Hang, Job, Lock, Kill, Merge, If, For, Do, Goto, New, OpenDevice, UseDevice, CloseDevice, Read, TStart, Quit}
use Rattle.mj_ast.specs.Commands.{called_parts, plain_called, started_parts, plain_started, locked_parts, assignment_parts, output_parts, opened_parts, input_parts, killed_parts, merged_parts, value_parts, jumped_parts, renewed_parts}
use Rattle.mj_ast.specs.Trees.{assignment_of, output_of, opened_of, input_of, killed_of, merged_of, expr_of, variable_of, range_of, called_of, started_of, locked_of, jumped_of, renewed_of, restartable_of}
use Rattle.mj_lex.specs.Seen.{tokens_seen}
use Rattle.mj_line.specs.Forms.{Calls, Jumps, Starts, LockWanted, LockEnd, SetTarget, SetEnd, OutputWanted, OutputEnd, Writes, Reads, DeviceWanted, DeviceWaited, KillWanted, KillEnd, MergeInto, MergeEnd, ValueWanted, ValueEnd, ForWanted, LimitEnd, EntryWanted, GuardEnd, NewWanted, NewEnd, RestartWanted, SerialEnd, ResultWanted, ResultEnd, may_be_bare}
use Rattle.mj_line.specs.Machine.{Behind, At, args_rest, run}
use Rattle.mj_cmd.proofs.Follow.{room_for, args_end, reads_as_err, refuses_from}
use Rattle.mj_cmd.proofs.FollowLines.{blank_opens, at_keyword}
use Rattle.mj_cmd.proofs.Lists.{items_written, items_parts}
use Rattle.mj_cmd.proofs.command.with_own.Goals as goal

pub returns-in_ok-arguments-in-Set-clause-reads : goal.returns-in_ok-arguments-in-Set-clause-reads
returns-in_ok-arguments-in-Set-clause-reads c = λ m r o condition.
    let a = c.in_ok-arguments-in-Set.ensures.reads tt m (room_for c.args.phrases.limited m c.args.tokens.now c.args.behind.now c.requires.room r) tt o condition (Of keyword.Set) [] in
    let kw = ap (λ (k : Keyword). run m (tokens_seen c.in_ok-arguments-in-Set.rest.now) (At (Behind (args_rest o condition (Of k) a.0)))) (sym c.in-Set.is) in (
      a.0,
      λ l. ((Set (map assignment_of c.in_ok-arguments-in-Set.arguments.items), items_parts assignment_of assignment_parts c.in_ok-arguments-in-Set.arguments.items a.0 (a.1 l), refl), sym c.in-Set.is),
      at_keyword m o condition c.args.keyword keyword.Set (tokens_seen c.args.tokens.now) c.in-Set.is
          ∙ blank_opens m o condition (Of keyword.Set) (SetTarget false) (tokens_seen c.args.tokens.now) (tokens_seen c.args.behind.now) c.requires.blank refl
          ∙ a.2
          ∙ args_end m o condition (Of keyword.Set) a.0 SetEnd (tokens_seen c.in_ok-arguments-in-Set.rest.now) refl c.in_ok-arguments-in-Set.ensures.parted
          ∙ kw,
    )

pub returns-in_ok-arguments-in-Write-clause-reads : goal.returns-in_ok-arguments-in-Write-clause-reads
returns-in_ok-arguments-in-Write-clause-reads c = λ m r o condition.
    let a = c.in_ok-arguments-in-Write.ensures.reads tt m (room_for c.args.phrases.limited m c.args.tokens.now c.args.behind.now c.requires.room r) tt o condition (Of keyword.Write) [] in
    let kw = ap (λ (k : Keyword). run m (tokens_seen c.in_ok-arguments-in-Write.rest.now) (At (Behind (args_rest o condition (Of k) a.0)))) (sym c.in-Write.is) in (
      a.0,
      λ l. ((Write (map output_of c.in_ok-arguments-in-Write.arguments.items), items_parts output_of output_parts c.in_ok-arguments-in-Write.arguments.items a.0 (a.1 l), refl), sym c.in-Write.is),
      at_keyword m o condition c.args.keyword keyword.Write (tokens_seen c.args.tokens.now) c.in-Write.is
          ∙ blank_opens m o condition (Of keyword.Write) (OutputWanted Writes) (tokens_seen c.args.tokens.now) (tokens_seen c.args.behind.now) c.requires.blank refl
          ∙ a.2
          ∙ args_end m o condition (Of keyword.Write) a.0 (OutputEnd Writes) (tokens_seen c.in_ok-arguments-in-Write.rest.now) refl c.in_ok-arguments-in-Write.ensures.parted
          ∙ kw,
    )

pub returns-in_ok-arguments-in-Kill-clause-reads : goal.returns-in_ok-arguments-in-Kill-clause-reads
returns-in_ok-arguments-in-Kill-clause-reads c = λ m r o condition.
    let a = c.in_ok-arguments-in-Kill.ensures.reads tt m (room_for c.args.phrases.limited m c.args.tokens.now c.args.behind.now c.requires.room r)
    (c.requires.other (ap (λ (k : Keyword). may_be_bare (Of k)) c.in-Kill.is)) o condition (Of keyword.Kill) [] in
    let kw = ap (λ (k : Keyword). run m (tokens_seen c.in_ok-arguments-in-Kill.rest.now) (At (Behind (args_rest o condition (Of k) a.0)))) (sym c.in-Kill.is) in (
      a.0,
      λ l. ((Kill (map killed_of c.in_ok-arguments-in-Kill.arguments.items), items_parts killed_of killed_parts c.in_ok-arguments-in-Kill.arguments.items a.0 (a.1 l), refl), sym c.in-Kill.is),
      at_keyword m o condition c.args.keyword keyword.Kill (tokens_seen c.args.tokens.now) c.in-Kill.is
          ∙ blank_opens m o condition (Of keyword.Kill) (KillWanted true) (tokens_seen c.args.tokens.now) (tokens_seen c.args.behind.now) c.requires.blank refl
          ∙ a.2
          ∙ args_end m o condition (Of keyword.Kill) a.0 KillEnd (tokens_seen c.in_ok-arguments-in-Kill.rest.now) refl c.in_ok-arguments-in-Kill.ensures.parted
          ∙ kw,
    )

pub returns-in_ok-arguments-in-Merge-clause-reads : goal.returns-in_ok-arguments-in-Merge-clause-reads
returns-in_ok-arguments-in-Merge-clause-reads c = λ m r o condition.
    let a = c.in_ok-arguments-in-Merge.ensures.reads tt m (room_for c.args.phrases.limited m c.args.tokens.now c.args.behind.now c.requires.room r) tt o condition (Of keyword.Merge) [] in
    let kw = ap (λ (k : Keyword). run m (tokens_seen c.in_ok-arguments-in-Merge.rest.now) (At (Behind (args_rest o condition (Of k) a.0)))) (sym c.in-Merge.is) in (
      a.0,
      λ l. ((Merge (map merged_of c.in_ok-arguments-in-Merge.arguments.items), items_parts merged_of merged_parts c.in_ok-arguments-in-Merge.arguments.items a.0 (a.1 l), refl), sym c.in-Merge.is),
      at_keyword m o condition c.args.keyword keyword.Merge (tokens_seen c.args.tokens.now) c.in-Merge.is
          ∙ blank_opens m o condition (Of keyword.Merge) MergeInto (tokens_seen c.args.tokens.now) (tokens_seen c.args.behind.now) c.requires.blank refl
          ∙ a.2
          ∙ args_end m o condition (Of keyword.Merge) a.0 MergeEnd (tokens_seen c.in_ok-arguments-in-Merge.rest.now) refl c.in_ok-arguments-in-Merge.ensures.parted
          ∙ kw,
    )

pub returns-in_ok-arguments-in-If-clause-reads : goal.returns-in_ok-arguments-in-If-clause-reads
returns-in_ok-arguments-in-If-clause-reads c = λ m r o condition.
    let a = c.in_ok-arguments-in-If.ensures.reads true m (room_for c.args.phrases.limited m c.args.tokens.now c.args.behind.now c.requires.room r)
    (inr (c.requires.other (ap (λ (k : Keyword). may_be_bare (Of k)) c.in-If.is))) o condition (Of keyword.If) [] in
    let kw = ap (λ (k : Keyword). run m (tokens_seen c.in_ok-arguments-in-If.rest.now) (At (Behind (args_rest o condition (Of k) a.0)))) (sym c.in-If.is) in (
      a.0,
      λ l. ((If (map expr_of c.in_ok-arguments-in-If.arguments.items), items_parts expr_of value_parts c.in_ok-arguments-in-If.arguments.items a.0 (a.1 l), refl), sym c.in-If.is),
      at_keyword m o condition c.args.keyword keyword.If (tokens_seen c.args.tokens.now) c.in-If.is
          ∙ blank_opens m o condition (Of keyword.If) (ValueWanted true) (tokens_seen c.args.tokens.now) (tokens_seen c.args.behind.now) c.requires.blank refl
          ∙ a.2
          ∙ args_end m o condition (Of keyword.If) a.0 ValueEnd (tokens_seen c.in_ok-arguments-in-If.rest.now) refl c.in_ok-arguments-in-If.ensures.parted
          ∙ kw,
    )

pub returns-in_ok-arguments-in-Do-clause-reads : goal.returns-in_ok-arguments-in-Do-clause-reads
returns-in_ok-arguments-in-Do-clause-reads c = λ m r o condition.
    let a = c.in_ok-arguments-in-Do.ensures.reads tt m (room_for c.args.phrases.limited m c.args.tokens.now c.args.behind.now c.requires.room r)
    (c.requires.other (ap (λ (k : Keyword). may_be_bare (Of k)) c.in-Do.is)) o condition (Of keyword.Do) [] in
    let kw = ap (λ (k : Keyword). run m (tokens_seen c.in_ok-arguments-in-Do.rest.now) (At (Behind (args_rest o condition (Of k) a.0)))) (sym c.in-Do.is) in (
      a.0,
      λ l. let w = items_written called_of called_parts plain_called c.in_ok-arguments-in-Do.arguments.items a.0 (a.1 l) in ((Do w.0, w.1, ap Do w.2), sym c.in-Do.is),
      at_keyword m o condition c.args.keyword keyword.Do (tokens_seen c.args.tokens.now) c.in-Do.is
          ∙ blank_opens m o condition (Of keyword.Do) (EntryWanted Calls true) (tokens_seen c.args.tokens.now) (tokens_seen c.args.behind.now) c.requires.blank refl
          ∙ a.2
          ∙ args_end m o condition (Of keyword.Do) a.0 (GuardEnd Calls) (tokens_seen c.in_ok-arguments-in-Do.rest.now) refl c.in_ok-arguments-in-Do.ensures.parted
          ∙ kw,
    )

pub returns-in_ok-arguments-in-Goto-clause-reads : goal.returns-in_ok-arguments-in-Goto-clause-reads
returns-in_ok-arguments-in-Goto-clause-reads c = λ m r o condition.
    let a = c.in_ok-arguments-in-Goto.ensures.reads tt m (room_for c.args.phrases.limited m c.args.tokens.now c.args.behind.now c.requires.room r) tt o condition (Of keyword.Goto) [] in
    let kw = ap (λ (k : Keyword). run m (tokens_seen c.in_ok-arguments-in-Goto.rest.now) (At (Behind (args_rest o condition (Of k) a.0)))) (sym c.in-Goto.is) in (
      a.0,
      λ l. ((Goto (map jumped_of c.in_ok-arguments-in-Goto.arguments.items), items_parts jumped_of jumped_parts c.in_ok-arguments-in-Goto.arguments.items a.0 (a.1 l), refl), sym c.in-Goto.is),
      at_keyword m o condition c.args.keyword keyword.Goto (tokens_seen c.args.tokens.now) c.in-Goto.is
          ∙ blank_opens m o condition (Of keyword.Goto) (EntryWanted Jumps true) (tokens_seen c.args.tokens.now) (tokens_seen c.args.behind.now) c.requires.blank refl
          ∙ a.2
          ∙ args_end m o condition (Of keyword.Goto) a.0 (GuardEnd Jumps) (tokens_seen c.in_ok-arguments-in-Goto.rest.now) refl c.in_ok-arguments-in-Goto.ensures.parted
          ∙ kw,
    )

pub returns-in_ok-arguments-in-New-clause-reads : goal.returns-in_ok-arguments-in-New-clause-reads
returns-in_ok-arguments-in-New-clause-reads c = λ m r o condition.
    let a = c.in_ok-arguments-in-New.ensures.reads tt m (room_for c.args.phrases.limited m c.args.tokens.now c.args.behind.now c.requires.room r)
    (c.requires.other (ap (λ (k : Keyword). may_be_bare (Of k)) c.in-New.is)) o condition (Of keyword.New) [] in
    let kw = ap (λ (k : Keyword). run m (tokens_seen c.in_ok-arguments-in-New.rest.now) (At (Behind (args_rest o condition (Of k) a.0)))) (sym c.in-New.is) in (
      a.0,
      λ l. ((New (map renewed_of c.in_ok-arguments-in-New.arguments.items), items_parts renewed_of renewed_parts c.in_ok-arguments-in-New.arguments.items a.0 (a.1 l), refl), sym c.in-New.is),
      at_keyword m o condition c.args.keyword keyword.New (tokens_seen c.args.tokens.now) c.in-New.is
          ∙ blank_opens m o condition (Of keyword.New) (NewWanted true) (tokens_seen c.args.tokens.now) (tokens_seen c.args.behind.now) c.requires.blank refl
          ∙ a.2
          ∙ args_end m o condition (Of keyword.New) a.0 NewEnd (tokens_seen c.in_ok-arguments-in-New.rest.now) refl c.in_ok-arguments-in-New.ensures.parted
          ∙ kw,
    )

pub returns-in_ok-counter-in-For-clause-reads : goal.returns-in_ok-counter-in-For-clause-reads
returns-in_ok-counter-in-For-clause-reads c = λ m r o condition.
    let a = c.in_ok-counter-in-For.ensures.reads m (room_for c.args.phrases.limited m c.args.tokens.now c.args.behind.now c.requires.room r) o condition (Of keyword.For) [] in
    let kw = ap (λ (k : Keyword). run m (tokens_seen c.in_ok-counter-in-For.rest.now) (At (Behind (args_rest o condition (Of k) a.0)))) (sym c.in-For.is) in (
      a.0,
      λ l. ((For (variable_of c.in_ok-counter-in-For.counter) (map range_of c.in_ok-counter-in-For.ranges.items), a.1 l, refl), sym c.in-For.is),
      at_keyword m o condition c.args.keyword keyword.For (tokens_seen c.args.tokens.now) c.in-For.is
          ∙ blank_opens m o condition (Of keyword.For) ForWanted (tokens_seen c.args.tokens.now) (tokens_seen c.args.behind.now) c.requires.blank refl
          ∙ a.2
          ∙ args_end m o condition (Of keyword.For) a.0 LimitEnd (tokens_seen c.in_ok-counter-in-For.rest.now) refl c.in_ok-counter-in-For.ensures.parted
          ∙ kw,
    )

pub returns-in_ok-arguments-in-Hang-clause-reads : goal.returns-in_ok-arguments-in-Hang-clause-reads
returns-in_ok-arguments-in-Hang-clause-reads c = λ m r o condition.
    let a = c.in_ok-arguments-in-Hang.ensures.reads false m (room_for c.args.phrases.limited m c.args.tokens.now c.args.behind.now c.requires.room r) (inl refl) o condition (Of keyword.Hang) [] in
    let kw = ap (λ (k : Keyword). run m (tokens_seen c.in_ok-arguments-in-Hang.rest.now) (At (Behind (args_rest o condition (Of k) a.0)))) (sym c.in-Hang.is) in (
      a.0,
      λ l. ((Hang (map expr_of c.in_ok-arguments-in-Hang.arguments.items), items_parts expr_of value_parts c.in_ok-arguments-in-Hang.arguments.items a.0 (a.1 l), refl), sym c.in-Hang.is),
      at_keyword m o condition c.args.keyword keyword.Hang (tokens_seen c.args.tokens.now) c.in-Hang.is
          ∙ blank_opens m o condition (Of keyword.Hang) (ValueWanted false) (tokens_seen c.args.tokens.now) (tokens_seen c.args.behind.now) c.requires.blank refl
          ∙ a.2
          ∙ args_end m o condition (Of keyword.Hang) a.0 ValueEnd (tokens_seen c.in_ok-arguments-in-Hang.rest.now) refl c.in_ok-arguments-in-Hang.ensures.parted
          ∙ kw,
    )

pub returns-in_ok-arguments-in-Job-clause-reads : goal.returns-in_ok-arguments-in-Job-clause-reads
returns-in_ok-arguments-in-Job-clause-reads c = λ m r o condition.
    let a = c.in_ok-arguments-in-Job.ensures.reads tt m (room_for c.args.phrases.limited m c.args.tokens.now c.args.behind.now c.requires.room r) tt o condition (Of keyword.Job) [] in
    let kw = ap (λ (k : Keyword). run m (tokens_seen c.in_ok-arguments-in-Job.rest.now) (At (Behind (args_rest o condition (Of k) a.0)))) (sym c.in-Job.is) in (
      a.0,
      λ l. let w = items_written started_of started_parts plain_started c.in_ok-arguments-in-Job.arguments.items a.0 (a.1 l) in ((Job w.0, w.1, ap Job w.2), sym c.in-Job.is),
      at_keyword m o condition c.args.keyword keyword.Job (tokens_seen c.args.tokens.now) c.in-Job.is
          ∙ blank_opens m o condition (Of keyword.Job) (EntryWanted Starts true) (tokens_seen c.args.tokens.now) (tokens_seen c.args.behind.now) c.requires.blank refl
          ∙ a.2
          ∙ args_end m o condition (Of keyword.Job) a.0 (GuardEnd Starts) (tokens_seen c.in_ok-arguments-in-Job.rest.now) refl c.in_ok-arguments-in-Job.ensures.parted
          ∙ kw,
    )

pub returns-in_ok-arguments-in-Lock-clause-reads : goal.returns-in_ok-arguments-in-Lock-clause-reads
returns-in_ok-arguments-in-Lock-clause-reads c = λ m r o condition.
    let a = c.in_ok-arguments-in-Lock.ensures.reads tt m (room_for c.args.phrases.limited m c.args.tokens.now c.args.behind.now c.requires.room r)
    (c.requires.other (ap (λ (k : Keyword). may_be_bare (Of k)) c.in-Lock.is)) o condition (Of keyword.Lock) [] in
    let kw = ap (λ (k : Keyword). run m (tokens_seen c.in_ok-arguments-in-Lock.rest.now) (At (Behind (args_rest o condition (Of k) a.0)))) (sym c.in-Lock.is) in (
      a.0,
      λ l. ((Lock (map locked_of c.in_ok-arguments-in-Lock.arguments.items), items_parts locked_of locked_parts c.in_ok-arguments-in-Lock.arguments.items a.0 (a.1 l), refl), sym c.in-Lock.is),
      at_keyword m o condition c.args.keyword keyword.Lock (tokens_seen c.args.tokens.now) c.in-Lock.is
          ∙ blank_opens m o condition (Of keyword.Lock) (LockWanted true) (tokens_seen c.args.tokens.now) (tokens_seen c.args.behind.now) c.requires.blank refl
          ∙ a.2
          ∙ args_end m o condition (Of keyword.Lock) a.0 LockEnd (tokens_seen c.in_ok-arguments-in-Lock.rest.now) refl c.in_ok-arguments-in-Lock.ensures.parted
          ∙ kw,
    )

pub returns-in_ok-arguments-in-Open-clause-reads : goal.returns-in_ok-arguments-in-Open-clause-reads
returns-in_ok-arguments-in-Open-clause-reads c = λ m r o condition.
    let a = c.in_ok-arguments-in-Open.ensures.reads tt m (room_for c.args.phrases.limited m c.args.tokens.now c.args.behind.now c.requires.room r) tt o condition (Of keyword.Open) [] in
    let kw = ap (λ (k : Keyword). run m (tokens_seen c.in_ok-arguments-in-Open.rest.now) (At (Behind (args_rest o condition (Of k) a.0)))) (sym c.in-Open.is) in (
      a.0,
      λ l. ((OpenDevice (map opened_of c.in_ok-arguments-in-Open.arguments.items), items_parts opened_of opened_parts c.in_ok-arguments-in-Open.arguments.items a.0 (a.1 l), refl), sym c.in-Open.is),
      at_keyword m o condition c.args.keyword keyword.Open (tokens_seen c.args.tokens.now) c.in-Open.is
          ∙ blank_opens m o condition (Of keyword.Open) DeviceWanted (tokens_seen c.args.tokens.now) (tokens_seen c.args.behind.now) c.requires.blank refl
          ∙ a.2
          ∙ args_end m o condition (Of keyword.Open) a.0 DeviceWaited (tokens_seen c.in_ok-arguments-in-Open.rest.now) refl c.in_ok-arguments-in-Open.ensures.parted
          ∙ kw,
    )

pub returns-in_ok-arguments-in-Use-clause-reads : goal.returns-in_ok-arguments-in-Use-clause-reads
returns-in_ok-arguments-in-Use-clause-reads c = λ m r o condition.
    let a = c.in_ok-arguments-in-Use.ensures.reads false m (room_for c.args.phrases.limited m c.args.tokens.now c.args.behind.now c.requires.room r) (inl refl) o condition (Of keyword.Use) [] in
    let kw = ap (λ (k : Keyword). run m (tokens_seen c.in_ok-arguments-in-Use.rest.now) (At (Behind (args_rest o condition (Of k) a.0)))) (sym c.in-Use.is) in (
      a.0,
      λ l. ((UseDevice (map expr_of c.in_ok-arguments-in-Use.arguments.items), items_parts expr_of value_parts c.in_ok-arguments-in-Use.arguments.items a.0 (a.1 l), refl), sym c.in-Use.is),
      at_keyword m o condition c.args.keyword keyword.Use (tokens_seen c.args.tokens.now) c.in-Use.is
          ∙ blank_opens m o condition (Of keyword.Use) (ValueWanted false) (tokens_seen c.args.tokens.now) (tokens_seen c.args.behind.now) c.requires.blank refl
          ∙ a.2
          ∙ args_end m o condition (Of keyword.Use) a.0 ValueEnd (tokens_seen c.in_ok-arguments-in-Use.rest.now) refl c.in_ok-arguments-in-Use.ensures.parted
          ∙ kw,
    )

pub returns-in_ok-arguments-in-Close-clause-reads : goal.returns-in_ok-arguments-in-Close-clause-reads
returns-in_ok-arguments-in-Close-clause-reads c = λ m r o condition.
    let a = c.in_ok-arguments-in-Close.ensures.reads false m (room_for c.args.phrases.limited m c.args.tokens.now c.args.behind.now c.requires.room r) (inl refl) o condition (Of keyword.Close) [] in
    let kw = ap (λ (k : Keyword). run m (tokens_seen c.in_ok-arguments-in-Close.rest.now) (At (Behind (args_rest o condition (Of k) a.0)))) (sym c.in-Close.is) in (
      a.0,
      λ l. ((CloseDevice (map expr_of c.in_ok-arguments-in-Close.arguments.items), items_parts expr_of value_parts c.in_ok-arguments-in-Close.arguments.items a.0 (a.1 l), refl), sym c.in-Close.is),
      at_keyword m o condition c.args.keyword keyword.Close (tokens_seen c.args.tokens.now) c.in-Close.is
          ∙ blank_opens m o condition (Of keyword.Close) (ValueWanted false) (tokens_seen c.args.tokens.now) (tokens_seen c.args.behind.now) c.requires.blank refl
          ∙ a.2
          ∙ args_end m o condition (Of keyword.Close) a.0 ValueEnd (tokens_seen c.in_ok-arguments-in-Close.rest.now) refl c.in_ok-arguments-in-Close.ensures.parted
          ∙ kw,
    )

pub returns-in_ok-arguments-in-Read-clause-reads : goal.returns-in_ok-arguments-in-Read-clause-reads
returns-in_ok-arguments-in-Read-clause-reads c = λ m r o condition.
    let a = c.in_ok-arguments-in-Read.ensures.reads tt m (room_for c.args.phrases.limited m c.args.tokens.now c.args.behind.now c.requires.room r) tt o condition (Of keyword.Read) [] in
    let kw = ap (λ (k : Keyword). run m (tokens_seen c.in_ok-arguments-in-Read.rest.now) (At (Behind (args_rest o condition (Of k) a.0)))) (sym c.in-Read.is) in (
      a.0,
      λ l. ((Read (map input_of c.in_ok-arguments-in-Read.arguments.items), items_parts input_of input_parts c.in_ok-arguments-in-Read.arguments.items a.0 (a.1 l), refl), sym c.in-Read.is),
      at_keyword m o condition c.args.keyword keyword.Read (tokens_seen c.args.tokens.now) c.in-Read.is
          ∙ blank_opens m o condition (Of keyword.Read) (OutputWanted Reads) (tokens_seen c.args.tokens.now) (tokens_seen c.args.behind.now) c.requires.blank refl
          ∙ a.2
          ∙ args_end m o condition (Of keyword.Read) a.0 (OutputEnd Reads) (tokens_seen c.in_ok-arguments-in-Read.rest.now) refl c.in_ok-arguments-in-Read.ensures.parted
          ∙ kw,
    )

-- refusals

pub returns-in_err-arguments-in-Set-clause-reads : goal.returns-in_err-arguments-in-Set-clause-reads
returns-in_err-arguments-in-Set-clause-reads c = λ m r o condition.
    reads_as_err c.args.phrases.limited _ _ c.from_residual.result c.in_err-arguments-in-Set.field-0.0 m c.args.tokens.now _ _ c.from_residual.ensures.1
    (refuses_from c.args.phrases.limited c.in_err-arguments-in-Set.field-0.0 _ _
    (at_keyword m o condition c.args.keyword keyword.Set (tokens_seen c.args.tokens.now) c.in-Set.is ∙
    blank_opens m o condition (Of keyword.Set) (SetTarget false) (tokens_seen c.args.tokens.now) (tokens_seen c.args.behind.now) c.requires.blank refl)
    (c.in_err-arguments-in-Set.ensures.reads tt m (room_for c.args.phrases.limited m c.args.tokens.now c.args.behind.now c.requires.room r) tt o condition (Of keyword.Set) []))

pub returns-in_err-arguments-in-Write-clause-reads : goal.returns-in_err-arguments-in-Write-clause-reads
returns-in_err-arguments-in-Write-clause-reads c = λ m r o condition.
    reads_as_err c.args.phrases.limited _ _ c.from_residual-in_err-arguments-in-Write.result c.in_err-arguments-in-Write.field-0.0 m c.args.tokens.now _ _
    c.from_residual-in_err-arguments-in-Write.ensures.1
    (refuses_from c.args.phrases.limited c.in_err-arguments-in-Write.field-0.0 _ _
    (at_keyword m o condition c.args.keyword keyword.Write (tokens_seen c.args.tokens.now) c.in-Write.is ∙
    blank_opens m o condition (Of keyword.Write) (OutputWanted Writes) (tokens_seen c.args.tokens.now) (tokens_seen c.args.behind.now) c.requires.blank refl)
    (c.in_err-arguments-in-Write.ensures.reads tt m (room_for c.args.phrases.limited m c.args.tokens.now c.args.behind.now c.requires.room r) tt o condition (Of keyword.Write) []))

pub returns-in_err-arguments-in-Hang-clause-reads : goal.returns-in_err-arguments-in-Hang-clause-reads
returns-in_err-arguments-in-Hang-clause-reads c = λ m r o condition.
    reads_as_err c.args.phrases.limited _ _ c.from_residual-in_err-arguments-in-Hang.result c.in_err-arguments-in-Hang.field-0.0 m c.args.tokens.now _ _
    c.from_residual-in_err-arguments-in-Hang.ensures.1
    (refuses_from c.args.phrases.limited c.in_err-arguments-in-Hang.field-0.0 _ _
    (at_keyword m o condition c.args.keyword keyword.Hang (tokens_seen c.args.tokens.now) c.in-Hang.is ∙
    blank_opens m o condition (Of keyword.Hang) (ValueWanted false) (tokens_seen c.args.tokens.now) (tokens_seen c.args.behind.now) c.requires.blank refl)
    (c.in_err-arguments-in-Hang.ensures.reads false m (room_for c.args.phrases.limited m c.args.tokens.now c.args.behind.now c.requires.room r) (inl refl) o condition (Of keyword.Hang) []))

pub returns-in_err-arguments-in-Job-clause-reads : goal.returns-in_err-arguments-in-Job-clause-reads
returns-in_err-arguments-in-Job-clause-reads c = λ m r o condition.
    reads_as_err c.args.phrases.limited _ _ c.from_residual-in_err-arguments-in-Job.result c.in_err-arguments-in-Job.field-0.0 m c.args.tokens.now _ _ c.from_residual-in_err-arguments-in-Job.ensures.1
    (refuses_from c.args.phrases.limited c.in_err-arguments-in-Job.field-0.0 _ _
    (at_keyword m o condition c.args.keyword keyword.Job (tokens_seen c.args.tokens.now) c.in-Job.is ∙
    blank_opens m o condition (Of keyword.Job) (EntryWanted Starts true) (tokens_seen c.args.tokens.now) (tokens_seen c.args.behind.now) c.requires.blank refl)
    (c.in_err-arguments-in-Job.ensures.reads tt m (room_for c.args.phrases.limited m c.args.tokens.now c.args.behind.now c.requires.room r) tt o condition (Of keyword.Job) []))

pub returns-in_err-arguments-in-Lock-clause-reads : goal.returns-in_err-arguments-in-Lock-clause-reads
returns-in_err-arguments-in-Lock-clause-reads c = λ m r o condition.
    reads_as_err c.args.phrases.limited _ _ c.from_residual-in_err-arguments-in-Lock.result c.in_err-arguments-in-Lock.field-0.0 m c.args.tokens.now _ _
    c.from_residual-in_err-arguments-in-Lock.ensures.1
    (refuses_from c.args.phrases.limited c.in_err-arguments-in-Lock.field-0.0 _ _
    (at_keyword m o condition c.args.keyword keyword.Lock (tokens_seen c.args.tokens.now) c.in-Lock.is ∙
    blank_opens m o condition (Of keyword.Lock) (LockWanted true) (tokens_seen c.args.tokens.now) (tokens_seen c.args.behind.now) c.requires.blank refl)
    (c.in_err-arguments-in-Lock.ensures.reads tt m (room_for c.args.phrases.limited m c.args.tokens.now c.args.behind.now c.requires.room r)
    (c.requires.other (ap (λ (k : Keyword). may_be_bare (Of k)) c.in-Lock.is)) o condition (Of keyword.Lock) []))

pub returns-in_err-arguments-in-Kill-clause-reads : goal.returns-in_err-arguments-in-Kill-clause-reads
returns-in_err-arguments-in-Kill-clause-reads c = λ m r o condition.
    reads_as_err c.args.phrases.limited _ _ c.from_residual-in_err-arguments-in-Kill.result c.in_err-arguments-in-Kill.field-0.0 m c.args.tokens.now _ _
    c.from_residual-in_err-arguments-in-Kill.ensures.1
    (refuses_from c.args.phrases.limited c.in_err-arguments-in-Kill.field-0.0 _ _
    (at_keyword m o condition c.args.keyword keyword.Kill (tokens_seen c.args.tokens.now) c.in-Kill.is ∙
    blank_opens m o condition (Of keyword.Kill) (KillWanted true) (tokens_seen c.args.tokens.now) (tokens_seen c.args.behind.now) c.requires.blank refl)
    (c.in_err-arguments-in-Kill.ensures.reads tt m (room_for c.args.phrases.limited m c.args.tokens.now c.args.behind.now c.requires.room r)
    (c.requires.other (ap (λ (k : Keyword). may_be_bare (Of k)) c.in-Kill.is)) o condition (Of keyword.Kill) []))

pub returns-in_err-arguments-in-Merge-clause-reads : goal.returns-in_err-arguments-in-Merge-clause-reads
returns-in_err-arguments-in-Merge-clause-reads c = λ m r o condition.
    reads_as_err c.args.phrases.limited _ _ c.from_residual-in_err-arguments-in-Merge.result c.in_err-arguments-in-Merge.field-0.0 m c.args.tokens.now _ _
    c.from_residual-in_err-arguments-in-Merge.ensures.1
    (refuses_from c.args.phrases.limited c.in_err-arguments-in-Merge.field-0.0 _ _
    (at_keyword m o condition c.args.keyword keyword.Merge (tokens_seen c.args.tokens.now) c.in-Merge.is ∙
    blank_opens m o condition (Of keyword.Merge) MergeInto (tokens_seen c.args.tokens.now) (tokens_seen c.args.behind.now) c.requires.blank refl)
    (c.in_err-arguments-in-Merge.ensures.reads tt m (room_for c.args.phrases.limited m c.args.tokens.now c.args.behind.now c.requires.room r) tt o condition (Of keyword.Merge) []))

pub returns-in_err-arguments-in-If-clause-reads : goal.returns-in_err-arguments-in-If-clause-reads
returns-in_err-arguments-in-If-clause-reads c = λ m r o condition.
    reads_as_err c.args.phrases.limited _ _ c.from_residual-in_err-arguments-in-If.result c.in_err-arguments-in-If.field-0.0 m c.args.tokens.now _ _ c.from_residual-in_err-arguments-in-If.ensures.1
    (refuses_from c.args.phrases.limited c.in_err-arguments-in-If.field-0.0 _ _
    (at_keyword m o condition c.args.keyword keyword.If (tokens_seen c.args.tokens.now) c.in-If.is ∙
    blank_opens m o condition (Of keyword.If) (ValueWanted true) (tokens_seen c.args.tokens.now) (tokens_seen c.args.behind.now) c.requires.blank refl)
    (c.in_err-arguments-in-If.ensures.reads true m (room_for c.args.phrases.limited m c.args.tokens.now c.args.behind.now c.requires.room r)
    (inr (c.requires.other (ap (λ (k : Keyword). may_be_bare (Of k)) c.in-If.is))) o condition (Of keyword.If) []))

pub returns-in_err-arguments-in-Do-clause-reads : goal.returns-in_err-arguments-in-Do-clause-reads
returns-in_err-arguments-in-Do-clause-reads c = λ m r o condition.
    reads_as_err c.args.phrases.limited _ _ c.from_residual-in_err-arguments-in-Do.result c.in_err-arguments-in-Do.field-0.0 m c.args.tokens.now _ _ c.from_residual-in_err-arguments-in-Do.ensures.1
    (refuses_from c.args.phrases.limited c.in_err-arguments-in-Do.field-0.0 _ _
    (at_keyword m o condition c.args.keyword keyword.Do (tokens_seen c.args.tokens.now) c.in-Do.is ∙
    blank_opens m o condition (Of keyword.Do) (EntryWanted Calls true) (tokens_seen c.args.tokens.now) (tokens_seen c.args.behind.now) c.requires.blank refl)
    (c.in_err-arguments-in-Do.ensures.reads tt m (room_for c.args.phrases.limited m c.args.tokens.now c.args.behind.now c.requires.room r)
    (c.requires.other (ap (λ (k : Keyword). may_be_bare (Of k)) c.in-Do.is)) o condition (Of keyword.Do) []))

pub returns-in_err-arguments-in-Goto-clause-reads : goal.returns-in_err-arguments-in-Goto-clause-reads
returns-in_err-arguments-in-Goto-clause-reads c = λ m r o condition.
    reads_as_err c.args.phrases.limited _ _ c.from_residual-in_err-arguments-in-Goto.result c.in_err-arguments-in-Goto.field-0.0 m c.args.tokens.now _ _
    c.from_residual-in_err-arguments-in-Goto.ensures.1
    (refuses_from c.args.phrases.limited c.in_err-arguments-in-Goto.field-0.0 _ _
    (at_keyword m o condition c.args.keyword keyword.Goto (tokens_seen c.args.tokens.now) c.in-Goto.is ∙
    blank_opens m o condition (Of keyword.Goto) (EntryWanted Jumps true) (tokens_seen c.args.tokens.now) (tokens_seen c.args.behind.now) c.requires.blank refl)
    (c.in_err-arguments-in-Goto.ensures.reads tt m (room_for c.args.phrases.limited m c.args.tokens.now c.args.behind.now c.requires.room r) tt o condition (Of keyword.Goto) []))

pub returns-in_err-arguments-in-New-clause-reads : goal.returns-in_err-arguments-in-New-clause-reads
returns-in_err-arguments-in-New-clause-reads c = λ m r o condition.
    reads_as_err c.args.phrases.limited _ _ c.from_residual-in_err-arguments-in-New.result c.in_err-arguments-in-New.field-0.0 m c.args.tokens.now _ _ c.from_residual-in_err-arguments-in-New.ensures.1
    (refuses_from c.args.phrases.limited c.in_err-arguments-in-New.field-0.0 _ _
    (at_keyword m o condition c.args.keyword keyword.New (tokens_seen c.args.tokens.now) c.in-New.is ∙
    blank_opens m o condition (Of keyword.New) (NewWanted true) (tokens_seen c.args.tokens.now) (tokens_seen c.args.behind.now) c.requires.blank refl)
    (c.in_err-arguments-in-New.ensures.reads tt m (room_for c.args.phrases.limited m c.args.tokens.now c.args.behind.now c.requires.room r)
    (c.requires.other (ap (λ (k : Keyword). may_be_bare (Of k)) c.in-New.is)) o condition (Of keyword.New) []))

pub returns-in_err-arguments-in-Open-clause-reads : goal.returns-in_err-arguments-in-Open-clause-reads
returns-in_err-arguments-in-Open-clause-reads c = λ m r o condition.
    reads_as_err c.args.phrases.limited _ _ c.from_residual-in_err-arguments-in-Open.result c.in_err-arguments-in-Open.field-0.0 m c.args.tokens.now _ _
    c.from_residual-in_err-arguments-in-Open.ensures.1
    (refuses_from c.args.phrases.limited c.in_err-arguments-in-Open.field-0.0 _ _
    (at_keyword m o condition c.args.keyword keyword.Open (tokens_seen c.args.tokens.now) c.in-Open.is ∙
    blank_opens m o condition (Of keyword.Open) DeviceWanted (tokens_seen c.args.tokens.now) (tokens_seen c.args.behind.now) c.requires.blank refl)
    (c.in_err-arguments-in-Open.ensures.reads tt m (room_for c.args.phrases.limited m c.args.tokens.now c.args.behind.now c.requires.room r) tt o condition (Of keyword.Open) []))

pub returns-in_err-arguments-in-Use-clause-reads : goal.returns-in_err-arguments-in-Use-clause-reads
returns-in_err-arguments-in-Use-clause-reads c = λ m r o condition.
    reads_as_err c.args.phrases.limited _ _ c.from_residual-in_err-arguments-in-Use.result c.in_err-arguments-in-Use.field-0.0 m c.args.tokens.now _ _ c.from_residual-in_err-arguments-in-Use.ensures.1
    (refuses_from c.args.phrases.limited c.in_err-arguments-in-Use.field-0.0 _ _
    (at_keyword m o condition c.args.keyword keyword.Use (tokens_seen c.args.tokens.now) c.in-Use.is ∙
    blank_opens m o condition (Of keyword.Use) (ValueWanted false) (tokens_seen c.args.tokens.now) (tokens_seen c.args.behind.now) c.requires.blank refl)
    (c.in_err-arguments-in-Use.ensures.reads false m (room_for c.args.phrases.limited m c.args.tokens.now c.args.behind.now c.requires.room r) (inl refl) o condition (Of keyword.Use) []))

pub returns-in_err-arguments-in-Close-clause-reads : goal.returns-in_err-arguments-in-Close-clause-reads
returns-in_err-arguments-in-Close-clause-reads c = λ m r o condition.
    reads_as_err c.args.phrases.limited _ _ c.from_residual-in_err-arguments-in-Close.result c.in_err-arguments-in-Close.field-0.0 m c.args.tokens.now _ _
    c.from_residual-in_err-arguments-in-Close.ensures.1
    (refuses_from c.args.phrases.limited c.in_err-arguments-in-Close.field-0.0 _ _
    (at_keyword m o condition c.args.keyword keyword.Close (tokens_seen c.args.tokens.now) c.in-Close.is ∙
    blank_opens m o condition (Of keyword.Close) (ValueWanted false) (tokens_seen c.args.tokens.now) (tokens_seen c.args.behind.now) c.requires.blank refl)
    (c.in_err-arguments-in-Close.ensures.reads false m (room_for c.args.phrases.limited m c.args.tokens.now c.args.behind.now c.requires.room r) (inl refl) o condition (Of keyword.Close) []))

pub returns-in_err-arguments-in-Read-clause-reads : goal.returns-in_err-arguments-in-Read-clause-reads
returns-in_err-arguments-in-Read-clause-reads c = λ m r o condition.
    reads_as_err c.args.phrases.limited _ _ c.from_residual-in_err-arguments-in-Read.result c.in_err-arguments-in-Read.field-0.0 m c.args.tokens.now _ _
    c.from_residual-in_err-arguments-in-Read.ensures.1
    (refuses_from c.args.phrases.limited c.in_err-arguments-in-Read.field-0.0 _ _
    (at_keyword m o condition c.args.keyword keyword.Read (tokens_seen c.args.tokens.now) c.in-Read.is ∙
    blank_opens m o condition (Of keyword.Read) (OutputWanted Reads) (tokens_seen c.args.tokens.now) (tokens_seen c.args.behind.now) c.requires.blank refl)
    (c.in_err-arguments-in-Read.ensures.reads tt m (room_for c.args.phrases.limited m c.args.tokens.now c.args.behind.now c.requires.room r) tt o condition (Of keyword.Read) []))

pub returns-in_ok-argument-in-TStart-clause-reads : goal.returns-in_ok-argument-in-TStart-clause-reads
returns-in_ok-argument-in-TStart-clause-reads c = λ m r o condition.
    let a = c.in_ok-argument-in-TStart.ensures.reads m o condition (Of keyword.TStart) [] in
    let kw = ap (λ (k : Keyword). run m (tokens_seen c.in_ok-argument-in-TStart.rest.now) (At (Behind (args_rest o condition (Of k) a.0)))) (sym c.in-TStart.is) in (
      a.0,
      λ l. ((TStart (Some (restartable_of c.in_ok-argument-in-TStart.argument)), a.1 l, refl), sym c.in-TStart.is),
      at_keyword m o condition c.args.keyword keyword.TStart (tokens_seen c.args.tokens.now) c.in-TStart.is
          ∙ blank_opens m o condition (Of keyword.TStart) RestartWanted (tokens_seen c.args.tokens.now) (tokens_seen c.args.behind.now) c.requires.blank refl
          ∙ a.2
          ∙ args_end m o condition (Of keyword.TStart) a.0 SerialEnd (tokens_seen c.in_ok-argument-in-TStart.rest.now) refl c.in_ok-argument-in-TStart.ensures.parted
          ∙ kw,
    )

pub returns-in_err-argument-in-TStart-clause-reads : goal.returns-in_err-argument-in-TStart-clause-reads
returns-in_err-argument-in-TStart-clause-reads c = λ m r o condition.
    reads_as_err c.args.phrases.limited _ _ c.from_residual-in_err-argument-in-TStart.result c.in_err-argument-in-TStart.field-0.0 m c.args.tokens.now _ _
    c.from_residual-in_err-argument-in-TStart.ensures.1
    (refuses_from c.args.phrases.limited c.in_err-argument-in-TStart.field-0.0 _ _
    (at_keyword m o condition c.args.keyword keyword.TStart (tokens_seen c.args.tokens.now) c.in-TStart.is ∙
    blank_opens m o condition (Of keyword.TStart) RestartWanted (tokens_seen c.args.tokens.now) (tokens_seen c.args.behind.now) c.requires.blank refl)
    (c.in_err-argument-in-TStart.ensures.reads m o condition (Of keyword.TStart) []))

pub returns-in_ok-value-in-Quit-clause-reads : goal.returns-in_ok-value-in-Quit-clause-reads
returns-in_ok-value-in-Quit-clause-reads c = λ m r o condition.
    let a = c.in_ok-value-in-Quit.ensures.reads m (room_for c.args.phrases.limited m c.args.tokens.now c.args.behind.now c.requires.room r) o condition (Of keyword.Quit) [] in
    let kw = ap (λ (k : Keyword). run m (tokens_seen c.in_ok-value-in-Quit.rest.now) (At (Behind (args_rest o condition (Of k) a.0)))) (sym c.in-Quit.is) in (
      a.0,
      λ l. ((Quit (Some (expr_of c.in_ok-value-in-Quit.value)), a.1 l, refl), sym c.in-Quit.is),
      at_keyword m o condition c.args.keyword keyword.Quit (tokens_seen c.args.tokens.now) c.in-Quit.is
          ∙ blank_opens m o condition (Of keyword.Quit) ResultWanted (tokens_seen c.args.tokens.now) (tokens_seen c.args.behind.now) c.requires.blank refl
          ∙ a.2
          ∙ args_end m o condition (Of keyword.Quit) a.0 ResultEnd (tokens_seen c.in_ok-value-in-Quit.rest.now) refl c.in_ok-value-in-Quit.ensures.parted
          ∙ kw,
    )

pub returns-in_err-value-in-Quit-clause-reads : goal.returns-in_err-value-in-Quit-clause-reads
returns-in_err-value-in-Quit-clause-reads c = λ m r o condition.
    reads_as_err c.args.phrases.limited _ _ c.from_residual-in_err-value-in-Quit.result c.in_err-value-in-Quit.field-0.0 m c.args.tokens.now _ _
    c.from_residual-in_err-value-in-Quit.ensures.1
    (refuses_from c.args.phrases.limited c.in_err-value-in-Quit.field-0.0 _ _
    (at_keyword m o condition c.args.keyword keyword.Quit (tokens_seen c.args.tokens.now) c.in-Quit.is ∙
    blank_opens m o condition (Of keyword.Quit) ResultWanted (tokens_seen c.args.tokens.now) (tokens_seen c.args.behind.now) c.requires.blank refl)
    (c.in_err-value-in-Quit.ensures.reads m (room_for c.args.phrases.limited m c.args.tokens.now c.args.behind.now c.requires.room r) o condition (Of keyword.Quit) []))
