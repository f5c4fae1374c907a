use Rattle.std.proofs.Common.{◌≡◌, ◌≤◌, true, map, take, length, Some}
use Rattle.std.specs.List.{list_all}
use Rattle.mj_ask.specs.Written.{is_entry, entry_of}
use Rattle.mj_jobs.specs.Rows.{rows_limit}
use Rattle.mj_replay.specs.Traces.{bare_start}
use Rattle.mj_recorded.specs.Traces.{entries_of}
use Rattle.mj_begin.proofs.beginning.starts.Given as goal

-- those of the words up to here
abbrev pub invariant-loop-word : goal.invariant-loop-word
invariant-loop-word l = record {
  spelled : map (λ word. entry_of word.now) (take l.word-index l.words) ≡ map (λ start. Some start.entry) l.starts.items;
  entries : list_all is_entry (entries_of l.starts.items) ≡ true;
  bare : l.starts.items ≡ map bare_start (entries_of l.starts.items);
  few : length l.starts.items ≤ rows_limit;
}
