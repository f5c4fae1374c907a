-- Why bytes are refused as a trace, said by the spelling alone: up to the line that is refused the bytes are a trace as far as it goes.
use Rattle.std.specs.Prelude.{◌≡◌, ◌⊎◌, ℕ, ◌+◌, ◌≤◌, Bool, true, false, ◌&&◌, List, [], ◌∷◌, ◌++◌, length}
use Rattle.std.specs.List.{list_all}
use Rattle.mj_gfile.specs.Listing.{is_text}
use Rattle.mj_gfile.specs.Refused.{HasLine}
use Rattle.mj_trace.specs.declared.piece.Piece.{Piece}
use Rattle.mj_trace.specs.declared.piece.Piece.TheVariants as pieces
use Rattle.mj_trace.specs.declared.refusal.TraceError.{TraceError}
use Rattle.mj_trace.specs.declared.refusal.TraceError.TheVariants as errors
use Rattle.mj_text.specs.declared.limit.Limit.{Limit}
use Rattle.mj_text.specs.declared.limit.Limit.TheVariants.{V2}
use Rattle.mj_trace.specs.declared.form.Form.{Form}
use Rattle.mj_trace.specs.declared.form.Form.TheVariants.{First, Second}
use Rattle.mj_text.specs.Limit.{is_within}
use Rattle.mj_trace.specs.Trace.{Traced, header, limit_line, limit_of, trace_text}
use Rattle.mj_trace.specs.Lines.{piece_text, is_piece, is_full, may_follow, rises, IsTrace}
use Rattle.mj_trace.specs.Sized.{is_count, event_fits, IsSized}

-- the devices of a trace, of which nothing else is there
pub record AreDevices (t : Traced) : Type 0 where
  pub rise : rises t.pool ≡ true
  pub named : list_all (λ d. is_within (limit_of t.form) d.0) t.pool ≡ true
  pub no_starts : t.starts ≡ []
  pub no_events : t.events ≡ []

-- a trace as far as it goes: no start is there yet, or it is a trace, to which more may be added
abbrev pub IsBegun : Traced → Type 0
IsBegun t = AreDevices t ⊎ IsTrace t

-- how many lines tell the form
abbrev pub head_count : Form → ℕ
head_count First = 1
head_count (Second limit) = 2

-- how many lines there are, with these
abbrev pub line_count : Traced → ℕ
line_count t = head_count t.form + length t.pool + length t.starts + length t.events

-- a line, within the sizes of its values
abbrev pub is_sized : Piece → Bool
is_sized (pieces.Device name count) = is_text V2 name && is_count count
is_sized (pieces.Start entry) = true
is_sized (pieces.Event e) = event_fits e

-- Behind these lines, which aren't full where there may be so many events, there are bytes or the first start is missing. The bytes don't begin with a line that
-- may follow: none is spelled so, or byte 10 doesn't end it, or it can't stand there.
pub record IsNoLine (most : ℕ) (before : Traced) (rest : List ℕ) : Type 0 where
  pub missing : (rest ≡ []) → before.starts ≡ []
  pub room : is_full most before ≡ false
  pub none : (p : Piece) → is_piece before.form p ≡ true → is_sized p ≡ true → may_follow most before p ≡ true → ¬ HasLine (piece_text before.form p) rest

-- there are bytes behind as many events as there may be
pub record IsOneTooMany (most : ℕ) (before : Traced) (rest : List ℕ) : Type 0 where
  pub some : ¬ (rest ≡ [])
  pub full : is_full most before ≡ true

-- The line of this number is the first that is refused, and this is why: up to it the bytes are a trace as far as it goes, of no more events than there may be.
-- Lines count from 1, the header among them.
pub record IsFirst (most : ℕ) (bytes : List ℕ) (number : ℕ) (IsWhy : ℕ → Traced → List ℕ → Type 0) : Type 0 where
  pub before : Traced
  pub rest : List ℕ
  pub cut : bytes ≡ trace_text before ++ rest
  pub begun : IsBegun before
  pub sized : IsSized before
  pub few : length before.events ≤ most
  pub place : number ≡ line_count before + 1
  pub why : IsWhy most before rest

-- behind the header of today's form stands no line of a limit: that is line 2
pub record HasNoLimit (bytes : List ℕ) (number : ℕ) : Type 0 where
  pub rest : List ℕ
  pub headed : bytes ≡ header (Second V2) ++ 10 ∷ rest
  pub none : (limit : Limit) → ¬ HasLine (limit_line limit) rest
  pub second : number ≡ 2

-- why bytes are refused where there may be so many events; want of memory says nothing
abbrev pub IsTraceRefused : ℕ → List ℕ → TraceError → Type 0
IsTraceRefused most bytes errors.Header = ¬ HasLine (header First) bytes × ¬ HasLine (header (Second V2)) bytes
IsTraceRefused most bytes (errors.Line number) = HasNoLimit bytes number ⊎ IsFirst most bytes number IsNoLine
IsTraceRefused most bytes (errors.Long number) = IsFirst most bytes number IsOneTooMany
IsTraceRefused most bytes errors.Memory = Unit {0}

-- two refusals of some bytes are the same, unless memory was wanting, where there may be as many events
abbrev pub HasOneReason : Type 0
HasOneReason =
    (most : ℕ) (bytes : List ℕ) (e f : TraceError) → ¬ (e ≡ errors.Memory) → ¬ (f ≡ errors.Memory)
    → IsTraceRefused most bytes e → IsTraceRefused most bytes f → e ≡ f
