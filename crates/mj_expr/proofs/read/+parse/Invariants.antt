use Rattle.std.proofs.Common.{◌≡◌, ◌≤◌, ◌<◌, ◌+◌, ◌*◌, ℕ, length}
use Rattle.mj_ast.specs.Syntax.{No, NoActual, Target as EntryAt}
use Rattle.mj_ast.specs.Trees.{operand_of, tails_of, exprs_of, actuals_of, option_of}
use Rattle.mj_expr.specs.Machine.{Outer, Owner, Within, Front, InList, InActuals, Wanted, Held, run, outer_depth, owner_depth, depth_of, is_full}
use Rattle.mj_expr.specs.Reads.{symbols_seen, limits, HasNoBinary, kind_of}
use Rattle.mj_expr.specs.Readers.{IsWanted, IsLeft, behind_actual}
use Rattle.mj_expr.specs.Lists.{behind_list}
use Rattle.mj_expr.proofs.read.+parse.Given as goal

abbrev pub decreases-list : goal.decreases-list
decreases-list l = 4 * length l.tokens.now + 2

abbrev pub decreases-call : goal.decreases-call
decreases-call l = 4 * length l.tokens.now + 3

abbrev pub decreases-choices : goal.decreases-choices
decreases-choices l = 4 * length l.tokens.now + 2

abbrev pub decreases-chosen : goal.decreases-chosen
decreases-chosen l = 4 * length l.tokens.now + 2

abbrev pub decreases-others : goal.decreases-others
decreases-others l = 4 * length l.tokens.now + 2

abbrev pub decreases-group : goal.decreases-group
decreases-group l = 4 * length l.tokens.now + 2

abbrev pub decreases-expr : goal.decreases-expr
decreases-expr l = 4 * length l.tokens.now + 1

abbrev pub decreases-about : goal.decreases-about
decreases-about l = 4 * length l.tokens.now + 2

abbrev pub decreases-sought : goal.decreases-sought
decreases-sought l = 4 * length l.tokens.now + 1

abbrev pub decreases-named : goal.decreases-named
decreases-named l = 4 * length l.tokens.now

abbrev pub decreases-global : goal.decreases-global
decreases-global l = 4 * length l.tokens.now + 1

abbrev pub decreases-operand : goal.decreases-operand
decreases-operand l = 4 * length l.tokens.now

abbrev pub decreases-extrinsic : goal.decreases-extrinsic
decreases-extrinsic l = 4 * length l.tokens.now + 3

abbrev pub decreases-passed : goal.decreases-passed
decreases-passed l = 4 * length l.tokens.now + 2

abbrev pub decreases-actuals : goal.decreases-actuals
decreases-actuals l = 4 * length l.tokens.now + 3

abbrev pub decreases-actual : goal.decreases-actual
decreases-actual l = 4 * length l.tokens.now + 2

pub record IsReadSo (Goes : Type 0) (Falls : Type 0) : Type 0 where
  pub reads : Goes
  pub shorter : Falls

abbrev pub invariant-expr-joins : goal.invariant-expr-joins
invariant-expr-joins l = IsReadSo
    ((o : Outer) → (d : ℕ) → outer_depth o + l.room ≡ d → is_full (limits 0) o ≡ l.full → IsWanted (Front o) (symbols_seen l.tokens) →
    run (limits d) (symbols_seen l.tokens) (Wanted (Front o)) ≡ run (limits d) (symbols_seen l.rest) (Held (operand_of l.first) (tails_of l.tails.items) o))
    (length l.rest < length l.tokens)

abbrev pub decreases-expr-joins : goal.decreases-expr-joins
decreases-expr-joins l = length l.rest

abbrev pub invariant-list-commas : goal.invariant-list-commas
invariant-list-commas l = IsReadSo
    ((w : Owner) → (d : ℕ) → owner_depth w + 1 + l.room ≡ d → kind_of w ≡ l.kind →
    run (limits d) (symbols_seen l.tokens) (Wanted (Front (InList w No))) ≡ run (limits d) (symbols_seen l.rest) (behind_list w (exprs_of l.items.items)))
    ((length l.rest < length l.tokens) × (0 < length l.items.items) × HasNoBinary (symbols_seen l.rest))

abbrev pub decreases-list-commas : goal.decreases-list-commas
decreases-list-commas l = length l.rest

abbrev pub invariant-actuals-commas : goal.invariant-actuals-commas
invariant-actuals-commas l = IsReadSo
    ((t : EntryAt) → (c : Within) → (d : ℕ) → depth_of c + 1 + l.room ≡ d →
    run (limits d) (symbols_seen l.tokens) (Wanted (Front (InActuals t NoActual c))) ≡ run (limits d) (symbols_seen l.rest) (behind_actual t (actuals_of l.items.items) c (option_of l.last)))
    ((length l.rest ≤ length l.tokens) × IsLeft (option_of l.last) (symbols_seen l.rest))

abbrev pub decreases-actuals-commas : goal.decreases-actuals-commas
decreases-actuals-commas l = length l.rest
