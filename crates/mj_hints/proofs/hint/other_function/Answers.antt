use Rattle.std.proofs.Common.{◌≡◌, Bool, true, false, sym, ◌∙◌}
use Rattle.std.specs.Prelude.{if◌then◌else◌}
use Rattle.mj_hints.specs.Hints.{Help, Said, is_trap, untrapped_function_help}
use Rattle.mj_hints.specs.declared.phrases.Hint.TheVariants as hint
use Rattle.mj_hints.proofs.hint.other_function.Goals as goal

-- what is said behind a test that fails
behind : (test : Bool) (first other said : Help) → test ≡ false → said ≡ other → said ≡ (if test then first else other)
behind true first other said fails is = cc
behind false first other said fails is = is

pub returns-else-is_trap : goal.returns-else-is_trap
returns-else-is_trap c =
    behind (is_trap c.args.word.now) (Said hint.Trap) (untrapped_function_help c.args.word.now) _ (sym c.is_trap.ensures ∙ c.if-is_trap.false) c.untrapped_function.ensures
