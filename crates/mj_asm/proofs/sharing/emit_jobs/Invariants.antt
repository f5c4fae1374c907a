use Rattle.std.proofs.Common.{◌≡◌, ◌++◌, length, drop, map}
use Rattle.mj_ast.specs.Trees.{started_of}
use Rattle.mj_asm.specs.Code.{jobs_code}
use Rattle.mj_asm.specs.Sites.{here_of}
use Rattle.mj_asm.proofs.sharing.emit_jobs.Given as goal

-- the code so far, and that of what is left
abbrev pub invariant-loop-started : goal.invariant-loop-started
invariant-loop-started l =
    l.code.items ++ jobs_code (here_of l.site) (length l.code.items) (map started_of (drop l.started-index l.list))
    ≡ l.fn.code.items ++ jobs_code (here_of l.site) (length l.fn.code.items) (map started_of l.list)
