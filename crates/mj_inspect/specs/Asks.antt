-- Which lines an ask may come from, other than those by which a fault is told.
use Rattle.std.specs.Prelude.{ℕ, ◌==◌, Bool, true, false, ◌&&◌, ◌||◌, not, List, [], ◌∷◌, if◌then◌else◌}
use Rattle.std.specs.Str.{bytes_eq}
use Rattle.mj_ast.specs.declared.expr.Scope.{Scope}
use Rattle.mj_ast.specs.declared.expr.Scope.TheVariants as scopes
use Rattle.mj_ast.specs.declared.function.NameFunction.{NameFunction}
use Rattle.mj_ast.specs.declared.function.NameFunction.TheVariants as functions
use Rattle.mj_pcode.specs.declared.instr.Reference.{Reference}
use Rattle.mj_pcode.specs.declared.instr.Instr.{Instr}
use Rattle.mj_pcode.specs.declared.instr.Instr.TheVariants as instrs
use Rattle.mj_pcode.specs.declared.instr.Unit.{Unit as Code}
use Rattle.mj_pcode.specs.Machine.{is_outside}

-- the variable is shared by all jobs
abbrev pub is_shared : Scope → Bool
is_shared scopes.Local = false
is_shared scopes.Global = true

abbrev pub is_global : Reference → Bool
is_global reference = is_shared reference.scope

-- the function only spells the variable's name
abbrev pub is_spelling : NameFunction → Bool
is_spelling functions.Name = true
is_spelling _ = false

-- An instruction may ask: about a global, to write, to end the job, as a QUIT of its first frame does, to begin a transaction once more, and each that concerns
-- the world outside, but the USE of a device that is open already
abbrev pub asks : Instr → Bool
asks (instrs.Load reference) = is_global reference
asks (instrs.Store reference depth) = is_global reference
asks (instrs.SetPiece reference count depth) = is_global reference
asks (instrs.Kill reference) = is_global reference
asks (instrs.MergePut reference) = is_global reference
asks (instrs.MergeTake into reference) = is_global reference
asks (instrs.CallNameFunction function reference count) = not (is_spelling function) && is_global reference
asks instrs.Write = true
asks (instrs.WriteFormat marks) = true
asks instrs.Halt = true
asks instrs.Quit = true
asks instrs.BeginRestart = true
asks instrs.UseDevice = false
asks instr = is_outside instr

-- One of the instructions of a line may ask: of those behind the instruction that enters it, up to the one that enters another. `here` says that the
-- first of these is one of the line's. Behind the last line a job ends that is in no other frame, and asks so from there.
abbrev pub are_asking : ℕ → Bool → List Instr → Bool
are_asking line here [] = here
are_asking line here (instrs.Line start ∷ rest) = are_asking line (start.line == line) rest
are_asking line here (instr ∷ rest) = (here && asks instr) || are_asking line here rest

-- an ask may come from this line of the first routine of this name
abbrev pub is_asking : List Code → List ℕ → ℕ → Bool
is_asking [] routine line = false
is_asking (unit ∷ units) routine line = if bytes_eq unit.name routine then are_asking line false unit.instrs.items else is_asking units routine line
