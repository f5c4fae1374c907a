-- What is known of the lines of a unit.
use Rattle.std.proofs.Common.{◌≡◌, ℕ, ◌+◌, List, [], ◌∷◌, length, map, refl, ap}
use Rattle.mj_ast.specs.Syntax.{Line}
use Rattle.mj_semantics.specs.Lines.{Here, next_line}
use Rattle.mj_pcode.specs.declared.instr.Head.{Head}
use Rattle.mj_asm.specs.Code.{line_code, starts}

-- of lines, of which the first stands here and begins at pc
abbrev pub heads_of : ℕ → Here → List Line → List Head
heads_of pc here [] = []
heads_of pc here (line ∷ lines) =
    record { start = pc; level = line.level; formals = line.formals } ∷ heads_of (pc + length (line_code pc here line)) (next_line here) lines

pub starts_are : (pc : ℕ) (here : Here) (lines : List Line) → map (λ h. h.start) (heads_of pc here lines) ≡ starts pc here lines
starts_are pc here [] = refl
starts_are pc here (line ∷ lines) = ap (λ l. pc ∷ l) (starts_are (pc + length (line_code pc here line)) (next_line here) lines)

pub levels_are : (pc : ℕ) (here : Here) (lines : List Line) → map (λ h. h.level) (heads_of pc here lines) ≡ map (λ l. l.level) lines
levels_are pc here [] = refl
levels_are pc here (line ∷ lines) = ap (λ l. line.level ∷ l) (levels_are (pc + length (line_code pc here line)) (next_line here) lines)

pub formals_are : (pc : ℕ) (here : Here) (lines : List Line) → map (λ h. h.formals) (heads_of pc here lines) ≡ map (λ l. l.formals) lines
formals_are pc here [] = refl
formals_are pc here (line ∷ lines) = ap (λ l. line.formals ∷ l) (formals_are (pc + length (line_code pc here line)) (next_line here) lines)
