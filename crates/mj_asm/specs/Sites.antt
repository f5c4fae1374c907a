-- Where code is made.
use Rattle.mj_semantics.specs.Lines.{Here}
use Rattle.mj_asm.specs.declared.site.Site.{Site}

-- the line that instructions are made for
abbrev pub here_of : Site → Here
here_of site = record { routine = site.routine.now; line = site.line }
