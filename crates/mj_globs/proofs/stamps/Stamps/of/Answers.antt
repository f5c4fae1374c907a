use Rattle.std.proofs.Common.{◌∙◌, ap, List, ℕ, Option, nat_cmp}
use Rattle.std.specs.Option.{unwrap_or}
use Rattle.std.specs.Cmp.Lexicographic.{slice_cmp}
use Rattle.mj_globs.specs.Stamps.{Stamps, stamp_of}
use Rattle.mj_globs.specs.Words.{spelled}
use Rattle.mj_globs.proofs.Spelled.{lookup_spelled}
use Rattle.mj_globs.proofs.stamps.Stamps.of.Goals as goal

pub returns-in-Some : goal.returns-in-Some
returns-in-Some c =
    ap (λ (l : Option ℕ). unwrap_or l 0) (c.in-Some.ensures.value ∙ lookup_spelled (slice_cmp nat_cmp c.bytes.result.now) c.self.inside.words.entries)
    ∙ ap (λ (w : List ℕ). stamp_of (spelled c.self.inside.words.entries) w) c.bytes.ensures.value
    ∙ ap (λ (s : Stamps). stamp_of s c.args.word.now) c.self.view_is

pub returns-in-None : goal.returns-in-None
returns-in-None c =
    ap (λ (l : Option ℕ). unwrap_or l 0) (c.in-None.ensures.value ∙ lookup_spelled (slice_cmp nat_cmp c.bytes.result.now) c.self.inside.words.entries)
    ∙ ap (λ (w : List ℕ). stamp_of (spelled c.self.inside.words.entries) w) c.bytes.ensures.value
    ∙ ap (λ (s : Stamps). stamp_of s c.args.word.now) c.self.view_is
