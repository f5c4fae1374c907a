use Rattle.std.proofs.Common.{◌≡◌, List, ℕ, Option, Some, None, false, true, refl, ap, sym, ◌∙◌}
use Rattle.std.specs.Option.{is_some}
use Rattle.mj_ast.specs.declared.sign.Sign.TheVariants.{Caret}
use Rattle.mj_ast.specs.Expressions.{Symbol, Name}
use Rattle.mj_expr.specs.Machine.{Entering, Routed, run, refused_in, outer_of}
use Rattle.mj_expr.specs.Reads.{limits, symbols_seen, HasNoCaret}
use Rattle.mj_expr.specs.Readers.{IsWhole}
use Rattle.mj_expr.proofs.Steps.{refuses_from}
use Rattle.mj_expr.proofs.Entries.{some_whole, caret_enters, routed_refuses, dollars_refuse}
use Rattle.mj_expr.proofs.read.routine.Goals as goal

pub returns-in_ok-name_text-in-Some-behind_name-clause-whole : goal.returns-in_ok-name_text-in-Some-behind_name-clause-whole
returns-in_ok-name_text-in-Some-behind_name-clause-whole c = λ label e.
    some_whole label c.in_ok-name_text-in-Some-behind_name.field-0 (symbols_seen c.in-Some-behind_name.rest.now)

pub returns-in_ok-name_text-in-Some-behind_name-clause-reads : goal.returns-in_ok-name_text-in-Some-behind_name-clause-reads
returns-in_ok-name_text-in-Some-behind_name-clause-reads c = λ label s c' d f.
    ap (λ (ks : List Symbol). run (limits d) ks (Entering label None c')) c.in-Some.ensures.0
    ∙ caret_enters (limits d) (symbols_seen c.in-Some.behind.now) label c'
    ∙ ap (λ (ks : List Symbol). run (limits d) ks (Routed label c')) c.in-Some-behind_name.ensures.0
    ∙ ap (λ (w : List ℕ). run (limits d) (symbols_seen c.in-Some-behind_name.rest.now) (Entering label (Some w) c')) (sym c.in_ok-name_text-in-Some-behind_name.ensures)

pub returns-in-None-behind_name-clause-reads : goal.returns-in-None-behind_name-clause-reads
returns-in-None-behind_name-clause-reads c = λ label s c' d f.
    refuses_from c.refusal.result _ _
    (ap (λ (ks : List Symbol). run (limits d) ks (Entering label None c')) c.in-Some.ensures.0
    ∙ caret_enters (limits d) (symbols_seen c.in-Some.behind.now) label c'
    ∙ routed_refuses (limits d) (limits 0) label c' (symbols_seen c.in-Some.behind.now) c.args.full refl f c.in-None-behind_name.ensures)
    c.refusal.ensures

-- a label stands there
labelled_whole : (label : Option (List ℕ)) (ks : List Symbol) → is_some label ≡ true → HasNoCaret ks → IsWhole label None ks
labelled_whole None ks e h = absurd (let f : false ≡ true = e in cc)
labelled_whole (Some l) ks e h = h

pub returns-then-labelled-clause-whole : goal.returns-then-labelled-clause-whole
returns-then-labelled-clause-whole c = λ label e. labelled_whole label (symbols_seen c.args.tokens.now) (e ∙ c.if-labelled.true) c.in-None.ensures

unlabelled : (label : Option (List ℕ)) → is_some label ≡ false → label ≡ None
unlabelled None e = refl
unlabelled (Some l) e = absurd (let f : true ≡ false = e in cc)

pub returns-else-labelled-clause-reads : goal.returns-else-labelled-clause-reads
returns-else-labelled-clause-reads c = λ label s c' d f.
    refuses_from c.refusal-else-labelled.result _ _
    (ap (λ (l : Option (List ℕ)). run (limits d) (symbols_seen c.args.tokens.now) (Entering l None c')) (unlabelled label (s ∙ c.if-labelled.false))
    ∙ dollars_refuse (limits d) (limits 0) c' (symbols_seen c.args.tokens.now) c.args.full refl f c.in-None.ensures)
    c.refusal-else-labelled.ensures
