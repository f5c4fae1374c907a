use Rattle.std.proofs.Common.{◌≡◌, [], ◌∷◌, map}
use Rattle.mj_ast.specs.declared.sign.Sign.TheVariants.{Equals}
use Rattle.mj_ast.specs.Commands.{Put, Control, with_commas, range_parts}
use Rattle.mj_ast.specs.Trees.{variable_of, range_of}
use Rattle.mj_line.specs.Forms.{ForWanted, RangeWanted, LimitEnd}
use Rattle.mj_cmd.proofs.Follow.{reads_err, room_for, went_by, went_then, fails_then}
use Rattle.mj_cmd.specs.Lists.{AreItems}
use Rattle.mj_cmd.proofs.Lists.{items_parts}
use Rattle.mj_cmd.proofs.repeat.repeated.Goals as goal

pub returns-in_err-ranges-clause-reads : goal.returns-in_err-ranges-clause-reads
returns-in_err-ranges-clause-reads c = λ m r o condition k done.
    reads_err c.args.phrases.limited _ _ c.from_residual-in_err-ranges.result c.in_err-ranges.field-0.0 m c.args.tokens.now _ _ c.from_residual-in_err-ranges.ensures.1
    (fails_then c.args.phrases.limited (Control (variable_of c.in_ok-counter.counter) ∷ Put Equals ∷
    []) c.in_err-ranges.field-0.0 m c.args.tokens.now ForWanted c.in_ok-counter.rest.now RangeWanted o condition k done
    (c.in_ok-counter.ensures.reads m r o condition k done)
    (λ d. c.in_err-ranges.ensures.reads tt m (room_for c.args.phrases.limited m c.args.tokens.now c.in_ok-counter.rest.now c.in_ok-counter.ensures.shorter r) tt o condition k d))

pub returns-clause-reads : goal.returns-clause-reads
returns-clause-reads c = λ m r o condition k done.
    went_then c.args.phrases.limited (Control (variable_of c.in_ok-counter.counter) ∷ Put Equals ∷
    []) (with_commas range_parts (map range_of c.in_ok-ranges.ranges.items)) m c.args.tokens.now ForWanted c.in_ok-counter.rest.now RangeWanted
    c.in_ok-ranges.rest.now LimitEnd o condition k done (c.in_ok-counter.ensures.reads m r o condition k done)
    (λ d. went_by c.args.phrases.limited (λ ps. AreItems (λ zs x. zs ≡ range_parts (range_of x)) ps c.in_ok-ranges.ranges.items) (λ ps. ps ≡
    with_commas range_parts (map range_of c.in_ok-ranges.ranges.items)) m c.in_ok-counter.rest.now RangeWanted c.in_ok-ranges.rest.now LimitEnd o condition k d
    (λ ps h. items_parts range_of range_parts c.in_ok-ranges.ranges.items ps h)
    (c.in_ok-ranges.ensures.reads tt m (room_for c.args.phrases.limited m c.args.tokens.now c.in_ok-counter.rest.now c.in_ok-counter.ensures.shorter r) tt o condition k d))
