use Rattle.std.proofs.Common.{◌≡◌, ◌∙◌, ◌++◌, ℕ, Err, Ok, Vec, Global, rules, arith, sym, ap}
use Rattle.std.specs.Option.{option_to_list}
use Rattle.std.proofs.lemmas.List.{append-nil}
use Rattle.mj_strfn.proofs.ByteLaws.{char_exit, codes_more}
use Rattle.mj_strfn.proofs.bytes.char_of_all.Goals.{in-Some+in_ok-push, in_default}
use Rattle.mj_strfn.proofs.bytes.char_of_all.Goals as goal

pub returns-in_err-byte : goal.returns-in_err-byte
returns-in_err-byte c =
    let is : c.from_residual.result ≡ Err c.in_err-byte.field-0.0 = search rules in
    rw is (char_exit c.args.limit c.args.codes.now c.loop-code.code-index _ _ _ (omega arith) c.code-item.is c.loop-code.invariant c.in_err-byte.ensures)

pub loop-code-preserved : goal.loop-code-preserved
loop-code-preserved c =
    let before = c.loop-code.bytes.items in
    let more = codes_more c.args.codes.now c.loop-code.code-index _ _ _ (omega arith) c.code-item.is c.loop-code.invariant c.in_ok-byte.ensures in
    let items : c.match-branch-2.bytes.items ≡ before ++ option_to_list c.in_ok-byte.field-0 =
    elim c.match-branch-2.branch [
      | in-Some+in_ok-push w ↦ ap (λ (v : Vec ℕ Global). v.items) w.bytes-is ∙ w.in_ok-push.ensures.items ∙ ap (λ o. before ++ option_to_list o) (sym w.in-Some.is)
      | in_default w ↦ ap (λ (v : Vec ℕ Global). v.items) w.bytes-is ∙ sym (append-nil before) ∙ ap (λ o. before ++ option_to_list o) (sym w.in_default.is)
    ] in
    more ∙ ap Ok (sym items)
