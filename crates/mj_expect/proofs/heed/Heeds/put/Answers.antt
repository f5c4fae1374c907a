use Rattle.std.proofs.Common.{◌≡◌, ◌∷◌, [], rules, sym, ap, append-nil}
use Rattle.std.specs.List.{filter}
use Rattle.std.proofs.lemmas.Fn.{filter_same}
use Rattle.mj_expect.specs.declared.heed.Heed.TheVariants as heeds
use Rattle.mj_expect.specs.Heeds.{is_other, kept_of}
use Rattle.mj_expect.proofs.Hearing.{put_so, on_ok}
use Rattle.mj_expect.proofs.heed.Heeds.put.Goals as goal

pub returns-in-Quiet : goal.returns-in-Quiet
returns-in-Quiet c =
    let device = c.args.device.now in
    let inside = c.self.inside.list.items in
    let left = c.retain.new.self.items in
    let is : left ≡ filter (is_other device) inside = filter_same _ (is_other device) _ (λ x r f' k. search rules) _ _ c.retain.ensures.filtered in
    put_so device c.args.heed c.args.self.now inside left left [] is c.self.view_is (ap (kept_of device) c.in-Quiet.is) (sym (append-nil left))

pub returns-in-Rest : goal.returns-in-Rest
returns-in-Rest c =
    let device = c.args.device.now in
    let inside = c.self.inside.list.items in
    let left = c.retain.new.self.items in
    let is : left ≡ filter (is_other device) inside = filter_same _ (is_other device) _ (λ x r f' k. search rules) _ _ c.retain.ensures.filtered in
    on_ok c.keep.result (λ on. put_so device c.args.heed c.args.self.now inside left c.keep.new.self ((device, heeds.Rest c.in-Rest.read c.in-Rest.over) ∷ []) is c.self.view_is
    (ap (kept_of device) c.in-Rest.is) on) c.keep.ensures

pub returns-in-Failed : goal.returns-in-Failed
returns-in-Failed c =
    let device = c.args.device.now in
    let inside = c.self.inside.list.items in
    let left = c.retain.new.self.items in
    let is : left ≡ filter (is_other device) inside = filter_same _ (is_other device) _ (λ x r f' k. search rules) _ _ c.retain.ensures.filtered in
    on_ok c.keep-in-Failed.result (λ on. put_so device c.args.heed c.args.self.now inside left c.keep-in-Failed.new.self ((device, heeds.Failed) ∷ []) is c.self.view_is
    (ap (kept_of device) c.in-Failed.is) on) c.keep-in-Failed.ensures
