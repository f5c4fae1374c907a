use Rattle.std.specs.Prelude.{position}
use Rattle.std.specs.Str.{bytes_eq}
use Rattle.std.proofs.Common.{◌≡◌, [], ◌∷◌, ◌++◌, List, Bool, Some, None, refl, sym, ap, ◌∙◌}
use Rattle.std.proofs.lemmas.List.Quantifiers.{position-Some}
use Rattle.mj_explore.specs.declared.ends.End.{End}
use Rattle.mj_explore.specs.Ends.{often, once_more, texts_of}
use Rattle.mj_explore.proofs.Noting.{changed, joined, is_new, texts_grow, texts_stay}
use Rattle.mj_explore.proofs.ends.note.Goals as goal

pub returns-in-Some-clause-ok : goal.returns-in-Some-clause-ok
returns-in-Some-clause-ok c =
    let text = c.args.text.items in
    let test : End → Bool = λ e. bytes_eq e.text.items text in
    let ends = c.args.ends.now.items in
    let k = c.in-Some.place in
    let d = c.index_mut-end.result.now in
    let end : End = record { text = d.text; runs = c.saturating_add-end.result } in
    let found : position test ends ≡ Some k =
    ap (position test) (sym c.deref.ensures.value) ∙ sym (c.in-Some.ensures ∙ ap (λ t. position (λ (e : End). bytes_eq e.text.items t) c.deref.result.now) c.deref-2.ensures.value) in
    let there = position-Some test ends k d found in
    record {
      texts = texts_stay text ends k d end there.0 there.1 (ap (λ (e : End). e.text.items) c.index_mut-end.ensures.value);
      counted = λ other. changed text other ends k d end there.0 there.1 there.2 (ap (λ (e : End). e.text.items) c.index_mut-end.ensures.value)
          (c.saturating_add-end.ensures ∙ ap (λ (e : End). once_more e.runs) c.index_mut-end.ensures.value);
    }

pub returns-in_ok-reserve-in-None-clause-ok : goal.returns-in_ok-reserve-in-None-clause-ok
returns-in_ok-reserve-in-None-clause-ok c =
    let text = c.args.text.items in
    let test : End → Bool = λ e. bytes_eq e.text.items text in
    let ends = c.args.ends.now.items in
    let end : End = record { text = c.args.text; runs = 1 } in
    let none : position test ends ≡ None =
    ap (position test) (sym c.deref.ensures.value) ∙ sym (c.in-None.ensures ∙ ap (λ t. position (λ (e : End). bytes_eq e.text.items t) c.deref.result.now) c.deref-2.ensures.value) in
    let pushed : c.push_reserved.new.self.items ≡ ends ++ end ∷ [] =
    c.push_reserved.ensures.items ∙ ap (λ l. l ++ end ∷ []) c.in_ok-reserve-in-None.ensures.items in
    let alone = is_new text ends none in
    record {
      texts = ap texts_of pushed ∙ texts_grow text ends end refl alone;
      counted = λ other. ap (λ (l : List End). often l other) pushed ∙ joined text other ends end refl refl alone;
    }
