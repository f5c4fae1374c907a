-- What a line spells, field by field.
use Rattle.std.proofs.Common.{◌≡◌, ◌∙◌, ℕ, Bool, true, false, cond, List, [], ◌∷◌, Option, Some, None, Ok, Err, refl, sym, ap}
use Rattle.mj_text.specs.declared.limit.Limit.{Limit}
use Rattle.mj_subs.specs.Name.{Name}
use Rattle.mj_gfile.specs.declared.field.Field.{Field}
use Rattle.mj_gfile.specs.declared.field.Field.TheVariants.{Within, Over}
use Rattle.mj_gfile.specs.declared.error.ReadError.TheVariants as error
use Rattle.mj_gfile.specs.Reading.{text_at, name_in, whole_only, past_byte, assigned, value_of, with_value, valued, globally, line_of}
use Rattle.mj_gfile.specs.Listing.{limited, is_short, is_small, is_small_node, text_field, name_field, value_field, node_field, is_after, judged}

-- ---- the text behind `=`

read_whole : (limit : Limit) (f : Field (List ℕ)) (rest : List ℕ) (o : Option (List ℕ × List ℕ)) → Some (f, rest) ≡ text_field limit o → rest ≡ [] → Some f ≡ value_field limit (whole_only o)
read_whole limit f rest None e none = absurd cc
read_whole limit f rest (Some (t, [])) e none = let same : ◌≡◌ {A = Field (List ℕ) × List ℕ} (f, rest) (limited (is_short limit t) t, []) = cc in ap (λ x. Some x.0) same
read_whole limit f rest (Some (t, c ∷ cs)) e none =
    let same : ◌≡◌ {A = Field (List ℕ) × List ℕ} (f, rest) (limited (is_short limit t) t, c ∷ cs) = cc in
    let tail : rest ≡ c ∷ cs = ap (λ x. x.1) same in absurd cc

read_more : (limit : Limit) (f : Field (List ℕ)) (rest : List ℕ) (o : Option (List ℕ × List ℕ)) → Some (f, rest) ≡ text_field limit o → (rest ≡ [] → ⊥) → None ≡ value_field limit (whole_only o)
read_more limit f rest None e some = absurd cc
read_more limit f rest (Some (t, [])) e some =
    let same : ◌≡◌ {A = Field (List ℕ) × List ℕ} (f, rest) (limited (is_short limit t) t, []) = cc in absurd (some (ap (λ x. x.1) same))
read_more limit f rest (Some (t, c ∷ cs)) e some = refl

read_none : (limit : Limit) (o : Option (List ℕ × List ℕ)) → None ≡ text_field limit o → None ≡ value_field limit (whole_only o)
read_none limit None e = refl
read_none limit (Some p) e = absurd cc

-- the bytes behind a name, behind whose `=` the bytes cs stand
module _ (limit : Limit) (bs cs : List ℕ) (at : Some cs ≡ past_byte 61 bs) where
  pub value_read : (f : Field (List ℕ)) (rest : List ℕ) → Some (f, rest) ≡ text_field limit (text_at cs) → rest ≡ [] → Some f ≡ value_field limit (value_of bs)
  value_read f rest e none = read_whole limit f rest (text_at cs) e none ∙ ap (λ o. value_field limit (assigned o)) at

  pub value_followed : (f : Field (List ℕ)) (rest : List ℕ) → Some (f, rest) ≡ text_field limit (text_at cs) → (rest ≡ [] → ⊥) → None ≡ value_field limit (value_of bs)
  value_followed f rest e some = read_more limit f rest (text_at cs) e some ∙ ap (λ o. value_field limit (assigned o)) at

  pub no_text : None ≡ text_field limit (text_at cs) → None ≡ value_field limit (value_of bs)
  no_text e = read_none limit (text_at cs) e ∙ ap (λ o. value_field limit (assigned o)) at

pub no_value : (limit : Limit) (bs : List ℕ) → None ≡ past_byte 61 bs → None ≡ value_field limit (value_of bs)
no_value limit bs e = ap (λ o. value_field limit (assigned o)) e

-- ---- the name

pub name_inverted : (limit : Limit) (f : Field Name) (rest : List ℕ) (o : Option (Name × List ℕ)) → Some (f, rest) ≡ name_field limit o
    → (n : Name) × ((o ≡ Some (n, rest)) × (f ≡ limited (is_small limit n) n))
name_inverted limit f rest None e = absurd cc
name_inverted limit f rest (Some p) e =
    let same : ◌≡◌ {A = Field Name × List ℕ} (f, rest) (limited (is_small limit p.0) p.0, p.1) = cc in (p.0, (λ i. Some (p.0, (sym same i).1), ap (λ x. x.0) same))

pub value_inverted : (limit : Limit) (f : Field (List ℕ)) (o : Option (List ℕ)) → Some f ≡ value_field limit o → (t : List ℕ) × ((o ≡ Some t) × (f ≡ limited (is_short limit t) t))
value_inverted limit f None e = absurd cc
value_inverted limit f (Some t) e = (t, (refl, cc))

nothing_named : (limit : Limit) (o : Option (Name × List ℕ)) → None ≡ name_field limit o → None ≡ node_field limit (valued o)
nothing_named limit None e = refl
nothing_named limit (Some p) e = absurd cc

nothing_valued : (limit : Limit) (n : Name) (o : Option (List ℕ)) → None ≡ value_field limit o → None ≡ node_field limit (with_value n o)
nothing_valued limit n None e = refl
nothing_valued limit n (Some t) e = absurd cc

-- a line, behind whose `^` the bytes cs stand
module _ (limit : Limit) (bs cs : List ℕ) (at : Some cs ≡ past_byte 94 bs) where
  pub line_read : (n : Name) (rest t : List ℕ) → name_in true cs ≡ Some (n, rest) → value_of rest ≡ Some t → (r : Field (Name × List ℕ)) → r ≡ limited (is_small_node limit (n, t)) (n, t)
      → Some r ≡ node_field limit (line_of bs)
  line_read n rest t named is r so = ap Some so ∙ sym (ap (node_field limit) (ap globally (sym at) ∙ ap valued named ∙ ap (with_value n) is))

  pub no_name : None ≡ name_field limit (name_in true cs) → None ≡ node_field limit (line_of bs)
  no_name e = nothing_named limit (name_in true cs) e ∙ ap (λ o. node_field limit (globally o)) at

  pub no_value_there : (n : Name) (rest : List ℕ) → name_in true cs ≡ Some (n, rest) → None ≡ value_field limit (value_of rest) → None ≡ node_field limit (line_of bs)
  no_value_there n rest named e = nothing_valued limit n (value_of rest) e ∙ sym (ap (node_field limit) (ap globally (sym at) ∙ ap valued named))

pub no_line : (limit : Limit) (bs : List ℕ) → None ≡ past_byte 94 bs → None ≡ node_field limit (line_of bs)
no_line limit bs e = ap (λ o. node_field limit (globally o)) e

-- ---- what is said of the line

module _ (limit : Limit) (last : Option Name) (k : ℕ) where
  pub judged_none : (o : Option (Name × List ℕ)) → None ≡ node_field limit o → judged limit last k o ≡ Err (error.Line k)
  judged_none None e = refl
  judged_none (Some p) e = absurd cc

  by_limit : (e : Name × List ℕ) (b : Bool) → Over ≡ limited b e → cond b (cond (is_after last e.0) (Ok e) (Err (error.Order k))) (Err (error.Limit k)) ≡ Err (error.Limit k)
  by_limit e true h = absurd cc
  by_limit e false h = refl

  pub judged_over : (o : Option (Name × List ℕ)) → Some Over ≡ node_field limit o → judged limit last k o ≡ Err (error.Limit k)
  judged_over None e = absurd cc
  judged_over (Some p) e = by_limit p (is_small_node limit p) cc

  by_place : (e d : Name × List ℕ) (b : Bool) → Within d ≡ limited b e → cond b (cond (is_after last e.0) (Ok e) (Err (error.Order k))) (Err (error.Limit k))
      ≡ cond (is_after last d.0) (Ok d) (Err (error.Order k))
  by_place e d true h = let same : d ≡ e = cc in ap (λ x. cond (is_after last x.0) (Ok x) (Err (error.Order k))) (sym same)
  by_place e d false h = absurd cc

  pub judged_within : (d : Name × List ℕ) (o : Option (Name × List ℕ)) → Some (Within d) ≡ node_field limit o → judged limit last k o ≡ cond (is_after last d.0) (Ok d) (Err (error.Order k))
  judged_within d None e = absurd cc
  judged_within d (Some p) e = by_place p d (is_small_node limit p) cc
