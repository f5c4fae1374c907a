-- That what is answered fits, and can be written: on the contents that asks can make which can be written.
use Rattle.std.specs.Prelude.{◌≡◌, Bool, true, ◌&&◌}
use Rattle.std.specs.List.{list_all}
use Rattle.std.specs.FinMap.{is_sorted}
use Rattle.mj_subs.specs.Collation.{name_cmp}
use Rattle.mj_store.specs.Questions.{Content}
use Rattle.mj_store.specs.Runs.{answer_of, after_access}
use Rattle.mj_store.specs.declared.access.Access.{Access}
use Rattle.mj_ask.specs.declared.ask.Ask.TheVariants as asks
use Rattle.mj_ask.specs.declared.ask.SharedAsk.TheVariants as shared_asks
use Rattle.mj_ask.specs.declared.ask.Reply.TheVariants as replies
use Rattle.mj_ask.specs.Formed.{is_global_name, is_answer}
use Rattle.mj_ask.specs.Fits.{fits}

-- a content of globals: its names rise, and each is that of a global
abbrev pub is_content : Content → Bool
is_content content = is_sorted name_cmp content && list_all (λ e. is_global_name e.0) content

-- what an access is answered fits it, on each content
abbrev pub IsAnswered : Access → Type 0
IsAnswered a = (content : Content) → fits (asks.Shared (shared_asks.Access a)) (replies.Answer (answer_of a content)) ≡ true

-- on each content of globals, what an access is answered can be written, and what it leaves is such a content
pub record IsServed (a : Access) : Type 0 where
  pub formed : (content : Content) → is_content content ≡ true → is_answer (answer_of a content) ≡ true
  pub content : (content : Content) → is_content content ≡ true → is_content (after_access a content) ≡ true
