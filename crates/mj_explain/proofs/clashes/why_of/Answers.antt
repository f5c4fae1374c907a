use Rattle.std.proofs.Common.{rules, ◌≡◌, ℕ, Some, Option, ap, sym, ◌∙◌, option_copied}
use Rattle.std.specs.Prelude.{slice_get}
use Rattle.mj_ask.specs.declared.ask.Ask.{Ask}
use Rattle.mj_ask.specs.declared.ask.Reply.{Reply}
use Rattle.mj_ask.specs.declared.ask.Ask.TheVariants as asks
use Rattle.mj_ask.specs.declared.ask.SharedAsk.TheVariants as shared_asks
use Rattle.mj_ask.specs.declared.ask.Reply.TheVariants as replies
use Rattle.mj_ask.specs.declared.noted.Noted.{Noted}
use Rattle.mj_explain.proofs.Begun.{got, begun_at}
use Rattle.mj_explain.proofs.clashes.why_of.Goals as goal

-- an event, by what it is known to be
known : (e : Noted) (job : ℕ) (ask : Ask) (reply : Reply) → e.job ≡ job → e.ask ≡ ask → e.reply ≡ reply
    → e ≡ record { job = job; spot = e.spot; ask = ask; reply = reply }
known e job ask reply h k l = λ i. record { job = h i; spot = e.spot; ask = k i; reply = l i }

pub returns : goal.returns
returns c =
    let es = c.args.events.now in
    let begins = c.args.begins.now in
    let k = c.args.place in
    let e = c.args.event.now in
    let m = c.in-Shared-Access-Answer in
    let f = c.in-Some-get.other.now in
    let begin = c.in-Some-Some.begin in
    let read = c.in-Some.read in
    let begun : c.in-Some-Some.field-0.now ≡ Some begin = search rules in
    let has : slice_get begins k ≡ Some (Some begin) = sym (got begins k c.get.result c.get.ensures.lookup) ∙ ap option_copied c.in-Some-Some.is ∙ ap (λ (o : Option ℕ). Some o) begun in
    let at : slice_get es read ≡ Some f = sym (got es read c.get-2.result c.get-2.ensures.lookup) ∙ ap option_copied c.in-Some-get.is in
    let read_asked : f.ask ≡ asks.Shared (shared_asks.Access m.access) = search rules in
    let read_told : f.reply ≡ replies.Answer m.had = search rules in
    record {
      begin = begun_at es begins k e (Some begin) c.requires.begins c.requires.there has;
      a = m.access;
      had = m.had;
      looked = f.spot;
      read = at ∙ ap (λ (x : Noted). Some x) (known f e.job _ _ c.if-other-event.false read_asked read_told);
      questions = sym c.is_write.ensures ∙ c.if-is_write.false;
      which = c.in-Some.ensures.is;
      before = c.in-Some.ensures.before;
      now = c.in_ok-answer.ensures.now;
      other = c.in_ok-is_told.ensures.other c.if-not-branch.false;
      says = c.in_ok-is_told.ensures.says c.if-not-branch.false;
      cause = c.in_ok-answer.ensures.cause;
    }
