-- What a run begins with that is the same but for what is left of it.
use Rattle.std.proofs.Common.{◌≡◌, List, Option, subst, ◌∙◌, Vec}
use Rattle.std.specs.Global.{Global}
use Rattle.mj_text.specs.declared.limit.Limit.TheVariants.{V2}
use Rattle.mj_ask.specs.Started.{Started}
use Rattle.mj_dev.specs.Shelves.{Shelf}
use Rattle.mj_load.specs.Image.{Loaded}
use Rattle.mj_store.specs.Questions.{Content}
use Rattle.mj_steps.specs.declared.step.Step.{Step}
use Rattle.mj_command_line.specs.declared.order.Run.{Run}
use Rattle.mj_begin.specs.Words.{WereBegun, IsPoolOf, WereRead, WereListed, WereSteps, WereGiven}

-- the words are the same by which it begins
pub given_by : (one other : Run) (starts : List Started) (pool : List Shelf) (image : Loaded) (globals : Content) (steps : Option (Vec Step Global))
    → one.starts.items ≡ other.starts.items → one.files.items ≡ other.files.items → one.devices.items ≡ other.devices.items
    → one.globals ≡ other.globals → one.steps ≡ other.steps → one.events ≡ other.events
    → WereGiven one starts pool image globals steps → WereGiven other starts pool image globals steps
given_by one other starts pool image globals steps s f d g t e given = record {
  begun = subst (λ xs. WereBegun xs other.files.items starts) s (subst (λ xs. WereBegun one.starts.items xs starts) f given.begun);
  devices = subst (λ xs. IsPoolOf xs pool) d given.devices;
  read = subst (λ xs. WereRead xs image.routines) f given.read;
  events = given.events ∙ e;
  listed = subst (λ file. WereListed V2 file globals) g given.listed;
  ordered = subst (λ file. WereSteps file steps) t given.ordered;
}
