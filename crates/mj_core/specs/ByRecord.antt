-- A record answers what a job asks a device: no device is called, and what is known of the job's talks is what its log says of them.
use Rattle.mj_expect.specs.Heeds.{Heeds, AreHeeds, IsHeed, heed_of}
use Rattle.mj_core.specs.Answering.{Answering}
use Rattle.mj_core.specs.Recorded.{repeating}
use Rattle.mj_core.specs.Silent.{silent_on}

-- nothing is kept of a session
abbrev pub by_record : Answering Heeds
by_record = record {
  IsOf = λ x log. AreHeeds log x;
  Has = λ x name has. Unit {0};
  HasRoom = λ x name. Unit {0};
  means = repeating;
  talks = λ x log heeds name. (heeds name).some;
  silent = λ x log a reply none heeds name. silent_on (λ t. IsHeed (heed_of name x) t) name log a reply none (heeds name);
}
