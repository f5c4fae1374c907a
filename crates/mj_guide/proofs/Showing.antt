-- A line that no reader of what is shown reads spells no request to show a variable.
use Rattle.std.proofs.Common.{◌≡◌, ◌≢◌, ℕ, List, ◌∷◌, ◌++◌, true, codes, decimal}
use Rattle.mj_subs.specs.Name.{Name}
use Rattle.mj_gfile.specs.Spelling.{listed_name}
use Rattle.mj_steps.specs.Steps.{IsJob}
use Rattle.mj_inspect.specs.declared.special.Special.{Special}
use Rattle.mj_guide.specs.declared.request.Request.{Request}
use Rattle.mj_guide.specs.declared.request.Request.TheVariants as requests
use Rattle.mj_guide.specs.Requests.{IsRequest, IsShowing, is_named, request_text, special_text}
use Rattle.mj_guide.proofs.Splits.{behind_job}

pub shows_none : (line rest behind : List ℕ) (job : ℕ) → line ≡ codes "p " ++ rest → ((special : Special) → rest ≢ special_text special)
    → ((name : Name) → is_named name ≡ true → rest ≢ listed_name name) → IsJob job → rest ≡ decimal job ++ 32 ∷ behind
    → ((special : Special) → behind ≢ special_text special) → ((name : Name) → is_named name ≡ true → behind ≢ listed_name name)
    → (request : Request) → IsShowing request → IsRequest request → line ≢ request_text request
shows_none line rest behind job front specials names is cut others own (requests.Show name) shows so same =
    let here : rest ≡ listed_name name = cc in names name so here
shows_none line rest behind job front specials names is cut others own (requests.ShowOf number name) shows so same =
    let here : rest ≡ decimal number ++ 32 ∷ listed_name name = cc in own name so.1 (behind_job rest behind (listed_name name) job number is so.0 cut here)
shows_none line rest behind job front specials names is cut others own (requests.Special special) shows so same =
    let here : rest ≡ special_text special = cc in specials special here
shows_none line rest behind job front specials names is cut others own (requests.SpecialOf number special) shows so same =
    let here : rest ≡ decimal number ++ 32 ∷ special_text special = cc in others special (behind_job rest behind (special_text special) job number is so cut here)
shows_none line rest behind job front specials names is cut others own request shows so same = absurd shows
