-- The devices of a live run are those of any run of the same words.
use Rattle.std.proofs.Common.{◌≡◌, ◌∙◌, List, [], ◌∷◌, ℕ, refl, sym, ap, ap₂}
use Rattle.std.specs.Borrow.{Bor}
use Rattle.mj_dev.specs.Shelves.{Shelf}
use Rattle.mj_files.specs.Named.{names_of, with_principals, with_devices}
use Rattle.mj_files.specs.declared.devices.Named.{Named}
use Rattle.mj_jobs.specs.Rows.{rows_limit}
use Rattle.mj_typed.specs.Named.{names_in}
use Rattle.mj_begin.specs.Words.{AreDevices, IsPoolOf}

names_given : (words : List (Bor (List ℕ))) (devices : List Named) → AreDevices words devices → names_in words ≡ names_of devices
names_given [] [] are = refl
names_given [] (device ∷ devices) are = absurd are
names_given (word ∷ words) [] are = absurd are
names_given (word ∷ words) (device ∷ devices) are =
    ap₂ (λ (name : List ℕ) (names : List (List ℕ)). name ∷ names) (sym are.0.before) (names_given words devices are.1)

pub same_pool : (words : List (Bor (List ℕ))) (pool : List Shelf) → IsPoolOf words pool → with_devices (names_in words) (with_principals rows_limit) ≡ pool
same_pool words pool (devices, are, is) = ap (λ names. with_devices names (with_principals rows_limit)) (names_given words devices are) ∙ sym is
