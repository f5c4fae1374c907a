-- The units of an image are small, and checked.
use Rattle.std.proofs.Common.{◌<◌, length, arith}
use Rattle.std.proofs.lemmas.Option.{slice_get_within, get_or_from_slice_get}
use Rattle.std.proofs.Common.{subst}
use Rattle.mj_load.specs.Image.{Loaded, IsImage}
use Rattle.mj_load.specs.Image as images
use Rattle.mj_pcode.specs.Checked.{IsChecked}
use Rattle.mj_pcode.specs.Sound.{AreChecked}
use Rattle.mj_turn.specs.Units.{AreSmall}

pub are_small : (image : Loaded) → IsImage image → AreSmall image.units
are_small image is i u at =
    let within : i < length image.units = omega (arith, slice_get_within image.units i u at) in
    let small : images.IsSmall u = subst images.IsSmall (get_or_from_slice_get image.units i u u at) (is.small i u within) in
    record { lines = small.few; short = small.short }

pub are_checked : (image : Loaded) → IsImage image → AreChecked image.units
are_checked image is i u at =
    let within : i < length image.units = omega (arith, slice_get_within image.units i u at) in
    subst IsChecked (get_or_from_slice_get image.units i u u at) (is.checked i u within)
