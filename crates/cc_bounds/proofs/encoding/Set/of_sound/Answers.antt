use Rattle.cc_bounds.proofs.EncodingLemmas.{granted-power}
use Rattle.cc_bounds.proofs.SoundLemmas.{granted-sound}
use Rattle.cc_bounds.proofs.encoding.Set.of_sound.Goals as goal

pub encoded-requires : goal.encoded-requires
encoded-requires c =
    let span = c.args.span in
    let is = c.granule_power-power.ensures in
    let own = c.requires in
    let grant = granted-sound span span own.is_span own.sound in
    let (small, large) = granted-power span span c.granule_power-power.result grant is.granule is.small is.large in
    record { is_span = own.is_span; sound = own.sound; small = small; large = large; fits = is.fits }
