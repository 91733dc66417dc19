use Rattle.std.proofs.Common.{◌^◌, ◌∙◌, ap}
use Rattle.cc_bounds.specs.Encoding.{Encoding}
use Rattle.cc_bounds.proofs.EncodingLemmas.{granted-power}
use Rattle.cc_bounds.proofs.SoundLemmas.{exact_by_power, granted-sound}
use Rattle.cc_bounds.proofs.encoding.encode.Goals as goal

pub encoded-requires : goal.encoded-requires
encoded-requires c =
    let request = c.args.request.now in
    let power = c.granule_power-power.result in
    let is = c.granule_power-power.ensures in
    let grant = granted-sound request c.rounded-granted.result c.requires (record {
      granule = 2 ^ power;
      is_granule = is.granule;
      is_rounded = c.rounded-granted.ensures;
    }) in
    let (small, large) = granted-power request c.rounded-granted.result power grant is.granule is.small is.large in
    record { is_span = grant.is_span; sound = grant.sound; small = small; large = large; fits = is.fits }

pub returns-clause-exact : goal.returns-clause-exact
returns-clause-exact c =
    exact_by_power c.args.request.now c.rounded-granted.result (2 ^ c.granule_power-power.result) c.encoded.result.exact
    c.granule_power-power.ensures.granule c.rounded-granted.ensures (ap (λ (e : Encoding). e.exact) c.encoded.ensures ∙ c.eq.ensures)
