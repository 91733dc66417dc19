use Rattle.std.proofs.Common.{◌<◌, ◌^◌, arith}
use Rattle.cc_ffi.specs.Numbers.{number_of_halves}
use Rattle.cc_ffi.proofs.MeasureLemmas.{excess_of}
use Rattle.cc_ffi.proofs.measures.cheri_cap_lost.Goals as goal

pub returns-clause-granted : goal.returns-clause-granted
returns-clause-granted c fits granted is_granted =
    let base_fits : c.args.base < 2 ^ 64 = omega arith in
    excess_of c.args.base (number_of_halves c.args.length_high c.args.length_low) c.from-2.result c.number-length.result
    c.granted-granted.result c.set_bounds.result.granted granted base_fits c.from-2.ensures c.number-length.ensures
    c.granted-granted.ensures.granted c.set_bounds.ensures.tight c.set_bounds.ensures.granted c.granted-granted.ensures.is_span
    is_granted
