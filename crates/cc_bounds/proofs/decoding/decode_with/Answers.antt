use Rattle.cc_bounds.proofs.DecodingLemmas.{DecodesTo-same}
use Rattle.cc_bounds.proofs.decoding.decode_with.Goals as goal

pub returns-then-exponent-lt-FIRST_LARGE_EXPONENT-clause-only : goal.returns-then-exponent-lt-FIRST_LARGE_EXPONENT-clause-only
returns-then-exponent-lt-FIRST_LARGE_EXPONENT-clause-only c span decoded = DecodesTo-same c.args.fields.now span _ decoded c.small_bounds.ensures

pub returns-else-exponent-lt-FIRST_LARGE_EXPONENT-clause-only : goal.returns-else-exponent-lt-FIRST_LARGE_EXPONENT-clause-only
returns-else-exponent-lt-FIRST_LARGE_EXPONENT-clause-only c span decoded = DecodesTo-same c.args.fields.now span _ decoded c.large_bounds.ensures
