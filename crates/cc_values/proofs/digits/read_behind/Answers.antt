use Rattle.std.proofs.Common.{arith, get_or, take, ◌≡◌, ◌^◌}
use Rattle.std.specs.Str.Parse.{digits_value}
use Rattle.cc_values.proofs.NumberLemmas.{value_further, digits_further, digit_passes}
use Rattle.cc_values.proofs.EightLemmas.{digits_known, radix_some}
use Rattle.cc_values.proofs.digits.read_behind.Goals as goal

pub digits-init : goal.digits-init
digits-init c =
    let first = take 16 c.args.digits.now in
    let known = digits_known c.args.radix 0 c.args.first first c.requires.known in
    let value : c.args.first ≡ digits_value c.args.radix first = known.1 in
    record {
      within = c.requires.long;
      some = omega arith;
      digits = known.0;
      number = omega (arith, c.from-number.ensures, value, c.ranges.first.fits);
    }

pub digits-preserved : goal.digits-preserved
digits-preserved c =
    let at = c.digits.at in
    let digits = c.args.digits.now in
    let radix = c.args.radix in
    let digit = c.in_ok-digit.ensures.value in
    record {
      within = omega (arith, c.digits-test.true);
      some = omega (arith, c.digits.invariant.some);
      digits = digits_further radix at digits c.digits-test.true c.digits.invariant.digits (digit_passes radix (get_or digits at 0) digit.0);
      number =
          rw (c.with_digit-number.ensures, digit.1, c.digits.invariant.number)
          (value_further (2 ^ 65) radix at digits (radix_some radix c.requires.radix) c.digits-test.true);
    }
