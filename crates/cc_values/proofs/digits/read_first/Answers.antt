use Rattle.std.proofs.Common.{arith, get_or, ◌<◌, ◌≤◌, ◌+◌, ◌*◌, sym}
use Rattle.std.proofs.lemmas.Int.Digits.{digits_value_more}
use Rattle.cc_values.proofs.NumberLemmas.{digits_further, digit_passes, short_further, short_fits, short_product}
use Rattle.cc_values.proofs.EightLemmas.{radix_most}
use Rattle.cc_values.proofs.digits.read_first.Goals as goal

pub overflow_mul-number : goal.overflow_mul-number
overflow_mul-number c =
    let i = c.loop-byte.byte-index in
    let few : i < 16 = omega (arith, c.loop-byte-test.true, c.requires.few) in
    rw c.from.ensures (omega (arith, short_product i c.loop-byte.number c.args.radix few c.loop-byte.invariant.small (radix_most c.args.radix c.requires.radix)))

pub overflow_add-number : goal.overflow_add-number
overflow_add-number c =
    let i = c.loop-byte.byte-index in
    let few : i + 1 ≤ 16 = omega (arith, c.loop-byte-test.true, c.requires.few) in
    let digit = c.in_ok-digit.ensures.value in
    let below : c.in_ok-digit.digit < c.args.radix = omega (arith, digit.0, digit.1) in
    rw (c.from.ensures, c.from-in-loop-byte.ensures)
    (omega (
      arith,
      short_fits (i + 1) (c.loop-byte.number * c.args.radix + c.in_ok-digit.digit) few
          (short_further i c.loop-byte.number c.args.radix c.in_ok-digit.digit c.loop-byte.invariant.small (radix_most c.args.radix c.requires.radix) below),
    ))

pub loop-byte-preserved : goal.loop-byte-preserved
loop-byte-preserved c =
    let i = c.loop-byte.byte-index in
    let digits = c.args.digits.now in
    let radix = c.args.radix in
    let digit = c.in_ok-digit.ensures.value in
    let below : c.in_ok-digit.digit < radix = omega (arith, digit.0, digit.1) in
    record {
      digits = digits_further radix i digits c.loop-byte-test.true c.loop-byte.invariant.digits (digit_passes radix (get_or digits i 0) digit.0);
      number = rw (c.from.ensures, c.from-in-loop-byte.ensures, digit.1, c.loop-byte.invariant.number) (sym (digits_value_more radix digits i c.loop-byte-test.true));
      small =
          rw (c.from.ensures, c.from-in-loop-byte.ensures)
          (short_further i c.loop-byte.number radix c.in_ok-digit.digit c.loop-byte.invariant.small (radix_most c.args.radix c.requires.radix) below);
    }
