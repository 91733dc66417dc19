use Rattle.std.proofs.Common.{rules, arith, get_or, ◌≡◌, ◌<◌, ◌≤◌, ◌+◌, ◌*◌, sym, length}
use Rattle.std.proofs.lemmas.Int.Digits.{digits_value_more}
use Rattle.cc_values.proofs.NumberLemmas.{digits_further, digit_passes, short_further, short_fits, short_product}
use Rattle.cc_syntax.proofs.SlotLemmas.{number_begins}
use Rattle.cc_syntax.proofs.numbers.split_number.Goals as goal

pub returns-then-text-at-eq32 : goal.returns-then-text-at-eq32
returns-then-text-at-eq32 c =
    let within : c.digits.at < length c.args.text.now = omega (arith, c.digits-test.true, c.min-most.ensures) in
    let some : 0 < c.digits.at = omega (arith, c.if-at-gt0.true) in
    let space : get_or c.args.text.now c.digits.at 0 ≡ 32 = search rules in
    number_begins c.args.text.now c.digits.at c.digits.number within some space c.digits.invariant.digits c.digits.invariant.number

pub overflow_mul-number : goal.overflow_mul-number
overflow_mul-number c =
    let few : c.digits.at < 16 = omega (arith, c.digits-test.true, c.min-most.ensures) in
    omega (arith, short_product c.digits.at c.digits.number 10 few c.digits.invariant.small (omega arith))

pub overflow_add-number : goal.overflow_add-number
overflow_add-number c =
    let few : c.digits.at + 1 ≤ 16 = omega (arith, c.digits-test.true, c.min-most.ensures) in
    let digit = c.in-Some.ensures.value in
    let below : c.in-Some.digit < 10 = omega (arith, digit.0, digit.1) in
    rw c.from.ensures
    (omega (
      arith,
      short_fits (c.digits.at + 1) (c.digits.number * 10 + c.in-Some.digit) few
          (short_further c.digits.at c.digits.number 10 c.in-Some.digit c.digits.invariant.small (omega arith) below),
    ))

pub digits-preserved : goal.digits-preserved
digits-preserved c =
    let at = c.digits.at in
    let text = c.args.text.now in
    let digit = c.in-Some.ensures.value in
    let below : c.in-Some.digit < 10 = omega (arith, digit.0, digit.1) in
    let within : c.digits.at < length c.args.text.now = omega (arith, c.digits-test.true, c.min-most.ensures) in
    record {
      within = omega (arith, c.digits-test.true);
      digits = digits_further 10 at text within c.digits.invariant.digits (digit_passes 10 (get_or text at 0) digit.0);
      number = rw (c.from.ensures, digit.1, c.digits.invariant.number) (sym (digits_value_more 10 text at within));
      small = rw c.from.ensures (short_further at c.digits.number 10 c.in-Some.digit c.digits.invariant.small (omega arith) below);
    }
