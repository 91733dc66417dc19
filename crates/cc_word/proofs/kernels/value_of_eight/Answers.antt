use Rattle.std.proofs.Common.{arith, ◌+◌, ◌*◌, ◌≤◌, ◌∙◌, ℕ, slice_index}
use Rattle.cc_word.proofs.ReadingLemmas.{worth, worth-most, gathered_pair, gathered_all, room_further, room_fits}
use Rattle.cc_word.proofs.kernels.value_of_eight.Goals as goal

-- what a number has after a pair fits, whatever the two bytes are
pub overflow_mul-number : goal.overflow_mul-number
overflow_mul-number c =
    let i = c.loop-pair.pair in
    let few : i + 1 ≤ 4 = omega (arith, c.loop-pair-test.true) in
    omega (arith, room_further i c.loop-pair.number 0 0 c.loop-pair.invariant.small (omega arith) (omega arith), room_fits (i + 1) few)

pub overflow_add-number : goal.overflow_add-number
overflow_add-number c =
    let i = c.loop-pair.pair in
    let few : i + 1 ≤ 4 = omega (arith, c.loop-pair-test.true) in
    let first : ℕ = slice_index c.args.digits.now (2 * i) in
    let most = worth-most first (omega (arith, c.type_inv.digits (2 * i))) in
    omega (
      arith,
      c.value_of_first_digit-first.ensures,
      room_further i c.loop-pair.number (worth first) 0 c.loop-pair.invariant.small most (omega arith),
      room_fits (i + 1) few,
    )

pub overflow_add-number-in-loop-pair : goal.overflow_add-number-in-loop-pair
overflow_add-number-in-loop-pair c =
    let i = c.loop-pair.pair in
    let few : i + 1 ≤ 4 = omega (arith, c.loop-pair-test.true) in
    let first : ℕ = slice_index c.args.digits.now (2 * i) in
    let second : ℕ = slice_index c.args.digits.now (2 * i + 1) in
    let most = worth-most first (omega (arith, c.type_inv.digits (2 * i))) in
    let also = worth-most second (omega (arith, c.type_inv.digits (2 * i + 1))) in
    omega (
      arith,
      c.value_of_first_digit-first.ensures,
      c.value_of_digit-second.ensures,
      room_further i c.loop-pair.number (worth first) (worth second) c.loop-pair.invariant.small most also,
      room_fits (i + 1) few,
    )

pub loop-pair-preserved : goal.loop-pair-preserved
loop-pair-preserved c =
    let i = c.loop-pair.pair in
    let first : ℕ = slice_index c.args.digits.now (2 * i) in
    let second : ℕ = slice_index c.args.digits.now (2 * i + 1) in
    let most = worth-most first (omega (arith, c.type_inv.digits (2 * i))) in
    let also = worth-most second (omega (arith, c.type_inv.digits (2 * i + 1))) in
    record {
      number =
          rw (c.value_of_first_digit-first.ensures, c.value_of_digit-second.ensures)
          (gathered_pair c.loop-pair.number i c.args.digits.now (omega (arith, c.loop-pair-test.true, c.requires)) ∙ c.loop-pair.invariant.number);
      small =
          rw (c.value_of_first_digit-first.ensures, c.value_of_digit-second.ensures)
          (room_further i c.loop-pair.number (worth first) (worth second) c.loop-pair.invariant.small most also);
    }

pub returns-clause-found : goal.returns-clause-found
returns-clause-found c =
    let whole = gathered_all c.loop-pair.number (2 * c.loop-pair.pair) c.args.digits.now c.requires (omega (arith, c.requires, c.loop-pair-test.false)) c.loop-pair.invariant.number in
    (whole.digits, whole.small)

pub returns-clause-value : goal.returns-clause-value
returns-clause-value c =
    (gathered_all c.loop-pair.number (2 * c.loop-pair.pair) c.args.digits.now c.requires (omega (arith, c.requires, c.loop-pair-test.false)) c.loop-pair.invariant.number).value
