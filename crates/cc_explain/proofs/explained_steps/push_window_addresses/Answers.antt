use Rattle.std.proofs.Common.{◌≤◌, ◌+◌, arith, length}
use Rattle.cc_explain.proofs.TextLemmas.{longer}
use Rattle.cc_explain.proofs.explained_steps.push_window_addresses.Goals as goal

pub overflow_mul-last : goal.overflow_mul-last
overflow_mul-last c = omega (arith, c.section.ensures.fits)

pub overflow_add-last : goal.overflow_add-last
overflow_add-last c = omega (arith, c.section.ensures.fits, c.requires.start)

pub push_hexadecimal-requires-else-steps-ge50 : goal.push_hexadecimal-requires-else-steps-ge50
push_hexadecimal-requires-else-steps-ge50 c = omega (arith, c.push_hexadecimal.ensures.fits, c.requires.room)

pub returns-then-steps-ge50-clause-fits : goal.returns-then-steps-ge50-clause-fits
returns-then-steps-ge50-clause-fits c =
    let with_line : length c.push.new.self ≤ length c.args.text.now + 23 = longer _ _ _ 23 c.push.ensures (omega arith) in
    omega (arith, with_line)

pub returns-else-steps-ge50-clause-fits : goal.returns-else-steps-ge50-clause-fits
returns-else-steps-ge50-clause-fits c = omega (arith, c.push_hexadecimal.ensures.fits, c.push_hexadecimal-else-steps-ge50.ensures.fits)
