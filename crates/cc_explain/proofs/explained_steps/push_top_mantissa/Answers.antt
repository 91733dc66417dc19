use Rattle.std.proofs.Common.{◌≤◌, ◌+◌, arith, length}
use Rattle.cc_explain.proofs.TextLemmas.{longer}
use Rattle.cc_explain.proofs.explained_steps.push_top_mantissa.Goals as goal

-- ---- each piece fits

pub push-requires-2 : goal.push-requires-2
push-requires-2 c =
    let with_2 : length c.push.new.self ≤ length c.push_hexadecimal.new.page + 7 = longer _ _ _ 7 c.push.ensures (omega arith) in
    omega (arith, c.push_hexadecimal.ensures.fits, with_2, c.stored.ensures.fits, c.requires.room)

pub end_with_decimal-requires : goal.end_with_decimal-requires
end_with_decimal-requires c =
    let with_2 : length c.push.new.self ≤ length c.push_hexadecimal.new.page + 7 = longer _ _ _ 7 c.push.ensures (omega arith) in
    let with_3 : length c.push-2.new.self ≤ length c.push.new.self + 35 = longer _ _ _ 35 c.push-2.ensures c.stored.ensures.fits in
    omega (arith, c.push_hexadecimal.ensures.fits, with_2, with_3, c.requires.room)

pub returns-clause-fits : goal.returns-clause-fits
returns-clause-fits c =
    let with_2 : length c.push.new.self ≤ length c.push_hexadecimal.new.page + 7 = longer _ _ _ 7 c.push.ensures (omega arith) in
    let with_3 : length c.push-2.new.self ≤ length c.push.new.self + 35 = longer _ _ _ 35 c.push-2.ensures c.stored.ensures.fits in
    omega (arith, c.push_hexadecimal.ensures.fits, with_2, with_3, c.end_with_decimal.ensures.fits)
