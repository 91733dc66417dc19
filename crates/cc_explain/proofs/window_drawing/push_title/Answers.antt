use Rattle.std.proofs.Common.{append_assoc, arith, length, ◌+◌, ◌≤◌}
use Rattle.cc_explain.proofs.TextLemmas.{longer}
use Rattle.cc_explain.proofs.window_drawing.push_title.Goals as goal

-- ---- each piece fits

pub push-requires : goal.push-requires
push-requires c = omega (arith, c.push_digits.ensures.fits, c.requires)

pub push_hexadecimal-requires : goal.push_hexadecimal-requires
push_hexadecimal-requires c =
    let with_2 : length c.push.new.self ≤ length c.push_digits.new.page + 9 = longer _ _ _ 9 c.push.ensures (omega arith) in
    omega (arith, c.push_digits.ensures.fits, with_2, c.requires)

pub push_hexadecimal-requires-2 : goal.push_hexadecimal-requires-2
push_hexadecimal-requires-2 c =
    let with_2 : length c.push.new.self ≤ length c.push_digits.new.page + 9 = longer _ _ _ 9 c.push.ensures (omega arith) in
    omega (arith, c.push_digits.ensures.fits, with_2, c.push_hexadecimal.ensures.fits, c.requires)

pub end_with_hexadecimal-requires : goal.end_with_hexadecimal-requires
end_with_hexadecimal-requires c =
    let with_2 : length c.push.new.self ≤ length c.push_digits.new.page + 9 = longer _ _ _ 9 c.push.ensures (omega arith) in
    omega (arith, c.push_digits.ensures.fits, with_2, c.push_hexadecimal.ensures.fits, c.push_hexadecimal-2.ensures.fits, c.requires)

pub returns-clause-fits : goal.returns-clause-fits
returns-clause-fits c =
    let with_2 : length c.push.new.self ≤ length c.push_digits.new.page + 9 = longer _ _ _ 9 c.push.ensures (omega arith) in
    omega (arith, c.push_digits.ensures.fits, with_2, c.push_hexadecimal.ensures.fits, c.push_hexadecimal-2.ensures.fits, c.end_with_hexadecimal.ensures.fits)

pub returns-clause-value : goal.returns-clause-value
returns-clause-value c =
    rw (c.end_with_hexadecimal.ensures.value, c.push_hexadecimal-2.ensures.value, c.push_hexadecimal.ensures.value, c.push.ensures, c.push_digits.ensures.value, c.from.ensures, c.from-2.ensures)
    (simp append_assoc)
