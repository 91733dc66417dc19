use Rattle.std.proofs.Common.{append_assoc, arith}
use Rattle.cc_decode.proofs.rows.push_span.Goals as goal

pub push_hexadecimal-requires : goal.push_hexadecimal-requires
push_hexadecimal-requires c = omega arith

pub push_byte-requires : goal.push_byte-requires
push_byte-requires c = omega arith

pub push_hexadecimal-requires-2 : goal.push_hexadecimal-requires-2
push_hexadecimal-requires-2 c = omega arith

pub returns-clause-value : goal.returns-clause-value
returns-clause-value c =
    rw (c.push_hexadecimal-2.ensures.value, c.push_byte.ensures.value, c.push_hexadecimal.ensures.value, c.from.ensures) (simp append_assoc)

pub returns-clause-fits : goal.returns-clause-fits
returns-clause-fits c = omega arith
