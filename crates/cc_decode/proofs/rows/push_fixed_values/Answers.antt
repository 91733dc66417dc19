use Rattle.std.proofs.Common.{◌≡◌, append_assoc, rules}
use Rattle.cc_word.specs.Word.{bit_of}
use Rattle.cc_decode.proofs.rows.push_fixed_values.Goals as goal

pub returns-clause-value : goal.returns-clause-value
returns-clause-value c =
    let canonical : c.from.result ≡ bit_of c.args.canonical = search rules in
    rw (c.push_decimal.ensures.value, canonical, c.push_byte.ensures.value, c.push_rights.ensures.value, c.args.decoded.now.is_exponent, c.push_fixed_bounds.ensures.value)
    (simp append_assoc)
