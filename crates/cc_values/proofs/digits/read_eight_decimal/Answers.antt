use Rattle.std.proofs.Common.{arith}
use Rattle.cc_values.proofs.EightLemmas.{decimal_known, decimal_missed}
use Rattle.cc_values.proofs.digits.read_eight_decimal.Goals as goal

pub returns-then-greatest-gt9 : goal.returns-then-greatest-gt9
returns-then-greatest-gt9 c =
    decimal_missed c.args.digits.now c.decimal_value-a.result c.decimal_value-b.result c.decimal_value-c.result c.decimal_value-d.result c.decimal_value-e.result c.decimal_value-f.result
    c.decimal_value-g.result c.decimal_value-h.result
    (omega (arith, c.told-digits)) (record { digit = c.decimal_value-a.ensures.digit; value = c.decimal_value-a.ensures.value })
    (record { digit = c.decimal_value-b.ensures.digit; value = c.decimal_value-b.ensures.value }) (record { digit = c.decimal_value-c.ensures.digit; value = c.decimal_value-c.ensures.value })
    (record { digit = c.decimal_value-d.ensures.digit; value = c.decimal_value-d.ensures.value }) (record { digit = c.decimal_value-e.ensures.digit; value = c.decimal_value-e.ensures.value })
    (record { digit = c.decimal_value-f.ensures.digit; value = c.decimal_value-f.ensures.value }) (record { digit = c.decimal_value-g.ensures.digit; value = c.decimal_value-g.ensures.value })
    (record { digit = c.decimal_value-h.ensures.digit; value = c.decimal_value-h.ensures.value })
    (omega (arith, c.if-greatest-gt9.true, c.max.ensures, c.max-2.ensures, c.max-3.ensures, c.max-4.ensures, c.max-5.ensures, c.max-6.ensures, c.max-greatest.ensures))

pub returns : goal.returns
returns c =
    rw (c.from.ensures, c.from-2.ensures, c.from-3.ensures, c.from-4.ensures, c.from-5.ensures, c.from-6.ensures, c.from-7.ensures, c.from-8.ensures)
    (decimal_known c.args.digits.now c.decimal_value-a.result c.decimal_value-b.result c.decimal_value-c.result c.decimal_value-d.result c.decimal_value-e.result c.decimal_value-f.result
    c.decimal_value-g.result c.decimal_value-h.result
    (omega (arith, c.told-digits)) (record { digit = c.decimal_value-a.ensures.digit; value = c.decimal_value-a.ensures.value })
    (record { digit = c.decimal_value-b.ensures.digit; value = c.decimal_value-b.ensures.value }) (record { digit = c.decimal_value-c.ensures.digit; value = c.decimal_value-c.ensures.value })
    (record { digit = c.decimal_value-d.ensures.digit; value = c.decimal_value-d.ensures.value }) (record { digit = c.decimal_value-e.ensures.digit; value = c.decimal_value-e.ensures.value })
    (record { digit = c.decimal_value-f.ensures.digit; value = c.decimal_value-f.ensures.value }) (record { digit = c.decimal_value-g.ensures.digit; value = c.decimal_value-g.ensures.value })
    (record { digit = c.decimal_value-h.ensures.digit; value = c.decimal_value-h.ensures.value })
    (omega (arith, c.if-greatest-gt9.false, c.max.ensures, c.max-2.ensures, c.max-3.ensures, c.max-4.ensures, c.max-5.ensures, c.max-6.ensures, c.max-greatest.ensures)))
