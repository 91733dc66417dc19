use Rattle.std.proofs.Common.{◌≤◌, [], ◌∷◌, ap, arith, length, length-append, refl, rules}
use Rattle.cc_replay.specs.Rows.{percent_text}
use Rattle.cc_replay.proofs.rows.push_percent.Goals as goal

pub push_digit-requires : goal.push_digit-requires
push_digit-requires g c =
    omega (arith, ap length c.new-digits.ensures, c.push_decimal.ensures.fits, ap length c.push.ensures, length-append c.push_decimal.new.self (46 ∷ []))

pub push_digit-requires-2 : goal.push_digit-requires-2
push_digit-requires-2 g c =
    let begun : length c.push.new.self ≤ 41 =
    omega (arith, ap length c.new-digits.ensures, c.push_decimal.ensures.fits, ap length c.push.ensures, length-append c.push_decimal.new.self (46 ∷ [])) in
    omega (arith, begun, c.push_digit.ensures.fits)

pub push_digit-requires-3 : goal.push_digit-requires-3
push_digit-requires-3 g c =
    let begun : length c.push.new.self ≤ 41 =
    omega (arith, ap length c.new-digits.ensures, c.push_decimal.ensures.fits, ap length c.push.ensures, length-append c.push_decimal.new.self (46 ∷ [])) in
    omega (arith, begun, c.push_digit.ensures.fits, c.push_digit-2.ensures.fits)

pub push_digit-requires-4 : goal.push_digit-requires-4
push_digit-requires-4 g c =
    let begun : length c.push.new.self ≤ 41 =
    omega (arith, ap length c.new-digits.ensures, c.push_decimal.ensures.fits, ap length c.push.ensures, length-append c.push_decimal.new.self (46 ∷ [])) in
    omega (arith, begun, c.push_digit.ensures.fits, c.push_digit-2.ensures.fits, c.push_digit-3.ensures.fits)

pub push-requires-2 : goal.push-requires-2
push-requires-2 g c =
    let begun : length c.push.new.self ≤ 41 =
    omega (arith, ap length c.new-digits.ensures, c.push_decimal.ensures.fits, ap length c.push.ensures, length-append c.push_decimal.new.self (46 ∷ [])) in
    (search rules, omega (arith, begun, c.push_digit.ensures.fits, c.push_digit-2.ensures.fits, c.push_digit-3.ensures.fits, c.push_digit-4.ensures.fits, ap length c.bytes.ensures.value, c.requires))

pub returns-clause-value : goal.returns-clause-value
unfolding percent_text
returns-clause-value g c =
    rw (
      c.push-2.ensures,
      c.bytes.ensures.value,
      c.push_digit-4.ensures.value,
      c.push_digit-3.ensures.value,
      c.push_digit-2.ensures.value,
      c.push_digit.ensures.value,
      c.push.ensures,
      c.push_decimal.ensures.value,
      c.new-digits.ensures,
    ) refl

pub returns-clause-fits : goal.returns-clause-fits
returns-clause-fits g c =
    let begun : length c.push.new.self ≤ 41 =
    omega (arith, ap length c.new-digits.ensures, c.push_decimal.ensures.fits, ap length c.push.ensures, length-append c.push_decimal.new.self (46 ∷ [])) in
    omega (
      arith,
      begun,
      c.push_digit.ensures.fits,
      c.push_digit-2.ensures.fits,
      c.push_digit-3.ensures.fits,
      c.push_digit-4.ensures.fits,
      ap length c.bytes.ensures.value,
      ap length c.push-2.ensures,
      length-append c.args.page.now c.bytes.result.now,
    )
