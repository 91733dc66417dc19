use Rattle.std.proofs.Common.{◌≤◌, ◌+◌, ◌%◌, arith, codes, length}
use Rattle.cc_io.specs.Numbered.{with_decimal}
use Rattle.cc_explain.proofs.TextLemmas.{longer, nine}
use Rattle.cc_explain.proofs.picture.push_ruler.Goals as goal

-- ---- each piece fits

pub push_decimal-requires-2 : goal.push_decimal-requires-2
push_decimal-requires-2 c = omega (arith, c.push_decimal.ensures.fits, c.requires.room)

pub push_decimal-requires-3 : goal.push_decimal-requires-3
push_decimal-requires-3 c = omega (arith, c.push_decimal.ensures.fits, c.push_decimal-2.ensures.fits, c.requires.room)

pub push_decimal-requires-4 : goal.push_decimal-requires-4
push_decimal-requires-4 c = omega (arith, c.push_decimal.ensures.fits, c.push_decimal-2.ensures.fits, c.push_decimal-3.ensures.fits, c.requires.room)

pub push_decimal-requires-5 : goal.push_decimal-requires-5
push_decimal-requires-5 c = omega (arith, c.push_decimal.ensures.fits, c.push_decimal-2.ensures.fits, c.push_decimal-3.ensures.fits, c.push_decimal-4.ensures.fits, c.requires.room)

pub push_decimal-requires-6 : goal.push_decimal-requires-6
push_decimal-requires-6 c = omega (
  arith,
  c.push_decimal.ensures.fits,
  c.push_decimal-2.ensures.fits,
  c.push_decimal-3.ensures.fits,
  c.push_decimal-4.ensures.fits,
  c.push_decimal-5.ensures.fits,
  c.requires.room,
)

pub push_decimal-requires-7 : goal.push_decimal-requires-7
push_decimal-requires-7 c = omega (
  arith,
  c.push_decimal.ensures.fits,
  c.push_decimal-2.ensures.fits,
  c.push_decimal-3.ensures.fits,
  c.push_decimal-4.ensures.fits,
  c.push_decimal-5.ensures.fits,
  c.push_decimal-6.ensures.fits,
  c.requires.room,
)

pub push_decimal-requires-8 : goal.push_decimal-requires-8
push_decimal-requires-8 c = omega (
  arith,
  c.push_decimal.ensures.fits,
  c.push_decimal-2.ensures.fits,
  c.push_decimal-3.ensures.fits,
  c.push_decimal-4.ensures.fits,
  c.push_decimal-5.ensures.fits,
  c.push_decimal-6.ensures.fits,
  c.push_decimal-7.ensures.fits,
  c.requires.room,
)

pub push-requires : goal.push-requires
push-requires c = omega (
  arith,
  c.push_decimal.ensures.fits,
  c.push_decimal-2.ensures.fits,
  c.push_decimal-3.ensures.fits,
  c.push_decimal-4.ensures.fits,
  c.push_decimal-5.ensures.fits,
  c.push_decimal-6.ensures.fits,
  c.push_decimal-7.ensures.fits,
  c.push_decimal-8.ensures.fits,
  c.requires.room,
)

pub returns-clause-fits : goal.returns-clause-fits
returns-clause-fits c =
    let with_9 : length c.push.new.self ≤ length c.push_decimal-8.new.page + 8 = longer _ _ _ 8 c.push.ensures (omega arith) in
    omega (
      arith,
      c.push_decimal.ensures.fits,
      c.push_decimal-2.ensures.fits,
      c.push_decimal-3.ensures.fits,
      c.push_decimal-4.ensures.fits,
      c.push_decimal-5.ensures.fits,
      c.push_decimal-6.ensures.fits,
      c.push_decimal-7.ensures.fits,
      c.push_decimal-8.ensures.fits,
      with_9,
    )

pub returns-clause-value : goal.returns-clause-value
returns-clause-value c =
    let first = c.args.first in
    nine c.args.text.now (with_decimal (codes "section   ") first)
    (with_decimal (codes "-------") ((first + 1) % 8))
    (with_decimal (codes "-------") ((first + 2) % 8))
    (with_decimal (codes "-------") ((first + 3) % 8))
    (with_decimal (codes "-------") ((first + 4) % 8))
    (with_decimal (codes "-------") ((first + 5) % 8))
    (with_decimal (codes "-------") ((first + 6) % 8))
    (with_decimal (codes "-------") ((first + 7) % 8))
    (codes "-------\n") _ _ _ _ _ _ _ _ _
    c.push_decimal.ensures.value c.push_decimal-2.ensures.value c.push_decimal-3.ensures.value c.push_decimal-4.ensures.value
    c.push_decimal-5.ensures.value c.push_decimal-6.ensures.value c.push_decimal-7.ensures.value c.push_decimal-8.ensures.value c.push.ensures
