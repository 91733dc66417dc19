use Rattle.std.proofs.Common.{ap, arith, codes, length, length-append, refl}
use Rattle.cc_syntax.proofs.printing.push_allocated.Goals as goal

pub push_index-requires : goal.push_index-requires
push_index-requires g c =
    omega (arith, ap length c.push_known.ensures, length-append c.args.line.now (codes "object "), c.requires)

pub push_known-requires-2 : goal.push_known-requires-2
push_known-requires-2 g c =
    omega (
      arith,
      c.push_index.ensures.fits,
      ap length c.push_known.ensures,
      length-append c.args.line.now (codes "object "),
      c.requires,
    )

pub push_made-requires : goal.push_made-requires
push_made-requires g c =
    omega (
      arith,
      ap length c.push_known-2.ensures,
      length-append c.push_index.new.self (codes " slot "),
      c.push_index.ensures.fits,
      ap length c.push_known.ensures,
      length-append c.args.line.now (codes "object "),
      c.requires,
    )

pub push_known-requires-3 : goal.push_known-requires-3
push_known-requires-3 g c =
    omega (
      arith,
      c.push_made.ensures.fits,
      ap length c.push_known-2.ensures,
      length-append c.push_index.new.self (codes " slot "),
      c.push_index.ensures.fits,
      ap length c.push_known.ensures,
      length-append c.args.line.now (codes "object "),
      c.requires,
    )

pub push_decimal-requires : goal.push_decimal-requires
push_decimal-requires g c =
    omega (
      arith,
      ap length c.push_known-3.ensures,
      length-append c.push_made.new.line (codes " held "),
      c.push_made.ensures.fits,
      ap length c.push_known-2.ensures,
      length-append c.push_index.new.self (codes " slot "),
      c.push_index.ensures.fits,
      ap length c.push_known.ensures,
      length-append c.args.line.now (codes "object "),
      c.requires,
    )

pub returns-clause-value : goal.returns-clause-value
returns-clause-value g c =
    rw (c.push_decimal.ensures.value, c.push_known-3.ensures, c.push_made.ensures.value, c.push_known-2.ensures, c.push_index.ensures.value, c.push_known.ensures)
    refl

pub returns-clause-fits : goal.returns-clause-fits
returns-clause-fits g c =
    omega (
      arith,
      c.push_decimal.ensures.fits,
      ap length c.push_known-3.ensures,
      length-append c.push_made.new.line (codes " held "),
      c.push_made.ensures.fits,
      ap length c.push_known-2.ensures,
      length-append c.push_index.new.self (codes " slot "),
      c.push_index.ensures.fits,
      ap length c.push_known.ensures,
      length-append c.args.line.now (codes "object "),
    )
