use Rattle.std.proofs.Common.{ap, arith, codes, length, length-append, refl}
use Rattle.cc_syntax.proofs.printing.push_shown.Goals as goal

pub push_word-requires : goal.push_word-requires
push_word-requires g c =
    omega (arith, ap length c.push_known.ensures, length-append c.args.line.now (codes "cap "), c.requires)

pub push_known-requires-2 : goal.push_known-requires-2
push_known-requires-2 g c =
    omega (
      arith,
      c.push_word.ensures.fits,
      ap length c.push_known.ensures,
      length-append c.args.line.now (codes "cap "),
      c.requires,
    )

pub push_bounds-requires : goal.push_bounds-requires
push_bounds-requires g c =
    omega (
      arith,
      ap length c.push_known-2.ensures,
      length-append c.push_word.new.self (codes " "),
      c.push_word.ensures.fits,
      ap length c.push_known.ensures,
      length-append c.args.line.now (codes "cap "),
      c.requires,
    )

pub returns-clause-value : goal.returns-clause-value
returns-clause-value g c =
    rw (c.push_bounds.ensures.value, c.push_known-2.ensures, c.push_word.ensures.value, c.push_known.ensures) refl

pub returns-clause-fits : goal.returns-clause-fits
returns-clause-fits g c =
    omega (
      arith,
      c.push_bounds.ensures.fits,
      ap length c.push_known-2.ensures,
      length-append c.push_word.new.self (codes " "),
      c.push_word.ensures.fits,
      ap length c.push_known.ensures,
      length-append c.args.line.now (codes "cap "),
    )
