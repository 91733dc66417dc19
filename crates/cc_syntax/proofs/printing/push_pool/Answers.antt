use Rattle.std.proofs.Common.{ap, append-nil, arith, codes, length, length-append, refl, sym}
use Rattle.cc_syntax.proofs.printing.push_pool.Goals as goal

pub push_index-requires : goal.push_index-requires
push_index-requires g c =
    omega (arith, ap length c.push_known.ensures, length-append c.args.line.now (codes "pool "), c.requires)

pub push_known-requires-2 : goal.push_known-requires-2
push_known-requires-2 g c =
    omega (
      arith,
      c.push_index.ensures.fits,
      ap length c.push_known.ensures,
      length-append c.args.line.now (codes "pool "),
      c.requires,
    )

pub push_bounds-requires : goal.push_bounds-requires
push_bounds-requires g c =
    omega (
      arith,
      ap length c.push_known-2.ensures,
      length-append c.push_index.new.self (codes " "),
      c.push_index.ensures.fits,
      ap length c.push_known.ensures,
      length-append c.args.line.now (codes "pool "),
      c.requires,
    )

pub push_known-requires-in-Sixteen : goal.push_known-requires-in-Sixteen
push_known-requires-in-Sixteen g c =
    omega (
      arith,
      c.push_bounds.ensures.fits,
      ap length c.push_known-2.ensures,
      length-append c.push_index.new.self (codes " "),
      c.push_index.ensures.fits,
      ap length c.push_known.ensures,
      length-append c.args.line.now (codes "pool "),
      c.requires,
    )

pub returns-in-Sixteen-clause-fits : goal.returns-in-Sixteen-clause-fits
returns-in-Sixteen-clause-fits g c =
    omega (
      arith,
      ap length c.push_known-in-Sixteen.ensures,
      length-append c.push_bounds.new.line (codes " align 16"),
      c.push_bounds.ensures.fits,
      ap length c.push_known-2.ensures,
      length-append c.push_index.new.self (codes " "),
      c.push_index.ensures.fits,
      ap length c.push_known.ensures,
      length-append c.args.line.now (codes "pool "),
    )

pub returns-in-One-clause-fits : goal.returns-in-One-clause-fits
returns-in-One-clause-fits g c =
    omega (
      arith,
      c.push_bounds.ensures.fits,
      ap length c.push_known-2.ensures,
      length-append c.push_index.new.self (codes " "),
      c.push_index.ensures.fits,
      ap length c.push_known.ensures,
      length-append c.args.line.now (codes "pool "),
    )

pub returns-in-Sixteen-clause-value : goal.returns-in-Sixteen-clause-value
returns-in-Sixteen-clause-value g c =
    rw (c.push_known-in-Sixteen.ensures, c.push_bounds.ensures.value, c.push_known-2.ensures, c.push_index.ensures.value, c.push_known.ensures, c.in-Sixteen.is) refl

pub returns-in-One-clause-value : goal.returns-in-One-clause-value
returns-in-One-clause-value g c =
    rw (c.push_bounds.ensures.value, c.push_known-2.ensures, c.push_index.ensures.value, c.push_known.ensures, c.in-One.is) (sym (append-nil _))
