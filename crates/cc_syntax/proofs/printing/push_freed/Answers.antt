use Rattle.std.proofs.Common.{ap, arith, codes, length, length-append, refl}
use Rattle.cc_syntax.proofs.printing.push_freed.Goals as goal

pub push_index-requires : goal.push_index-requires
push_index-requires g c =
    omega (arith, ap length c.push_known.ensures, length-append c.args.line.now (codes "freed "), c.requires)

pub push_revoked-requires : goal.push_revoked-requires
push_revoked-requires g c =
    omega (
      arith,
      c.push_index.ensures.fits,
      ap length c.push_known.ensures,
      length-append c.args.line.now (codes "freed "),
      c.requires,
    )

pub returns-clause-value : goal.returns-clause-value
returns-clause-value g c =
    rw (c.push_revoked.ensures.value, c.push_index.ensures.value, c.push_known.ensures) refl

pub returns-clause-fits : goal.returns-clause-fits
returns-clause-fits g c =
    omega (
      arith,
      c.push_revoked.ensures.fits,
      c.push_index.ensures.fits,
      ap length c.push_known.ensures,
      length-append c.args.line.now (codes "freed "),
    )
