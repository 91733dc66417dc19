use Rattle.std.proofs.Common.{ap, arith, codes, length, length-append}
use Rattle.cc_syntax.proofs.printing.push_parent.Goals as goal

pub push_index-requires : goal.push_index-requires
push_index-requires g c =
    omega (arith, ap length c.push_known.ensures, length-append c.args.line.now (codes " "), c.requires)

pub push_known-requires-in-None : goal.push_known-requires-in-None
push_known-requires-in-None g c =
    omega (arith, ap length c.push_known.ensures, length-append c.args.line.now (codes " "), c.requires)

pub returns-in-Some-clause-fits : goal.returns-in-Some-clause-fits
returns-in-Some-clause-fits g c =
    omega (arith, c.push_index.ensures.fits, ap length c.push_known.ensures, length-append c.args.line.now (codes " "))

pub returns-in-None-clause-fits : goal.returns-in-None-clause-fits
returns-in-None-clause-fits g c =
    omega (
      arith,
      ap length c.push_known-in-None.ensures,
      length-append c.push_known.new.self (codes "-"),
      ap length c.push_known.ensures,
      length-append c.args.line.now (codes " "),
    )
