use Rattle.cc_io.proofs.DigitLemmas.{first_of_two, second_of_two}
use Rattle.cc_syntax.proofs.printing.digits_of_rights.Goals as goal

pub returns-clause-perms : goal.returns-clause-perms
returns-clause-perms c =
    rw (c.write_half.ensures, c.from.ensures, c.from-2.ensures) (first_of_two c.args.perms c.args.otype c.ranges.otype.fits)

pub returns-clause-otype : goal.returns-clause-otype
returns-clause-otype c =
    rw (c.write_half.ensures, c.from.ensures, c.from-2.ensures) (second_of_two c.args.perms c.args.otype)
