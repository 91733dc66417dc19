use Rattle.std.proofs.Common.{arith, ap, length, length-append}
use Rattle.cc_decode.proofs.AnnotatorLemmas.{pushes_line, pushes_none}
use Rattle.cc_decode.proofs.annotator.push_run.Goals as goal

pub returns-in-Some-clause-run : goal.returns-in-Some-clause-run
returns-in-Some-clause-run c =
    pushes_line c.args.before.now c.args.run.now c.args.out.now c.push.new.self c.push_byte.new.batch c.push_row.new.batch c.in-Some.word c.push.ensures c.push_byte.ensures.value
    c.push_row.ensures.row c.in-Some.ensures.word

pub returns-in_default-clause-run : goal.returns-in_default-clause-run
returns-in_default-clause-run c = pushes_none c.args.before.now c.args.run.now c.args.out.now c.push.new.self c.push.ensures c.in_default.ensures.none

-- The page is longer by the run, a space and a row.
pub push_byte-requires : goal.push_byte-requires
push_byte-requires c = omega (arith, ap length c.push.ensures, length-append c.args.out.now c.args.run.now, c.requires.short, c.requires.room)

pub push_row-requires : goal.push_row-requires
push_row-requires c =
    omega (arith, c.push_byte.ensures.fits, ap length c.push.ensures, length-append c.args.out.now c.args.run.now, c.requires.short, c.requires.room)

pub returns-in-Some-clause-fits : goal.returns-in-Some-clause-fits
returns-in-Some-clause-fits c =
    omega (arith, c.push_row.ensures.fits, c.push_byte.ensures.fits, ap length c.push.ensures, length-append c.args.out.now c.args.run.now, c.requires.short)

pub returns-in_default-clause-fits : goal.returns-in_default-clause-fits
returns-in_default-clause-fits c = omega (arith, ap length c.push.ensures, length-append c.args.out.now c.args.run.now, c.requires.short)
