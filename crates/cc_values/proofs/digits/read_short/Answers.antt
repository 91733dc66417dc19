use Rattle.std.proofs.Common.{arith, length, sym, ◌%◌, ◌∙◌}
use Rattle.std.proofs.lemmas.List.{length-drop}
use Rattle.cc_values.proofs.EightLemmas.{split_known, split_missed, split_fits, tail_whole}
use Rattle.cc_values.proofs.digits.read_short.Goals as goal

pub read_eights-requires-clause-eights : goal.read_eights-requires-clause-eights
read_eights-requires-clause-eights c =
    let digits = c.args.digits.now in
    rw (tail_whole (length digits % 8) digits) (omega (arith, length-drop (length digits % 8) digits))

pub read_eights-requires-clause-fits : goal.read_eights-requires-clause-fits
read_eights-requires-clause-fits c =
    let digits = c.args.digits.now in
    rw (tail_whole (length digits % 8) digits)
    (split_fits c.args.radix (length digits % 8) c.in-Some.first digits (omega arith) c.requires.fits (sym c.in-Some.is ∙ c.read_first.ensures))

pub returns-in-Some : goal.returns-in-Some
returns-in-Some c =
    let digits = c.args.digits.now in
    c.read_eights.ensures
    ∙ rw (tail_whole (length digits % 8) digits)
    (split_known c.args.radix (length digits % 8) c.in-Some.first digits c.requires.some (sym c.in-Some.is ∙ c.read_first.ensures))

pub returns-in-None : goal.returns-in-None
returns-in-None c =
    let digits = c.args.digits.now in
    split_missed c.args.radix (length digits % 8) digits c.requires.some (sym c.in-None.is ∙ c.read_first.ensures)
