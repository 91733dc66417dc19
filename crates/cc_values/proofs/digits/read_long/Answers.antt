use Rattle.std.proofs.Common.{arith, ◌≡◌, length, take, length-take, sym, refl, ◌∙◌}
use Rattle.cc_values.proofs.EightLemmas.{split_missed, sixteen_digits_fit}
use Rattle.cc_values.proofs.digits.read_long.Goals as goal

pub read_eights-requires-clause-eights : goal.read_eights-requires-clause-eights
read_eights-requires-clause-eights c = omega (arith, length-take 16 c.args.digits.now, c.requires.long)

pub read_eights-requires-clause-fits : goal.read_eights-requires-clause-fits
read_eights-requires-clause-fits c =
    let sized : length (take 16 c.args.digits.now) ≡ 16 = omega (arith, length-take 16 c.args.digits.now, c.requires.long) in
    rw sized (sixteen_digits_fit c.args.radix c.requires.radix)

pub returns-in-None : goal.returns-in-None
returns-in-None c =
    rw (← split_missed c.args.radix 16 c.args.digits.now (omega (arith, c.requires.long)) (sym c.in-None.is ∙ c.read_eights.ensures)) refl
