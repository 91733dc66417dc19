use Rattle.std.proofs.Common.{arith, decimal, sym}
use Rattle.cc_io.proofs.DecimalLemmas.{in_three, five_of_pairs, three_pairs}
use Rattle.cc_io.proofs.page.Page.push_middle_index.Goals as goal

pub returns-then-number-lt100000-clause-value : goal.returns-then-number-lt100000-clause-value
returns-then-number-lt100000-clause-value g c =
    let number = c.args.number in
    let digits = five_of_pairs number c.requires.long (omega (arith, c.if-number-lt100000.true)) in
    rw (c.push_pair-then-number-lt100000.ensures.value, c.push_pair.ensures.value, c.push_second_digit.ensures.value, c.second_pair-pair.ensures.value)
    (in_three c.args.self.now _ _ _ (decimal number) (sym digits))

pub returns-clause-value : goal.returns-clause-value
returns-clause-value g c =
    let number = c.args.number in
    let digits = three_pairs number (omega (arith, c.if-number-lt100000.false)) c.requires.short in
    rw (c.push_pair-4.ensures.value, c.push_pair-3.ensures.value, c.push_pair-2.ensures.value, c.second_pair-pair.ensures.value)
    (in_three c.args.self.now _ _ _ (decimal number) (sym digits))
