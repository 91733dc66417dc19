use Rattle.std.proofs.Common.{arith, decimal, sym}
use Rattle.cc_io.proofs.DecimalLemmas.{in_two, three_of_pairs, two_pairs}
use Rattle.cc_io.proofs.page.Page.push_index.Goals as goal

pub returns-then-number-lt1000-clause-value : goal.returns-then-number-lt1000-clause-value
returns-then-number-lt1000-clause-value g c =
    let number = c.args.number in
    let digits = three_of_pairs number (omega (arith, c.if-number-lt100.false)) (omega (arith, c.if-number-lt1000.true)) in
    rw (c.push_pair-then-number-lt1000.ensures.value, c.push_second_digit-then-number-lt1000.ensures.value)
    (in_two c.args.self.now _ _ (decimal number) (sym digits))

pub returns-clause-value : goal.returns-clause-value
returns-clause-value g c =
    let number = c.args.number in
    let digits = two_pairs number (omega (arith, c.if-number-lt1000.false)) (omega (arith, c.if-number-ge10000.false)) in
    rw (c.push_pair-3.ensures.value, c.push_pair-2.ensures.value)
    (in_two c.args.self.now _ _ (decimal number) (sym digits))
