use Rattle.std.proofs.Common.{arith, decimal, sym}
use Rattle.cc_io.proofs.DecimalLemmas.{in_two, last_pair}
use Rattle.cc_io.proofs.page.Page.push_large_index.Goals as goal

pub returns-clause-value : goal.returns-clause-value
returns-clause-value g c =
    let number = c.args.number in
    let digits = last_pair number (omega (arith, c.requires.large)) (omega (arith, c.if-number-ge100000000.false)) in
    rw (c.push_pair.ensures.value, c.push_middle_index.ensures.value)
    (in_two c.args.self.now _ _ (decimal number) (sym digits))
