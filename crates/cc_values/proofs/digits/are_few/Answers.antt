use Rattle.std.proofs.Common.{length, arith}
use Rattle.std.proofs.lemmas.Bool.{leb-true, leb-false}
use Rattle.cc_values.proofs.EightLemmas.{sixteen_fit}
use Rattle.cc_values.proofs.digits.are_few.Goals as goal

pub returns-then-radix-eq16-clause-few : goal.returns-then-radix-eq16-clause-few
returns-then-radix-eq16-clause-few c = λ few. sixteen_fit c.args.radix (length c.args.digits.now) c.if-radix-eq16.true (leb-true (length c.args.digits.now) 16 few)

pub returns-then-radix-eq16-clause-many : goal.returns-then-radix-eq16-clause-many
returns-then-radix-eq16-clause-many c = λ more. omega (arith, leb-false (length c.args.digits.now) 16 more)

pub returns-else-radix-eq16-clause-many : goal.returns-else-radix-eq16-clause-many
returns-else-radix-eq16-clause-many c = λ more. omega (arith, leb-false (length c.args.digits.now) 19 more)
