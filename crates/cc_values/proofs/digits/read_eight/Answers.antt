use Rattle.std.proofs.Common.{◌≡◌, ℕ, Option, Some, None, refl}
use Rattle.cc_values.specs.Digits.{number_further}
use Rattle.cc_values.proofs.EightLemmas.{hexadecimal_known, hexadecimal_missed}
use Rattle.cc_values.proofs.digits.read_eight.Goals as goal

pub returns-then-radix-eq16 : goal.returns-then-radix-eq16
returns-then-radix-eq16 c = rw c.if-radix-eq16.true (by c.read_quarter.result refl) where
  by : (r : Option ℕ) → c.read_quarter.result ≡ r → r ≡ number_further 16 0 c.args.digits.now
  by (Some v) e =
      let found = rw e at c.read_quarter.ensures in
      hexadecimal_known c.args.digits.now v c.fits-digits (found.found.0 refl) found.value
  by None e =
      let found = rw e at c.read_quarter.ensures in
      hexadecimal_missed c.args.digits.now c.fits-digits (λ passes. cc (found.found.1 passes))
