use Rattle.std.proofs.Common.{◌≡◌, ◌+◌, ◌-◌, ◌/◌, ◌%◌, ◌^◌, arith, ◌∙◌}
use Rattle.std.proofs.lemmas.Nat.{and_mask}
use Rattle.cc_machine.proofs.searching.step_if_below.Goals as goal

pub returns-clause-below : goal.returns-clause-below
returns-clause-below c less =
    let fits = c.ranges.step.fits in
    let value = c.from.ensures in
    let limit = c.from-2.ensures in
    let ones : (c.from.result + (2 ^ 128 - c.from-2.result)) % 2 ^ 128 / 2 ^ 64 ≡ 2 ^ 64 - 1 = omega (arith, value, limit, less, c.ranges.value.fits, c.ranges.limit.fits) in
    rw ones (and_mask c.args.step 64 ∙ omega (arith, fits))
