use Rattle.std.proofs.Common.{ℕ, ◌∙◌, ◌^◌, ap, min, arith}
use Rattle.cc_heap.proofs.AxisLemmas.{zeros_of}
use Rattle.cc_heap.proofs.axes.decade.Goals as goal

pub returns-clause-value : goal.returns-clause-value
returns-clause-value c =
    let zeros = zeros_of c.ilog10.result c.args.events c.ranges.events.fits
    (omega (arith, c.ilog10.ensures.power_le, c.max.ensures)) (omega (arith, c.ilog10.ensures.next_power_gt, c.max.ensures)) in
    c.power_of_ten.ensures.value ∙ ap (λ (n : ℕ). 10 ^ n) (c.min.ensures ∙ ap (λ (n : ℕ). min n 30) zeros)
