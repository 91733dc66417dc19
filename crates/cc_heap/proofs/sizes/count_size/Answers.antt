use Rattle.std.proofs.Common.{◌≡◌, ◌∙◌, ◌+◌, ◌*◌, ◌^◌, ◌<◌, ◌≤◌, arith, ap, set, zero}
use Rattle.cc_heap.specs.declared.sizes.SizeTotals.{SizeTotals}
use Rattle.cc_heap.proofs.SizeLemmas.{sized_at}
use Rattle.cc_heap.proofs.sizes.count_size.Goals as goal

pub returns : goal.returns
returns c =
    let power = c.ilog2-power.result in
    let same : power ≡ zero + power = omega arith in
    let from : 2 ^ (zero + power) ≤ c.args.size = rw same at c.ilog2-power.ensures.power_le in
    let below : c.args.size < 2 * 2 ^ (zero + power) = rw same at c.ilog2-power.ensures.next_power_gt in
    ap (λ (row : SizeTotals). set c.args.rows.now power row) c.with_object.ensures
    ∙ sized_at 0 power c.args.size c.args.padded c.args.rows.now _ from below
    (omega (arith, c.told-rows, c.ilog2-power.ensures.bound))
