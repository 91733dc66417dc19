use Rattle.std.proofs.Common.{◌≡◌, ◌≤◌, List, ap, arith, length, subst}
use Rattle.std.proofs.lemmas.List.Sorted.{length_permutation}
use Rattle.cc_plan.specs.PlannedObject.{PlannedObject}
use Rattle.cc_plan.specs.Plan.{plan_spans}
use Rattle.cc_bounds.specs.declared.span.Span.{Span}
use Rattle.cc_draw.specs.Usage.{asked_bytes_of}
use Rattle.cc_draw.proofs.UsageLemmas.{asked_fit, few_spans, held_fit}
use Rattle.cc_draw.proofs.usage.usage_of.Goals as goal

pub holes_beside-holes-requires : goal.holes_beside-holes-requires
holes_beside-holes-requires g c =
    let objects : c.objects-objects.result.now ≡ c.args.planner.now.objects = c.objects-objects.ensures.value in
    let few : length c.args.planner.now.objects ≤ 65536 = subst (λ (l : List PlannedObject). length l ≤ 65536) objects c.objects-objects.ensures.few in
    let all = length_permutation (plan_spans c.objects-objects.result.now) c.in_ok-order.order.items c.in_ok-order.ensures.same in
    let same : length (plan_spans c.objects-objects.result.now) ≡ length (plan_spans c.args.planner.now.objects) = ap (λ (l : List PlannedObject). length (plan_spans l)) objects in
    let slice : length c.as_slice.result.now ≡ length c.in_ok-order.order.items = ap (λ (l : List Span). length l) c.as_slice.ensures.value in
    omega (arith, all, same, slice, few_spans c.args.planner.now c.objects-objects.ensures.exact_objects few)

pub asked_bytes-requires : goal.asked_bytes-requires
asked_bytes-requires g c =
    let objects : c.objects-objects.result.now ≡ c.args.planner.now.objects = c.objects-objects.ensures.value in
    let few : length c.args.planner.now.objects ≤ 65536 = subst (λ (l : List PlannedObject). length l ≤ 65536) objects c.objects-objects.ensures.few in
    let same : asked_bytes_of c.objects-objects.result.now ≡ asked_bytes_of c.args.planner.now.objects = ap (λ (l : List PlannedObject). asked_bytes_of l) objects in
    omega (arith, same, asked_fit c.args.planner.now c.objects-objects.ensures.exact_objects few)

pub returns-clause-fits : goal.returns-clause-fits
returns-clause-fits g c =
    let objects : c.objects-objects.result.now ≡ c.args.planner.now.objects = c.objects-objects.ensures.value in
    let few : length c.args.planner.now.objects ≤ 65536 = subst (λ (l : List PlannedObject). length l ≤ 65536) objects c.objects-objects.ensures.few in
    omega (arith, c.held_bytes.ensures.value, held_fit c.args.planner.now c.objects-objects.ensures.exact_objects few)
