-- The bytes of a plan's objects fit into 128-bit numbers.
use Rattle.std.proofs.Common.{◌≤◌, ◌^◌, arith, length}
use Rattle.std.specs.Prelude.{filter}
use Rattle.std.proofs.lemmas.List.{length-map}
use Rattle.std.proofs.lemmas.List.Elements.{All-filter, All-map, All-weaker}
use Rattle.std.proofs.lemmas.List.Sums.{count_by-le-length, length-filter, sum_by-le}
use Rattle.cc_bounds.specs.declared.span.Span.{Span}
use Rattle.cc_bounds.specs.Span.{length_of}
use Rattle.cc_plan.specs.PlannedObject.{PlannedObject}
use Rattle.cc_plan.specs.Plan.{HasExactBounds, HaveExactBounds, Plan, plan_bytes, plan_spans, is_held}
use Rattle.cc_draw.specs.Usage.{asked_bytes_of}

module _ (plan : Plan) (exact : HaveExactBounds plan) (few : length plan.objects ≤ 65536) where
  few_held : length (filter (λ (object : PlannedObject). is_held object.state) plan.objects) ≤ 65536
  few_held =
      let count = count_by-le-length (λ (object : PlannedObject). is_held object.state) plan.objects in
      let same = length-filter (λ (object : PlannedObject). is_held object.state) plan.objects in
      omega (arith, few, count, same)

  short : (object : PlannedObject) → HasExactBounds plan.align object → (object.size ≤ 2 ^ 64) × (length_of object.span ≤ 2 ^ 64)
  short object is = (omega (arith, is.at_least, is.is_span.top_fits), omega (arith, is.is_span.top_fits))

  -- The number of requested bytes.
  pub asked_fit : asked_bytes_of plan.objects ≤ 2 ^ 80
  asked_fit =
      let each = All-weaker (HasExactBounds plan.align) (λ object. object.size ≤ 2 ^ 64) (λ object is. (short object is).0) plan.objects exact.each in
      let sum = sum_by-le (λ (object : PlannedObject). object.size) (2 ^ 64) (filter (λ (object : PlannedObject). is_held object.state) plan.objects)
      (All-filter (λ (object : PlannedObject). is_held object.state) (λ object. object.size ≤ 2 ^ 64) plan.objects each) in
      omega (arith, few_held, sum)

  -- The number of held bytes.
  pub held_fit : plan_bytes plan.objects ≤ 2 ^ 80
  held_fit =
      let each = All-weaker (HasExactBounds plan.align) (λ object. length_of object.span ≤ 2 ^ 64) (λ object is. (short object is).1) plan.objects exact.each in
      let kept = All-filter (λ (object : PlannedObject). is_held object.state) (λ object. length_of object.span ≤ 2 ^ 64) plan.objects each in
      let spans = All-map (λ (span : Span). length_of span ≤ 2 ^ 64) (λ (object : PlannedObject). object.span) (filter (λ (object : PlannedObject). is_held object.state) plan.objects) kept in
      let sum = sum_by-le (λ (span : Span). length_of span) (2 ^ 64) (plan_spans plan.objects) spans in
      let count = length-map (filter (λ (object : PlannedObject). is_held object.state) plan.objects) (λ (object : PlannedObject). object.span) in
      omega (arith, few_held, sum, count)

  -- A plan has at most 65,536 held spans.
  pub few_spans : length (plan_spans plan.objects) ≤ 65536
  few_spans =
      let count = length-map (filter (λ (object : PlannedObject). is_held object.state) plan.objects) (λ (object : PlannedObject). object.span) in
      omega (arith, few_held, count)
