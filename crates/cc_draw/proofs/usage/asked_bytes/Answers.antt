use Rattle.std.proofs.Common.{◌≡◌, ◌+◌, ◌∷◌, ◌∙◌, List, ap, arith, false, filter, refl, sym, true}
use Rattle.std.proofs.lemmas.List.Sums.{sum_by-cons}
use Rattle.cc_plan.specs.Plan.{is_held}
use Rattle.cc_plan.specs.PlannedObject.{PlannedObject}
use Rattle.cc_draw.specs.Usage.{asked_bytes_of}
use Rattle.cc_draw.proofs.usage.asked_bytes.Goals as goal

-- A held object adds its size, and another one nothing.
asked_more : (object : PlannedObject) (rest : List PlannedObject) → is_held object.state ≡ true → asked_bytes_of (object ∷ rest) ≡ object.size + asked_bytes_of rest
asked_more object rest held = rw held (sum_by-cons (λ object. object.size) object (filter (λ object. is_held object.state) rest))

asked_same : (object : PlannedObject) (rest : List PlannedObject) → is_held object.state ≡ false → asked_bytes_of (object ∷ rest) ≡ asked_bytes_of rest
asked_same object rest swept = rw swept refl

pub overflow_add-asked : goal.overflow_add-asked
overflow_add-asked c =
    let more = ap (λ (objects : List PlannedObject). asked_bytes_of objects) c.in-Some.ensures.cases.0
    ∙ asked_more c.in-Some.object.now c.in-Some.after.now (sym c.is_held.ensures ∙ c.if-is_held.true) in
    omega (arith, more, c.objects.invariant, c.requires)

pub objects-preserved-then-is_held : goal.objects-preserved-then-is_held
objects-preserved-then-is_held c =
    let more = ap (λ (objects : List PlannedObject). asked_bytes_of objects) c.in-Some.ensures.cases.0
    ∙ asked_more c.in-Some.object.now c.in-Some.after.now (sym c.is_held.ensures ∙ c.if-is_held.true) in
    omega (arith, more, c.objects.invariant)

pub objects-preserved : goal.objects-preserved
objects-preserved c =
    let same = ap (λ (objects : List PlannedObject). asked_bytes_of objects) c.in-Some.ensures.cases.0
    ∙ asked_same c.in-Some.object.now c.in-Some.after.now (sym c.is_held.ensures ∙ c.if-is_held.false) in
    omega (arith, same, c.objects.invariant)
