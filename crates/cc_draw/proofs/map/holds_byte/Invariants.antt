use Rattle.std.proofs.Common.{◌≡◌, ◌<◌, ℕ, get_or}
use Rattle.cc_bounds.specs.Span.{SharesByte}
use Rattle.cc_plan.specs.PlannedObject.{PlannedObject}
use Rattle.cc_draw.proofs.map.holds_byte.Given as goal

abbrev pub invariant-loop-object : goal.invariant-loop-object
invariant-loop-object l =
    (index : ℕ) (none : PlannedObject) → index < l.object-index → (get_or l.objects index none).state ≡ l.state
    → SharesByte (get_or l.objects index none).span (record { base = l.cell.first; top = l.cell.end }) → ⊥
