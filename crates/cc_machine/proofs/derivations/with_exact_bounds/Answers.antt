use Rattle.std.proofs.Common.{◌≡◌}
use Rattle.cc_cap.specs.Derivation.{SetsExactBounds}
use Rattle.cc_machine.specs.State.{SlotState, tagged_slot}
use Rattle.cc_machine.specs.Owners.{parent_of}
use Rattle.cc_machine.proofs.StepLemmas.{OnSlot-usable, usable-told}
use Rattle.cc_machine.proofs.derivations.with_exact_bounds.Goals as goal

pub returns : goal.returns
returns c =
    let same : c.get.result ≡ c.args.length = c.get.ensures.value in
    let slot : SlotState = tagged_slot c.in_ok-usable.field-0.capability (parent_of c.in_ok-usable.field-0) in
    OnSlot-usable c.args.machine.now.slots c.args.number c.set_bounds_exact.result slot
    (λ cap. SetsExactBounds cap c.args.length c.set_bounds_exact.result)
    (usable-told c.args.machine.now.slots c.args.number c.usable.result c.in_ok-usable.field-0 c.usable.ensures c.in_ok-usable.was)
    (rw same at c.set_bounds_exact.ensures.made)
