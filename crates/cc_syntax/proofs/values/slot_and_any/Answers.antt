use Rattle.std.proofs.Common.{◌∙◌, ap}
use Rattle.cc_values.specs.Values.{both}
use Rattle.cc_syntax.proofs.SlotLemmas.{slot_then}
use Rattle.cc_syntax.proofs.values.slot_and_any.Goals as goal

pub returns-in-Some : goal.returns-in-Some
returns-in-Some g c =
    c.both.ensures
    ∙ ap (both c.in-Some.slot) c.read.ensures
    ∙ slot_then g.V.Value.value_in c.args.text.now c.in-Some.slot c.in-Some.rest.now c.in-Some.ensures.some
