use Rattle.std.proofs.Common.{◌∙◌, ap}
use Rattle.cc_values.specs.Values.{both}
use Rattle.cc_syntax.proofs.SlotLemmas.{slot_then_perhaps}
use Rattle.cc_syntax.proofs.values.slot_and_perhaps.Goals as goal

pub returns-in-Some : goal.returns-in-Some
returns-in-Some g c =
    c.both.ensures
    ∙ ap (both c.in-Some.slot) c.read.ensures
    ∙ slot_then_perhaps c.args.usual g.V.Value.value_in c.args.text.now c.in-Some.slot c.in-Some.rest.now c.in-Some.ensures.some
