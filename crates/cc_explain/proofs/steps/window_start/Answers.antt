use Rattle.std.proofs.Common.{◌∙◌, ap}
use Rattle.cc_bounds.specs.Window.{section_of}
use Rattle.cc_explain.proofs.StepLemmas.{window_start-is}
use Rattle.cc_explain.proofs.steps.window_start.Goals as goal

pub returns : goal.returns
returns c =
    let is_section = c.section-section.ensures.value ∙ ap section_of c.requires in
    window_start-is c.args.fields.now c.section-section.result is_section c.from.result c.from-address.result
    (c.from.ensures ∙ c.first_section.ensures) c.from-address.ensures
