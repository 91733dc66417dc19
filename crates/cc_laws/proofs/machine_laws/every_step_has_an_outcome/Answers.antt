use Rattle.cc_laws.proofs.StepTotalLemmas.{Step-outcome}
use Rattle.cc_laws.proofs.machine_laws.every_step_has_an_outcome.Goals as goal

pub returns : goal.returns
returns c state op reached fits =
    let outcome = Step-outcome state op reached fits in (outcome.reply, outcome.new, outcome.leads)
