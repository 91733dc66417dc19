use Rattle.cc_laws.proofs.StepTotalLemmas.{Run-outcome}
use Rattle.cc_laws.proofs.machine_laws.every_run_has_an_outcome.Goals as goal

pub returns : goal.returns
returns c state ops reached fit =
    let outcome = Run-outcome state ops reached fit in (outcome.replies, outcome.new, outcome.run)
