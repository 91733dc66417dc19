use Rattle.cc_machine.proofs.OutcomeLemmas.{Step-one, Run-one}
use Rattle.cc_laws.proofs.machine_laws.one_outcome.Goals as goal

pub returns-clause-step : goal.returns-clause-step
returns-clause-step c old new other op reply other_reply step other_step =
    let same = Step-one old new other op reply other_reply step other_step in (same.reply_same, same.state_same)

pub returns-clause-run : goal.returns-clause-run
returns-clause-run c old new other ops replies other_replies run other_run =
    let same = Run-one old new other ops replies other_replies run other_run in (same.replies_same, same.state_same)
