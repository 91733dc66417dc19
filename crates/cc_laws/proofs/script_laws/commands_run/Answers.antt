use Rattle.cc_script.proofs.RunLemmas.{commands_run, commands_reach}
use Rattle.cc_laws.proofs.script_laws.commands_run.Goals as goal

pub returns-clause-run : goal.returns-clause-run
returns-clause-run c = commands_run

pub returns-clause-reached : goal.returns-clause-reached
returns-clause-reached c = commands_reach
