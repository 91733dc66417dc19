use Rattle.std.proofs.Common.{refl}
use Rattle.cc_laws.specs.WorkedTrace.{worked_reading, worked_settings, worked_trace}
use Rattle.cc_laws.proofs.OneReplayLemmas.{some_replay}
use Rattle.cc_laws.proofs.TraceWitnessLemmas.{reads, runs}
use Rattle.cc_laws.proofs.traces_witnesses.a_machine_that_runs_the_script.Goals as goal

pub returns-clause-reads : goal.returns-clause-reads
returns-clause-reads c = reads

pub returns-clause-runs : goal.returns-clause-runs
returns-clause-runs c = runs

pub returns-clause-replay : goal.returns-clause-replay
returns-clause-replay c =
    let replay = some_replay worked_settings worked_reading worked_trace in
    (replay.output, replay.any_error, replay.new, replay.is, replay.runs refl)
