use Rattle.cc_decode.proofs.RunLemmas.{run_begun, run_split, run_split_not}
use Rattle.cc_decode.proofs.runs.RunsFraming.split.Goals as goal

pub returns-clause-ends : goal.returns-clause-ends
returns-clause-ends c begun is =
    run_split c.args.start.now begun c.args.text.now c.split_run.result is c.requires c.split_run.ensures.whole c.split_run.ensures.entry

pub returns-clause-none : goal.returns-clause-none
returns-clause-none c begun is = run_split_not c.args.start.now begun c.args.text.now c.split_run.result is c.requires c.split_run.ensures.none

pub returns-clause-begun : goal.returns-clause-begun
returns-clause-begun c = run_begun c.args.start.now c.args.text.now c.split_run.result c.split_run.ensures.none
