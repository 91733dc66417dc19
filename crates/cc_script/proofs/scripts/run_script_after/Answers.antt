use Rattle.std.proofs.Common.{◌≡◌, rules, subst}
use Rattle.cc_machine.specs.State.{State}
use Rattle.cc_script.specs.Failures.{RunsScript, StopsInReply}
use Rattle.cc_script.specs.Main.{io_of}
use Rattle.cc_script.proofs.WholeLineLemmas.{runs_one}
use Rattle.cc_script.proofs.scripts.run_script_after.Goals as goal

pub returns-clause-runs : goal.returns-clause-runs
returns-clause-runs g c =
    let same : c.run_session.new.session.machine.now ≡ c.machine-1.given.0 = search rules in
    subst (λ (machine : State). RunsScript StopsInReply c.args.opening.now (io_of c.args.machine.now (g.R.Source.state c.args.source.now) (g.W.Sink.state c.args.sink.now))
    c.run_session.result (io_of machine (g.R.Source.state c.run_session.new.source) (g.W.Sink.state c.run_session.new.sink))) same (runs_one _ _ _ _ _ c.run_session.ensures.runs)
