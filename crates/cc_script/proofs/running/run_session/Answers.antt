use Rattle.std.proofs.Common.{refl}
use Rattle.cc_script.proofs.RunLemmas.{laws_after}
use Rattle.cc_script.proofs.RunningLemmas.{stops_in_opening}
use Rattle.cc_script.proofs.SessionLemmas.{runs_session, same_machine}
use Rattle.cc_script.proofs.running.run_session.Goals as goal

pub returns-in-Err-clause-runs : goal.returns-in-Err-clause-runs
returns-in-Err-clause-runs g c =
    let stops = stops_in_opening _ _ _ _ c.slots.ensures.reached refl c.in-Err.ensures.err in
    record { main = stops.main; fails = stops.fails; counts = tt }

pub returns-in-Ok-pump-clause-runs : goal.returns-in-Ok-pump-clause-runs
returns-in-Ok-pump-clause-runs g c =
    runs_session _ _ _ _ _ _ _ _ _ _ _ _ _ _ c.slots.ensures.reached c.requires.fresh c.in-Ok.ensures.ok c.in-Ok-pump.ensures.pumps

pub returns-in-Err-pump-clause-runs : goal.returns-in-Err-pump-clause-runs
returns-in-Err-pump-clause-runs g c =
    runs_session _ _ _ _ _ _ _ _ _ _ _ _ _ _ c.slots.ensures.reached c.requires.fresh c.in-Ok.ensures.ok c.in-Err-pump.ensures.pumps

pub returns-in-Ok-pump-clause-same : goal.returns-in-Ok-pump-clause-same
returns-in-Ok-pump-clause-same g c = same_machine _ _ _ _ _ _ _ _ _ c.in-Ok-pump.ensures.pumps

pub returns-in-Err-pump-clause-same : goal.returns-in-Err-pump-clause-same
returns-in-Err-pump-clause-same g c = same_machine _ _ _ _ _ _ _ _ _ c.in-Err-pump.ensures.pumps

pub returns-in-Err-clause-laws : goal.returns-in-Err-clause-laws
returns-in-Err-clause-laws g c =
    let stops = stops_in_opening _ _ (record { machine = _; unread = (g.R.Source.state c.args.source.now).unread; taken = _ }) _ c.slots.ensures.reached refl c.in-Err.ensures.err in
    laws_after _ _ _ c.slots.ensures.reached stops.main.ends

pub returns-in-Ok-pump-clause-laws : goal.returns-in-Ok-pump-clause-laws
returns-in-Ok-pump-clause-laws g c =
    laws_after _ _ _ c.slots.ensures.reached
    (runs_session _ _ _ _ _ _ _ _ _ _ _ _ _ _ c.slots.ensures.reached c.requires.fresh c.in-Ok.ensures.ok c.in-Ok-pump.ensures.pumps).main.ends

pub returns-in-Err-pump-clause-laws : goal.returns-in-Err-pump-clause-laws
returns-in-Err-pump-clause-laws g c =
    laws_after _ _ _ c.slots.ensures.reached
    (runs_session _ _ _ _ _ _ _ _ _ _ _ _ _ _ c.slots.ensures.reached c.requires.fresh c.in-Ok.ensures.ok c.in-Err-pump.ensures.pumps).main.ends
