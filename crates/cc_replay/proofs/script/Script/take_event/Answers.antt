use Rattle.std.proofs.Common.{rules, ◌≡◌, ap, false}
use Rattle.cc_replay.specs.declared.reading.Progress.TheVariants.{Stopped}
use Rattle.cc_replay.specs.Script.{ScriptState, can_have}
use Rattle.cc_replay.proofs.ScriptLemmas.{event_ends}
use Rattle.cc_replay.proofs.script.Script.take_event.Goals as goal

pub returns-then-not-can_have : goal.returns-then-not-can_have
returns-then-not-can_have g c =
    let cannot : can_have c.args.self.now c.args.event ≡ false = search rules in
    event_ends c.args.self.now c.args.event c.args.out.now cannot
    (ap (λ (s : ScriptState). record s { progress = Stopped }) c.self.view_is)
