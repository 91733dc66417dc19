use Rattle.std.proofs.Common.{rules, ◌≡◌, ap, sym}
use Rattle.cc_replay.specs.Deeds.{told_deeds}
use Rattle.cc_replay.specs.Script.{ScriptState}
use Rattle.cc_replay.proofs.ScriptLemmas.{happened_deeds, happened_kept, made_few}
use Rattle.cc_replay.proofs.script.Script.happen.Goals as goal

pub invariant_of-self-2 : goal.invariant_of-self-2
invariant_of-self-2 g c =
    happened_kept c.args.self.now c.self.inside.heap c.args.event c.in_ok-outcome.outcome c.event.new.self
    (sym (ap (λ (s : ScriptState). s.heap) c.self.view_is)) c.self.invariant c.requires.can c.in_ok-outcome.ensures.is_event

pub returns-clause-does : goal.returns-clause-does
returns-clause-does g c =
    let deeds_are : c.deeds_of.result ≡ told_deeds c.self.inside.heap c.args.event c.in_ok-outcome.outcome c.event.new.self =
    search rules in
    happened_deeds c.args.self.now c.self.inside.heap c.args.event c.in_ok-outcome.outcome c.event.new.self c.deeds_of.result
    (sym (ap (λ (s : ScriptState). s.heap) c.self.view_is)) c.self.invariant c.requires.can c.in_ok-outcome.ensures.is_event deeds_are

pub returns-clause-few : goal.returns-clause-few
returns-clause-few g c =
    let deeds_are : c.deeds_of.result ≡ told_deeds c.self.inside.heap c.args.event c.in_ok-outcome.outcome c.event.new.self =
    search rules in
    (happened_deeds c.args.self.now c.self.inside.heap c.args.event c.in_ok-outcome.outcome c.event.new.self c.deeds_of.result
    (sym (ap (λ (s : ScriptState). s.heap) c.self.view_is)) c.self.invariant c.requires.can c.in_ok-outcome.ensures.is_event deeds_are).few

pub returns-clause-made : goal.returns-clause-made
returns-clause-made g c =
    let deeds_are : c.deeds_of.result ≡ told_deeds c.args.self.now.heap c.args.event c.in_ok-outcome.outcome c.event.new.self =
    search rules in
    made_few c.args.self.now c.args.event c.in_ok-outcome.outcome c.event.new.self c.deeds_of.result c.requires.can deeds_are
