use Rattle.std.proofs.Common.{◌≡◌, ◌∙◌, IfOk, IfSome, None, Ok, Option, Result, Some, ap, false, rules, subst}
use Rattle.cc_heap.specs.declared.event.Event.{Event}
use Rattle.cc_heap.specs.Alignment.{HasAlignment}
use Rattle.cc_word.specs.declared.refusal.Refusal.{Refusal}
use Rattle.cc_replay.specs.Counts.{with_failure}
use Rattle.cc_replay.specs.Replay.{ReplayState, replaying}
use Rattle.cc_replay.specs.Taking.{AppendsEntry}
use Rattle.cc_replay.proofs.ReplayLemmas.{event_entry, passed_entry, state_of}
use Rattle.cc_replay.proofs.replay.Replay.take_entry.Goals as goal

pub take_event-requires : goal.take_event-requires
take_event-requires g c =
    let is : c.args.entry.event ≡ Ok (Some c.in-Ok-Some.event) = search rules in
    (search rules, (subst (λ (e : Result (Option Event) Refusal). IfOk e (λ event. IfSome event HasAlignment)) is c.requires.aligned, c.requires.room))

pub returns-in-Ok-Some : goal.returns-in-Ok-Some
returns-in-Ok-Some g c =
    let inside = c.self.inside in
    let is : c.args.entry.event ≡ Ok (Some c.in-Ok-Some.event) = search rules in
    subst (λ (old : ReplayState). AppendsEntry replaying old c.args.entry c.args.out.now c.take_event.new.out c.take_event.result c.take_event.new.self) c.self.view_is
    (event_entry (state_of inside.run inside.reading inside.counts inside.pending inside.time inside.progress inside.is_sampled) c.args.entry c.in-Ok-Some.event
    c.with_failure-self-inside.result c.args.out.now c.take_event.new.out c.take_event.result c.take_event.new.self is
    (c.with_failure-self-inside.ensures ∙ ap (with_failure c.args.entry.is_failure) c.with_line.ensures) c.take_event.ensures)

pub returns-in-Ok-None : goal.returns-in-Ok-None
returns-in-Ok-None g c =
    let inside = c.self.inside in
    let is : c.args.entry.event ≡ Ok None = search rules in
    subst (λ (old : ReplayState). AppendsEntry replaying old c.args.entry c.args.out.now c.args.out.now false
    (state_of inside.run inside.reading c.with_failure-self-inside.result c.args.entry.pending inside.time inside.progress inside.is_sampled)) c.self.view_is
    (passed_entry (state_of inside.run inside.reading inside.counts inside.pending inside.time inside.progress inside.is_sampled) c.args.entry
    c.with_failure-self-inside.result c.args.out.now is (c.with_failure-self-inside.ensures ∙ ap (with_failure c.args.entry.is_failure) c.with_line.ensures))
