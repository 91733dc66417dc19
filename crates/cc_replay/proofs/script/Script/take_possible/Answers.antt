use Rattle.std.proofs.Common.{rules, ◌≡◌, ◌<◌, ◌++◌, IfSome, refl, ap, sym, subst, ◌∙◌}
use Rattle.cc_heap.specs.Events.{IsEvent}
use Rattle.cc_heap.specs.Heap.{Heap}
use Rattle.cc_heap.specs.declared.policy.Policy.{Policy}
use Rattle.cc_heap.specs.declared.settings.Settings.{Settings}
use Rattle.cc_replay.specs.Reading.{progress_after}
use Rattle.cc_heap.specs.Outcomes.{is_refused}
use Rattle.cc_replay.specs.declared.reading.Reading.{Reading}
use Rattle.cc_replay.specs.Deeds.{DoesDeeds, NumberedIds, deed_operations, numbers_of, numbers_with}
use Rattle.cc_replay.specs.Operations.{operation_lines}
use Rattle.cc_replay.specs.Script.{ScriptState, most_objects}
use Rattle.cc_replay.proofs.ScriptLemmas.{event_runs_out, event_scripted}
use Rattle.cc_replay.proofs.script.Script.take_possible.Goals as goal

pub returns-in_default : goal.returns-in_default
returns-in_default g c = event_runs_out c.args.self.now c.args.event c.args.out.now refl

pub returns : goal.returns
returns g c =
    let new : ScriptState = record {
      heap = c.self-2.inside.heap;
      reading = c.self-2.inside.reading;
      pending = c.self-2.inside.pending;
      ids = c.self-2.inside.ids;
      progress = c.progress_after-self-inside.result;
    } in
    let written : c.write.new.self ≡ record c.happen.new.self { ids = c.write.new.self.ids } = search rules in
    let happened : c.happen.new.self ≡ record c.args.self.now { heap = c.happen.new.self.heap } = search rules in
    let heap_is : c.happen.new.self.heap ≡ c.self-2.inside.heap =
    sym (ap (λ (s : ScriptState). s.heap) c.self-2.view_is ∙ ap (λ (s : ScriptState). s.heap) written) in
    let reading_is : c.self-2.inside.reading ≡ c.args.self.now.reading =
    ap (λ (s : ScriptState). s.reading) c.self-2.view_is ∙ ap (λ (s : ScriptState). s.reading) written
    ∙ ap (λ (s : ScriptState). s.reading) happened in
    let pending_is : c.self-2.inside.pending ≡ c.args.self.now.pending =
    ap (λ (s : ScriptState). s.pending) c.self-2.view_is ∙ ap (λ (s : ScriptState). s.pending) written
    ∙ ap (λ (s : ScriptState). s.pending) happened in
    let ids_happened : c.happen.new.self.ids ≡ c.args.self.now.ids = ap (λ (s : ScriptState). s.ids) happened in
    let ids_now : c.self-2.inside.ids ≡ c.write.new.self.ids = ap (λ (s : ScriptState). s.ids) c.self-2.view_is in
    let is_event_then : IsEvent c.args.self.now.heap c.args.event c.in-Ok.outcome c.happen.new.self.heap = search rules in
    let does_then : DoesDeeds c.args.self.now.heap c.in-Ok.deeds c.happen.new.self.heap = search rules in
    let left : IfSome c.in-Ok.deeds.made (λ _. c.args.self.now.ids.made < most_objects) = search rules in
    let numbered : numbers_of c.write.new.self.ids ≡ numbers_with (numbers_of c.happen.new.self.ids) c.in-Ok.deeds.made = search rules in
    let lines_are : c.write.new.out
    ≡ c.args.out.now ++ operation_lines (deed_operations c.happen.new.self.heap.settings.policy (numbers_of c.happen.new.self.ids) c.in-Ok.deeds) =
    search rules in
    let refused_is : c.is_refused-is_refused.result ≡ is_refused c.in-Ok.outcome = search rules in
    let progress_is : c.progress_after-self-inside.result ≡ progress_after c.self-2.inside.reading c.is_refused-is_refused.result = search rules in
    let policy_is : c.happen.new.self.heap.settings.policy ≡ c.args.self.now.heap.settings.policy =
    ap (λ (s : Settings). s.policy) does_then.settings in
    event_scripted c.args.self.now c.args.event c.in-Ok.outcome c.in-Ok.deeds c.args.out.now c.write.new.out
    c.is_refused-is_refused.result new c.requires.can
    (subst (λ (h : Heap). IsEvent c.args.self.now.heap c.args.event c.in-Ok.outcome h) heap_is is_event_then)
    (subst (λ (h : Heap). DoesDeeds c.args.self.now.heap c.in-Ok.deeds h) heap_is does_then)
    left
    (ap (λ (n : NumberedIds). numbers_of n) ids_now ∙ numbered
    ∙ ap (λ (n : NumberedIds). numbers_with (numbers_of n) c.in-Ok.deeds.made) ids_happened)
    (lines_are
    ∙ ap (λ (n : NumberedIds). c.args.out.now ++ operation_lines (deed_operations c.happen.new.self.heap.settings.policy (numbers_of n) c.in-Ok.deeds)) ids_happened
    ∙ ap (λ (p : Policy). c.args.out.now ++ operation_lines (deed_operations p (numbers_of c.args.self.now.ids) c.in-Ok.deeds)) policy_is)
    refused_is
    (progress_is ∙ ap (λ (r : Reading). progress_after r c.is_refused-is_refused.result) reading_is)
    reading_is pending_is
