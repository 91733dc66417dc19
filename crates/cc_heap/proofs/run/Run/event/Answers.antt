use Rattle.std.proofs.Common.{◌≡◌, ◌∙◌, ap, false, rules}
use Rattle.cc_heap.specs.Lost.{RunState, is_lost, noted}
use Rattle.cc_heap.specs.Sizes.{with_made_size}
use Rattle.cc_heap.proofs.run.Run.event.Goals as goal

pub returns-clause-is_event : goal.returns-clause-is_event
returns-clause-is_event g c =
    let kept : c.self-2.inside.sizes ≡ c.args.self.now.sizes =
    ap (λ (r : RunState). r.sizes) c.self-2.view_is ∙ c.in_ok-note.ensures.sizes ∙ c.forget-was_lost.ensures.sizes
    ∙ ap (λ (r : RunState). r.sizes) c.self.view_is in
    let settings = c.settings-align.ensures ∙ ap (λ (r : RunState). r.heap.settings) c.self.view_is in
    record {
      told = c.in_ok-outcome.outcome;
      is_event = search rules;
      is_told = search rules;
      lost = λ id.
          ap (λ (r : RunState). is_lost r.lost id) c.self-2.view_is
          ∙ c.in_ok-note.ensures.noted id
          ∙ (λ i. noted (c.made_id.ensures i) (c.is_not_made.ensures i)
          (λ other. (c.forget-was_lost.ensures.noted other
          ∙ (λ j. noted (c.freed_id.ensures j) false (is_lost (ap (λ (r : RunState). r.lost) c.self.view_is j)) other)) i) id);
      sizes = c.count_made.ensures ∙ (λ i. with_made_size (settings i).align (c.made_size.ensures.value i) (kept i));
    }
