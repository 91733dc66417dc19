use Rattle.std.proofs.Common.{ℕ, ◌∙◌, ap}
use Rattle.cc_heap.specs.Heap.{Heap}
use Rattle.cc_heap.specs.Outcomes.{is_refused}
use Rattle.cc_heap.specs.declared.totals.Totals.{Totals}
use Rattle.cc_replay.specs.declared.counts.Counts.{Counts}
use Rattle.cc_replay.specs.Counts.{with_counted_event, with_outcome}
use Rattle.cc_replay.specs.Reading.{is_due, progress_after}
use Rattle.cc_replay.specs.Replay.{ReplayState, time_after}
use Rattle.cc_replay.proofs.replay.Replay.count.Goals as goal

pub returns : goal.returns
returns g c =
    let inside = c.self.inside in
    let counts = with_counted_event c.args.event inside.counts in
    let counts_is = c.with_outcome-self-inside.ensures ∙ ap (with_outcome c.args.outcome) c.with_event.ensures in
    let progress_is = c.progress_after-self-inside.ensures ∙ ap (progress_after inside.reading) c.is_refused.ensures in
    let sweeps_is = ap (λ (t : Totals). t.sweeps) c.totals-sweeps_now.ensures ∙ ap (λ (h : Heap). h.totals.sweeps) c.heap.ensures in
    let sampled_is = c.is_due-self-inside.ensures
    ∙ ap (λ (n : Counts). is_due inside.reading n.events c.args.sweeps c.totals-sweeps_now.result.sweeps) counts_is
    ∙ ap (λ (n : ℕ). is_due inside.reading counts.events c.args.sweeps n) sweeps_is in
    (λ i. record {
      run = inside.run;
      reading = inside.reading;
      counts = counts_is i;
      pending = inside.pending;
      time = c.time_after-self-inside.ensures i;
      progress = progress_is i;
      is_sampled = sampled_is i;
    })
    ∙ ap (λ (old : ReplayState). record old {
      counts = with_outcome c.args.outcome (with_counted_event c.args.event old.counts);
      time = time_after c.args.event old.time;
      progress = progress_after old.reading (is_refused c.args.outcome);
      is_sampled = is_due old.reading (with_counted_event c.args.event old.counts).events c.args.sweeps old.run.heap.totals.sweeps;
    }) c.self.view_is
