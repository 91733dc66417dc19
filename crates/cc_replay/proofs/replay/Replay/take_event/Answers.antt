use Rattle.std.proofs.Common.{◌≡◌, [], false, refl, sym, ◌∙◌, ap, append-nil, inl, inr, subst}
use Rattle.cc_replay.specs.declared.reading.Progress.TheVariants.{OutOfMemory}
use Rattle.cc_heap.specs.Heap.{Heap}
use Rattle.cc_heap.specs.declared.totals.Totals.{Totals}
use Rattle.cc_replay.specs.Replay.{ReplayState, replaying}
use Rattle.cc_replay.specs.Taking.{AppendsEvent}
use Rattle.cc_replay.proofs.ReplayLemmas.{event_taken, state_of}
use Rattle.cc_replay.proofs.replay.Replay.take_event.Goals as goal

pub returns-in_default : goal.returns-in_default
returns-in_default g c =
    let inside = c.self.inside in
    subst (λ (old : ReplayState). AppendsEvent replaying old c.args.event c.args.out.now c.args.out.now false
    (state_of c.event.new.self inside.reading inside.counts inside.pending inside.time OutOfMemory inside.is_sampled)) c.self.view_is (record {
      text = [];
      out_is = sym (append-nil c.args.out.now);
      takes = inr (record { run = c.event.new.self; sound = c.event.ensures.sound; is_new = refl; error_is = refl; text_is = refl });
    })

pub returns : goal.returns
returns g c =
    let inside = c.self.inside in
    subst (λ (old : ReplayState). AppendsEvent replaying old c.args.event c.args.out.now c.push_due.new.page c.is_refused.result c.count.new.self) c.self.view_is
    (event_taken (state_of inside.run inside.reading inside.counts inside.pending inside.time inside.progress inside.is_sampled) c.args.event c.in-Ok.outcome
    c.event.new.self c.totals-sweeps.result.sweeps c.count.new.self c.args.out.now c.push_due.new.page c.is_refused.result c.in-Ok.ensures.is_event
    (ap (λ (t : Totals). t.sweeps) c.totals-sweeps.ensures ∙ ap (λ (h : Heap). h.totals.sweeps) c.heap.ensures) c.count.ensures
    c.is_refused.ensures c.push_due.ensures)
