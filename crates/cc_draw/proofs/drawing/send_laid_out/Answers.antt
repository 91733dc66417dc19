use Rattle.std.proofs.Common.{◌≡◌, ◌++◌, ◌∙◌, ℕ, List, ap, refl}
use Rattle.cc_io.specs.declared.summary.IoError.TheVariants.{Write}
use Rattle.cc_plan.specs.declared.planned_object.ObjectState.TheVariants.{Live, Freed}
use Rattle.cc_draw.specs.Drawing.{closing_text, after_live_text, layer_text, quarantined_text, start_text}
use Rattle.cc_draw.proofs.WritingLemmas.{fails_in, sends_after, sends_same}
use Rattle.cc_draw.proofs.drawing.send_laid_out.Goals as goal

pub returns-in-Err-clause-sends : goal.returns-in-Err-clause-sends
returns-in-Err-clause-sends g c =
    let layout = c.args.layout.now in
    let objects = c.args.objects.now in
    let live = ap (λ (l : List ℕ). l ++ layer_text layout Live 1 objects) (c.bytes.ensures.value ∙ c.push_start.ensures) in
    fails_in _ _ _ (start_text layout c.args.pool.now ++ layer_text layout Live 1 objects) (after_live_text layout objects) Write _ live c.in-Err.ensures

pub returns-in-Err-write_layer-clause-sends : goal.returns-in-Err-write_layer-clause-sends
returns-in-Err-write_layer-clause-sends g c =
    let layout = c.args.layout.now in
    let objects = c.args.objects.now in
    let live = ap (λ (l : List ℕ). l ++ layer_text layout Live 1 objects) (c.bytes.ensures.value ∙ c.push_start.ensures) in
    let pushed : c.push_markup.new.page ≡ quarantined_text = rw (c.push_markup.ensures.value, c.new-between.ensures) refl in
    let freed = ap (λ (l : List ℕ). l ++ layer_text layout Freed 1 objects) (c.bytes-2.ensures.value ∙ pushed) in
    sends_after _ _ _ _ (start_text layout c.args.pool.now ++ layer_text layout Live 1 objects) (after_live_text layout objects) _ live c.in-Ok.ensures.ok
    (fails_in _ _ _ (quarantined_text ++ layer_text layout Freed 1 objects) closing_text Write _ freed c.in-Err-write_layer.ensures)

pub returns-clause-sends : goal.returns-clause-sends
returns-clause-sends g c =
    let layout = c.args.layout.now in
    let objects = c.args.objects.now in
    let live = ap (λ (l : List ℕ). l ++ layer_text layout Live 1 objects) (c.bytes.ensures.value ∙ c.push_start.ensures) in
    let pushed : c.push_markup.new.page ≡ quarantined_text = rw (c.push_markup.ensures.value, c.new-between.ensures) refl in
    let freed = ap (λ (l : List ℕ). l ++ layer_text layout Freed 1 objects) (c.bytes-2.ensures.value ∙ pushed) in
    let closed : c.push_markup-2.new.page ≡ closing_text = rw (c.push_markup-2.ensures.value, c.new-end.ensures) refl in
    sends_after (g.W.Sink.state c.args.sink.now) (g.W.Sink.state c.write_layer.new.sink) (g.W.Sink.state c.write_and_flush.new.sink) _
    (start_text layout c.args.pool.now ++ layer_text layout Live 1 objects) (after_live_text layout objects) _ live c.in-Ok.ensures.ok
    (sends_after (g.W.Sink.state c.write_layer.new.sink) (g.W.Sink.state c.write_layer-2.new.sink) (g.W.Sink.state c.write_and_flush.new.sink) _
    (quarantined_text ++ layer_text layout Freed 1 objects) closing_text _ freed c.in-Ok-write_layer.ensures.ok
    (sends_same _ _ _ _ _ closed c.write_and_flush.ensures.sends))
