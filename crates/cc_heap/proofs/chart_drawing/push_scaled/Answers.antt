use Rattle.std.proofs.Common.{◌≡◌, ◌∙◌, ℕ, ◌++◌, append_assoc, ap}
use Rattle.cc_heap.specs.Levels.{greatest_of}
use Rattle.cc_heap.specs.Scale.{reach_of, scale_of}
use Rattle.cc_heap.specs.ChartDrawing.{scaled_text}
use Rattle.cc_heap.proofs.chart_drawing.push_scaled.Goals as goal

pub returns-clause-value : goal.returns-clause-value
returns-clause-value g c =
    let reach_is : c.reach_of-reach.result ≡ reach_of (greatest_of c.args.columns.now) =
    c.reach_of-reach.ensures.value ∙ ap reach_of c.greatest_of.ensures in
    let scale_is : c.new-scale.result ≡ scale_of (reach_of (greatest_of c.args.columns.now)) c.args.events c.args.width =
    c.new-scale.ensures ∙ ap (λ (r : ℕ). scale_of r c.args.events c.args.width) reach_is in
    let joined : c.push_curves.new.page ≡ c.args.page.now ++ scaled_text c.new-scale.result c.reach_of-reach.result c.args.columns.now =
    rw (c.push_curves.ensures.value, c.push_labels.ensures.value) (simp append_assoc) in
    joined ∙ (λ i. c.args.page.now ++ scaled_text (scale_is i) (reach_is i) c.args.columns.now)
