use Rattle.std.proofs.Common.{subst}
use Rattle.std.proofs.KnownBytes.{Appends-trans}
use Rattle.cc_draw.specs.Drawing.{IsDrawing}
use Rattle.cc_draw.specs.Map.{IsMap}
use Rattle.cc_plan.specs.Plan.{Plan}
use Rattle.cli_program.proofs.RunLemmas.{draws_map, draws_page}
use Rattle.cli_program.proofs.maps.draw_pool.Goals as goal

pub returns-in_ok-show_drawing-clause-drawn : goal.returns-in_ok-show_drawing-clause-drawn
returns-in_ok-show_drawing-clause-drawn g c = draws_page _ _ _ _ c.if-svg.true (record {
  page = c.in_ok-show_drawing.ensures.shown.answer;
  is_drawing = subst (λ (plan : Plan). IsDrawing plan c.in_ok-show_drawing.ensures.shown.answer) c.planner.ensures.plan c.in_ok-show_drawing.ensures.shown.is_answer;
  written = c.in_ok-show_drawing.ensures.shown.whole;
})

pub returns-in_ok-show_statistics-clause-drawn : goal.returns-in_ok-show_statistics-clause-drawn
returns-in_ok-show_statistics-clause-drawn g c = draws_map _ _ _ _ c.if-svg.false (record {
  map = c.in_ok-show_map.ensures.shown.answer;
  usage = c.in_ok-usage.usage;
  is_map = subst (λ (plan : Plan). IsMap plan c.in_ok-show_map.ensures.shown.answer) c.planner-else-svg.ensures.plan c.in_ok-show_map.ensures.shown.is_answer;
  is_usage = c.in_ok-usage.ensures.usage;
  written = Appends-trans _ _ _ _ _ c.in_ok-show_map.ensures.shown.whole c.in_ok-show_statistics.ensures.sends.ok;
})
