use Rattle.std.proofs.lemmas.List.{nil_from_length}
use Rattle.std.proofs.Common.{rules, ◌≡◌, ◌∙◌, ◌∷◌, ◌+◌, ◌++◌, ℕ, List, ap, append-nil, append_assoc, arith, false, length, subst, sym, true}
use Rattle.cc_io.specs.Devices.{WritesBytes}
use Rattle.cc_plan.specs.PlannedObject.{PlannedObject}
use Rattle.cc_bounds.specs.declared.span.Span.{Span}
use Rattle.cc_draw.specs.Drawing.{is_in, layer_text, object_text}
use Rattle.cc_draw.proofs.DrawingLemmas.{layer_drawn, layer_left_out}
use Rattle.cc_draw.proofs.WritingLemmas.{on_err_weaker, on_ok_weaker, writing_last, writing_passes, writing_same, writing_stops, writing_stops_last}
use Rattle.cc_draw.proofs.drawing.write_objects.Goals as goal
use Rattle.cc_draw.proofs.drawing.write_objects.Goals.{then-eq, else-eq}

pub returns-in-Err : goal.returns-in-Err
returns-in-Err g c = record {
  ok = tt;
  err = writing_stops _ _ _ c.objects.page _ _ c.objects.invariant.writes c.in-Err.ensures.err;
  fails = c.in-Err.ensures.fails;
}

pub objects-preserved : goal.objects-preserved
objects-preserved g c =
    let kept = c.objects.invariant in
    let parts : c.objects.rest.now ≡ c.in-Some.object.now ∷ c.in-Some.after.now = search rules in
    let size : length c.objects.rest.now ≡ length (c.in-Some.object.now ∷ c.in-Some.after.now) = ap (λ (l : List PlannedObject). length l) parts in
    let begun = writing_passes _ _ _ c.objects.page _ _ _ kept.writes c.in-Ok.ensures.ok in
    elim c.if-eq.branch [
      | then-eq w ↦
          let drawn : is_in c.args.state c.in-Some.object.now.state ≡ true = search rules in
          let next = layer_drawn c.args.layout.now c.args.state c.objects.number c.in-Some.object.now c.objects.rest.now c.in-Some.after.now parts drawn in
          let later : List ℕ = layer_text c.args.layout.now c.args.state (c.objects.number + 1) c.in-Some.after.now in
          let pushed = w.push_object.ensures.value
          ∙ ap (λ (span : Span). c.make_room.new.page ++ object_text c.args.layout.now c.objects.number span) w.span.ensures in
          rw w.page-is
          (record {
            writes = writing_same _ _ _ _ _ (ap (λ (l : List ℕ). c.make_room.new.page ++ l) next
                ∙ sym (append_assoc c.make_room.new.page (object_text c.args.layout.now c.objects.number c.in-Some.object.now.span) later)
                ∙ ap (λ (l : List ℕ). l ++ later) (sym pushed)) begun;
            works = search rules;
            number = omega (arith, kept.number, size);
          })
      | else-eq w ↦
          let other : is_in c.args.state c.in-Some.object.now.state ≡ false = search rules in
          let next = layer_left_out c.args.layout.now c.args.state c.objects.number c.in-Some.object.now c.objects.rest.now c.in-Some.after.now parts other in
          rw w.page-is
          (record {
            writes = writing_same _ _ _ _ _ (ap (λ (l : List ℕ). c.make_room.new.page ++ l) next) begun;
            works = search rules;
            number = omega (arith, kept.number, size);
          })
    ]

pub returns : goal.returns
returns g c =
    let none = nil_from_length c.objects.rest.now (search rules) in
    let left = ap (λ (l : List PlannedObject). c.objects.page ++ layer_text c.args.layout.now c.args.state c.objects.number l) none ∙ append-nil c.objects.page in
    let writing = writing_same _ _ _ _ _ left c.objects.invariant.writes in
    let last = subst (λ (l : List ℕ). WritesBytes (g.W.Sink.state c.objects.sink) (g.W.Sink.state c.write_all.new.sink) l c.write_all.result) c.bytes.ensures.value
    c.write_all.ensures.writes in
    record {
      ok = on_ok_weaker c.write_all.result (writing_last _ _ _ c.objects.page _ writing) last.ok;
      err = on_err_weaker c.write_all.result (writing_stops_last _ _ _ c.objects.page _ writing) last.err;
      fails = last.fails;
    }
