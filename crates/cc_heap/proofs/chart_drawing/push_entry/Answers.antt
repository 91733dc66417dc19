use Rattle.std.proofs.Common.{ap, append_assoc, arith, length, length-append}
use Rattle.cc_heap.specs.ChartDrawing.{entry_text}
use Rattle.cc_heap.proofs.chart_drawing.push_entry.Goals as goal

pub push-requires-2 : goal.push-requires-2
push-requires-2 g c =
    omega (arith, c.stroke.ensures.fits, ap length c.push.ensures, length-append c.args.page.now c.args.before.now, c.requires)

pub push-requires-3 : goal.push-requires-3
push-requires-3 g c =
    omega (
      arith,
      ap length c.push-2.ensures,
      length-append c.push.new.self c.stroke.result.now,
      c.stroke.ensures.fits,
      ap length c.push.ensures,
      length-append c.args.page.now c.args.before.now,
      c.requires,
    )

pub returns-clause-value : goal.returns-clause-value
unfolding entry_text
returns-clause-value g c = rw (c.push-3.ensures, c.push-2.ensures, c.push.ensures, c.stroke.ensures.value) (simp append_assoc)

pub returns-clause-fits : goal.returns-clause-fits
returns-clause-fits g c =
    omega (
      arith,
      ap length c.push-3.ensures,
      length-append c.push-2.new.self c.args.after.now,
      ap length c.push-2.ensures,
      length-append c.push.new.self c.stroke.result.now,
      c.stroke.ensures.fits,
      ap length c.push.ensures,
      length-append c.args.page.now c.args.before.now,
    )
