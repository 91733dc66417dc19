use Rattle.std.proofs.Common.{arith, ap, ◌+◌}
use Rattle.cc_bounds.specs.declared.span.Span.{Span}
use Rattle.cc_placer.proofs.PlacementLemmas.{least_multiple}
use Rattle.cc_machine.proofs.gap_block.Gap.fit.Goals as goal

pub returns-then-pad-room : goal.returns-then-pad-room
returns-then-pad-room c other from multiple =
    let base = ap (λ (s : Span). s.base) c.self.view_is in
    let least = least_multiple c.args.align c.self.inside.base (c.self.inside.base + c.padding-pad.result) other c.requires
    c.padding-pad.ensures.multiple multiple (omega (arith, from, base)) (omega (arith, c.padding-pad.ensures.near)) in
    omega (arith, least, base, c.less-room.ensures.value, c.if-pad-room.true)

pub returns : goal.returns
returns c =
    let base = ap (λ (s : Span). s.base) c.self.view_is in
    record {
      aligned = c.padding-pad.ensures.multiple;
      from_start = omega (arith, base);
      to_end = omega (arith, base, c.less-room.ensures.value, c.if-pad-room.false, c.if-room-less.false);
      least = λ other from multiple.
          least_multiple c.args.align c.self.inside.base (c.self.inside.base + c.padding-pad.result) other c.requires
          c.padding-pad.ensures.multiple multiple (omega (arith, from, base)) (omega (arith, c.padding-pad.ensures.near));
    }
