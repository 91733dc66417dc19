use Rattle.std.proofs.Common.{get_or, arith}
use Rattle.std.proofs.lemmas.List.Elements.{Contains-get_or}
use Rattle.cc_placer.proofs.SortedLemmas.{gap_apart, passed_more, past_held}
use Rattle.cc_placers.proofs.sorted.gap_from.Goals as goal

pub returns-then-start-len-clause-apart : goal.returns-then-start-len-clause-apart
returns-then-start-len-clause-apart c =
    gap_apart c.args.spans.now c.loop-span.span-index c.loop-span.start c.args.len
    (record { base = 0; top = 0 }) c.requires.in_order c.requires.held
    c.loop-span.invariant.passed (λ within. omega arith)

pub loop-span-preserved : goal.loop-span-preserved
loop-span-preserved c =
    let held = Contains-get_or c.args.spans.now c.loop-span.span-index
    (record { base = 0; top = 0 }) c.loop-span-test.true in
    record {
      aligned = c.step_over-start.ensures.aligned;
      above = omega arith;
      low = c.step_over-start.ensures.low;
      passed = passed_more c.args.spans.now c.loop-span.span-index c.loop-span.start c.step_over-start.result
          (record { base = 0; top = 0 }) c.loop-span-test.true
          c.step_over-start.ensures.from_start c.step_over-start.ensures.from_top c.loop-span.invariant.passed;
      none_below = λ place from multiple apart.
          let later = c.loop-span.invariant.none_below place from multiple apart in
          c.step_over-start.ensures.least place later
          (past_held c.args.spans.now (get_or c.args.spans.now c.loop-span.span-index
          (record { base = 0; top = 0 })) c.loop-span.start c.args.len place held
          (c.requires.held c.loop-span.span-index
          (record { base = 0; top = 0 }) c.loop-span-test.true) c.requires.some (omega arith) later apart)
          multiple;
    }

pub returns-clause-apart : goal.returns-clause-apart
returns-clause-apart c =
    gap_apart c.args.spans.now c.loop-span.span-index c.loop-span.start c.args.len
    (record { base = 0; top = 0 }) c.requires.in_order c.requires.held
    c.loop-span.invariant.passed (λ within. absurd (omega arith))
