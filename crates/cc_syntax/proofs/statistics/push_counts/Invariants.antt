use Rattle.std.proofs.Common.{◌≡◌, ◌≤◌, ◌+◌, ◌*◌, ◌++◌, length}
use Rattle.cc_syntax.specs.Statistics.{refusal_lines}
use Rattle.cc_syntax.proofs.statistics.push_counts.Given as goal

abbrev pub invariant-counts : goal.invariant-counts
invariant-counts l = record {
  text : l.text ++ refusal_lines l.rest ≡ l.initial.text ++ refusal_lines l.counts;
  fits : length l.text + 140 * length l.rest ≤ 3180;
}

abbrev pub decreases-counts : goal.decreases-counts
decreases-counts l = length l.rest
