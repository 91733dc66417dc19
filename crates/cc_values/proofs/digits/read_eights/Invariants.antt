use Rattle.std.proofs.Common.{◌≡◌, ◌+◌, ◌*◌, ◌%◌, ◌≤◌, ◌^◌, length}
use Rattle.cc_values.specs.Digits.{number_further}
use Rattle.cc_values.proofs.digits.read_eights.Given as goal

abbrev pub invariant-eights : goal.invariant-eights
invariant-eights l = record {
  same : number_further l.radix l.number l.rest ≡ number_further l.radix l.first l.digits;
  eights : length l.rest % 8 ≡ 0;
  fits : (l.number + 1) * l.radix ^ length l.rest ≤ 2 ^ 64;
}

abbrev pub decreases-eights : goal.decreases-eights
decreases-eights l = length l.rest
