use Rattle.std.proofs.Common.{◌≡◌, ◌+◌, ◌*◌, ◌≤◌, ◌^◌, drop}
use Rattle.cc_word.proofs.ReadingLemmas.{gathered}
use Rattle.cc_word.proofs.kernels.value_of_eight.Given as goal

abbrev pub invariant-loop-pair : goal.invariant-loop-pair
invariant-loop-pair l = record {
  number : gathered l.number (drop (2 * l.pair) l.digits) ≡ gathered 0 l.digits;
  small : l.number + 2 ^ 32 ≤ 2 ^ (32 + 8 * l.pair);
}
