use Rattle.std.proofs.Common.{arith, refl}
use Rattle.cc_replay.proofs.summary.refusal_rows.Goals as goal

pub invariant_of-result : goal.invariant_of-result
invariant_of-result c = record { short = omega arith }

pub invariant_of-result-2 : goal.invariant_of-result-2
invariant_of-result-2 c = record { short = omega arith }

pub invariant_of-result-3 : goal.invariant_of-result-3
invariant_of-result-3 c = record { short = omega arith }

pub invariant_of-result-4 : goal.invariant_of-result-4
invariant_of-result-4 c = record { short = omega arith }

pub invariant_of-result-5 : goal.invariant_of-result-5
invariant_of-result-5 c = record { short = omega arith }

pub invariant_of-result-6 : goal.invariant_of-result-6
invariant_of-result-6 c = record { short = omega arith }

pub invariant_of-result-7 : goal.invariant_of-result-7
invariant_of-result-7 c = record { short = omega arith }

pub invariant_of-result-8 : goal.invariant_of-result-8
invariant_of-result-8 c = record { short = omega arith }

pub invariant_of-result-9 : goal.invariant_of-result-9
invariant_of-result-9 c = record { short = omega arith }

pub invariant_of-result-10 : goal.invariant_of-result-10
invariant_of-result-10 c = record { short = omega arith }

pub invariant_of-result-11 : goal.invariant_of-result-11
invariant_of-result-11 c = record { short = omega arith }

pub invariant_of-result-12 : goal.invariant_of-result-12
invariant_of-result-12 c = record { short = omega arith }

pub invariant_of-result-13 : goal.invariant_of-result-13
invariant_of-result-13 c = record { short = omega arith }

pub invariant_of-result-14 : goal.invariant_of-result-14
invariant_of-result-14 c = record { short = omega arith }

pub invariant_of-result-15 : goal.invariant_of-result-15
invariant_of-result-15 c = record { short = omega arith }

pub invariant_of-result-16 : goal.invariant_of-result-16
invariant_of-result-16 c = record { short = omega arith }

pub returns : goal.returns
returns c = refl
