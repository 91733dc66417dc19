-- When a quarantine is swept. A policy is examined after each object that is freed or replaced.
use Rattle.std.specs.Prelude.{ℕ, Bool, true, false, ◌+◌, ◌*◌, ◌<◌, ◌≤◌}
use Rattle.cc_heap.specs.declared.policy.Policy.{Policy}
use Rattle.cc_heap.specs.declared.policy.Policy.TheVariants.{Immediate, Never, Percent, Bytes, Frees, Trace}
use Rattle.cc_heap.specs.declared.policy.Share.{Share}
use Rattle.cc_heap.specs.declared.policy.Share.TheVariants.{Held, Live, High}

-- Whether there is no quarantine.
abbrev pub is_immediate : Policy → Bool
is_immediate Immediate = true
is_immediate _ = false

-- Whether a sweep is done when the trace requests one.
abbrev pub is_of_the_trace : Policy → Bool
is_of_the_trace Trace = true
is_of_the_trace _ = false

-- The numbers that a policy compares. In bytes: those of live objects, the quarantined ones, and those
-- up to the highest end of an object. And the number of quarantined objects.
pub record Gauge : Type 0 where
  pub live : ℕ
  pub quarantine : ℕ
  pub high : ℕ
  pub waiting : ℕ

-- The bytes of which a percentage is taken.
abbrev pub share_of : Share → Gauge → ℕ
share_of Held gauge = gauge.live + gauge.quarantine
share_of Live gauge = gauge.live
share_of High gauge = gauge.high

-- AsksForSweep holds if the policy requests a sweep.
abbrev pub AsksForSweep : Policy → Gauge → Type 0
AsksForSweep Immediate gauge = ⊥
AsksForSweep Never gauge = ⊥
AsksForSweep (Percent percent share) gauge = percent * share_of share gauge < 100 * gauge.quarantine
AsksForSweep (Bytes bytes) gauge = bytes ≤ gauge.quarantine
AsksForSweep (Frees frees) gauge = frees ≤ gauge.waiting
AsksForSweep Trace gauge = ⊥
