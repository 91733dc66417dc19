-- Heaps, and runs of heaps, that are the same, except for the order of lists that have no order.
use Rattle.std.specs.Prelude.{ℕ, ◌≡◌}
use Rattle.std.specs.List.Sorted.{IsPermutation}
use Rattle.cc_heap.specs.Heap.{Heap}
use Rattle.cc_heap.specs.Lost.{RunState, is_lost}
use Rattle.cc_replay.specs.Replay.{ReplayState, figures_of}

-- AreAlike holds if the heaps differ at most in the order of their live objects.
pub record AreAlike (one other : Heap) : Type 0 where
  pub settings : other.settings ≡ one.settings
  pub live : IsPermutation one.memory.live other.memory.live
  pub quarantined : other.memory.quarantined ≡ one.memory.quarantined
  pub totals : other.totals ≡ one.totals

-- AreAlikeRuns holds if the heaps of the runs are alike, the same ids are lost, and the numbers of the
-- objects by their sizes are the same.
pub record AreAlikeRuns (one other : RunState) : Type 0 where
  pub heap : AreAlike one.heap other.heap
  pub lost : (id : ℕ) → is_lost other.lost id ≡ is_lost one.lost id
  pub sizes : other.sizes ≡ one.sizes

-- AreAlikeReplays holds if the runs of the replays are alike, and the figures and all else are the same.
pub record AreAlikeReplays (one other : ReplayState) : Type 0 where
  pub run : AreAlikeRuns one.run other.run
  pub figures : figures_of other ≡ figures_of one
  pub rest : other ≡ record one { run = other.run }
