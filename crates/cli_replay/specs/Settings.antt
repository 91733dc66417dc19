-- The settings of a heap over a trace.
use Rattle.std.specs.Prelude.{◌≡◌, ◌≤◌, ◌^◌}
use Rattle.cc_bounds.specs.Span.{IsSpan}
use Rattle.cc_heap.specs.declared.reallocation.Reallocation.TheVariants.{Move}
use Rattle.cc_heap.specs.declared.settings.Settings.{Settings}

-- IsForHeap holds of a limit from 1 to 2^24 and a pool in the address space.
pub record IsForHeap (settings : Settings) : Type 0 where
  pub some : 1 ≤ settings.limit
  pub few : settings.limit ≤ 2 ^ 24
  pub pool : IsSpan settings.pool

-- IsForScript holds if a machine can follow the heap too: each realloc moves its object.
pub record IsForScript (settings : Settings) : Type 0 where
  pub heap : IsForHeap settings
  pub moves : settings.realloc ≡ Move
