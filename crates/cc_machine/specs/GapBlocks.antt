-- The invariant of a row of blocks of gaps. No public clause cites this file.
use Rattle.std.specs.Prelude.{ℕ, ◌≡◌, ◌≢◌, ◌<◌, ◌≤◌, List, [], Option, map, length, unwrap_or}
use Rattle.std.specs.List.{slice_index_or}
use Rattle.slab.specs.Slab.{Slab, ContainsKey, get, slab_len}
use Rattle.cc_bounds.specs.declared.span.Span.{Span}

-- The gaps of a slot, none if it is empty.
abbrev pub gaps_in_slot : Option (List Span) → List Span
gaps_in_slot slot = unwrap_or slot []

-- The gaps under a key.
abbrev pub gaps_under : Slab (List Span) → (key : ℕ) → List Span
gaps_under slab key = gaps_in_slot (get slab key)

-- The blocks under the keys.
abbrev pub blocks_under : Slab (List Span) → (keys : List ℕ) → List (List Span)
blocks_under slab keys = map (gaps_under slab) keys

-- IsKeyed holds if a block is under each key, no key occurs twice, and memory is reserved for
-- `room` blocks and keys.
pub record IsKeyed (slab : Slab (List Span)) (keys : List ℕ) (room capacity : ℕ) : Type 0 where
  pub filled : (at d : ℕ) → at < length keys → ContainsKey slab (slice_index_or keys at d)
  pub distinct : (at other d : ℕ) → at < other → other < length keys
      → slice_index_or keys at d ≢ slice_index_or keys other d
  pub all : slab_len slab ≡ length keys
  pub fits : length keys ≤ room
  pub reserved : room ≤ slab.capacity
  pub keys_reserved : room ≤ capacity
