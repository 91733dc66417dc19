-- The numbers of bytes of a heap that a chart shows, and the largest of them.
use Rattle.std.specs.Prelude.{max, List, [], ◌∷◌}
use Rattle.cc_heap.specs.declared.levels.Levels.{Levels}

-- The levels of a heap that has held nothing.
abbrev pub no_levels : Levels
no_levels = record { live = 0; quarantine = 0; held = 0; high = 0 }

-- The larger of each of the numbers.
abbrev pub greater_of : Levels → Levels → Levels
greater_of first second = record {
  live = max first.live second.live;
  quarantine = max first.quarantine second.quarantine;
  held = max first.held second.held;
  high = max first.high second.high;
}

-- The largest of each of the numbers, and 0 over no levels.
abbrev pub greatest_of : List Levels → Levels
greatest_of [] = no_levels
greatest_of (levels ∷ others) = greater_of levels (greatest_of others)
