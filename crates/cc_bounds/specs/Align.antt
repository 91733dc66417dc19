-- The alignments of a pool.
use Rattle.std.specs.Prelude.{ℕ}
use Rattle.cc_bounds.specs.declared.align.Align.{Align}
use Rattle.cc_bounds.specs.declared.align.Align.TheVariants.{One, Sixteen}

-- The number of bytes of an alignment.
abbrev pub align_bytes : Align → ℕ
align_bytes One = 1
align_bytes Sixteen = 16
