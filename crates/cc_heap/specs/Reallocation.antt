-- When a reallocation leaves an object in its place.
use Rattle.std.specs.Prelude.{ℕ, Bool, true, false, ◌%◌, ◌&&◌, nat_eq}
use Rattle.cc_bounds.specs.declared.align.Align.{Align}
use Rattle.cc_bounds.specs.declared.span.Span.{Span}
use Rattle.cc_bounds.specs.Span.{length_of}
use Rattle.cc_placer.specs.Align.{padded_size_for}
use Rattle.cc_heap.specs.declared.reallocation.Reallocation.{Reallocation}
use Rattle.cc_heap.specs.declared.reallocation.Reallocation.TheVariants.{Move, Keep}
use Rattle.cc_heap.specs.Memory.{start_unit}

-- Whether an object that can stay does.
abbrev pub is_keep : Reallocation → Bool
is_keep Move = false
is_keep Keep = true

-- Whether the bytes are those that an object of this size and requested alignment can take: they are as many
-- as its padded size, and begin at a multiple of its unit and of the alignment.
abbrev pub can_take : Align → (requested size : ℕ) → Span → Bool
can_take align requested size span =
    nat_eq (length_of span) (padded_size_for align size) && nat_eq (span.base % start_unit align requested size) 0
