-- The unit of which the ends of an object are multiples, the padded size of an object, and its exact
-- bounds, by the alignment of the pool.
use Rattle.std.specs.Prelude.{ℕ, ◌≡◌, ◌+◌, ◌-◌, ◌*◌, ◌/◌, ◌%◌, ◌<◌, ◌≤◌, max}
use Rattle.std.specs.Int.{div_ceil}
use Rattle.cc_bounds.specs.Span.{IsSpan, from_zero, length_of}
use Rattle.cc_bounds.specs.Granule.{IsGranule, IsSound, granule_of}
use Rattle.cc_bounds.specs.Align.{align_bytes}
use Rattle.cc_bounds.specs.declared.align.Align.{Align}
use Rattle.cc_bounds.specs.declared.span.Span.{Span}

-- IsUnit holds if `unit` is the unit of an object of `size` bytes: the larger of the granule of its
-- size and the alignment.
pub record IsUnit (align : Align) (size unit : ℕ) : Type 0 where
  pub granule : ℕ
  pub is_granule : IsGranule (from_zero size) granule
  pub is_larger : unit ≡ max granule (align_bytes align)

-- The padded size of an object of this unit: `size` rounded up to a multiple of the unit.
abbrev pub rounded_up : (size unit : ℕ) → ℕ
rounded_up size unit = div_ceil size unit * unit

-- The unit of an object of `size` bytes, computed: for at most 2^64 bytes it is the one number that
-- satisfies `IsUnit`.
abbrev pub unit_of : Align → (size : ℕ) → ℕ
unit_of align size = max (granule_of (from_zero size)) (align_bytes align)

-- The padded size of an object, computed: `size` rounded up to a multiple of its unit. Example: with
-- alignment 1, of 5,000 bytes the unit is 8 and the padded size 5,000, and of 8,185 they are 16 and
-- 8,192. With alignment 16, 100 bytes are padded to 112, 5,000 to 5,008, and 8,184 to 8,192.
abbrev pub padded_size_for : Align → (size : ℕ) → ℕ
padded_size_for align size = rounded_up size (unit_of align size)

-- HasExactSpan holds if the span of an object of `size` bytes in a pool of this alignment has exact bounds.
-- It begins and ends at multiples of the object's unit, is sound, and has the padded size. That is at least
-- the size, and at most the size, a 512th of it, and one byte less than the alignment together.
pub record HasExactSpan (align : Align) (size : ℕ) (span : Span) : Type 0 where
  pub some : 0 < size
  pub unit : ℕ
  pub is_unit : IsUnit align size unit
  pub aligned : span.base % unit ≡ 0
  pub ends : span.top % unit ≡ 0
  pub is_span : IsSpan span
  pub sound : IsSound span
  pub padded : length_of span ≡ rounded_up size unit
  pub at_least : size ≤ length_of span
  pub at_most : length_of span ≤ size + size / 512 + (align_bytes align - 1)
