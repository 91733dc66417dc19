-- Spans of bytes.
use Rattle.std.specs.Prelude.{ℕ, ◌+◌, ◌-◌, ◌^◌, ◌<◌, ◌≤◌}
use Rattle.cc_bounds.specs.declared.span.Span.{Span}

-- `IsSpan` holds if the pair is a span of the address space.
pub record IsSpan (span : Span) : Type 0 where
  pub in_order : span.base ≤ span.top
  pub base_fits : span.base < 2 ^ 64
  pub top_fits : span.top ≤ 2 ^ 64

-- The number of bytes of the span.
abbrev pub length_of : Span → ℕ
length_of span = span.top - span.base

-- `HasByte` holds if `byte` is a byte of the span.
pub record HasByte (span : Span) (byte : ℕ) : Type 0 where
  pub from_base : span.base ≤ byte
  pub below_top : byte < span.top

-- `IsWithin` holds if the inner span begins and ends within the outer.
pub record IsWithin (inner outer : Span) : Type 0 where
  pub from_base : outer.base ≤ inner.base
  pub to_top : inner.top ≤ outer.top

-- `SharesByte` holds if some byte is in both spans. An empty span shares none, and neither do spans
-- that only touch.
pub record SharesByte (one other : Span) : Type 0 where
  pub byte : ℕ
  pub in_one : HasByte one byte
  pub in_other : HasByte other byte

-- The span of `size` bytes from `base`.
abbrev pub span_from : (base size : ℕ) → Span
span_from base size = record { base = base; top = base + size }

-- The span of `size` bytes from address 0 on.
abbrev pub from_zero : ℕ → Span
from_zero size = span_from 0 size
