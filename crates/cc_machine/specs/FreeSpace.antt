-- The free space of a pool next to held spans.
use Rattle.std.specs.Prelude.{ℕ, ◌≡◌, ◌+◌, ◌-◌, ◌<◌, ◌≤◌, max, min, List, All, length, sum_by}
use Rattle.std.specs.List.{slice_index_or}
use Rattle.cc_bounds.specs.declared.span.Span.{Span}
use Rattle.cc_machine.specs.Gaps.{AreGaps}

-- The number of bytes of the span at an address: 1 or 0.
abbrev pub bytes_at : (address : ℕ) → Span → ℕ
bytes_at address span = min (address + 1) span.top - max address span.base

-- The number of the spans that have the byte at an address.
abbrev pub count_at : (address : ℕ) → List Span → ℕ
count_at address spans = sum_by (bytes_at address) spans

-- AreGapsOf holds if the gaps are the free space of the pool: each byte of the pool is in exactly one
-- held span or gap, and each other byte is in none. Each held span has a byte. A held byte lies between
-- two gaps, since each gap ends below the base of the next.
pub record AreGapsOf (pool : Span) (held gaps : List Span) : Type 0 where
  pub are_gaps : AreGaps gaps
  pub are_some : All (λ span. span.base < span.top) held
  pub each : (address : ℕ) → count_at address held + count_at address gaps ≡ bytes_at address pool

-- AddsBytes holds if the spans of `more` have the bytes of those of `fewer` and those of the span, each
-- equally often.
abbrev pub AddsBytes : (fewer : List Span) → Span → (more : List Span) → Type 0
AddsBytes fewer span more = (address : ℕ) → count_at address more ≡ count_at address fewer + bytes_at address span

-- LiesInGap holds if the span lies within the gap at position `at`.
pub record LiesInGap (gaps : List Span) (span : Span) : Type 0 where
  pub at : ℕ
  pub within : at < length gaps
  pub from_base : (d : Span) → (slice_index_or gaps at d).base ≤ span.base
  pub to_top : (d : Span) → span.top ≤ (slice_index_or gaps at d).top
