-- Free space, as spans.
use Rattle.std.specs.Prelude.{ℕ, ◌≡◌, ◌%◌, ◌<◌, ◌≤◌, List, Option, Some, None, All, AllPairs, Contains}
use Rattle.cc_bounds.specs.declared.span.Span.{Span}
use Rattle.cc_bounds.specs.Span.{IsWithin, span_from}
use Rattle.cc_placer.specs.PlacerState.{IsSomeBytes}

-- AreGaps holds if each span has a byte, and ends below the base of each later one.
pub record AreGaps (gaps : List Span) : Type 0 where
  pub some : All IsSomeBytes gaps
  pub apart : AllPairs (λ gap later. gap.top < later.base) gaps

-- FitsGap holds if `start` is a multiple of `align`, and [start, start + size) lies within one of the gaps.
pub record FitsGap (gaps : List Span) (size align start : ℕ) : Type 0 where
  pub aligned : start % align ≡ 0
  pub gap : Span
  pub among : Contains gaps gap
  pub within : IsWithin (span_from start size) gap

-- IsFirstFit holds if the result is the smallest start at which the bytes fit a gap, or none if there is none.
abbrev pub IsFirstFit : (gaps : List Span) (size align : ℕ) → Option ℕ → Type 0
IsFirstFit gaps size align (Some start) =
    FitsGap gaps size align start × ((other : ℕ) → FitsGap gaps size align other → start ≤ other)
IsFirstFit gaps size align None = (other : ℕ) → ¬ FitsGap gaps size align other
