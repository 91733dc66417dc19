-- The margin around bounds: the addresses near a span, by whole sections of its window.
use Rattle.std.specs.Prelude.{ℕ, ◌+◌, ◌*◌, ◌/◌, ◌^◌, ◌≤◌}
use Rattle.cc_bounds.specs.declared.span.Span.{Span}
use Rattle.cc_bounds.specs.Window.{section_of}

-- The number of the section that an address is in, if the address space is cut into sections of this
-- exponent.
abbrev pub section_number : (exponent address : ℕ) → ℕ
section_number exponent address = address / section_of exponent

-- IsNear holds if the address is in a section from the one below the base's to the second above the
-- top's. The address space wraps around: `address + laps * 2 ^ 64` is compared with the span
-- 2 ^ 64 further up, so that nothing is below zero.
pub record IsNear (span : Span) (exponent address : ℕ) : Type 0 where
  pub laps : ℕ
  pub from_below :
      section_number exponent (2 ^ 64 + span.base) ≤ section_number exponent (address + laps * 2 ^ 64) + 1
  pub to_above :
      section_number exponent (address + laps * 2 ^ 64) ≤ section_number exponent (2 ^ 64 + span.top) + 2
