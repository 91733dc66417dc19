-- The window of addresses at which a word's bounds decode to themselves.
use Rattle.std.specs.Prelude.{ℕ, ◌+◌, ◌-◌, ◌*◌, ◌/◌, ◌^◌, ◌<◌, ◌≤◌}
use Rattle.cc_bounds.specs.declared.span.Span.{Span}
use Rattle.cc_bounds.specs.Granule.{IsExponent}

-- The size of a section, an eighth of the window: 2^(exponent + 11) bytes.
abbrev pub section_of : ℕ → ℕ
section_of exponent = 2 ^ (exponent + 11)

-- The start of the window: one section below that of the base, plus 2 ^ 64, so that it is never
-- below zero.
abbrev pub window_start_of : (base exponent : ℕ) → ℕ
window_start_of base exponent =
    2 ^ 64 + base / section_of exponent * section_of exponent - section_of exponent

-- `IsRepresentable` holds if `address + laps * 2 ^ 64` is in the eight sections of the window for
-- some `laps`: the window wraps around the end of the address space.
pub record IsRepresentable (base exponent address : ℕ) : Type 0 where
  pub laps : ℕ
  pub from_start : window_start_of base exponent ≤ address + laps * 2 ^ 64
  pub below_end : address + laps * 2 ^ 64 < window_start_of base exponent + 8 * section_of exponent

-- `Represents` holds if the address is representable for the span: it is in the window that the span's exponent gives.
unfoldable pub Represents : Span → ℕ → Type 0
Represents span address = (exponent : ℕ) × IsExponent span exponent × IsRepresentable span.base exponent address
