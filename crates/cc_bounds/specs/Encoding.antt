-- The fields that store the bounds of a sound span, and the value of a `Set`.
use Rattle.std.specs.Prelude.{ℕ, Bool, ◌≡◌, ◌+◌, ◌/◌, ◌%◌, ◌^◌, ◌<◌, ◌≤◌, ◌↔◌, IsTrue, nat_le}
use Rattle.cc_word.specs.declared.fields.Fields.{Fields}
use Rattle.cc_bounds.specs.declared.span.Span.{Span}
use Rattle.cc_bounds.specs.Span.{IsSpan, length_of}
use Rattle.cc_bounds.specs.Granule.{IsExponent, IsSound, exponent_of}
use Rattle.cc_bounds.specs.Window.{Represents}

-- The value of a `Set`: the granted span, and whether the request was exact.
pub record Encoding : Type 0 where
  pub granted : Span
  pub exact : Bool

-- `HasBoundsFields` holds if `ie`, `t` and `b` are the bounds fields of a sound span. T has the low
-- 12 bits of the top, and B the low 14 bits of the base, in units of 2 ^ exponent. IE is set for at
-- least 4,096 bytes: the low three bits of both are then zero, and hold the exponent's octal
-- digits, the high one in T. For a shorter span, the exponent is 0.
pub record HasBoundsFields (span : Span) (ie : Bool) (t b : ℕ) : Type 0 where
  pub exponent : ℕ
  pub is_exponent : IsExponent span exponent
  pub internal : IsTrue ie ↔ (4096 ≤ length_of span)
  pub is_t : t ≡ span.top / 2 ^ exponent % 2 ^ 12 + exponent / 8
  pub is_b : b ≡ span.base / 2 ^ exponent % 2 ^ 14 + exponent % 8

-- `StoresSpan` holds if the fields store the span: it is sound, they have its bounds fields, and
-- their address is representable for it. Example: the fields of `ffff0000000000010000000000000000`,
-- with exponent 53, store no span.
pub record StoresSpan (fields : Fields) (span : Span) : Type 0 where
  pub is_span : IsSpan span
  pub sound : IsSound span
  pub bounds_fields : HasBoundsFields span fields.ie fields.t fields.b
  pub representable : Represents span fields.address

-- ---- Executable definitions of the three fields. By the law `every_request_is_encoded_once`, just
-- these satisfy `HasBoundsFields`.

-- The IE bit of a span: whether it has at least 4,096 bytes.
abbrev pub ie_of : Span → Bool
ie_of span = nat_le 4096 (length_of span)

-- The T field of a span.
abbrev pub t_of : Span → ℕ
t_of span = span.top / 2 ^ exponent_of span % 2 ^ 12 + exponent_of span / 8

-- The B field of a span.
abbrev pub b_of : Span → ℕ
b_of span = span.base / 2 ^ exponent_of span % 2 ^ 14 + exponent_of span % 8

-- The low 64 bits of the top of a span, as a `Set` stores it.
unfoldable pub low_top_of : Span → ℕ
low_top_of span = span.top % 2 ^ 64

-- The other bits of the top, of which the lowest alone can be set.
unfoldable pub high_top_of : Span → ℕ
high_top_of span = span.top / 2 ^ 64

-- `IsEncoding` holds if a `Set` can store these values: a sound span, and the exponent and the
-- bounds fields that the span determines, each within its width. No public clause cites it.
pub record IsEncoding (span : Span) (e : ℕ) (ie : Bool) (t b : ℕ) : Type 0 where
  pub is_span : IsSpan span
  pub sound : IsSound span
  pub is_exponent : IsExponent span e
  pub is_e : e ≡ exponent_of span
  pub is_ie : ie ≡ ie_of span
  pub is_t : t ≡ t_of span
  pub is_b : b ≡ b_of span
  pub e_fits : e ≤ 52
  pub t_fits : t < 2 ^ 12
  pub b_fits : b < 2 ^ 14
