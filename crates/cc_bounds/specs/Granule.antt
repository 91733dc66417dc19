-- The granule of a request, the span that the request is granted, and sound spans.
use Rattle.std.specs.Prelude.{ℕ, zero, suc, ◌≡◌, ◌+◌, ◌-◌, ◌*◌, ◌/◌, ◌^◌, ◌<◌, ◌≤◌, nat_le, nat_lt, if◌then◌else◌}
use Rattle.std.specs.Int.{div_ceil, IsPowerOfTwo}
use Rattle.cc_bounds.specs.declared.span.Span.{Span}
use Rattle.cc_bounds.specs.Span.{length_of, from_zero}

-- The number of granules of this size that the request touches.
abbrev pub granule_count : Span → ℕ → ℕ
granule_count request granule = div_ceil request.top granule - request.base / granule

-- `IsCoarseEnough` holds if `granule` is a power of two of at least 8, and the request touches at
-- most 1,023 granules of this size. Example: 16 is coarse enough for [0, 8185), and 8 is not.
pub record IsCoarseEnough (request : Span) (granule : ℕ) : Type 0 where
  pub power : IsPowerOfTwo granule
  pub from_eight : 8 ≤ granule
  pub few : granule_count request granule ≤ 1023

-- `IsGranule` holds if `granule` is the unit that stores the bounds of the request: 1 byte for less
-- than 4,096 bytes, otherwise the smallest unit that is coarse enough. Example: 16 for [0, 8185),
-- and 1 for [0, 4095).
pub record IsGranule (request : Span) (granule : ℕ) : Type 0 where
  pub small : length_of request < 4096 → granule ≡ 1
  pub large : 4096 ≤ length_of request → IsCoarseEnough request granule
  pub least : (other : ℕ) → 4096 ≤ length_of request → IsCoarseEnough request other → granule ≤ other

-- `IsExponent` holds if `exponent` is the exponent of the request: 0 for less than 4,096 bytes,
-- otherwise the one that makes its granule 2 ^ (exponent + 3). Example: 1 for [0, 8185), and 52 for
-- [0, 2^64).
pub record IsExponent (request : Span) (exponent : ℕ) : Type 0 where
  pub small : length_of request < 4096 → exponent ≡ 0
  pub large : 4096 ≤ length_of request → IsGranule request (2 ^ (exponent + 3))

-- The request with its base rounded down, and its top rounded up, to a multiple of the granule.
-- Example: [1, 4097) rounded to 8 is [0, 0x1008).
abbrev pub rounded_to : ℕ → Span → Span
rounded_to granule request = record {
  base = request.base / granule * granule;
  top = div_ceil request.top granule * granule;
}

-- `IsGranted` holds if `granted` is the span that the request is granted: the request rounded to its
-- granule.
pub record IsGranted (request granted : Span) : Type 0 where
  pub granule : ℕ
  pub is_granule : IsGranule request granule
  pub is_rounded : granted ≡ rounded_to granule request

-- `IsSound` holds if the span is sound: a request for it is exact, that is, granted unchanged. It
-- applies to spans of the address space (`IsSpan`).
abbrev pub IsSound : Span → Type 0
IsSound span = IsGranted span span

-- ---- Executable definitions, for definitions that use granules. By the law
-- `every_request_is_encoded_once`, each is the one number, or the one span, that satisfies its
-- definition above.

-- The first of `tries + 1` exponents, from `exponent` up, at which the request touches at most
-- 1,023 granules of 2 ^ (exponent + 3) bytes, or the last of them if there is none.
unfoldable pub first_exponent : (tries exponent : ℕ) → Span → ℕ
first_exponent zero exponent request = exponent
first_exponent (suc tries) exponent request =
    if nat_le (granule_count request (2 ^ (exponent + 3))) 1023 then exponent
    else first_exponent tries (suc exponent) request

-- The exponent of a request.
unfoldable pub exponent_of : Span → ℕ
exponent_of request = if nat_lt (length_of request) 4096 then 0 else first_exponent 52 0 request

-- The granule of a request. Example: of [0, 8185) it is 16.
unfoldable pub granule_of : Span → ℕ
granule_of request = if nat_lt (length_of request) 4096 then 1 else 2 ^ (exponent_of request + 3)

-- The granted span of a request.
abbrev pub granted_span : Span → Span
granted_span request = rounded_to (granule_of request) request

-- The padded size, or representable length: `size` rounded up to the granule of that many bytes from
-- address 0. Example: 8,185 bytes are padded to 8,192.
abbrev pub padded_size : ℕ → ℕ
padded_size size = div_ceil size (granule_of (from_zero size)) * granule_of (from_zero size)
