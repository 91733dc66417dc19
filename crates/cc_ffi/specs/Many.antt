-- The batch functions, as C has them.
use Rattle.std.specs.Prelude.{ℕ, ◌≡◌, ◌⊎◌, ◌+◌, ◌-◌, ◌^◌, ◌<◌, ◌≤◌, List}
use Rattle.std.specs.List.{slice_index_or}
use Rattle.cc_bounds.specs.declared.span.Span.{Span}
use Rattle.cc_bounds.specs.Encoding.{StoresSpan}
use Rattle.cc_bounds.specs.Granule.{granule_of, padded_size}
use Rattle.cc_bounds.specs.Span.{from_zero, span_from}
use Rattle.cc_bounds.specs.Window.{Represents}
use Rattle.cc_ffi.specs.declared.structs.GrantedBounds.{GrantedBounds}
use Rattle.cc_ffi.specs.declared.structs.Halves.{Halves}
use Rattle.cc_ffi.specs.Numbers.{number_in}
use Rattle.cc_ffi.specs.Words.{OfFields}
use Rattle.cc_ffi.specs.Bounds.{IsNothing, IsRequestGranted, StoresNone}

-- The word at a position, or 0 past the end.
abbrev pub word_at : (words : List Halves) (i : ℕ) → ℕ
word_at words i = number_in (slice_index_or words i (record { high = 0; low = 0 }))

-- IsOneIf holds if the result is 1 and the fact holds, or it is 0 and the fact does not hold.
abbrev pub IsOneIf : (fact : Type 0) (answer : ℕ) → Type 0
IsOneIf fact answer = (fact × (answer ≡ 1)) ⊎ ((¬ fact) × (answer ≡ 0))

-- IsOneIfRepresentable holds if the result is 1 for a word that stores a sound span for which the
-- address is representable, and 0 for any other.
pub record IsOneIfRepresentable (word address answer : ℕ) : Type 0 where
  pub stored : OfFields word (λ fields. (span : Span) → StoresSpan fields span → IsOneIf (Represents span address) answer)
  pub none : OfFields word (λ fields. StoresNone fields → answer ≡ 0)

-- IsGrantedIfInRange holds if C's struct has what a request is granted, or nothing if the request
-- ends above 2^64.
pub record IsGrantedIfInRange (base length : ℕ) (told : GrantedBounds) : Type 0 where
  pub granted : base + length ≤ 2 ^ 64 → IsRequestGranted (span_from base length) told
  pub refused : (¬ base + length ≤ 2 ^ 64) → IsNothing told

-- IsRoundedLength holds if the result is the length rounded up to a multiple of its granule, or all
-- ones for a length above 2^64.
pub record IsRoundedLength (length rounded : ℕ) : Type 0 where
  pub padded : length ≤ 2 ^ 64 → rounded ≡ padded_size length
  pub too_long : 2 ^ 64 < length → rounded ≡ 2 ^ 128 - 1

-- IsAlignmentMask holds if the result is all ones except the bits below the granule of the length,
-- or 0 for a length above 2^64.
pub record IsAlignmentMask (length mask : ℕ) : Type 0 where
  pub aligned : length ≤ 2 ^ 64 → mask ≡ 2 ^ 64 - granule_of (from_zero length)
  pub too_long : 2 ^ 64 < length → mask ≡ 0
