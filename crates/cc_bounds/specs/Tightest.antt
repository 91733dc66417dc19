-- How close a granted span is to its request, and to the bounds that any word could store.
use Rattle.std.specs.Prelude.{ℕ, ◌≡◌, ◌+◌, ◌*◌, ◌<◌, ◌≤◌}
use Rattle.cc_word.specs.declared.fields.Fields.{Fields}
use Rattle.cc_bounds.specs.declared.span.Span.{Span}
use Rattle.cc_bounds.specs.Span.{length_of, IsWithin}
use Rattle.cc_bounds.specs.Granule.{IsGranule}
use Rattle.cc_bounds.specs.Window.{Represents}
use Rattle.cc_bounds.specs.Encoding.{HasBoundsFields}
use Rattle.cc_bounds.specs.Decoding.{DecodesTo}

-- `DecodesBack` holds if all fields with the bounds fields of the span, at an address that is
-- representable for it, decode to it.
abbrev pub DecodesBack : Span → Type 0
DecodesBack span =
    (fields : Fields) → HasBoundsFields span fields.ie fields.t fields.b → Represents span fields.address
    → DecodesTo fields span

-- `IsDecoded` holds if some word decodes to the span.
abbrev pub IsDecoded : Span → Type 0
IsDecoded span = (fields : Fields) × DecodesTo fields span

-- `IsTight` holds if the granted span covers the request, and exceeds it by less than a granule at
-- each end. A request of less than 4,096 bytes is granted as it is. Any other request is longer
-- than 511 granules.
pub record IsTight (request granted : Span) : Type 0 where
  pub granule : ℕ
  pub is_granule : IsGranule request granule
  pub covers : IsWithin request granted
  pub small : length_of request < 4096 → granted ≡ request
  pub near_base : request.base < granted.base + granule
  pub near_top : granted.top < request.top + granule
  pub short : 4096 ≤ length_of request → 511 * granule < length_of request

-- `IsTightest` holds if the granted span is within the span of every word whose bounds cover the
-- request.
abbrev pub IsTightest : Span → Span → Type 0
IsTightest request granted =
    (fields : Fields) (span : Span) → DecodesTo fields span → IsWithin request span → IsWithin granted span
