-- Bounds, as C has them.
use Rattle.std.specs.Prelude.{ℕ, ◌≡◌, ◌↔◌, IsTrue, true, false}
use Rattle.cc_word.specs.declared.fields.Fields.{Fields}
use Rattle.cc_bounds.specs.declared.span.Span.{Span}
use Rattle.cc_bounds.specs.Granule.{IsExponent, IsGranted, IsSound}
use Rattle.cc_bounds.specs.Encoding.{Encoding, StoresSpan, ie_of, t_of, b_of}
use Rattle.cc_bounds.specs.Decoding.{stored_exponent, DecodesTo}
use Rattle.cc_bounds.specs.Tightest.{DecodesBack, IsTight, IsTightest}
use Rattle.cc_ffi.specs.declared.structs.Bounds.{Bounds}
use Rattle.cc_ffi.specs.declared.structs.GrantedBounds.{GrantedBounds}
use Rattle.cc_ffi.specs.Numbers.{number_of_halves}

-- The span of a base and a top in halves.
abbrev pub span_of : (base top_high top_low : ℕ) → Span
span_of base top_high top_low = record { base = base; top = number_of_halves top_high top_low }

-- AreDecoded holds if the bounds are those that a word with these fields decodes to, with its
-- exponent.
pub record AreDecoded (fields : Fields) (bounds : Bounds) : Type 0 where
  pub decodes : DecodesTo fields (span_of bounds.base bounds.top_high bounds.top_low)
  pub exponent : bounds.exponent ≡ stored_exponent fields

-- The granted span in C's struct.
abbrev pub granted_of : GrantedBounds → Span
granted_of set = span_of set.base set.top_high set.top_low

-- HasEncoding holds if C's struct has the encoding: its span, whether the request was exact, and the
-- fields that store it.
pub record HasEncoding (set : Encoding) (told : GrantedBounds) : Type 0 where
  pub in_range : told.in_range ≡ true
  pub granted : granted_of told ≡ set.granted
  pub exact : told.exact ≡ set.exact
  pub is_exponent : IsExponent set.granted told.exponent
  pub ie : told.ie ≡ ie_of set.granted
  pub t : told.t ≡ t_of set.granted
  pub b : told.b ≡ b_of set.granted

-- IsRequestGranted holds if C's struct has an encoding of the span that the request is granted,
-- which is the tightest that covers it.
pub record IsRequestGranted (request : Span) (told : GrantedBounds) : Type 0 where
  pub set : Encoding
  pub is_made : HasEncoding set told
  pub granted : IsGranted request set.granted
  pub exact : IsTrue set.exact ↔ IsSound request
  pub decodes : DecodesBack set.granted
  pub tight : IsTight request set.granted
  pub tightest : IsTightest request set.granted

-- IsNothing holds if nothing is granted: `in_range` is false, and every other field is zero or
-- false.
pub record IsNothing (set : GrantedBounds) : Type 0 where
  pub in_range : set.in_range ≡ false
  pub base : set.base ≡ 0
  pub top : number_of_halves set.top_high set.top_low ≡ 0
  pub t : set.t ≡ 0
  pub b : set.b ≡ 0
  pub exponent : set.exponent ≡ 0
  pub ie : set.ie ≡ false
  pub exact : set.exact ≡ false

-- StoresNone holds if the fields store no sound span.
abbrev pub StoresNone : Fields → Type 0
StoresNone fields = (span : Span) → ¬ StoresSpan fields span
