-- Encodings of bounds that need no rounding. No public clause cites this file.
use Rattle.std.specs.Prelude.{true}
use Rattle.cc_bounds.specs.declared.span.Span.{Span}
use Rattle.cc_bounds.specs.Encoding.{Encoding}

-- The encoding of a sound span, as for an exact request.
abbrev pub encoding_of : Span → Encoding
encoding_of span = record { granted = span; exact = true }
