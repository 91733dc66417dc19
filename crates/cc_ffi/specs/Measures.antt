-- The granule of a word, and the bytes that rounding loses, as C has them.
use Rattle.std.specs.Prelude.{ℕ, ◌≡◌, ◌+◌, ◌^◌, true, false, if◌then◌else◌}
use Rattle.cc_word.specs.declared.fields.Fields.{Fields}
use Rattle.cc_bounds.specs.declared.span.Span.{Span}
use Rattle.cc_bounds.specs.Decoding.{stored_exponent}
use Rattle.cc_ffi.specs.declared.structs.Excess.{Excess}

-- The unit in which the bounds fields store the ends of bounds: 1 byte without IE, and with IE
-- 2^(exponent + 3) bytes, since the exponent is stored in the low three bits of T and B.
abbrev pub stored_granule : Fields → ℕ
stored_granule fields = if fields.ie then 2 ^ (stored_exponent fields + 3) else 1

-- IsExcess holds if the granted span begins as many bytes before the request, and ends as many after
-- it, as C's struct says.
pub record IsExcess (request granted : Span) (excess : Excess) : Type 0 where
  pub in_range : excess.in_range ≡ true
  pub before : granted.base + excess.before ≡ request.base
  pub after : request.top + excess.after ≡ granted.top

-- IsNoExcess holds if C's struct says that nothing is granted: `in_range` is false, and the numbers
-- are zero.
pub record IsNoExcess (excess : Excess) : Type 0 where
  pub in_range : excess.in_range ≡ false
  pub before : excess.before ≡ 0
  pub after : excess.after ≡ 0
