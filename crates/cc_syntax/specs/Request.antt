-- A request for bounds, as its base and its length are typed.
use Rattle.std.specs.Prelude.{ℕ, ◌+◌, ◌^◌, List, nat_le, Result, Ok, Err, if◌then◌else◌}
use Rattle.cc_word.specs.declared.refusal.Refusal.{Refusal}
use Rattle.cc_word.specs.declared.refusal.Refusal.TheVariants.{OutOfBounds}
use Rattle.cc_bounds.specs.declared.span.Span.{Span}
use Rattle.cc_bounds.specs.Span.{span_from}
use Rattle.cc_syntax.specs.Planning.{pool_of}

-- The request for a base and a length, or `OutOfBounds` if it ends past 2^64. An earlier error
-- stays.
abbrev pub request_from : Result (ℕ × ℕ) Refusal → Result Span Refusal
request_from (Ok pair) = if nat_le (pair.0 + pair.1) (2 ^ 64) then Ok (span_from pair.0 pair.1) else Err OutOfBounds
request_from (Err refusal) = Err refusal

-- The request that two strings parse as, or the first of these errors: a string is not a number, a
-- number is too large, the request ends past 2^64.
abbrev pub request_in : (base size : List ℕ) → Result Span Refusal
request_in base size = request_from (pool_of base size)
