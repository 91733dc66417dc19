-- Numbers of 128 bits as two halves.
use Rattle.std.specs.Prelude.{ℕ, ◌+◌, ◌*◌, ◌^◌}
use Rattle.cc_ffi.specs.declared.structs.Halves.{Halves}

-- The number of two halves.
abbrev pub number_of_halves : (high low : ℕ) → ℕ
number_of_halves high low = high * 2 ^ 64 + low

-- The number of the halves in a struct.
abbrev pub number_in : Halves → ℕ
number_in halves = number_of_halves halves.high halves.low
