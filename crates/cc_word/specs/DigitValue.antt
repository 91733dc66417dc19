-- The value of a byte as a hexadecimal digit. No public clause cites this file.
use Rattle.std.specs.Prelude.{ℕ, ◌≡◌, ◌<◌, true, false}
use Rattle.std.specs.Char.{digit_value}
use Rattle.hex.specs.Hex.{is_hex_digit}

-- `IsValue` holds if the byte is a hexadecimal digit with this value, or is not a digit and the
-- value is above 15.
pub record IsValue (byte value : ℕ) : Type 0 where
  pub digit : is_hex_digit byte ≡ true → value ≡ digit_value byte
  pub other : is_hex_digit byte ≡ false → 15 < value
