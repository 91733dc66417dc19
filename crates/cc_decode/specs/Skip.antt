-- The first bytes of an input, which are read and dropped. No public clause cites this file.
use Rattle.std.specs.Prelude.{◌≡◌, ◌<◌, ◌↔◌, ℕ, true, List, length, Result, ◌⊎◌, ⊤, OnOk, OnErr, IsErr}
use Rattle.std.specs.Io.KnownBytes.{Consumes, IsAtEnd}
use Rattle.cc_io.specs.Devices.{InputState}

-- Skips holds if the source gave `count` bytes, or all that it had if these were fewer, or failed
-- after it gave fewer.
pub record Skips {E : Type 0} (count : ℕ) (input input_now : InputState) (result : Result ⊤ E) : Type 0 where
  pub text : List ℕ
  pub given : Consumes input.unread input_now.unread text
  pub ends : OnOk result ((length text ≡ count) ⊎ ((length text < count) × IsAtEnd input_now.unread))
  pub fewer : OnErr result (length text < count)
  pub fails : IsErr result ↔ (input_now.has_failed ≡ true)
