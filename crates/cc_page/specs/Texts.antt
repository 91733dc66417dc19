-- Texts at the start of a caller's bytes.
use Rattle.std.specs.Prelude.{ℕ, ◌≡◌, ◌≤◌, ◌+◌, ◌*◌, ◌^◌, List, length, take}
use Rattle.cc_word.specs.Refusal.{code_of}
use Rattle.cc_word.specs.declared.refusal.Refusal.{Refusal}
use Rattle.cc_io.specs.CommandOutput.{IsRefusalLine}

-- The number of two halves.
abbrev pub number_from_halves : (high low : ℕ) → ℕ
number_from_halves high low = high * 2 ^ 64 + low

-- Holds holds if the first `count` bytes are a text that satisfies `IsText`.
pub record Holds (IsText : List ℕ → Type 0) (bytes : List ℕ) (count : ℕ) : Type 0 where
  pub fits : count ≤ length bytes
  pub is_text : IsText (take count bytes)

-- IsLineOfCode holds if a refusal with this code has this line.
pub record IsLineOfCode (code : ℕ) (line : List ℕ) : Type 0 where
  pub refusal : Refusal
  pub has_code : code_of refusal ≡ code
  pub is_line : IsRefusalLine refusal line
