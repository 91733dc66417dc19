-- Words in memory.
use Rattle.std.specs.Prelude.{ℕ, Bool, ◌≡◌, List, [], Result, if◌then◌else◌}
use Rattle.std.specs.Int.{w128, from_be_bytes, from_le_bytes}
use Rattle.std.specs.List.{slice_index_or}
use Rattle.cc_word.specs.declared.refusal.Refusal.{Refusal}
use Rattle.cc_ffi.specs.declared.structs.MadeWord.{MadeWord}
use Rattle.cc_ffi.specs.Numbers.{number_of_halves}
use Rattle.cc_ffi.specs.Rules.{GivesResult}

-- The word of 16 bytes of memory. Their first byte is the word's highest one in big-endian memory,
-- and its lowest one in little-endian memory.
abbrev pub word_of_bytes : (big_endian : Bool) (bytes : List ℕ) → ℕ
word_of_bytes big_endian bytes = if big_endian then from_be_bytes w128 bytes else from_le_bytes w128 bytes

-- The word of the 16 bytes at a position of memory.
abbrev pub word_in_memory : (big_endian : Bool) (memory : List (List ℕ)) (i : ℕ) → ℕ
word_in_memory big_endian memory i = word_of_bytes big_endian (slice_index_or memory i [])

-- GivesInMemory holds if the rule has a result, `bytes` are its word in memory, zero if there is
-- none, and `refusal` is its refusal's code, or 0 if there is none.
pub record GivesInMemory (rule : Result ℕ Refusal → Type 0) (big_endian : Bool) (bytes : List ℕ) (refusal : ℕ) : Type 0 where
  pub told : MadeWord
  pub gives : GivesResult rule told
  pub is_word : word_of_bytes big_endian bytes ≡ number_of_halves told.high told.low
  pub is_refusal : refusal ≡ told.refusal
