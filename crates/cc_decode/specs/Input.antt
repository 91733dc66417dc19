-- The words of an input, and the bytes after the last of them.
use Rattle.std.specs.Prelude.{◌≡◌, ℕ, List, [], length}
use Rattle.std.specs.Int.{w128, from_be_bytes, from_le_bytes}
use Rattle.std.specs.Str.Parse.{digits_value}
use Rattle.cc_word.specs.WordText.{IsWordText}
use Rattle.cc_io.specs.Frames.{Frame, lines, blocks}
pub use Rattle.cc_io.specs.Lines.{digits_in}
use Rattle.cc_io.specs.declared.input_form.ByteOrder.{ByteOrder}
use Rattle.cc_io.specs.declared.input_form.ByteOrder.TheVariants.{Little, Big}
use Rattle.cc_io.specs.declared.input_form.InputForm.{InputForm}
use Rattle.cc_io.specs.declared.input_form.InputForm.TheVariants.{Lines, Bytes}

-- The way to cut an input into entries: lines, or blocks of sixteen bytes.
abbrev pub frame_of : InputForm → Frame
frame_of Lines = lines
frame_of (Bytes order) = blocks

-- The entries of an input.
abbrev pub input_entries : InputForm → List ℕ → List (List ℕ)
input_entries input text = (frame_of input).entries [] text

-- The bytes of an input after its last entry.
abbrev pub left_of : InputForm → List ℕ → List ℕ
left_of input text = (frame_of input).left [] text

-- IsWordEntry holds if the entry is a word: a line of 32 hexadecimal digits, with or without `0x`
-- before them, or any block of sixteen bytes.
abbrev pub IsWordEntry : InputForm → (entry : List ℕ) → Type 0
IsWordEntry Lines line = IsWordText (digits_in line)
IsWordEntry (Bytes order) block = length block ≡ 16

-- The number that sixteen bytes are in a byte order.
abbrev pub block_value : ByteOrder → (block : List ℕ) → ℕ
block_value Little block = from_le_bytes w128 block
block_value Big block = from_be_bytes w128 block

-- The word of an entry that is one.
abbrev pub word_of_entry : InputForm → (entry : List ℕ) → ℕ
word_of_entry Lines line = digits_value 16 (digits_in line)
word_of_entry (Bytes order) block = block_value order block
