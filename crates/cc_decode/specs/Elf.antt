-- The segments of an ELF64 file that are loaded, as a core file has them: the words of each, and their addresses.
use Rattle.std.specs.Prelude.{ℕ, zero, suc, Bool, ◌+◌, ◌-◌, ◌*◌, ◌/◌, ◌%◌, ◌^◌, ◌==◌, ◌&&◌, nat_lt, List, [], ◌∷◌, ◌++◌, codes, drop, length, take, Option, None, Some, if◌then◌else◌}
use Rattle.std.specs.Int.{Width, w16, w32, w64, from_be_bytes, from_le_bytes}
use Rattle.std.specs.List.{starts_with}
use Rattle.cc_io.specs.declared.input_form.ByteOrder.{ByteOrder}
use Rattle.cc_io.specs.declared.input_form.ByteOrder.TheVariants.{Little, Big}

-- The number of these bytes in a byte order.
abbrev pub number_of : Width → ByteOrder → (bytes : List ℕ) → ℕ
number_of width Little bytes = from_le_bytes width bytes
number_of width Big bytes = from_be_bytes width bytes

-- The number of 2 bytes at a place.
abbrev pub half_at : ByteOrder → (bytes : List ℕ) → (place : ℕ) → ℕ
half_at order bytes place = number_of w16 order (take 2 (drop place bytes))

-- The number of 4 bytes at a place.
abbrev pub word_at : ByteOrder → (bytes : List ℕ) → (place : ℕ) → ℕ
word_at order bytes place = number_of w32 order (take 4 (drop place bytes))

-- The number of 8 bytes at a place.
abbrev pub xword_at : ByteOrder → (bytes : List ℕ) → (place : ℕ) → ℕ
xword_at order bytes place = number_of w64 order (take 8 (drop place bytes))

-- Whether the file begins as one of class 64 with this number as `EI_DATA`.
abbrev pub begins_as : (number : ℕ) → (file : List ℕ) → Bool
begins_as number file = starts_with (λ one other. one == other) file (127 ∷ codes "ELF" ++ 2 ∷ number ∷ [])

-- The byte order that the first bytes of a file of class 64 name.
abbrev pub data_order : (file : List ℕ) → Option ByteOrder
data_order file = if begins_as 1 file then Some Little else if begins_as 2 file then Some Big else None

-- The order, if `e_phentsize` is 56, and `e_phnum` is below `PN_XNUM`.
abbrev pub with_table : (file : List ℕ) → Option ByteOrder → Option ByteOrder
with_table file None = None
with_table file (Some order) = if half_at order file 54 == 56 && nat_lt (half_at order file 56) 0xffff then Some order else None

-- The byte order of an ELF64 file with a table of segments. `None` for another file.
abbrev pub elf_order : (file : List ℕ) → Option ByteOrder
elf_order file = if nat_lt (length file) 64 then None else with_table file (data_order file)

-- The table of segments: the file from `e_phoff` on.
abbrev pub table_of : ByteOrder → (file : List ℕ) → List ℕ
table_of order file = drop (xword_at order file 32) file

-- Whether the file ends in its table.
abbrev pub is_table_cut : ByteOrder → (file : List ℕ) → Bool
is_table_cut order file = nat_lt (length (table_of order file)) (56 * half_at order file 56)

-- A loaded segment: the address of the first word, the bytes of the words that the file has, and whether the file ends in the
-- segment.
pub record LoadedSegment : Type 0 where
  pub address : ℕ
  pub words : List ℕ
  pub is_cut : Bool

-- The number of bytes before the first multiple of 16 from an address on.
abbrev pub bytes_before : (address : ℕ) → ℕ
bytes_before address = (16 - address % 16) % 16

-- The whole words at multiples of 16 in bytes at an address.
abbrev pub words_at : (address : ℕ) → (bytes : List ℕ) → List ℕ
words_at address bytes = let rest : List ℕ = drop (bytes_before address) bytes in take (length rest / 16 * 16) rest

-- The bytes of the segment that the file has: `p_filesz` bytes from `p_offset` on.
abbrev pub bytes_of : ByteOrder → (file entry : List ℕ) → List ℕ
bytes_of order file entry = take (xword_at order entry 32) (drop (xword_at order entry 8) file)

-- The loaded segment of an entry of the table, at `p_vaddr`.
abbrev pub segment_of : ByteOrder → (file entry : List ℕ) → LoadedSegment
segment_of order file entry = record {
  address = (xword_at order entry 16 + bytes_before (xword_at order entry 16)) % 2 ^ 64;
  words = words_at (xword_at order entry 16) (bytes_of order file entry);
  is_cut = nat_lt (length (bytes_of order file entry)) (xword_at order entry 32);
}

-- The loaded segments of the first entries of a table, as many as it has: those with the type `PT_LOAD`.
abbrev pub segments_in : ByteOrder → (file : List ℕ) → (count : ℕ) → (table : List ℕ) → List LoadedSegment
segments_in order file zero table = []
segments_in order file (suc count) table =
    if nat_lt (length table) 56 then []
    else if word_at order (take 56 table) 0 == 1 then segment_of order file (take 56 table) ∷ segments_in order file count (drop 56 table)
    else segments_in order file count (drop 56 table)

-- The loaded segments of the file.
abbrev pub segments_of : ByteOrder → (file : List ℕ) → List LoadedSegment
segments_of order file = segments_in order file (half_at order file 56) (table_of order file)
