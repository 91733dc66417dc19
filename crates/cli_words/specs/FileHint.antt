-- The hints on a file of words by its first bytes: an ELF64 file, as a core file is, that is decoded as raw words from its first byte
-- on, and lines that end in CR LF.
use Rattle.std.specs.Prelude.{ℕ, Bool, ◌==◌, ◌||◌, List, [], ◌∷◌, ◌++◌, Option, None, Some, codes, drop, if◌then◌else◌}
use Rattle.std.specs.Borrow.{Bor}
use Rattle.std.specs.List.{starts_with}
use Rattle.clap.specs.Words.{Text}
use Rattle.cc_io.specs.declared.input_form.InputForm.{InputForm}
use Rattle.cc_io.specs.declared.input_form.InputForm.TheVariants.{Bytes, Lines}
use Rattle.cli.specs.declared.input.InputName.{InputName}
use Rattle.cli.specs.declared.input.InputName.TheVariants.{File}

-- Whether a file that begins with these bytes is an ELF file of class 64.
abbrev pub is_elf : (start : List ℕ) → Bool
is_elf start = starts_with (λ one other. one == other) start (127 ∷ codes "ELF" ++ 2 ∷ [])

-- Whether these bytes are CR LF and any others.
abbrev pub is_cr_lf : List ℕ → Bool
is_cr_lf rest = starts_with (λ one other. one == other) rest (13 ∷ 10 ∷ [])

-- Whether CR LF comes after the first 32 bytes, or after 34, as the digits of a word have without and with `0x`.
abbrev pub ends_in_cr : (start : List ℕ) → Bool
ends_in_cr start = is_cr_lf (drop 32 start) || is_cr_lf (drop 34 start)

-- Whether there is a hint on a file that begins with these bytes.
abbrev pub is_file_hinted : InputForm → (start : List ℕ) → Bool
is_file_hinted (Bytes order) start = is_elf start
is_file_hinted Lines start = ends_in_cr start

-- The hint on a file that is decoded in this form.
abbrev pub hint_text : InputForm → List ℕ
hint_text (Bytes order) = codes "hint: this is an ELF file: --elf in place of --bytes lists the words of its segments, each with its address\n"
hint_text Lines = codes "hint: a line ends in CR: end lines in LF alone, as dos2unix does\n"

-- The hint, or nothing if there is none.
abbrev pub file_hint : InputForm → (start : List ℕ) → List ℕ
file_hint form start = if is_file_hinted form start then hint_text form else []

-- The file whose first bytes are decoded: a file of which no byte is skipped.
abbrev pub whole_file : (skip : Option ℕ) → InputName → Option (Bor Text)
whole_file None (File path) = Some path
whole_file _ _ = None
