-- The lines that ltrace writes for calls of `malloc`, `calloc`, `realloc` and `free`.
use Rattle.std.specs.Prelude.{ℕ, Bool, ◌*◌, ◌^◌, ◌==◌, nat_lt, codes, List, [], ◌∷◌, length, if◌then◌else◌, Result, Ok, Err}
use Rattle.std.specs.List.{after_first, before_first, position_or_len}
use Rattle.std.specs.Str.{bytes_eq}
use Rattle.cc_word.specs.declared.refusal.Refusal.{Refusal}
use Rattle.cc_word.specs.declared.refusal.Refusal.TheVariants.{OutOfRange, Syntax}
use Rattle.cc_values.specs.Values.{address_in, both}
use Rattle.cc_replay.specs.declared.report.LineReport.{LineReport}
use Rattle.cc_replay.specs.declared.report.LineReport.TheVariants as report
use Rattle.cc_replay.specs.Reports.{allocation, clearing, free, reallocation, reported}

-- A pointer: a number below 2^64, or `nil`.
abbrev pub address_or_nil : (text : List ℕ) → Result ℕ Refusal
address_or_nil text = if bytes_eq text (codes "nil") then Ok 0 else address_in text

-- A pointer after a space.
abbrev pub spaced_address : (text : List ℕ) → Result ℕ Refusal
spaced_address [] = Err Syntax
spaced_address (space ∷ text) = if space == 32 then address_or_nil text else Err Syntax

-- A number after a space.
abbrev pub spaced_number : (text : List ℕ) → Result ℕ Refusal
spaced_number [] = Err Syntax
spaced_number (space ∷ text) = if space == 32 then address_in text else Err Syntax

-- The bytes after the first of this value, or all bytes if there is none.
abbrev pub after_or_all : (at : ℕ) → (text : List ℕ) → List ℕ
after_or_all at text =
    if nat_lt (position_or_len (λ byte. byte == at) text) (length text) then after_first (λ byte. byte == at) text else text

-- Whether a byte of this value is among the bytes.
abbrev pub has_byte : (at : ℕ) → (text : List ℕ) → Bool
has_byte at text = nat_lt (position_or_len (λ byte. byte == at) text) (length text)

-- The name of a function, in the bytes before its arguments: after `>` and after a space, if there are such.
abbrev pub ltrace_name : (head : List ℕ) → List ℕ
ltrace_name head = after_or_all 32 (after_or_all 62 head)

-- The arguments of a call: the bytes before the first `)`.
abbrev pub arguments_of : (call : List ℕ) → List ℕ
arguments_of call = before_first (λ byte. byte == 41) call

-- A pointer after the first `=` and a space.
abbrev pub assigned_in : (text : List ℕ) → Result ℕ Refusal
assigned_in text = spaced_address (after_first (λ byte. byte == 61) text)

-- The result of a call, a pointer: after the first `)`, the first `=` and a space.
abbrev pub result_in : (call : List ℕ) → Result ℕ Refusal
result_in call = assigned_in (after_first (λ byte. byte == 41) call)

-- The first argument: the bytes before the first comma.
abbrev pub first_of : (arguments : List ℕ) → List ℕ
first_of arguments = before_first (λ byte. byte == 44) arguments

-- The further arguments: the bytes after the first comma.
abbrev pub further_of : (arguments : List ℕ) → List ℕ
further_of arguments = after_first (λ byte. byte == 44) arguments

-- The product of two numbers, below 2^64.
abbrev pub product_of : Result (ℕ × ℕ) Refusal → Result ℕ Refusal
product_of (Ok numbers) = if nat_lt (numbers.0 * numbers.1) (2 ^ 64) then Ok (numbers.0 * numbers.1) else Err OutOfRange
product_of (Err refusal) = Err refusal

-- The product of `NUMBER, SIZE`.
abbrev pub product_in : (arguments : List ℕ) → Result ℕ Refusal
product_in arguments = product_of (both (address_in (first_of arguments)) (spaced_number (further_of arguments)))

-- The old pointer and the size of `OLD, SIZE`.
abbrev pub resized_in : (arguments : List ℕ) → Result (ℕ × ℕ) Refusal
resized_in arguments = both (address_or_nil (first_of arguments)) (spaced_number (further_of arguments))

-- The report of a call `malloc(SIZE) = PTR`.
abbrev pub malloc_in : (call : List ℕ) → Result LineReport Refusal
malloc_in call = reported (λ all. allocation all.1 all.0) (both (address_in (arguments_of call)) (result_in call))

-- The report of a call `calloc(NUMBER, SIZE) = PTR`.
abbrev pub calloc_in : (call : List ℕ) → Result LineReport Refusal
calloc_in call =
    reported (λ all. clearing all.1 all.0) (both (product_in (arguments_of call)) (result_in call))

-- The report of the old pointer and the size, and the new pointer.
abbrev pub reallocated : Result ((ℕ × ℕ) × ℕ) Refusal → Result LineReport Refusal
reallocated (Ok values) = Ok (reallocation values.0.0 values.1 values.0.1)
reallocated (Err refusal) = Err refusal

-- The report of a call `realloc(OLD, SIZE) = PTR`.
abbrev pub realloc_in : (call : List ℕ) → Result LineReport Refusal
realloc_in call = reallocated (both (resized_in (arguments_of call)) (result_in call))

-- The report of a call `free(PTR)`. A call without `)` is not one.
abbrev pub free_in : (call : List ℕ) → Result LineReport Refusal
free_in call = if has_byte 41 call then reported free (address_or_nil (arguments_of call)) else Err Syntax

-- The report of a function's name, and of what follows the first `(`. Other functions report nothing.
abbrev pub called_in : (name call : List ℕ) → Result LineReport Refusal
called_in name call =
    if bytes_eq name (codes "malloc") then malloc_in call
    else if bytes_eq name (codes "calloc") then calloc_in call
    else if bytes_eq name (codes "realloc") then realloc_in call
    else if bytes_eq name (codes "free") then free_in call
    else Ok report.Nothing

-- The report of a line, or its error. A line of more than 128 bytes is not one of the format.
unfoldable pub ltrace_in : (line : List ℕ) → Result LineReport Refusal
ltrace_in line =
    if nat_lt 128 (length line) then Err Syntax
    else called_in (ltrace_name (before_first (λ byte. byte == 40) line)) (after_first (λ byte. byte == 40) line)
