-- The lines of raw files of heaptrack.
use Rattle.std.specs.Prelude.{ℕ, Bool, not, ◌==◌, ◌||◌, ◌++◌, nat_lt, codes, List, [], ◌∷◌, length, if◌then◌else◌, Result, Ok, Err}
use Rattle.std.specs.List.{after_first, before_first}
use Rattle.cc_word.specs.declared.refusal.Refusal.{Refusal}
use Rattle.cc_word.specs.declared.refusal.Refusal.TheVariants.{Syntax}
use Rattle.cc_values.specs.Values.{address_in, both}
use Rattle.cc_replay.specs.declared.report.LineReport.{LineReport}
use Rattle.cc_replay.specs.declared.report.LineReport.TheVariants as report
use Rattle.cc_replay.specs.Reports.{allocation, free, reported}

-- A number below 2^64 in hexadecimal digits.
abbrev pub hexadecimal_in : (digits : List ℕ) → Result ℕ Refusal
hexadecimal_in digits = address_in (codes "0x" ++ digits)

-- The second of two values.
abbrev pub second_of : {A B : Type 0} → Result (A × B) Refusal → Result B Refusal
second_of (Ok values) = Ok values.1
second_of (Err refusal) = Err refusal

-- The bytes before the first space.
abbrev pub head_of : (text : List ℕ) → List ℕ
head_of text = before_first (λ byte. byte == 32) text

-- The bytes after the first space.
abbrev pub tail_of : (text : List ℕ) → List ℕ
tail_of text = after_first (λ byte. byte == 32) text

-- `TRACE PTR`: the pointer.
abbrev pub heaptrack_place : (values : List ℕ) → Result ℕ Refusal
heaptrack_place values = second_of (both (hexadecimal_in (head_of values)) (hexadecimal_in (tail_of values)))

-- `SIZE TRACE PTR`: the size and the pointer.
abbrev pub heaptrack_object : (values : List ℕ) → Result (ℕ × ℕ) Refusal
heaptrack_object values = both (hexadecimal_in (head_of values)) (heaptrack_place (tail_of values))

-- The report of the values after a sign: `+ SIZE TRACE PTR`, `- PTR`, or `c TIME`.
abbrev pub values_in : (sign : ℕ) → (values : List ℕ) → Result LineReport Refusal
values_in sign values =
    if sign == 43 then reported (λ object. allocation object.1 object.0) (heaptrack_object values)
    else if sign == 45 then reported free (hexadecimal_in values)
    else if sign == 99 then reported report.Clock (hexadecimal_in values)
    else Err Syntax

-- The report of a sign, a space and values.
abbrev pub told_in : (sign : ℕ) → (rest : List ℕ) → Result LineReport Refusal
told_in sign [] = Err Syntax
told_in sign (space ∷ values) = if space == 32 then values_in sign values else Err Syntax

-- Whether a line that begins with this byte reports something: `+`, `-` or `c`, or `a`, `i` or `s`, which
-- only an interpreted file has.
abbrev pub is_told : (sign : ℕ) → Bool
is_told sign = sign == 43 || sign == 45 || sign == 99 || sign == 97 || sign == 105 || sign == 115

-- The report of a line, or its error. A line that begins with another byte reports nothing. A line of more
-- than 128 bytes that reports something is not one of the format.
unfoldable pub heaptrack_in : (line : List ℕ) → Result LineReport Refusal
heaptrack_in [] = Ok report.Nothing
heaptrack_in (sign ∷ rest) =
    if not (is_told sign) then Ok report.Nothing
    else if nat_lt 128 (length (sign ∷ rest)) then Err Syntax
    else told_in sign rest
