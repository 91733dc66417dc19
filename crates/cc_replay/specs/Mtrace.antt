-- The lines that `mtrace` of the GNU C library writes.
use Rattle.std.specs.Prelude.{ℕ, ◌≢◌, ◌==◌, nat_lt, codes, List, [], ◌∷◌, ◌++◌, length, if◌then◌else◌, Result, Ok, Err}
use Rattle.std.specs.List.{AllByRecursion, after_first}
use Rattle.cc_word.specs.WordText.{hexadecimal}
use Rattle.cc_word.specs.declared.refusal.Refusal.{Refusal}
use Rattle.cc_word.specs.declared.refusal.Refusal.TheVariants.{Syntax}
use Rattle.cc_replay.specs.declared.report.LineReport.{LineReport}
use Rattle.cc_replay.specs.declared.report.LineReport.TheVariants as report
use Rattle.cc_replay.specs.Reports.{allocation, free, object_in, pointer_in, reported}

-- The report of a sign and its values: `+ PTR SIZE`, `- PTR`, `< PTR`, `> PTR SIZE` or `! PTR SIZE`.
abbrev pub signed_in : (sign : ℕ) → (values : List ℕ) → Result LineReport Refusal
signed_in sign values =
    if sign == 43 then reported (λ object. allocation object.0 object.1) (object_in values)
    else if sign == 45 then reported free (pointer_in values)
    else if sign == 60 then reported report.From (pointer_in values)
    else if sign == 62 then reported (λ object. report.To object.0 object.1) (object_in values)
    else if sign == 33 then reported (λ object. report.Failure) (object_in values)
    else Err Syntax

-- An operation: a sign, a space and its values.
abbrev pub mtrace_operation : (text : List ℕ) → Result LineReport Refusal
mtrace_operation [] = Err Syntax
mtrace_operation (sign ∷ []) = Err Syntax
mtrace_operation (sign ∷ space ∷ values) = if space == 32 then signed_in sign values else Err Syntax

-- An operation after a space.
abbrev pub spaced_in : (text : List ℕ) → Result LineReport Refusal
spaced_in [] = Err Syntax
spaced_in (space ∷ text) = if space == 32 then mtrace_operation text else Err Syntax

-- The report of `CALLER OPERATION`: the caller ends with the first `]`.
abbrev pub after_caller : (text : List ℕ) → Result LineReport Refusal
after_caller text = spaced_in (after_first (λ byte. byte == 93) text)

-- The report of `CALLER OPERATION` after a space.
abbrev pub called_in : (text : List ℕ) → Result LineReport Refusal
called_in [] = Err Syntax
called_in (space ∷ text) = if space == 32 then after_caller text else Err Syntax

-- The report of a line, or its error: `OPERATION` or `@ CALLER OPERATION`.
-- An empty line, and one that begins with `=`, report nothing. A line of more than 128 bytes that does not
-- begin with `=` is not one of the format.
unfoldable pub mtrace_in : (line : List ℕ) → Result LineReport Refusal
mtrace_in [] = Ok report.Nothing
mtrace_in (first ∷ rest) =
    if first == 61 then Ok report.Nothing
    else if nat_lt 128 (length (first ∷ rest)) then Err Syntax
    else if first == 64 then called_in rest
    else mtrace_operation (first ∷ rest)

-- ---- The lines as `mtrace` writes them.

-- IsCaller holds if the caller has no `]`, with which it ends in a line.
abbrev pub IsCaller : (caller : List ℕ) → Type 0
IsCaller caller = AllByRecursion (λ byte. byte ≢ 93) caller

-- The line of an object that a caller makes, with numbers in hexadecimal.
abbrev pub allocation_line : (caller : List ℕ) → (pointer size : ℕ) → List ℕ
allocation_line caller pointer size =
    codes "@ " ++ (caller ++ (codes "] + " ++ (hexadecimal pointer ++ (codes " " ++ hexadecimal size))))

-- The line of an object that a caller frees.
abbrev pub free_line : (caller : List ℕ) → (pointer : ℕ) → List ℕ
free_line caller pointer = codes "@ " ++ (caller ++ (codes "] - " ++ hexadecimal pointer))
