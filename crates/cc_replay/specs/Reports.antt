-- The report of a line of a trace, from its values.
use Rattle.std.specs.Prelude.{ℕ, not, ◌&&◌, ◌==◌, List, codes, if◌then◌else◌, Result, Ok, Err}
use Rattle.std.specs.List.{after_first, before_first}
use Rattle.std.specs.Str.{bytes_eq}
use Rattle.cc_word.specs.declared.refusal.Refusal.{Refusal}
use Rattle.cc_values.specs.Values.{address_in, both}
use Rattle.cc_replay.specs.declared.report.LineReport.{LineReport}
use Rattle.cc_replay.specs.declared.report.LineReport.TheVariants as report

-- A pointer: a number below 2^64, or `(nil)`.
abbrev pub pointer_in : (text : List ℕ) → Result ℕ Refusal
pointer_in text = if bytes_eq text (codes "(nil)") then Ok 0 else address_in text

-- `PTR SIZE`: the pointer is before the first space, and the size after it.
abbrev pub object_in : (values : List ℕ) → Result (ℕ × ℕ) Refusal
object_in values = both (pointer_in (before_first (λ byte. byte == 32) values)) (address_in (after_first (λ byte. byte == 32) values))

-- The report of an object that is made at a pointer: a failure if the pointer is 0.
abbrev pub allocation : (pointer size : ℕ) → LineReport
allocation pointer size = if pointer == 0 then report.Failure else report.Allocation pointer size

-- The report of an object that is made and cleared: a failure if the pointer is 0.
abbrev pub clearing : (pointer size : ℕ) → LineReport
clearing pointer size = if pointer == 0 then report.Failure else report.Clearing pointer size

-- The report of a free of a pointer: nothing if the pointer is 0.
abbrev pub free : (pointer : ℕ) → LineReport
free pointer = if pointer == 0 then report.Nothing else report.Free pointer

-- The report of `realloc`: the object `new` is made in place of `old`. If `old` is 0, an object is made. If `new`
-- is 0, a size of 0 frees `old`, if that is not 0, and otherwise no object could be made.
abbrev pub reallocation : (old new size : ℕ) → LineReport
reallocation old new size =
    if new == 0 then (if size == 0 && not (old == 0) then report.Free old else report.Failure)
    else if old == 0 then report.Allocation new size
    else report.Reallocation old new size

-- The report of the values, or their error.
abbrev pub reported : {A : Type 0} → (make : A → LineReport) → Result A Refusal → Result LineReport Refusal
reported make (Ok values) = Ok (make values)
reported make (Err refusal) = Err refusal
