-- The event of every line of a trace, or its error.
use Rattle.std.specs.Prelude.{ℕ, ◌<◌, ◌^◌, ◌++◌, ◌==◌, List, [], ◌∷◌, length, codes, decimal, nat_lt, if◌then◌else◌, Option, Some, None, Result, Ok, Err}
use Rattle.std.specs.Int.{is_power_of_two}
use Rattle.std.specs.Str.{bytes_eq}
use Rattle.cc_word.specs.declared.refusal.Refusal.{Refusal}
use Rattle.cc_word.specs.declared.refusal.Refusal.TheVariants.{Syntax, OutOfRange}
use Rattle.cc_values.specs.Values.{address_in, both, words_of}
use Rattle.cc_heap.specs.declared.event.Event.{Event}
use Rattle.cc_heap.specs.declared.event.Event.TheVariants as event

-- The number as an alignment: a power of two, or otherwise `OutOfRange`.
abbrev pub as_alignment : Result ℕ Refusal → Result ℕ Refusal
as_alignment (Ok number) = if is_power_of_two number then Ok number else Err OutOfRange
as_alignment (Err refusal) = Err refusal

-- The alignment that a string parses as: a power of two, at most 2^63.
abbrev pub alignment_in : (text : List ℕ) → Result ℕ Refusal
alignment_in text = as_alignment (address_in text)

-- Two numbers below 2^64, or the error.
abbrev pub pair_in : (first second : List ℕ) → Result (ℕ × ℕ) Refusal
pair_in first second = both (address_in first) (address_in second)

-- The event of the values, or their error.
abbrev pub with_trace_values : {A : Type 0} → (make : A → Event) → Result A Refusal → Result Event Refusal
with_trace_values make (Ok values) = Ok (make values)
with_trace_values make (Err refusal) = Err refusal

-- The event of `a ID SIZE [ALIGN]`, from its values. An alignment that is omitted is 1.
abbrev pub allocation_in : (values : List (List ℕ)) → Result Event Refusal
allocation_in (id ∷ size ∷ []) = with_trace_values (λ pair. event.Allocate pair.0 pair.1 1) (pair_in id size)
allocation_in (id ∷ size ∷ align ∷ []) =
    with_trace_values (λ all. event.Allocate all.0.0 all.0.1 all.1) (both (pair_in id size) (alignment_in align))
allocation_in _ = Err Syntax

-- The event of `c ID SIZE`, from its values.
abbrev pub clearing_in : (values : List (List ℕ)) → Result Event Refusal
clearing_in (id ∷ size ∷ []) = with_trace_values (λ pair. event.Clear pair.0 pair.1) (pair_in id size)
clearing_in _ = Err Syntax

-- The event of `r OLD NEW SIZE`, from its values.
abbrev pub reallocation_in : (values : List (List ℕ)) → Result Event Refusal
reallocation_in (old ∷ new ∷ size ∷ []) =
    with_trace_values (λ all. event.Reallocate all.0.0 all.0.1 all.1) (both (pair_in old new) (address_in size))
reallocation_in _ = Err Syntax

-- The event of a name and one number below 2^64, from its values.
abbrev pub single_in : (make : ℕ → Event) → (values : List (List ℕ)) → Result Event Refusal
single_in make (number ∷ []) = with_trace_values make (address_in number)
single_in make _ = Err Syntax

-- The event of `s`, which has no values.
abbrev pub sweep_in : (values : List (List ℕ)) → Result Event Refusal
sweep_in [] = Ok event.Sweep
sweep_in (value ∷ values) = Err Syntax

-- The event of a line's words, or the error.
abbrev pub event_in : (words : List (List ℕ)) → Result Event Refusal
event_in [] = Err Syntax
event_in (name ∷ values) =
    if bytes_eq name (codes "a") then allocation_in values
    else if bytes_eq name (codes "c") then clearing_in values
    else if bytes_eq name (codes "r") then reallocation_in values
    else if bytes_eq name (codes "f") then single_in event.Free values
    else if bytes_eq name (codes "t") then single_in event.Clock values
    else if bytes_eq name (codes "s") then sweep_in values
    else Err Syntax

-- The entry of a line with this event, or its error.
abbrev pub as_entry : Result Event Refusal → Result (Option Event) Refusal
as_entry (Ok event) = Ok (Some event)
as_entry (Err refusal) = Err refusal

-- The event of a line, or its error, or `None` for an empty line and for a comment, which begins
-- with `#`. A line of more than 128 bytes that is not a comment is not an event.
unfoldable pub entry_of : (line : List ℕ) → Result (Option Event) Refusal
entry_of [] = Ok None
entry_of (first ∷ rest) =
    if first == 35 then Ok None
    else if nat_lt 128 (length (first ∷ rest)) then Err Syntax
    else as_entry (event_in (words_of (first ∷ rest)))

-- HasNumbersInRange holds if each number of the event is below 2^64.
abbrev pub HasNumbersInRange : Event → Type 0
HasNumbersInRange (event.Allocate id size align) = (id < 2 ^ 64) × (size < 2 ^ 64) × (align < 2 ^ 64)
HasNumbersInRange (event.Clear id size) = (id < 2 ^ 64) × (size < 2 ^ 64)
HasNumbersInRange (event.Reallocate old new size) = (old < 2 ^ 64) × (new < 2 ^ 64) × (size < 2 ^ 64)
HasNumbersInRange (event.Free id) = id < 2 ^ 64
HasNumbersInRange event.Sweep = Unit
HasNumbersInRange (event.Clock number) = number < 2 ^ 64

-- The line of an event, with its numbers in decimal.
abbrev pub event_text : Event → List ℕ
event_text (event.Allocate id size align) = codes "a " ++ decimal id ++ codes " " ++ decimal size ++ codes " " ++ decimal align
event_text (event.Clear id size) = codes "c " ++ decimal id ++ codes " " ++ decimal size
event_text (event.Reallocate old new size) = codes "r " ++ decimal old ++ codes " " ++ decimal new ++ codes " " ++ decimal size
event_text (event.Free id) = codes "f " ++ decimal id
event_text event.Sweep = codes "s"
event_text (event.Clock number) = codes "t " ++ decimal number
