-- How the lines of a trace are taken, by a taker of their events.
use Rattle.std.specs.Prelude.{◌≡◌, ℕ, Bool, true, false, List, [], ◌++◌, Option, Some, None, Result, Ok, Err}
use Rattle.cc_word.specs.declared.refusal.Refusal.{Refusal}
use Rattle.cc_word.specs.declared.refusal.Refusal.TheVariants.{Unfinished}
use Rattle.cc_heap.specs.declared.event.Event.{Event}
use Rattle.cc_replay.specs.declared.formats.Entry.{Entry}
use Rattle.cc_io.specs.Answers.{Relation}
use Rattle.cc_replay.specs.declared.formats.TraceFormat.{TraceFormat}
use Rattle.cc_replay.specs.declared.reading.Progress.{Progress}
use Rattle.cc_replay.specs.declared.reading.Progress.TheVariants.{Running}
use Rattle.cc_replay.specs.Formats.{entry_in}

-- A taker of events: the format of its trace, the pointer of a pending first half of a reallocation, whether
-- it takes further lines, its state once it has noted a line of an entry, once it has noted trailing bytes, and
-- once it has refused these or a line, and what it may do at an event: the text that it writes, whether this is
-- an error, and its state after.
pub record Taker (S : Type 0) : Type 1 where
  pub format : S → TraceFormat
  pub pending : S → Option ℕ
  pub progress : S → Progress
  pub at_entry : Entry → S → S
  pub at_rest : S → S
  pub refused : Refusal → S → S
  pub takes_event : (old : S) (event : Event) (text : List ℕ) (is_error : Bool) (new : S) → Type 0

-- RefusesEntry holds if a line or trailing bytes are refused, which leads to the state `refused`, and nothing is
-- written.
pub record RefusesEntry {S : Type 0} (refused : S) (text : List ℕ) (is_error : Bool) (new : S) : Type 0 where
  pub is_new : new ≡ refused
  pub error_is : is_error ≡ true
  pub text_is : text ≡ []

-- Passes holds if nothing happens, and nothing is written.
abbrev pub Passes : {S : Type 0} → (old : S) (text : List ℕ) (is_error : Bool) (new : S) → Type 0
Passes {S} old text is_error new = (text ≡ []) × (is_error ≡ false) × (new ≡ old)

-- TakesEntry holds if the entry of a line is taken: an event, nothing, or a refusal.
abbrev pub TakesEntry : {S : Type 0} → Taker S → (old : S) → Result (Option Event) Refusal → (text : List ℕ) → (is_error : Bool) → (new : S) → Type 0
TakesEntry {S} taker old (Ok (Some event)) text is_error new = taker.takes_event old event text is_error new
TakesEntry {S} taker old (Ok None) text is_error new = Passes old text is_error new
TakesEntry {S} taker old (Err refusal) text is_error new = RefusesEntry (taker.refused refusal old) text is_error new

-- The entry of the next line, in the format of the trace.
abbrev pub next_entry : {S : Type 0} → Taker S → S → (line : List ℕ) → Entry
next_entry {S} taker state line = entry_in (taker.format state) (taker.pending state) line

-- TakesNext holds if a line is noted and taken.
abbrev pub TakesNext : {S : Type 0} → Taker S → (old : S) → (line text : List ℕ) → (is_error : Bool) → (new : S) → Type 0
TakesNext {S} taker old line text is_error new =
    TakesEntry taker (taker.at_entry (next_entry taker old line) old) (next_entry taker old line).event text is_error new

-- TakesLineIn holds if a line is noted and taken by a taker with this progress, unless no further line is taken.
abbrev pub TakesLineIn : {S : Type 0} → Taker S → Progress → (old : S) → (line text : List ℕ) → (is_error : Bool) → (new : S) → Type 0
TakesLineIn {S} taker Running old line text is_error new = TakesNext taker old line text is_error new
TakesLineIn {S} taker _ old line text is_error new = Passes old text is_error new

-- TakesRestIn holds if trailing bytes are noted and refused by a taker with this progress, unless no further line
-- is taken.
abbrev pub TakesRestIn : {S : Type 0} → Taker S → Progress → (old : S) → (rest text : List ℕ) → (is_error : Bool) → (new : S) → Type 0
TakesRestIn {S} taker Running old rest text is_error new = RefusesEntry (taker.refused Unfinished (taker.at_rest old)) text is_error new
TakesRestIn {S} taker _ old rest text is_error new = Passes old text is_error new

-- AppendsEvent holds if an event is taken, and its text is appended to the output.
pub record AppendsEvent {S : Type 0} (taker : Taker S) (old : S) (event : Event) (out out_now : List ℕ) (is_error : Bool) (new : S) : Type 0 where
  pub text : List ℕ
  pub out_is : out_now ≡ out ++ text
  pub takes : taker.takes_event old event text is_error new

-- AppendsEntry holds if a line of this entry is noted and taken, and its text is appended to the output.
pub record AppendsEntry {S : Type 0} (taker : Taker S) (old : S) (entry : Entry) (out out_now : List ℕ) (is_error : Bool) (new : S) : Type 0 where
  pub text : List ℕ
  pub out_is : out_now ≡ out ++ text
  pub takes : TakesEntry taker (taker.at_entry entry old) entry.event text is_error new

-- TakesUnwritten holds if a state takes an entry, and its text is not written.
abbrev pub TakesUnwritten : {S : Type 0} → (Takes : Relation S) → (old : S) → (entry : List ℕ) → (is_error : Bool) → (new : S) → Type 0
TakesUnwritten {S} Takes old entry is_error new = (text : List ℕ) × Takes old entry text is_error new
